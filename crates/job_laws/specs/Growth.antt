-- Legal journals as they grow: they have few entries and files, each run has its source, and keeps it.

use Rattle.std.specs.Prelude.{◌≡◌, ◌≤◌, ◌<◌, ℕ, Bool, true, false, List, [], ◌∷◌, ◌++◌, count_by, length, nat_lt}
use Rattle.job_calls.specs.declared.entry.Entry.{Entry}
use Rattle.job_calls.specs.declared.reply.Reply.{Reply}
use Rattle.job_calls.specs.declared.reply.Reply.TheVariants.{Claimed}
use Rattle.job_calls.specs.Moments.{moments_from}
use Rattle.job_calls.specs.Entries.{is_claimed, run_count}
use Rattle.job_calls.specs.Runs.{source_of, params_of}
use Rattle.job_calls.specs.Files.{files_of}
use Rattle.job_calls.specs.Legal.{IsLegal, Follows}
use Rattle.job_laws.specs.Truth.{HasSource}

-- a legal journal never has 1,100,000 entries
abbrev pub FewEntries : Type 0
FewEntries = (journal : List Entry) → IsLegal journal → length journal < 1100000

-- and lists at most 128 files
abbrev pub FewFiles : Type 0
FewFiles = (journal : List Entry) → IsLegal journal → length (files_of journal) ≤ 128

-- an entry that follows makes a legal journal longer
abbrev pub Grows : Type 0
Grows = (journal : List Entry) (e : Entry) → IsLegal journal → Follows journal e → IsLegal (journal ++ e ∷ [])

-- the moments of entries behind others
abbrev pub MomentsGrow : Type 0
MomentsGrow =
    (before xs ys : List Entry)
    → moments_from before (xs ++ ys) ≡ moments_from before xs ++ moments_from (before ++ xs) ys

-- each run has a source and a parameter text
abbrev pub RunsHaveSources : Type 0
RunsHaveSources =
    (journal : List Entry) → IsLegal journal → (k : ℕ) → k < run_count journal
    → (source : ℕ) × (params : List ℕ) × HasSource journal k source params

-- and has the same in every longer journal
abbrev pub SourcesStay : Type 0
SourcesStay =
    (journal more : List Entry) → IsLegal journal → IsLegal (journal ++ more) → (k : ℕ) → k < run_count journal
    → (source_of k (journal ++ more) ≡ source_of k journal) × (params_of k (journal ++ more) ≡ params_of k journal)

-- a lane was given a run
abbrev pub is_given : Reply → Bool
is_given (Claimed run source params) = true
is_given _ = false

-- lanes are given the runs in order: those that were given are the first ones, and are runs that there are
abbrev pub GivenInOrder : Type 0
GivenInOrder =
    (journal : List Entry) → IsLegal journal
    → ((k : ℕ) → is_claimed k journal ≡ nat_lt k (count_by (λ e. is_given e.reply) journal))
    × (count_by (λ e. is_given e.reply) journal ≤ run_count journal)
