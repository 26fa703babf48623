-- What is kept for runs, so that each can be given to a lane and can end without memory.

use Rattle.std.specs.Prelude.{◌≡◌, ◌≤◌, ◌<◌, ◌+◌, ℕ, true, false, List, [], ◌∷◌, ◌++◌, Option, Some, None, length, slice_get, sum_by}
use Rattle.job_calls.specs.declared.entry.Entry.{Entry}
use Rattle.job_calls.specs.declared.call.Call.{Call}
use Rattle.job_calls.specs.declared.call.Call.TheVariants.{Claim, Run}
use Rattle.job_calls.specs.declared.reply.Reply.{Reply}
use Rattle.job_calls.specs.declared.reply.Reply.TheVariants.{Started}
use Rattle.job_calls.specs.Answers.{answer_of, give_run}
use Rattle.job_calls.specs.Entries.{is_started, run_count, is_claimed, unclaimed_run}
use Rattle.job_calls.specs.Runs.{source_of, params_of}
use Rattle.job_calls.specs.Models.{is_live}
use Rattle.job_calls.specs.Legal.{IsLegal}
use Rattle.hub_core.specs.declared.kept.Kept.{Kept}
use Rattle.hub_core.specs.declared.kept.Kept.TheVariants.{Unclaimed, Claimed, Ended}

-- the entries for which room is kept, for one run
abbrev pub room_for : Kept → ℕ
room_for (Unclaimed entry reply) = 2
room_for Claimed = 1
room_for Ended = 0

-- and for all
abbrev pub room_kept : List Kept → ℕ
room_kept runs = sum_by room_for runs

-- the room that a run wants which may start
abbrev pub wanted_for : Option Kept → ℕ
wanted_for None = 0
wanted_for (Some kept) = room_for kept

-- what is kept after a run may have started
abbrev pub kept_after : List Kept → Option Kept → List Kept
kept_after runs None = runs
kept_after runs (Some kept) = runs ++ kept ∷ []

-- for a run that no lane was given its parameter text is kept twice
abbrev pub HasTexts : List Kept → List Entry → ℕ → Type 0
HasTexts runs journal k = (p : List ℕ) × (slice_get runs k ≡ Some (Unclaimed p p)) × (params_of k journal ≡ Some p)

-- for the run there is room for an entry at least
abbrev pub HasRoom : List Kept → ℕ → Type 0
HasRoom runs k = (kept : Kept) × (slice_get runs k ≡ Some kept) × (1 ≤ room_for kept)

-- a run starts by this call and reply, and this is kept for it; or none starts
abbrev pub StartsWith : Call → Reply → Option Kept → Type 0
StartsWith call reply None = is_started reply ≡ false
StartsWith call reply (Some kept) =
    (model : ℕ) × (params : List ℕ) × (run : ℕ) × (call ≡ Run model params) × (reply ≡ Started run) × (kept ≡ Unclaimed params params)

-- no other call starts a run
abbrev pub OnlyRunsStart : Call → Reply → Type 0
OnlyRunsStart (Run model params) reply = Unit {0}
OnlyRunsStart call reply = is_started reply ≡ false

-- a claim of the lane gives it this run
pub record GivesRun (journal : List Entry) (lane k : ℕ) : Type 0 where
  pub unclaimed : unclaimed_run journal ≡ Some k
  pub answered : answer_of journal lane None Claim ≡ give_run k (source_of k journal) (params_of k journal)

-- all that is kept for the runs of the journal, beside the room for so many entries more
pub record KeepsRoom (journal : List Entry × ℕ) (runs : List Kept) (total spare : ℕ) : Type 0 where
  pub legal : IsLegal journal.0
  pub all : length runs ≡ run_count journal.0
  pub texts : (k : ℕ) → k < run_count journal.0 → is_claimed k journal.0 ≡ false → HasTexts runs journal.0 k
  pub ends : (k : ℕ) → is_live k journal.0 ≡ true → HasRoom runs k
  pub sum : total ≡ room_kept runs
  pub room : total + spare ≤ journal.1
