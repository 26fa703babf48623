-- Order in a legal journal: events are taken as they came, bytes leave a pipe as they were put, and a run that is
-- asked to stop calls nothing more.

use Rattle.std.specs.Prelude.{◌≡◌, ◌≢◌, ℕ, Bool, true, false, ◌&&◌, List, [], ◌∷◌, ◌++◌, Some, ◌⊎◌, filter, map}
use Rattle.std.specs.List.{list_any}
use Rattle.std.specs.Str.{bytes_eq}
use Rattle.job_calls.specs.declared.call.Call.{Call}
use Rattle.job_calls.specs.declared.call.Call.TheVariants.{PipeTake}
use Rattle.job_calls.specs.declared.call.Way.TheVariants.{Reads}
use Rattle.job_calls.specs.declared.reply.Reply.{Reply}
use Rattle.job_calls.specs.declared.reply.Reply.TheVariants.{Took, PipeEnd, Halt}
use Rattle.job_calls.specs.declared.entry.Entry.{Entry}
use Rattle.job_calls.specs.Entries.{is_run, is_finish}
use Rattle.job_calls.specs.Models.{is_asked}
use Rattle.job_calls.specs.Events.{arrivals, is_took}
use Rattle.job_calls.specs.Pipes.{opens, put_in, taken_in}
use Rattle.job_calls.specs.Legal.{IsLegal}

-- the place of the event that an entry took
abbrev pub place_taken : Reply → ℕ
place_taken (Took place class value) = place.0
place_taken _ = 0

-- the places of the events that run r took, in order
abbrev pub places_taken : ℕ → List Entry → List ℕ
places_taken r journal =
    map (λ e. place_taken e.reply) (filter (λ e. is_run r e.run && is_took e.reply) journal)

-- a run takes its events in the order in which they came, and skips none
abbrev pub TakesInOrder : List Entry → Type 0
TakesInOrder journal = (r : ℕ) → (rest : List ℕ) × (arrivals r journal ≡ places_taken r journal ++ rest)

-- no event is taken twice
abbrev pub TakesOnce : List Entry → Type 0
TakesOnce journal =
    (before between after : List Entry) (e f : Entry) → journal ≡ before ++ e ∷ between ++ f ∷ after
    → is_took e.reply ≡ true → is_took f.reply ≡ true → place_taken e.reply ≢ place_taken f.reply

-- entries of one session of the pipe: they stand behind an opening to read, with no other such opening among them; the
-- whole session is the longest such part
pub record IsSession (journal : List Entry) (name : List ℕ) (part : List Entry) : Type 0 where
  pub before : List Entry
  pub opening : Entry
  pub after : List Entry
  pub cut : journal ≡ (before ++ opening ∷ part) ++ after
  pub begins : opens Reads name opening ≡ true
  pub goes_on : list_any (opens Reads name) part ≡ false

-- what was taken out of a pipe in a session is a beginning of what was put into it in that session
abbrev pub PipesInOrder : List Entry → Type 0
PipesInOrder journal =
    (name : List ℕ) (part : List Entry) → IsSession journal name part
    → (rest : List ℕ) × (put_in name part ≡ taken_in name part ++ rest)

-- a take out of the pipe was answered with its end
abbrev pub is_pipe_end : List ℕ → Call → Reply → Bool
is_pipe_end name (PipeTake taken) PipeEnd = bytes_eq taken name
is_pipe_end name call reply = false

-- where the end of a pipe was told, all was taken that was ever put into the session, before that or later
abbrev pub PipesWhole : List Entry → Type 0
PipesWhole journal =
    (name : List ℕ) (part : List Entry) → IsSession journal name part
    → list_any (λ e. is_pipe_end name e.call e.reply) part ≡ true → put_in name part ≡ taken_in name part

-- a run that was asked to stop is told so at its next call, and only finishes
abbrev pub StopsWhenAsked : List Entry → Type 0
StopsWhenAsked journal =
    (before after : List Entry) (e : Entry) (k : ℕ) → journal ≡ before ++ e ∷ after → e.run ≡ Some k
    → is_asked k before ≡ true → (e.reply ≡ Halt) ⊎ (is_finish e.call ≡ true)

-- a run that is to stop is to stop for good
abbrev pub StaysAsked : Type 0
StaysAsked =
    (journal more : List Entry) (k : ℕ) → is_asked k journal ≡ true → is_asked k (journal ++ more) ≡ true

-- after an entry by which a run was asked to stop, its next entry is answered `Halt` or is its `Finish`
abbrev pub AskedStops : Type 0
AskedStops =
    (before between after : List Entry) (ask e : Entry) (k : ℕ) → IsLegal (before ++ ask ∷ between ++ e ∷ after)
    → is_asked k (before ++ ask ∷ []) ≡ true → e.run ≡ Some k → (e.reply ≡ Halt) ⊎ (is_finish e.call ≡ true)
