-- Which journal an index of pipes stands for, and which entries it can take.

use Rattle.std.specs.Prelude.{◌≡◌, ◌≤◌, ◌<◌, ℕ, Bool, true, false, ◌&&◌, ◌++◌, List, Option, Some, None, IsSome, is_some, length, nat_lt, option_and_then, slice_index_or, if◌then◌else◌}
use Rattle.std.specs.List.{list_any}
use Rattle.std.specs.Option.{option_map_or}
use Rattle.job_calls.specs.declared.call.Call.{Call}
use Rattle.job_calls.specs.declared.call.Call.TheVariants.{Finish, Run as Begin}
use Rattle.job_calls.specs.declared.call.Way.{Way}
use Rattle.job_calls.specs.declared.call.Way.TheVariants.{Writes}
use Rattle.job_calls.specs.declared.reply.Reply.{Reply}
use Rattle.job_calls.specs.declared.reply.Reply.TheVariants.{Started}
use Rattle.job_calls.specs.declared.entry.Entry.{Entry}
use Rattle.job_calls.specs.Entries.{is_run, is_finish}
use Rattle.job_calls.specs.Models.{parent_of}
use Rattle.job_calls.specs.Blocks.{last_place}
use Rattle.job_calls.specs.Fitting as fitting
use Rattle.job_calls.specs.Fitting.{exchange_of}
use Rattle.job_calls.specs.Pipes as words
use Rattle.job_calls.specs.Pipes.{opened_session, is_session, put_in, taken_in, in_session, untaken_bytes}
use Rattle.mempipe.specs.declared.hold.Hold.{Hold}
use Rattle.mempipe.specs.declared.ends.Ends.{Ends}
use Rattle.mempipe.specs.declared.pipe.Pipe.{Pipe}
use Rattle.mempipe.specs.Bytes.{IsUntaken, IsHere}
use Rattle.mempipe.specs.States.{named_pipe, hold_of}
use Rattle.mempipe.specs.Pipes.{ends_at, untaken_at, CanTell}

-- the place at which each run last finished
abbrev pub last_finish : ℕ → List Entry → Option ℕ
last_finish k journal = last_place (λ e. is_run k e.run && is_finish e.call) journal

-- the run has finished since it opened the end
abbrev pub is_gone : (ℕ → Option ℕ) → Hold → Bool
is_gone finished hold = option_map_or (nat_lt hold.since) (finished hold.run) false

-- who holds an end, by who opened it and when each run finished
abbrev pub holder_by : (ℕ → Option ℕ) → Option Hold → Option ℕ
holder_by finished hold = option_and_then (λ (h : Hold). if is_gone finished h then None else Some h.run) hold

-- the ends of a pipe are those that the journal says
pub record AreEndsOf (ends : Ends) (name : List ℕ) (journal : List Entry) : Type 0 where
  pub holders : (way : Way) → holder_by (λ k. last_finish k journal) (hold_of way ends) ≡ words.holder way name journal
  pub since : (way : Way) (hold : Hold) → hold_of way ends ≡ Some hold → hold.since < length journal
  pub session : ends.session ≡ words.session name journal
  pub joined : ends.joined ≡ words.writers_session name journal
  pub had_writer : ends.had_writer ≡ words.had_writer name journal

-- what holds of a pipe in a legal journal: no session was joined before it began, at most 4,096 bytes are not taken, those
-- that were taken are the first ones that were put, and a run holds an end by what it was told where it does by the journal
pub record IsOrderly (name : List ℕ) (journal : List Entry) : Type 0 where
  pub later : (place : ℕ) → length journal ≤ place
      → list_any (λ e. is_session (Some place) (opened_session Writes name e.call e.reply)) journal ≡ false
  pub few : length (untaken_bytes name journal) ≤ 4096
  pub flows : put_in name (in_session name journal) ≡ taken_in name (in_session name journal) ++ untaken_bytes name journal
  pub holds : (way : Way) (run : ℕ) → fitting.holds way name (exchange_of run journal) ≡ is_run run (words.holder way name journal)

-- the index stands for the journal: it has counted its entries, knows when each run finished, and has the ends and the
-- untaken bytes of each pipe
pub record IsIndexOf (pipe : Pipe) (journal : List Entry) : Type 0 where
  pub count : pipe.count ≡ length journal
  pub finishes : (k : ℕ) → slice_index_or pipe.finishes.items k None ≡ last_finish k journal
  pub first : 0 < length pipe.finishes.items
  pub started : (k : ℕ) → IsSome (parent_of k journal) → k < length pipe.finishes.items
  pub ends : (name : List ℕ) → AreEndsOf (ends_at name pipe.pipes) name journal
  pub bytes : (name : List ℕ) → IsUntaken (untaken_at name pipe.pipes) (untaken_bytes name journal)
  pub here : (name : List ℕ) → is_some (ends_at name pipe.pipes).reader ≡ true → IsHere (untaken_at name pipe.pipes)
  pub orderly : (name : List ℕ) → IsOrderly name journal

-- the index stands for each journal that the old one stood for
abbrev pub StandsFor : Pipe → Pipe → Type 0
StandsFor old new = (journal : List Entry) → IsIndexOf old journal → IsIndexOf new journal

-- the run that an entry starts, or that finishes by it
abbrev pub run_told : Option ℕ → Call → Reply → Option ℕ
run_told (Some run) (Finish end) reply = Some run
run_told caller (Begin model params) (Started run) = Some run
run_told run call reply = None

-- the index can take the entry without memory
pub record CanTake (pipe : Pipe) (e : Entry) : Type 0 where
  pub runs : (k : ℕ) → run_told e.run e.call e.reply ≡ Some k → k < length pipe.finishes.items
  pub pipes : CanTell pipe.pipes e

-- the entry speaks of no pipe, and no run starts or finishes by it
abbrev pub IsQuiet : Entry → Type 0
IsQuiet e = (named_pipe e.call ≡ None) × (run_told e.run e.call e.reply ≡ None)
