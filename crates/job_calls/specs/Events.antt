-- Events: which run each goes to, and the queue of those that a run has not taken.

use Rattle.std.specs.Prelude.{ℕ, ℤ, pos, Bool, true, false, ◌&&◌, List, Option, Some, None, count_by, drop, filter, map, option_and_then, slice_get}
use Rattle.job_calls.specs.declared.call.Call.{Call}
use Rattle.job_calls.specs.declared.call.Call.TheVariants as call
use Rattle.job_calls.specs.declared.reply.Reply.{Reply}
use Rattle.job_calls.specs.declared.reply.Reply.TheVariants.{Queued, Took}
use Rattle.job_calls.specs.declared.entry.Entry.{Entry}
use Rattle.job_calls.specs.Moments.{Moment, moments, place_of}
use Rattle.job_calls.specs.Entries.{is_run}
use Rattle.job_calls.specs.Models.{parent_of, exit_code}

-- the run that a call makes an event for: the one that an event was sent to, or the one that started a run which
-- has ended
abbrev pub receiver_of : List Entry → Option ℕ → Call → Reply → Option ℕ
receiver_of before run (call.Send to class value) (Queued receiver) = Some receiver
receiver_of before (Some run) (call.Finish end) reply = parent_of run before
receiver_of before run (call.Open lanes budget params files) reply = None
receiver_of before run call.Claim reply = None
receiver_of before run call.Quit reply = None
receiver_of before run (call.Finish end) reply = None
receiver_of before run (call.Compile src dst) reply = None
receiver_of before run (call.Load file) reply = None
receiver_of before run (call.Run model params) reply = None
receiver_of before run call.Wait reply = None
receiver_of before run call.Next reply = None
receiver_of before run call.Peek reply = None
receiver_of before run call.Drop reply = None
receiver_of before run call.IsEmpty reply = None
receiver_of before run (call.Send to class value) reply = None
receiver_of before run (call.Status model) reply = None
receiver_of before run (call.ExitCode model) reply = None
receiver_of before run (call.Stop model) reply = None
receiver_of before run (call.Unload model) reply = None
receiver_of before run (call.Read name) reply = None
receiver_of before run (call.Write name bytes) reply = None
receiver_of before run (call.PipeOpen name way) reply = None
receiver_of before run (call.PipePut name bytes) reply = None
receiver_of before run (call.PipeTake name) reply = None
receiver_of before run (call.PipeClose name) reply = None

-- this entry makes an event for run r
abbrev pub comes_to : ℕ → Moment → Bool
comes_to r m = is_run r (receiver_of m.before m.entry.run m.entry.call m.entry.reply)

-- the places of the events that came to run r
abbrev pub arrivals : ℕ → List Entry → List ℕ
arrivals r journal = map place_of (filter (comes_to r) (moments journal))

-- an event was taken; only `Next` and `Drop` are answered so
abbrev pub is_took : Reply → Bool
is_took (Took place class value) = true
is_took _ = false

-- how many events run r took
abbrev pub taken_count : ℕ → List Entry → ℕ
taken_count r journal = count_by (λ e. is_run r e.run && is_took e.reply) journal

-- the places of the events that run r has not taken
abbrev pub queue : ℕ → List Entry → List ℕ
queue r journal = drop (taken_count r journal) (arrivals r journal)

-- the place of the first event that a run has not taken
abbrev pub first_event : ℕ → List Entry → Option ℕ
first_event run journal = slice_get (queue run journal) 0

-- an event at its place
pub record Event : Type 0 where
  pub place : ℕ
  pub class : ℤ
  pub value : ℤ

-- the event that a call makes at this place; the end of a run has class 1
abbrev pub event_of : ℕ → Call → Option Event
event_of place (call.Open lanes budget params files) = None
event_of place call.Claim = None
event_of place call.Quit = None
event_of place (call.Finish end) = Some record { place = place; class = pos 1; value = exit_code end }
event_of place (call.Compile src dst) = None
event_of place (call.Load file) = None
event_of place (call.Run model params) = None
event_of place call.Wait = None
event_of place call.Next = None
event_of place call.Peek = None
event_of place call.Drop = None
event_of place call.IsEmpty = None
event_of place (call.Send to class value) = Some record { place = place; class = class; value = value }
event_of place (call.Status model) = None
event_of place (call.ExitCode model) = None
event_of place (call.Stop model) = None
event_of place (call.Unload model) = None
event_of place (call.Read name) = None
event_of place (call.Write name bytes) = None
event_of place (call.PipeOpen name way) = None
event_of place (call.PipePut name bytes) = None
event_of place (call.PipeTake name) = None
event_of place (call.PipeClose name) = None

-- the event at this place
abbrev pub event_at : ℕ → List Entry → Option Event
event_at place journal = option_and_then (λ e. event_of place e.call) (slice_get journal place)

-- the first event that a run has not taken
abbrev pub front : ℕ → List Entry → Option Event
front run journal = option_and_then (λ place. event_at place journal) (first_event run journal)
