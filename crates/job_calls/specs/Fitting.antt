-- Which calls a lane may make: a function of entry 0 and of the entries of that lane alone. What a run may call is said
-- of its own calls and replies, so that it serves a journal and a machine alike.

use Rattle.std.specs.Prelude.{ℕ, Bool, true, false, ◌&&◌, ◌||◌, not, List, Option, Some, None, nat_lt, is_some, filter, map, fold}
use Rattle.std.specs.List.{list_any}
use Rattle.job_calls.specs.declared.call.Call.{Call}
use Rattle.job_calls.specs.declared.call.Call.TheVariants.{Open, Claim, Quit, Finish, Compile, Load, Run, Wait, Next, Peek, Drop, IsEmpty, Send, Status, ExitCode, Stop, Unload, Read, Write, PipeOpen, PipePut, PipeTake, PipeClose}
use Rattle.job_calls.specs.declared.call.Way.{Way}
use Rattle.job_calls.specs.declared.call.Way.TheVariants.{Reads, Writes}
use Rattle.job_calls.specs.declared.reply.Reply.{Reply}
use Rattle.job_calls.specs.declared.reply.Reply.TheVariants.{Claimed}
use Rattle.job_calls.specs.declared.entry.Entry.{Entry}
use Rattle.job_calls.specs.Entries.{is_run, is_quit, is_claim, is_finish, is_done, is_last}
use Rattle.job_calls.specs.Runs.{Opening}
use Rattle.job_calls.specs.Pipes.{opened_session, lets_go}

-- the run that a lane holds after one more entry of its own
abbrev pub held_after : Option ℕ → Call → Reply → Option ℕ
held_after held Claim (Claimed run source params) = Some run
held_after held (Open lanes budget params files) reply = held
held_after held Claim reply = held
held_after held Quit reply = held
held_after held (Finish end) reply = None
held_after held (Compile src dst) reply = held
held_after held (Load file) reply = held
held_after held (Run model params) reply = held
held_after held Wait reply = held
held_after held Next reply = held
held_after held Peek reply = held
held_after held Drop reply = held
held_after held IsEmpty reply = held
held_after held (Send to class value) reply = held
held_after held (Status model) reply = held
held_after held (ExitCode model) reply = held
held_after held (Stop model) reply = held
held_after held (Unload model) reply = held
held_after held (Read name) reply = held
held_after held (Write name bytes) reply = held
held_after held (PipeOpen name way) reply = held
held_after held (PipePut name bytes) reply = held
held_after held (PipeTake name) reply = held
held_after held (PipeClose name) reply = held

-- the live run that the lane of these entries holds
abbrev pub held_run : List Entry → Option ℕ
held_run own = fold (λ held e. held_after held e.call e.reply) None own

-- the lane was told that the job is done
abbrev pub was_done : List Entry → Bool
was_done own = list_any (λ e. is_done e.reply) own

-- the calls of run k among these entries, each with its reply
abbrev pub exchange_of : ℕ → List Entry → List (Call × Reply)
exchange_of k entries = map (λ e. (e.call, e.reply)) (filter (λ e. is_run k e.run) entries)

-- a run that was told so much holds this end of the pipe, after one more call
abbrev pub holds_after : Way → List ℕ → Bool → Call × Reply → Bool
holds_after way name held exchange =
    is_some (opened_session way name exchange.0 exchange.1) || (held && not (lets_go name exchange.0 exchange.1))

-- the run that called so and was told so holds this end of the pipe
abbrev pub holds : Way → List ℕ → List (Call × Reply) → Bool
holds way name exchanges = fold (holds_after way name) false exchanges

-- the run was told to stop, or met a fault of the hub: it may only finish
abbrev pub is_over : List (Call × Reply) → Bool
is_over exchanges = list_any (λ pair. is_last pair.1) exchanges

-- a run puts into the end to write that it holds, takes out of the end to read, and closes either
abbrev pub ends_fit : List (Call × Reply) → Call → Bool
ends_fit exchanges (Open lanes budget params files) = true
ends_fit exchanges Claim = true
ends_fit exchanges Quit = true
ends_fit exchanges (Finish end) = true
ends_fit exchanges (Compile src dst) = true
ends_fit exchanges (Load file) = true
ends_fit exchanges (Run model params) = true
ends_fit exchanges Wait = true
ends_fit exchanges Next = true
ends_fit exchanges Peek = true
ends_fit exchanges Drop = true
ends_fit exchanges IsEmpty = true
ends_fit exchanges (Send to class value) = true
ends_fit exchanges (Status model) = true
ends_fit exchanges (ExitCode model) = true
ends_fit exchanges (Stop model) = true
ends_fit exchanges (Unload model) = true
ends_fit exchanges (Read name) = true
ends_fit exchanges (Write name bytes) = true
ends_fit exchanges (PipeOpen name way) = true
ends_fit exchanges (PipePut name bytes) = holds Writes name exchanges
ends_fit exchanges (PipeTake name) = holds Reads name exchanges
ends_fit exchanges (PipeClose name) = holds Reads name exchanges || holds Writes name exchanges

-- the calls that a run which called so and was told so may make, beside `Finish`
abbrev pub may_call : List (Call × Reply) → Call → Bool
may_call exchanges call = not (is_over exchanges) && ends_fit exchanges call

-- the calls that a lane makes for itself
abbrev pub is_for_lane : Call → Bool
is_for_lane (Open lanes budget params files) = true
is_for_lane Claim = true
is_for_lane Quit = true
is_for_lane (Finish end) = false
is_for_lane (Compile src dst) = false
is_for_lane (Load file) = false
is_for_lane (Run model params) = false
is_for_lane Wait = false
is_for_lane Next = false
is_for_lane Peek = false
is_for_lane Drop = false
is_for_lane IsEmpty = false
is_for_lane (Send to class value) = false
is_for_lane (Status model) = false
is_for_lane (ExitCode model) = false
is_for_lane (Stop model) = false
is_for_lane (Unload model) = false
is_for_lane (Read name) = false
is_for_lane (Write name bytes) = false
is_for_lane (PipeOpen name way) = false
is_for_lane (PipePut name bytes) = false
is_for_lane (PipeTake name) = false
is_for_lane (PipeClose name) = false

-- a call of the run that the lane holds: its end, or another that the run may make
abbrev pub run_fits : List Entry → ℕ → Call → Bool
run_fits own run call =
    is_run run (held_run own) && (is_finish call || may_call (exchange_of run own) call)

-- a lane asks for a run when it holds none and was not told that the job is done
abbrev pub may_claim : List Entry → Bool
may_claim own = not (is_some (held_run own)) && not (was_done own)

-- a call that a lane makes for itself: it asks for a run, or ends the job before its time
abbrev pub lane_fits : List Entry → Call → Bool
lane_fits own call = is_quit call || (is_claim call && may_claim own)

-- a call of a lane for itself, or for the run that it holds
abbrev pub call_fits : List Entry → Option ℕ → Call → Bool
call_fits own None call = lane_fits own call
call_fits own (Some run) call = not (is_for_lane call) && run_fits own run call

-- the job has so many lanes
abbrev pub below_lanes : ℕ → Option Opening → Bool
below_lanes lane None = false
below_lanes lane (Some o) = nat_lt lane o.lanes

-- the lane may make the call
abbrev pub fits : Option Opening → List Entry → ℕ → Option ℕ → Call → Bool
fits opened own lane run call = below_lanes lane opened && call_fits own run call
