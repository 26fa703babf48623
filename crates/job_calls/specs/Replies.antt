-- When a reply fits a call: the call can be answered so by some journal, and the reply's numbers are
-- in the ranges of their types.

use Rattle.std.specs.Prelude.{◌<◌, ◌^◌, ◌&&◌, ◌||◌, not, nat_le, List, [], ◌∷◌, All, FitsSigned, Bool, true, false, IsTrue}
use Rattle.std.specs.Int.{w32}
use Rattle.mos_text.specs.FaultKinds.{fault_number}
use Rattle.job_calls.specs.declared.call.Call.{Call}
use Rattle.job_calls.specs.declared.call.Call.TheVariants as call
use Rattle.job_calls.specs.declared.reply.Reply.{Reply}
use Rattle.job_calls.specs.declared.reply.Reply.TheVariants.{Opened, Claimed, Done, Code, Loaded, Started, Took, Seen, Nothing, Flag, Queued, Lost, Number, Found, Session, Bytes, PipeEnd, Halt, Fault}
use Rattle.job_calls.specs.declared.reply.Reply.TheVariants as reply
use Rattle.job_calls.specs.Entries.{is_finish}
use Rattle.job_calls.specs.Fitting.{is_for_lane}

-- what the table of answers has for a call, whatever the journal
abbrev pub can_answer : Call → Reply → Bool
can_answer (call.Open lanes budget params files) Opened = true
can_answer call.Claim (Claimed run source params) = true
can_answer call.Claim Done = true
can_answer call.Quit reply.Unit = true
can_answer (call.Finish end) reply.Unit = true
can_answer (call.Compile src dst) (Code code) = true
can_answer (call.Load file) (Loaded model source) = true
can_answer (call.Run model params) (Started run) = true
can_answer call.Wait reply.Unit = true
can_answer call.Next (Took place class value) = true
can_answer call.Next Nothing = true
can_answer call.Drop (Took place class value) = true
can_answer call.Drop Nothing = true
can_answer call.Peek (Seen place class value) = true
can_answer call.Peek Nothing = true
can_answer call.IsEmpty (Flag flag) = true
can_answer (call.Send to class value) (Queued run) = true
can_answer (call.Send to class value) Lost = true
can_answer (call.Status model) (Number number) = true
can_answer (call.ExitCode model) (Number number) = true
can_answer (call.Stop model) reply.Unit = true
can_answer (call.Unload model) reply.Unit = true
can_answer (call.Read name) (Found place bytes) = true
can_answer (call.Write name bytes) reply.Unit = true
can_answer (call.PipeOpen name way) (Session place) = true
can_answer (call.PipePut name bytes) reply.Unit = true
can_answer (call.PipeTake name) (Bytes bytes) = true
can_answer (call.PipeTake name) PipeEnd = true
can_answer (call.PipeClose name) reply.Unit = true
can_answer call reply = false

-- a reply that ends the run: it was asked to stop, or met a fault that only the hub knows of
abbrev pub ends_run : Reply → Bool
ends_run Halt = true
ends_run (Fault kind) = nat_le 13 (fault_number kind)
ends_run reply = false

-- the calls of a run, other than `Finish`
abbrev pub may_end_run : Call → Bool
may_end_run call = not (is_for_lane call) && not (is_finish call)

-- the numbers and bytes of a reply are in the ranges of their types
abbrev pub InRange : Reply → Type 0
InRange Opened = Unit {0}
InRange (Claimed run source params) = (run < 2 ^ 32) × (source < 2 ^ 32)
InRange Done = Unit {0}
InRange (Code code) = code < 2 ^ 8
InRange (Loaded model source) = (model < 2 ^ 32) × (source < 2 ^ 32)
InRange (Started run) = run < 2 ^ 32
InRange reply.Unit = Unit {0}
InRange (Took place class value) = (place.0 < 2 ^ 32) × FitsSigned w32 class × FitsSigned w32 value
InRange (Seen place class value) = (place.0 < 2 ^ 32) × FitsSigned w32 class × FitsSigned w32 value
InRange Nothing = Unit {0}
InRange (Flag flag) = Unit {0}
InRange (Queued run) = run < 2 ^ 32
InRange Lost = Unit {0}
InRange (Number number) = FitsSigned w32 number
InRange (Found place bytes) = (place.0 < 2 ^ 32) × All (λ byte. byte < 2 ^ 8) bytes
InRange (Session place) = place.0 < 2 ^ 32
InRange (Bytes bytes) = All (λ byte. byte < 2 ^ 8) bytes
InRange PipeEnd = Unit {0}
InRange Halt = Unit {0}
InRange (Fault kind) = Unit {0}

-- a reply fits a call: the table has it, or it ends the run that called; and what it holds is in range
abbrev pub CanAnswer : Call → Reply → Type 0
CanAnswer call reply = IsTrue (can_answer call reply || (may_end_run call && ends_run reply)) × InRange reply

-- the reply has neither texts nor bytes
abbrev pub is_plain : Reply → Bool
is_plain Opened = true
is_plain (Claimed run source params) = false
is_plain Done = true
is_plain (Code code) = true
is_plain (Loaded model source) = true
is_plain (Started run) = true
is_plain reply.Unit = true
is_plain (Took place class value) = true
is_plain (Seen place class value) = true
is_plain Nothing = true
is_plain (Flag flag) = true
is_plain (Queued run) = true
is_plain Lost = true
is_plain (Number number) = true
is_plain (Found place bytes) = false
is_plain (Session place) = true
is_plain (Bytes bytes) = false
is_plain PipeEnd = true
is_plain Halt = true
is_plain (Fault kind) = true

-- each reply fits the call beside it, and there are as many
abbrev pub AllCanAnswer : List Call → List Reply → Type 0
AllCanAnswer [] [] = Unit {0}
AllCanAnswer (c ∷ cs) (r ∷ rs) = CanAnswer c r × AllCanAnswer cs rs
AllCanAnswer _ _ = ⊥
