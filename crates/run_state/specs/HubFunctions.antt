-- Functions and procedures of the language that call the hub: which call each makes of its arguments,
-- and what a reply gives. The others join as rows.

use Rattle.std.specs.Prelude.{pos, Bool, true, false, List, [], ◌∷◌, Option, Some, None, if◌then◌else◌}
use Rattle.std.specs.Ordering.{is_lt, int_cmp}
use Rattle.mos_text.specs.declared.fault_kind.FaultKind.{FaultKind}
use Rattle.mos_text.specs.declared.fault_kind.FaultKind.TheVariants.{EventClass}
use Rattle.mos_text.specs.declared.scalar.Scalar.TheVariants.{Int, Bool as Truth, Model, Event}
use Rattle.job_calls.specs.declared.call.Call.{Call}
use Rattle.job_calls.specs.declared.call.Call.TheVariants as call
use Rattle.job_calls.specs.declared.reply.Reply.{Reply}
use Rattle.job_calls.specs.declared.reply.Reply.TheVariants as reply
use Rattle.job_calls.specs.Replies.{can_answer}
use Rattle.mos_value.specs.Values.{Value, One}

-- by its name
pub data HubFunction : Type 0 where
  isqueueempty : HubFunction
  getstatus : HubFunction  -- of a model
  send : HubFunction  -- to the run that started this one

-- the call that it makes, the fault of arguments that are refused before any call, or neither
pub data Calling : Type 0 where
  Makes : (call : Call) → Calling
  Refuses : (kind : FaultKind) → Calling
  Unfit : Calling

-- the call of each function
abbrev pub call_of : HubFunction → List Value → Calling
call_of isqueueempty [] = Makes call.IsEmpty
call_of isqueueempty _ = Unfit
call_of getstatus (One (Model model) ∷ []) = Makes (call.Status model)
call_of getstatus _ = Unfit
call_of send (One (Int class) ∷ One (Int value) ∷ []) =
    if is_lt (int_cmp class (pos 2)) then Refuses EventClass else Makes (call.Send None class value)
call_of send _ = Unfit

-- whether it is a function, which has a value, or a procedure
abbrev pub has_value : HubFunction → Bool
has_value isqueueempty = true
has_value getstatus = true
has_value send = false

-- What a reply gives.

-- the value that a reply brings, where it brings one
abbrev pub value_in_reply : Reply → Option Value
value_in_reply (reply.Code code) = Some (One (Int (pos code)))
value_in_reply (reply.Loaded model source) = Some (One (Model model))
value_in_reply (reply.Took place class value) = Some (One (Event class value))
value_in_reply (reply.Seen place class value) = Some (One (Event class value))
value_in_reply reply.Nothing = Some (One (Event (pos 0) (pos 0)))
value_in_reply (reply.Flag flag) = Some (One (Truth flag))
value_in_reply (reply.Number number) = Some (One (Int number))
value_in_reply reply.Opened = None
value_in_reply (reply.Claimed run source params) = None
value_in_reply reply.Done = None
value_in_reply (reply.Started run) = None
value_in_reply reply.Unit = None
value_in_reply (reply.Queued run) = None
value_in_reply reply.Lost = None
value_in_reply (reply.Found place bytes) = None
value_in_reply (reply.Session place) = None
value_in_reply (reply.Bytes bytes) = None
value_in_reply reply.PipeEnd = None
value_in_reply reply.Halt = None
value_in_reply (reply.Fault kind) = None

-- what a reply gives: a function has a value, a procedure has none, and a reply may be none to the call
pub data HubResult : Type 0 where
  HasValue : (value : Value) → HubResult
  NoValue : HubResult
  NoReply : HubResult

-- the value that a function needs
abbrev pub value_or_none : Option Value → HubResult
value_or_none None = NoReply
value_or_none (Some value) = HasValue value

-- of a reply that can answer the call
abbrev pub result_by : (is_function : Bool) → Reply → HubResult
result_by true r = value_or_none (value_in_reply r)
result_by false r = NoValue

-- of any reply
abbrev pub result_of_reply : HubFunction → Call → Reply → HubResult
result_of_reply function call r = if can_answer call r then result_by (has_value function) r else NoReply
