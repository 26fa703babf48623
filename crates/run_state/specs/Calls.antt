-- Calls of a run: what a call is answered, and which replies end the run.

use Rattle.std.specs.Prelude.{ℕ, Bool, true, false, List, [], ◌∷◌, ◌++◌, Option, Some, None, length, drop, nat_le, slice_get}
use Rattle.mos_text.specs.declared.fault_kind.FaultKind.TheVariants.{TooBig}
use Rattle.job_calls.specs.declared.call.Call.{Call}
use Rattle.job_calls.specs.declared.reply.Reply.{Reply}
use Rattle.job_calls.specs.declared.reply.Reply.TheVariants as reply
use Rattle.run_state.specs.Stops.{Stop, Failed, Stopped, Asking, Stuck}
use Rattle.run_state.specs.State.{World, Counts, Drawn, Draws, DrawStops}

-- what an instruction or a form asks of the hub
pub data Query : Type 0 where
  Once : Call → Query  -- this call
  UntilEnd : Call → Query  -- this call, which takes from a pipe, until it is answered the pipe's end

-- and what it is answered
pub data Answer : Type 0 where
  Replied : Reply → Answer
  Drained : (bytes : List ℕ) → Answer

-- the stop of a run that is answered so; another reply has a value
abbrev pub stop_by : Reply → Option Stop
stop_by reply.Halt = Some Stopped
stop_by (reply.Fault kind) = Some (Failed kind)
stop_by reply.Opened = None
stop_by (reply.Claimed run source params) = None
stop_by reply.Done = None
stop_by (reply.Code code) = None
stop_by (reply.Loaded model source) = None
stop_by (reply.Started run) = None
stop_by reply.Unit = None
stop_by (reply.Took place class value) = None
stop_by (reply.Seen place class value) = None
stop_by reply.Nothing = None
stop_by (reply.Flag flag) = None
stop_by (reply.Queued run) = None
stop_by reply.Lost = None
stop_by (reply.Number number) = None
stop_by (reply.Found place bytes) = None
stop_by (reply.Session place) = None
stop_by (reply.Bytes bytes) = None
stop_by reply.PipeEnd = None

-- a call that was answered
abbrev pub with_call : Call → Counts → Counts
with_call call counts = record counts { calls = counts.calls ++ call ∷ [] }

-- a reply that goes on, or the stop that it is
abbrev pub reply_or_stop : Option Stop → Reply → Counts → Drawn Reply
reply_or_stop None r counts = Draws r counts
reply_or_stop (Some stop) r counts = DrawStops stop counts

-- what a call comes to, with the reply that is found
abbrev pub drawn_reply : Option Reply → Call → Counts → Drawn Reply
drawn_reply None call counts = DrawStops (Asking call) counts
drawn_reply (Some r) call counts = reply_or_stop (stop_by r) r (with_call call counts)

-- the next reply is that behind as many as there were calls; where there is none the call is asked and
-- is not among those that were answered
abbrev pub ask : World → Call → Counts → Drawn Reply
ask w call counts = drawn_reply (slice_get w.replies (length counts.calls)) call counts

-- a reply as the answer of a query
abbrev pub as_answer : Drawn Reply → Drawn Answer
as_answer (Draws r counts) = Draws (Replied r) counts
as_answer (DrawStops stop counts) = DrawStops stop counts

-- what a reply brings of a pipe
pub data Piece : Type 0 where
  Part : (bytes : List ℕ) → Piece
  Last : Piece
  NoPiece : Piece

-- the bytes of a pipe, or its end
abbrev pub piece_in : Reply → Piece
piece_in (reply.Bytes bytes) = Part bytes
piece_in reply.PipeEnd = Last
piece_in reply.Opened = NoPiece
piece_in (reply.Claimed run source params) = NoPiece
piece_in reply.Done = NoPiece
piece_in (reply.Code code) = NoPiece
piece_in (reply.Loaded model source) = NoPiece
piece_in (reply.Started run) = NoPiece
piece_in reply.Unit = NoPiece
piece_in (reply.Took place class value) = NoPiece
piece_in (reply.Seen place class value) = NoPiece
piece_in reply.Nothing = NoPiece
piece_in (reply.Flag flag) = NoPiece
piece_in (reply.Queued run) = NoPiece
piece_in reply.Lost = NoPiece
piece_in (reply.Number number) = NoPiece
piece_in (reply.Found place bytes) = NoPiece
piece_in (reply.Session place) = NoPiece
piece_in reply.Halt = NoPiece
piece_in (reply.Fault kind) = NoPiece

-- more bytes, where there are at most 1,048,576 then
abbrev pub drawn_bytes : Bool → List ℕ → Counts → (List ℕ → Counts → Drawn Answer) → Drawn Answer
drawn_bytes true bytes counts go = go bytes counts
drawn_bytes false bytes counts go = DrawStops (Failed TooBig) counts

-- what a call that takes from a pipe comes to, and what is done with the bytes so far
abbrev pub drawn_piece : Option Stop → Piece → List ℕ → Counts → (List ℕ → Counts → Drawn Answer) → Drawn Answer
drawn_piece (Some stop) piece sofar counts go = DrawStops stop counts
drawn_piece None (Part bytes) sofar counts go = drawn_bytes (nat_le (length (sofar ++ bytes)) 1048576) (sofar ++ bytes) counts go
drawn_piece None Last sofar counts go = Draws (Drained sofar) counts
drawn_piece None NoPiece sofar counts go = DrawStops Stuck counts

-- with these replies left
abbrev pub drain : Call → List Reply → List ℕ → Counts → Drawn Answer
drain call [] sofar counts = DrawStops (Asking call) counts
drain call (r ∷ rs) sofar counts = drawn_piece (stop_by r) (piece_in r) sofar (with_call call counts) (drain call rs)

-- what a query comes to
abbrev pub inquire : World → Query → Counts → Drawn Answer
inquire w (Once call) counts = as_answer (ask w call counts)
inquire w (UntilEnd call) counts = drain call (drop (length counts.calls) w.replies) [] counts
