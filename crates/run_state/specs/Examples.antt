-- Computed examples of parameter texts, replies and ticks.

use Rattle.std.specs.Prelude.{◌≡◌, List, [], ◌∷◌, Some, None, pos, true, false, codes, map}
use Rattle.mos_text.specs.declared.fault_kind.FaultKind.TheVariants.{Busy}
use Rattle.mos_text.specs.declared.scalar.Scalar.TheVariants.{Int, Bool as Truth, Str}
use Rattle.job_calls.specs.declared.call.Call.TheVariants as call
use Rattle.job_calls.specs.declared.reply.Reply.TheVariants as reply
use Rattle.mos_value.specs.Values.{One}
use Rattle.run_state.specs.Stops.{Failed, Spent, Stopped, Asking}
use Rattle.run_state.specs.State.{Draws, DrawStops, tick}
use Rattle.run_state.specs.Calls.{ask, inquire, UntilEnd, Drained}
use Rattle.run_state.specs.HubFunctions.{isqueueempty, send, HasValue, NoValue, NoReply, result_of_reply}
use Rattle.run_state.specs.Parameters.{Parameter, given_values, refused_name}

-- an integer, a text and a truth
abbrev pub three : List Parameter
three =
    record { name = codes "N"; default = Int (pos 7) }
    ∷ record { name = codes "T"; default = Str (codes "none") }
    ∷ record { name = codes "B"; default = Truth false } ∷ []

-- the last value of a name counts; a text may hold a comma between quotes, and `=` without them
abbrev pub GivenValues : Type 0
GivenValues =
    map (given_values three) ([] ∷ codes " N = -3 , T='a,b',N=04" ∷ codes "T=x=y,B=true" ∷ codes "T=" ∷ [])
    ≡ Some (Int (pos 7) ∷ Str (codes "none") ∷ Truth false ∷ [])
    ∷ Some (Int (pos 4) ∷ Str (codes "a,b") ∷ Truth false ∷ [])
    ∷ Some (Int (pos 7) ∷ Str (codes "x=y") ∷ Truth true ∷ [])
    ∷ Some (Int (pos 7) ∷ Str [] ∷ Truth false ∷ []) ∷ []

-- blanks alone, no `=`, an unknown name, a value of another type, too large an integer, a quote that is not closed
abbrev pub RefusedTexts : Type 0
RefusedTexts =
    map (given_values three) (codes " " ∷ codes "N" ∷ codes "M=1" ∷ codes "B=1" ∷ codes "N=2147483648" ∷ codes "T='a" ∷ codes "N=1,N=x" ∷ [])
    ≡ None ∷ None ∷ None ∷ None ∷ None ∷ None ∷ None ∷ []

-- the first of them for which each is refused: the empty one where the item has no `=` or no value
abbrev pub RefusedNames : Type 0
RefusedNames =
    map (refused_name three) (codes " " ∷ codes "N=1,M=1,B=2" ∷ codes "T=x,B=1" ∷ codes "N=2147483648" ∷ codes "N=2,T='a" ∷ codes "N=2" ∷ [])
    ≡ Some [] ∷ Some (codes "M") ∷ Some (codes "B") ∷ Some (codes "N") ∷ Some [] ∷ None ∷ []

-- a call takes the reply behind those of the calls before it, a reply may end the run, and without one it is asked
abbrev pub Replies : Type 0
Replies =
    map (λ replies. ask (record { replies = replies; budget = 0 }) call.Wait (record { calls = call.IsEmpty ∷ []; ticks = 3 }))
    ((reply.Flag true ∷ reply.Unit ∷ []) ∷ (reply.Flag true ∷ reply.Halt ∷ []) ∷ (reply.Flag true ∷ reply.Fault Busy ∷ []) ∷ (reply.Flag true ∷ []) ∷ [])
    ≡ Draws reply.Unit (record { calls = call.IsEmpty ∷ call.Wait ∷ []; ticks = 3 })
    ∷ DrawStops Stopped (record { calls = call.IsEmpty ∷ call.Wait ∷ []; ticks = 3 })
    ∷ DrawStops (Failed Busy) (record { calls = call.IsEmpty ∷ call.Wait ∷ []; ticks = 3 })
    ∷ DrawStops (Asking call.Wait) (record { calls = call.IsEmpty ∷ []; ticks = 3 }) ∷ []

-- a function has the value of its reply, a procedure has none, and another reply is none to the call
abbrev pub HubResults : Type 0
HubResults =
    (map (result_of_reply isqueueempty call.IsEmpty) (reply.Flag true ∷ reply.Unit ∷ []) ≡ HasValue (One (Truth true)) ∷ NoReply ∷ [])
    × (map (result_of_reply send (call.Send None (pos 2) (pos 7))) (reply.Queued 0 ∷ reply.Lost ∷ reply.Flag true ∷ []) ≡ NoValue ∷ NoValue ∷ NoReply ∷ [])

-- a pipe is taken until its end; where it has not ended, the call is asked once more
abbrev pub Drains : Type 0
Drains =
    map (λ replies. inquire (record { replies = replies; budget = 0 }) (UntilEnd (call.PipeTake (codes "p"))) (record { calls = []; ticks = 0 }))
    ((reply.Bytes (1 ∷ 2 ∷ []) ∷ reply.Bytes (3 ∷ []) ∷ reply.PipeEnd ∷ []) ∷ (reply.Bytes (1 ∷ []) ∷ []) ∷ [])
    ≡ Draws (Drained (1 ∷ 2 ∷ 3 ∷ [])) (record { calls = call.PipeTake (codes "p") ∷ call.PipeTake (codes "p") ∷ call.PipeTake (codes "p") ∷ []; ticks = 0 })
    ∷ DrawStops (Asking (call.PipeTake (codes "p"))) (record { calls = call.PipeTake (codes "p") ∷ []; ticks = 0 }) ∷ []

-- the last tick of a budget, and one more
abbrev pub Ticks : Type 0
Ticks =
    map (λ taken. tick (record { replies = []; budget = 2 }) (record { calls = []; ticks = taken })) (1 ∷ 2 ∷ [])
    ≡ Draws tt (record { calls = []; ticks = 2 }) ∷ DrawStops Spent (record { calls = []; ticks = 2 }) ∷ []
