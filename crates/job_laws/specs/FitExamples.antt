-- Worked examples of calls that may not be made, one for each condition.

use Rattle.std.specs.Prelude.{◌≡◌, ℕ, Bool, true, false, List, [], ◌∷◌, ◌++◌, Option, Some, None, pos, codes}
use Rattle.std.specs.List.{list_any}
use Rattle.mos_text.specs.declared.fault_kind.FaultKind.TheVariants.{NoLane}
use Rattle.job_calls.specs.declared.call.Call.{Call}
use Rattle.job_calls.specs.declared.call.Call.TheVariants.{Open, Claim, Quit, Finish, Run, Wait, Stop, PipePut, PipeTake, PipeClose}
use Rattle.job_calls.specs.declared.end.End.TheVariants as end
use Rattle.job_calls.specs.declared.entry.Entry.{Entry}
use Rattle.job_calls.specs.declared.reply.Reply.TheVariants.{Done, Started, Halt, Fault}
use Rattle.job_calls.specs.declared.reply.Reply.TheVariants as reply
use Rattle.job_calls.specs.Entries.{own_entries}
use Rattle.job_calls.specs.Runs.{opening}
use Rattle.job_calls.specs.Fitting.{fits}
use Rattle.job_laws.specs.HubExamples.{alone, by_run, child_is_loaded, child_runs, pipe_is_open}

-- the call may be made behind these entries
abbrev pub fits_behind : List Entry → ℕ → Option ℕ → Call → Bool
fits_behind journal lane run call = fits (opening journal) (own_entries lane journal) lane run call

-- none of these calls may be made, each by its lane and run
abbrev pub NoneFits : List Entry → List (ℕ × Option ℕ × Call) → Type 0
NoneFits journal calls = list_any (λ c. fits_behind journal c.0 c.1 c.2) calls ≡ false

-- a run ends with code 0
abbrev pub ends : Call
ends = Finish (end.Code (pos 0))

-- lanes that the job has not, a second job, runs that the lane does not hold, and calls for a lane or run that are not its
abbrev pub UnfitCalls : Type 0
UnfitCalls = NoneFits (child_runs 2) (
    (2, None, Claim)
    ∷ (2, Some 1, Wait)
    ∷ (0, None, Open 1 1 [] [])
    ∷ (0, None, Claim)
    ∷ (0, None, Wait)
    ∷ (0, Some 0, Claim)
    ∷ (0, Some 0, Quit)
    ∷ (0, Some 1, Wait)
    ∷ (1, Some 0, ends)
    ∷ (1, Some 2, ends)
    ∷ [])

-- a run that was started but not claimed calls nothing, and its lane only claims
abbrev pub UnclaimedRun : Type 0
UnclaimedRun = NoneFits (child_is_loaded 2 ++ by_run 0 0 (Run 1 []) (Started 1) ∷ []) ((1, Some 1, Wait) ∷ (0, Some 1, Wait) ∷ (1, None, Wait) ∷ [])

-- a run that has finished calls nothing
abbrev pub FinishedRun : Type 0
FinishedRun = NoneFits (child_runs 2 ++ by_run 1 1 ends reply.Unit ∷ []) ((1, Some 1, Wait) ∷ (1, Some 1, ends) ∷ [])

-- a lane that was told that the job is done claims no more
abbrev pub LaneIsDone : Type 0
LaneIsDone = NoneFits (
    child_runs 2
    ++ by_run 1 1 ends reply.Unit
    ∷ by_run 0 0 ends reply.Unit
    ∷ alone 1 Claim Done
    ∷ []) ((1, None, Claim) ∷ [])

-- a run that was told to stop
abbrev pub told_to_stop : List Entry
told_to_stop = child_runs 2 ++ by_run 0 0 (Stop 1) reply.Unit ∷ by_run 1 1 Wait Halt ∷ []

-- and so one that met a fault
abbrev pub met_a_fault : List Entry
met_a_fault = child_is_loaded 1 ++ by_run 0 0 (Run 1 []) (Fault NoLane) ∷ []

-- neither waits, and both may finish
abbrev pub OnlyFinishes : Type 0
OnlyFinishes =
    NoneFits told_to_stop ((1, Some 1, Wait) ∷ [])
    × NoneFits met_a_fault ((0, Some 0, Wait) ∷ [])
    × (fits_behind told_to_stop 1 (Some 1) ends ≡ true)
    × (fits_behind met_a_fault 0 (Some 0) ends ≡ true)

-- the reader puts nothing, the writer takes nothing, and nobody closes a pipe of which it holds no end
abbrev pub PipesOfOthers : Type 0
PipesOfOthers = NoneFits pipe_is_open (
    (1, Some 1, PipePut (codes "p") (codes "a"))
    ∷ (0, Some 0, PipeTake (codes "p"))
    ∷ (0, Some 0, PipePut (codes "q") (codes "a"))
    ∷ (1, Some 1, PipeTake (codes "q"))
    ∷ (0, Some 0, PipeClose (codes "q"))
    ∷ [])

-- an end that was closed is held no more
abbrev pub ClosedEnd : Type 0
ClosedEnd = NoneFits (pipe_is_open ++ by_run 0 0 (PipeClose (codes "p")) reply.Unit ∷ []) (
    (0, Some 0, PipePut (codes "p") (codes "a"))
    ∷ (0, Some 0, PipeClose (codes "p"))
    ∷ [])
