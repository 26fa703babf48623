-- What a hub says of a lane's calls under the lock, for itself or for the run that it holds.

use Rattle.std.specs.Prelude.{◌≡◌, ℕ, List, Option, Some, None, IsTrue}
use Rattle.job_calls.specs.declared.entry.Entry.{Entry}
use Rattle.job_calls.specs.Fitting.{fits}
use Rattle.job_calls.specs.Runs.{Opening, opening_of}
use Rattle.job_laws.specs.Truth.{SaysTrue}
use Rattle.hub_core.specs.declared.held.Acted.{Acted}
use Rattle.hub_core.specs.declared.held.Held.{Held}
use Rattle.hub_core.specs.declared.held.Held.TheVariants.{NotYet, Shut, NoMemory}
use Rattle.hub_core.specs.declared.story.HubCall.{HubCall}
use Rattle.hub_core.specs.declared.story.HubHeld.{HubHeld}
use Rattle.hub_core.specs.Hubs.{entry_of, IsAnswered, FitsRun, StopsRun, IsHeldBack}

-- the call is answered so, by the journal before it, and its reply fits and says what is true
pub record AnswersCall (journal : List Entry) (lane : ℕ) (call : HubCall) (entry : Entry) (acted : Acted)
    : Type 0 where
  pub entry_is : entry ≡ entry_of lane call.run call.call acted.reply
  pub answered : IsAnswered journal lane call.run call.call acted.reply
  pub fits_call : FitsRun call.call acted.reply
  pub says_true : SaysTrue journal call.run call.call acted.reply
  pub stops : StopsRun journal call.run call.call acted.reply

-- why the call was handed back
abbrev pub RefusesCall : List Entry → ℕ → HubCall → HubHeld → Type 0
RefusesCall journal lane call held =
    (held.run ≡ call.run) × IsHeldBack journal lane call.run call.call held.held

-- what the first entry opened
abbrev pub opened_by : Option Entry → Option Opening
opened_by None = None
opened_by (Some e) = opening_of e.call

-- the lane may make the call: by the first entry and the lane's own
abbrev pub AllowsCall : Option Entry → List Entry → ℕ → HubCall → Type 0
AllowsCall first own lane call = IsTrue (fits (opened_by first) own lane call.run call.call)

-- the refused call, where it may be made again
abbrev pub not_ready_of : Option ℕ → Held → Option HubCall
not_ready_of run (NotYet call) = Some record { run = run; call = call }
not_ready_of run (Shut call) = None
not_ready_of run (NoMemory call) = None

-- the refused call with its run, where it may be made again
abbrev pub not_ready : HubHeld → Option HubCall
not_ready held = not_ready_of held.run held.held
