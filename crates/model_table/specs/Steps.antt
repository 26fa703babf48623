-- What a step changes of models and of runs.

use Rattle.std.specs.Prelude.{◌≡◌, ℕ, Bool, true, false, ◌||◌, List, Option, Some, None, nat_eq, length, slice_index_or, unwrap_or, if◌then◌else◌}
use Rattle.job_calls.specs.declared.end.End.{End}
use Rattle.job_calls.specs.Entries.{is_run}
use Rattle.job_calls.specs.Runs.{last_of}
use Rattle.model_table.specs.declared.lane.Lane.{Lane}
use Rattle.model_table.specs.declared.model.Model.{Model}
use Rattle.model_table.specs.declared.run.Run.{Run}
use Rattle.model_table.specs.Tables.{unknown_model, unknown_run, unknown_lane}

-- the model of this number
abbrev pub model_of : List Model → ℕ → Model
model_of models m = slice_index_or models m unknown_model

-- the run of this number
abbrev pub run_of : List Run → ℕ → Run
run_of runs k = slice_index_or runs k unknown_run

-- the model was loaded from this source
pub record IsLoaded (old new : List Model) (model source : ℕ) : Type 0 where
  pub source_is : (m : ℕ) → (model_of new m).source ≡ (if nat_eq model m then Some source else (model_of old m).source)
  pub loaded : (m : ℕ) → (model_of new m).loaded ≡ (if nat_eq model m then true else (model_of old m).loaded)
  pub current : (m : ℕ) → (model_of new m).current ≡ (model_of old m).current

-- the model was unloaded
pub record IsUnloaded (old new : List Model) (model : ℕ) : Type 0 where
  pub source : (m : ℕ) → (model_of new m).source ≡ (model_of old m).source
  pub loaded : (m : ℕ) → (model_of new m).loaded ≡ (if nat_eq model m then false else (model_of old m).loaded)
  pub current : (m : ℕ) → (model_of new m).current ≡ (model_of old m).current

-- the run is the current one of the model
pub record IsCurrent (old new : List Model) (model run : ℕ) : Type 0 where
  pub source : (m : ℕ) → (model_of new m).source ≡ (model_of old m).source
  pub loaded : (m : ℕ) → (model_of new m).loaded ≡ (model_of old m).loaded
  pub current : (m : ℕ) → (model_of new m).current ≡ (if nat_eq model m then Some run else (model_of old m).current)

-- how run k has ended, by what was told
abbrev pub end_in : Option (ℕ × End) → ℕ → Option End
end_in None k = None
end_in (Some told) k = if nat_eq told.0 k then Some told.1 else None

-- run k was started, by what was told
abbrev pub is_started_in : Option (ℕ × Option ℕ) → ℕ → Bool
is_started_in None k = false
is_started_in (Some told) k = nat_eq told.0 k

-- the source from which run k was started, if it has one, by what was told
abbrev pub source_in : Option (ℕ × Option ℕ) → ℕ → Option (Option ℕ)
source_in None k = None
source_in (Some told) k = if nat_eq told.0 k then Some told.1 else None

-- the run has ended so, if one has
pub record HasEnded (old new : List Run) (told : Option (ℕ × End)) : Type 0 where
  pub start : (k : ℕ) → (run_of new k).start ≡ (run_of old k).start
  pub source : (k : ℕ) → (run_of new k).source ≡ (run_of old k).source
  pub end : (k : ℕ) → (run_of new k).end ≡ last_of (run_of old k).end (end_in told k)
  pub asked : (k : ℕ) → (run_of new k).asked ≡ (run_of old k).asked
  pub over : (k : ℕ) → (run_of new k).over ≡ (run_of old k).over
  pub places : length new ≡ length old

-- the run was started from this source by the entry at this place, if one was
pub record HasStarted (old new : List Run) (told : Option (ℕ × Option ℕ)) (place : ℕ) : Type 0 where
  pub start : (k : ℕ) → (run_of new k).start ≡ (if is_started_in told k then Some place else (run_of old k).start)
  pub source : (k : ℕ) → (run_of new k).source ≡ unwrap_or (source_in told k) (run_of old k).source
  pub end : (k : ℕ) → (run_of new k).end ≡ (run_of old k).end
  pub asked : (k : ℕ) → (run_of new k).asked ≡ (run_of old k).asked
  pub over : (k : ℕ) → (run_of new k).over ≡ (run_of old k).over
  pub places : length new ≡ length old

-- the run was asked to stop, if one was
pub record WasAsked (old new : List Run) (told : Option ℕ) : Type 0 where
  pub start : (k : ℕ) → (run_of new k).start ≡ (run_of old k).start
  pub source : (k : ℕ) → (run_of new k).source ≡ (run_of old k).source
  pub end : (k : ℕ) → (run_of new k).end ≡ (run_of old k).end
  pub asked : (k : ℕ) → (run_of new k).asked ≡ ((run_of old k).asked || is_run k told)
  pub over : (k : ℕ) → (run_of new k).over ≡ (run_of old k).over
  pub places : length new ≡ length old

-- the run is over, if one is
pub record IsOver (old new : List Run) (told : Option ℕ) : Type 0 where
  pub start : (k : ℕ) → (run_of new k).start ≡ (run_of old k).start
  pub source : (k : ℕ) → (run_of new k).source ≡ (run_of old k).source
  pub end : (k : ℕ) → (run_of new k).end ≡ (run_of old k).end
  pub asked : (k : ℕ) → (run_of new k).asked ≡ (run_of old k).asked
  pub over : (k : ℕ) → (run_of new k).over ≡ ((run_of old k).over || is_run k told)
  pub places : length new ≡ length old

-- the lane of this number
abbrev pub lane_of : List Lane → ℕ → Lane
lane_of lanes l = slice_index_or lanes l unknown_lane

-- the lane holds this run, or none
pub record Holds (old new : List Lane) (lane : ℕ) (run : Option ℕ) : Type 0 where
  pub held : (l : ℕ) → (lane_of new l).held ≡ (if nat_eq lane l then run else (lane_of old l).held)
  pub done : (l : ℕ) → (lane_of new l).done ≡ (lane_of old l).done
  pub places : length new ≡ length old

-- the lane was told that the job is done
pub record IsDone (old new : List Lane) (lane : ℕ) : Type 0 where
  pub held : (l : ℕ) → (lane_of new l).held ≡ (lane_of old l).held
  pub done : (l : ℕ) → (lane_of new l).done ≡ ((lane_of old l).done || nat_eq lane l)
  pub places : length new ≡ length old
