-- What a table of models and runs says, and what an entry makes of a model and of a run.

use Rattle.std.specs.Prelude.{◌≡◌, ℕ, ◌+◌, Bool, false, not, ◌&&◌, ◌||◌, Option, Some, None, nat_eq, nat_lt, is_some, option_map, slice_index_or, unwrap_or, if◌then◌else◌}
use Rattle.std.specs.Option.{option_map_or}
use Rattle.job_calls.specs.declared.call.Call.{Call}
use Rattle.job_calls.specs.declared.call.Call.TheVariants.{Finish, Run as Starts}
use Rattle.job_calls.specs.declared.end.End.{End}
use Rattle.job_calls.specs.declared.reply.Reply.{Reply}
use Rattle.job_calls.specs.declared.reply.Reply.TheVariants.{Claimed, Done, Loaded, Started}
use Rattle.job_calls.specs.declared.entry.Entry.{Entry}
use Rattle.job_calls.specs.Entries.{is_run, is_started, is_last, is_done}
use Rattle.job_calls.specs.Runs.{Start, last_of, loaded_source, start_of_run, finish}
use Rattle.job_calls.specs.Models.{loads, run_of_model, stopped_model}
use Rattle.job_calls.specs.Fitting.{held_after}
use Rattle.model_table.specs.declared.lane.Lane.{Lane}
use Rattle.model_table.specs.declared.model.Model.{Model}
use Rattle.model_table.specs.declared.run.Run.{Run}
use Rattle.model_table.specs.declared.table.ModelTable.{ModelTable}

-- a model that was never loaded
abbrev pub unknown_model : Model
unknown_model = record { source = None; loaded = false; current = None }

-- a run of which nothing was told
abbrev pub unknown_run : Run
unknown_run = record { start = None; source = None; end = None; asked = false; over = false }

-- a lane of which nothing was told
abbrev pub unknown_lane : Lane
unknown_lane = record { held = None; done = false }

-- the model of this number
abbrev pub model_at : ModelTable → ℕ → Model
model_at table m = slice_index_or table.models.items m unknown_model

-- the run of this number
abbrev pub run_at : ModelTable → ℕ → Run
run_at table k = slice_index_or table.runs.items k unknown_run

-- the lane of this number
abbrev pub lane_at : ModelTable → ℕ → Lane
lane_at table l = slice_index_or table.lanes.items l unknown_lane

-- the run was started and has not ended
abbrev pub is_live_in : ModelTable → ℕ → Bool
is_live_in table k = nat_lt k (table.started + 1) && not (is_some (run_at table k).end)

-- an entry starts run k
abbrev pub starts_run : ℕ → Entry → Bool
starts_run k e = is_some (start_of_run k e)

-- where the entry starts run k: the source of its model, if that was loaded
abbrev pub source_told : ModelTable → ℕ → Entry → Option (Option ℕ)
source_told table k e = option_map (λ (start : Start). (model_at table start.model).source) (start_of_run k e)

-- how an entry says that run k has ended
abbrev pub end_told : ℕ → Entry → Option End
end_told k e = if is_run k e.run then finish e.call else None

-- an entry asks run k to stop: it is the current run of the model, and live
abbrev pub asks_in : ModelTable → ℕ → Entry → Bool
asks_in table k e =
    option_map_or (λ model. is_run k (model_at table model).current && is_live_in table k) (stopped_model e.call e.reply) false

-- the run that an entry ends
abbrev pub ender : Option ℕ → Call → Option ℕ
ender (Some run) (Finish end) = Some run
ender run call = None

-- a live run ends
abbrev pub ends_in : ModelTable → Entry → Bool
ends_in table e = option_map_or (λ run. is_live_in table run) (ender e.run e.call) false

-- a run starts that has not ended before; the table was told of the entry
abbrev pub starts_in : ModelTable → Entry → Bool
starts_in table e = is_started e.reply && not (is_some (run_at table (table.started + 1)).end)

-- model m after one more entry
pub record IsModelAfter (old new : Model) (m : ℕ) (e : Entry) : Type 0 where
  pub source : new.source ≡ last_of old.source (loaded_source m e.reply)
  pub loaded : new.loaded ≡ unwrap_or (loads m e.call e.reply) old.loaded
  pub current : new.current ≡ last_of old.current (run_of_model m e)

-- run k after one more entry
pub record IsRunAfter (table : ModelTable) (new : Run) (k : ℕ) (e : Entry) : Type 0 where
  pub start : new.start ≡ (if starts_run k e then Some table.count else (run_at table k).start)
  pub source : new.source ≡ unwrap_or (source_told table k e) (run_at table k).source
  pub end : new.end ≡ last_of (run_at table k).end (end_told k e)
  pub asked : new.asked ≡ ((run_at table k).asked || asks_in table k e)
  pub over : new.over ≡ ((run_at table k).over || (is_run k e.run && is_last e.reply))

-- lane l after one more entry
pub record IsLaneAfter (old new : Lane) (l : ℕ) (e : Entry) : Type 0 where
  pub held : new.held ≡ (if nat_eq e.lane l then held_after old.held e.call e.reply else old.held)
  pub done : new.done ≡ (old.done || (nat_eq e.lane l && is_done e.reply))

-- the model that an entry tells of
abbrev pub model_told : Call → Reply → Option ℕ
model_told call (Loaded model source) = Some model
model_told (Starts model params) (Started run) = Some model
model_told call reply = None

-- the run that an entry tells of
abbrev pub run_told : Option ℕ → Call → Reply → Option ℕ
run_told (Some run) (Finish end) reply = Some run
run_told run (Starts model params) (Started started) = Some started
run_told run call reply = None

-- the run that is answered that it is to end
abbrev pub over_told : Option ℕ → Reply → Option ℕ
over_told run reply = if is_last reply then run else None

-- the lane that is given a run, or told that the job is done
abbrev pub lane_told : ℕ → Reply → Option ℕ
lane_told lane (Claimed run source params) = Some lane
lane_told lane Done = Some lane
lane_told lane reply = None
