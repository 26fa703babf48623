-- Models and their runs: which model is loaded, which run of it is the current one, which runs are live, which
-- were asked to stop.

use Rattle.std.specs.Prelude.{ℕ, ℤ, pos, Bool, true, false, ◌&&◌, ◌||◌, not, List, Option, Some, None, nat_eq, nat_lt, count_by, filter, unwrap_or, option_and_then, if◌then◌else◌}
use Rattle.std.specs.List.{list_any, range_with_len}
use Rattle.std.specs.Option.{option_map_or}
use Rattle.std.specs.Str.{bytes_eq}
use Rattle.job_calls.specs.declared.call.Call.{Call}
use Rattle.job_calls.specs.declared.call.Call.TheVariants.{Compile, Stop, Unload}
use Rattle.job_calls.specs.declared.end.End.{End}
use Rattle.job_calls.specs.declared.end.End.TheVariants as end
use Rattle.job_calls.specs.declared.reply.Reply.{Reply}
use Rattle.job_calls.specs.declared.reply.Reply.TheVariants.{Code, Loaded}
use Rattle.job_calls.specs.declared.reply.Reply.TheVariants as reply
use Rattle.job_calls.specs.declared.entry.Entry.{Entry}
use Rattle.job_calls.specs.Moments.{Moment, moments}
use Rattle.job_calls.specs.Entries.{is_run, is_finished, run_count}
use Rattle.job_calls.specs.Files.{file_at}
use Rattle.job_calls.specs.Runs.{last_given, finish_of, start_of, start_of_run}

-- the source whose image was made under this name
abbrev pub compiled_to : List ℕ → Call → Reply → Option (List ℕ)
compiled_to file (Compile src dst) (Code code) = if nat_eq code 0 && bytes_eq dst file then Some src else None
compiled_to file _ _ = None

-- the last source whose image was made under this name
abbrev pub compiled_from : List ℕ → List Entry → Option (List ℕ)
compiled_from file journal = last_given (λ e. compiled_to file e.call e.reply) journal

-- the place, in the list of files, of the source that the image of this name was last made of
abbrev pub image_source : List ℕ → List Entry → Option ℕ
image_source file journal = option_and_then (λ src. file_at src journal) (compiled_from file journal)

-- a model was loaded
abbrev pub is_loading : Reply → Bool
is_loading (Loaded model source) = true
is_loading _ = false

-- how many models were loaded
abbrev pub loaded_count : List Entry → ℕ
loaded_count journal = count_by (λ e. is_loading e.reply) journal

-- from this entry on the model is loaded, or no longer is
abbrev pub loads : ℕ → Call → Reply → Option Bool
loads m _ (Loaded model source) = if nat_eq model m then Some true else None
loads m (Unload model) reply.Unit = if nat_eq model m then Some false else None
loads m _ _ = None

-- the model was loaded, and not unloaded since
abbrev pub is_loaded : ℕ → List Entry → Bool
is_loaded m journal = unwrap_or (last_given (λ e. loads m e.call e.reply) journal) false

-- the run that this entry started of the model
abbrev pub run_of_model : ℕ → Entry → Option ℕ
run_of_model m e = option_and_then (λ start. if nat_eq start.model m then Some start.run else None) (start_of e)

-- the last run of the model
abbrev pub current_run : ℕ → List Entry → Option ℕ
current_run m journal = last_given (run_of_model m) journal

-- the run that started run k
abbrev pub parent_of : ℕ → List Entry → Option ℕ
parent_of k journal = last_given (λ e. option_and_then (λ start. start.parent) (start_of_run k e)) journal

-- a run is live from its start to its end
abbrev pub is_live : ℕ → List Entry → Bool
is_live k journal = nat_lt k (run_count journal) && not (is_finished k journal)

-- the runs that are live, in order
abbrev pub live_runs : List Entry → List ℕ
live_runs journal = filter (λ k. is_live k journal) (range_with_len 0 (run_count journal))

-- there is such a run, and it is live
abbrev pub is_live_run : Option ℕ → List Entry → Bool
is_live_run run journal = option_map_or (λ k. is_live k journal) run false

-- the model whose run was asked to stop
abbrev pub stopped_model : Call → Reply → Option ℕ
stopped_model (Stop model) reply.Unit = Some model
stopped_model _ _ = None

-- this entry asks run k to stop: it is the current run of the model, and live
abbrev pub asks : ℕ → Moment → Bool
asks k m =
    option_map_or (λ model. is_run k (current_run model m.before) && is_live k m.before)
    (stopped_model m.entry.call m.entry.reply) false

-- the run is to stop: it was asked, or the master has ended
abbrev pub is_asked : ℕ → List Entry → Bool
is_asked k journal = is_finished 0 journal || list_any (asks k) (moments journal)

-- the number of an end that the run which started it is told
abbrev pub exit_code : End → ℤ
exit_code (end.Code n) = n
exit_code (end.Fault kind) = pos 100
exit_code end.Spent = pos 101
exit_code end.Stopped = pos 102
exit_code end.NoMemory = pos 103

-- the exit code of the model's current run; 0 where there is none or it has not ended
abbrev pub exit_of : ℕ → List Entry → ℤ
exit_of m journal = option_map_or exit_code (option_and_then (λ k. finish_of k journal) (current_run m journal)) (pos 0)

-- how a run that is no longer live has ended
abbrev pub end_status : End → ℤ
end_status (end.Code n) = pos 3
end_status (end.Fault kind) = pos 4
end_status end.Spent = pos 5
end_status end.Stopped = pos 6
end_status end.NoMemory = pos 7

-- a run that goes on has the status 2
abbrev pub run_status : ℕ → List Entry → ℤ
run_status k journal = option_map_or end_status (finish_of k journal) (pos 2)

-- a model that is not loaded has the status 0, one that was never run 1
abbrev pub status_of : ℕ → List Entry → ℤ
status_of m journal =
    if is_loaded m journal then option_map_or (λ k. run_status k journal) (current_run m journal) (pos 1)
    else pos 0
