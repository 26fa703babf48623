-- Which journal a table of models and runs stands for, and which entries it can take.

use Rattle.std.specs.Prelude.{◌≡◌, ◌<◌, ◌+◌, ◌-◌, ◌^◌, ◌||◌, ◌&&◌, ℕ, ℤ, pos, Bool, true, false, List, Option, Some, None, count_by, is_some, length, min, nat_lt, unwrap_or, if◌then◌else◌}
use Rattle.std.specs.List.{list_any}
use Rattle.std.specs.Option.{option_map_or}
use Rattle.job_calls.specs.declared.end.End.{End}
use Rattle.job_calls.specs.declared.reply.Reply.{Reply}
use Rattle.job_calls.specs.declared.reply.Reply.TheVariants.{Claimed}
use Rattle.job_calls.specs.declared.entry.Entry.{Entry}
use Rattle.job_calls.specs.Moments.{moments}
use Rattle.job_calls.specs.Entries.{is_claimed, is_run, is_last, own_entries, is_started, is_finished, is_quit, has_quit}
use Rattle.job_calls.specs.Runs.{last_given, source_of_model, source_started, finish_of}
use Rattle.job_calls.specs.Models.{compiled_to, is_loading, loaded_count, is_loaded, current_run, live_runs, asks, end_status}
use Rattle.job_calls.specs.Blocks.{last_place}
use Rattle.growing_lists.specs.Growing.{as_number}
use Rattle.shmem_block.specs.Names.{place_under, IsKnown}
use Rattle.job_calls.specs.Fitting.{held_run, was_done}
use Rattle.model_table.specs.declared.lane.Lane.{Lane}
use Rattle.model_table.specs.declared.model.Model.{Model}
use Rattle.model_table.specs.declared.run.Run.{Run}
use Rattle.model_table.specs.declared.table.ModelTable.{ModelTable}
use Rattle.model_table.specs.Tables.{model_at, run_at, starts_run, IsModelAfter, IsRunAfter, model_told, run_told, over_told, lane_at, lane_told, IsLaneAfter}

-- what the journal tells of model m
pub record IsModelOf (model : Model) (m : ℕ) (journal : List Entry) : Type 0 where
  pub source : model.source ≡ source_of_model m journal
  pub loaded : model.loaded ≡ is_loaded m journal
  pub current : model.current ≡ current_run m journal

-- what the journal tells of run k
pub record IsRunOf (run : Run) (k : ℕ) (journal : List Entry) : Type 0 where
  pub start : run.start ≡ last_place (starts_run k) journal
  pub source : run.source ≡ unwrap_or (last_given (source_started k) (moments journal)) None
  pub end : run.end ≡ finish_of k journal
  pub ended : is_some run.end ≡ is_finished k journal
  pub asked : run.asked ≡ list_any (asks k) (moments journal)
  pub over : run.over ≡ list_any (λ e. is_run k e.run && is_last e.reply) journal

-- what the journal tells of lane l
pub record IsLaneOf (lane : Lane) (l : ℕ) (journal : List Entry) : Type 0 where
  pub held : lane.held ≡ held_run (own_entries l journal)
  pub done : lane.done ≡ was_done (own_entries l journal)

-- a lane was given a run
abbrev pub gives_run : Reply → Bool
gives_run (Claimed run source params) = true
gives_run reply = false

-- lanes were given the runs in order, as in every legal journal
abbrev pub GivesInOrder : List Entry → Type 0
GivesInOrder journal = (k : ℕ) → is_claimed k journal ≡ nat_lt k (count_by (λ e. gives_run e.reply) journal)

-- an image was made under this name
abbrev pub makes_image : List ℕ → Entry → Bool
makes_image file e = is_some (compiled_to file e.call e.reply)

-- the number of a run's status, by its end if it has one
abbrev pub status_by : Option End → ℤ
status_by end = option_map_or end_status end (pos 2)

-- the table stands for the journal
pub record IsIndexOf (table : ModelTable) (journal : List Entry) : Type 0 where
  pub count : table.count ≡ length journal
  pub models : (m : ℕ) → IsModelOf (model_at table m) m journal
  pub runs : (k : ℕ) → IsRunOf (run_at table k) k journal
  pub lanes : (l : ℕ) → IsLaneOf (lane_at table l) l journal
  pub images : (file : List ℕ) → place_under file table.images ≡ last_place (makes_image file) journal
  pub loads : table.loads ≡ loaded_count journal
  pub started : table.started ≡ count_by (λ e. is_started e.reply) journal
  pub claimed : table.claimed ≡ count_by (λ e. gives_run e.reply) journal
  pub live : table.live ≡ length (live_runs journal)
  pub quit : table.quit ≡ has_quit journal

-- the table stands for each journal that the old one stood for
abbrev pub StandsFor : ModelTable → ModelTable → Type 0
StandsFor old new = (journal : List Entry) → IsIndexOf old journal → IsIndexOf new journal

-- one more, where it counts; the greatest number of 32 bits stays
abbrev pub more : ℕ → Bool → ℕ
more count counts = if counts then min (count + 1) (2 ^ 32 - 1) else count

-- the table can take the entry without memory: it has places for what the entry tells of
pub record CanTake (table : ModelTable) (e : Entry) : Type 0 where
  pub models : (m : ℕ) → model_told e.call e.reply ≡ Some m → m < length table.models.items
  pub runs : (k : ℕ) → run_told e.run e.call e.reply ≡ Some k → k < length table.runs.items
  pub over : (k : ℕ) → over_told e.run e.reply ≡ Some k → k < length table.runs.items
  pub lanes : (l : ℕ) → lane_told e.lane e.reply ≡ Some l → l < length table.lanes.items
  pub images : (file : List ℕ) → makes_image file e ≡ true → IsKnown file table.images
  pub next : is_started e.reply ≡ true → more table.started true < length table.runs.items

-- the entry tells of no model and no image, and starts no run
pub record IsQuiet (e : Entry) : Type 0 where
  pub models : model_told e.call e.reply ≡ None
  pub images : (file : List ℕ) → makes_image file e ≡ false
  pub starts : is_started e.reply ≡ false

-- the entry's model, run and image were told
pub record IsTold (old new : ModelTable) (e : Entry) : Type 0 where
  pub models : (m : ℕ) → IsModelAfter (model_at old m) (model_at new m) m e
  pub runs : (k : ℕ) → IsRunAfter old (run_at new k) k e
  pub lanes : (l : ℕ) → IsLaneAfter (lane_at old l) (lane_at new l) l e
  pub images : (file : List ℕ) → place_under file new.images ≡ (if makes_image file e then Some old.count else place_under file old.images)
  pub count : new.count ≡ old.count
  pub loads : new.loads ≡ old.loads
  pub started : new.started ≡ old.started
  pub claimed : new.claimed ≡ old.claimed
  pub live : new.live ≡ old.live
  pub quit : new.quit ≡ old.quit
  pub places : length new.runs.items ≡ length old.runs.items

-- the entry was counted, by which a live run ends or a run starts
pub record IsTallied (old new : ModelTable) (e : Entry) (ends starts : Bool) : Type 0 where
  pub models : (m : ℕ) → model_at new m ≡ model_at old m
  pub runs : (k : ℕ) → run_at new k ≡ run_at old k
  pub lanes : (l : ℕ) → lane_at new l ≡ lane_at old l
  pub images : (file : List ℕ) → place_under file new.images ≡ place_under file old.images
  pub count : new.count ≡ more old.count true
  pub loads : new.loads ≡ more old.loads (is_loading e.reply)
  pub started : new.started ≡ more old.started (is_started e.reply)
  pub claimed : new.claimed ≡ more old.claimed (gives_run e.reply)
  pub live : old.live < 2 ^ 32 → new.live ≡ (old.live - as_number ends) + as_number starts
  pub quit : new.quit ≡ (old.quit || is_quit e.call)
