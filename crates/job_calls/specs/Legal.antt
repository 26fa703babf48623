-- The legal journals: those that one hub, asked by one lane after the other, can have written.

use Rattle.std.specs.Prelude.{◌≡◌, ◌≤◌, List, [], ◌∷◌, ◌++◌, Option, Some, None, ◌||◌, length, IsTrue, All, ◌≢◌}
use Rattle.std.specs.List.{list_all}
use Rattle.mos_text.specs.FileName.{is_file_name, is_source_name, is_image_name}
use Rattle.job_calls.specs.declared.reply.Answer.TheVariants.{Ready}
use Rattle.job_calls.specs.declared.reply.Reply.TheVariants.{Opened}
use Rattle.job_calls.specs.declared.entry.Entry.{Entry}
use Rattle.job_calls.specs.declared.entry.Listed.{Listed}
use Rattle.job_calls.specs.Entries.{own_entries}
use Rattle.job_calls.specs.Runs.{Opening, opening, opening_of}
use Rattle.job_calls.specs.Answers.{answer_of}
use Rattle.job_calls.specs.Fitting.{fits}

-- the first of the files can be the master: a source that is accepted, or an image
abbrev pub IsMaster : List Listed → Type 0
IsMaster [] = ⊥
IsMaster (file ∷ files) = IsTrue (is_source_name file.name || is_image_name file.name) × (file.code ≡ 0)

-- no name is that of a later file
abbrev pub HaveDistinctNames : List Listed → Type 0
HaveDistinctNames [] = Unit {0}
HaveDistinctNames (file ∷ files) = All (λ other. other.name ≢ file.name) files × HaveDistinctNames files

-- what a job may be opened with
pub record CanOpen (o : Opening) : Type 0 where
  pub some_lane : 1 ≤ o.lanes
  pub few_lanes : o.lanes ≤ 64
  pub some_budget : 1 ≤ o.budget
  pub small_budget : o.budget ≤ 1000000000
  pub few_files : length o.files ≤ 128
  pub master : IsMaster o.files
  pub names : IsTrue (list_all (λ file. is_file_name file.name) o.files)
  pub distinct : HaveDistinctNames o.files

-- there is such an opening
abbrev pub OpensSo : Option Opening → Type 0
OpensSo None = ⊥
OpensSo (Some o) = CanOpen o

-- entry 0: lane 0 opens the job for itself
pub record IsOpening (e : Entry) : Type 0 where
  pub lane : e.lane ≡ 0
  pub run : e.run ≡ None
  pub opened : OpensSo (opening_of e.call)
  pub reply : e.reply ≡ Opened

-- the call fits the entries before it, and is answered by them
pub record Follows (before : List Entry) (e : Entry) : Type 0 where
  pub fit : IsTrue (fits (opening before) (own_entries e.lane before) e.lane e.run e.call)
  pub answered : answer_of before e.lane e.run e.call ≡ Ready e.reply

-- each of the entries follows those before it
abbrev pub FollowOn : List Entry → List Entry → Type 0
FollowOn before [] = Unit {0}
FollowOn before (e ∷ es) = Follows before e × FollowOn (before ++ e ∷ []) es

-- an opening, and entries that follow it, one by one
abbrev pub IsLegal : List Entry → Type 0
IsLegal [] = ⊥
IsLegal (e ∷ es) = IsOpening e × FollowOn (e ∷ []) es
