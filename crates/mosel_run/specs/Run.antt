-- What the command `run` has to answer, and when.

use Rattle.std.specs.Prelude.{◌≡◌, ℕ, List, [], ◌∷◌, ◌++◌, Option, Some, length, take, drop, map, slice_get, ◌⊎◌}
use Rattle.mos_text.specs.declared.folder.Got.{Got}
use Rattle.mos_text.specs.declared.kind.Kind.{Kind}
use Rattle.job_calls.specs.declared.entry.Entry.{Entry}
use Rattle.job_calls.specs.declared.entry.Listed.{Listed}
use Rattle.job_calls.specs.declared.run_line.RunLine.{RunLine}
use Rattle.hub_text.specs.ErrorLines.{verdict_line}
use Rattle.hub_text.specs.ReportText.{report_text}
use Rattle.job_calls.specs.Runs.{Opening}
use Rattle.mosel_run.specs.declared.answer.Answer.{Answer}
use Rattle.mosel_run.specs.declared.answer.Deed.TheVariants.{Write, Store}
use Rattle.mosel_run.specs.declared.status.Status.{Status}
use Rattle.mosel_run.specs.declared.status.Status.TheVariants.{Done, Refused, MasterFailed, MasterSpent}
use Rattle.mosel_run.specs.declared.wanted.Wanted.{Wanted}
use Rattle.mosel_run.specs.Accepted.{IsRefusedAt, IsOnlyRefusal}
use Rattle.mosel_run.specs.Answers.{line_answer, IsUnreadAnswer}
use Rattle.mosel_run.specs.Jobs.{Model, AreJudged, Job, Journals, IsJob, behaviours_of, images_of}
use Rattle.mosel_run.specs.Puts.{puts_of}
use Rattle.mosel_run.specs.States.{FolderState}
use Rattle.mosel_run.specs.Wanted.{AreRead, IsUnread}

-- what a command asks for: the files of its job, and files that it reads before and behind them and does not
-- list; so many lanes, so many ticks for each run, and the parameter text of run 0, whose source is the first
-- of the listed files
pub record Request : Type 0 where
  pub ahead : List Wanted
  pub listed : List Wanted
  pub behind : List Wanted
  pub lanes : ℕ
  pub budget : ℕ
  pub params : List ℕ

-- all files that it reads, in order
abbrev pub wanted_of : Request → List Wanted
wanted_of asked = asked.ahead ++ asked.listed ++ asked.behind

-- what was read of the listed files, of what was read of all
abbrev pub listed_of : Request → List (List ℕ) → List (List ℕ)
listed_of asked sources = take (length asked.listed) (drop (length asked.ahead) sources)

-- how its job is opened over the files as they are listed
abbrev pub opening_of : Request → List Listed → Opening
opening_of asked files = record { lanes = asked.lanes; budget = asked.budget; params = asked.params; files = files }

-- its job over files with these models; no order is given
abbrev pub job_of : Request → List Listed → List (Option Model) → Job
job_of asked files models = record { opening = opening_of asked files; behaviours = behaviours_of models; order = [] }

-- the status of a job that is by its run 0
abbrev pub IsReported : Status → Type 0
IsReported status = (status ≡ Done) ⊎ (status ≡ MasterFailed) ⊎ (status ≡ MasterSpent)

-- the first of the listed files is refused, at this line and for this reason alone
pub record IsRefusal (asked : Request) (sources : List (List ℕ)) (line : ℕ) (kind : Kind) (answer : Answer) : Type 0 where
  pub want : Wanted
  pub source : List ℕ
  pub want_is : slice_get asked.listed 0 ≡ Some want
  pub source_is : slice_get (listed_of asked sources) 0 ≡ Some source
  pub refused : IsRefusedAt source line kind
  pub only : IsOnlyRefusal source line kind
  pub answer_is : answer ≡ line_answer (verdict_line want.name line kind) (Refused line kind)

-- the first of the listed files is a model, and there was a job over all of them: its report is to be written,
-- then the files that its journal puts are to be put; so far no run of it lacks memory, and no lane stalls
pub record IsReport (journals : Journals) (asked : Request) (sources : List (List ℕ)) (answer : Answer) : Type 0 where
  pub files : List Listed
  pub models : List (Option Model)
  pub master : Model
  pub journal : List Entry
  pub lines : List RunLine
  pub judged : AreJudged asked.listed (listed_of asked sources) files models
  pub master_is : slice_get models 0 ≡ Some (Some master)
  pub job : IsJob journals (job_of asked files models) journal lines answer.status
  pub deeds : answer.deeds ≡ Write (report_text journal lines) ∷ map Store (puts_of (opening_of asked files) journal (images_of models))
  pub so_far : IsReported answer.status

-- by the bytes of the files: a refusal, or a report
pub data IsAnswerTo (journals : Journals) (asked : Request) (sources : List (List ℕ)) (answer : Answer) : Type 0 where
  refusal : (line : ℕ) (kind : Kind) → IsRefusal asked sources line kind answer → IsAnswerTo journals asked sources answer
  report : IsReport journals asked sources answer → IsAnswerTo journals asked sources answer

-- by the folder: that a file cannot be had, or else the answer to the bytes of all
pub data IsRunAnswer (journals : Journals) (asked : Request) (before after : FolderState) (answer : Answer) : Type 0 where
  unread : (name : List ℕ) (got : Got) → IsUnread before.content (wanted_of asked) name got
      → IsUnreadAnswer before after name got answer → IsRunAnswer journals asked before after answer
  all_read : (sources : List (List ℕ)) → AreRead before.content (wanted_of asked) sources
      → IsAnswerTo journals asked sources answer → IsRunAnswer journals asked before after answer
