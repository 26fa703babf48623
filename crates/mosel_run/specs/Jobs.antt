-- Jobs: what their files are, and what their journals and lines say of them.

use Rattle.std.specs.Prelude.{◌≡◌, ◌≢◌, ℕ, ℤ, pos, true, false, List, [], ◌∷◌, Option, Some, None, map, option_map, ◌⊎◌}
use Rattle.mos_text.specs.declared.fault_kind.FaultKind.{FaultKind}
use Rattle.mos_text.specs.declared.kind.Kind.{Kind}
use Rattle.mos_tree.specs.declared.source.Tree.{Tree}
use Rattle.job_calls.specs.declared.end.End.{End}
use Rattle.job_calls.specs.declared.end.End.TheVariants as end
use Rattle.job_calls.specs.declared.entry.Entry.{Entry}
use Rattle.job_calls.specs.declared.entry.Listed.{Listed}
use Rattle.job_calls.specs.declared.run_line.RunLine.{RunLine}
use Rattle.job_calls.specs.Runs.{Opening, finish_of}
use Rattle.mos_text.specs.FileName.{is_source_name, is_image_name}
use Rattle.bim_code.specs.declared.image.Image.{Image}
use Rattle.bim_code.specs.Limits.{CountsInRange}
use Rattle.bim_code.specs.Rules.{KeepsRules}
use Rattle.bim_compile.specs.Means.{Means}
use Rattle.mos_meaning.specs.Follows.{Behaviour, behaviour_of, FollowsSources}
use Rattle.mos_meaning.specs.Sources.{model_of}
use Rattle.lane_step.specs.Schedule.{schedule_of}
use Rattle.lane_step.specs.Stalled.{IsStalled}
use Rattle.lane_step.specs.Whole.{IsWhole, HadMemory}
use Rattle.mosel_run.specs.Accepted.{IsAccepted, IsOnlyTree, IsOnlyRefusal, IsRefusedAt, HasCode}
use Rattle.mosel_run.specs.declared.status.Status.{Status}
use Rattle.mosel_run.specs.declared.status.Status.TheVariants.{Done, MasterFailed, MasterSpent, Stalled, RunNoMemory}
use Rattle.mosel_run.specs.declared.wanted.Wanted.{Wanted}

-- an accepted source: its tree, and the image that was made of it
pub record Model : Type 0 where
  pub tree : Tree
  pub image : Image

-- the source has this tree and no other; the image means it, keeps the rules of images but for those on
-- stacks, and has a file that can hold it
pub record IsModelOf (source : List ℕ) (model : Model) : Type 0 where
  pub accepted : IsAccepted source model.tree
  pub only : IsOnlyTree source model.tree
  pub means : Means (model_of model.tree) model.image
  pub rules : KeepsRules model.image
  pub fields : CountsInRange model.image

-- what a listed file is: a source with a model exactly where it is accepted, or data
pub data IsJudged (file : Listed) : Option Model → Type 0 where
  -- a source that is accepted
  accepted : (model : Model) → is_source_name file.name ≡ true → file.code ≡ 0 → IsModelOf file.bytes model → IsJudged file (Some model)
  -- a source that is not, at one line and for one reason
  refused : (line : ℕ) (kind : Kind) → is_source_name file.name ≡ true → HasCode file.bytes file.code
      → IsRefusedAt file.bytes line kind → IsOnlyRefusal file.bytes line kind → IsJudged file None
  -- a file that is neither a source nor an image
  data_file : is_source_name file.name ≡ false → is_image_name file.name ≡ false → file.code ≡ 0 → IsJudged file None

-- the wanted files with the bytes that were read, as they are listed, each judged
abbrev pub AreJudged : List Wanted → List (List ℕ) → List Listed → List (Option Model) → Type 0
AreJudged [] [] [] [] = Unit {0}
AreJudged (want ∷ wanted) (bytes ∷ sources) (file ∷ files) (model ∷ models) =
    (file.name ≡ want.name) × (file.bytes ≡ bytes) × IsJudged file model × AreJudged wanted sources files models
AreJudged _ _ _ _ = ⊥  -- there are as many of each

-- a job: how it is opened, what its files do, and the order in which its lanes take their first turns
pub record Job : Type 0 where
  pub opening : Opening
  pub behaviours : List (Option Behaviour)
  pub order : List ℕ

-- what is said of the journal of a job beside the promise
abbrev pub Journals : Type 1
Journals = Job → List Entry → Type 0

-- nothing is said of it
abbrev pub AnyJournal : Journals
AnyJournal job journal = Unit {0}

-- one thread wrote it, lane by lane
abbrev pub OneThread : Journals
OneThread job journal = (end : End) × (journal ≡ schedule_of job.opening end)

-- what the listed files do
abbrev pub behaviours_of : List (Option Model) → List (Option Behaviour)
behaviours_of models = map (λ found. option_map (λ (model : Model). behaviour_of (model_of model.tree) model.image) found) models

-- the images of the listed files
abbrev pub images_of : List (Option Model) → List (Option Image)
images_of models = map (λ found. option_map (λ (model : Model). model.image) found) models

-- how a job ended, by its status: some run ended for want of memory; or else it stalled; or else it came to its
-- end, and the status is by run 0
pub data IsStatusOf (o : Opening) (journal : List Entry) (lines : List RunLine) : Status → Type 0 where
  no_memory : (run : ℕ) → finish_of run journal ≡ Some end.NoMemory → IsWhole o journal ⊎ IsStalled o journal lines
      → IsStatusOf o journal lines RunNoMemory
  stalled : HadMemory journal → IsStalled o journal lines → IsStatusOf o journal lines Stalled
  done : HadMemory journal → IsWhole o journal → finish_of 0 journal ≡ Some (end.Code (pos 0)) → IsStatusOf o journal lines Done
  exited : (code : ℤ) → code ≢ pos 0 → HadMemory journal → IsWhole o journal → finish_of 0 journal ≡ Some (end.Code code) → IsStatusOf o journal lines MasterFailed
  failed : (kind : FaultKind) → HadMemory journal → IsWhole o journal → finish_of 0 journal ≡ Some (end.Fault kind) → IsStatusOf o journal lines MasterFailed
  spent : HadMemory journal → IsWhole o journal → finish_of 0 journal ≡ Some end.Spent → IsStatusOf o journal lines MasterSpent

-- the journal and the lines of a job, with the status of how it ended
pub record IsJob (journals : Journals) (job : Job) (journal : List Entry) (lines : List RunLine) (status : Status) : Type 0 where
  pub ended : IsStatusOf job.opening journal lines status
  pub written : journals job journal
  pub follows : FollowsSources journal lines job.behaviours
