-- The report of a job over one source.

use Rattle.std.proofs.Common.{◌≡◌, ℕ, zero, suc, true, List, [], ◌∷◌, Option, Some, None, refl, sym, ap, ◌∙◌, subst, ◌-◌, ◌+◌, inl, inr, map}
use Rattle.std.specs.Prelude.{slice_get}
use Rattle.std.specs.List.{filter_map}
use Rattle.mos_tree.specs.declared.source.Tree.{Tree}
use Rattle.job_calls.specs.declared.end.End.{End}
use Rattle.job_calls.specs.declared.end.End.TheVariants as end
use Rattle.job_calls.specs.declared.entry.Entry.{Entry}
use Rattle.job_calls.specs.declared.entry.Listed.{Listed}
use Rattle.job_calls.specs.declared.reply.Reply.{Reply}
use Rattle.job_calls.specs.declared.run_line.RunLine.{RunLine}
use Rattle.job_calls.specs.Runs.{Opening, source_of, replies_of, finish_of}
use Rattle.hub_text.specs.ReportText.{report_text}
use Rattle.bim_code.specs.declared.image.Image.{Image}
use Rattle.bim_code.specs.Tables.{image_bytes}
use Rattle.bim_code.specs.Limits.{CountsInRange}
use Rattle.bim_code.specs.Rules.{KeepsRules}
use Rattle.bim_compile.specs.Means.{Means}
use Rattle.lane_step.specs.Alone.{opening_with}
use Rattle.lane_step.specs.Schedule.{schedule_of, done_entries}
use Rattle.lane_step.specs.Whole.{IsWhole, HadMemory}
use Rattle.run_state.specs.Stops.{Outcome, Course}
use Rattle.bim_machine.specs.Courses.{course_of}
use Rattle.mos_meaning.specs.Syntax.{Program}
use Rattle.mos_meaning.specs.Sources.{model_of}
use Rattle.mos_meaning.specs.Follows.{Behaviour, behaviour_of, FollowsSources, Follows, RunFollows}
use Rattle.mosel_run.specs.declared.answer.Answer.{Answer}
use Rattle.mosel_run.specs.Accepted.{IsAccepted, IsOnlyTree}
use Rattle.mosel_run.specs.Jobs.{Model, accepted as accepted_file, OneThread, IsStatusOf, done, exited, failed, spent}
use Rattle.mosel_run.specs.Making.{run_request, listed_file, IsStatusAtEnd}
use Rattle.mosel_run.specs.Puts.{puts_of, put_of, image_name, last_puts}
use Rattle.mosel_run.specs.Run.{IsReport, IsReported}
use Rattle.mosel_run.specs.declared.answer.Deed.TheVariants.{Write, Store}
use Rattle.mosel_run.specs.declared.answer.Put.{Put}
use Rattle.mosel_run.specs.declared.status.Status.{Status}
use Rattle.mos_text.specs.FileName.{is_source_name}

-- an image that means its model does what the model does
same_course : (model : Program) (image : Image) (params : List ℕ) (replies : List Reply) (budget : ℕ) → Means model image
    → course_of image params replies budget ≡ behaviour_of model image params replies budget
same_course model image params replies budget means =
    ap (λ (outcome : Outcome). let c : Course = record { outcome = outcome; steps = (course_of image params replies budget).steps } in c) (means params replies budget)

inside : {A : Type 0} (x y : A) → Some x ≡ Some y → x ≡ y
inside x y e = cc

-- what holds of a run of the image holds of a run of the model
follows_by : (journal : List Entry) (o : Opening) (tree : Tree) (image : Image) (run : ℕ) (line : RunLine) → Means (model_of tree) image
    → Follows journal o (Some (course_of image) ∷ []) run line
    → Follows journal o (Some (behaviour_of (model_of tree) image) ∷ []) run line
follows_by journal o tree image run line means f = at f.source f.source_is f.file_is f.behaviour_is
  where
    at : (source : ℕ) → source_of run journal ≡ Some source → slice_get o.files source ≡ Some f.file → slice_get (let all : List (Option Behaviour) = Some (course_of image) ∷ [] in all) source ≡ Some (Some f.behaviour)
        → Follows journal o (Some (behaviour_of (model_of tree) image) ∷ []) run line
    at zero source_is file_is behaviour_is = record {
      source = 0;
      params = f.params;
      file = f.file;
      behaviour = behaviour_of (model_of tree) image;
      source_is = source_is;
      params_is = f.params_is;
      file_is = file_is;
      behaviour_is = refl;
      follows =
          let same : course_of image ≡ f.behaviour = inside _ _ (inside _ _ behaviour_is) in
          subst (RunFollows journal run line f.file)
          (ap (λ (b : Behaviour). b f.params (replies_of run journal) o.budget) (sym same)
          ∙ same_course (model_of tree) image f.params (replies_of run journal) o.budget means)
          f.follows;
    }
    at (suc source) source_is file_is behaviour_is = absurd cc

follows_source : (journal : List Entry) (lines : List RunLine) (tree : Tree) (image : Image) → Means (model_of tree) image
    → FollowsSources journal lines (Some (course_of image) ∷ [])
    → FollowsSources journal lines (Some (behaviour_of (model_of tree) image) ∷ [])
follows_source journal lines tree image means h = record {
  opened = h.opened;
  opened_is = h.opened_is;
  all_runs = h.all_runs;
  each = λ run line found. follows_by journal h.opened tree image run line means (h.each run line found);
}

-- the journal puts nothing
no_puts : (files : List Listed) (images : List (Option Image)) (o : Opening) (end : End)
    → filter_map (λ (e : Entry). put_of files images e.call e.reply) (schedule_of o end) ≡ []
no_puts files images o end = past 1 (o.lanes - 1)
  where
    past : (lane many : ℕ) → filter_map (λ (e : Entry). put_of files images e.call e.reply) (done_entries lane many) ≡ []
    past lane zero = refl
    past lane (suc many) = past (lane + 1) many

puts_are : (name source : List ℕ) (lanes budget : ℕ) (image : Image) (journal : List Entry) (end : End)
    → journal ≡ schedule_of (opening_with lanes budget [] (listed_file name source ∷ [])) end
    → puts_of (opening_with lanes budget [] (listed_file name source ∷ [])) journal (Some image ∷ [])
    ≡ record { name = image_name name; bytes = image_bytes image } ∷ []
puts_are name source lanes budget image journal end is =
    ap (λ (j : List Entry). puts_of (opening_with lanes budget [] (listed_file name source ∷ [])) j (Some image ∷ [])) is
    ∙ ap (λ rest. record { name = image_name name; bytes = image_bytes image } ∷ last_puts rest)
    (no_puts (listed_file name source ∷ []) (Some image ∷ []) (opening_with lanes budget [] (listed_file name source ∷ [])) end)

-- the status by the end of run 0
by_end : (o : Opening) (journal : List Entry) (lines : List RunLine) (end : Option End) (status : Status) → HadMemory journal → IsWhole o journal
    → finish_of 0 journal ≡ end → IsStatusAtEnd end status → IsStatusOf o journal lines status
by_end o journal lines (Some (end.Code code)) status memory whole finish (inl h) =
    subst (IsStatusOf o journal lines) (sym h.1) (done memory whole (finish ∙ ap (λ n. Some (end.Code n)) h.0))
by_end o journal lines (Some (end.Code code)) status memory whole finish (inr h) =
    subst (IsStatusOf o journal lines) (sym h.1) (exited code h.0 memory whole finish)
by_end o journal lines (Some (end.Fault kind)) status memory whole finish h =
    subst (IsStatusOf o journal lines) (sym h) (failed kind memory whole finish)
by_end o journal lines (Some end.Spent) status memory whole finish h = subst (IsStatusOf o journal lines) (sym h) (spent memory whole finish)
by_end o journal lines (Some end.Stopped) status memory whole finish h = absurd h
by_end o journal lines (Some end.NoMemory) status memory whole finish h = absurd h
by_end o journal lines None status memory whole finish h = absurd h

pub is_report : (name source : List ℕ) (lanes budget : ℕ) (tree : Tree) (image : Image) (journal : List Entry) (lines : List RunLine) (end : End) (answer : Answer)
    → is_source_name name ≡ true → IsAccepted source tree → IsOnlyTree source tree → Means (model_of tree) image → KeepsRules image → CountsInRange image
    → journal ≡ schedule_of (opening_with lanes budget [] (listed_file name source ∷ [])) end
    → IsWhole (opening_with lanes budget [] (listed_file name source ∷ [])) journal
    → FollowsSources journal lines (Some (course_of image) ∷ [])
    → finish_of 0 journal ≡ Some end
    → HadMemory journal
    → answer.deeds ≡ Write (report_text journal lines) ∷ Store (record { name = image_name name; bytes = image_bytes image }) ∷ []
    → IsStatusAtEnd (Some end) answer.status → IsReported answer.status
    → IsReport OneThread (run_request name lanes budget) (source ∷ []) answer
is_report name source lanes budget tree image journal lines end answer named accepted only means rules fields is whole follows finish memory deeds status reported =
    let model : Model = record { tree = tree; image = image } in
    record {
      files = listed_file name source ∷ [];
      models = Some model ∷ [];
      master = model;
      journal = journal;
      lines = lines;
      judged = (
        refl,
        refl,
        accepted_file model named refl (record { accepted = accepted; only = only; means = means; rules = rules; fields = fields }),
        tt,
      );
      master_is = refl;
      job = record { ended = by_end (opening_with lanes budget [] (listed_file name source ∷ [])) journal lines (Some end) answer.status memory whole finish status; written = (end, is); follows = follows_source journal lines tree image means follows };
      deeds = deeds ∙ ap (λ (puts : List Put). Write (report_text journal lines) ∷ map Store puts) (sym (puts_are name source lanes budget image journal end is));
      so_far = reported;
    }
