-- the refusal of a source is true of it alone
use Rattle.std.proofs.Common.{◌≡◌, ◌∷◌, [], refl, subst}
use Rattle.std.proofs.lemmas.Result.{IfOk-weaker}
use Rattle.hub_text.specs.ErrorLines.{verdict_line}
use Rattle.mosel_run.specs.declared.answer.Answer.{Answer}
use Rattle.mosel_run.specs.declared.status.Status.TheVariants.{Refused}
use Rattle.mosel_run.specs.Answers.{line_answer}
use Rattle.mosel_run.specs.Making.{run_request}
use Rattle.mosel_run.specs.Jobs.{OneThread}
use Rattle.mosel_run.specs.ReadAnswers.{IsRefusal}
use Rattle.mosel_run.specs.Run.{IsAnswerTo, refusal}
use Rattle.mosel_run.proofs.Refusals.{only-refusal}
use Rattle.mosel_run.proofs.run.answer_source.Goals as goal

pub returns-in-Err-Refused : goal.returns-in-Err-Refused
returns-in-Err-Refused c =
    let line = c.in-Err-Refused.found.line in
    let kind = c.in-Err-Refused.found.kind in
    IfOk-weaker c.refusal.result (λ (answer : Answer). answer ≡ line_answer (verdict_line c.args.name.now line kind) (Refused line kind))
    (IsAnswerTo OneThread (run_request c.args.name.now c.args.lanes c.args.budget) (c.args.source.now ∷ []))
    (λ answer is. refusal line kind (record {
      want = record { name = c.args.name.now; limit = 1048576 };
      source = c.args.source.now;
      want_is = refl;
      source_is = refl;
      refused = subst (IsRefusal c.args.source.now) c.in-Err-Refused.field-0-is c.in-Err-Refused.ensures.refusal;
      only = only-refusal c.args.source.now c.in-Err-Refused.field-0 c.in-Err-Refused.found c.in-Err-Refused.field-0-is c.in-Err-Refused.ensures.only_tree c.in-Err-Refused.ensures.only_refusal;
      answer_is = is;
    }))
    c.refusal.ensures
