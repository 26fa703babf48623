-- the job can be opened, its run is never stuck, and it comes to its end
use Rattle.std.proofs.Common.{ℕ, ◌∷◌, [], ◌∙◌, ap, subst, List}
use Rattle.job_calls.specs.declared.entry.Listed.{Listed}
use Rattle.lane_step.specs.Alone.{opening_with}
use Rattle.lane_step.specs.Schedule.{schedule_of}
use Rattle.lane_step.specs.Whole.{IsWhole}
use Rattle.hub_text.specs.ReportText.{report_text}
use Rattle.mosel_run.specs.declared.answer.Deed.TheVariants.{Write, Store}
use Rattle.mosel_run.specs.declared.answer.Put.{Put}
use Rattle.mosel_run.proofs.Opening.{can_open}
use Rattle.mosel_run.proofs.Reports.{is_report}
use Rattle.mosel_run.proofs.run.report.Goals as goal

pub run_alone-requires-clause-opens : goal.run_alone-requires-clause-opens
run_alone-requires-clause-opens c =
    rw (c.no_params.ensures, c.in_ok-files.ensures)
    (can_open c.args.name.now c.args.source.now c.args.lanes c.args.budget c.requires.fit)

pub run_alone-requires-clause-never_stuck : goal.run_alone-requires-clause-never_stuck
run_alone-requires-clause-never_stuck c =
    c.in_ok-image.ensures.never_fails.alone c.no_params.result c.args.budget

pub returns : goal.returns
returns c =
    is_report c.args.name.now c.args.source.now c.args.lanes c.args.budget c.args.tree.now c.in_ok-image.image
    c.in_ok-stepped.stepped.journal c.in_ok-stepped.stepped.lines c.in_ok-stepped.stepped.end c.in_ok-answer.answer
    c.requires.fit.1 c.requires.accepted c.requires.only c.in_ok-image.ensures.means c.in_ok-image.ensures.rules c.in_ok-image.ensures.fields
    (c.in_ok-stepped.ensures.schedule
    ∙ ap (λ (params : List ℕ). schedule_of (opening_with c.args.lanes c.args.budget params c.in_ok-files.files) c.in_ok-stepped.stepped.end) c.no_params.ensures
    ∙ ap (λ (files : List Listed). schedule_of (opening_with c.args.lanes c.args.budget [] files) c.in_ok-stepped.stepped.end) c.in_ok-files.ensures)
    (subst (λ (files : List Listed). IsWhole (opening_with c.args.lanes c.args.budget [] files) c.in_ok-stepped.stepped.journal) c.in_ok-files.ensures
    (subst (λ (params : List ℕ). IsWhole (opening_with c.args.lanes c.args.budget params c.in_ok-files.files) c.in_ok-stepped.stepped.journal) c.no_params.ensures c.in_ok-stepped.ensures.whole))
    (c.in_ok-stepped.ensures.follows [])
    c.in_ok-stepped.ensures.finish
    c.in_ok-stepped.ensures.had_memory
    (c.in_ok-answer.ensures.deeds ∙ ap (λ (put : Put). Write (report_text c.in_ok-stepped.stepped.journal c.in_ok-stepped.stepped.lines) ∷ Store put ∷ []) c.in_ok-put.ensures)
    c.in_ok-answer.ensures.status c.in_ok-answer.ensures.reported
