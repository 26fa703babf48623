-- the journal is that of the schedule, which is whole and follows the course of the image
use Rattle.std.proofs.Common.{◌∙◌, List, ap, sym, subst}
use Rattle.job_calls.specs.declared.entry.Entry.{Entry}
use Rattle.job_calls.specs.Runs.{finish_of}
use Rattle.lane_step.specs.Alone.{opening_with}
use Rattle.lane_step.specs.Lines.{IsFirstName}
use Rattle.lane_step.specs.Whole.{IsWhole, HadMemory}
use Rattle.lane_step.proofs.WholeSchedules.{is_whole, finish_is, had_memory}
use Rattle.lane_step.proofs.Following.{follows_sources}
use Rattle.lane_step.proofs.alone.run_alone.Goals as goal

pub returns-clause-whole : goal.returns-clause-whole
returns-clause-whole c =
    let o = opening_with c.args.lanes c.args.budget c.args.params c.args.files in
    subst (λ (journal : List Entry). IsWhole o journal) (sym c.in_ok-journal.ensures) (is_whole o c.end_by-end.result c.requires.opens)

pub returns-clause-follows : goal.returns-clause-follows
returns-clause-follows c = λ others.
    rw (c.in_ok-journal.ensures, c.in_ok-lines.ensures)
    (follows_sources c.args.lanes c.args.budget c.args.params c.args.files c.in_ok-name.name c.args.image.now c.in_ok-ran.ran c.end_by-end.result others
    (subst (λ (files : List _). IsFirstName files c.in_ok-name.name) c.as_slice.ensures c.in_ok-name.ensures)
    c.in_ok-ran.ensures.course c.end_by-end.ensures.end)

pub returns-clause-finish : goal.returns-clause-finish
returns-clause-finish c =
    ap (finish_of 0) c.in_ok-journal.ensures ∙ finish_is (opening_with c.args.lanes c.args.budget c.args.params c.args.files) c.end_by-end.result

pub returns-clause-had_memory : goal.returns-clause-had_memory
returns-clause-had_memory c =
    subst HadMemory (sym c.in_ok-journal.ensures) (had_memory (opening_with c.args.lanes c.args.budget c.args.params c.args.files) c.end_by-end.result c.end_by-end.ensures.own)
