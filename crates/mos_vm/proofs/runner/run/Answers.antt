-- by the laws of the machine
use Rattle.std.proofs.Common.{[], sym, subst}
use Rattle.std.proofs.lemmas.Result.{IfOk-weaker}
use Rattle.mos_vm.specs.Running.{IsOverInTime}
use Rattle.mos_vm.specs.Stepping.{world}
use Rattle.mos_vm.proofs.CourseLemmas.{course_by, ticks_of}
use Rattle.mos_vm.proofs.runner.run.Goals as goal

pub go-requires-clause-over : goal.go-requires-clause-over
go-requires-clause-over c =
    subst (IsOverInTime c.args.image.now (world [] c.args.budget)) (sym c.begin.ensures)
    (c.machine_laws.ensures.over_in_time c.args.image.now (world [] c.args.budget) c.in-Begins.values c.requires.keeps)

pub returns-in-Begins-clause-ticks : goal.returns-in-Begins-clause-ticks
returns-in-Begins-clause-ticks c =
    let image = c.args.image.now in
    let begins = rw c.in-Begins.is at c.in_ok-values.ensures in
    let from_there = rw c.begin.ensures at c.go.ensures in
    IfOk-weaker c.go.result _ _
    (λ ran is. ticks_of image c.args.params.now c.args.budget ran c.machine_laws.ensures.ticks_within
    (course_by image c.args.params.now c.args.budget c.in-Begins.values ran (sym begins) is))
    from_there
