use Rattle.std.proofs.lemmas.Result.{err_from_is_err_and}
use Rattle.mos_typing.specs.Parts.{AreDimensions}
use Rattle.mos_typing.proofs.Carrying.{carries_more, carries_fault, carries_end}
use Rattle.mos_typing.proofs.Dimensioned.{says_last, says_more}
use Rattle.mos_typing.proofs.dimension.dimensions.Goals as goal

pub returns-in_err-done : goal.returns-in_err-done
returns-in_err-done c =
    let p = err_from_is_err_and c.from_residual.result c.from_residual.ensures.1 in
    rw (p.1, p.2)
    (carries_fault (AreDimensions c.loop-first.rest.now) (AreDimensions c.args.words.now) (AreDimensions c.in-Some.after.now) c.loop-first.done c.dimension.result c.with.result c.in_err-done.field-0.0
    c.loop-first.invariant (says_more c.loop-first.rest.now c.in-Some.first.now c.in-Some.after.now c.dimension.result c.in-Some.ensures.value c.dimension.ensures) c.in_err-done.was c.with.ensures.nothing c.with.ensures.never)

pub loop-first-preserved : goal.loop-first-preserved
loop-first-preserved c =
    carries_more (AreDimensions c.loop-first.rest.now) (AreDimensions c.args.words.now) (AreDimensions c.in-Some.after.now) c.loop-first.done c.in_ok-done.done c.dimension.result
    c.loop-first.invariant (says_more c.loop-first.rest.now c.in-Some.first.now c.in-Some.after.now c.dimension.result c.in-Some.ensures.value c.dimension.ensures) c.in_ok-done.ensures.next

pub returns : goal.returns
returns c =
    carries_end (AreDimensions c.loop-first.rest.now) (AreDimensions c.args.words.now) c.loop-first.done c.dimension-2.result c.finish.result
    c.loop-first.invariant (says_last c.loop-first.rest.now c.dimension-2.result c.in_default.ensures.value c.dimension-2.ensures) c.finish.ensures
