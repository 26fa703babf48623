use Rattle.std.proofs.lemmas.Result.{err_from_is_err_and}
use Rattle.mos_typing.specs.Parts.{AreGroups}
use Rattle.mos_typing.proofs.Carrying.{carries_more, carries_fault, carries_end}
use Rattle.mos_typing.proofs.Grouped.{says_last, says_more}
use Rattle.mos_typing.proofs.formal.groups.Goals as goal

pub returns-in_err-done : goal.returns-in_err-done
returns-in_err-done c =
    let p = err_from_is_err_and c.from_residual.result c.from_residual.ensures.1 in
    rw (p.1, p.2)
    (carries_fault (AreGroups c.loop-names.rest.now) (AreGroups c.args.words.now) (AreGroups c.in-Some.after.now) c.loop-names.done c.group.result c.with.result c.in_err-done.field-0.0
    c.loop-names.invariant (says_more c.loop-names.rest.now c.in-Some.names.now c.in-Some.typ.now c.in-Some.after.now c.group.result c.in-Some.ensures.value c.group.ensures) c.in_err-done.was c.with.ensures.nothing c.with.ensures.never)

pub loop-names-preserved : goal.loop-names-preserved
loop-names-preserved c =
    carries_more (AreGroups c.loop-names.rest.now) (AreGroups c.args.words.now) (AreGroups c.in-Some.after.now) c.loop-names.done c.in_ok-done.done c.group.result
    c.loop-names.invariant (says_more c.loop-names.rest.now c.in-Some.names.now c.in-Some.typ.now c.in-Some.after.now c.group.result c.in-Some.ensures.value c.group.ensures) c.in_ok-done.ensures.next

pub returns : goal.returns
returns c =
    carries_end (AreGroups c.loop-names.rest.now) (AreGroups c.args.words.now) c.loop-names.done c.last_group.result c.finish.result
    c.loop-names.invariant (says_last c.loop-names.rest.now c.last_group.result c.in_default.ensures.value c.last_group.ensures) c.finish.ensures
