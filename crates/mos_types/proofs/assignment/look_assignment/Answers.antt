-- by what is known of each side
use Rattle.std.proofs.Common.{◌≡◌, IfOk, OnOk, subst}
use Rattle.mos_types.specs.Assignments as spec
use Rattle.mos_types.proofs.Joins.{declaring-by, assigned_to-by}
use Rattle.mos_types.proofs.assignment.look_assignment.Goals as goal

pub returns-in_ok-value-in-Some-clause-assigned : goal.returns-in_ok-value-in-Some-clause-assigned
returns-in_ok-value-in-Some-clause-assigned c =
    subst (λ seen. IfOk c.declaring.result (λ x. spec.Is x seen))
    (declaring-by c.args.target.now c.args.operator c.args.value.now c.args.scope.now c.args.bound.now c.args.worst.now
    _ _ _ c.in-Some.ensures c.in_ok-value-in-Some.ensures.tree c.in_ok-value-in-Some.ensures.worst)
    c.declaring.ensures.assigned

pub returns-in_ok-value-in-Some-clause-worst : goal.returns-in_ok-value-in-Some-clause-worst
returns-in_ok-value-in-Some-clause-worst c =
    subst (λ seen. OnOk c.declaring.result (c.declaring.new.worst ≡ seen.worst))
    (declaring-by c.args.target.now c.args.operator c.args.value.now c.args.scope.now c.args.bound.now c.args.worst.now
    _ _ _ c.in-Some.ensures c.in_ok-value-in-Some.ensures.tree c.in_ok-value-in-Some.ensures.worst)
    c.declaring.ensures.worst

pub returns-in_ok-value-in-None-clause-assigned : goal.returns-in_ok-value-in-None-clause-assigned
returns-in_ok-value-in-None-clause-assigned c =
    subst (λ seen. IfOk c.assigned_to.result (λ x. spec.Is x seen))
    (assigned_to-by c.args.target.now c.args.operator c.args.value.now c.args.scope.now c.args.bound.now c.args.worst.now
    _ _ _ _ c.in-None.ensures c.in_ok-target-in-None.ensures.tree c.in_ok-target-in-None.ensures.worst c.in_ok-value-in-None.ensures.tree
    c.in_ok-value-in-None.ensures.worst)
    c.assigned_to.ensures.assigned

pub returns-in_ok-value-in-None-clause-worst : goal.returns-in_ok-value-in-None-clause-worst
returns-in_ok-value-in-None-clause-worst c =
    subst (λ seen. OnOk c.assigned_to.result (c.assigned_to.new.worst ≡ seen.worst))
    (assigned_to-by c.args.target.now c.args.operator c.args.value.now c.args.scope.now c.args.bound.now c.args.worst.now
    _ _ _ _ c.in-None.ensures c.in_ok-target-in-None.ensures.tree c.in_ok-target-in-None.ensures.worst c.in_ok-value-in-None.ensures.tree
    c.in_ok-value-in-None.ensures.worst)
    c.assigned_to.ensures.worst
