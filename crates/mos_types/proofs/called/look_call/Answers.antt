-- a call, by what is known of each step
use Rattle.std.proofs.Common.{◌≡◌, IfOk, OnOk, subst}
use Rattle.mos_types.proofs.Joins.{look_call-by}
use Rattle.mos_types.proofs.called.look_call.Goals as goal

pub returns-clause-call : goal.returns-clause-call
returns-clause-call c =
    subst (λ seen. IfOk c.call_of.result (λ x. x ≡ seen.call))
    (look_call-by c.args.name.now c.args.all.now c.args.scope.now c.args.bound.now c.args.worst.now _ _ _ _ _ c.meaning_of-meaning.ensures
    c.in_ok-note_name.ensures c.arguments_of-expected.ensures c.in_ok-all.ensures.trees c.in_ok-all.ensures.worst)
    c.call_of.ensures.call

pub returns-clause-worst : goal.returns-clause-worst
returns-clause-worst c =
    subst (λ seen. OnOk c.call_of.result (c.call_of.new.worst ≡ seen.worst))
    (look_call-by c.args.name.now c.args.all.now c.args.scope.now c.args.bound.now c.args.worst.now _ _ _ _ _ c.meaning_of-meaning.ensures
    c.in_ok-note_name.ensures c.arguments_of-expected.ensures c.in_ok-all.ensures.trees c.in_ok-all.ensures.worst)
    c.call_of.ensures.worst
