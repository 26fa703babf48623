-- by what is known of each step
use Rattle.std.proofs.Common.{◌≡◌, IfOk, OnOk, option_copied, subst}
use Rattle.mos_types.proofs.Joins.{named-by}
use Rattle.mos_types.proofs.looking.named.Goals as goal

pub returns-clause-tree : goal.returns-clause-tree
returns-clause-tree c =
    subst (λ seen. IfOk c.with_field.result (λ x. x ≡ seen.tree))
    (named-by c.args.side c.args.name.now (option_copied c.args.field) c.args.scope.now c.args.bound.now c.args.worst.now _ _ _ _ _
    c.as_slice.ensures c.meaning_of-meaning.ensures c.in_ok-note_name.ensures c.in_ok-tree.ensures.tree c.in_ok-tree.ensures.worst)
    c.with_field.ensures.tree

pub returns-clause-worst : goal.returns-clause-worst
returns-clause-worst c =
    subst (λ seen. OnOk c.with_field.result (c.with_field.new.worst ≡ seen.worst))
    (named-by c.args.side c.args.name.now (option_copied c.args.field) c.args.scope.now c.args.bound.now c.args.worst.now _ _ _ _ _
    c.as_slice.ensures c.meaning_of-meaning.ensures c.in_ok-note_name.ensures c.in_ok-tree.ensures.tree c.in_ok-tree.ensures.worst)
    c.with_field.ensures.worst
