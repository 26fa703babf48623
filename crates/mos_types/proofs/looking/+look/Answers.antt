-- a name with brackets, by what is known of each step
use Rattle.std.proofs.Common.{◌≡◌, IfOk, OnOk, option_copied, subst}
use Rattle.mos_types.proofs.Joins.{with_brackets-by}
use Rattle.mos_types.proofs.looking.+look.Goals as goal

pub with_brackets-returns-clause-tree : goal.with_brackets-returns-clause-tree
with_brackets-returns-clause-tree t c =
    subst (λ seen. IfOk c.with_field.result (λ x. x ≡ seen.tree))
    (with_brackets-by c.args.side c.args.name.now c.args.all.now (option_copied c.args.field) c.args.scope.now c.args.bound.now c.args.worst.now
    _ _ _ _ _ _ _ _ c.as_slice.ensures c.meaning_of-meaning.ensures c.in_ok-note_name.ensures c.expected_by-expected.ensures
    c.in_ok-all.ensures.trees c.in_ok-all.ensures.worst c.in_ok-tree.ensures.tree c.in_ok-tree.ensures.worst)
    c.with_field.ensures.tree

pub with_brackets-returns-clause-worst : goal.with_brackets-returns-clause-worst
with_brackets-returns-clause-worst t c =
    subst (λ seen. OnOk c.with_field.result (c.with_field.new.worst ≡ seen.worst))
    (with_brackets-by c.args.side c.args.name.now c.args.all.now (option_copied c.args.field) c.args.scope.now c.args.bound.now c.args.worst.now
    _ _ _ _ _ _ _ _ c.as_slice.ensures c.meaning_of-meaning.ensures c.in_ok-note_name.ensures c.expected_by-expected.ensures
    c.in_ok-all.ensures.trees c.in_ok-all.ensures.worst c.in_ok-tree.ensures.tree c.in_ok-tree.ensures.worst)
    c.with_field.ensures.worst
