-- what is left is a set of integers still
use Rattle.std.proofs.Common.{◌≡◌, ap, sym, subst, ◌∙◌, not, if◌then◌else◌}
use Rattle.mos_value.specs.Indexes.{IsIndexOf, kept}
use Rattle.mos_value.specs.Ranges.{range_members}
use Rattle.mos_value.specs.Sets.{IsSet, has_member}
use Rattle.mos_value.proofs.IndexLemmas.{run-once}
use Rattle.mos_value.proofs.SetLaws.{IsSet-filter}
use Rattle.mos_value.proofs.index.Index.kept.Goals as goal

pub returns-in-Empty : goal.returns-in-Empty
returns-in-Empty c = rw c.in-Empty.is (λ items none left. left ∙ ap (kept c.args.are c.args.others.now) none)

pub returns-in-Run : goal.returns-in-Run
returns-in-Run c =
    rw c.in-Run.is
    (λ items is left.
    c.integers_of.ensures
    (subst IsSet (sym left)
    (IsSet-filter (λ x. if c.args.are then has_member x c.args.others.now else not (has_member x c.args.others.now)) items
    (subst IsSet is.1 (run-once c.in-Run.field-0 c.in-Run.field-1)))))

pub returns-in-Integers : goal.returns-in-Integers
returns-in-Integers c =
    rw c.in-Integers.is
    (λ items is left.
    subst (IsIndexOf c.integers_kept.result) (sym (left ∙ ap (kept c.args.are c.args.others.now) (sym is))) c.integers_kept.ensures)
