-- what is found of the rest, behind what was found before, is found of all
use Rattle.std.proofs.Common.{◌≡◌, ◌++◌, List, drop, Ok}
use Rattle.mos_sorts.specs.declared.scope.Scope.{Scope}
use Rattle.mos_checked.specs.declared.step.Step.{Step}
use Rattle.mos_checked.specs.Judging.{then_do}
use Rattle.mos_declarations.specs.Items.{items_found}
use Rattle.mos_declarations.proofs.declaring.items.Given as goal

abbrev pub invariant-loop-one : goal.invariant-loop-one
invariant-loop-one l =
    then_do (items_found (drop l.one-index l.items) l.scope) (λ (b : List Step × Scope). Ok (l.all ++ b.0, b.1)) ≡ items_found l.items l.fn.scope
