-- What is seen of expressions: their typed trees, and what counts of the rules that were broken so far in the piece.

use Rattle.std.specs.Prelude.{List, Option}
use Rattle.mos_text.specs.declared.kind.Kind.{Kind}
use Rattle.mos_text.specs.declared.kind.Kind.TheVariants.{NoType}
use Rattle.mos_sorts.specs.declared.typed.Typed.{Typed}
use Rattle.mos_sorts.specs.declared.typed.Typed.TheVariants as t
use Rattle.mos_sorts.specs.declared.scope.Scope.{Scope}
use Rattle.mos_sorts.specs.declared.scope.Bound.{Bound}
use Rattle.mos_sorts.specs.Kinds.{sooner}

-- what is seen of an expression
pub record Seen : Type 0 where
  pub tree : Typed
  pub worst : Option Kind

-- what is seen of expressions in a row
pub record Row : Type 0 where
  pub trees : List Typed
  pub worst : Option Kind

-- what is seen of an expression in a scope, below these index names, where this counts of what stands before it
abbrev pub Look : Type 0
Look = Scope → List Bound → Option Kind → Seen

-- an expression that has this tree
abbrev pub with_tree : Typed → Option Kind → Seen
with_tree tree worst = record { tree = tree; worst = worst }

-- an expression that nothing gives a type
abbrev pub without_type : Option Kind → Seen
without_type worst = record { tree = t.Wrong; worst = sooner worst NoType }

-- expressions in a row that have these trees
abbrev pub in_row : List Typed → Option Kind → Row
in_row trees worst = record { trees = trees; worst = worst }
