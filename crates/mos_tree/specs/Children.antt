-- The layers of a tree with something in the place of each expression or statement that stands in them.

use Rattle.std.specs.Prelude.{map, option_map}
use Rattle.mos_tree.specs.declared.expr.Group.{Group}
use Rattle.mos_tree.specs.declared.expr.Index.{Index}
use Rattle.mos_tree.specs.declared.statement.Arm.{Arm}
use Rattle.mos_tree.specs.declared.statement.Alternative.{Alternative}

-- a group of index names, with what is said of its set
abbrev pub in_group : {A B : Type 0} → (A → B) → Group A → Group B
in_group f group = record { names = group.names; set = f group.set }

-- an index, with what is said of its sets and of its condition
abbrev pub in_index : {A B : Type 0} → (A → B) → Index A → Index B
in_index f index = record { groups = map (in_group f) index.groups; condition = option_map f index.condition }

-- an arm of `if`, with what is said of each statement in it
abbrev pub in_arm : {A B : Type 0} → (A → B) → Arm A → Arm B
in_arm f arm = record { line = arm.line; condition = arm.condition; body = map f arm.body }

-- an alternative of `case`, with what is said of its statement
abbrev pub in_alternative : {A B : Type 0} → (A → B) → Alternative A → Alternative B
in_alternative f alternative = record { line = alternative.line; labels = alternative.labels; body = f alternative.body }
