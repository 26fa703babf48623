-- As the code reads, apart from what the public clauses say: what is said of a whole, from what is
-- said of its parts: where one of them is nothing the whole is nothing, else
-- where one is too high the whole is.

use Rattle.std.specs.Prelude.{List, [], ◌∷◌, ◌++◌, Option, Some, None, Result, Ok, Err}
use Rattle.mos_expr.specs.declared.fault.ExprFault.{ExprFault}
use Rattle.mos_expr.specs.declared.fault.ExprFault.TheVariants as expr_fault

-- a whole of one part
abbrev pub on_ok : {A B : Type 0} → (A → B) → Result A ExprFault → Result B ExprFault
on_ok f (Ok made) = Ok (f made)
on_ok f (Err fault) = Err fault

-- what may be nothing
abbrev pub or_nothing : {A : Type 0} → Option A → Result A ExprFault
or_nothing None = Err expr_fault.NoExpr
or_nothing (Some made) = Ok made

-- two parts side by side
abbrev pub pair : {A B : Type 0} → A → B → A × B
pair first rest = (first, rest)

-- a whole of two parts
abbrev pub both : {A B C : Type 0} → (A → B → C) → Result A ExprFault → Result B ExprFault → Result C ExprFault
both f (Ok made) r = on_ok (f made) r
both f (Err expr_fault.Deep) (Ok more) = Err expr_fault.Deep
both f (Err expr_fault.Deep) (Err fault) = Err fault
both f (Err fault) r = Err fault

-- the items so far, None where one is too high, before what is said of the rest
abbrev pub behind : {A : Type 0} → Option (List A) → Result (List A) ExprFault → Result (List A) ExprFault
behind None (Ok more) = Err expr_fault.Deep
behind None (Err fault) = Err fault
behind (Some done) r = on_ok (λ more. done ++ more) r

-- a list of one item
abbrev pub alone : {A : Type 0} → A → List A
alone made = made ∷ []

-- an item, and the others
abbrev pub first_of : {A : Type 0} → A → List A → List A
first_of made more = made ∷ more

-- two parts of which the first is too high
abbrev pub beside_too_high : {A B : Type 0} → Result B ExprFault → Result (A × B) ExprFault
beside_too_high (Ok rest) = Err expr_fault.Deep
beside_too_high (Err fault) = Err fault
