-- Which expressions have the form of a constant one: literals, constants, sets and lists of such expressions, and
-- operators between them.

use Rattle.std.specs.Prelude.{Bool, true, false, ◌&&◌, List, map, Option, Some}
use Rattle.std.specs.List.{list_all}
use Rattle.mos_names.specs.NameLists.{Name}
use Rattle.mos_tree.specs.declared.expr.Expr.{Expr}
use Rattle.mos_tree.specs.declared.expr.Expr.TheOpen.{Expr-F, Integer, Text, Truth, Name as Named, Set, List as ListOf, Unary, Binary}
use Rattle.mos_tree.specs.declared.expr.Expr.TheFolds.{fold-Expr}
use Rattle.mos_sorts.specs.declared.scope.Scope.{Scope}
use Rattle.mos_sorts.specs.declared.scope.Role.{Role}
use Rattle.mos_sorts.specs.declared.scope.Role.TheVariants.{Constant}
use Rattle.mos_sorts.specs.declared.typed.Where.{Where}
use Rattle.mos_sorts.specs.Scopes.{declared_as}

-- the name is declared as a constant
abbrev pub is_constant : Option (Where × Role) → Bool
is_constant (Some (place, Constant sort value)) = true
is_constant _ = false

-- the names that a constant expression may have are those of constants
abbrev pub names_constant : Name → Scope → Bool
names_constant name scope = is_constant (declared_as name scope)

-- of an expression whose parts have the form or lack it
abbrev pub form_step : Scope → Expr-F Bool → Bool
form_step scope (Integer n) = true
form_step scope (Text text) = true
form_step scope (Truth b) = true
form_step scope (Named name) = names_constant name scope
form_step scope (Set all) = list_all (λ part. part) all
form_step scope (ListOf all) = list_all (λ part. part) all
form_step scope (Unary operator a) = a
form_step scope (Binary operator a b) = a && b
form_step scope _ = false

-- the expression has the form of a constant one
abbrev pub has_constant_form : Scope → Expr → Bool
has_constant_form scope = fold-Expr Bool (form_step scope)

-- each of these has it
abbrev pub have_constant_form : Scope → List Expr → Bool
have_constant_form scope all = list_all (λ part. part) (map (has_constant_form scope) all)
