-- What an expression is, as far as expressions can be run.

use Rattle.std.specs.Prelude.{Bool, true, false}
use Rattle.mos_tree.specs.declared.expr.Expr.{Expr}
use Rattle.mos_tree.specs.declared.expr.Expr.TheOpen.{Expr-F}
use Rattle.mos_tree.specs.declared.expr.Expr.TheOpen as expr
use Rattle.mos_tree.specs.declared.expr.Expr.TheFolds.{fold-Expr}
use Rattle.mos_tree.specs.declared.expr.BinaryOperator.{BinaryOperator}
use Rattle.mos_tree.specs.declared.expr.BinaryOperator.TheVariants.{Times, Div, Mod, Inter, Plus, Minus, Union, Range, Equal, NotEqual, Less, AtMost, Greater, AtLeast, In, NotIn, And, Or}
use Rattle.mos_check.specs.declared.form.Form.{Form}
use Rattle.mos_check.specs.declared.form.Form.TheVariants as form

-- this, where both operands are sums
abbrev pub of_sums : Form → Form → Form → Form
of_sums made form.Sum form.Sum = made
of_sums made _ _ = form.Other

-- an operator between two operands of these forms
abbrev pub form_of_binary : BinaryOperator → Form → Form → Form
form_of_binary Plus a b = of_sums form.Sum a b
form_of_binary Minus a b = of_sums form.Sum a b
form_of_binary Equal a b = of_sums form.Condition a b
form_of_binary NotEqual a b = of_sums form.Condition a b
form_of_binary Less a b = of_sums form.Condition a b
form_of_binary AtMost a b = of_sums form.Condition a b
form_of_binary Greater a b = of_sums form.Condition a b
form_of_binary AtLeast a b = of_sums form.Condition a b
form_of_binary Times a b = form.Other
form_of_binary Div a b = form.Other
form_of_binary Mod a b = form.Other
form_of_binary Inter a b = form.Other
form_of_binary Union a b = form.Other
form_of_binary Range a b = form.Other
form_of_binary In a b = form.Other
form_of_binary NotIn a b = form.Other
form_of_binary And a b = form.Other
form_of_binary Or a b = form.Other

-- an expression, by the forms of its parts
abbrev pub form_step : Expr-F Form → Form
form_step (expr.Integer n) = form.Sum
form_step (expr.Text t) = form.Text
form_step (expr.Truth b) = form.Condition
form_step (expr.Name n) = form.Sum
form_step expr.Returned = form.Other
form_step (expr.Call n all) = form.Other
form_step (expr.Field n field) = form.Other
form_step (expr.CallField n all field) = form.Other
form_step (expr.Set all) = form.Other
form_step (expr.List all) = form.Other
form_step (expr.If a b c) = form.Other
form_step (expr.Convert to a) = form.Other
form_step (expr.Unary operator a) = form.Other
form_step (expr.Binary operator a b) = form_of_binary operator a b
form_step (expr.Aggregate operator over a) = form.Other
form_step (expr.Count over) = form.Other

-- what an expression is
abbrev pub form_of : Expr → Form
form_of = fold-Expr Form form_step

-- literals and names with `+` and `-` between them
abbrev pub is_sum : Form → Bool
is_sum form.Sum = true
is_sum _ = false

-- a truth value or a comparison
abbrev pub is_condition : Form → Bool
is_condition form.Condition = true
is_condition _ = false

-- what can be printed
abbrev pub is_shown : Form → Bool
is_shown form.Sum = true
is_shown form.Text = true
is_shown _ = false
