-- Expressions of a form that can be run, whose names are known, are sums, conditions or texts.

use Rattle.std.proofs.Common.{◌≡◌, ℕ, true, List, Option, None, sym, ap, ◌∙◌, subst}
use Rattle.mos_tree.specs.declared.expr.BinaryOperator.{BinaryOperator}
use Rattle.mos_tree.specs.declared.expr.BinaryOperator.TheVariants.{Plus, Minus, Equal, NotEqual, Less, AtMost, Greater, AtLeast}
use Rattle.mos_tree.specs.declared.expr.Expr.{Expr}
use Rattle.mos_tree.specs.declared.expr.Expr.TheOpen.{Expr-F, Integer, Text, Truth, Name, Binary}
use Rattle.mos_tree.specs.declared.expr.Expr.TheFolds.{map-Expr, fold-roll-Expr, ind-Expr}
use Rattle.mos_tree.specs.declared.expr.Expr.TheViews.{roll-Expr}
use Rattle.mos_value.specs.Answers.{sum, difference, compare}
use Rattle.mos_value.specs.Answers as comparison
use Rattle.mos_meaning.specs.Syntax.{Expression, number, text, truth, variable, index, apply, range_of, sum_over, invoke, ask_hub, unbuilt}
use Rattle.mos_meaning.specs.Sources.{operator_of, application, expression, expression_step}
use Rattle.mos_check.specs.declared.form.Form.{Form}
use Rattle.mos_check.specs.declared.form.Form.TheVariants as form
use Rattle.mos_check.specs.Forms.{of_sums, form_of_binary, form_step, form_of, is_sum, is_condition, is_shown}
use Rattle.mos_check.specs.Names.{Names, unknown_step, unknown_in}
use Rattle.mos_meaning.specs.Working.{IsNumeric, IsShown, IsCondition}
use Rattle.mos_check.proofs.KnownNames.{Within, none-both, known-is}

abbrev IsText : Expression → Type 0
IsText (text t) = Unit {0}
IsText _ = ⊥

-- what an expression of this form is
abbrev Is : Form → Names → Expression → Type 0
Is form.Sum names e = IsNumeric names e
Is form.Text names e = IsText e
Is form.Condition names e = IsCondition names e
Is form.Other names e = Unit {0}

-- two sums with an operator between them
with-sums : (made a b : Form) (names : Names) (left right whole : Expression) → (IsNumeric names left → IsNumeric names right → Is made names whole)
    → Is a names left → Is b names right → Is (of_sums made a b) names whole
with-sums made form.Sum form.Sum names left right whole go h k = go h k
with-sums made form.Sum _ names left right whole go h k = tt
with-sums made _ b names left right whole go h k = tt

binary-is : (op : BinaryOperator) (a b : Form) (names : Names) (left right : Expression) → Is a names left → Is b names right
    → Is (form_of_binary op a b) names (application (operator_of op) left right)
binary-is Plus a b names left right h k = with-sums form.Sum a b names left right (apply sum left right) (λ x y. (tt, x, y)) h k
binary-is Minus a b names left right h k = with-sums form.Sum a b names left right (apply difference left right) (λ x y. (tt, x, y)) h k
binary-is Equal a b names left right h k = with-sums form.Condition a b names left right (apply (compare comparison.equal) left right) (λ x y. (x, y)) h k
binary-is NotEqual a b names left right h k = with-sums form.Condition a b names left right (apply (compare comparison.not_equal) left right) (λ x y. (x, y)) h k
binary-is Less a b names left right h k = with-sums form.Condition a b names left right (apply (compare comparison.less) left right) (λ x y. (x, y)) h k
binary-is AtMost a b names left right h k = with-sums form.Condition a b names left right (apply (compare comparison.at_most) left right) (λ x y. (x, y)) h k
binary-is Greater a b names left right h k = with-sums form.Condition a b names left right (apply (compare comparison.greater) left right) (λ x y. (x, y)) h k
binary-is AtLeast a b names left right h k = with-sums form.Condition a b names left right (apply (compare comparison.at_least) left right) (λ x y. (x, y)) h k
binary-is _ a b names left right h k = tt

abbrev Known : Expr → Type 0
Known e = (known names : Names) → Within known names → unknown_in e known ≡ None → Is (form_of e) names (expression e)

-- the same of one layer
abbrev KnownLayer : Expr-F Expr → Type 0
KnownLayer z = (known names : Names) → Within known names → unknown_step (map-Expr Expr (Names → Option (List ℕ)) unknown_in z) known ≡ None
    → Is (form_step (map-Expr Expr Form form_of z)) names (expression_step (map-Expr Expr Expression expression z))

of-layer : (z : Expr-F Expr) → KnownLayer z → Known (roll-Expr z)
of-layer z h known names within none =
    let e = fold-roll-Expr Expression expression_step z in
    let f = fold-roll-Expr Form form_step z in
    let u = fold-roll-Expr (Names → Option (List ℕ)) unknown_step z in
    subst (λ (k : Form). Is k names (expression (roll-Expr z))) (sym f)
    (subst (Is (form_step (map-Expr Expr Form form_of z)) names) (sym e) (h known names within (sym (ap (λ g. g known) u) ∙ none)))

layer : (y : Expr-F ((e : Expr) × Known e)) → KnownLayer (map-Expr ((e : Expr) × Known e) Expr (λ e. e.0) y)
layer (Integer n) known names within none = tt
layer (Name n) known names within none = within n (known-is known n none)
layer (Text t) known names within none = tt
layer (Truth b) known names within none = tt
layer (Binary op a b) known names within none =
    let both = none-both (unknown_in a.0 known) (unknown_in b.0 known) none in
    binary-is op (form_of a.0) (form_of b.0) names (expression a.0) (expression b.0) (a.1 known names within both.0) (b.1 known names within both.1)
layer _ known names within none = tt

known-expression : (e : Expr) → Known e
known-expression = ind-Expr Known (λ x y is. subst (λ z. Known (roll-Expr z)) is (of-layer (map-Expr ((e : Expr) × Known e) Expr (λ e. e.0) y) (layer y)))

sum-by : (f : Form) (names : Names) (e : Expression) → Is f names e → is_sum f ≡ true → IsNumeric names e
sum-by form.Sum names e h is = h
sum-by form.Text names e h is = absurd cc
sum-by form.Condition names e h is = absurd cc
sum-by form.Other names e h is = absurd cc

pub sum-numeric : (e : Expr) (known names : Names) → Within known names → is_sum (form_of e) ≡ true → unknown_in e known ≡ None → IsNumeric names (expression e)
sum-numeric e known names within is none = sum-by (form_of e) names (expression e) (known-expression e known names within none) is

condition-by : (f : Form) (names : Names) (e : Expression) → Is f names e → is_condition f ≡ true → IsCondition names e
condition-by form.Condition names e h is = h
condition-by form.Sum names e h is = absurd cc
condition-by form.Text names e h is = absurd cc
condition-by form.Other names e h is = absurd cc

pub condition-is : (e : Expr) (known names : Names) → Within known names → is_condition (form_of e) ≡ true → unknown_in e known ≡ None → IsCondition names (expression e)
condition-is e known names within is none = condition-by (form_of e) names (expression e) (known-expression e known names within none) is

text-shown : (names : Names) (e : Expression) → IsText e → IsShown names e
text-shown names (text t) h = tt
text-shown names (number n) h = absurd h
text-shown names (truth b) h = absurd h
text-shown names (variable scope n) h = absurd h
text-shown names (apply operator a b) h = absurd h
text-shown names (index n) h = absurd h
text-shown names (range_of a b) h = absurd h
text-shown names (sum_over i set condition body) h = absurd h
text-shown names (invoke routine all) h = absurd h
text-shown names (ask_hub function all) h = absurd h
text-shown names unbuilt h = absurd h

numeric-shown : (names : Names) (e : Expression) → IsNumeric names e → IsShown names e
numeric-shown names (text t) h = absurd h
numeric-shown names (number n) h = h
numeric-shown names (truth b) h = absurd h
numeric-shown names (variable scope n) h = h
numeric-shown names (apply operator a b) h = h
numeric-shown names (index n) h = absurd h
numeric-shown names (range_of a b) h = absurd h
numeric-shown names (sum_over i set condition body) h = absurd h
numeric-shown names (invoke routine all) h = absurd h
numeric-shown names (ask_hub function all) h = absurd h
numeric-shown names unbuilt h = absurd h

shown-by : (f : Form) (names : Names) (e : Expression) → Is f names e → is_shown f ≡ true → IsShown names e
shown-by form.Sum names e h is = numeric-shown names e h
shown-by form.Text names e h is = text-shown names e h
shown-by form.Condition names e h is = absurd cc
shown-by form.Other names e h is = absurd cc

pub shown-is : (e : Expr) (known names : Names) → Within known names → is_shown (form_of e) ≡ true → unknown_in e known ≡ None → IsShown names (expression e)
shown-is e known names within is none = shown-by (form_of e) names (expression e) (known-expression e known names within none) is
