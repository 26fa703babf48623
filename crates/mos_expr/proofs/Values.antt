-- What the reader holds of an expression that it has read whole.

use Rattle.std.proofs.Common.{◌≡◌, ℕ, ◌+◌, ◌<◌, ◌≤◌, min, max, Bool, true, false, nat_le, if◌then◌else◌, List, [], ◌∷◌, ◌++◌, Option, Some, None, refl, sym, ◌∙◌, ap, arith}
use Rattle.std.proofs.lemmas.Bool.{leb-true, leb-false}
use Rattle.mos_tree.specs.declared.expr.Expr.{Expr}
use Rattle.mos_tree.specs.declared.expr.Expr.TheVariants as expr_kind
use Rattle.mos_tree.specs.declared.expr.Group.{Group}
use Rattle.mos_tree.specs.declared.expr.Index.{Index}
use Rattle.mos_tree.specs.declared.expr.UnaryOperator.{UnaryOperator}
use Rattle.mos_tree.specs.declared.expr.BinaryOperator.{BinaryOperator}
use Rattle.mos_tree.specs.declared.expr.AggregateOperator.{AggregateOperator}
use Rattle.mos_tree.specs.declared.expr.Conversion.{Conversion}
use Rattle.mos_expr.specs.Grammar.{Syntax, bracket, if_expr, convert, before, between, level, height, tree, binds, level_before}
use Rattle.mos_expr.specs.Operands as operands
use Rattle.mos_expr.specs.declared.operand.Operand.{Operand}
use Rattle.mos_expr.specs.declared.operand.Parts.{Parts}
use Rattle.mos_expr.specs.declared.operand.Groups.{Groups}
use Rattle.mos_expr.specs.declared.operand.WholeIndex.{WholeIndex}

abbrev pub capped : ℕ → ℕ
capped h = min h 501

-- what is not too high
abbrev pub tree_at : {A : Type 0} → ℕ → A → Option A
tree_at h x = if nat_le h 500 then Some x else None

abbrev pub operand_at : ℕ → ℕ → Expr → Operand
operand_at l h x = record { level = l; height = capped h; expr = tree_at h x }

abbrev pub whole : Syntax → Operand
whole s = operand_at (level s) (height s) (tree s)

abbrev pub parts_at : ℕ → List Expr → Parts
parts_at h xs = record { height = capped h; items = tree_at h xs }

abbrev pub groups_at : ℕ → List (Group Expr) → Groups
groups_at h gs = record { height = capped h; items = tree_at h gs }

abbrev pub index_at : ℕ → Index Expr → WholeIndex
index_at h index = record { height = capped h; index = tree_at h index }

-- ---- what is low enough

-- either answer of a test
pub on_bool : {P : Type 0} (b : Bool) → (b ≡ true → P) → (b ≡ false → P) → P
on_bool true yes_case no_case = yes_case refl
on_bool false yes_case no_case = no_case refl

pub low : {A : Type 0} (h : ℕ) (x : A) → h ≤ 500 → tree_at h x ≡ Some x
low h x less = on_bool (nat_le h 500) (λ e. rw e refl) (λ e. absurd (omega (arith, leb-false h 500 e)))

pub high : {A : Type 0} (h : ℕ) (x : A) → 500 < h → tree_at h x ≡ None
high h x more = on_bool (nat_le h 500) (λ e. absurd (omega (arith, leb-true h 500 e))) (λ e. rw e refl)

kept_low : (h : ℕ) (made : Option Expr) → h ≤ 500 → operands.unless_deep h made ≡ made
kept_low h made less = on_bool (nat_le h 500) (λ e. rw e refl) (λ e. absurd (omega (arith, leb-false h 500 e)))

kept_high : (h : ℕ) (made : Option Expr) → 500 < h → operands.unless_deep h made ≡ None
kept_high h made more = on_bool (nat_le h 500) (λ e. absurd (omega (arith, leb-true h 500 e))) (λ e. rw e refl)

-- either it is low enough or it is not
pub by_height : {P : Type 0} (h : ℕ) → (h ≤ 500 → P) → (500 < h → P) → P
by_height h f g = on_bool (nat_le h 500) (λ e. f (leb-true h 500 e)) (λ e. g (leb-false h 500 e))

-- ---- heights

pub higher-capped : (h : ℕ) → operands.higher (capped h) ≡ capped (h + 1)
higher-capped h = omega arith

pub max-capped : (a b : ℕ) → max (capped a) (capped b) ≡ capped (max a b)
max-capped a b = omega arith

-- ---- trees

pub one_at : {A B : Type 0} (f : A → B) (h : ℕ) (x : A) → operands.map1 f (tree_at h x) ≡ tree_at h (f x)
one_at f h x = by_height h
    (λ less. ap (operands.map1 f) (low h x less) ∙ sym (low h (f x) less))
    (λ more. ap (operands.map1 f) (high h x more) ∙ sym (high h (f x) more))

both_low : {A B : Type 0} (a b : ℕ) (x : A) (y : B) → a ≤ 500 → operands.both (Some x) (tree_at b y) ≡ tree_at (max a b) (x, y)
both_low a b x y small = by_height b
    (λ less. ap (operands.both (Some x)) (low b y less) ∙ sym (low (max a b) (x, y) (omega arith)))
    (λ more. ap (operands.both (Some x)) (high b y more) ∙ sym (high (max a b) (x, y) (omega arith)))

both_at : {A B : Type 0} (a b : ℕ) (x : A) (y : B) → operands.both (tree_at a x) (tree_at b y) ≡ tree_at (max a b) (x, y)
both_at a b x y = by_height a
    (λ less. ap (λ z. operands.both z (tree_at b y)) (low a x less) ∙ both_low a b x y less)
    (λ more. ap (λ z. operands.both z (tree_at b y)) (high a x more) ∙ sym (high (max a b) (x, y) (omega arith)))

pub two_at : {A B C : Type 0} (f : A → B → C) (a b : ℕ) (x : A) (y : B) → operands.map2 f (tree_at a x) (tree_at b y) ≡ tree_at (max a b) (f x y)
two_at f a b x y = ap (operands.map1 (λ p. f p.0 p.1)) (both_at a b x y) ∙ one_at (λ p. f p.0 p.1) (max a b) (x, y)

pub three_at : {A B C D : Type 0} (f : A → B → C → D) (a b c : ℕ) (x : A) (y : B) (z : C) → operands.map3 f (tree_at a x) (tree_at b y) (tree_at c z) ≡ tree_at (max a (max b c)) (f x y z)
three_at f a b c x y z =
    ap (operands.map1 (λ p. f p.0 p.1.0 p.1.1)) (ap (operands.both (tree_at a x)) (both_at b c y z) ∙ both_at a (max b c) x (y, z))
    ∙ one_at (λ p. f p.0 p.1.0 p.1.1) (max a (max b c)) (x, (y, z))

-- a node over a part of this height
pub kept_at : (h : ℕ) (x : Expr) → operands.unless_deep (operands.higher (capped h)) (tree_at h x) ≡ tree_at (h + 1) x
kept_at h x = by_height (h + 1)
    (λ less. kept_low (operands.higher (capped h)) (tree_at h x) (omega arith) ∙ low h x (omega arith) ∙ sym (low (h + 1) x less))
    (λ more. kept_high (operands.higher (capped h)) (tree_at h x) (omega arith) ∙ sym (high (h + 1) x more))

-- ---- what is made of whole parts

abbrev operand_with : ℕ → ℕ → Option Expr → Operand
operand_with l h made = record { level = l; height = h; expr = made }

-- a node of this level over parts of this height
made_at : (l g h : ℕ) (made : Option Expr) (x : Expr) → g ≡ capped h → made ≡ tree_at h x → operand_with l (operands.higher g) (operands.unless_deep (operands.higher g) made) ≡ operand_at l (h + 1) x
made_at l g h made x eg em =
    ap (λ k. operand_with l (operands.higher k) (operands.unless_deep (operands.higher k) made)) eg
    ∙ ap (λ m. operand_with l (operands.higher (capped h)) (operands.unless_deep (operands.higher (capped h)) m)) em
    ∙ ap (λ k. operand_with l k (operands.unless_deep (operands.higher (capped h)) (tree_at h x))) (higher-capped h)
    ∙ ap (operand_with l (capped (h + 1))) (kept_at h x)

pub node-whole : (g h : ℕ) (made : Option Expr) (x : Expr) → g ≡ capped h → made ≡ tree_at h x → operands.node g made ≡ operand_at 1 (h + 1) x
node-whole g h made x eg em = made_at 1 g h made x eg em

pub bracketed-whole : (s : Syntax) → operands.bracket_of (whole s) ≡ whole (bracket s)
bracketed-whole s = node-whole (capped (height s)) (height s) (tree_at (height s) (tree s)) (tree s) refl refl

pub convert-whole : (to : Conversion) (s : Syntax) → operands.convert_of to (whole s) ≡ whole (convert to s)
convert-whole to s = node-whole (capped (height s)) (height s) (operands.map1 (operands.convert_expr to) (tree_at (height s) (tree s))) (expr_kind.Convert to (tree s)) refl (one_at (operands.convert_expr to) (height s) (tree s))

pub if_expr-whole : (x y z : Syntax) → operands.if_expr_of (whole x) (whole y) (whole z) ≡ whole (if_expr x y z)
if_expr-whole x y z =
    node-whole _ (max (height x) (max (height y) (height z))) _ (expr_kind.If (tree x) (tree y) (tree z))
    (ap (λ h. max (capped (height x)) h) (max-capped (height y) (height z)) ∙ max-capped (height x) (max (height y) (height z)))
    (three_at operands.if_expr (height x) (height y) (height z) (tree x) (tree y) (tree z))

pub before-whole : (op : UnaryOperator) (s : Syntax) → operands.before_of op (whole s) ≡ whole (before op s)
before-whole op s = made_at (level_before op) (capped (height s)) (height s) (operands.map1 (operands.unary op) (tree_at (height s) (tree s))) (expr_kind.Unary op (tree s)) refl (one_at (operands.unary op) (height s) (tree s))

pub between-whole : (op : BinaryOperator) (x y : Syntax) → operands.between_of op (whole x) (whole y) ≡ whole (between op x y)
between-whole op x y =
    made_at (binds op) (max (capped (height x)) (capped (height y))) (max (height x) (height y)) (operands.map2 (operands.binary op) (tree_at (height x) (tree x)) (tree_at (height y) (tree y))) (expr_kind.Binary op (tree x) (tree y))
    (max-capped (height x) (height y))
    (two_at (operands.binary op) (height x) (height y) (tree x) (tree y))

pub aggregate-whole : (op : AggregateOperator) (h : ℕ) (index : Index Expr) (s : Syntax) → operands.aggregate_of op (index_at h index) (whole s) ≡ operand_at 1 (max h (height s) + 1) (expr_kind.Aggregate op index (tree s))
aggregate-whole op h index s =
    node-whole (max (capped h) (capped (height s))) (max h (height s)) (operands.map2 (operands.aggregate op) (tree_at h index) (tree_at (height s) (tree s))) (expr_kind.Aggregate op index (tree s))
    (max-capped h (height s))
    (two_at (operands.aggregate op) h (height s) index (tree s))

pub counted-whole : (h : ℕ) (index : Index Expr) → operands.counted_of (index_at h index) ≡ operand_at 1 (h + 1) (expr_kind.Count index)
counted-whole h index = node-whole (capped h) h (operands.count (tree_at h index)) (expr_kind.Count index) refl (one_at (λ i. expr_kind.Count i) h index)

-- ---- lists of parts

abbrev parts_and : ℕ → Option (List Expr) → Parts
parts_and h items = record { height = h; items = items }

pub parts-whole : (h : ℕ) (xs : List Expr) (s : Syntax) → operands.parts_with (parts_at h xs) (whole s) ≡ parts_at (max h (height s)) (xs ++ tree s ∷ [])
parts-whole h xs s =
    ap (λ k. parts_and k (operands.map2 operands.append_part (tree_at h xs) (tree_at (height s) (tree s)))) (max-capped h (height s))
    ∙ ap (parts_and (capped (max h (height s)))) (two_at operands.append_part h (height s) xs (tree s))

pub call-whole : (n : List ℕ) (h : ℕ) (xs : List Expr) → operands.call_of n (parts_at h xs) ≡ operand_at 1 (h + 1) (expr_kind.Call n xs)
call-whole n h xs = node-whole (capped h) h (operands.call n (tree_at h xs)) (expr_kind.Call n xs) refl (one_at (λ ys. expr_kind.Call n ys) h xs)

pub call_field-whole : (n : List ℕ) (h : ℕ) (xs : List Expr) (f : List ℕ) → operands.call_field_of n (parts_at h xs) f ≡ operand_at 1 (h + 1) (expr_kind.CallField n xs f)
call_field-whole n h xs f = node-whole (capped h) h (operands.call_field n (tree_at h xs) f) (expr_kind.CallField n xs f) refl (one_at (λ ys. expr_kind.CallField n ys f) h xs)

pub set-whole : (h : ℕ) (xs : List Expr) → operands.set_of (parts_at h xs) ≡ operand_at 1 (h + 1) (expr_kind.Set xs)
set-whole h xs = node-whole (capped h) h (operands.set (tree_at h xs)) (expr_kind.Set xs) refl (one_at (λ ys. expr_kind.Set ys) h xs)

pub list-whole : (h : ℕ) (xs : List Expr) → operands.list_of (parts_at h xs) ≡ operand_at 1 (h + 1) (expr_kind.List xs)
list-whole h xs = node-whole (capped h) h (operands.list (tree_at h xs)) (expr_kind.List xs) refl (one_at (λ ys. expr_kind.List ys) h xs)

-- ---- indexes

abbrev pub group_of : List (List ℕ) → Syntax → Group Expr
group_of names s = record { names = names; set = tree s }

abbrev groups_and : ℕ → Option (List (Group Expr)) → Groups
groups_and h items = record { height = h; items = items }

abbrev ready_and : ℕ → Option (Index Expr) → WholeIndex
ready_and h index = record { height = h; index = index }

abbrev index_and : List (Group Expr) → Option Expr → Index Expr
index_and gs condition = record { groups = gs; condition = condition }

pub groups-whole : (h : ℕ) (gs : List (Group Expr)) (names : List (List ℕ)) (s : Syntax) → operands.groups_with (groups_at h gs) names (whole s) ≡ groups_at (max h (height s + 1)) (gs ++ group_of names s ∷ [])
groups-whole h gs names s =
    ap (λ k. groups_and (max (capped h) k) (operands.map2 (operands.append_group names) (tree_at h gs) (operands.unless_deep (operands.higher (capped (height s))) (tree_at (height s) (tree s))))) (higher-capped (height s))
    ∙ ap (λ k. groups_and k (operands.map2 (operands.append_group names) (tree_at h gs) (operands.unless_deep (operands.higher (capped (height s))) (tree_at (height s) (tree s))))) (max-capped h (height s + 1))
    ∙ ap (λ x. groups_and (capped (max h (height s + 1))) (operands.map2 (operands.append_group names) (tree_at h gs) x)) (kept_at (height s) (tree s))
    ∙ ap (groups_and (capped (max h (height s + 1)))) (two_at (operands.append_group names) h (height s + 1) gs (tree s))

pub index-whole : (h : ℕ) (gs : List (Group Expr)) → operands.whole_index_of (groups_at h gs) ≡ index_at h (record { groups = gs; condition = None })
index-whole h gs = ap (ready_and (capped h)) (one_at (λ g. index_and g None) h gs)

pub conditioned-whole : (h : ℕ) (gs : List (Group Expr)) (s : Syntax) → operands.conditioned_index_of (groups_at h gs) (whole s) ≡ index_at (max h (height s)) (record { groups = gs; condition = Some (tree s) })
conditioned-whole h gs s =
    ap (λ k. ready_and k (operands.map2 operands.index_with_condition (tree_at h gs) (tree_at (height s) (tree s)))) (max-capped h (height s))
    ∙ ap (ready_and (capped (max h (height s)))) (two_at operands.index_with_condition h (height s) gs (tree s))
