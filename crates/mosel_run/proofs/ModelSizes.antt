-- A model is no larger than the tree of its source.

use Rattle.std.proofs.Common.{◌≤◌, ℕ, ◌+◌, Bool, true, false, List, [], ◌∷◌, Option, Some, None, ap, subst, map, arith}
use Rattle.std.specs.Prelude.{sum, if◌then◌else◌}
use Rattle.std.proofs.lemmas.List.Sums.{sum-map, sum_by-cons}
use Rattle.mos_tree.specs.Nodes.{nodes_step, nodes, nodes_in}
use Rattle.mos_tree.specs.Sizes.{size_of_reference, size_of_arm, size_step, size_of_statement, size_of_top, size_of_tree}
use Rattle.mos_tree.specs.Children.{in_arm}
use Rattle.mos_tree.specs.declared.expr.Expr.{Expr}
use Rattle.mos_tree.specs.declared.expr.Expr.TheOpen.{Expr-F, Integer, Text, Truth, Name, Returned, Call as CallOf, Field, CallField, Set, List as ListOf, If as IfOf, Convert, Unary, Binary, Aggregate, Count}
use Rattle.mos_tree.specs.declared.expr.Expr.TheFolds.{map-Expr, fold-roll-Expr, ind-Expr}
use Rattle.mos_tree.specs.declared.expr.Expr.TheViews.{roll-Expr}
use Rattle.mos_tree.specs.declared.statement.Arm.{Arm}
use Rattle.mos_tree.specs.declared.statement.Assignment.{Assignment}
use Rattle.mos_tree.specs.declared.statement.Assignment.TheVariants as assignment_kind
use Rattle.mos_tree.specs.declared.statement.Reference.{Reference}
use Rattle.mos_tree.specs.declared.statement.Reference.TheVariants as target
use Rattle.mos_tree.specs.declared.statement.Statement.{Statement}
use Rattle.mos_tree.specs.declared.statement.Statement.TheOpen.{Statement-F, Assign, Fill, Call, If, Case, Forall, While, Repeat, Do, Break, Next, Initializations}
use Rattle.mos_tree.specs.declared.statement.Statement.TheFolds.{map-Statement, fold-roll-Statement, ind-Statement}
use Rattle.mos_tree.specs.declared.statement.Statement.TheViews.{roll-Statement}
use Rattle.mos_tree.specs.declared.source.Top.{Top}
use Rattle.mos_tree.specs.declared.source.Top.TheVariants as top
use Rattle.mos_tree.specs.declared.source.Tree.{Tree}
use Rattle.mos_value.specs.Answers.{Operator}
use Rattle.mos_meaning.specs.Syntax.{Expression, Shown, CoreStatement, write, unbuilt_statement}
use Rattle.mos_meaning.specs.Sources.{operator_of, application, expression_step, expression, shown_of, procedure, assignment, block, core_arms, core_step, core_of, core_of_top, statements_of}
use Rattle.bim_compile.specs.Sizes.{size_of, size_of_all, size_of_core, size_of_arms, size_of_block}

-- expressions

abbrev Within : Expr → Type 0
Within e = size_of (expression e) ≤ nodes e

abbrev SomeExpr : Type 0
SomeExpr = (e : Expr) × Within e

abbrev WithinLayer : Expr-F Expr → Type 0
WithinLayer z = size_of (expression_step (map-Expr Expr Expression expression z)) ≤ nodes_step (map-Expr Expr ℕ nodes z)

of-layer : (z : Expr-F Expr) → WithinLayer z → Within (roll-Expr z)
of-layer z h =
    let e = ap size_of (fold-roll-Expr Expression expression_step z) in
    let n = fold-roll-Expr ℕ nodes_step z in
    omega (arith, e, n, h)

applied-within : (o : Option Operator) (a b : Expression) (n m : ℕ) → size_of a ≤ n → size_of b ≤ m → size_of (application o a b) ≤ n + m + 1
applied-within None a b n m h k = omega arith
applied-within (Some o) a b n m h k = omega arith

layer : (y : Expr-F SomeExpr) → WithinLayer (map-Expr SomeExpr Expr (λ e. e.0) y)
layer (Integer n) = omega arith
layer (Text t) = omega arith
layer (Truth b) = omega arith
layer (Name n) = omega arith
layer Returned = omega arith
layer (CallOf name all) = omega arith
layer (Field name field) = omega arith
layer (CallField name all field) = omega arith
layer (Set all) = omega arith
layer (ListOf all) = omega arith
layer (IfOf a b c) = omega arith
layer (Convert to a) = omega arith
layer (Unary o a) = omega arith
layer (Binary o a b) = applied-within (operator_of o) (expression a.0) (expression b.0) (nodes a.0) (nodes b.0) a.1 b.1
layer (Aggregate o index body) = omega arith
layer (Count index) = omega arith

expression-within : (e : Expr) → Within e
expression-within = ind-Expr Within (λ x y is. subst (λ z. Within (roll-Expr z)) is (of-layer (map-Expr SomeExpr Expr (λ e. e.0) y) (layer y)))

-- what is printed
shown-within : (all : List Expr) → size_of_all (shown_of (map expression all)) ≤ nodes_in all
shown-within [] = omega arith
shown-within (e ∷ es) =
    omega (arith, expression-within e, shown-within es, sum-map nodes (e ∷ es), sum-map nodes es, sum_by-cons nodes e es)

-- statements

assignment-within : (line : ℕ) (to : Reference) (o : Assignment) (e : Expression) (n : ℕ) → size_of e ≤ n
    → size_of_core (assignment line to o e) ≤ size_of_reference to + n + 1
assignment-within line (target.Name name) assignment_kind.Set e n h = omega arith
assignment-within line (target.Name name) assignment_kind.Add e n h = omega arith
assignment-within line (target.Name name) assignment_kind.Take e n h = omega arith
assignment-within line (target.Cell name all) o e n h = omega arith
assignment-within line (target.Field name field) o e n h = omega arith
assignment-within line (target.CellField name all field) o e n h = omega arith
assignment-within line target.Returned o e n h = omega arith

by-name : (line : ℕ) (first second : Bool) (all : Shown)
    → size_of_core (if first then write line true all else (if second then write line false all else unbuilt_statement)) ≤ size_of_all all + 1
by-name line true second all = omega arith
by-name line false true all = omega arith
by-name line false false all = omega arith

called-within : (line : ℕ) (called : List ℕ) (all : Shown) → size_of_core (procedure line called all) ≤ size_of_all all + 1
called-within line called all = by-name line _ _ all

abbrev StatementWithin : Statement → Type 0
StatementWithin s = size_of_core (core_of s) ≤ size_of_statement s

abbrev SomeStatement : Type 0
SomeStatement = (s : Statement) × StatementWithin s

-- the statement itself
abbrev self : SomeStatement → Statement
self s = s.0

block-within : (all : List SomeStatement) → size_of_block (block (map core_of (map self all))) ≤ sum (map size_of_statement (map self all))
block-within [] = omega arith
block-within (s ∷ all) =
    omega (arith, s.1, block-within all, sum-map size_of_statement (map self (s ∷ all)), sum-map size_of_statement (map self all), sum_by-cons size_of_statement s.0 (map self all))

arms-within : (arms : List (Arm SomeStatement)) (last : List SomeStatement)
    → size_of_arms (core_arms (map (in_arm core_of) (map (in_arm self) arms)) (map core_of (map self last)))
    ≤ sum (map size_of_arm (map (in_arm size_of_statement) (map (in_arm self) arms))) + sum (map size_of_statement (map self last))
arms-within [] last = let rest = block-within last in omega (arith, rest)
arms-within (arm ∷ arms) last =
    let sizes : List (Arm ℕ) = map (in_arm size_of_statement) (map (in_arm self) arms) in
    let one : Arm ℕ = in_arm size_of_statement (in_arm self arm) in
    omega (
      arith,
      expression-within arm.condition,
      block-within arm.body,
      arms-within arms last,
      sum-map size_of_arm (one ∷ sizes),
      sum-map size_of_arm sizes,
      sum_by-cons size_of_arm one sizes,
    )

abbrev StatementLayer : Statement-F Statement → Type 0
StatementLayer z = size_of_core (core_step (map-Statement Statement CoreStatement core_of z)) ≤ size_step (map-Statement Statement ℕ size_of_statement z)

of-statement : (z : Statement-F Statement) → StatementLayer z → StatementWithin (roll-Statement z)
of-statement z h =
    let e = ap size_of_core (fold-roll-Statement CoreStatement core_step z) in
    let n = fold-roll-Statement ℕ size_step z in
    omega (arith, e, n, h)

statement-layer : (y : Statement-F SomeStatement) → StatementLayer (map-Statement SomeStatement Statement self y)
statement-layer (Assign line to o value) = assignment-within line to o (expression value) (nodes value) (expression-within value)
statement-layer (Call line called all) =
    let called = called-within line called (shown_of (map expression all)) in omega (arith, called, shown-within all)
statement-layer (If line arms last) = omega (arith, arms-within arms last)
statement-layer (While line condition body) = omega (arith, expression-within condition, body.1)
statement-layer (Do line body) = omega (arith, block-within body)
statement-layer (Break line) = omega arith
statement-layer (Next line) = omega arith
statement-layer (Fill line name values) = omega arith
statement-layer (Case line value alternatives last) = omega arith
statement-layer (Forall line index body) = omega arith
statement-layer (Repeat line body until_line condition) = omega arith
statement-layer (Initializations line direction name labels) = omega arith

statement-within : (s : Statement) → StatementWithin s
statement-within = ind-Statement StatementWithin (λ x y is. subst (λ z. StatementWithin (roll-Statement z)) is (of-statement (map-Statement SomeStatement Statement self y) (statement-layer y)))

-- sources

top-within : (t : Top) → size_of_core (core_of_top t) ≤ size_of_top t
top-within (top.Statement s) = statement-within s
top-within (top.Parameters line parameters) = omega arith
top-within (top.Declarations declared) = omega arith
top-within (top.Routine routine) = omega arith
top-within (top.Forward heading) = omega arith

tops-within : (tops : List Top) → size_of_block (block (map core_of_top tops)) ≤ sum (map size_of_top tops)
tops-within [] = omega arith
tops-within (t ∷ tops) =
    omega (arith, top-within t, tops-within tops, sum-map size_of_top (t ∷ tops), sum-map size_of_top tops, sum_by-cons size_of_top t tops)

pub model_within : (tree : Tree) → size_of_block (statements_of tree) ≤ size_of_tree tree
model_within tree = tops-within tree.tops
