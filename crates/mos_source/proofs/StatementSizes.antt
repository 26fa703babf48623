-- The size of a statement, form by form.

use Rattle.std.proofs.Common.{◌≡◌, ℕ, ◌+◌, List, [], ◌∷◌, map, refl, sym, ◌∙◌, ap}
use Rattle.std.specs.Prelude.{sum}
use Rattle.mos_tree.specs.declared.expr.Expr.{Expr}
use Rattle.mos_tree.specs.declared.expr.Index.{Index}
use Rattle.mos_tree.specs.declared.statement.Arm.{Arm}
use Rattle.mos_tree.specs.declared.statement.Alternative.{Alternative}
use Rattle.mos_tree.specs.declared.statement.Assignment.{Assignment}
use Rattle.mos_tree.specs.declared.statement.Direction.{Direction}
use Rattle.mos_tree.specs.declared.statement.LabelGroup.{LabelGroup}
use Rattle.mos_tree.specs.declared.statement.Reference.{Reference}
use Rattle.mos_tree.specs.declared.statement.Statement.{Statement}
use Rattle.mos_tree.specs.declared.statement.Statement.TheVariants as statement_kind
use Rattle.mos_tree.specs.declared.statement.Statement.TheOpen as open_statement
use Rattle.mos_tree.specs.declared.statement.Statement.TheOpen.{Statement-F}
use Rattle.mos_tree.specs.declared.statement.Statement.TheFolds.{fold-roll-Statement, map-Statement}
use Rattle.mos_tree.specs.Children.{in_arm, in_alternative}
use Rattle.mos_tree.specs.Nodes.{nodes, nodes_in, nodes_in_index}
use Rattle.mos_tree.specs.Sizes.{size_of_reference, size_of_arm, size_of_alternative, size_step, size_of_statement}

-- statements one after the other
abbrev pub size_of_block : List Statement → ℕ
size_of_block all = sum (map size_of_statement all)

abbrev pub size_of_whole_arm : Arm Statement → ℕ
size_of_whole_arm arm = nodes arm.condition + size_of_block arm.body + 1

abbrev pub size_of_whole_alternative : Alternative Statement → ℕ
size_of_whole_alternative x = nodes_in x.labels + size_of_statement x.body + 1

pub size_of_assign : (line : ℕ) (target : Reference) (operator : Assignment) (value : Expr) → size_of_statement (statement_kind.Assign line target operator value) ≡ size_of_reference target + nodes value + 1
size_of_assign line target operator value = ap size_of_statement (sym (statement_kind.rolls-Assign line target operator value)) ∙ fold-roll-Statement ℕ size_step (open_statement.Assign line target operator value)

pub size_of_fill : (line : ℕ) (name : List ℕ) (values : List Expr) → size_of_statement (statement_kind.Fill line name values) ≡ nodes_in values + 1
size_of_fill line name values = ap size_of_statement (sym (statement_kind.rolls-Fill line name values)) ∙ fold-roll-Statement ℕ size_step (open_statement.Fill line name values)

pub size_of_call : (line : ℕ) (name : List ℕ) (arguments : List Expr) → size_of_statement (statement_kind.Call line name arguments) ≡ nodes_in arguments + 1
size_of_call line name arguments = ap size_of_statement (sym (statement_kind.rolls-Call line name arguments)) ∙ fold-roll-Statement ℕ size_step (open_statement.Call line name arguments)

pub size_of_forall : (line : ℕ) (index : Index Expr) (body : Statement) → size_of_statement (statement_kind.Forall line index body) ≡ nodes_in_index index + size_of_statement body + 1
size_of_forall line index body = ap size_of_statement (sym (statement_kind.rolls-Forall line index body)) ∙ fold-roll-Statement ℕ size_step (open_statement.Forall line index body)

pub size_of_while : (line : ℕ) (condition : Expr) (body : Statement) → size_of_statement (statement_kind.While line condition body) ≡ nodes condition + size_of_statement body + 1
size_of_while line condition body = ap size_of_statement (sym (statement_kind.rolls-While line condition body)) ∙ fold-roll-Statement ℕ size_step (open_statement.While line condition body)

pub size_of_repeat : (line : ℕ) (body : List Statement) (until : ℕ) (condition : Expr) → size_of_statement (statement_kind.Repeat line body until condition) ≡ size_of_block body + nodes condition + 1
size_of_repeat line body until condition = ap size_of_statement (sym (statement_kind.rolls-Repeat line body until condition)) ∙ fold-roll-Statement ℕ size_step (open_statement.Repeat line body until condition)

pub size_of_do : (line : ℕ) (body : List Statement) → size_of_statement (statement_kind.Do line body) ≡ size_of_block body + 1
size_of_do line body = ap size_of_statement (sym (statement_kind.rolls-Do line body)) ∙ fold-roll-Statement ℕ size_step (open_statement.Do line body)

pub size_of_break : (line : ℕ) → size_of_statement (statement_kind.Break line) ≡ 1
size_of_break line = ap size_of_statement (sym (statement_kind.rolls-Break line)) ∙ fold-roll-Statement ℕ size_step (open_statement.Break line)

pub size_of_next : (line : ℕ) → size_of_statement (statement_kind.Next line) ≡ 1
size_of_next line = ap size_of_statement (sym (statement_kind.rolls-Next line)) ∙ fold-roll-Statement ℕ size_step (open_statement.Next line)

pub size_of_initializations : (line : ℕ) (direction : Direction) (name : Expr) (labels : List LabelGroup) → size_of_statement (statement_kind.Initializations line direction name labels) ≡ nodes name + 1
size_of_initializations line direction name labels = ap size_of_statement (sym (statement_kind.rolls-Initializations line direction name labels)) ∙ fold-roll-Statement ℕ size_step (open_statement.Initializations line direction name labels)

-- ---- arms and alternatives

arms_of_layer : Statement-F ℕ → List (Arm ℕ)
arms_of_layer (open_statement.If line arms otherwise) = arms
arms_of_layer _ = []

-- the layer of an `if`, with the sizes of its statements in their place
arms_in : ℕ → List (Arm Statement) → List Statement → Statement-F ℕ
arms_in line arms otherwise = map-Statement Statement ℕ size_of_statement (open_statement.If line arms otherwise)

arms_are : (line : ℕ) (arms : List (Arm Statement)) (otherwise : List Statement) → arms_of_layer (arms_in line arms otherwise) ≡ map (in_arm size_of_statement) arms
unfolding arms_of_layer arms_in
arms_are line [] otherwise = refl
arms_are line (arm ∷ arms) otherwise = ap (λ z. in_arm size_of_statement arm ∷ z) (arms_are line arms otherwise)

sizes_of_arms : (arms : List (Arm Statement)) → map size_of_arm (map (in_arm size_of_statement) arms) ≡ map size_of_whole_arm arms
sizes_of_arms [] = refl
sizes_of_arms (arm ∷ arms) = ap (λ z. size_of_whole_arm arm ∷ z) (sizes_of_arms arms)

pub size_of_if : (line : ℕ) (arms : List (Arm Statement)) (otherwise : List Statement) → size_of_statement (statement_kind.If line arms otherwise) ≡ sum (map size_of_whole_arm arms) + size_of_block otherwise + 1
unfolding arms_of_layer arms_in
size_of_if line arms otherwise =
    ap size_of_statement (sym (statement_kind.rolls-If line arms otherwise)) ∙ fold-roll-Statement ℕ size_step (open_statement.If line arms otherwise)
    ∙ ap (λ z. sum (map size_of_arm z) + size_of_block otherwise + 1) (arms_are line arms otherwise)
    ∙ ap (λ z. sum z + size_of_block otherwise + 1) (sizes_of_arms arms)

alternatives_of_layer : Statement-F ℕ → List (Alternative ℕ)
alternatives_of_layer (open_statement.Case line value alternatives otherwise) = alternatives
alternatives_of_layer _ = []

alternatives_in : ℕ → Expr → List (Alternative Statement) → List Statement → Statement-F ℕ
alternatives_in line value all otherwise = map-Statement Statement ℕ size_of_statement (open_statement.Case line value all otherwise)

alternatives_are : (line : ℕ) (value : Expr) (all : List (Alternative Statement)) (otherwise : List Statement) → alternatives_of_layer (alternatives_in line value all otherwise) ≡ map (in_alternative size_of_statement) all
unfolding alternatives_of_layer alternatives_in
alternatives_are line value [] otherwise = refl
alternatives_are line value (x ∷ xs) otherwise = ap (λ z. in_alternative size_of_statement x ∷ z) (alternatives_are line value xs otherwise)

sizes_of_alternatives : (all : List (Alternative Statement)) → map size_of_alternative (map (in_alternative size_of_statement) all) ≡ map size_of_whole_alternative all
sizes_of_alternatives [] = refl
sizes_of_alternatives (x ∷ xs) = ap (λ z. size_of_whole_alternative x ∷ z) (sizes_of_alternatives xs)

pub size_of_case : (line : ℕ) (value : Expr) (all : List (Alternative Statement)) (otherwise : List Statement) → size_of_statement (statement_kind.Case line value all otherwise) ≡ nodes value + sum (map size_of_whole_alternative all) + size_of_block otherwise + 1
unfolding alternatives_of_layer alternatives_in
size_of_case line value all otherwise =
    ap size_of_statement (sym (statement_kind.rolls-Case line value all otherwise)) ∙ fold-roll-Statement ℕ size_step (open_statement.Case line value all otherwise)
    ∙ ap (λ z. nodes value + sum (map size_of_alternative z) + size_of_block otherwise + 1) (alternatives_are line value all otherwise)
    ∙ ap (λ z. nodes value + sum z + size_of_block otherwise + 1) (sizes_of_alternatives all)
