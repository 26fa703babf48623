-- How many nodes a tree has, form by form.

use Rattle.std.proofs.Common.{◌≡◌, ℕ, ◌+◌, List, [], ◌∷◌, Option, Some, None, map, refl, sym, ◌∙◌, ap}
use Rattle.std.specs.Prelude.{option_map}
use Rattle.std.proofs.lemmas.List.Sums.{sum-map, sum_by-cons}
use Rattle.mos_tree.specs.declared.expr.Expr.{Expr}
use Rattle.mos_tree.specs.declared.expr.Expr.TheVariants as expr_kind
use Rattle.mos_tree.specs.declared.expr.Expr.TheOpen as open_expr
use Rattle.mos_tree.specs.declared.expr.Expr.TheOpen.{Expr-F}
use Rattle.mos_tree.specs.declared.expr.Expr.TheViews.{roll-Expr}
use Rattle.mos_tree.specs.declared.expr.Expr.TheFolds.{fold-roll-Expr, map-Expr}
use Rattle.mos_tree.specs.declared.expr.Group.{Group}
use Rattle.mos_tree.specs.declared.expr.Index.{Index}
use Rattle.mos_tree.specs.declared.expr.AggregateOperator.{AggregateOperator}
use Rattle.mos_tree.specs.Children.{in_group}
use Rattle.mos_tree.specs.Nodes.{nodes_step, nodes, nodes_in, nodes_in_groups, nodes_in_index, nodes_of_groups, nodes_of_condition, nodes_of_index}

-- ---- lists of parts

pub nodes_in_more : (x : Expr) (xs : List Expr) → nodes_in (x ∷ xs) ≡ nodes x + nodes_in xs
nodes_in_more x xs = sum-map nodes (x ∷ xs) ∙ sum_by-cons nodes x xs ∙ ap (λ z. nodes x + z) (sym (sum-map nodes xs))

abbrev of_group : Group ℕ → ℕ
of_group g = g.set + 1

nodes_of_more : (g : Group ℕ) (gs : List (Group ℕ)) → nodes_of_groups (g ∷ gs) ≡ of_group g + nodes_of_groups gs
nodes_of_more g gs = sum-map of_group (g ∷ gs) ∙ sum_by-cons of_group g gs ∙ ap (λ z. of_group g + z) (sym (sum-map of_group gs))

pub nodes_in_more_groups : (g : Group Expr) (gs : List (Group Expr)) → nodes_in_groups (g ∷ gs) ≡ (nodes g.set + 1) + nodes_in_groups gs
nodes_in_more_groups g gs = nodes_of_more (in_group nodes g) (map (in_group nodes) gs)

-- the nodes of a form, from those of its parts
pub layer : {x : Expr} (z : Expr-F Expr) → roll-Expr z ≡ x → nodes x ≡ nodes_step (map-Expr Expr ℕ nodes z)
layer z e = ap nodes (sym e) ∙ fold-roll-Expr ℕ nodes_step z

-- ---- forms with an index

index_of_layer : Expr-F ℕ → ℕ
index_of_layer (open_expr.Count i) = nodes_of_index i
index_of_layer (open_expr.Aggregate p i x) = nodes_of_index i
index_of_layer _ = 0

layer_groups : Expr-F ℕ → List (Group ℕ)
layer_groups (open_expr.Count i) = i.groups
layer_groups _ = []

condition_of_layer : Expr-F ℕ → ℕ
condition_of_layer (open_expr.Count i) = nodes_of_condition i.condition
condition_of_layer _ = 0

-- the layer with an index, with the nodes of its parts in their place
counts : List (Group Expr) → Option Expr → Expr-F ℕ
counts groups condition = map-Expr Expr ℕ nodes (open_expr.Count (record { groups = groups; condition = condition }))

same_groups : (groups : List (Group Expr)) (condition : Option Expr) → layer_groups (counts groups condition) ≡ map (in_group nodes) groups
unfolding layer_groups counts
same_groups [] condition = refl
same_groups (g ∷ gs) condition = ap (λ z. in_group nodes g ∷ z) (same_groups gs condition)

groups_are : (groups : List (Group Expr)) (condition : Option Expr) → nodes_of_groups (layer_groups (counts groups condition)) ≡ nodes_in_groups groups
groups_are groups condition = ap nodes_of_groups (same_groups groups condition)

condition_is : (groups : List (Group Expr)) (condition : Option Expr) → condition_of_layer (counts groups condition) ≡ nodes_of_condition (option_map nodes condition)
unfolding condition_of_layer counts
condition_is groups None = refl
condition_is groups (Some c) = refl

index_is : (groups : List (Group Expr)) (condition : Option Expr) → index_of_layer (counts groups condition) ≡ nodes_in_index (record { groups = groups; condition = condition })
unfolding index_of_layer layer_groups condition_of_layer counts
index_is groups condition =
    let first : nodes_of_groups (layer_groups (counts groups condition)) ≡ nodes_in_groups groups = groups_are groups condition in
    let second : condition_of_layer (counts groups condition) ≡ nodes_of_condition (option_map nodes condition) = condition_is groups condition in
    ap (λ z. z + condition_of_layer (counts groups condition)) first ∙ ap (λ z. nodes_in_groups groups + z) second

pub nodes_of_aggregate : (p : AggregateOperator) (i : Index Expr) (x : Expr) → nodes (expr_kind.Aggregate p i x) ≡ nodes_in_index i + nodes x + 1
unfolding index_of_layer counts
nodes_of_aggregate p i x =
    layer (open_expr.Aggregate p i x) (expr_kind.rolls-Aggregate p i x)
    ∙ ap (λ z. z + nodes x + 1) (index_is i.groups i.condition)

pub nodes_of_counted : (i : Index Expr) → nodes (expr_kind.Count i) ≡ nodes_in_index i + 1
unfolding index_of_layer counts
nodes_of_counted i = layer (open_expr.Count i) (expr_kind.rolls-Count i) ∙ ap (λ z. z + 1) (index_is i.groups i.condition)
