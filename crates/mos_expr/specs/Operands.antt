-- As the code reads, apart from what the public clauses say: what has been read of an operand, which is its level, its height,
-- up to 501, and its tree, unless it is too high.

use Rattle.std.specs.Prelude.{ℕ, ◌+◌, min, max, if◌then◌else◌, nat_le, List, [], ◌∷◌, ◌++◌, Option, Some, None}
use Rattle.mos_tree.specs.declared.expr.Expr.{Expr}
use Rattle.mos_tree.specs.declared.expr.Expr.TheVariants as expr_kind
use Rattle.mos_tree.specs.declared.expr.Group.{Group}
use Rattle.mos_tree.specs.declared.expr.Index.{Index}
use Rattle.mos_tree.specs.declared.expr.UnaryOperator.{UnaryOperator}
use Rattle.mos_tree.specs.declared.expr.BinaryOperator.{BinaryOperator}
use Rattle.mos_tree.specs.declared.expr.AggregateOperator.{AggregateOperator}
use Rattle.mos_tree.specs.declared.expr.Conversion.{Conversion}
use Rattle.mos_expr.specs.Grammar.{binds, level_before}
use Rattle.mos_expr.specs.declared.operand.Operand.{Operand}
use Rattle.mos_expr.specs.declared.operand.Parts.{Parts}
use Rattle.mos_expr.specs.declared.operand.Groups.{Groups}
use Rattle.mos_expr.specs.declared.operand.WholeIndex.{WholeIndex}

-- what is made of parts that are all there
abbrev pub map1 : {A B : Type 0} → (A → B) → Option A → Option B
map1 f None = None
map1 f (Some x) = Some (f x)

-- two parts, where both are there
abbrev pub both : {A B : Type 0} → Option A → Option B → Option (A × B)
both None y = None
both (Some x) y = map1 (λ y. (x, y)) y

-- what is made of two parts
abbrev pub map2 : {A B C : Type 0} → (A → B → C) → Option A → Option B → Option C
map2 f x y = map1 (λ p. f p.0 p.1) (both x y)

-- what is made of three parts
abbrev pub map3 : {A B C D : Type 0} → (A → B → C → D) → Option A → Option B → Option C → Option D
map3 f x y z = map1 (λ p. f p.0 p.1.0 p.1.1) (both x (both y z))

-- a height, up to 501
abbrev pub higher : ℕ → ℕ
higher height = min (height + 1) 501

-- a tree that is not too high
abbrev pub unless_deep : ℕ → Option Expr → Option Expr
unless_deep height made = if nat_le height 500 then made else None

-- a prefix operator and its operand
abbrev pub unary : UnaryOperator → Expr → Expr
unary op x = expr_kind.Unary op x

-- a conversion
abbrev pub convert_expr : Conversion → Expr → Expr
convert_expr to x = expr_kind.Convert to x

-- an operator between two operands
abbrev pub binary : BinaryOperator → Expr → Expr → Expr
binary op x y = expr_kind.Binary op x y

-- `if` with its three parts
abbrev pub if_expr : Expr → Expr → Expr → Expr
if_expr a b c = expr_kind.If a b c

-- an aggregate with its index and its body
abbrev pub aggregate : AggregateOperator → Index Expr → Expr → Expr
aggregate op index x = expr_kind.Aggregate op index x

-- the count of an index
abbrev pub count : Option (Index Expr) → Option Expr
count index = map1 (λ i. expr_kind.Count i) index

-- a call, or a cell
abbrev pub call : List ℕ → Option (List Expr) → Option Expr
call name items = map1 (λ xs. expr_kind.Call name xs) items

-- a field of what a call gives
abbrev pub call_field : List ℕ → Option (List Expr) → List ℕ → Option Expr
call_field name items field = map1 (λ xs. expr_kind.CallField name xs field) items

-- a set of its members
abbrev pub set : Option (List Expr) → Option Expr
set items = map1 (λ xs. expr_kind.Set xs) items

-- a list of its items
abbrev pub list : Option (List Expr) → Option Expr
list items = map1 (λ xs. expr_kind.List xs) items

-- an operand without parts
abbrev pub leaf_of : Expr → Operand
leaf_of x = record { level = 1; height = 1; expr = Some x }

-- a node of this level over parts of this height
abbrev pub node_at : ℕ → ℕ → Option Expr → Operand
node_at level height made = record { level = level; height = higher height; expr = unless_deep (higher height) made }

-- a node that binds tightest
abbrev pub node : ℕ → Option Expr → Operand
node height made = node_at 1 height made

-- an operand in brackets
abbrev pub bracket_of : Operand → Operand
bracket_of x = node x.height x.expr

-- the operand that a conversion is
abbrev pub convert_of : Conversion → Operand → Operand
convert_of to x = node x.height (map1 (convert_expr to) x.expr)

-- the operand that an `if` is
abbrev pub if_expr_of : Operand → Operand → Operand → Operand
if_expr_of a b c = node (max a.height (max b.height c.height)) (map3 if_expr a.expr b.expr c.expr)

-- the operand that a prefix operator makes
abbrev pub before_of : UnaryOperator → Operand → Operand
before_of op x = node_at (level_before op) x.height (map1 (unary op) x.expr)

-- the operand that an operator makes of two
abbrev pub between_of : BinaryOperator → Operand → Operand → Operand
between_of op a b = node_at (binds op) (max a.height b.height) (map2 (binary op) a.expr b.expr)

-- the operand that an aggregate is
abbrev pub aggregate_of : AggregateOperator → WholeIndex → Operand → Operand
aggregate_of op index x = node (max index.height x.height) (map2 (aggregate op) index.index x.expr)

-- the operand that a count is
abbrev pub counted_of : WholeIndex → Operand
counted_of index = node index.height (count index.index)

-- nothing between the brackets yet
abbrev pub no_parts : Parts
no_parts = record { height = 0; items = Some [] }

-- one more tree
abbrev pub append_part : List Expr → Expr → List Expr
append_part xs x = xs ++ x ∷ []

-- one more operand between the brackets
abbrev pub parts_with : Parts → Operand → Parts
parts_with parts x = record { height = max parts.height x.height; items = map2 append_part parts.items x.expr }

-- the operand that a call is
abbrev pub call_of : List ℕ → Parts → Operand
call_of name parts = node parts.height (call name parts.items)

-- the operand that a field of a call is
abbrev pub call_field_of : List ℕ → Parts → List ℕ → Operand
call_field_of name parts field = node parts.height (call_field name parts.items field)

-- the operand that a set is
abbrev pub set_of : Parts → Operand
set_of parts = node parts.height (set parts.items)

-- the operand that a list is
abbrev pub list_of : Parts → Operand
list_of parts = node parts.height (list parts.items)

-- no set of an index yet
abbrev pub no_groups : Groups
no_groups = record { height = 0; items = Some [] }

-- one more set with its names
abbrev pub append_group : List (List ℕ) → List (Group Expr) → Expr → List (Group Expr)
append_group names groups x = groups ++ record { names = names; set = x } ∷ []

-- names with their set are one node
abbrev pub groups_with : Groups → List (List ℕ) → Operand → Groups
groups_with groups names x = record { height = max groups.height (higher x.height); items = map2 (append_group names) groups.items (unless_deep (higher x.height) x.expr) }

-- the sets of an index with one more, unless it is looser than a set may be
abbrev pub set_read : Groups → List (List ℕ) → Operand → Option Groups
set_read groups names x = if nat_le x.level 5 then Some (groups_with groups names x) else None

-- an index without a condition
abbrev pub index_of : Option (List (Group Expr)) → Option (Index Expr)
index_of groups = map1 (λ gs. record { groups = gs; condition = None }) groups

-- a whole index without a condition
abbrev pub whole_index_of : Groups → WholeIndex
whole_index_of groups = record { height = groups.height; index = index_of groups.items }

-- an index with a condition
abbrev pub index_with_condition : List (Group Expr) → Expr → Index Expr
index_with_condition groups x = record { groups = groups; condition = Some x }

-- a whole index with a condition
abbrev pub conditioned_index_of : Groups → Operand → WholeIndex
conditioned_index_of groups x = record { height = max groups.height x.height; index = map2 index_with_condition groups.items x.expr }
