-- What loops and aggregates go over: groups of index names with their sets, and a condition; and aggregates over them.

use Rattle.std.specs.Prelude.{not, List, [], ◌∷◌, Option, Some, None, is_some}
use Rattle.mos_text.specs.declared.kind.Kind.{Kind}
use Rattle.mos_text.specs.declared.kind.Kind.TheVariants.{NoType}
use Rattle.mos_names.specs.NameLists.{Name}
use Rattle.mos_tree.specs.declared.expr.AggregateOperator.{AggregateOperator}
use Rattle.mos_tree.specs.declared.expr.AggregateOperator.TheVariants as operator
use Rattle.mos_tree.specs.declared.expr.Group.{Group}
use Rattle.mos_tree.specs.declared.expr.Index.{Index}
use Rattle.mos_sorts.specs.declared.sort.Sort.{Sort}
use Rattle.mos_sorts.specs.declared.sort.Sort.TheVariants as s
use Rattle.mos_sorts.specs.declared.scope.Scope.{Scope}
use Rattle.mos_sorts.specs.declared.scope.Bound.{Bound}
use Rattle.mos_sorts.specs.declared.typed.Typed.{Typed}
use Rattle.mos_sorts.specs.declared.typed.Typed.TheVariants as t
use Rattle.mos_sorts.specs.Kinds.{least, breaks}
use Rattle.mos_sorts.specs.Sorts.{may_fit, sort_of_index}
use Rattle.mos_sorts.specs.Operators.{aggregate_answer}
use Rattle.mos_sorts.specs.Scopes.{all_twice, all_bound}
use Rattle.mos_sorts.specs.Trees.{sort_of, as_set_tree}
use Rattle.mos_rules.specs.Results.{Seen, Look, with_tree, without_type}

-- what is seen of the groups of an index, and the index names behind them
pub record GroupsSeen : Type 0 where
  pub groups : List (Group Typed)
  pub bound : List Bound
  pub worst : Option Kind

-- what is seen of an index, and the index names behind it
pub record IndexSeen : Type 0 where
  pub index : Index Typed
  pub bound : List Bound
  pub worst : Option Kind

-- the type of what an index takes from a value, if one can go over it and knows its type
abbrev pub index_sort : Option Sort → Option Sort
index_sort None = None
index_sort (Some sort) = sort_of_index sort

-- a set that an index goes over
abbrev pub walked : Seen → Seen
walked set = record { tree = set.tree; worst = least set.worst (breaks (not (is_some (index_sort (sort_of set.tree)))) NoType) }

-- the set of a group, behind its names
abbrev pub set_seen : Group Look → Scope → List Bound → Option Kind → Seen
set_seen group scope bound worst = walked (group.set scope bound (all_twice scope bound group.names worst))

-- the index names behind a group with this set
abbrev pub bound_behind : List Name → Typed → List Bound → List Bound
bound_behind names set bound = all_bound names (index_sort (sort_of set)) bound

-- one more group before others
abbrev pub before : List Name → Typed → GroupsSeen → GroupsSeen
before names set seen =
    record { groups = record { names = names; set = set } ∷ seen.groups; bound = seen.bound; worst = seen.worst }

-- the groups of an index, from left to right
abbrev pub groups_seen : List (Group Look) → Scope → List Bound → Option Kind → GroupsSeen
groups_seen [] scope bound worst = record { groups = []; bound = bound; worst = worst }
groups_seen (g ∷ gs) scope bound worst =
    before g.names (set_seen g scope bound worst).tree
    (groups_seen gs scope
    (bound_behind g.names (set_seen g scope bound worst).tree bound)
    (set_seen g scope bound worst).worst)

-- a condition
abbrev pub condition : Seen → Seen
condition c = record { tree = c.tree; worst = least c.worst (breaks (not (may_fit s.Boolean (sort_of c.tree))) NoType) }

-- the tree of the condition of an index, where it has one
abbrev pub test_tree : Option Look → Scope → List Bound → Option Kind → Option Typed
test_tree None scope bound worst = None
test_tree (Some test) scope bound worst = Some (condition (test scope bound worst)).tree

-- what counts behind it
abbrev pub test_worst : Option Look → Scope → List Bound → Option Kind → Option Kind
test_worst None scope bound worst = worst
test_worst (Some test) scope bound worst = (condition (test scope bound worst)).worst

-- the condition stands behind all groups
abbrev pub with_condition : Option Look → Scope → GroupsSeen → IndexSeen
with_condition test scope seen =
    record {
      index = record { groups = seen.groups; condition = test_tree test scope seen.bound seen.worst };
      bound = seen.bound;
      worst = test_worst test scope seen.bound seen.worst;
    }

-- an index
abbrev pub index_seen : Index Look → Scope → List Bound → Option Kind → IndexSeen
index_seen index scope bound worst = with_condition index.condition scope (groups_seen index.groups scope bound worst)

-- the type of an aggregate with this body
abbrev pub aggregate_sort : AggregateOperator → Option Sort → Option Sort
aggregate_sort op None = None
aggregate_sort op (Some body) = aggregate_answer op body

-- the body as the aggregate takes it
abbrev pub body_of : AggregateOperator → Typed → Typed
body_of operator.Union body = as_set_tree body
body_of _ body = body

-- an aggregate of this type; it has one whatever its sets and its condition are
abbrev pub aggregate_value : AggregateOperator → Option Sort → Index Typed → Typed → Option Kind → Seen
aggregate_value op (Some sort) index body worst = with_tree (t.Aggregate sort op index (body_of op body)) worst
aggregate_value op None index body worst = without_type worst

-- an aggregate, whose body was seen behind its index
abbrev pub aggregate : AggregateOperator → Index Typed → Seen → Seen
aggregate op index body = aggregate_value op (aggregate_sort op (sort_of body.tree)) index body.tree body.worst

-- an aggregate over what is seen of its index
abbrev pub aggregate_over : AggregateOperator → IndexSeen → Look → Scope → Seen
aggregate_over op over body scope = aggregate op over.index (body scope over.bound over.worst)

-- `count` over what is seen of its index
abbrev pub count_over : IndexSeen → Seen
count_over over = with_tree (t.Count over.index) over.worst
