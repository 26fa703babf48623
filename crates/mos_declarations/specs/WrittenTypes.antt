-- Types as they are written, with the index sets of arrays.

use Rattle.std.specs.Prelude.{Bool, false, not, List, [], ◌∷◌, ◌++◌, Option, None}
use Rattle.mos_text.specs.declared.kind.Kind.{Kind}
use Rattle.mos_value.specs.declared.member.MemberType.{MemberType}
use Rattle.mos_tree.specs.declared.expr.Expr.{Expr}
use Rattle.mos_tree.specs.declared.declaration.BaseType.{BaseType}
use Rattle.mos_tree.specs.declared.declaration.Dimension.{Dimension}
use Rattle.mos_tree.specs.declared.declaration.Dimension.TheVariants as dimension
use Rattle.mos_tree.specs.declared.declaration.TypeForm.{TypeForm}
use Rattle.mos_tree.specs.declared.declaration.TypeForm.TheVariants as typ
use Rattle.mos_sorts.specs.declared.sort.Sort.{Sort}
use Rattle.mos_sorts.specs.declared.scope.Scope.{Scope}
use Rattle.mos_sorts.specs.declared.typed.Typed.{Typed}
use Rattle.mos_sorts.specs.Trees.{sort_of, as_set_tree}
use Rattle.mos_rules.specs.Results.{Seen}
use Rattle.mos_types.specs.Looks.{look}
use Rattle.mos_written.specs.Bases.{plain_sort, after_plain}
use Rattle.mos_written.specs.Dimensions.{index_of, after_index, is_dynamic, array_written, after_array}

-- what is found of the indexes of an array: their types, the sets that are written, and what counts of broken rules
pub record Indexes : Type 0 where
  pub sorts : List (Option MemberType)
  pub sets : List Typed
  pub worst : Option Kind

-- an index with a set that this is found of
abbrev pub of_set : Dimension → Scope → Seen → Indexes
of_set d scope set = record {
  sorts = index_of d (sort_of set.tree) scope ∷ [];
  sets = as_set_tree set.tree ∷ [];
  worst = after_index d (sort_of set.tree) scope set.worst;
}

-- an index with a type alone
abbrev pub of_type : Dimension → Scope → Option Kind → Indexes
of_type d scope worst = record { sorts = index_of d None scope ∷ []; sets = []; worst = after_index d None scope worst }

-- an index with this set
abbrev pub set_found : Dimension → Expr → Scope → Option Kind → Indexes
set_found d set scope worst = of_set d scope (look set scope scope.bound worst)

-- an index
abbrev pub index_found : Dimension → Scope → Option Kind → Indexes
index_found (dimension.IndexSet set) scope worst = set_found (dimension.IndexSet set) set scope worst
index_found d scope worst = of_type d scope worst

-- an index in front of others
abbrev pub in_front : Indexes → Indexes → Indexes
in_front a b = record { sorts = a.sorts ++ b.sorts; sets = a.sets ++ b.sets; worst = b.worst }

-- the indexes of an array, in order
abbrev pub indexes_found : List Dimension → Scope → Option Kind → Indexes
indexes_found [] scope worst = record { sorts = []; sets = []; worst = worst }
indexes_found (d ∷ ds) scope worst = in_front (index_found d scope worst) (indexes_found ds scope (index_found d scope worst).worst)

-- what is found of a written type: the type if it has one, the index sets of an array, what counts of broken rules, and
-- the scope with its tables of types
pub record TypeFound : Type 0 where
  pub sort : Option Sort
  pub sets : List Typed
  pub worst : Option Kind
  pub scope : Scope

-- an array whose indexes are these
abbrev pub array_found : Bool → List Dimension → BaseType → Scope → Indexes → TypeFound
array_found dynamic dimensions cell scope indexes = record {
  sort = (array_written dynamic dimensions indexes.sorts cell scope).0;
  sets = indexes.sets;
  worst = after_array dimensions cell scope indexes.worst;
  scope = (array_written dynamic dimensions indexes.sorts cell scope).1;
}

-- an array
abbrev pub written_array : Bool → List Dimension → BaseType → Scope → Option Kind → TypeFound
written_array dynamic dimensions cell scope worst = array_found dynamic dimensions cell scope (indexes_found dimensions scope worst)

-- a type, as it is written
abbrev pub type_found : TypeForm → Scope → Option Kind → TypeFound
type_found (typ.Array dynamic dimensions cell) scope worst = written_array dynamic dimensions cell scope worst
type_found t scope worst = record { sort = plain_sort t scope; sets = []; worst = after_plain t scope worst; scope = scope }

-- the type of a dense array
abbrev pub is_dense : TypeForm → Bool
is_dense (typ.Array dynamic dimensions cell) = not (is_dynamic dynamic dimensions)
is_dense _ = false
