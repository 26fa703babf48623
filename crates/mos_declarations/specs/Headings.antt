-- Headings of routines, and those that are announced by `forward`.

use Rattle.std.specs.Prelude.{Bool, true, false, not, ◌&&◌, List, [], ◌∷◌, ◌++◌, Option, Some, None}
use Rattle.mos_text.specs.declared.kind.Kind.{Kind}
use Rattle.mos_text.specs.declared.kind.Kind.TheVariants.{Forward}
use Rattle.mos_names.specs.NameLists.{Name, has_name}
use Rattle.mos_tree.specs.declared.declaration.BaseType.{BaseType}
use Rattle.mos_tree.specs.declared.declaration.FormalGroup.{FormalGroup}
use Rattle.mos_tree.specs.declared.declaration.Heading.{Heading}
use Rattle.mos_sorts.specs.declared.sort.Sort.{Sort}
use Rattle.mos_sorts.specs.declared.scope.Scope.{Scope}
use Rattle.mos_sorts.specs.declared.scope.Entry.{Entry}
use Rattle.mos_sorts.specs.declared.scope.Role.{Role}
use Rattle.mos_sorts.specs.declared.scope.Role.TheVariants as role
use Rattle.mos_sorts.specs.declared.scope.Signature.{Signature}
use Rattle.mos_sorts.specs.Kinds.{least, breaks, and_later}
use Rattle.mos_sorts.specs.Sorts.{same_sort}
use Rattle.mos_sorts.specs.Scopes.{twice_if, all_twice, declare_all, all_bound, latest}
use Rattle.mos_written.specs.Bases.{base_sort, after_base, wrong_scalar}
use Rattle.mos_checked.specs.Judging.{Piece}
use Rattle.mos_declarations.specs.WrittenTypes.{TypeFound, type_found}

-- Formals.

-- what is found of formals: their types if they have some, what counts of broken rules, and the scope with their names
pub record Formals : Type 0 where
  pub sorts : List (Option Sort)
  pub worst : Option Kind
  pub scope : Scope

-- the names behind those of formals; one whose type breaks a rule is a name without a type for the rest of the heading
abbrev pub with_formals : List Name → Option Sort → Scope → Scope
with_formals names (Some sort) scope = declare_all names (role.Formal sort) scope
with_formals names None scope = record scope { bound = all_bound names None scope.bound }

-- the type once for each name
abbrev pub for_each : List Name → Option Sort → List (Option Sort)
for_each [] sort = []
for_each (n ∷ ns) sort = sort ∷ for_each ns sort

-- formals of one type, where this is found of the type
abbrev pub group_of : List Name → TypeFound → Formals
group_of names found = record { sorts = for_each names found.sort; worst = found.worst; scope = with_formals names found.sort found.scope }

-- formals of one type
abbrev pub group_found : FormalGroup → Scope → Option Kind → Formals
group_found group scope worst = group_of group.names (type_found group.typ scope (all_twice scope scope.bound group.names worst))

-- formals in front of others
abbrev pub before_formals : Formals → Formals → Formals
before_formals a b = record { sorts = a.sorts ++ b.sorts; worst = b.worst; scope = b.scope }

-- the formals of a heading, group by group
abbrev pub formals_found : List FormalGroup → Scope → Option Kind → Formals
formals_found [] scope worst = record { sorts = []; worst = worst; scope = scope }
formals_found (g ∷ gs) scope worst =
    before_formals (group_found g scope worst) (formals_found gs (group_found g scope worst).scope (group_found g scope worst).worst)

-- Results.

-- what is found of the result of a function
abbrev pub result_sort : Option BaseType → Scope → Option Sort
result_sort None scope = None
result_sort (Some base) scope = base_sort base scope

-- what counts of the rules that it breaks, behind others
abbrev pub after_result : Option BaseType → Scope → Option Kind → Option Kind
after_result None scope worst = worst
after_result (Some base) scope worst = least (after_base base scope worst) (wrong_scalar (base_sort base scope))

-- Headings.

-- a formal has this type
unfoldable pub is_of : Option Sort → Sort → Bool
is_of (Some a) b = same_sort a b
is_of None b = false

-- the types of formals are these
abbrev pub same_formals : List (Option Sort) → List Sort → Bool
same_formals [] [] = true
same_formals (a ∷ more) (b ∷ bs) = is_of a b && same_formals more bs
same_formals _ _ = false

-- the results are one: both are none, or have one type
abbrev pub same_result : Bool → Option Sort → Option Sort → Bool
same_result false found None = true
same_result true (Some a) (Some b) = same_sort a b
same_result _ _ _ = false

-- there is a result
abbrev pub has_result : Option BaseType → Bool
has_result None = false
has_result (Some base) = true

-- the role is that of a routine with such formals and such a result that only its `forward` has announced
abbrev pub announced_as : List (Option Sort) → Bool → Option Sort → Role → Bool
announced_as sorts function result (role.Routine s) = s.forward && (same_formals sorts s.formals && same_result function result s.result)
announced_as sorts function result _ = false

-- a name of the model clashes with that of a routine, unless it announces the routine with the same heading
abbrev pub clashes : List (Option Sort) → Bool → Option Sort → Option Entry → Bool
clashes sorts function result None = false
clashes sorts function result (Some e) = not (announced_as sorts function result e.role)

-- a name of the model clashes with that of `forward`
abbrev pub is_there : Option Entry → Bool
is_there None = false
is_there (Some e) = true

-- the types that are there
abbrev pub known_sorts : List (Option Sort) → List Sort
known_sorts [] = []
known_sorts (Some sort ∷ sorts) = sort ∷ known_sorts sorts
known_sorts (None ∷ sorts) = known_sorts sorts

-- a routine with this heading, by whether only its `forward` is read
abbrev pub signature : Bool → List (Option Sort) → Option Sort → Signature
signature forward sorts result = record { formals = known_sorts sorts; result = result; forward = forward }

-- a routine among the names of the model
abbrev pub with_routine : Name → Signature → Scope → Scope
with_routine n s scope = record scope { model = scope.model ++ record { name = n; role = role.Routine s } ∷ [] }

-- the scope of a heading's formals: that of a routine without names so far
abbrev pub entered : Scope → Scope
entered scope = record scope { own = []; bound = []; inside = true }

-- the scope of a routine's parts, which have these names
abbrev pub begun : Option Sort → Scope → Scope
begun result scope = record scope { bound = []; inside = true; in_loop = false; result = result }

-- the scope behind a routine
abbrev pub left : Scope → Scope
left scope = record scope { own = []; bound = []; inside = false; in_loop = false; result = None }

-- what is found of the formals of a heading
abbrev pub heading_found : Heading → Scope → Formals
heading_found x scope = formals_found x.formals (entered scope) None

-- what counts of the name of `forward`: it is new, and its routine comes
abbrev pub wrong_forward : Name → Scope → Option Kind
wrong_forward n scope = least (twice_if (is_there (latest n None scope.model)) n None) (breaks (not (has_name n scope.routines)) Forward)

-- `forward` and a heading with these formals and this result; the name stands before both
abbrev pub forward_of : Heading → Formals → Option Sort → Piece Scope
forward_of x formals result = (
  and_later (wrong_forward x.name formals.scope) (after_result x.result formals.scope formals.worst),
  left (with_routine x.name (signature true formals.sorts result) formals.scope),
)

-- `forward` and a heading with these formals
abbrev pub forward_with : Heading → Formals → Piece Scope
forward_with x formals = forward_of x formals (result_sort x.result formals.scope)

-- `forward` and a heading
abbrev pub forward_piece : Heading → Scope → Piece Scope
forward_piece x scope = forward_with x (heading_found x scope)

-- what counts of the name of a routine
abbrev pub wrong_routine : Heading → List (Option Sort) → Option Sort → Scope → Option Kind
wrong_routine x sorts result scope = twice_if (clashes sorts (has_result x.result) result (latest x.name None scope.model)) x.name None

-- the heading of a routine with these formals and this result; the name stands before both
abbrev pub routine_of : Heading → Formals → Option Sort → Piece Scope
routine_of x formals result = (
  and_later (wrong_routine x formals.sorts result formals.scope) (after_result x.result formals.scope formals.worst),
  begun result (with_routine x.name (signature false formals.sorts result) formals.scope),
)

-- the heading of a routine with these formals
abbrev pub routine_with : Heading → Formals → Piece Scope
routine_with x formals = routine_of x formals (result_sort x.result formals.scope)

-- the heading of a routine: its first piece
abbrev pub routine_piece : Heading → Scope → Piece Scope
routine_piece x scope = routine_with x (heading_found x scope)
