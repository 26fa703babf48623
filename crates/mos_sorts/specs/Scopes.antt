-- The names that can be seen at a place, and what each stands for.

use Rattle.std.specs.Prelude.{ℕ, Bool, true, false, ◌&&◌, ◌||◌, List, [], ◌∷◌, ◌++◌, Option, Some, None, if◌then◌else◌, map, nat_eq}
use Rattle.std.specs.List.{list_any}
use Rattle.std.specs.Str.{bytes_eq}
use Rattle.mos_names.specs.NameLists.{Name, has_name, with_name}
use Rattle.mos_text.specs.declared.kind.Kind.{Kind}
use Rattle.mos_text.specs.declared.kind.Kind.TheVariants.{Twice}
use Rattle.mos_sorts.specs.declared.sort.Sort.{Sort}
use Rattle.mos_sorts.specs.declared.scope.Scope.{Scope}
use Rattle.mos_sorts.specs.declared.scope.Entry.{Entry}
use Rattle.mos_sorts.specs.declared.scope.Bound.{Bound}
use Rattle.mos_sorts.specs.declared.scope.Role.{Role}
use Rattle.mos_sorts.specs.declared.typed.Where.{Where}
use Rattle.mos_sorts.specs.declared.typed.Where.TheVariants as where_
use Rattle.mos_sorts.specs.Kinds.{sooner}
use Rattle.mos_sorts.specs.Sorts.{or_else}
pub use Rattle.mos_sorts.specs.Entries.{latest}

-- the type of the last index name that is this, or what was found before these
abbrev pub bound_sort : Name → Option (Option Sort) → List Bound → Option (Option Sort)
bound_sort n found [] = found
bound_sort n found (b ∷ bs) = bound_sort n (if bytes_eq n b.name then Some b.sort else found) bs

-- what an entry says of a name
abbrev pub entered_at : Where → Option Entry → Option (Where × Role)
entered_at place None = None
entered_at place (Some e) = Some (place, e.role)

-- what the model declares a name as
abbrev pub declared_in_model : Name → Scope → Option (Where × Role)
declared_in_model n scope = entered_at where_.Model (latest n None scope.model)

-- what a name is declared as: a name of the routine hides one of the model
abbrev pub declared_as : Name → Scope → Option (Where × Role)
declared_as n scope = or_else (entered_at where_.Own (latest n None scope.own)) (declared_in_model n scope)

-- what a name stands for
pub data Meaning : Type 0 where
  Index : (sort : Option Sort) → Meaning
  Declared : (place : Where) (role : Role) → Meaning
  Undeclared : Meaning

-- a name that is no index name
abbrev pub of_declared : Option (Where × Role) → Meaning
of_declared None = Undeclared
of_declared (Some (place, role)) = Declared place role

-- an index name hides all others
abbrev pub of_index : Option (Option Sort) → Option (Where × Role) → Meaning
of_index None found = of_declared found
of_index (Some sort) found = Index sort

-- what a name stands for, in a scope and below these index names
abbrev pub meaning_of : Name → Scope → List Bound → Meaning
meaning_of n scope bound = of_index (bound_sort n None bound) (declared_as n scope)

-- the names that a routine or the model has declared so far
abbrev pub entries_here : Scope → List Entry
entries_here scope = if scope.inside then scope.own else scope.model

-- the name is declared in the routine or the model that the place stands in, or is an index name there
abbrev pub is_declared_here : Name → Scope → List Bound → Bool
is_declared_here n scope bound =
    list_any (λ (e : Entry). bytes_eq n e.name) (entries_here scope) || list_any (λ (b : Bound). bytes_eq n b.name) bound

-- what counts of a name that is declared twice where this holds
abbrev pub twice_if : Bool → Name → Option Kind → Option Kind
twice_if true n worst = sooner worst (Twice n)
twice_if false n worst = worst

-- what counts of names behind those before: a name that is declared already, or is one of those before, is declared twice
abbrev pub declared_twice : Scope → List Bound → List Name → List Name → Option Kind → Option Kind
declared_twice scope bound before [] worst = worst
declared_twice scope bound before (n ∷ ns) worst =
    declared_twice scope bound (with_name before n) ns (twice_if (is_declared_here n scope bound || has_name n before) n worst)

-- what counts of names that are declared now
abbrev pub all_twice : Scope → List Bound → List Name → Option Kind → Option Kind
all_twice scope bound names worst = declared_twice scope bound [] names worst

-- a name that is declared now, where the place stands
abbrev pub declare : Name → Role → Scope → Scope
declare n role scope =
    if scope.inside
    then record scope { own = scope.own ++ record { name = n; role = role } ∷ [] }
    else record scope { model = scope.model ++ record { name = n; role = role } ∷ [] }

-- names that are declared alike
abbrev pub declare_all : List Name → Role → Scope → Scope
declare_all [] role scope = scope
declare_all (n ∷ ns) role scope = declare_all ns role (declare n role scope)

-- index names that take their values from one set
abbrev pub all_bound : List Name → Option Sort → List Bound → List Bound
all_bound [] sort bound = bound
all_bound (n ∷ ns) sort bound = all_bound ns sort (bound ++ record { name = n; sort = sort } ∷ [])
