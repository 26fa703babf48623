-- The type that a base stands for as it is written, and the rules that it breaks.

use Rattle.std.specs.Prelude.{Bool, not, List, [], ◌∷◌, Option, Some, None, option_map, option_and_then, is_none}
use Rattle.mos_names.specs.NameLists.{Name}
use Rattle.mos_text.specs.declared.kind.Kind.{Kind}
use Rattle.mos_text.specs.declared.kind.Kind.TheVariants as k
use Rattle.mos_value.specs.declared.member.MemberType.{MemberType}
use Rattle.mos_tree.specs.declared.declaration.BaseType.{BaseType}
use Rattle.mos_tree.specs.declared.declaration.BaseType.TheVariants as b
use Rattle.mos_tree.specs.declared.declaration.TypeForm.{TypeForm}
use Rattle.mos_tree.specs.declared.declaration.TypeForm.TheVariants as form
use Rattle.mos_sorts.specs.declared.sort.Sort.{Sort}
use Rattle.mos_sorts.specs.declared.sort.Sort.TheVariants as s
use Rattle.mos_sorts.specs.declared.scope.Scope.{Scope}
use Rattle.mos_sorts.specs.declared.scope.Role.{Role}
use Rattle.mos_sorts.specs.declared.scope.Role.TheVariants as role
use Rattle.mos_sorts.specs.declared.function.Undeclared.{Undeclared as NotDeclared}
use Rattle.mos_sorts.specs.declared.function.Undeclared.TheVariants as u
use Rattle.mos_sorts.specs.Kinds.{least, breaks}
use Rattle.mos_sorts.specs.Scopes.{Meaning, Index, Declared, Undeclared, meaning_of}
use Rattle.mos_sorts.specs.Sorts.{as_member, is_scalar}
use Rattle.mos_sorts.specs.Vocabulary.{undeclared_meaning}
use Rattle.mos_written.specs.declared.base.TypeName.{TypeName}
use Rattle.mos_written.specs.declared.base.TypeName.TheVariants as t

-- what a declared name stands for in a type's place
abbrev pub type_of_role : Role → TypeName
type_of_role (role.Record (Some sort)) = t.Known sort
type_of_role (role.Record None) = t.Unfinished
type_of_role _ = t.Nothing

-- what a name stands for there that is not declared
abbrev pub type_of_undeclared : NotDeclared → TypeName
type_of_undeclared u.Model = t.Known s.Model
type_of_undeclared u.Event = t.Known s.Event
type_of_undeclared u.Jobs = t.Jobs
type_of_undeclared _ = t.Nothing

-- what a name stands for there that stands for this at the place
abbrev pub type_meant : Bool → Name → Meaning → TypeName
type_meant jobs name (Index sort) = t.Nothing
type_meant jobs name (Declared place role) = type_of_role role
type_meant jobs name Undeclared = type_of_undeclared (undeclared_meaning jobs name)

-- what a name stands for in a type's place
abbrev pub type_named : Name → Scope → TypeName
type_named name scope = type_meant scope.jobs name (meaning_of name scope scope.bound)

-- the type, where the name stands for one
abbrev pub sort_known : TypeName → Option Sort
sort_known (t.Known sort) = Some sort
sort_known _ = None

-- the rules that a name breaks in a type's place. A record is not known yet while its own fields are read: in one
-- of them it is a structured type
abbrev pub wrong_name : Name → TypeName → List Kind
wrong_name name (t.Known sort) = []
wrong_name name t.Unfinished = k.Flat ∷ []
wrong_name name t.Jobs = k.Jobs ∷ []
wrong_name name t.Nothing = k.Unknown name ∷ []

-- the type that a base stands for
abbrev pub base_sort : BaseType → Scope → Option Sort
base_sort b.Integer scope = Some s.Integer
base_sort b.Boolean scope = Some s.Boolean
base_sort b.Text scope = Some s.Text
base_sort (b.Named name) scope = sort_known (type_named name scope)

-- the rules that a base breaks
abbrev pub wrong_base : BaseType → Scope → List Kind
wrong_base (b.Named name) scope = wrong_name name (type_named name scope)
wrong_base _ scope = []

-- what counts behind a base
abbrev pub after_base : BaseType → Scope → Option Kind → Option Kind
after_base base scope worst = least worst (wrong_base base scope)

-- the type as that of members
abbrev pub member_of : Option Sort → Option MemberType
member_of sort = option_and_then as_member sort

-- the type of a base as that of members
abbrev pub base_member : BaseType → Scope → Option MemberType
base_member base scope = member_of (base_sort base scope)

-- the rule that a type breaks where that of members is wanted
abbrev pub wrong_member : Option Sort → List Kind
wrong_member None = []
wrong_member (Some sort) = breaks (is_none (as_member sort)) k.Flat

-- what counts behind a base where the type of members is wanted
abbrev pub after_member : BaseType → Scope → Option Kind → Option Kind
after_member base scope worst = least (after_base base scope worst) (wrong_member (base_sort base scope))

-- the rule that a type breaks where that of a field or of a function's result is wanted
abbrev pub wrong_scalar : Option Sort → List Kind
wrong_scalar None = []
wrong_scalar (Some sort) = breaks (not (is_scalar sort)) k.Flat

-- the type that stands for any other than an array
abbrev pub plain_sort : TypeForm → Scope → Option Sort
plain_sort (form.Base base) scope = base_sort base scope
plain_sort form.Range scope = Some s.Range
plain_sort (form.Set base) scope = option_map s.Set (base_member base scope)
plain_sort (form.List base) scope = option_map s.List (base_member base scope)
plain_sort _ scope = None

-- what counts behind it
abbrev pub after_plain : TypeForm → Scope → Option Kind → Option Kind
after_plain (form.Base base) scope worst = after_base base scope worst
after_plain (form.Set base) scope worst = after_member base scope worst
after_plain (form.List base) scope worst = after_member base scope worst
after_plain _ scope worst = worst
