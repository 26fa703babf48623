-- Types with all their parts, as an answer has them.

use Rattle.std.specs.Prelude.{ℕ, List, [], ◌∷◌, Option, Some, None, option_map, map, slice_get, Result, Ok, Err}
use Rattle.mos_text.specs.declared.kind.Kind.{Kind}
use Rattle.mos_text.specs.declared.kind.Kind.TheVariants.{NoType}
use Rattle.mos_text.specs.declared.typ.Typ.{Typ}
use Rattle.mos_text.specs.declared.typ.Typ.TheVariants as typ
use Rattle.mos_value.specs.declared.member.MemberType.{MemberType}
use Rattle.mos_value.specs.declared.member.MemberType.TheVariants as m
use Rattle.mos_tree.specs.declared.expr.Expr.{Expr}
use Rattle.mos_sorts.specs.declared.sort.Sort.{Sort}
use Rattle.mos_sorts.specs.declared.sort.Sort.TheVariants as s
use Rattle.mos_sorts.specs.declared.sort.ArraySort.{ArraySort}
use Rattle.mos_sorts.specs.declared.sort.RecordSort.{RecordSort}
use Rattle.mos_sorts.specs.declared.scope.Scope.{Scope}
use Rattle.mos_sorts.specs.Trees.{sort_of}
use Rattle.mos_types.specs.Faults.{Fault}
use Rattle.mos_rules.specs.Results.{Seen}
use Rattle.mos_types.specs.Looks.{look}

-- the type of members
abbrev pub member_typ : MemberType → Typ
member_typ m.Integer = typ.Integer
member_typ m.Boolean = typ.Boolean
member_typ m.Str = typ.Str

-- the type of a field, which has no parts
abbrev pub field_typ : Sort → Option Typ
field_typ s.Integer = Some typ.Integer
field_typ s.Boolean = Some typ.Boolean
field_typ s.Text = Some typ.Str
field_typ s.Model = Some typ.Model
field_typ s.Event = Some typ.Event
field_typ _ = None

-- the first of types, where it and the others have parts
abbrev pub and_more : Option Typ → Option (List Typ) → Option (List Typ)
and_more (Some typ) (Some more) = Some (typ ∷ more)
and_more _ _ = None

-- the types of fields
abbrev pub field_typs : List Sort → Option (List Typ)
field_typs [] = Some []
field_typs (sort ∷ sorts) = and_more (field_typ sort) (field_typs sorts)

-- a record type
abbrev pub record_typ : Option RecordSort → Option Typ
record_typ None = None
record_typ (Some record_type) = option_map (λ types. typ.Record record_type.names types) (field_typs record_type.sorts)

-- the type of a cell
abbrev pub cell_typ : List RecordSort → Sort → Option Typ
cell_typ records (s.Record number) = record_typ (slice_get records number)
cell_typ records sort = field_typ sort

-- an array type
abbrev pub array_typ : List RecordSort → Option ArraySort → Option Typ
array_typ records None = None
array_typ records (Some array) =
    option_map (λ cell. typ.Array array.dynamic (map member_typ array.indexes) cell) (cell_typ records array.cell)

-- a type with its parts; one whose number no table has, has none
abbrev pub typ_of : Scope → Sort → Option Typ
typ_of scope s.Range = Some typ.Range
typ_of scope (s.Set member) = Some (typ.Set (member_typ member))
typ_of scope (s.List member) = Some (typ.List (member_typ member))
typ_of scope s.EmptySet = Some typ.EmptySet
typ_of scope s.EmptyList = Some typ.EmptyList
typ_of scope (s.Array number) = array_typ scope.records (slice_get scope.arrays number)
typ_of scope sort = cell_typ scope.records sort

-- the type of what has this type, if any
abbrev pub typ_if : Scope → Option Sort → Option Typ
typ_if scope None = None
typ_if scope (Some sort) = typ_of scope sort

-- the type, or that there is none
abbrev pub typ_or_fault : ℕ → Option Typ → Result Typ Fault
typ_or_fault line (Some typ) = Ok typ
typ_or_fault line None = Err (line, NoType)

-- the verdict on an expression: what counts of its rules, or its type
abbrev pub typ_judged : Option Kind → ℕ → Option Typ → Result Typ Fault
typ_judged (Some kind) line typ = Err (line, kind)
typ_judged None line typ = typ_or_fault line typ

-- the type of what was seen
abbrev pub typ_seen : Scope → Seen → Result Typ Fault
typ_seen scope seen = typ_judged seen.worst scope.line (typ_if scope (sort_of seen.tree))

-- the type of an expression in a scope, or the line and kind of the fault
abbrev pub type_of : Expr → Scope → Result Typ Fault
type_of expr scope = typ_seen scope (look expr scope scope.bound None)
