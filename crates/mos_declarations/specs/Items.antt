-- Declarations: constants, variables and records.

use Rattle.std.specs.Prelude.{ℕ, Bool, true, List, [], ◌∷◌, ◌++◌, Option, Some, None, Result, Ok, if◌then◌else◌}
use Rattle.mos_text.specs.declared.kind.Kind.{Kind}
use Rattle.mos_text.specs.declared.kind.Kind.TheVariants.{Flat}
use Rattle.mos_names.specs.NameLists.{Name}
use Rattle.mos_tree.specs.declared.expr.Expr.{Expr}
use Rattle.mos_tree.specs.declared.declaration.TypeForm.{TypeForm}
use Rattle.mos_tree.specs.declared.declaration.TypeForm.TheVariants as typ
use Rattle.mos_tree.specs.declared.declaration.FieldGroup.{FieldGroup}
use Rattle.mos_tree.specs.declared.declaration.Item.{Item}
use Rattle.mos_tree.specs.declared.declaration.Item.TheVariants as item
use Rattle.mos_sorts.specs.declared.sort.Sort.{Sort}
use Rattle.mos_sorts.specs.declared.sort.RecordSort.{RecordSort}
use Rattle.mos_sorts.specs.declared.scope.Scope.{Scope}
use Rattle.mos_sorts.specs.declared.scope.Role.TheVariants as role
use Rattle.mos_sorts.specs.declared.typed.Typed.{Typed}
use Rattle.mos_sorts.specs.declared.typed.Where.{Where}
use Rattle.mos_sorts.specs.declared.typed.Where.TheVariants as where_
use Rattle.mos_sorts.specs.declared.value.Value.{Value}
use Rattle.mos_sorts.specs.Kinds.{least}
use Rattle.mos_sorts.specs.Scopes.{twice_if, is_declared_here, all_twice, declare, declare_all}
use Rattle.mos_sorts.specs.Trees.{sort_of}
use Rattle.mos_rules.specs.Results.{Seen}
use Rattle.mos_types.specs.Looks.{look}
use Rattle.mos_constants.specs.Constants.{constant, wrong_constant}
use Rattle.mos_written.specs.Bases.{wrong_scalar}
use Rattle.mos_written.specs.Fields.{group_twice, with_fields}
use Rattle.mos_written.specs.Tables.{record_numbered}
use Rattle.mos_checked.specs.declared.step.Step.{Step}
use Rattle.mos_checked.specs.declared.step.Step.TheVariants as step
use Rattle.mos_types.specs.Faults.{Fault}
use Rattle.mos_checked.specs.Judging.{Piece, then_do}
use Rattle.mos_declarations.specs.Taken.{taken}
use Rattle.mos_declarations.specs.WrittenTypes.{TypeFound, type_found, is_dense}

-- what counts of a name that is declared now
abbrev pub twice_here : Name → Scope → Option Kind
twice_here n scope = twice_if (is_declared_here n scope []) n None

-- where a name is declared
abbrev pub here : Scope → Where
here scope = if scope.inside then where_.Own else where_.Model

-- Constants.

-- the names behind that of a constant, which has a value unless a rule is broken
abbrev pub with_constant : Name → Option Sort → Option Value → Scope → Scope
with_constant n (Some sort) (Some value) scope = declare n (role.Constant sort value) scope
with_constant n _ _ scope = scope

-- what is found of a constant expression: its type and its value if it has them, and what counts of broken rules
pub record ConstantFound : Type 0 where
  pub sort : Option Sort
  pub value : Option Value
  pub worst : Option Kind

-- a constant expression, where this is seen of it
abbrev pub constant_seen : Expr → Scope → Seen → ConstantFound
constant_seen e scope s =
    record { sort = sort_of s.tree; value = constant scope e s.tree; worst = least s.worst (wrong_constant scope e s.tree) }

-- a constant expression; index names have no meaning in it
unfoldable pub constant_found : Expr → Scope → Option Kind → ConstantFound
constant_found e scope worst = constant_seen e scope (look e scope [] worst)

-- `NAME = E`, where this is found of E
abbrev pub constant_of : Name → Scope → ConstantFound → Piece Scope
constant_of n scope found = (found.worst, with_constant n found.sort found.value scope)

-- `NAME = E`
abbrev pub constant_piece : Name → Expr → Scope → Piece Scope
constant_piece n e scope = constant_of n scope (constant_found e scope (twice_here n scope))

-- Variables.

-- the names behind those of variables, which have a type unless a rule is broken
abbrev pub with_variables : List Name → Option Sort → Scope → Scope
with_variables names (Some sort) scope = declare_all names (role.Variable sort) scope
with_variables names None scope = scope

-- dense arrays are made anew where their declaration is executed; nothing else is done there
abbrev pub made : Bool → ℕ → List Name → Option Sort → List Typed → Scope → List Step
made true line names (Some sort) sets scope = step.Arrays line (here scope) names sort sets ∷ []
made _ line names sort sets scope = []

-- `a, b: type`, where this is found of the type
abbrev pub variables_of : ℕ → List Name → Bool → TypeFound → Piece (List Step × Scope)
variables_of line names dense found =
    (found.worst, (made dense line names found.sort found.sets found.scope, with_variables names found.sort found.scope))

-- `a, b: type`
abbrev pub variables_piece : ℕ → List Name → TypeForm → Scope → Piece (List Step × Scope)
variables_piece line names typ scope = variables_of line names (is_dense typ) (type_found typ scope (all_twice scope [] names None))

-- Records.

-- `NAME = record`: the name is that of a type which is not known yet
abbrev pub record_piece : Name → Scope → Piece Scope
record_piece n scope = (twice_here n scope, declare n (role.Record None) scope)

-- the fields with these, which have a type unless a rule is broken
abbrev pub with_typed : List Name → Option Sort → RecordSort → RecordSort
with_typed names (Some sort) fields = with_fields names sort fields
with_typed names None fields = fields

-- the type of a field is a scalar; what is written with parts is none, whatever stands in it
abbrev pub wrong_field : TypeForm → Option Sort → List Kind
wrong_field (typ.Base base) sort = wrong_scalar sort
wrong_field _ sort = Flat ∷ []

-- fields of one type, where this is found of the type
abbrev pub fields_of : FieldGroup → RecordSort → TypeFound → Piece (RecordSort × Scope)
fields_of group fields found =
    (least found.worst (wrong_field group.typ found.sort), (with_typed group.names found.sort fields, found.scope))

-- fields of one type, behind others of the record
abbrev pub fields_piece : FieldGroup → RecordSort → Scope → Piece (RecordSort × Scope)
fields_piece group fields scope =
    fields_of group fields (type_found group.typ scope (group_twice fields.names group.names None))

-- all fields of a record
abbrev pub fields_found : List FieldGroup → RecordSort → Scope → Result (RecordSort × Scope) Fault
fields_found [] fields scope = Ok (fields, scope)
fields_found (group ∷ groups) fields scope =
    then_do (taken group.line (fields_piece group fields scope)) (λ found. fields_found groups found.0 found.1)

-- no fields
abbrev pub no_fields : RecordSort
no_fields = record { names = []; sorts = [] }

-- the name is that of the type with these fields
abbrev pub named_record : Name → Sort × Scope → Scope
named_record n written = declare n (role.Record (Some written.0)) written.1

-- `NAME = record .. end-record`
abbrev pub record_found : ℕ → Name → List FieldGroup → Scope → Result Scope Fault
record_found line n groups scope =
    then_do (taken line (record_piece n scope)) (λ inner.
    then_do (fields_found groups no_fields inner) (λ found.
    Ok (named_record n (record_numbered found.0 found.1))))

-- Items, one behind the other.

-- an item does nothing when it is executed, but for dense arrays
abbrev pub item_found : Item → Scope → Result (List Step × Scope) Fault
item_found (item.Constant line n e) scope = then_do (taken line (constant_piece n e scope)) (λ behind. Ok ([], behind))
item_found (item.Variables line names typ) scope = taken line (variables_piece line names typ scope)
item_found (item.Record line n groups) scope = then_do (record_found line n groups scope) (λ behind. Ok ([], behind))

-- the items of a block
abbrev pub items_found : List Item → Scope → Result (List Step × Scope) Fault
items_found [] scope = Ok ([], scope)
items_found (x ∷ xs) scope = then_do (item_found x scope) (λ a. then_do (items_found xs a.1) (λ b. Ok (a.0 ++ b.0, b.1)))
