-- Names and what may stand behind them: what each is on either side of an assignment, and what is wrong there.

use Rattle.std.specs.Prelude.{ℕ, Bool, true, false, ◌==◌, List, [], ◌∷◌, Option, Some, None, if◌then◌else◌}
use Rattle.mos_text.specs.declared.kind.Kind.{Kind}
use Rattle.mos_text.specs.declared.kind.Kind.TheVariants.{Out, Jobs, Unknown, Const}
use Rattle.mos_names.specs.NameLists.{Name}
use Rattle.mos_sorts.specs.declared.sort.Sort.{Sort}
use Rattle.mos_sorts.specs.declared.sort.ArraySort.{ArraySort}
use Rattle.mos_sorts.specs.declared.typed.Typed.TheVariants as t
use Rattle.mos_sorts.specs.declared.typed.Where.{Where}
use Rattle.mos_sorts.specs.declared.typed.Where.TheVariants as where_
use Rattle.mos_sorts.specs.declared.scope.Role.{Role}
use Rattle.mos_sorts.specs.declared.scope.Role.TheVariants as role
use Rattle.mos_sorts.specs.declared.scope.Scope.{Scope}
use Rattle.mos_sorts.specs.declared.scope.Signature.{Signature}
use Rattle.mos_sorts.specs.declared.function.Function.{Function}
use Rattle.mos_sorts.specs.declared.function.Function.TheVariants as f
use Rattle.mos_sorts.specs.declared.function.Undeclared.{Undeclared}
use Rattle.mos_sorts.specs.declared.function.Undeclared.TheVariants as u
use Rattle.mos_sorts.specs.Kinds.{breaks}
use Rattle.mos_sorts.specs.Scopes.{Meaning, Index, Declared}
use Rattle.mos_sorts.specs.Scopes.{Undeclared as NotDeclared}
use Rattle.mos_sorts.specs.Vocabulary.{undeclared_meaning}
use Rattle.mos_rules.specs.declared.side.Side.{Side}
use Rattle.mos_rules.specs.declared.side.Side.TheVariants as side
use Rattle.mos_rules.specs.Results.{Seen, Row, in_row, with_tree, without_type}
use Rattle.mos_rules.specs.Rows.{Expects, Plain, Printed, AsSets, Files, Formals, Indexes}
use Rattle.mos_rules.specs.Calls.{routine, library, array_of, cell}

-- ---- what is wrong with a name itself

-- a routine that is left out, with brackets or without
abbrev pub wrong_left_out : Bool → Name → List Kind
wrong_left_out true n = Out n ∷ []
wrong_left_out false n = Unknown n ∷ []

-- a name that is a function or type where it is not declared: it is no variable
abbrev pub wrong_as_target : Side → Name → List Kind
wrong_as_target side.Value n = []
wrong_as_target _ n = Unknown n ∷ []

-- a name that is not declared, with brackets or without
abbrev pub wrong_undeclared : Side → Bool → Name → Undeclared → List Kind
wrong_undeclared on brackets n u.LeftOut = wrong_left_out brackets n
wrong_undeclared on brackets n u.Jobs = Jobs ∷ []
wrong_undeclared on brackets n u.Nothing = Unknown n ∷ []
wrong_undeclared on brackets n _ = wrong_as_target on n

-- what nothing can be assigned to: constants, parameters and index names
abbrev pub is_constant : Meaning → Bool
is_constant (Index sort) = true
is_constant (Declared place (role.Constant sort value)) = true
is_constant (Declared place (role.Parameter sort)) = true
is_constant _ = false

-- a target that nothing can be assigned to
abbrev pub wrong_target : Side → Meaning → List Kind
wrong_target side.Target meaning = breaks (is_constant meaning) Const
wrong_target _ meaning = []

-- what is wrong with a name on a side of an assignment
abbrev pub wrong_name : Side → Bool → Name → Bool → Meaning → List Kind
wrong_name on brackets n jobs NotDeclared = wrong_undeclared on brackets n (undeclared_meaning jobs n)
wrong_name on brackets n jobs meaning = wrong_target on meaning

-- ---- what is called: a value alone can be a call

-- a call of a routine
abbrev pub routine_on : Side → Signature → Name → Row → Seen
routine_on side.Value signature n row = routine signature n row
routine_on _ signature n row = without_type row.worst

-- a call of what is not declared
abbrev pub undeclared_on : Side → Undeclared → Row → Seen
undeclared_on side.Value (u.Function callable) row = library callable row
undeclared_on _ undeclared row = without_type row.worst

-- ---- names without brackets

-- an index name
abbrev pub index_name : Option Sort → Name → Option Kind → Seen
index_name (Some sort) n worst = with_tree (t.Name sort where_.Index n) worst
index_name None n worst = without_type worst

-- a declared name
abbrev pub declared_name : Side → Role → Where → Name → Option Kind → Seen
declared_name on (role.Constant sort value) place n worst = with_tree (t.Constant sort place n) worst
declared_name on (role.Parameter sort) place n worst = with_tree (t.Name sort place n) worst
declared_name on (role.Variable sort) place n worst = with_tree (t.Name sort place n) worst
declared_name on (role.Formal sort) place n worst = with_tree (t.Name sort place n) worst
declared_name on (role.Record sort) place n worst = without_type worst
declared_name on (role.Routine signature) place n worst = routine_on on signature n (in_row [] worst)

-- a name without brackets
abbrev pub bare : Side → Bool → Meaning → Name → Option Kind → Seen
bare on jobs (Index sort) n worst = index_name sort n worst
bare on jobs (Declared place found) n worst = declared_name on found place n worst
bare on jobs NotDeclared n worst = undeclared_on on (undeclared_meaning jobs n) (in_row [] worst)

-- ---- names with brackets

-- a declared name with indexes or arguments
abbrev pub declared_with : Side → List ArraySort → Role → Where → Name → Row → Seen
declared_with on arrays (role.Variable sort) place n row = cell (array_of arrays sort) place n row
declared_with on arrays (role.Formal sort) place n row = cell (array_of arrays sort) place n row
declared_with on arrays (role.Routine signature) place n row = routine_on on signature n row
declared_with on arrays _ place n row = without_type row.worst

-- a name with indexes or arguments
abbrev pub applied : Side → Scope → Meaning → Name → Row → Seen
applied on scope (Index sort) n row = without_type row.worst
applied on scope (Declared place found) n row = declared_with on scope.arrays found place n row
applied on scope NotDeclared n row = undeclared_on on (undeclared_meaning scope.jobs n) row

-- ---- what is expected of indexes and arguments

-- of indexes
abbrev pub of_array : Option ArraySort → Expects
of_array (Some array) = Indexes array.indexes
of_array None = Plain

-- of arguments of the library: `write` and `writeln` print theirs, `finalize` takes a set, and the second of three of `compile` is
-- the name of a file before the third is looked at
abbrev pub of_library : Function → ℕ → Expects
of_library f.Write count = Printed
of_library f.Writeln count = Printed
of_library f.Finalize count = AsSets
of_library f.Compile count = if count == 3 then Files else Plain
of_library _ count = Plain

-- of arguments of a routine, where it is called
abbrev pub of_routine : Side → Signature → Expects
of_routine side.Value signature = Formals signature.formals
of_routine _ signature = Plain

-- of arguments of what is not declared
abbrev pub of_undeclared : Side → Undeclared → ℕ → Expects
of_undeclared side.Value (u.Function callable) count = of_library callable.function count
of_undeclared _ undeclared count = Plain

-- of what stands in the brackets of a declared name
abbrev pub of_role : Side → List ArraySort → Role → Expects
of_role on arrays (role.Variable sort) = of_array (array_of arrays sort)
of_role on arrays (role.Formal sort) = of_array (array_of arrays sort)
of_role on arrays (role.Routine signature) = of_routine on signature
of_role on arrays _ = Plain

-- of what stands in the brackets of a name
abbrev pub expected_by : Side → Scope → Meaning → Name → ℕ → Expects
expected_by on scope (Index sort) n count = Plain
expected_by on scope (Declared place found) n count = of_role on scope.arrays found
expected_by on scope NotDeclared n count = of_undeclared on (undeclared_meaning scope.jobs n) count
