-- Parameters and their defaults.

use Rattle.std.specs.Prelude.{List, [], ◌∷◌, ◌++◌, not, Option, Some, None, Result, Ok}
use Rattle.mos_text.specs.declared.kind.Kind.{Kind}
use Rattle.mos_text.specs.declared.kind.Kind.TheVariants.{NoType}
use Rattle.mos_names.specs.NameLists.{Name}
use Rattle.mos_tree.specs.declared.declaration.Parameter.{Parameter as Written}
use Rattle.mos_sorts.specs.declared.sort.Sort.{Sort}
use Rattle.mos_sorts.specs.declared.scope.Scope.{Scope}
use Rattle.mos_sorts.specs.declared.scope.Role.TheVariants as role
use Rattle.mos_sorts.specs.declared.value.Value.{Value}
use Rattle.mos_sorts.specs.Kinds.{least, breaks}
use Rattle.mos_sorts.specs.Library.{may_be, is_member}
use Rattle.mos_sorts.specs.Scopes.{declare}
use Rattle.mos_checked.specs.declared.checked.Parameter.{Parameter}
use Rattle.mos_types.specs.Faults.{Fault}
use Rattle.mos_checked.specs.Judging.{Piece, then_do}
use Rattle.mos_declarations.specs.Taken.{taken}
use Rattle.mos_declarations.specs.Items.{twice_here, ConstantFound, constant_found}

-- the parameter, which has a value unless a rule is broken
abbrev pub parameter_with : Name → Option Sort → Option Value → List Parameter
parameter_with n (Some sort) (Some value) = record { name = n; sort = sort; default = value } ∷ []
parameter_with n _ _ = []

-- the names behind that of a parameter
abbrev pub with_parameter : Name → Option Sort → Scope → Scope
with_parameter n (Some sort) scope = declare n (role.Parameter sort) scope
with_parameter n None scope = scope

-- a parameter is an integer, a boolean or a string
abbrev pub wrong_parameter : Option Sort → List Kind
wrong_parameter sort = breaks (not (may_be is_member sort)) NoType

-- `NAME = E`, where this is found of E
abbrev pub parameter_of : Name → Scope → ConstantFound → Piece (List Parameter × Scope)
parameter_of n scope found = (
  least found.worst (wrong_parameter found.sort),
  (parameter_with n found.sort found.value, with_parameter n found.sort scope),
)

-- `NAME = E` of a block of parameters
abbrev pub parameter_piece : Written → Scope → Piece (List Parameter × Scope)
parameter_piece x scope = parameter_of x.name scope (constant_found x.default scope (twice_here x.name scope))

-- the parameters of a block
abbrev pub parameters_found : List Written → Scope → Result (List Parameter × Scope) Fault
parameters_found [] scope = Ok ([], scope)
parameters_found (x ∷ xs) scope =
    then_do (taken x.line (parameter_piece x scope)) (λ a. then_do (parameters_found xs a.1) (λ b. Ok (a.0 ++ b.0, b.1)))

-- what is found, behind parameters before
abbrev pub adding : List Parameter → Result (List Parameter × Scope) Fault → Result (List Parameter × Scope) Fault
adding before found = then_do found (λ b. Ok (before ++ b.0, b.1))
