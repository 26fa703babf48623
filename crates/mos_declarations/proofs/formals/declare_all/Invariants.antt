-- those before are declared
use Rattle.std.proofs.Common.{◌≡◌, drop}
use Rattle.mos_sorts.specs.Scopes.{declare_all}
use Rattle.mos_sorts.specs.declared.scope.Role.TheVariants.{Formal}
use Rattle.mos_declarations.proofs.formals.declare_all.Given as goal

abbrev pub invariant-loop-name : goal.invariant-loop-name
invariant-loop-name l = declare_all (drop l.name-index l.names) (Formal l.sort) l.scope ≡ declare_all l.names (Formal l.sort) l.fn.scope
