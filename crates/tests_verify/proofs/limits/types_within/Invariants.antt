-- all do where those still to come do
use Rattle.std.proofs.Common.{All, drop}
use Rattle.bim_code.specs.Limits.{TypeWithin}
use Rattle.tests_verify.proofs.limits.types_within.Given as goal

abbrev pub invariant-loop-typ : goal.invariant-loop-typ
invariant-loop-typ l = All TypeWithin (drop l.typ-index l.types) → All TypeWithin l.types
