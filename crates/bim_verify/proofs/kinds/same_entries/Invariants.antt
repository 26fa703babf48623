-- the rest decides
use Rattle.std.proofs.Common.{◌≡◌, drop, map}
use Rattle.bim_verify.specs.Kinds.{same_all, same_kind, kind_of}
use Rattle.bim_verify.proofs.kinds.same_entries.Given as goal

abbrev pub invariant-loop-operand : goal.invariant-loop-operand
invariant-loop-operand l = same_all (same_kind l.image) (map (kind_of l.image) (drop l.operand-index l.operands)) l.rest ≡ same_all (same_kind l.image) (map (kind_of l.image) l.operands) l.kinds
