-- the rest decides
use Rattle.std.proofs.Common.{◌≡◌, drop}
use Rattle.bim_verify.specs.Kinds.{same_all, same_index}
use Rattle.bim_verify.proofs.same.same_indexes.Given as goal

abbrev pub invariant-loop-index : goal.invariant-loop-index
invariant-loop-index l = same_all (same_index l.image) (drop l.index-index l.indexes) l.rest ≡ same_all (same_index l.image) l.indexes l.others
