use Rattle.std.proofs.Common.{length}
use Rattle.mos_typing.specs.Parts.{AreGroups}
use Rattle.mos_typing.proofs.Carrying.{Carries}
use Rattle.mos_typing.proofs.formal.groups.Given as goal

abbrev pub invariant-loop-names : goal.invariant-loop-names
invariant-loop-names l = Carries (AreGroups l.rest) (AreGroups l.words) l.done

abbrev pub decreases-loop-names : goal.decreases-loop-names
decreases-loop-names l = length l.rest
