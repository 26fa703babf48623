use Rattle.std.proofs.Common.{length}
use Rattle.mos_typing.specs.Parts.{AreDimensions}
use Rattle.mos_typing.proofs.Carrying.{Carries}
use Rattle.mos_typing.proofs.dimension.dimensions.Given as goal

abbrev pub invariant-loop-first : goal.invariant-loop-first
invariant-loop-first l = Carries (AreDimensions l.rest) (AreDimensions l.words) l.done

abbrev pub decreases-loop-first : goal.decreases-loop-first
decreases-loop-first l = length l.rest
