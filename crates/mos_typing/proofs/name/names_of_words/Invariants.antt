use Rattle.std.proofs.Common.{◌≡◌, length}
use Rattle.mos_typing.specs.Reader.{names_of, onto}
use Rattle.mos_typing.proofs.name.names_of_words.Given as goal

abbrev pub invariant-loop-rest : goal.invariant-loop-rest
invariant-loop-rest l = onto l.found (names_of l.rest) ≡ names_of l.words

abbrev pub decreases-loop-rest : goal.decreases-loop-rest
decreases-loop-rest l = length l.rest
