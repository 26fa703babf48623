use Rattle.std.proofs.Common.{◌≡◌, length}
use Rattle.mos_typing.specs.Reader.{onto}
use Rattle.mos_form.specs.Lists.{texts_of}
use Rattle.mos_form.proofs.lists.texts.Given as goal

abbrev pub invariant-loop-rest : goal.invariant-loop-rest
invariant-loop-rest l = onto l.found (texts_of l.rest) ≡ texts_of l.words

abbrev pub decreases-loop-rest : goal.decreases-loop-rest
decreases-loop-rest l = length l.rest
