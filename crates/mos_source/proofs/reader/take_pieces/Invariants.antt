use Rattle.std.proofs.Common.{◌≡◌, length, drop}
use Rattle.mos_source.specs.Machine as spec
use Rattle.mos_source.specs.Sources.{limit}
use Rattle.mos_source.proofs.reader.take_pieces.Given as goal

abbrev pub invariant-loop-piece : goal.invariant-loop-piece
invariant-loop-piece l = spec.run limit (spec.stack_of l.stack.items) (drop (length l.yielded) l.fn.pieces.items) ≡ spec.run limit (spec.stack_of l.initial.stack.items) l.fn.pieces.items
