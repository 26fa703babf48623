use Rattle.std.proofs.Common.{drop}
use Rattle.mos_parse.proofs.Forms.{Done}
use Rattle.mos_parse.proofs.parser.forms_of.Given as goal

abbrev pub invariant-loop-piece : goal.invariant-loop-piece
invariant-loop-piece l = Done l.bytes l.tokens l.pieces (drop l.piece-index l.pieces) l.forms.items
