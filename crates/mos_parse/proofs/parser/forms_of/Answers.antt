use Rattle.std.proofs.Common.{◌+◌, drop, subst, sym}
use Rattle.std.proofs.lemmas.List.{drop_all}
use Rattle.mos_parse.proofs.Forms.{Done, done_one, done_all, next_piece}
use Rattle.mos_parse.proofs.parser.forms_of.Goals as goal

pub loop-piece-preserved : goal.loop-piece-preserved
loop-piece-preserved c =
    let at : Done c.args.bytes.now c.args.tokens.now c.args.pieces.now _ c.loop-piece.forms.items =
    subst (λ z. Done c.args.bytes.now c.args.tokens.now c.args.pieces.now z c.loop-piece.forms.items) (next_piece c.args.pieces.now c.loop-piece.piece-index _ c.loop-piece-test.true) c.loop-piece.invariant in
    subst (λ z. Done c.args.bytes.now c.args.tokens.now c.args.pieces.now (drop (c.loop-piece.piece-index + 1) c.args.pieces.now) z) (sym c.in_ok-push.ensures.items)
    (done_one c.args.bytes.now c.args.tokens.now c.args.pieces.now _ _ c.loop-piece.forms.items c.in_ok-form_at.field-0 at c.in_ok-form_at.ensures)

pub returns : goal.returns
returns c =
    done_all c.args.bytes.now c.args.tokens.now c.args.pieces.now c.loop-piece.forms.items
    (subst (λ z. Done c.args.bytes.now c.args.tokens.now c.args.pieces.now z c.loop-piece.forms.items) (drop_all c.loop-piece.piece-index c.args.pieces.now c.loop-piece-test.false) c.loop-piece.invariant)
