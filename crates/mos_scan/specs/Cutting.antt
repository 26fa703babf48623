-- As the code cuts pieces: what it keeps of the tokens behind it, and of the piece that it reads. No
-- public clause cites this file.

use Rattle.std.specs.Prelude.{ℕ, ◌+◌, Bool, false, ◌||◌, if◌then◌else◌, ◌==◌, nat_lt, List, [], ◌∷◌, ◌++◌}
use Rattle.mos_scan.specs.declared.token.TokenKind.{TokenKind}
use Rattle.mos_scan.specs.declared.token.TokenKind.TheVariants.{Newline}
use Rattle.mos_scan.specs.declared.token.Token.{Token}
use Rattle.mos_scan.specs.declared.piece.Piece.{Piece}
use Rattle.mos_scan.specs.declared.context.Context.{Context}
use Rattle.mos_scan.specs.declared.piece.OpenPiece.{OpenPiece}
use Rattle.mos_scan.specs.Pieces.{depth_behind, declarations_after, parameters_after, initializations_after, separates_at, begins_piece, ends_by}

-- what is known before all tokens
abbrev pub no_context : Context
no_context = record { depth = 0; last = Newline; declarations = false; parameters = false; initializations = false }

-- what is known behind one token more
unfoldable pub context_after : Context → TokenKind → Context
context_after context kind = record {
  depth = depth_behind context.depth kind;
  last = kind;
  declarations = declarations_after context.declarations kind;
  parameters = parameters_after context.parameters kind;
  initializations = initializations_after context.initializations kind;
}

-- whether a block of items is open
abbrev pub is_among_items : Context → Bool
is_among_items context = context.declarations || context.parameters || context.initializations

-- whether the token belongs to no piece
unfoldable pub is_separator : Context → TokenKind → Bool
is_separator context kind = separates_at context.depth context.last kind

-- no piece, at this place
unfoldable pub nothing_at : ℕ → OpenPiece
nothing_at place = record { from = place; count = 0; line = 0; first = Newline; second = Newline; last = Newline; depth = 0 }

-- the piece with one token more
unfoldable pub piece_with : OpenPiece → Token → OpenPiece
piece_with piece token = record {
  from = piece.from;
  count = piece.count + 1;
  line = if piece.count == 0 then token.line else piece.line;
  first = if piece.count == 0 then token.kind else piece.first;
  second = if piece.count == 1 then token.kind else piece.second;
  last = token.kind;
  depth = depth_behind piece.depth token.kind;
}

-- whether the piece ends behind its last token
unfoldable pub is_ended : Context → OpenPiece → Bool
is_ended context piece = ends_by piece.first piece.second piece.last piece.depth context.depth (is_among_items context)

-- whether a piece begins with the token
unfoldable pub starts : Context → OpenPiece → TokenKind → Bool
starts context piece kind = begins_piece kind || is_ended context piece

-- the piece, if it has a token
unfoldable pub closed_piece : OpenPiece → List Piece
closed_piece piece = if nat_lt 0 piece.count then record { from = piece.from; to = piece.from + piece.count; line = piece.line } ∷ [] else []

-- the pieces from here on: a separator closes the open one, a token that starts one closes it and begins another
abbrev pub pieces_from : Context → OpenPiece → List Token → List Piece
pieces_from context piece [] = closed_piece piece
pieces_from context piece (t ∷ ts) =
    if is_separator context t.kind then closed_piece piece ++ pieces_from (context_after context t.kind) (nothing_at (piece.from + piece.count + 1)) ts
    else (if starts context piece t.kind then closed_piece piece ++ pieces_from (context_after context t.kind) (piece_with (nothing_at (piece.from + piece.count)) t) ts
    else pieces_from (context_after context t.kind) (piece_with piece t) ts)

-- the pieces that the code cuts
abbrev pub cut_pieces : List Token → List Piece
cut_pieces tokens = pieces_from no_context (nothing_at 0) tokens
