-- The tree of a source, and the line and kind of its fault where it has none.

use Rattle.std.specs.Prelude.{◌≡◌, ℕ, List, [], ◌∷◌, Option, Some, None}
use Rattle.mos_text.specs.declared.kind.Kind.{Kind}
use Rattle.mos_tree.specs.declared.source.Tree.{Tree}
use Rattle.mos_tree.specs.declared.form.Form.{Form}
use Rattle.mos_tree.specs.declared.form.PieceForm.{PieceForm}
use Rattle.mos_tree.specs.Forms.{piece}
use Rattle.mos_scan.specs.declared.token.Token.{Token}
use Rattle.mos_scan.specs.declared.piece.Piece.{Piece}
use Rattle.mos_scan.specs.Cuts.{IsTokenList, line_behind}
use Rattle.mos_scan.specs.Pieces.{ArePieces}
use Rattle.mos_scan.specs.Reading.{piece_words}
use Rattle.mos_scan.specs.Scans.{IsFaultAt}
use Rattle.mos_form.specs.Phrases.{IsFormOf}
use Rattle.mos_source.specs.Faults.{FaultyOn}
use Rattle.mos_source.specs.Answers.{IsTree, BreaksOn}

-- the forms of the pieces of a source, each with the line of its piece
pub data AreForms (source : List ℕ) (tokens : List Token) : List Piece → List PieceForm → Type 0 where
  no_piece : AreForms source tokens [] []
  one_piece : (p : Piece) (ps : List Piece) (form : Form) (forms : List PieceForm) → IsFormOf (piece_words source tokens p) form
      → AreForms source tokens ps forms → AreForms source tokens (p ∷ ps) (piece p.line form ∷ forms)

-- the source has tokens, these are cut into pieces, and the forms of the pieces are these
pub record HasForms (source : List ℕ) (forms : List PieceForm) : Type 0 where
  pub tokens : List Token
  pub cut : IsTokenList source tokens
  pub pieces : List Piece
  pub parted : ArePieces tokens pieces
  pub forms_are : AreForms source tokens pieces forms

-- the source has this tree
pub record IsParsed (source : List ℕ) (tree : Tree) : Type 0 where
  pub forms : List PieceForm
  pub read : HasForms source forms
  pub tree_is : IsTree forms tree

-- the line, or, where there is none, the last line of the source
abbrev pub line_or_last : List ℕ → Option ℕ → ℕ
line_or_last source (Some line) = line
line_or_last source None = line_behind source

-- the line and kind of the faulty piece of a source with these forms
pub record IsFaultyLine (source : List ℕ) (forms : List PieceForm) (line : ℕ) (kind : Kind) : Type 0 where
  pub at : Option ℕ
  pub faulty : FaultyOn forms at kind
  pub line_is : line ≡ line_or_last source at

-- the line of the piece at which the grammar's productions break
pub record BreaksOnLine (source : List ℕ) (forms : List PieceForm) (line : ℕ) : Type 0 where
  pub at : Option ℕ
  pub breaks : BreaksOn forms at
  pub line_is : line ≡ line_or_last source at

-- the line and kind of the fault of a source: of the place that no tokens get over, or of the faulty piece
pub data IsSyntaxFault (source : List ℕ) (line : ℕ) (kind : Kind) : Type 0 where
  lexical : (column : ℕ) → IsFaultAt source line column kind → IsSyntaxFault source line kind
  misplaced : (forms : List PieceForm) → HasForms source forms → IsFaultyLine source forms line kind → IsSyntaxFault source line kind
