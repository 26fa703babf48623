-- As the code goes about it: what the steps of the parser say to one another. No public clause cites it.

use Rattle.std.specs.Prelude.{◌≡◌, ◌≤◌, ℕ, List, length, Result, Ok, Err}
use Rattle.mos_tree.specs.declared.source.Tree.{Tree}
use Rattle.mos_tree.specs.declared.refusal.Refusal.{Refusal}
use Rattle.mos_tree.specs.declared.form.PieceForm.{PieceForm}
use Rattle.mos_tree.specs.Forms.{piece}
use Rattle.mos_tree.specs.Sizes.{size_of_tree, size_of_form, size_of_pieces}
use Rattle.mos_scan.specs.declared.fault.LexFault.{LexFault}
use Rattle.mos_scan.specs.declared.fault.LexFault.TheVariants as lex
use Rattle.mos_scan.specs.declared.token.Token.{Token}
use Rattle.mos_scan.specs.declared.piece.Piece.{Piece}
use Rattle.mos_scan.specs.Pieces.{ArePieces}
use Rattle.mos_scan.specs.Reading.{piece_words, count_of_words}
use Rattle.mos_form.specs.Phrases.{IsFormOf}
use Rattle.mos_source.specs.Answers.{IsTree}
use Rattle.mos_parse.specs.declared.fault.SyntaxFault.{SyntaxFault}
use Rattle.mos_parse.specs.declared.fault.SyntaxFault.TheVariants.{Refused, NoMemory}
use Rattle.mos_parse.specs.Parsed.{AreForms, IsFaultyLine, BreaksOnLine}

-- a fault of tokens as one of the source
abbrev pub of_tokens : LexFault → SyntaxFault
of_tokens (lex.At line column kind) = Refused (record { line = line; kind = kind })
of_tokens lex.NoMemory = NoMemory

-- the form of a piece, which is no larger than the piece has words
pub record IsFormAt (source : List ℕ) (tokens : List Token) (p : Piece) (x : PieceForm) : Type 0 where
  pub at_line : x ≡ piece p.line x.form
  pub form : IsFormOf (piece_words source tokens p) x.form
  pub small : size_of_form x.form ≤ length (piece_words source tokens p)

-- the forms of pieces, which are no larger than the pieces have words
pub record HaveForms (source : List ℕ) (tokens : List Token) (ps : List Piece) (forms : List PieceForm) : Type 0 where
  pub are : AreForms source tokens ps forms
  pub small : size_of_pieces forms ≤ count_of_words source tokens ps

-- a tree that is no larger than its pieces
pub record HasTree (forms : List PieceForm) (tree : Tree) : Type 0 where
  pub tree_is : IsTree forms tree
  pub small : size_of_tree tree ≤ size_of_pieces forms

-- the faulty piece is the one at which the productions break
pub record HasFault (source : List ℕ) (forms : List PieceForm) (refusal : Refusal) : Type 0 where
  pub faulty : IsFaultyLine source forms refusal.line refusal.kind
  pub breaks : BreaksOnLine source forms refusal.line

-- what is answered of forms
abbrev pub Says : List ℕ → List PieceForm → Result Tree SyntaxFault → Type 0
Says source forms (Ok tree) = HasTree forms tree
Says source forms (Err (Refused refusal)) = HasFault source forms refusal
Says source forms (Err NoMemory) = Unit {0}

-- what is answered of tokens
pub record IsReading (source : List ℕ) (tokens : List Token) (result : Result Tree SyntaxFault) : Type 0 where
  pub pieces : List Piece
  pub parted : ArePieces tokens pieces
  pub few : count_of_words source tokens pieces ≤ length tokens
  pub forms : List PieceForm
  pub have : HaveForms source tokens pieces forms
  pub says : Says source forms result

-- what is answered of tokens, unless memory is wanting
abbrev pub Reads : List ℕ → List Token → Result Tree SyntaxFault → Type 0
Reads source tokens (Err NoMemory) = Unit {0}
Reads source tokens result = IsReading source tokens result
