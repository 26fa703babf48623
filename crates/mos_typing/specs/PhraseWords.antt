-- Which words the expressions of a source have, by which a piece is cut into its parts.

use Rattle.std.specs.Prelude.{◌≡◌, Bool, true, false, if◌then◌else◌, List}
use Rattle.std.specs.List.{list_all}
use Rattle.mos_scan.specs.declared.token.TokenKind.{TokenKind}
use Rattle.mos_scan.specs.declared.token.TokenKind.TheVariants as token_kind
use Rattle.mos_scan.specs.declared.grammar_word.Word.{Word}
use Rattle.mos_scan.specs.declared.grammar_word.Word.TheVariants as word_kind
use Rattle.mos_expr.specs.Grammar.{Syntax, SyntaxList, IndexSyntax, spell, spell_list, spell_index}

-- a word that parts a piece and stands in no expression
abbrev pub parts_pieces : TokenKind → Bool
parts_pieces token_kind.Assign = true
parts_pieces token_kind.AddAssign = true
parts_pieces token_kind.TakeAssign = true
parts_pieces token_kind.Fill = true
parts_pieces token_kind.Colon = true
parts_pieces token_kind.Then = true
parts_pieces token_kind.Of = true
parts_pieces token_kind.Record = true
parts_pieces token_kind.Range = true
parts_pieces token_kind.As = true
parts_pieces token_kind.From = true
parts_pieces token_kind.To = true
parts_pieces _ = false

-- any other word
abbrev pub is_plain : Word → Bool
is_plain (word_kind.Key kind) = if parts_pieces kind then false else true
is_plain _ = true

-- all the words are plain
abbrev pub ArePlain : List Word → Type 0
ArePlain words = list_all is_plain words ≡ true

-- the words of each expression are plain
abbrev pub SyntaxIsPlain : Type 0
SyntaxIsPlain = (s : Syntax) → ArePlain (spell s)

-- and those of expressions with commas between them
abbrev pub ListIsPlain : Type 0
ListIsPlain = (ss : SyntaxList) → ArePlain (spell_list ss)

-- and those of an index
abbrev pub IndexIsPlain : Type 0
IndexIsPlain = (i : IndexSyntax) → ArePlain (spell_index i)
