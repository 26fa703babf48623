-- As the code reads, apart from what the public clauses say: pieces that have no expressions, or
-- that differ by a word alone.

use Rattle.std.specs.Prelude.{ℕ, Bool, true, false, List, [], ◌∷◌, Option, Some, None}
use Rattle.mos_tree.specs.declared.declaration.BaseType.{BaseType}
use Rattle.mos_tree.specs.declared.declaration.FormalGroup.{FormalGroup}
use Rattle.mos_tree.specs.declared.source.ModelName.TheVariants as called
use Rattle.mos_scan.specs.declared.token.TokenKind.{TokenKind}
use Rattle.mos_scan.specs.declared.token.TokenKind.TheVariants as token_kind
use Rattle.mos_scan.specs.declared.grammar_word.Word.{Word}
use Rattle.mos_scan.specs.declared.grammar_word.Word.TheVariants as word_kind
use Rattle.mos_tree.specs.declared.form.Form.{Form}
use Rattle.mos_tree.specs.declared.form.Form.TheVariants as form_kind
use Rattle.mos_tree.specs.declared.form.Keyword.{Keyword}
use Rattle.mos_tree.specs.declared.form.PieceKind.{PieceKind}
use Rattle.mos_tree.specs.declared.form.PieceKind.TheVariants as piece_kind
use Rattle.mos_tree.specs.declared.form.Simple.TheVariants as simple
use Rattle.mos_form.specs.Heads.{keyword_of}

-- what stands behind `model`
abbrev pub model : List Word → Form
model (word_kind.Text n ∷ []) = form_kind.Model (called.Quoted n)
model (word_kind.Name n ∷ []) = form_kind.Model (called.Named n)
model _ = form_kind.Unknown

-- what stands behind `options`
abbrev pub options : List Word → Form
options (word_kind.Name n ∷ []) = form_kind.Options n
options _ = form_kind.Unknown

-- the heading of a routine, behind `forward` or not
abbrev pub heading : Bool → List ℕ → List FormalGroup → Option BaseType → Form
heading true n xs typ = form_kind.Forward n xs typ
heading false n xs typ = form_kind.Routine n xs typ

-- its kind
abbrev pub heading_kind : Bool → Option BaseType → PieceKind
heading_kind true result = piece_kind.Forward
heading_kind false None = piece_kind.Procedure
heading_kind false (Some b) = piece_kind.Function

-- the first words of a heading
abbrev pub lead : Bool → TokenKind → List Word → List Word
lead true kind words = word_kind.Key token_kind.Forward ∷ word_kind.Key kind ∷ words
lead false kind words = word_kind.Key kind ∷ words

-- the statements of one word
abbrev pub other_word : TokenKind → Form
other_word token_kind.Break = form_kind.Simple simple.Break
other_word token_kind.Next = form_kind.Simple simple.Next
other_word _ = form_kind.Unknown

-- the keyword, or else this
abbrev pub keyword_or : Option Keyword → Form → Form
keyword_or None other = other
keyword_or (Some x) other = form_kind.Keyword x

-- the piece that is this token alone
abbrev pub single_word : TokenKind → Form
single_word kind = keyword_or (keyword_of kind) (other_word kind)

-- the piece that is one token
abbrev pub single : TokenKind → List Word → Form
single kind [] = single_word kind
single kind (word ∷ rest) = form_kind.Unknown
