-- As the code reads, apart from what the public clauses say: where the words of a piece part.

use Rattle.std.specs.Prelude.{◌≡◌, ℕ, Bool, true, false, List, [], ◌∷◌, ◌++◌, Option, Some, None}
use Rattle.mos_tree.specs.declared.statement.Assignment.{Assignment}
use Rattle.mos_tree.specs.declared.statement.Assignment.TheVariants as assignment
use Rattle.mos_tree.specs.declared.statement.Direction.{Direction}
use Rattle.mos_tree.specs.declared.statement.Direction.TheVariants as direction
use Rattle.mos_scan.specs.declared.token.TokenKind.{TokenKind}
use Rattle.mos_scan.specs.declared.token.TokenKind.TheVariants as token_kind
use Rattle.mos_scan.specs.declared.grammar_word.Word.{Word}
use Rattle.mos_scan.specs.declared.grammar_word.Word.TheVariants as word_kind
use Rattle.mos_typing.specs.Typing.{key}
use Rattle.mos_typing.specs.PhraseWords.{ArePlain, is_plain}

-- what a word assigns, if it does
abbrev pub operator_of : Word → Option Assignment
operator_of (word_kind.Key token_kind.Assign) = Some assignment.Set
operator_of (word_kind.Key token_kind.AddAssign) = Some assignment.Add
operator_of (word_kind.Key token_kind.TakeAssign) = Some assignment.Take
operator_of _ = None

-- the one word `record`
abbrev pub is_record : List Word → Bool
is_record (word_kind.Key token_kind.Record ∷ []) = true
is_record _ = false

-- the way that a word says
abbrev pub direction_of : Word → Option Direction
direction_of (word_kind.Key token_kind.From) = Some direction.From
direction_of (word_kind.Key token_kind.To) = Some direction.To
direction_of _ = None

-- words before this token
abbrev pub before : TokenKind → List Word → List Word
before kind inside = inside ++ key kind

-- words between these tokens
abbrev pub within : TokenKind → TokenKind → List Word → List Word
within opens closes inside = word_kind.Key opens ∷ (inside ++ key closes)

-- words behind a name
abbrev pub behind_name : List ℕ → List Word → List Word
behind_name name rest = word_kind.Name name ∷ rest

-- words behind a token
abbrev pub behind_key : TokenKind → List Word → List Word
behind_key kind rest = word_kind.Key kind ∷ rest

-- words before a closing bracket and a field
abbrev pub with_field : List Word → List ℕ → List Word
with_field inside field = inside ++ word_kind.Key token_kind.CloseRound ∷ word_kind.Key token_kind.Dot ∷ word_kind.Name field ∷ []

-- words before a colon and one word
abbrev pub with_result : List Word → Word → List Word
with_result inside typ = inside ++ word_kind.Key token_kind.Colon ∷ typ ∷ []

-- the words part at this one, which is the first that may stand in no expression
abbrev pub ArePartedAt : List Word → List Word → Word → List Word → Type 0
ArePartedAt words front word behind = ArePlain front × (is_plain word ≡ false) × (words ≡ front ++ word ∷ behind)
