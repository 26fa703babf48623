-- As the code reads, apart from what the public clauses say: how the words of types are put
-- together.

use Rattle.std.specs.Prelude.{◌≡◌, Bool, true, false, List, [], ◌∷◌, ◌++◌}
use Rattle.mos_scan.specs.declared.token.TokenKind.TheVariants as token_kind
use Rattle.mos_scan.specs.declared.grammar_word.Word.{Word}
use Rattle.mos_scan.specs.declared.grammar_word.Word.TheVariants as word_kind

-- the word `range` alone
abbrev pub is_range : List Word → Bool
is_range (word_kind.Key token_kind.Range ∷ []) = true
is_range _ = false

-- `set of` and a word
abbrev pub set_of : Word → List Word
set_of b = word_kind.Key token_kind.Set ∷ word_kind.Key token_kind.Of ∷ b ∷ []

-- an array over what stands in its brackets, with the word of its cells
abbrev pub array_of : List Word → Word → List Word
array_of dimensions b = word_kind.Key token_kind.Array ∷ word_kind.Key token_kind.OpenRound ∷ (dimensions ++ word_kind.Key token_kind.CloseRound ∷ word_kind.Key token_kind.Of ∷ b ∷ [])

-- words behind `dynamic`
abbrev pub dynamic_of : List Word → List Word
dynamic_of rest = word_kind.Key token_kind.Dynamic ∷ rest

-- words behind `array` and its bracket
abbrev pub array_with : List Word → List Word
array_with rest = word_kind.Key token_kind.Array ∷ word_kind.Key token_kind.OpenRound ∷ rest

-- words before `of` and one word
abbrev pub with_cells : List Word → Word → List Word
with_cells front b = front ++ word_kind.Key token_kind.Of ∷ b ∷ []

-- words before a closing bracket
abbrev pub with_close : List Word → List Word
with_close inside = inside ++ word_kind.Key token_kind.CloseRound ∷ []

-- the words are put together in this way from nothing
abbrev pub AreNo : {A : Type 0} → (A → List Word) → List Word → Type 0
AreNo {A = A} make words = (x : A) → words ≡ make x → ⊥

-- the same of two parts
abbrev pub AreNoPair : {A B : Type 0} → (A → B → List Word) → List Word → Type 0
AreNoPair {A = A} {B = B} make words = (x : A) (y : B) → words ≡ make x y → ⊥
