-- Words that are no array.

use Rattle.std.proofs.Common.{◌≡◌, List, [], ◌∷◌, ◌++◌, sym, ◌∙◌, append_assoc}
use Rattle.mos_scan.specs.declared.token.TokenKind.TheVariants as token_kind
use Rattle.mos_scan.specs.declared.grammar_word.Word.{Word}
use Rattle.mos_scan.specs.declared.grammar_word.Word.TheVariants as word_kind
use Rattle.mos_typing.specs.Shapes.{array_of}
use Rattle.mos_typing.proofs.Ended.{SameEnd, behind_same}

-- what stands behind `array(`
inside : (words rest ds : List Word) (b : Word) → words ≡ word_kind.Key token_kind.Array ∷ word_kind.Key token_kind.OpenRound ∷ rest → words ≡ array_of ds b → rest ≡ ds ++ word_kind.Key token_kind.CloseRound ∷ word_kind.Key token_kind.Of ∷ b ∷ []
inside words rest ds b e h = let p : word_kind.Key token_kind.Array ∷ word_kind.Key token_kind.OpenRound ∷ rest ≡ array_of ds b = sym e ∙ h in cc

pub none_of : (words rest : List Word) → words ≡ word_kind.Key token_kind.Array ∷ word_kind.Key token_kind.OpenRound ∷ rest → ((front : List Word) (b : Word) → rest ≡ front ++ word_kind.Key token_kind.Of ∷ b ∷ [] → ⊥) → (ds : List Word) (b : Word) → words ≡ array_of ds b → ⊥
none_of words rest e n ds b h =
    n (ds ++ word_kind.Key token_kind.CloseRound ∷ []) b (inside words rest ds b e h ∙ sym (append_assoc ds (word_kind.Key token_kind.CloseRound ∷ []) (word_kind.Key token_kind.Of ∷ b ∷ [])))

pub none_closed : (words rest closed : List Word) (cell : Word) → words ≡ word_kind.Key token_kind.Array ∷ word_kind.Key token_kind.OpenRound ∷ rest → rest ≡ closed ++ word_kind.Key token_kind.Of ∷ cell ∷ [] → ((front : List Word) → closed ≡ front ++ word_kind.Key token_kind.CloseRound ∷ [] → ⊥) → (ds : List Word) (b : Word) → words ≡ array_of ds b → ⊥
none_closed words rest closed cell e k n ds b h =
    let p : closed ++ (word_kind.Key token_kind.Of ∷ [] ++ cell ∷ []) ≡ (ds ++ word_kind.Key token_kind.CloseRound ∷ []) ++ (word_kind.Key token_kind.Of ∷ [] ++ b ∷ []) =
    sym k ∙ inside words rest ds b e h ∙ sym (append_assoc ds (word_kind.Key token_kind.CloseRound ∷ []) (word_kind.Key token_kind.Of ∷ b ∷ [])) in
    let s : SameEnd closed (ds ++ word_kind.Key token_kind.CloseRound ∷ []) cell b = behind_same closed (ds ++ word_kind.Key token_kind.CloseRound ∷ []) (word_kind.Key token_kind.Of ∷ []) cell b p in
    n ds s.fronts
