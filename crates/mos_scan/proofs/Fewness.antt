-- Pieces have no more words than there are tokens.

use Rattle.std.proofs.Common.{ℕ, ◌+◌, ◌-◌, ◌≤◌, Bool, true, false, if◌then◌else◌, List, [], ◌∷◌, ◌++◌, length, drop, Result, Ok, Err, IfOk, arith, length-append}
use Rattle.std.proofs.lemmas.List.{length-take}
use Rattle.mos_scan.specs.declared.token.Token.{Token}
use Rattle.mos_scan.specs.declared.piece.Piece.{Piece}
use Rattle.mos_scan.specs.declared.grammar_word.Word.{Word}
use Rattle.mos_scan.specs.Reading.{is_newline, word_of, words_of, tokens_in, piece_words, count_of_words}
use Rattle.mos_scan.specs.Pieces.{piece_of, ArePieces, ArePiecesBehind, no_token, separator, whole_piece}

shorter : (newline : Bool) (word : Word) (words : List Word) (n : ℕ) → length words ≤ n → length (if newline then words else word ∷ words) ≤ n + 1
shorter true word words n h = omega (arith, h)
shorter false word words n h = omega (arith, h)

few_of : (source : List ℕ) (tokens : List Token) → length (words_of source tokens) ≤ length tokens
few_of source [] = omega arith
few_of source (t ∷ ts) = omega (arith, shorter (is_newline t.kind) (word_of source t) (words_of source ts) (length ts) (few_of source ts))

-- a piece has as many words as tokens at most
few_in : (source : List ℕ) (tokens before xs : List Token) → length (piece_words source tokens (piece_of before xs)) ≤ length xs
few_in source tokens before xs =
    omega (arith, few_of source (tokens_in tokens (piece_of before xs)), length-take (length before + length xs - length before) (drop (length before) tokens))

few_behind : (source : List ℕ) (tokens before rest : List Token) (ps : List Piece) → ArePiecesBehind before rest ps → count_of_words source tokens ps ≤ length rest
few_behind source tokens _ _ _ (no_token before) = omega arith
few_behind source tokens _ _ _ (separator before t ts ps s more) = omega (arith, few_behind source tokens (before ++ t ∷ []) ts ps more)
few_behind source tokens _ _ _ (whole_piece before xs ts ps u e more) =
    omega (arith, few_in source tokens before xs, few_behind source tokens (before ++ xs) ts ps more, length-append xs ts)

pub few_words : {V E : Type 0} (items : V → List Piece) (source : List ℕ) (tokens : List Token) (r : Result V E) → IfOk r (λ v. ArePieces tokens (items v)) → IfOk r (λ v. count_of_words source tokens (items v) ≤ length tokens)
few_words items source tokens (Ok v) found = few_behind source tokens [] tokens (items v) found
few_words items source tokens (Err x) found = tt
