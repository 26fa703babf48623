-- As the code looks for the next lexeme, from the left. No public clause cites this file.

use Rattle.std.specs.Prelude.{◌≡◌, ℕ, ◌≢◌, ◌+◌, ◌<◌, ◌≤◌, ◌++◌, length, false, if◌then◌else◌, List, [], ◌∷◌, take, Option, Some, None, unwrap_or, ◌&&◌, ◌==◌, Bool, codes, nat_le, drop}
use Rattle.std.specs.List.{prefix_len}
use Rattle.std.specs.Char.{is_ascii_digit}
use Rattle.mos_scan.specs.Characters.{begins_name, is_word, is_quote}
use Rattle.mos_scan.specs.ReservedWords.{same_word, in_one_case, plain_word}
use Rattle.mos_scan.specs.Vocabulary.{Table, ends}
use Rattle.mos_scan.specs.Tokens.{closing_quote, one_byte, two_bytes, gap_at, fault_at, kind_of}
use Rattle.mos_scan.specs.declared.token.TokenKind.{TokenKind}
use Rattle.mos_scan.specs.declared.token.TokenKind.TheVariants as token_kind
use Rattle.mos_scan.specs.declared.lexeme.LexicalError.{LexicalError}
use Rattle.mos_scan.specs.declared.lexeme.LexicalError.TheVariants as lexical_error
use Rattle.mos_text.specs.declared.kind.Kind.{Kind}
use Rattle.mos_text.specs.declared.kind.Kind.TheVariants as error_kind
use Rattle.mos_scan.specs.declared.lexeme.Lexeme.{Lexeme}
use Rattle.mos_scan.specs.declared.lexeme.Lexeme.TheVariants as lexeme_kind

-- whether the text begins with four bytes and this word, in one case
abbrev pub is_front : List ℕ → List ℕ → Bool
is_front tail text = nat_le (length tail + 4) (length text) && same_word tail (drop 4 (take (length tail + 4) text)) && in_one_case (take (length tail + 4) text)

-- the first entry of the table with which the text begins, behind `end-`, and its length
abbrev pub front_end : Table → List ℕ → Option (TokenKind × ℕ)
front_end [] text = None
front_end (k ∷ ks) text = if is_front k.0 text then Some (k.1, length k.0 + 4) else front_end ks text

-- the `end-` word with which a text begins, and its length
unfoldable pub end_at : List ℕ → Option (TokenKind × ℕ)
end_at (e ∷ n ∷ d ∷ dash ∷ tail) =
    if dash == 45 && same_word (e ∷ n ∷ d ∷ []) (codes "end") then front_end ends (e ∷ n ∷ d ∷ dash ∷ tail) else None
end_at _ = None

-- an `end-` word with its length, or the word at the front
abbrev pub end_or_word : Option (TokenKind × ℕ) → List ℕ → TokenKind × ℕ
end_or_word (Some found) bs = found
end_or_word None bs = (plain_word (take (prefix_len is_word bs) bs), prefix_len is_word bs)

-- a symbol of two bytes, or of one
abbrev pub two_or_one : Option TokenKind → ℕ → TokenKind × ℕ
two_or_one (Some kind) a = (kind, 2)
two_or_one None a = (unwrap_or (one_byte a) token_kind.Newline, 1)

-- the symbol at the front
abbrev pub symbol_at : ℕ → List ℕ → TokenKind × ℕ
symbol_at a [] = two_or_one None a
symbol_at a (b ∷ bs) = two_or_one (two_bytes a b) a

-- the text in quotes at the front
abbrev pub quoted_at : ℕ → List ℕ → TokenKind × ℕ
quoted_at quote bs = (token_kind.Text, unwrap_or (closing_quote quote false 0 bs) 0 + 1)

-- the word at the front
unfoldable pub word_at : List ℕ → TokenKind × ℕ
word_at bs = end_or_word (end_at bs) bs

-- the token at the front, where no gap and no fault is
unfoldable pub token_at : List ℕ → TokenKind × ℕ
token_at [] = (token_kind.Newline, 0)
token_at (a ∷ bs) =
    if begins_name a then word_at (a ∷ bs)
    else (if is_ascii_digit a then (token_kind.Number, prefix_len is_ascii_digit (a ∷ bs))
    else (if is_quote a then quoted_at a bs else symbol_at a bs))

-- the kind that an error is at the front of these bytes; of a word that is left out it names the word
abbrev pub kind_of_error : List ℕ → LexicalError → Kind
kind_of_error bytes lexical_error.Char = error_kind.Char
kind_of_error bytes lexical_error.Real = error_kind.Real
kind_of_error bytes lexical_error.Number = error_kind.Number
kind_of_error bytes lexical_error.Text = error_kind.Str
kind_of_error bytes lexical_error.Comment = error_kind.Comment
kind_of_error bytes lexical_error.Out = error_kind.Out (take (prefix_len is_word bytes) bytes)

-- an error with its offset, as one of the kinds
abbrev pub kind_and_offset : List ℕ → Option (LexicalError × ℕ) → Option (Kind × ℕ)
kind_and_offset bytes None = None
kind_and_offset bytes (Some found) = Some (kind_of_error bytes found.0, found.1)

-- a text at the front that is the longest token there
pub record Longest (bytes : List ℕ) (kind : TokenKind) (n : ℕ) : Type 0 where
  pub text : List ℕ
  pub rest : List ℕ
  pub parts : bytes ≡ text ++ rest
  pub long : length text ≡ n
  pub some : 0 < n
  pub form : kind_of text ≡ Some kind
  pub longest : (more after : List ℕ) → rest ≡ more ++ after → more ≢ [] → kind_of (text ++ more) ≡ None

-- what stands at the front of the bytes
abbrev pub Stands : List ℕ → Lexeme → Type 0
Stands bytes (lexeme_kind.Gap n) = (gap_at bytes ≡ Some n) × (0 < n) × (n ≤ length bytes)
Stands bytes (lexeme_kind.Token kind n) = (gap_at bytes ≡ None) × (fault_at bytes ≡ None) × Longest bytes kind n
Stands bytes (lexeme_kind.Fault error offset) = (gap_at bytes ≡ None) × (fault_at bytes ≡ Some (kind_of_error bytes error, offset))

-- what stands at the front lies within so many bytes
abbrev pub Within : Lexeme → ℕ → Type 0
Within (lexeme_kind.Gap n) size = n ≤ size
Within (lexeme_kind.Token kind n) size = n ≤ size
Within (lexeme_kind.Fault error offset) size = offset ≤ size
