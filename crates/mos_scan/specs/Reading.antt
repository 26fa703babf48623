-- What the grammar sees of a token: a word.

use Rattle.std.specs.Prelude.{ℕ, ℤ, pos, ◌+◌, ◌-◌, min, Bool, true, false, if◌then◌else◌, ◌==◌, List, [], ◌∷◌, length, take, drop}
use Rattle.std.specs.Str.Lossy.{utf8_valid_len}
use Rattle.mos_scan.specs.Tokens.{number_from}
use Rattle.mos_scan.specs.declared.token.TokenKind.{TokenKind}
use Rattle.mos_scan.specs.declared.token.TokenKind.TheVariants as token_kind
use Rattle.mos_scan.specs.declared.token.Token.{Token}
use Rattle.mos_scan.specs.declared.piece.Piece.{Piece}
use Rattle.mos_scan.specs.declared.grammar_word.Word.{Word}
use Rattle.mos_scan.specs.declared.grammar_word.Word.TheVariants as word_kind

-- the value of a literal; one that `scan` gives is at most 2147483647
abbrev pub literal : List ℕ → ℤ
literal digits = pos (min (number_from 0 digits) 2147483647)

-- the byte that an escape stands for
abbrev pub escape_of : ℕ → ℕ
escape_of b = if b == 110 then 10 else (if b == 116 then 9 else b)

-- a text with its escapes read; the Bool says that a backslash stands before it
abbrev pub without_escapes : Bool → List ℕ → List ℕ
without_escapes escaped [] = []
without_escapes escaped (b ∷ bs) =
    if escaped then escape_of b ∷ without_escapes false bs
    else (if b == 92 then without_escapes true bs else b ∷ without_escapes false bs)

-- bytes that are UTF-8, as all are that `scan` gives
abbrev pub is_text : List ℕ → Bool
is_text bytes = utf8_valid_len bytes == length bytes

-- the name of these bytes
unfoldable pub name_word : List ℕ → Word
name_word bytes = if is_text bytes then word_kind.Name bytes else word_kind.Key token_kind.Name

-- the text of these bytes
unfoldable pub text_word : List ℕ → Word
text_word bytes = if is_text bytes then word_kind.Text bytes else word_kind.Key token_kind.Text

-- all but the last byte
abbrev pub without_last : List ℕ → List ℕ
without_last bs = take (length bs - 1) bs

-- the text in these quotes: double ones have escapes
unfoldable pub quoted_word : List ℕ → Word
quoted_word [] = text_word []
quoted_word (q ∷ []) = text_word []
quoted_word (q ∷ b ∷ bs) = if q == 34 then text_word (without_escapes false (without_last (b ∷ bs))) else text_word (without_last (b ∷ bs))

-- the bytes of a token in its source
abbrev pub bytes_of : List ℕ → Token → List ℕ
bytes_of source token = take (token.to - token.from) (drop token.from source)

-- what the grammar sees of these bytes as a token of this kind
abbrev pub word_as : TokenKind → List ℕ → Word
word_as token_kind.Name bytes = name_word bytes
word_as token_kind.Number bytes = word_kind.Number (literal bytes)
word_as token_kind.Text bytes = quoted_word bytes
word_as kind bytes = word_kind.Key kind

-- what the grammar sees of a token
unfoldable pub word_of : List ℕ → Token → Word
word_of source token = word_as token.kind (bytes_of source token)

-- a newline ends nothing within a piece, nor among tokens that are read as a whole
abbrev pub is_newline : TokenKind → Bool
is_newline token_kind.Newline = true
is_newline _ = false

-- what the grammar sees of tokens: their words, the newlines passed over
abbrev pub words_of : List ℕ → List Token → List Word
words_of source [] = []
words_of source (token ∷ tokens) =
    if is_newline token.kind then words_of source tokens else word_of source token ∷ words_of source tokens

-- the tokens of a piece
abbrev pub tokens_in : List Token → Piece → List Token
tokens_in tokens p = take (p.to - p.from) (drop p.from tokens)

-- the words of a piece of these tokens
abbrev pub piece_words : List ℕ → List Token → Piece → List Word
piece_words source tokens p = words_of source (tokens_in tokens p)

-- how many words pieces have together
abbrev pub count_of_words : List ℕ → List Token → List Piece → ℕ
count_of_words source tokens [] = 0
count_of_words source tokens (p ∷ ps) = length (piece_words source tokens p) + count_of_words source tokens ps
