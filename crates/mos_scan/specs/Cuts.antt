-- The token list of a source, by the one way to cut it; and its lexical fault, with its place.

use Rattle.std.specs.Prelude.{◌≡◌, ◌≢◌, ℕ, ◌+◌, ◌<◌, ◌≤◌, Bool, true, false, not, ◌&&◌, if◌then◌else◌, ◌==◌, nat_lt, List, [], ◌∷◌, ◌++◌, length, take, Some, None, count_by}
use Rattle.std.specs.Str.Lossy.{utf8_valid_len}
use Rattle.mos_scan.specs.Tokens.{gap_at, fault_at, kind_of}
use Rattle.mos_scan.specs.declared.token.TokenKind.{TokenKind}
use Rattle.mos_scan.specs.declared.token.TokenKind.TheVariants.{EndModel}
use Rattle.mos_scan.specs.declared.token.Token.{Token}
use Rattle.mos_text.specs.declared.kind.Kind.{Kind}
use Rattle.mos_text.specs.declared.kind.Kind.TheVariants as error_kind

-- what a text is cut into
pub data Part : Type 0 where
  gap : List ℕ → Part
  token : TokenKind → List ℕ → Part

-- the bytes of a part
abbrev pub text_of : Part → List ℕ
text_of (gap text) = text
text_of (token kind text) = text

-- the word behind which nothing is read
abbrev pub is_end_model : TokenKind → Bool
is_end_model EndModel = true
is_end_model _ = false

-- the part is that word
abbrev pub is_end : Part → Bool
is_end (gap text) = false
is_end (token kind text) = is_end_model kind

-- a token: the longest text of a token form at its place, which is no gap and no fault
pub record IsToken (kind : TokenKind) (text rest : List ℕ) : Type 0 where
  pub no_gap : gap_at (text ++ rest) ≡ None
  pub no_fault : fault_at (text ++ rest) ≡ None
  pub form : kind_of text ≡ Some kind
  pub longest : (more after : List ℕ) → rest ≡ more ++ after → more ≢ [] → kind_of (text ++ more) ≡ None

-- what a part is, with the bytes behind it
abbrev pub IsPart : Part → List ℕ → Type 0
IsPart (gap text) rest = gap_at (text ++ rest) ≡ Some (length text)
IsPart (token kind text) rest = IsToken kind text rest

-- the bytes are these parts, none of them `end-model`, and then what is left
abbrev pub Cuts : List ℕ → List Part → List ℕ → Type 0
Cuts bytes [] left = bytes ≡ left
Cuts bytes (x ∷ xs) left = (rest : List ℕ) × (bytes ≡ text_of x ++ rest) × IsPart x rest × (is_end x ≡ false) × Cuts rest xs left

-- the bytes are these parts, up to the first `end-model` or, without one, to their end; then comes what is left
pub data Whole (bytes : List ℕ) (left : List ℕ) : List Part → Type 0 where
  up_to_the_end : (xs : List Part) → Cuts bytes xs [] → left ≡ [] → Whole bytes left xs
  up_to_end_model : (xs : List Part) (text rest : List ℕ) → Cuts bytes xs rest → rest ≡ text ++ left → IsToken EndModel text left → Whole bytes left (xs ++ token EndModel text ∷ [])

-- the byte that ends a line
abbrev pub is_newline : ℕ → Bool
is_newline b = b == 10

-- how many newlines stand in these bytes
abbrev pub newlines : List ℕ → ℕ
newlines text = count_by is_newline text

-- the token of these bytes that begins at this place on this line
abbrev pub token_of : ℕ → ℕ → TokenKind → List ℕ → Token
token_of at line kind text = record { kind = kind; line = line; from = at; to = at + length text }

-- the tokens among the parts, which begin at this place on this line
abbrev pub tokens_from : ℕ → ℕ → List Part → List Token
tokens_from at line [] = []
tokens_from at line (gap text ∷ xs) = tokens_from (at + length text) (line + newlines text) xs
tokens_from at line (token kind text ∷ xs) = token_of at line kind text ∷ tokens_from (at + length text) (line + newlines text) xs

-- the token list of a source: how it is cut, where what is read is UTF-8
pub record IsTokenList (bytes : List ℕ) (tokens : List Token) : Type 0 where
  pub parts : List Part
  pub left : List ℕ
  pub whole : Whole bytes left parts
  pub utf8 : length bytes ≤ utf8_valid_len bytes + length left
  pub are : tokens ≡ tokens_from 0 1 parts

-- the first place of a fault of the form of tokens and comments: the text is cut up to a place that has one
pub record Stops (bytes : List ℕ) (place : ℕ) (kind : Kind) : Type 0 where
  pub parts : List Part
  pub left : List ℕ
  pub cuts : Cuts bytes parts left
  pub no_gap : gap_at left ≡ None
  pub offset : ℕ
  pub fault : fault_at left ≡ Some (kind, offset)
  pub there : place + length left ≡ length bytes + offset

-- how far a source is read: up to the end of its token list, or with the byte of its first fault
pub data IsRead (bytes : List ℕ) : ℕ → Type 0 where
  read_whole : (reach : ℕ) (parts : List Part) (left : List ℕ) → Whole bytes left parts → reach + length left ≡ length bytes → IsRead bytes reach
  read_to_fault : (place : ℕ) (kind : Kind) → Stops bytes place kind → IsRead bytes (place + 1)

-- the lexical fault of a source: bytes that are no UTF-8 among those read, or else the first other fault
pub data IsLexicalFault (bytes : List ℕ) : ℕ → Kind → Type 0 where
  no_utf8 : (reach : ℕ) → IsRead bytes reach → utf8_valid_len bytes < reach → IsLexicalFault bytes (utf8_valid_len bytes) error_kind.Utf8
  no_token : (place : ℕ) (kind : Kind) → Stops bytes place kind → place < utf8_valid_len bytes → IsLexicalFault bytes place kind

-- the line that comes behind these bytes, from 1
abbrev pub line_behind : List ℕ → ℕ
line_behind bytes = 1 + newlines bytes

-- the line of a place, from 1
abbrev pub line_of : List ℕ → ℕ → ℕ
line_of bytes place = line_behind (take place bytes)

-- a byte within a character, behind its first one
abbrev pub is_continuation : ℕ → Bool
is_continuation b = not (nat_lt b 128) && nat_lt b 192

-- the column behind one byte more: each character counts one
abbrev pub column_behind : ℕ → ℕ → ℕ
column_behind column b = if is_newline b then 1 else (if is_continuation b then column else column + 1)

-- the column behind these bytes, which begin at this column
abbrev pub column_from : ℕ → List ℕ → ℕ
column_from column [] = column
column_from column (b ∷ bs) = column_from (column_behind column b) bs

-- the column of a place in its line, from 1
abbrev pub column_of : List ℕ → ℕ → ℕ
column_of bytes place = column_from 1 (take place bytes)
