-- Blanks, comments and tokens: which bytes are such as a whole, and what is wrong where neither begins.

use Rattle.std.specs.Prelude.{ℕ, ◌+◌, ◌*◌, ◌-◌, Bool, true, false, not, ◌&&◌, ◌||◌, if◌then◌else◌, ◌==◌, nat_lt, List, [], ◌∷◌, length, take, drop, Option, Some, None, is_none}
use Rattle.std.specs.List.{list_all, prefix_len}
use Rattle.std.specs.Char.{is_ascii_digit}
use Rattle.mos_scan.specs.Characters.{is_blank, begins_name, is_word, is_quote, is_inside, is_escape}
use Rattle.mos_scan.specs.ReservedWords.{look_up, end_word, plain_word, is_refused}
use Rattle.mos_scan.specs.declared.token.TokenKind.{TokenKind}
use Rattle.mos_scan.specs.declared.token.TokenKind.TheVariants as token_kind
use Rattle.mos_scan.specs.Vocabulary.{symbols}
use Rattle.mos_text.specs.declared.kind.Kind.{Kind}
use Rattle.mos_text.specs.declared.kind.Kind.TheVariants as error_kind

-- a value, where the test passes
abbrev pub when : {A : Type 0} → Bool → A → Option A
when true x = Some x
when false x = None

-- the byte at the front is this one
abbrev pub begins_with : ℕ → List ℕ → Bool
begins_with b [] = false
begins_with b (a ∷ bs) = a == b

-- ---- gaps

-- the place behind the first `!)`, for bytes that begin at `at`
abbrev pub comment_end : ℕ → List ℕ → Option ℕ
comment_end at [] = None
comment_end at (a ∷ bs) = if a == 33 && begins_with 41 bs then Some (at + 2) else comment_end (at + 1) bs

-- the blank or comment that begins here, by its length: `!` to the end of the line, `(!` to the next `!)`
unfoldable pub gap_at : List ℕ → Option ℕ
gap_at [] = None
gap_at (a ∷ bs) =
    if is_blank a then Some 1
    else (if a == 33 then Some (prefix_len is_inside bs + 1)
    else (if a == 40 && begins_with 33 bs then comment_end 2 (drop 1 bs) else None))

-- ---- texts in quotes

-- the place behind the closing quote on this line, for bytes that begin at `at`;
-- in double quotes a backslash and what follows it go together
abbrev pub closing_quote : ℕ → Bool → ℕ → List ℕ → Option ℕ
closing_quote quote escaped at [] = None
closing_quote quote escaped at (b ∷ bs) =
    if b == 10 then None
    else (if not escaped && b == quote then Some (at + 1)
    else closing_quote quote (not escaped && quote == 34 && b == 92) (at + 1) bs)

-- the place of the first byte that makes no escape with the backslash before it
abbrev pub bad_escape : Bool → ℕ → List ℕ → Option ℕ
bad_escape escaped at [] = None
bad_escape escaped at (b ∷ bs) = if escaped && not (is_escape b) then Some at else bad_escape (not escaped && b == 92) (at + 1) bs

-- ---- tokens

-- the symbol that a byte is
unfoldable pub one_byte : ℕ → Option TokenKind
one_byte a = look_up symbols (a ∷ [])

-- the symbol that two bytes are
unfoldable pub two_bytes : ℕ → ℕ → Option TokenKind
two_bytes a b = look_up symbols (a ∷ b ∷ [])

-- the symbol that these bytes are, as a whole
abbrev pub symbol : ℕ → List ℕ → Option TokenKind
symbol a [] = one_byte a
symbol a (b ∷ []) = two_bytes a b
symbol a (b ∷ c ∷ bs) = None

-- an `end-` word, or else a word of letters, digits and `_` that is not left out
abbrev pub end_or_plain : Option TokenKind → List ℕ → Option TokenKind
end_or_plain (Some kind) text = Some kind
end_or_plain None text = when (list_all is_word text && not (is_refused text)) (plain_word text)

-- the number is this one
abbrev pub is_length : Option ℕ → ℕ → Bool
is_length None n = false
is_length (Some m) n = m == n

-- the token that a text is, as a whole
unfoldable pub kind_of : List ℕ → Option TokenKind
kind_of [] = None
kind_of (a ∷ bs) =
    if begins_name a then end_or_plain (end_word (a ∷ bs)) (a ∷ bs)
    else (if is_ascii_digit a then when (list_all is_ascii_digit bs) token_kind.Number
    else (if is_quote a then when (is_length (closing_quote a false 0 bs) (length bs)) token_kind.Text
    else symbol a bs))

-- ---- faults

-- the value of decimal digits behind those whose value is `n`
abbrev pub number_from : ℕ → List ℕ → ℕ
number_from n [] = n
number_from n (d ∷ ds) = number_from (n * 10 + (d - 48)) ds

-- what is wrong with digits that these bytes follow
abbrev pub spoils : List ℕ → Option Kind
spoils [] = None
spoils (b ∷ bs) =
    if b == 101 || b == 69 then Some error_kind.Real
    else (if begins_name b then Some error_kind.Char
    else (if b == 46 && not (begins_with 46 bs) then Some error_kind.Real else None))

-- digits that are spoilt, or that are above the largest literal
abbrev pub spoilt_or_large : Option Kind → List ℕ → Option (Kind × ℕ)
spoilt_or_large (Some kind) digits = Some (kind, 0)
spoilt_or_large None digits = when (nat_lt 2147483647 (number_from 0 digits)) (error_kind.Number, 0)

-- the fault of digits
unfoldable pub number_fault : List ℕ → Option (Kind × ℕ)
number_fault text = spoilt_or_large (spoils (drop (prefix_len is_ascii_digit text) text)) (take (prefix_len is_ascii_digit text) text)

-- a backslash that makes no escape is a wrong character
abbrev pub escape_fault : Option ℕ → Option (Kind × ℕ)
escape_fault None = None
escape_fault (Some offset) = Some (error_kind.Char, offset)

-- a text that is not closed is wrong at its quote, and else at the first backslash that makes no escape
abbrev pub closed_or_wrong : ℕ → Option ℕ → List ℕ → Option (Kind × ℕ)
closed_or_wrong quote None bs = Some (error_kind.Str, 0)
closed_or_wrong quote (Some n) bs = if quote == 34 then escape_fault (bad_escape false 0 (take n bs)) else None

-- the fault of a text in quotes, behind its first quote
unfoldable pub text_fault : ℕ → List ℕ → Option (Kind × ℕ)
text_fault quote bs = closed_or_wrong quote (closing_quote quote false 0 bs) bs

-- a word that is left out is named
unfoldable pub word_fault : List ℕ → Option (Kind × ℕ)
word_fault bs = when (is_refused (take (prefix_len is_word bs) bs)) (error_kind.Out (take (prefix_len is_word bs) bs), 0)

-- a comment that is not closed, or a byte that is no symbol
abbrev pub symbol_fault : ℕ → List ℕ → Option (Kind × ℕ)
symbol_fault a bs = if a == 40 && begins_with 33 bs then Some (error_kind.Comment, 0) else when (is_none (one_byte a)) (error_kind.Char, 0)

-- the fault of a place where no gap begins: its kind, and how far behind the place its first byte is
unfoldable pub fault_at : List ℕ → Option (Kind × ℕ)
fault_at [] = None
fault_at (a ∷ bs) =
    if begins_name a then word_fault (a ∷ bs)
    else (if is_ascii_digit a then number_fault (a ∷ bs)
    else (if is_quote a then text_fault a bs else symbol_fault a bs))
