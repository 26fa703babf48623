-- The fields of an image's file: numbers, truths, texts.

use Rattle.std.specs.Prelude.{ℕ, zero, suc, ℤ, Bool, true, false, List, [], ◌∷◌, length, take, drop, Option, Some, None, Ok, nat_lt, nat_le, if◌then◌else◌}
use Rattle.std.specs.Int.{w16, w32, from_be_bytes, cast_signed}
use Rattle.std.specs.Str.{is_utf8}
use Rattle.bim_read.specs.declared.fault.FaultKind.TheVariants.{Tag, NotText, Limit}
use Rattle.bim_read.specs.Reading.{Found, ◌>>=◌, ends_early, made, chosen, checked}

-- one byte
abbrev pub byte_at : List ℕ → Found ℕ
byte_at [] = ends_early
byte_at (b ∷ rest) = Ok (b, rest)

-- some bytes
abbrev pub piece_at : ℕ → List ℕ → Found (List ℕ)
piece_at n bytes = if nat_lt (length bytes) n then ends_early else Ok (take n bytes, drop n bytes)

-- a number of 16 bits, and one of 32
unfoldable pub half_at : List ℕ → Found ℕ
half_at bytes = made (from_be_bytes w16) (piece_at 2) bytes

-- one of 32
unfoldable pub word_at : List ℕ → Found ℕ
word_at bytes = made (from_be_bytes w32) (piece_at 4) bytes

-- an integer of 32 bits, in two's complement
abbrev pub integer_at : List ℕ → Found ℤ
integer_at bytes = made (cast_signed w32) word_at bytes

-- 0 is false, 1 is true
abbrev pub truth_of : ℕ → Option Bool
truth_of zero = Some false
truth_of (suc zero) = Some true
truth_of (suc (suc n)) = None

-- a truth in one byte
abbrev pub truth_at : List ℕ → Found Bool
truth_at bytes = chosen truth_of Tag byte_at bytes

-- a count or length in 32 bits, up to a limit
abbrev pub count_at : ℕ → List ℕ → Found ℕ
count_at most bytes = checked (λ n. nat_le n most) Limit word_at bytes

-- so many bytes of text
abbrev pub text_of : ℕ → List ℕ → Found (List ℕ)
text_of n bytes = checked is_utf8 NotText (piece_at n) bytes

-- a text of at most 1,048,576 bytes behind its length
unfoldable pub text_at : List ℕ → Found (List ℕ)
text_at bytes = count_at 1048576 bytes >>= λ n. text_of n.0 n.1
