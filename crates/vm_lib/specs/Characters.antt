-- Functions of the library on texts, whose sizes and places count characters.

use Rattle.std.specs.Prelude.{ℕ, ◌-◌, ℤ, pos, int_le, Bool, ◌&&◌, List, length, take, drop, Result, Ok, Err, if◌then◌else◌}
use Rattle.std.specs.Str.{chars, encode_utf8_all}
use Rattle.mos_text.specs.declared.fault_kind.FaultKind.{FaultKind}
use Rattle.mos_text.specs.declared.fault_kind.FaultKind.TheVariants.{Range}
use Rattle.mos_value.specs.Numbers.{integer}
use Rattle.mos_value.specs.Values.{at_least_zero}

-- `getsize` of a text: the number of its characters
abbrev pub text_size : List ℕ → Result ℤ FaultKind
text_size text = integer (pos (length (chars text)))

-- the places are those of a part: neither is before 1, the second is not before the first, and it is within
abbrev pub are_places : (first last : ℤ) → (size : ℕ) → Bool
are_places first last size = int_le (pos 1) first && (int_le first last && int_le last (pos size))

-- the characters from one place to another, both from 1 on
abbrev pub part_between : List ℕ → (first last : ℕ) → List ℕ
part_between text first last = encode_utf8_all (take (last - (first - 1)) (drop (first - 1) (chars text)))

-- `substr`: the characters from one place to another, or the fault of places that are none
abbrev pub part_of : List ℕ → ℤ → ℤ → Result (List ℕ) FaultKind
part_of text first last =
    if are_places first last (length (chars text)) then Ok (part_between text (at_least_zero first) (at_least_zero last)) else Err Range
