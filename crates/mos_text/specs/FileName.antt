-- What a file name is, as the words of a command may list it, and what its ending says.

use Rattle.std.specs.Prelude.{ℕ, ◌-◌, ◌==◌, nat_lt, nat_le, Bool, not, ◌&&◌, ◌||◌, List, length, drop, slice_index, codes}
use Rattle.std.specs.List.{list_all, slice_split}
use Rattle.std.specs.Str.{bytes_eq}

-- a digit `0` to `9`
abbrev pub is_digit : ℕ → Bool
is_digit byte = nat_le 48 byte && nat_le byte 57

-- a letter `A` to `Z` or `a` to `z`
abbrev pub is_letter : ℕ → Bool
is_letter byte = (nat_le 65 byte && nat_le byte 90) || (nat_le 97 byte && nat_le byte 122)

-- a letter, a digit, `_`, `-` or `.`
abbrev pub is_file_name_byte : ℕ → Bool
is_file_name_byte byte = is_letter byte || is_digit byte || (byte == 95) || (byte == 45) || (byte == 46)

-- one or more of these bytes, the first of them neither `.` nor `-`
abbrev pub is_file_name_part : List ℕ → Bool
is_file_name_part part = nat_lt 0 (length part) && not (slice_index part 0 == 46) && not (slice_index part 0 == 45) && list_all is_file_name_byte part

-- at most 255 bytes, all of whose parts between slashes are such parts (so there is at least one byte)
unfoldable pub is_file_name : List ℕ → Bool
is_file_name name = nat_le (length name) 255 && list_all is_file_name_part (slice_split (λ byte. byte == 47) name)

-- the name ends in these bytes
abbrev pub has_ending : List ℕ → List ℕ → Bool
has_ending ending name = bytes_eq (drop (length name - length ending) name) ending

-- the name is that of a source
abbrev pub is_source_name : List ℕ → Bool
is_source_name name = has_ending (codes ".mos") name

-- the name is that of an image
abbrev pub is_image_name : List ℕ → Bool
is_image_name name = has_ending (codes ".bim") name
