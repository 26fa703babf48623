-- Numbers as bytes, the highest byte first.
use Rattle.std.specs.Prelude.{ℕ, ◌++◌, List, ℤ, length, flat_map}
use Rattle.std.specs.Int.{w16, w32, to_be_bytes, cast_unsigned}

-- a number of 16 bits
unfoldable pub u16_bytes : ℕ → List ℕ
u16_bytes n = to_be_bytes w16 n

-- a number of 32 bits
unfoldable pub u32_bytes : ℕ → List ℕ
u32_bytes n = to_be_bytes w32 n

-- an integer of 32 bits, in two's complement
abbrev pub i32_bytes : ℤ → List ℕ
i32_bytes n = u32_bytes (cast_unsigned w32 n)

-- a table whose number of entries takes 16 bits, and one where it takes 32: the number, then each entry
abbrev pub short_table : {A : Type 0} → (A → List ℕ) → List A → List ℕ
short_table entry entries = u16_bytes (length entries) ++ flat_map entry entries

-- where it takes 32
abbrev pub long_table : {A : Type 0} → (A → List ℕ) → List A → List ℕ
long_table entry entries = u32_bytes (length entries) ++ flat_map entry entries
