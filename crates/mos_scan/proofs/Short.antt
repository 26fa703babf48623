-- Escapes make no text longer.

use Rattle.std.proofs.Common.{ℕ, ◌==◌, ◌≤◌, Bool, true, false, if◌then◌else◌, List, [], ◌∷◌, length, arith}
use Rattle.mos_scan.specs.Reading.{without_escapes}

byte_short : (c : Bool) (b : ℕ) (xs ys bs : List ℕ) → length xs ≤ length bs → length ys ≤ length bs → length (if c then xs else b ∷ ys) ≤ length (b ∷ bs)
byte_short true b xs ys bs h k = omega (arith, h)
byte_short false b xs ys bs h k = omega (arith, k)

pub escapes_short : (escaped : Bool) (bytes : List ℕ) → length (without_escapes escaped bytes) ≤ length bytes
escapes_short escaped [] = omega arith
escapes_short true (b ∷ bs) = omega (arith, escapes_short false bs)
escapes_short false (b ∷ bs) = byte_short (b == 92) b (without_escapes true bs) (without_escapes false bs) bs (escapes_short true bs) (escapes_short false bs)
