-- Laws of operators on integers and texts.

use Rattle.std.specs.Prelude.{◌≡◌, ◌<◌, ◌⊎◌, ◌+ℤ◌, ◌*ℤ◌, ◌≤ℤ◌, ℕ, ℤ, pos, List, unsigned_abs, Ok, IsTrue, IsFalse}
use Rattle.mos_value.specs.Numbers.{quotient_of, remainder_of}
use Rattle.mos_value.specs.Comparisons.{text_below}

-- what `div` and `mod` give makes up the left integer again
abbrev pub DivisionIsExact : Type 0
DivisionIsExact = (a b quotient remainder : ℤ)
    → quotient_of a b ≡ Ok quotient → remainder_of a b ≡ Ok remainder → quotient *ℤ b +ℤ remainder ≡ a

-- what `mod` gives is smaller than the divisor, signs aside
abbrev pub RemainderIsSmaller : Type 0
RemainderIsSmaller = (a b remainder : ℤ) → remainder_of a b ≡ Ok remainder → unsigned_abs remainder < unsigned_abs b

-- it is 0, or has the sign of the left integer
abbrev pub RemainderHasLeftSign : Type 0
RemainderHasLeftSign = (a b remainder : ℤ) → remainder_of a b ≡ Ok remainder
    → (pos 0 ≤ℤ a → pos 0 ≤ℤ remainder) × (a ≤ℤ pos 0 → remainder ≤ℤ pos 0)

-- no text is below itself
abbrev pub NoTextIsBelowItself : Type 0
NoTextIsBelowItself = (a : List ℕ) → IsFalse (text_below a a)

-- of two texts one is below the other, or they are the same
abbrev pub TextsHaveAnOrder : Type 0
TextsHaveAnOrder = (a b : List ℕ) → IsTrue (text_below a b) ⊎ (a ≡ b) ⊎ IsTrue (text_below b a)

-- what is below a text is below all that the text is below
abbrev pub BelowIsTransitive : Type 0
BelowIsTransitive = (a b c : List ℕ) → IsTrue (text_below a b) → IsTrue (text_below b c) → IsTrue (text_below a c)
