-- What `div` and `mod` have to do with one another.

use Rattle.std.proofs.Common.{◌≡◌, ℕ, zero, suc, ◌<◌, ◌%◌, Bool, true, false, refl, subst, cond, arith}
use Rattle.std.proofs.Math.Nat.{mod-le}
use Rattle.std.specs.Prelude.{ℤ, pos, negsuc, ◌+ℤ◌, ◌*ℤ◌, ◌≤ℤ◌, neg_ℤ, int_div, int_rem, unsigned_abs, Result, Ok, Err}
use Rattle.std.proofs.lemmas.Int.{quot-rem, rem_below, ints}
use Rattle.mos_text.specs.declared.fault_kind.FaultKind.{FaultKind}
use Rattle.mos_text.specs.declared.fault_kind.FaultKind.TheVariants.{Overflow}
use Rattle.mos_value.specs.Numbers.{is_integer, integer}
use Rattle.mos_value.specs.ScalarLaws.{DivisionIsExact, RemainderIsSmaller, RemainderHasLeftSign}

-- an integer that was answered is the number
integer-is : (n m : ℤ) → integer n ≡ Ok m → n ≡ m
integer-is n m = tested (is_integer n)
  where
    tested : (b : Bool) → cond b (Ok n) (Err Overflow) ≡ Ok m → n ≡ m
    tested true e = cc
    tested false e = cc

-- one answer has one integer
ok-is : {given : Result ℤ FaultKind} {n m : ℤ} → given ≡ Ok n → given ≡ Ok m → n ≡ m
ok-is e f = cc

made_up : (a b q r : ℤ) → int_div a b ≡ q → int_rem a b ≡ r → q *ℤ b +ℤ r ≡ a
made_up a b q r e f = subst (λ quotient. quotient *ℤ b +ℤ r ≡ a) e (subst (λ remainder. int_div a b *ℤ b +ℤ remainder ≡ a) f (quot-rem a b))

pub exact : DivisionIsExact
exact a (pos zero) q r e f = cc
exact a (pos (suc n)) q r e f = made_up a (pos (suc n)) q r (integer-is _ _ e) (ok-is refl f)
exact a (negsuc n) q r e f = made_up a (negsuc n) q r (integer-is _ _ e) (ok-is refl f)

below : (a b r : ℤ) → 0 < unsigned_abs b → int_rem a b ≡ r → unsigned_abs r < unsigned_abs b
below a b r some e = subst (λ remainder. unsigned_abs remainder < unsigned_abs b) e (rem_below a b some)

pub smaller : RemainderIsSmaller
smaller a (pos zero) r e = cc
smaller a (pos (suc n)) r e = below a (pos (suc n)) r (omega arith) (ok-is refl e)
smaller a (negsuc n) r e = below a (negsuc n) r (omega arith) (ok-is refl e)

-- a number taken from 0 is not above it
not_above : (n : ℕ) → neg_ℤ (pos n) ≤ℤ pos 0
not_above zero = record { le = tt }
not_above (suc n) = record { le = tt }

signed : (a b r : ℤ) → 0 < unsigned_abs b → int_rem a b ≡ r → (pos 0 ≤ℤ a → pos 0 ≤ℤ r) × (a ≤ℤ pos 0 → r ≤ℤ pos 0)
signed (pos n) b r some e =
    let least = mod-le n (unsigned_abs b) in
    (λ up. subst (λ remainder. pos 0 ≤ℤ remainder) e (omega (arith, ints)), λ down. subst (λ remainder. remainder ≤ℤ pos 0) e (omega (arith, ints)))
signed (negsuc n) b r some e = (λ up. absurd up.le, λ down. subst (λ remainder. remainder ≤ℤ pos 0) e (not_above (suc n % unsigned_abs b)))

pub left_sign : RemainderHasLeftSign
left_sign a (pos zero) r e = cc
left_sign a (pos (suc n)) r e = signed a (pos (suc n)) r (omega arith) (ok-is refl e)
left_sign a (negsuc n) r e = signed a (negsuc n) r (omega arith) (ok-is refl e)
