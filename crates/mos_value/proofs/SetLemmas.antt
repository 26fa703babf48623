-- how the union of two lists grows, one member after the other
use Rattle.std.proofs.Common.{◌≡◌, ℕ, ◌+◌, ◌<◌, ◌≤◌, Bool, true, false, List, [], ◌∷◌, ◌++◌, length, take, drop, get_or, sym, refl, ap, ◌∙◌, arith, length-append, if◌then◌else◌}
use Rattle.std.proofs.lemmas.List.{take-append-le, drop_more}
use Rattle.mos_text.specs.declared.scalar.Scalar.{Scalar}
use Rattle.mos_value.specs.Sets.{has_member, with_member, union}

-- those that were there stand in front
pub take-with_member : (n : ℕ) (members : List Scalar) (x : Scalar) → n ≤ length members → take n (with_member members x) ≡ take n members
take-with_member n members x h = by (has_member x members)
  where
    by : (b : Bool) → take n (if b then members else members ++ x ∷ []) ≡ take n members
    by true = refl
    by false = take-append-le n members (x ∷ []) h

pub length-with_member : (members : List Scalar) (x : Scalar) → length members ≤ length (with_member members x)
length-with_member members x = by (has_member x members)
  where
    by : (b : Bool) → length members ≤ length (if b then members else members ++ x ∷ [])
    by true = omega arith
    by false = omega (arith, length-append members (x ∷ []))

pub length-union : (left right : List Scalar) → length left ≤ length (union left right)
length-union left [] = omega arith
length-union left (x ∷ right) = omega (arith, length-with_member left x, length-union (with_member left x) right)

-- the next member goes to those before, and the rest follows
pub union-next : (to other : List Scalar) (place : ℕ) (x : Scalar) → place < length other → x ≡ get_or other place x
    → union to (drop place other) ≡ union (with_member to x) (drop (place + 1) other)
union-next to other place x within is =
    ap (union to) (drop_more other place x within ∙ ap (λ y. y ∷ drop (place + 1) other) (sym is))
