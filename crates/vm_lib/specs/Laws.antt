-- What a user of the library may count on.

use Rattle.std.specs.Prelude.{◌≡◌, ◌≤ℤ◌, ◌≤◌, ◌⊎◌, ℕ, ◌-◌, ℤ, pos, List, ◌∷◌, ◌++◌, Some, length}
use Rattle.std.specs.List.{All, Contains}
use Rattle.mos_text.specs.declared.scalar.Scalar.{Scalar}
use Rattle.vm_lib.specs.Integers.{least_of, greatest_of}
use Rattle.vm_lib.specs.Sequences.{head_of, tail_of}

-- none of the integers is below the least one
abbrev pub NoneIsBelow : Type 0
NoneIsBelow = (first least : ℤ) (more : List ℤ) → least_of (first ∷ more) ≡ Some least → (least ≤ℤ first) × All (λ n. least ≤ℤ n) more

-- which is one of them
abbrev pub LeastIsThere : Type 0
LeastIsThere = (first least : ℤ) (more : List ℤ) → least_of (first ∷ more) ≡ Some least → (least ≡ first) ⊎ Contains more least

-- none of the integers is above the greatest one
abbrev pub NoneIsAbove : Type 0
NoneIsAbove = (first greatest : ℤ) (more : List ℤ) → greatest_of (first ∷ more) ≡ Some greatest → (first ≤ℤ greatest) × All (λ n. n ≤ℤ greatest) more

-- which is one of them
abbrev pub GreatestIsThere : Type 0
GreatestIsThere = (first greatest : ℤ) (more : List ℤ) → greatest_of (first ∷ more) ≡ Some greatest → (greatest ≡ first) ⊎ Contains more greatest

-- so many items from the front, and the others from the end, are the whole list
abbrev pub HeadAndTailAreAll : Type 0
HeadAndTailAreAll = (items : List Scalar) (n : ℕ) → n ≤ length items → head_of items (pos n) ++ tail_of items (pos (length items - n)) ≡ items
