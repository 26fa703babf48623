-- Computed examples of operators.

use Rattle.std.specs.Prelude.{◌≡◌, [], ◌∷◌, Some, pos, negsuc, true, codes, map, Ok, Err}
use Rattle.mos_text.specs.declared.fault_kind.FaultKind.TheVariants.{Overflow}
use Rattle.mos_text.specs.declared.scalar.Scalar.TheVariants.{Int, Bool as Truth, Str}
use Rattle.mos_value.specs.Numbers.{quotient_of, remainder_of}
use Rattle.mos_value.specs.Sets.{union, inter, minus, set_from, same_members}
use Rattle.mos_value.specs.Values.{One, Range, members_of}
use Rattle.mos_value.specs.Answers.{Gives, Faults, Sticks, between, sum, difference, compare, less, show, answer}

-- the least integer is had as a difference, and one less is not
abbrev pub LeastInteger : Type 0
LeastInteger =
    map (answer (between difference))
    ((One (Int (negsuc 2147483646)) ∷ One (Int (pos 1)) ∷ []) ∷ (One (Int (negsuc 2147483647)) ∷ One (Int (pos 1)) ∷ []) ∷ [])
    ≡ Gives (One (Int (negsuc 2147483647))) ∷ Faults Overflow ∷ []

-- -7 div 2 is -3, and leaves -1
abbrev pub SevenByTwo : Type 0
SevenByTwo = (quotient_of (negsuc 6) (pos 2) ≡ Ok (negsuc 2)) × (remainder_of (negsuc 6) (pos 2) ≡ Ok (negsuc 0))

-- the least integer by -1 does not fit, and leaves 0
abbrev pub LeastByMinusOne : Type 0
LeastByMinusOne =
    (quotient_of (negsuc 2147483647) (negsuc 0) ≡ Err Overflow) × (remainder_of (negsuc 2147483647) (negsuc 0) ≡ Ok (pos 0))

-- texts compare by bytes, and have no sum
abbrev pub TextsCompare : Type 0
TextsCompare =
    map (λ operation. answer operation (One (Str (codes "ab")) ∷ One (Str (codes "b")) ∷ [])) (between (compare less) ∷ between sum ∷ [])
    ≡ Gives (One (Truth true)) ∷ Sticks ∷ []

-- a range has its members in ascending order, and none where it ends before it begins
abbrev pub RangeMembers : Type 0
RangeMembers =
    map members_of (Range (negsuc 0) (pos 1) ∷ Range (pos 1) (pos 0) ∷ [])
    ≡ Some (Int (negsuc 0) ∷ Int (pos 0) ∷ Int (pos 1) ∷ []) ∷ Some [] ∷ []

-- what is printed is a text
abbrev pub ShownTruth : Type 0
ShownTruth = answer show (One (Truth true) ∷ []) ≡ Gives (One (Str (codes "true")))

-- a union adds behind what is new, and an intersection and a difference keep the left order
abbrev pub OperatorsOnSets : Type 0
OperatorsOnSets =
    map (λ operator. operator (Int (pos 3) ∷ Int (pos 1) ∷ Int (pos 2) ∷ []) (Int (pos 4) ∷ Int (pos 2) ∷ Int (pos 3) ∷ [])) (union ∷ inter ∷ minus ∷ [])
    ≡ (Int (pos 3) ∷ Int (pos 1) ∷ Int (pos 2) ∷ Int (pos 4) ∷ []) ∷ (Int (pos 3) ∷ Int (pos 2) ∷ []) ∷ (Int (pos 1) ∷ []) ∷ []

-- a list that becomes a set has each item at its first place
abbrev pub SetOfAList : Type 0
SetOfAList = set_from (Str (codes "b") ∷ Int (pos 1) ∷ Str (codes "b") ∷ []) ≡ Str (codes "b") ∷ Int (pos 1) ∷ []

-- sets are the same in whatever order
abbrev pub SameInAnyOrder : Type 0
SameInAnyOrder = same_members (Int (pos 1) ∷ Int (pos 2) ∷ []) (Int (pos 2) ∷ Int (pos 1) ∷ []) ≡ true
