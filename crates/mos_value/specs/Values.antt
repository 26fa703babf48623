-- Values, the places that hold them, and what stands on the operand stack of the machine.

use Rattle.std.specs.Prelude.{ℕ, zero, suc, ℤ, pos, negsuc, ◌+ℤ◌, ◌-ℤ◌, List, [], ◌∷◌, Option, Some, None}
use Rattle.mos_text.specs.declared.scalar.Scalar.{Scalar}
use Rattle.mos_text.specs.declared.scalar.Scalar.TheVariants.{Int}
use Rattle.mos_value.specs.declared.member.MemberType.{MemberType}

-- what a variable holds. A value carries what its parts do not tell: by the type of its members a set or
-- list takes data, and by the names of its fields a record is printed. Comparisons look at parts alone.
pub data Value : Type 0 where
  One : (value : Scalar) → Value
  SetOf : (member : MemberType) (members : List Scalar) → Value  -- each once, in the order in which they were added
  ListOf : (member : MemberType) (items : List Scalar) → Value
  Range : (first last : ℤ) → Value
  Fields : (names : List (List ℕ)) (values : List Scalar) → Value  -- of a record, in the order of its type

-- where a value is held: a slot of a frame. Frame 0 is the model's; each call of a routine has one more.
pub record Place : Type 0 where
  pub frame : ℕ
  pub slot : ℕ

-- what stands on the operand stack
pub data Operand : Type 0 where
  Holds : (value : Value) → Operand
  Points : (place : Place) → Operand
  Walks : (left : List Scalar) → Operand  -- through the members that are left

-- a number from 0 on, and 0 for one below it
abbrev pub at_least_zero : ℤ → ℕ
at_least_zero (pos n) = n
at_least_zero (negsuc n) = 0

-- so many integers, one after the other
abbrev pub integers_from : ℤ → ℕ → List Scalar
integers_from n zero = []
integers_from n (suc many) = Int n ∷ integers_from (n +ℤ pos 1) many

-- the members of what can be gone through, in order
abbrev pub members_of : Value → Option (List Scalar)
members_of (SetOf member members) = Some members
members_of (ListOf member items) = Some items
members_of (Range first last) = Some (integers_from first (at_least_zero (last -ℤ first +ℤ pos 1)))
members_of (One value) = None
members_of (Fields names values) = None
