-- The store: values by places, and what a call of a routine does to it.

use Rattle.std.specs.Prelude.{ℕ, ◌+◌, List, [], ◌∷◌, Option, Some, None, map, length, slice_get, slice_set, nat_eq, nat_lt, if◌then◌else◌, option_map}
use Rattle.mos_text.specs.declared.scalar.Scalar.TheVariants.{Int}
use Rattle.std.specs.Prelude.{pos}
use Rattle.mos_value.specs.Values.{Value, One, Place}

-- the value at a place: the frame of number n is the one with n frames behind it
abbrev pub load_in : List (List Value) → (frame slot : ℕ) → Option Value
load_in [] frame slot = None
load_in (f ∷ fs) frame slot = if nat_eq frame (length fs) then slice_get f slot else load_in fs frame slot

-- the value at a place
abbrev pub load : Place → List (List Value) → Option Value
load place store = load_in store place.frame place.slot

-- another value in a slot that is there
abbrev pub put_slot : List Value → ℕ → Value → Option (List Value)
put_slot f slot value = if nat_lt slot (length f) then Some (slice_set f slot value) else None

-- another value in a slot of a frame that is there
abbrev pub put_in : List (List Value) → (frame slot : ℕ) → Value → Option (List (List Value))
put_in [] frame slot value = None
put_in (f ∷ fs) frame slot value =
    if nat_eq frame (length fs)
    then option_map (λ g. g ∷ fs) (put_slot f slot value)
    else option_map (λ gs. f ∷ gs) (put_in fs frame slot value)

-- the store with another value at a place that is there
abbrev pub put : Place → Value → List (List Value) → Option (List (List Value))
put place value store = put_in store place.frame place.slot value

-- Routines.

-- calls of routines that may stand inside one another
abbrev pub most_calls : ℕ
most_calls = 1000

-- what a routine is given: a value of its own, or a place that it shares
pub data Argument : Type 0 where
  ByValue : (value : Value) → Argument
  ByPlace : (place : Place) → Argument

-- values of a routine's own
abbrev pub by_values : List Value → List Argument
by_values [] = []
by_values (value ∷ values) = ByValue value ∷ by_values values

-- the value with which the slot of an argument begins; an argument by place does not use its slot
abbrev pub value_in : Argument → Value
value_in (ByValue value) = value
value_in (ByPlace place) = One (Int (pos 0))

-- the places of arguments, which stand from a slot of a frame on
abbrev pub argument_places : (frame slot : ℕ) → List Argument → List Place
argument_places frame slot [] = []
argument_places frame slot (ByValue value ∷ rest) = record { frame = frame; slot = slot } ∷ argument_places frame (slot + 1) rest
argument_places frame slot (ByPlace place ∷ rest) = place ∷ argument_places frame (slot + 1) rest

-- the store of a routine that begins, and the store behind one that was left
abbrev pub store_inside : List Argument → List (List Value) → List (List Value)
store_inside slots store = map value_in slots ∷ store

-- the store behind a routine that was left
abbrev pub store_behind : List (List Value) → List (List Value)
store_behind [] = []
store_behind (f ∷ fs) = fs
