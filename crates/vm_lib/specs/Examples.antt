-- Computed examples of the library.

use Rattle.std.specs.Prelude.{◌≡◌, [], ◌∷◌, pos, negsuc, true, false, codes, map, ℕ, List}
use Rattle.mos_text.specs.declared.fault_kind.FaultKind.TheVariants.{Overflow, DivZero, Empty, BadData}
use Rattle.mos_text.specs.declared.scalar.Scalar.TheVariants.{Int, Bool as Truth, Str}
use Rattle.mos_value.specs.declared.member.MemberType.TheVariants.{Integer}
use Rattle.mos_value.specs.Values.{Value, One, SetOf, ListOf, Range as range, Fields}
use Rattle.mos_value.specs.Answers.{Gives, Faults, Sticks, equal, not_equal}
use Rattle.vm_lib.specs.declared.function.LibraryFunction.TheVariants.{Abs, MinList, MaxList, IsOdd, GetSize, GetFirst, GetLast, GetHead, GetTail, GetReverse, FindFirst, FindLast, TextOf, IntegerOf}
use Rattle.vm_lib.specs.Library.{library}
use Rattle.vm_lib.specs.Operations.{done, compare, make_set, make_list, as_set, unite, is_in, divide, field}

-- an integer
abbrev pub int : ℕ → Value
int n = One (Int (pos n))

-- a text
abbrev pub txt : List ℕ → Value
txt bytes = One (Str bytes)

-- a list of 3, 1, 3
abbrev pub three : Value
three = ListOf Integer (Int (pos 3) ∷ Int (pos 1) ∷ Int (pos 3) ∷ [])

-- the least integer has no number without its sign; no number is the least of none
abbrev pub OnIntegers : Type 0
OnIntegers =
    (library Abs (One (Int (negsuc 2147483647)) ∷ []) ≡ Faults Overflow)
    × (library Abs (One (Int (negsuc 6)) ∷ []) ≡ Gives (int 7))
    × (map (λ f. library f (int 4 ∷ One (Int (negsuc 0)) ∷ int 9 ∷ [])) (MinList ∷ MaxList ∷ []) ≡ Gives (One (Int (negsuc 0))) ∷ Gives (int 9) ∷ [])
    × (library MinList [] ≡ Sticks)
    × (library IsOdd (One (Int (negsuc 2)) ∷ []) ≡ Gives (One (Truth true)))

-- places are from 1 on, and 0 is none
abbrev pub OnLists : Type 0
OnLists =
    (map (λ f. library f (three ∷ int 3 ∷ [])) (FindFirst ∷ FindLast ∷ []) ≡ Gives (int 1) ∷ Gives (int 3) ∷ [])
    × (map (λ f. library f (three ∷ int 7 ∷ [])) (FindFirst ∷ FindLast ∷ []) ≡ Gives (int 0) ∷ Gives (int 0) ∷ [])
    × (library GetHead (three ∷ int 2 ∷ []) ≡ Gives (ListOf Integer (Int (pos 3) ∷ Int (pos 1) ∷ [])))
    × (library GetTail (three ∷ int 2 ∷ []) ≡ Gives (ListOf Integer (Int (pos 1) ∷ Int (pos 3) ∷ [])))
    × (library GetTail (three ∷ int 7 ∷ []) ≡ Gives three)
    × (library GetHead (three ∷ One (Int (negsuc 0)) ∷ []) ≡ Gives (ListOf Integer []))
    × (library GetReverse (three ∷ []) ≡ Gives three)

-- there is no first item of none
abbrev pub OnEnds : Type 0
OnEnds =
    (map (λ f. library f (ListOf Integer [] ∷ [])) (GetSize ∷ GetFirst ∷ GetLast ∷ []) ≡ Gives (int 0) ∷ Faults Empty ∷ Faults Empty ∷ [])
    × (map (λ f. library f (range (pos 5) (pos 3) ∷ [])) (GetSize ∷ GetFirst ∷ GetLast ∷ []) ≡ Gives (int 0) ∷ Faults Empty ∷ Faults Empty ∷ [])
    × (map (λ f. library f (range (pos 3) (pos 5) ∷ [])) (GetSize ∷ GetFirst ∷ GetLast ∷ []) ≡ Gives (int 3) ∷ Gives (int 3) ∷ Gives (int 5) ∷ [])

-- integers as texts write them
abbrev pub OnNumerals : Type 0
OnNumerals =
    map (λ text. library IntegerOf (txt text ∷ [])) (codes "-007" ∷ codes "2147483648" ∷ codes "" ∷ codes "-" ∷ codes "+1" ∷ codes " 1" ∷ [])
    ≡ Gives (One (Int (negsuc 6))) ∷ Faults BadData ∷ Faults BadData ∷ Faults BadData ∷ Faults BadData ∷ Faults BadData ∷ []

-- printed forms have no blanks
abbrev pub OnPrintedForms : Type 0
OnPrintedForms =
    map (λ value. library TextOf (value ∷ []))
    (SetOf Integer (Int (pos 1) ∷ Int (pos 2) ∷ []) ∷ SetOf Integer [] ∷ three ∷ range (pos 5) (pos 3)
    ∷ Fields (codes "x" ∷ codes "y" ∷ []) (Int (pos 1) ∷ Str (codes "a b") ∷ []) ∷ [])
    ≡ Gives (txt (codes "{1,2}")) ∷ Gives (txt (codes "{}")) ∷ Gives (txt (codes "[3,1,3]")) ∷ Gives (txt (codes "5..3"))
    ∷ Gives (txt (codes "[x=1,y=a b]")) ∷ []

-- a set of 1, 2
abbrev pub one_two : Value
one_two = SetOf Integer (Int (pos 1) ∷ Int (pos 2) ∷ [])

-- values of one kind are the same by their parts, in whatever order of a set; of two kinds it is not asked
abbrev pub OnSameness : Type 0
OnSameness =
    (done (compare equal) (one_two ∷ SetOf Integer (Int (pos 2) ∷ Int (pos 1) ∷ []) ∷ []) ≡ Gives (One (Truth true)))
    × (done (compare not_equal) (ListOf Integer (Int (pos 2) ∷ Int (pos 1) ∷ []) ∷ ListOf Integer (Int (pos 1) ∷ Int (pos 2) ∷ []) ∷ []) ≡ Gives (One (Truth true)))
    × (done (compare equal) (range (pos 3) (pos 1) ∷ range (pos 1) (pos 0) ∷ []) ≡ Gives (One (Truth true)))
    × (done (compare equal) (one_two ∷ range (pos 1) (pos 2) ∷ []) ≡ Sticks)

-- sets, lists and ranges
abbrev pub OnOperators : Type 0
OnOperators =
    (done (make_set Integer) (int 1 ∷ int 2 ∷ int 1 ∷ []) ≡ Gives one_two)
    × (done (make_list Integer) (int 3 ∷ int 1 ∷ int 3 ∷ []) ≡ Gives three)
    × (done as_set (range (pos 1) (pos 2) ∷ []) ≡ Gives one_two)
    × (done unite (one_two ∷ SetOf Integer (Int (pos 4) ∷ Int (pos 1) ∷ []) ∷ []) ≡ Gives (SetOf Integer (Int (pos 1) ∷ Int (pos 2) ∷ Int (pos 4) ∷ [])))
    × (map (λ n. done is_in (int n ∷ range (pos 1) (pos 4) ∷ [])) (4 ∷ 5 ∷ []) ≡ Gives (One (Truth true)) ∷ Gives (One (Truth false)) ∷ [])
    × (done divide (int 7 ∷ int 0 ∷ []) ≡ Faults DivZero)
    × (done (field 1) (Fields (codes "x" ∷ codes "y" ∷ []) (Int (pos 1) ∷ Int (pos 5) ∷ []) ∷ []) ≡ Gives (int 5))
