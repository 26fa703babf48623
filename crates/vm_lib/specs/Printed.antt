-- The printed forms of values, which have no blanks.

use Rattle.std.specs.Prelude.{ℕ, ℤ, List, [], ◌∷◌, ◌++◌, codes, Result}
use Rattle.std.specs.List.{flat_map}
use Rattle.std.specs.Fmt.{signed_decimal}
use Rattle.mos_text.specs.declared.fault_kind.FaultKind.{FaultKind}
use Rattle.mos_text.specs.declared.scalar.Scalar.{Scalar}
use Rattle.mos_value.specs.Texts.{print_scalar, text_of}
use Rattle.mos_value.specs.Values.{Value, One, SetOf, ListOf, Range, Fields}

-- an item behind others
abbrev pub print_next : Scalar → List ℕ
print_next item = codes "," ++ print_scalar item

-- items with commas between them
abbrev pub print_items : List Scalar → List ℕ
print_items [] = []
print_items (item ∷ more) = print_scalar item ++ flat_map print_next more

-- a field with its name
abbrev pub print_field : List ℕ → Scalar → List ℕ
print_field name value = name ++ (codes "=" ++ print_scalar value)

-- a field behind others
abbrev pub print_next_field : List ℕ → Scalar → List ℕ
print_next_field name value = codes "," ++ print_field name value

-- fields behind others; there are as many names as values
abbrev pub print_more_fields : List (List ℕ) → List Scalar → List ℕ
print_more_fields (name ∷ names) (value ∷ values) = print_next_field name value ++ print_more_fields names values
print_more_fields _ _ = []

-- fields with commas between them
abbrev pub print_fields : List (List ℕ) → List Scalar → List ℕ
print_fields (name ∷ names) (value ∷ values) = print_field name value ++ print_more_fields names values
print_fields _ _ = []

-- members between brackets
abbrev pub print_set : List Scalar → List ℕ
print_set members = codes "{" ++ (print_items members ++ codes "}")

-- items between brackets
abbrev pub print_list : List Scalar → List ℕ
print_list items = codes "[" ++ (print_items items ++ codes "]")

-- the bounds that it has, also where there is nothing between them
abbrev pub print_range : ℤ → ℤ → List ℕ
print_range first last = signed_decimal first ++ (codes ".." ++ signed_decimal last)

-- the fields of a record between brackets
abbrev pub print_record : List (List ℕ) → List Scalar → List ℕ
print_record names values = codes "[" ++ (print_fields names values ++ codes "]")

-- the printed form of a value
abbrev pub print_value : Value → List ℕ
print_value (One value) = print_scalar value
print_value (SetOf member members) = print_set members
print_value (ListOf member items) = print_list items
print_value (Range first last) = print_range first last
print_value (Fields names values) = print_record names values

-- `string`: the printed form as a text, or the fault of one that is too long
abbrev pub show : Value → Result (List ℕ) FaultKind
show value = text_of (print_value value)
