-- The parameters of a model, and what a parameter text gives them: items NAME=VALUE with commas between
-- them. Blanks around names and values do not count.

use Rattle.std.specs.Prelude.{◌≡◌, is_some, is_none, ℕ, ◌+◌, ◌-◌, ◌*◌, ℤ, pos, ◌-ℤ◌, Bool, true, false, ◌&&◌, ◌||◌, List, [], ◌∷◌, ◌++◌, Option, Some, None, map, take, drop, length, reverse, slice_get, slice_set, nat_eq, nat_lt, nat_le, codes, option_map, if◌then◌else◌}
use Rattle.std.specs.List.{list_any, position_or_len}
use Rattle.std.specs.Str.{bytes_eq}
use Rattle.mos_text.specs.declared.scalar.Scalar.{Scalar}
use Rattle.mos_text.specs.declared.scalar.Scalar.TheVariants.{Int, Bool as Truth, Str, Model, Event}
use Rattle.mos_names.specs.NameLists.{Name, place_of}
use Rattle.mos_value.specs.Values.{Value, One}
use Rattle.mos_value.specs.Numbers.{is_integer}
use Rattle.mos_text.specs.declared.fault_kind.FaultKind.TheVariants.{BadParam}
use Rattle.run_state.specs.Stops.{Failed}
use Rattle.run_state.specs.State.{Final, beginning}

-- a parameter: its name, and the value that it has where no other is given; that is of its type
pub record Parameter : Type 0 where
  pub name : Name
  pub default : Scalar

-- The items of a text.

-- a space, a tab or a carriage return
abbrev pub is_blank : ℕ → Bool
is_blank byte = nat_eq byte 32 || nat_eq byte 9 || nat_eq byte 13

-- without the blanks in front
abbrev pub skip_blanks : List ℕ → List ℕ
skip_blanks [] = []
skip_blanks (byte ∷ more) = if is_blank byte then skip_blanks more else byte ∷ more

-- without the blanks at both ends
abbrev pub trim : List ℕ → List ℕ
trim text = reverse (skip_blanks (reverse (skip_blanks text)))

-- a quote of either kind
abbrev pub is_quote : ℕ → Bool
is_quote byte = nat_eq byte 34 || nat_eq byte 39

-- the quote that is open behind a byte
abbrev pub open_behind : Option ℕ → ℕ → Option ℕ
open_behind None byte = if is_quote byte then Some byte else None
open_behind (Some quote) byte = if nat_eq quote byte then None else Some quote

-- a comma outside quotes
abbrev pub ends_item : Option ℕ → ℕ → Bool
ends_item None byte = nat_eq byte 44
ends_item (Some quote) byte = false

-- the items, of which the first has begun
abbrev pub items_from : Option ℕ → List ℕ → List ℕ → List (List ℕ)
items_from quote item [] = item ∷ []
items_from quote item (byte ∷ more) =
    (if ends_item quote byte then item ∷ [] else [])
    ++ items_from (open_behind quote byte) (if ends_item quote byte then [] else item ++ byte ∷ []) more

-- the items of a text; the empty text has none
abbrev pub items_of : List ℕ → List (List ℕ)
items_of [] = []
items_of text = items_from None [] text

-- Values as they are written.

-- with quotes around it, or without
pub data WrittenValue : Type 0 where
  Quoted : List ℕ → WrittenValue
  Bare : List ℕ → WrittenValue

-- what stands behind an opening quote: that quote ends it, and stands in it nowhere else
abbrev pub quoted_written : ℕ → List ℕ → Option WrittenValue
quoted_written quote more =
    if nat_eq (position_or_len (nat_eq quote) more + 1) (length more)
    then Some (Quoted (take (length more - 1) more))
    else None

-- a value as it is written, where it is one
abbrev pub written_of : List ℕ → Option WrittenValue
written_of [] = Some (Bare [])
written_of (byte ∷ more) =
    if is_quote byte then quoted_written byte more
    else (if list_any is_quote more then None else Some (Bare (byte ∷ more)))

-- decimal digits, of which the first were read
abbrev pub digits_from : ℕ → List ℕ → Option ℕ
digits_from n [] = Some n
digits_from n (d ∷ ds) = if nat_le 48 d && nat_le d 57 then digits_from (10 * n + (d - 48)) ds else None

-- at least one decimal digit
abbrev pub digits : List ℕ → Option ℕ
digits [] = None
digits (d ∷ ds) = digits_from 0 (d ∷ ds)

-- digits, perhaps behind a `-`
abbrev pub signed_digits : List ℕ → Option ℤ
signed_digits [] = None
signed_digits (byte ∷ more) =
    if nat_eq byte 45 then option_map (λ n. pos 0 -ℤ pos n) (digits more) else option_map pos (digits (byte ∷ more))

-- an integer of 32 bits
abbrev pub fitting : Option ℤ → Option Scalar
fitting None = None
fitting (Some n) = if is_integer n then Some (Int n) else None

-- `true` or `false`
abbrev pub truth_of : List ℕ → Option Scalar
truth_of text =
    if bytes_eq text (codes "true") then Some (Truth true)
    else (if bytes_eq text (codes "false") then Some (Truth false) else None)

-- a text of at most 1,000,000 bytes
abbrev pub text_of : List ℕ → Option Scalar
text_of text = if nat_le (length text) 1000000 then Some (Str text) else None

-- the value that is written, of the type of the first one
abbrev pub value_like : Scalar → WrittenValue → Option Scalar
value_like (Int n) (Bare text) = fitting (signed_digits text)
value_like (Truth b) (Bare text) = truth_of text
value_like (Str t) (Bare text) = text_of text
value_like (Str t) (Quoted text) = text_of text
value_like (Int n) (Quoted text) = None
value_like (Truth b) (Quoted text) = None
value_like (Model n) written = None
value_like (Event class value) written = None

-- The values of the parameters.

-- what is done with what is there
abbrev pub and_then : {A B : Type 0} → Option A → (A → Option B) → Option B
and_then None go = None
and_then (Some x) go = go x

-- the place of a parameter, and the value that an item gives it
abbrev pub given_by : List Parameter → List ℕ → Option (ℕ × Scalar)
given_by params item =
    let equals = position_or_len (nat_eq 61) item in
    let place = place_of (trim (take equals item)) (map (λ (p : Parameter). p.name) params) in
    if nat_eq equals (length item) then None
    else and_then (slice_get params place) (λ (p : Parameter).
    and_then (written_of (trim (drop (equals + 1) item))) (λ written. option_map (λ v. (place, v)) (value_like p.default written)))

-- the values behind some items; each counts from then on
abbrev pub given_behind : List Parameter → List Scalar → List (List ℕ) → Option (List Scalar)
given_behind params values [] = Some values
given_behind params values (item ∷ items) =
    and_then (given_by params item) (λ (given : ℕ × Scalar). given_behind params (slice_set values given.0 given.1) items)

-- the values of all parameters, or none where the text is refused
abbrev pub given_values : List Parameter → List ℕ → Option (List Scalar)
given_values params text = given_behind params (map (λ (p : Parameter). p.default) params) (items_of text)

-- The name for which a text is refused.

-- of an item that is written well, where the parameter is found
abbrev pub refused_value : Name → WrittenValue → Option Parameter → Option Name
refused_value name written None = Some name
refused_value name written (Some p) = if is_none (value_like p.default written) then Some name else None

-- of an item with this name; the empty one where its value is none at all
abbrev pub refused_written : List Parameter → Name → Option WrittenValue → Option Name
refused_written params name None = Some []
refused_written params name (Some written) =
    refused_value name written (slice_get params (place_of name (map (λ (p : Parameter). p.name) params)))

-- of an item, if it is refused; the empty one where it has no `=`
abbrev pub refused_item : List Parameter → List ℕ → Option Name
refused_item params item =
    let equals = position_or_len (nat_eq 61) item in
    if nat_eq equals (length item) then Some []
    else refused_written params (trim (take equals item)) (written_of (trim (drop (equals + 1) item)))

-- the first of these
abbrev pub first_name : Option Name → Option Name → Option Name
first_name None later = later
first_name (Some name) later = Some name

-- that of the first item that is refused
abbrev pub refused_items : List Parameter → List (List ℕ) → Option Name
refused_items params [] = None
refused_items params (item ∷ items) = first_name (refused_item params item) (refused_items params items)

-- of a text, if it is refused
abbrev pub refused_name : List Parameter → List ℕ → Option Name
refused_name params text = refused_items params (items_of text)

-- a text has a name for which it is refused exactly where it gives no values
abbrev pub RefusedForAName : Type 0
RefusedForAName = (params : List Parameter) (text : List ℕ) → is_some (refused_name params text) ≡ is_none (given_values params text)

-- What is given to a run.

-- values in these slots of a frame, where each is there
abbrev pub with_values : List ℕ → List Scalar → List Value → Option (List Value)
with_values [] values frame = Some frame
with_values (slot ∷ slots) [] frame = None
with_values (slot ∷ slots) (value ∷ values) frame =
    if nat_lt slot (length frame) then with_values slots values (slice_set frame slot (One value)) else None

-- a run whose parameter text is refused does nothing
abbrev pub refused_run : Final
refused_run = record { stop = Failed BadParam; state = beginning [] }
