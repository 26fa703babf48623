-- Items of a parameter text, one after the other.

use Rattle.std.proofs.Common.{◌≡◌, ◌<◌, ◌≤◌, ℕ, ◌+◌, ◌-◌, Bool, true, false, List, [], ◌∷◌, ◌++◌, take, drop, get_or, length, Option, Some, None, sym, ap, ◌∙◌, nat_eq, add-one, drop-cons, length-drop, arith}
use Rattle.std.specs.Prelude.{slice_get, slice_set, option_map, if◌then◌else◌}
use Rattle.std.specs.List.{position_or_len}
use Rattle.std.proofs.lemmas.Option.{same_Some}
use Rattle.std.proofs.lemmas.List.{take_more, get_or-drop}
use Rattle.mos_text.specs.declared.scalar.Scalar.{Scalar}
use Rattle.mos_names.specs.NameLists.{place_of}
use Rattle.run_state.specs.Parameters.{Parameter, WrittenValue, and_then, trim, written_of, value_like, given_by, given_behind, ends_item, open_behind, items_from}
use Rattle.mos_vm.specs.Givens.{names_of, IsPut}

-- a value with its place
abbrev with_place : ℕ → Scalar → ℕ × Scalar
with_place place value = (place, value)

placed : (found : Option WrittenValue) (f : WrittenValue → Option Scalar) (place : ℕ) (v : Scalar) → and_then found f ≡ Some v
    → and_then found (λ x. option_map (with_place place) (f x)) ≡ Some (with_place place v)
placed None f place v e = cc
placed (Some x) f place v e = ap (option_map (with_place place)) e

-- what an item gives, by its parts
pub put_by : (formals : List Parameter) (values : List Scalar) (item : List ℕ) (equals place : ℕ) (formal : Parameter) (v : Scalar)
    → equals ≡ position_or_len (nat_eq 61) item → nat_eq equals (length item) ≡ false
    → place ≡ place_of (trim (take equals item)) (names_of formals) → slice_get formals place ≡ Some formal
    → and_then (written_of (trim (drop (equals + 1) item))) (value_like formal.default) ≡ Some v
    → IsPut formals values item true (slice_set values place v)
put_by formals values item equals place formal v at apart there found is =
    let by : ℕ → ℕ → Option Parameter → Option (ℕ × Scalar) =
    λ e k o. and_then o (λ (p : Parameter). and_then (written_of (trim (drop (e + 1) item)))
    (λ written. option_map (with_place k) (value_like p.default written))) in
    let named : ℕ → ℕ = λ e. place_of (trim (take e item)) (names_of formals) in
    let whole : ℕ → Option (ℕ × Scalar) =
    λ e. if nat_eq e (length item) then None else by e (named e) (slice_get formals (named e)) in
    let given : given_by formals item ≡ Some (with_place place v) =
    ap whole (sym at)
    ∙ ap (λ b. if b then None else by equals (named equals) (slice_get formals (named equals))) apart
    ∙ ap (λ k. by equals k (slice_get formals k)) (sym there)
    ∙ ap (by equals place) found
    ∙ placed (written_of (trim (drop (equals + 1) item))) (value_like formal.default) place v is in
    ap (λ o. and_then o (λ (g : ℕ × Scalar). Some (slice_set values g.0 g.1))) given

put_then : (formals : List Parameter) (values after : List Scalar) (rest : List (List ℕ)) (given : Option (ℕ × Scalar))
    → and_then given (λ (g : ℕ × Scalar). Some (slice_set values g.0 g.1)) ≡ Some after
    → and_then given (λ (g : ℕ × Scalar). given_behind formals (slice_set values g.0 g.1) rest) ≡ given_behind formals after rest
put_then formals values after rest None e = cc
put_then formals values after rest (Some g) e = ap (λ vs. given_behind formals vs rest) (same_Some _ _ e)

-- the items from a byte on, by whether the byte ends one
abbrev items_at : Bool → Option ℕ → ℕ → List ℕ → List ℕ → List (List ℕ)
items_at ends quote byte item more =
    (if ends then item ∷ [] else []) ++ items_from (open_behind quote byte) (if ends then [] else item ++ byte ∷ []) more

-- an item ends
pub behind_item : (formals : List Parameter) (values after : List Scalar) (quote : Option ℕ) (byte : ℕ) (item more : List ℕ)
    → ends_item quote byte ≡ true → IsPut formals values item true after
    → given_behind formals after (items_from (open_behind quote byte) [] more) ≡ given_behind formals values (items_from quote item (byte ∷ more))
behind_item formals values after quote byte item more ends put =
    sym (ap (λ b. given_behind formals values (items_at b quote byte item more)) ends
    ∙ put_then formals values after (items_from (open_behind quote byte) [] more) (given_by formals item) put)

-- an item goes on
pub in_item : (formals : List Parameter) (values : List Scalar) (quote : Option ℕ) (byte : ℕ) (item more : List ℕ) → ends_item quote byte ≡ false
    → given_behind formals values (items_from (open_behind quote byte) (item ++ byte ∷ []) more)
    ≡ given_behind formals values (items_from quote item (byte ∷ more))
in_item formals values quote byte item more goes =
    sym (ap (λ b. given_behind formals values (items_at b quote byte item more)) goes)

-- the bytes from one on
from_byte : (text : List ℕ) (i : ℕ) → i < length text → drop i text ≡ get_or text i 0 ∷ drop (i + 1) text
from_byte text i within = rw (add-one, drop-cons text i 0 within)

-- an item that ends at a byte
pub ended_at : (formals : List Parameter) (values after : List Scalar) (quote still : Option ℕ) (text : List ℕ) (begin i : ℕ) → i < length text
    → ends_item quote (get_or text i 0) ≡ true → still ≡ open_behind quote (get_or text i 0)
    → IsPut formals values (take (i - begin) (drop begin text)) true after
    → given_behind formals after (items_from still (take (i + 1 - (i + 1)) (drop (i + 1) text)) (drop (i + 1) text))
    ≡ given_behind formals values (items_from quote (take (i - begin) (drop begin text)) (drop i text))
ended_at formals values after quote still text begin i within ends opens put =
    let none : i + 1 - (i + 1) ≡ 0 = omega arith in
    ap (λ n. given_behind formals after (items_from still (take n (drop (i + 1) text)) (drop (i + 1) text))) none
    ∙ ap (λ o. given_behind formals after (items_from o [] (drop (i + 1) text))) opens
    ∙ behind_item formals values after quote (get_or text i 0) (take (i - begin) (drop begin text)) (drop (i + 1) text) ends put
    ∙ ap (λ more. given_behind formals values (items_from quote (take (i - begin) (drop begin text)) more)) (sym (from_byte text i within))

-- an item that a byte goes on with
pub goes_on_at : (formals : List Parameter) (values : List Scalar) (quote still : Option ℕ) (text : List ℕ) (begin i : ℕ) → i < length text → begin ≤ i
    → ends_item quote (get_or text i 0) ≡ false → still ≡ open_behind quote (get_or text i 0)
    → given_behind formals values (items_from still (take (i + 1 - begin) (drop begin text)) (drop (i + 1) text))
    ≡ given_behind formals values (items_from quote (take (i - begin) (drop begin text)) (drop i text))
goes_on_at formals values quote still text begin i within less goes opens =
    let one : i + 1 - begin ≡ i - begin + 1 = omega (arith, less) in
    let there : begin + (i - begin) ≡ i = omega (arith, less) in
    let wide : i - begin < length (drop begin text) = simp length-drop (omega (arith, within, less)) in
    let longer : take (i + 1 - begin) (drop begin text) ≡ take (i - begin) (drop begin text) ++ get_or text i 0 ∷ [] =
    ap (λ n. take n (drop begin text)) one ∙ take_more (drop begin text) (i - begin) 0 wide
    ∙ ap (λ b. take (i - begin) (drop begin text) ++ b ∷ []) (get_or-drop begin text (i - begin) 0 ∙ ap (λ n. get_or text n 0) there) in
    ap (λ item. given_behind formals values (items_from still item (drop (i + 1) text))) longer
    ∙ ap (λ o. given_behind formals values (items_from o (take (i - begin) (drop begin text) ++ get_or text i 0 ∷ []) (drop (i + 1) text))) opens
    ∙ in_item formals values quote (get_or text i 0) (take (i - begin) (drop begin text)) (drop (i + 1) text) goes
    ∙ ap (λ more. given_behind formals values (items_from quote (take (i - begin) (drop begin text)) more)) (sym (from_byte text i within))
