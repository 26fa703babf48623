-- Items of a parameter text: each is refused for a name, or gives a value.

use Rattle.std.proofs.Common.{◌≡◌, ℕ, ◌+◌, Bool, true, false, List, [], ◌∷◌, Option, Some, None, refl, length, take, drop, map, slice_get, slice_set, nat_eq}
use Rattle.std.specs.Prelude.{is_some, is_none, if◌then◌else◌, option_map}
use Rattle.std.specs.List.{position_or_len}
use Rattle.mos_text.specs.declared.scalar.Scalar.{Scalar}
use Rattle.mos_names.specs.NameLists.{Name, place_of}
use Rattle.run_state.specs.Parameters.{Parameter, WrittenValue, trim, written_of, value_like, and_then, given_by, given_behind, refused_value, refused_written, refused_item, first_name, refused_items}

-- what is written gives a value of the type of the parameter, or is refused for its name
by_value : (name : Name) (place : ℕ) (o : Option Scalar) → is_some (if is_none o then Some name else None) ≡ is_none {T = ℕ × Scalar} (option_map (λ (v : Scalar). (place, v)) o)
by_value name place None = refl
by_value name place (Some v) = refl

-- the parameter is there, or not
by_found : (name : Name) (place : ℕ) (written : WrittenValue) (o : Option Parameter)
    → is_some (refused_value name written o) ≡ is_none {T = ℕ × Scalar} (and_then o (λ (p : Parameter). option_map (λ (v : Scalar). (place, v)) (value_like p.default written)))
by_found name place written None = refl
by_found name place written (Some p) = by_value name place (value_like p.default written)

-- nothing is found where nothing is written
nothing_found : (A : Type 0) (o : Option Parameter) → true ≡ is_none {T = A} (and_then o (λ (p : Parameter). None))
nothing_found A None = refl
nothing_found A (Some p) = refl

-- a value is written, or not
by_written : (params : List Parameter) (name : Name) (o : Option WrittenValue)
    → is_some (refused_written params name o)
    ≡ is_none {T = ℕ × Scalar} (and_then (slice_get params (place_of name (map (λ (p : Parameter). p.name) params))) (λ (p : Parameter).
    and_then o (λ written. option_map (λ (v : Scalar). (place_of name (map (λ (q : Parameter). q.name) params), v)) (value_like p.default written))))
by_written params name None = nothing_found (ℕ × Scalar) (slice_get params (place_of name (map (λ (p : Parameter). p.name) params)))
by_written params name (Some written) =
    by_found name (place_of name (map (λ (p : Parameter). p.name) params)) written (slice_get params (place_of name (map (λ (p : Parameter). p.name) params)))

-- there is a `=`, or not
by_equals : {A B : Type 0} (test : Bool) (name : A) (refused : Option A) (given : Option B) → is_some refused ≡ is_none given
    → is_some (if test then Some name else refused) ≡ is_none (if test then None else given)
by_equals true name refused given e = refl
by_equals false name refused given e = e

item_refused : (params : List Parameter) (item : List ℕ) → is_some (refused_item params item) ≡ is_none (given_by params item)
item_refused params item =
    let equals : ℕ = position_or_len (nat_eq 61) item in
    by_equals (nat_eq equals (length item)) [] _ _ (by_written params (trim (take equals item)) (written_of (trim (drop (equals + 1) item))))

-- the first item that is refused decides
by_first : (params : List Parameter) (values : List Scalar) (items : List (List ℕ)) (name : Option Name) (given : Option (ℕ × Scalar))
    → ((vs : List Scalar) → is_some (refused_items params items) ≡ is_none (given_behind params vs items)) → is_some name ≡ is_none given
    → is_some (first_name name (refused_items params items)) ≡ is_none (and_then given (λ (g : ℕ × Scalar). given_behind params (slice_set values g.0 g.1) items))
by_first params values items None (Some given) later e = later (slice_set values given.0 given.1)
by_first params values items (Some name) None later e = refl
by_first params values items None None later e = cc
by_first params values items (Some name) (Some given) later e = cc

pub refused_behind : (params : List Parameter) (values : List Scalar) (items : List (List ℕ)) → is_some (refused_items params items) ≡ is_none (given_behind params values items)
refused_behind params values [] = refl
refused_behind params values (item ∷ items) =
    by_first params values items (refused_item params item) (given_by params item) (λ vs. refused_behind params vs items) (item_refused params item)
