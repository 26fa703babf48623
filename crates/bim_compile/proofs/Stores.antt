-- The machine's store holds what the meaning's does: each of its frames begins with one of the meaning's,
-- and holds more behind it.

use Rattle.std.proofs.Common.{◌≡◌, ◌<◌, ℕ, ◌+◌, zero, suc, List, [], ◌∷◌, ◌++◌, length, map, Bool, true, false, Option, Some, None, refl, sym, ap, ◌∙◌, slice_get, slice_set, nat_eq, nat_lt, length-append, append-nil, arith}
use Rattle.std.specs.Prelude.{if◌then◌else◌, option_map}
use Rattle.std.proofs.lemmas.Bool.Decides.{nat_tests}
use Rattle.std.proofs.lemmas.List.{length-set, set-append_left}
use Rattle.mos_value.specs.Values.{Value, Place}
use Rattle.run_state.specs.State.{model_frame}
use Rattle.run_state.specs.Places.{load, load_in, put, put_in, put_slot, store_behind}
use Rattle.bim_machine.specs.Laws.{IsPrefix}

-- what is known of the part that runs: how many slots the meaning's newest frame has, the values that
-- stand behind these for a while, how many slots there are behind those, and of the older frames how
-- many slots the meaning's have and what the machine's hold behind them
pub record Known : Type 0 where
  pub visible : ℕ
  pub kept : List Value
  pub room : ℕ
  pub shapes : List ℕ
  pub olds : List (List Value)

abbrev pub newest : List (List Value) → List Value
newest [] = []
newest (h ∷ hs) = h

-- each frame with what stands behind it
abbrev pub joined : List (List Value) → List (List Value) → List (List Value)
joined [] hs = []
joined (f ∷ fs) hs = (f ++ newest hs) ∷ joined fs (store_behind hs)

-- the meaning's store, and the machine's
pub record Stores (k : Known) (a b : List (List Value)) : Type 0 where
  pub rest : List Value
  pub is : b ≡ joined a ((k.kept ++ rest) ∷ k.olds)
  pub fits : length rest ≡ k.room
  pub shape : map length a ≡ k.visible ∷ k.shapes

-- whatever is known, the meaning's frames begin the machine's
abbrev pub Extends : List (List Value) → List (List Value) → Type 0
Extends b a = (hs : List (List Value)) × (b ≡ joined a hs)

pub extends : {k : Known} {a b : List (List Value)} → Stores k a b → Extends b a
extends {k = k} st = ((k.kept ++ st.rest) ∷ k.olds, st.is)

frame_joined : (a hs : List (List Value)) → IsPrefix (model_frame a) (model_frame (joined a hs))
frame_joined [] hs = record { rest = []; is = refl }
frame_joined (f ∷ []) hs = record { rest = newest hs; is = refl }
frame_joined (f ∷ g ∷ fs) hs = frame_joined (g ∷ fs) (store_behind hs)

-- the model's frame begins the machine's
pub frame_extends : (a b : List (List Value)) → Extends b a → IsPrefix (model_frame a) (model_frame b)
frame_extends a b e =
    let p = frame_joined a e.0 in
    record { rest = p.rest; is = ap model_frame e.1 ∙ p.is }

length_joined : (a hs : List (List Value)) → length (joined a hs) ≡ length a
length_joined [] hs = refl
length_joined (f ∷ fs) hs = let h = length_joined fs (store_behind hs) in omega (arith, h)

get_append : (f h : List Value) (slot : ℕ) (v : Value) → slice_get f slot ≡ Some v → slice_get (f ++ h) slot ≡ Some v
get_append [] h slot v e = cc
get_append (x ∷ f) h zero v e = e
get_append (x ∷ f) h (suc slot) v e = get_append f h slot v e

-- what is loaded from the one is loaded from the other
load_joined : (a hs : List (List Value)) (frame slot : ℕ) (v : Value) → load_in a frame slot ≡ Some v → load_in (joined a hs) frame slot ≡ Some v
load_joined [] hs frame slot v e = cc
load_joined (f ∷ fs) hs frame slot v e =
    rw (length_joined fs (store_behind hs)) (tested (nat_eq frame (length fs)) e (load_joined fs (store_behind hs) frame slot v))
  where
    tested : (b : Bool) → (if b then slice_get f slot else load_in fs frame slot) ≡ Some v → (load_in fs frame slot ≡ Some v → load_in (joined fs (store_behind hs)) frame slot ≡ Some v)
        → (if b then slice_get (f ++ newest hs) slot else load_in (joined fs (store_behind hs)) frame slot) ≡ Some v
    tested true e later = get_append f (newest hs) slot v e
    tested false e later = later e

pub loaded_stores : {k : Known} {a b : List (List Value)} (place : Place) (v : Value) → Stores k a b → load place a ≡ Some v → load place b ≡ Some v
loaded_stores {k = k} {a = a} place v st e =
    ap (λ (store : List (List Value)). load place store) st.is ∙ load_joined a ((k.kept ++ st.rest) ∷ k.olds) place.frame place.slot v e

-- in the newest frame
put_head : (f : List Value) (fs hs : List (List Value)) (slot : ℕ) (v : Value) (after : List (List Value)) → option_map (λ (g : List Value). g ∷ fs) (put_slot f slot v) ≡ Some after
    → (option_map (λ (g : List Value). g ∷ joined fs (store_behind hs)) (put_slot (f ++ newest hs) slot v) ≡ Some (joined after hs)) × (map length after ≡ map length (f ∷ fs))
put_head f fs hs slot v after e = tested (nat_lt slot (length f)) refl e
  where
    tested : (b : Bool) → nat_lt slot (length f) ≡ b → option_map (λ (g : List Value). g ∷ fs) (if b then Some (slice_set f slot v) else None) ≡ Some after
        → (option_map (λ (g : List Value). g ∷ joined fs (store_behind hs)) (put_slot (f ++ newest hs) slot v) ≡ Some (joined after hs)) × (map length after ≡ map length (f ∷ fs))
    tested false t e = cc
    tested true t e =
        let is : slice_set f slot v ∷ fs ≡ after = cc in
        let within : slot < length f = grind (arith, nat_tests, t) in
        let l : length (f ++ newest hs) ≡ length f + length (newest hs) = length-append f (newest hs) in
        let wide : nat_lt slot (length (f ++ newest hs)) ≡ true = grind (arith, nat_tests, within, l) in
        let set : slice_set (f ++ newest hs) slot v ≡ slice_set f slot v ++ newest hs = set-append_left f (newest hs) slot v within in
        let one : put_slot (f ++ newest hs) slot v ≡ Some (slice_set f slot v ++ newest hs) =
        ap (λ b. if b then Some (slice_set (f ++ newest hs) slot v) else None) wide ∙ ap (λ (g : List Value). Some g) set in (
          ap (λ (o : Option (List Value)). option_map (λ (g : List Value). g ∷ joined fs (store_behind hs)) o) one
              ∙ ap (λ (all : List (List Value)). Some (joined all hs)) is,
          ap (λ (all : List (List Value)). map length all) (sym is) ∙ ap (λ n. n ∷ map length fs) (length-set f slot v),
        )

put_joined : (a hs : List (List Value)) (frame slot : ℕ) (v : Value) (after : List (List Value)) → put_in a frame slot v ≡ Some after
    → (put_in (joined a hs) frame slot v ≡ Some (joined after hs)) × (map length after ≡ map length a)
put_joined [] hs frame slot v after e = cc
put_joined (f ∷ fs) hs frame slot v after e =
    let both = tested (nat_eq frame (length fs)) e (put_joined fs (store_behind hs) frame slot v) in
    (rw (length_joined fs (store_behind hs)) both.0, both.1)
  where
    further : (o : Option (List (List Value))) → put_in fs frame slot v ≡ o → option_map (λ (gs : List (List Value)). f ∷ gs) o ≡ Some after
        → ((later : List (List Value)) → put_in fs frame slot v ≡ Some later → (put_in (joined fs (store_behind hs)) frame slot v ≡ Some (joined later (store_behind hs))) × (map length later ≡ map length fs))
        → (option_map (λ (gs : List (List Value)). (f ++ newest hs) ∷ gs) (put_in (joined fs (store_behind hs)) frame slot v) ≡ Some (joined after hs)) × (map length after ≡ map length (f ∷ fs))
    further None p e later = cc
    further (Some gs) p e later =
        let is : f ∷ gs ≡ after = cc in
        let inner = later gs p in (
          ap (λ (o : Option (List (List Value))). option_map (λ (all : List (List Value)). (f ++ newest hs) ∷ all) o) inner.0 ∙ ap (λ (all : List (List Value)). Some (joined all hs)) is,
          ap (λ (all : List (List Value)). map length all) (sym is) ∙ ap (λ (ns : List ℕ). length f ∷ ns) inner.1,
        )

    tested : (b : Bool)
        → (if b then option_map (λ (g : List Value). g ∷ fs) (put_slot f slot v) else option_map (λ (gs : List (List Value)). f ∷ gs) (put_in fs frame slot v)) ≡ Some after
        → ((later : List (List Value)) → put_in fs frame slot v ≡ Some later → (put_in (joined fs (store_behind hs)) frame slot v ≡ Some (joined later (store_behind hs))) × (map length later ≡ map length fs))
        → ((if b then option_map (λ (g : List Value). g ∷ joined fs (store_behind hs)) (put_slot (f ++ newest hs) slot v) else option_map (λ (gs : List (List Value)). (f ++ newest hs) ∷ gs) (put_in (joined fs (store_behind hs)) frame slot v)) ≡ Some (joined after hs))
        × (map length after ≡ map length (f ∷ fs))
    tested true e later = put_head f fs hs slot v after e
    tested false e later = further (put_in fs frame slot v) refl e later

-- a put in the one is a put in the other
pub put_stores : {k : Known} {a b : List (List Value)} (place : Place) (v : Value) (after : List (List Value)) → Stores k a b → put place v a ≡ Some after
    → (changed : List (List Value)) × (put place v b ≡ Some changed) × Stores k after changed
put_stores {k = k} {a = a} place v after st e =
    let hs : List (List Value) = (k.kept ++ st.rest) ∷ k.olds in
    let both = put_joined a hs place.frame place.slot v after e in (
      joined after hs,
      ap (λ (store : List (List Value)). put place v store) st.is ∙ both.0,
      record { rest = st.rest; is = refl; fits = st.fits; shape = both.1 ∙ st.shape },
    )

-- the main part, with nothing behind its slots
abbrev pub alone : ℕ → Known
alone many = record { visible = many; kept = []; room = 0; shapes = []; olds = [] }

pub begun_stores : (values : List Value) → Stores (alone (length values)) (values ∷ []) (values ∷ [])
begun_stores values = record {
  rest = [];
  is = ap (λ (f : List Value). f ∷ []) (sym (append-nil values));
  fits = refl;
  shape = refl;
}
