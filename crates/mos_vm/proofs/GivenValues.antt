-- Values of parameters put into their slots, one after the other.

use Rattle.std.proofs.Common.{◌≡◌, ◌<◌, ℕ, ◌+◌, zero, suc, true, List, [], ◌∷◌, drop, get_or, length, Some, None, refl, sym, ap, ◌∙◌, add-one, drop-cons, arith}
use Rattle.std.specs.Prelude.{slice_get, slice_set, nat_lt, if◌then◌else◌}
use Rattle.std.proofs.lemmas.Bool.Decides.{nat_tests}
use Rattle.std.proofs.lemmas.Option.{slice_get_within, get_or_from_slice_get}
use Rattle.mos_text.specs.declared.scalar.Scalar.{Scalar}
use Rattle.bim_code.specs.declared.image.Parameter as table
use Rattle.mos_value.specs.Values.{Value, One}
use Rattle.run_state.specs.Parameters.{with_values}
use Rattle.mos_vm.specs.Beginnings.{slots_of}

-- the elements from one on
from_one : {A : Type 0} (xs : List A) (i : ℕ) (x : A) → slice_get xs i ≡ Some x → drop i xs ≡ x ∷ drop (i + 1) xs
from_one xs i x e =
    let within = slice_get_within xs i x e in
    let step : drop i xs ≡ get_or xs i x ∷ drop (i + 1) xs = rw (add-one, drop-cons xs i x within) in
    step ∙ ap (λ y. y ∷ drop (i + 1) xs) (get_or_from_slice_get xs i x x e)

-- no element from there on
from_none : {A : Type 0} (xs : List A) (i : ℕ) → slice_get xs i ≡ None → drop i xs ≡ []
from_none [] zero e = refl
from_none [] (suc i) e = refl
from_none (x ∷ xs) zero e = cc
from_none (x ∷ xs) (suc i) e = from_none xs i e

pub no_value : (params : List table.Parameter) (given : List Scalar) (frame : List Value) (i : ℕ) (p : table.Parameter)
    → slice_get params i ≡ Some p → slice_get given i ≡ None → with_values (slots_of (drop i params)) (drop i given) frame ≡ None
no_value params given frame i p is none =
    let ps = from_one params i p is in
    let gs = from_none given i none in
    ap (λ all. with_values (slots_of all) (drop i given) frame) ps ∙ ap (λ all. with_values (slots_of (p ∷ drop (i + 1) params)) all frame) gs

pub next_value : (params : List table.Parameter) (given : List Scalar) (frame : List Value) (i : ℕ) (p : table.Parameter) (v : Scalar)
    → slice_get params i ≡ Some p → slice_get given i ≡ Some v → p.slot < length frame
    → with_values (slots_of (drop (i + 1) params)) (drop (i + 1) given) (slice_set frame p.slot (One v))
    ≡ with_values (slots_of (drop i params)) (drop i given) frame
next_value params given frame i p v is found within =
    let ps = from_one params i p is in
    let gs = from_one given i v found in
    let there : nat_lt p.slot (length frame) ≡ true = grind (arith, nat_tests, within) in
    sym (ap (λ all. with_values (slots_of all) (drop i given) frame) ps ∙ ap (λ all. with_values (slots_of (p ∷ drop (i + 1) params)) all frame) gs
    ∙ ap (λ b. if b then with_values (slots_of (drop (i + 1) params)) (drop (i + 1) given) (slice_set frame p.slot (One v)) else None) there)
