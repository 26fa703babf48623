-- Two lists are compared from either end.

use Rattle.std.proofs.Common.{◌≡◌, ◌<◌, ℕ, zero, suc, Bool, true, false, List, [], ◌∷◌, ◌++◌, refl, sym, ap, ◌∙◌, length, drop, map, reverse, arith, append_assoc, length-append}
use Rattle.std.proofs.lemmas.List.{append-nil, drop-map, length-map}
use Rattle.std.proofs.lemmas.List.{length-reverse}
use Rattle.std.proofs.lemmas.Grind.{reverse_onto}
use Rattle.std.specs.Prelude.{◌&&◌}
use Rattle.bim_verify.specs.Kinds.{same_all}

-- the other list ends before this one does
ends_first : {A B : Type 0} (same : A → B → Bool) (xs : List A) (k : ℕ) → k < length xs → same_all same (drop k xs) [] ≡ false
ends_first same [] k l = absurd (omega (arith, l))
ends_first same (x ∷ xs) zero l = refl
ends_first same (x ∷ xs) (suc k) l = ends_first same xs k (omega (arith, l))

pub rest_missing : {A B : Type 0} (same : A → B → Bool) (xs : List A) (ys : List B) (k : ℕ) → k < length xs → length ys ≡ 0 → same_all same (drop k xs) ys ≡ false
rest_missing same xs [] k l e = ends_first same xs k l
rest_missing same xs (y ∷ ys) k l e = absurd (omega (arith, e))

pub rest_missing_of : {A B C : Type 0} (same : A → B → Bool) (f : C → A) (xs : List C) (ys : List B) (k : ℕ) → k < length xs → length ys ≡ 0 → same_all same (map f (drop k xs)) ys ≡ false
rest_missing_of same f xs ys k l e =
    sym (ap (λ (front : List _). same_all same front ys) (drop-map f k xs))
    ∙ rest_missing same (map f xs) ys k (let long = length-map xs f in omega (arith, l, long)) e

-- lists of different lengths are not the same
apart : {A B : Type 0} (same : A → B → Bool) (us : List A) (vs : List B) → (length us ≡ length vs → ⊥) → same_all same us vs ≡ false
apart same [] [] differ = absurd (differ refl)
apart same [] (b ∷ vs) differ = refl
apart same (a ∷ us) [] differ = refl
apart same (a ∷ us) (b ∷ vs) differ = by (same a b) (apart same us vs (λ e. differ (omega (arith, e))))
  where
    by : (t : Bool) → same_all same us vs ≡ false → (t && same_all same us vs) ≡ false
    by true e = e
    by false e = refl

turned : (s t u : Bool) → (s && (t && u)) ≡ ((t && s) && u)
turned true true u = refl
turned true false u = refl
turned false true u = refl
turned false false u = refl

with_false : (t : Bool) → false ≡ (t && false)
with_false true = refl
with_false false = refl

-- behind what stands before
onto : {A B : Type 0} (same : A → B → Bool) (xs us : List A) (ys vs : List B) → length us ≡ length vs
    → same_all same (reverse xs ++ us) (reverse ys ++ vs) ≡ (same_all same xs ys && same_all same us vs)
onto same [] us [] vs e = refl
onto same [] us (y ∷ ys) vs e = apart same us (reverse (y ∷ ys) ++ vs) (λ f. longer f)
  where
    longer : length us ≡ length (reverse (y ∷ ys) ++ vs) → ⊥
    longer f = let g = length-append (reverse (y ∷ ys)) vs in let h = length-reverse (y ∷ ys) in omega (arith, e, f, g, h)
onto same (x ∷ xs) us [] vs e = apart same (reverse (x ∷ xs) ++ us) vs (λ f. longer f)
  where
    longer : length (reverse (x ∷ xs) ++ us) ≡ length vs → ⊥
    longer f = let g = length-append (reverse (x ∷ xs)) us in let h = length-reverse (x ∷ xs) in omega (arith, e, f, g, h)
onto same (x ∷ xs) us (y ∷ ys) vs e =
    let one : reverse (x ∷ xs) ++ us ≡ reverse xs ++ x ∷ us = ap (λ l. l ++ us) (reverse_onto xs x []) ∙ append_assoc (reverse xs) (x ∷ []) us in
    let two : reverse (y ∷ ys) ++ vs ≡ reverse ys ++ y ∷ vs = ap (λ l. l ++ vs) (reverse_onto ys y []) ∙ append_assoc (reverse ys) (y ∷ []) vs in
    rw (one, two) (onto same xs (x ∷ us) ys (y ∷ vs) (omega (arith, e)) ∙ turned (same_all same xs ys) (same x y) (same_all same us vs))

and_true : (t : Bool) → (t && true) ≡ t
and_true true = refl
and_true false = refl

pub same_reversed : {A B : Type 0} (same : A → B → Bool) (xs : List A) (ys : List B)
    → same_all same (reverse xs) (reverse ys) ≡ same_all same xs ys
same_reversed same xs ys =
    sym (ap (λ l. same_all same l (reverse ys)) (append-nil (reverse xs))) ∙ sym (ap (λ l. same_all same (reverse xs ++ []) l) (append-nil (reverse ys)))
    ∙ onto same xs [] ys [] refl ∙ and_true (same_all same xs ys)
