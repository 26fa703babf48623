-- Lists that end alike.

use Rattle.std.proofs.Common.{◌≡◌, List, [], ◌∷◌, ◌++◌, refl, sym, ◌∙◌, ap, append_assoc}
use Rattle.std.proofs.lemmas.List.{append_cancel_right}

pub record SameEnd {A : Type 0} (xs ys : List A) (a b : A) : Type 0 where
  pub fronts : xs ≡ ys
  pub lasts : a ≡ b

longer : {A P : Type 0} (a b y : A) (ys : List A) → a ∷ [] ≡ y ∷ (ys ++ b ∷ []) → P
longer a b y [] e = cc
longer a b y (z ∷ zs) e = cc

pub one_end : {A : Type 0} (xs ys : List A) (a b : A) → xs ++ a ∷ [] ≡ ys ++ b ∷ [] → SameEnd xs ys a b
one_end [] [] a b e = record { fronts = refl; lasts = cc }
one_end [] (y ∷ ys) a b e = longer a b y ys e
one_end (x ∷ xs) [] a b e = longer b a x xs (sym e)
one_end (x ∷ xs) (y ∷ ys) a b e =
    let tails : xs ++ a ∷ [] ≡ ys ++ b ∷ [] = cc in
    let heads : x ≡ y = cc in
    let k : SameEnd xs ys a b = one_end xs ys a b tails in
    record { fronts = ap (λ z. z ∷ xs) heads ∙ ap (λ z. y ∷ z) k.fronts; lasts = k.lasts }

-- the last words are apart, what stands before them is the same
pub behind_same : {A : Type 0} (xs ys more : List A) (a b : A) → xs ++ (more ++ a ∷ []) ≡ ys ++ (more ++ b ∷ []) → SameEnd xs ys a b
behind_same xs ys more a b e =
    let k : SameEnd (xs ++ more) (ys ++ more) a b = one_end (xs ++ more) (ys ++ more) a b (append_assoc xs more (a ∷ []) ∙ e ∙ sym (append_assoc ys more (b ∷ []))) in
    record { fronts = append_cancel_right xs ys more k.fronts; lasts = k.lasts }
