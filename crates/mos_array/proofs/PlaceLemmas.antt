-- places of index lists among others
use Rattle.std.proofs.Common.{◌≡◌, ◌<◌, ◌≤◌, ◌&&◌, ℕ, Bool, true, false, List, [], ◌∷◌, ◌++◌, Option, Some, None, position, get_or, length, refl, ap, sym, ◌∙◌, ⊎_elim, arith, length-append}
use Rattle.std.specs.List.{position_or_len}
use Rattle.std.proofs.lemmas.Grind.{common_steps}
use Rattle.std.proofs.lemmas.Bool.{cases_lt}
use Rattle.std.proofs.lemmas.List.{get_or_append_left}
use Rattle.std.proofs.Math.Seq.{get_or-append_seam}
use Rattle.std.proofs.lemmas.List.Sums.{position_or_len_is, fails_before_first}
use Rattle.std.proofs.lemmas.List.Quantifiers.{position-Some}
use Rattle.mos_text.specs.declared.scalar.Scalar.{Scalar}
use Rattle.mos_value.specs.Same.{is_same}
use Rattle.mos_value.specs.Laws.{SameIsEqual}
use Rattle.mos_array.specs.Contents.{same_indexes}

-- an index list is one with itself
pub same-itself : SameIsEqual → (at : List Scalar) → same_indexes at at ≡ true
same-itself law [] = refl
same-itself law (x ∷ xs) = ap (λ b. b && same_indexes xs xs) ((law x x).1 refl) ∙ same-itself law xs

-- and with no other
pub same-is : SameIsEqual → (at other : List Scalar) → same_indexes at other ≡ true → at ≡ other
same-is law [] [] e = refl
same-is law [] (y ∷ ys) e = cc
same-is law (x ∷ xs) [] e = cc
same-is law (x ∷ xs) (y ∷ ys) e = by (is_same x y) refl e (same-is law xs ys)
  where
    by : (b : Bool) → is_same x y ≡ b → (b && same_indexes xs ys) ≡ true → (same_indexes xs ys ≡ true → xs ≡ ys) → x ∷ xs ≡ y ∷ ys
    by true here rest behind = ap (λ z. z ∷ xs) ((law x y).0 here) ∙ ap (λ zs. y ∷ zs) (behind rest)
    by false here rest behind = cc

module _ {X : Type 0} where
  -- the first that passes
  pub position-here : (p : X → Bool) (xs : List X) (n : ℕ) (d : X) → n < length xs → p (get_or xs n d) ≡ true
      → ((k : ℕ) → k < n → p (get_or xs k d) ≡ false) → position p xs ≡ Some n
  position-here p xs n d within here before =
      let at = position_or_len_is p xs n d (omega arith) before (λ _. here) in grind (arith, common_steps)

  -- there is none where none passes
  pub position-nowhere : (p : X → Bool) (xs : List X) (d : X) → ((k : ℕ) → k < length xs → p (get_or xs k d) ≡ false) → position p xs ≡ None
  position-nowhere p xs d none =
      let at = position_or_len_is p xs (length xs) d (omega arith) none (λ w. absurd (omega arith)) in grind (arith, common_steps)

  -- and none passes where there is none
  pub position-None : (p : X → Bool) (xs : List X) (d : X) → position p xs ≡ None → (k : ℕ) → k < length xs → p (get_or xs k d) ≡ false
  position-None p xs d none k within =
      let end : length xs ≤ position_or_len p xs = grind (arith, common_steps) in fails_before_first p xs k d (omega arith)

  -- one more behind them
  pub position-behind : (p : X → Bool) (xs : List X) (y : X) → position p xs ≡ None → p y ≡ true → position p (xs ++ y ∷ []) ≡ Some (length xs)
  position-behind p xs y none passes =
      position-here p (xs ++ y ∷ []) (length xs) y
      (omega (arith, length-append xs (y ∷ [])))
      (ap p (get_or-append_seam xs y [] y) ∙ passes)
      (λ k lt. ap p (get_or_append_left xs (y ∷ []) y k lt) ∙ position-None p xs y none k lt)

  -- one more behind them that does not pass
  pub position-same : (p : X → Bool) (xs : List X) (y : X) → p y ≡ false → position p (xs ++ y ∷ []) ≡ position p xs
  position-same p xs y fails = by (position p xs) refl
    where
      by : (found : Option ℕ) → position p xs ≡ found → position p (xs ++ y ∷ []) ≡ position p xs
      by (Some n) e =
          let here = position-Some p xs n y e in
          position-here p (xs ++ y ∷ []) n y
          (omega (arith, here.0, length-append xs (y ∷ [])))
          (ap p (get_or_append_left xs (y ∷ []) y n here.0) ∙ here.1)
          (λ k lt. ap p (get_or_append_left xs (y ∷ []) y k (omega (arith, lt, here.0))) ∙ here.2 k lt)
          ∙ sym e
      by None e =
          position-nowhere p (xs ++ y ∷ []) y
          (λ k within. ⊎_elim
          (λ lt. ap p (get_or_append_left xs (y ∷ []) y k lt) ∙ position-None p xs y e k lt)
          (λ ge. let last : k ≡ length xs = omega (arith, within, ge, length-append xs (y ∷ [])) in
          ap (λ n. p (get_or (xs ++ y ∷ []) n y)) last ∙ (ap p (get_or-append_seam xs y [] y) ∙ fails))
          (cases_lt k (length xs)))
          ∙ sym e
