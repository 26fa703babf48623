-- two lists have the same items exactly where they are equal

use Rattle.std.proofs.Common.{◌≡◌, Bool, true, false, List, [], ◌∷◌, refl, sym, ap, ◌∙◌}
use Rattle.std.specs.Prelude.{◌&&◌, ◌↔◌, IsTrue}
use Rattle.mos_text.specs.declared.scalar.Scalar.{Scalar}
use Rattle.mos_value.specs.Same.{is_same}
use Rattle.mos_value.specs.Laws.{SameIsEqual}
use Rattle.vm_lib.specs.Operations.{same_items}

-- a list has its own items
itself : SameIsEqual → (xs : List Scalar) → same_items xs xs ≡ true
itself law [] = refl
itself law (x ∷ xs) = ap (λ b. b && same_items xs xs) ((law x x).1 refl) ∙ itself law xs

-- lists that have the same items are one
one : SameIsEqual → (xs ys : List Scalar) → same_items xs ys ≡ true → xs ≡ ys
one law [] [] same = refl
one law (x ∷ xs) (y ∷ ys) same = by (is_same x y) refl same (one law xs ys)
  where
    by : (b : Bool) → is_same x y ≡ b → (b && same_items xs ys) ≡ true → (same_items xs ys ≡ true → xs ≡ ys) → x ∷ xs ≡ y ∷ ys
    by true e rest tail = ap (λ z. z ∷ xs) ((law x y).0 e) ∙ ap (λ zs. y ∷ zs) (tail rest)
    by false e rest tail = cc
one law [] (y ∷ ys) same = cc
one law (x ∷ xs) [] same = cc

-- so a test of equality is the test of items
pub tests_items : SameIsEqual → (b : Bool) (xs ys : List Scalar) → IsTrue b ↔ (xs ≡ ys) → b ≡ same_items xs ys
tests_items law true xs ys is = sym (ap (same_items xs) (sym (is.0 refl)) ∙ itself law xs)
tests_items law false xs ys is = by (same_items xs ys) refl
  where
    by : (b : Bool) → same_items xs ys ≡ b → false ≡ b
    by true e = is.1 (one law xs ys e)
    by false e = refl
