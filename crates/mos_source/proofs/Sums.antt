-- Sums over lists that grow at the front, at the back or by one another.

use Rattle.std.proofs.Common.{◌≡◌, ℕ, ◌+◌, List, [], ◌∷◌, ◌++◌, map, arith}
use Rattle.std.specs.Prelude.{sum}
use Rattle.std.proofs.lemmas.List.Sums.{sum-map, sum_by-cons, sum_by-append, sum_by_push}

pub sum-cons : {X : Type 0} (f : X → ℕ) (x : X) (xs : List X) → sum (map f (x ∷ xs)) ≡ f x + sum (map f xs)
sum-cons f x xs = omega (arith, sum-map f (x ∷ xs), sum_by-cons f x xs, sum-map f xs)

pub sum-append : {X : Type 0} (f : X → ℕ) (xs ys : List X) → sum (map f (xs ++ ys)) ≡ sum (map f xs) + sum (map f ys)
sum-append f xs ys = omega (arith, sum-map f (xs ++ ys), sum_by-append f xs ys, sum-map f xs, sum-map f ys)

pub sum-push : {X : Type 0} (f : X → ℕ) (xs : List X) (x : X) → sum (map f (xs ++ x ∷ [])) ≡ sum (map f xs) + f x
sum-push f xs x = omega (arith, sum-map f (xs ++ x ∷ []), sum_by_push f xs x, sum-map f xs)
