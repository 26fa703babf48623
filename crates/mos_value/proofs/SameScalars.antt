-- Scalars are the same exactly where the test says so.

use Rattle.std.proofs.Common.{◌≡◌, Bool, true, false, ◌&&◌, refl, ap, subst, ◌∙◌}
use Rattle.std.specs.Ordering.{int_eq}
use Rattle.std.specs.Bool.{Decides}
use Rattle.std.proofs.lemmas.Bool.Decides.{Decides-eqb, Decides-int_eq}
use Rattle.std.proofs.lemmas.Slice.Eq.{bytes_eq-Decides}
use Rattle.mos_text.specs.declared.scalar.Scalar.{Scalar}
use Rattle.mos_text.specs.declared.scalar.Scalar.TheVariants.{Int, Bool as Truth, Str, Model, Event}
use Rattle.mos_value.specs.Same.{is_same}

both_true : (a b : Bool) → a ≡ true → b ≡ true → (a && b) ≡ true
both_true true b e f = f
both_true false b e f = cc

both : (a b : Bool) → (a && b) ≡ true → (a ≡ true) × (b ≡ true)
both true b e = (refl, e)
both false b e = cc

-- each is the same as itself
pub same_itself : (a : Scalar) → is_same a a ≡ true
same_itself (Int a) = (Decides-int_eq a a).1 refl
same_itself (Truth true) = refl
same_itself (Truth false) = refl
same_itself (Str a) = (bytes_eq-Decides a a).1 refl
same_itself (Model a) = (Decides-eqb a a).1 refl
same_itself (Event a m) = both_true (int_eq a a) (int_eq m m) ((Decides-int_eq a a).1 refl) ((Decides-int_eq m m).1 refl)

pub same_is : (a b : Scalar) → is_same a b ≡ true → a ≡ b
same_is (Int a) (Int b) e = ap (λ n. Int n) ((Decides-int_eq a b).0 e)
same_is (Truth true) (Truth true) e = refl
same_is (Truth false) (Truth false) e = refl
same_is (Truth true) (Truth false) e = cc
same_is (Truth false) (Truth true) e = cc
same_is (Str a) (Str b) e = ap (λ t. Str t) ((bytes_eq-Decides a b).0 e)
same_is (Model a) (Model b) e = ap (λ n. Model n) ((Decides-eqb a b).0 e)
same_is (Event a m) (Event b n) e =
    let parts = both (int_eq a b) (int_eq m n) e in
    ap (λ class. Event class m) ((Decides-int_eq a b).0 parts.0) ∙ ap (λ value. Event b value) ((Decides-int_eq m n).0 parts.1)
same_is a b e = cc

-- the test decides it
pub is_same-Decides : (a b : Scalar) → Decides (is_same a b) (a ≡ b)
is_same-Decides a b = (same_is a b, λ e. subst (λ other. is_same a other ≡ true) e (same_itself a))
