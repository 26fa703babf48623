-- Cases of tests and of what may be none.

use Rattle.std.proofs.Common.{◌≡◌, Bool, true, false, Option, Some, None, refl, sym, ◌∙◌}

pub on_bool : {P : Type 0} (b : Bool) → (b ≡ true → P) → (b ≡ false → P) → P
on_bool true yes' no' = yes' refl
on_bool false yes' no' = no' refl

-- what is none is not some
pub none_some : {A P : Type 0} (q : Option A) (a : A) → q ≡ None → q ≡ Some a → P
none_some None a n e = cc
none_some (Some b) a n e = cc

pub some_same : {A : Type 0} (q : Option A) (a b : A) → q ≡ Some a → q ≡ Some b → a ≡ b
some_same q a b h e = let p : Some a ≡ Some b = sym h ∙ e in cc
