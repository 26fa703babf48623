-- A name that was made known, and a place that was put.

use Rattle.std.proofs.Common.{◌≡◌, ℕ, Bool, true, false, cond, List, Option, Some, None, refl, sym, ap, ◌∙◌, true≢false, is_some}
use Rattle.std.specs.Prelude.{if◌then◌else◌}
use Rattle.std.specs.Option.{option_flatten}

-- a name that was found is not missing
pub clash : (found : Bool) (find : List ℕ → Bool) (said name : List ℕ) → found ≡ false → found ≡ find said → said ≡ name → find name ≡ true → ⊥
clash found find said name missed is same known = true≢false (sym known ∙ ap find (sym same) ∙ sym is ∙ missed)

-- a name that was missing, and has nothing under it now
pub nothing_more : (b : Bool) (o : Option (Option ℕ)) → (b ≡ true → is_some o ≡ false) → option_flatten (cond b (Some None) o) ≡ option_flatten o
nothing_more true None none = refl
nothing_more true (Some x) none = absurd (true≢false (none refl))
nothing_more false o none = refl

-- what is under a name, once a place was put under one
pub place_put : (b : Bool) (n : ℕ) (o : Option (Option ℕ)) → option_flatten (cond b (Some (Some n)) o) ≡ (if b then Some n else option_flatten o)
place_put true n o = refl
place_put false n o = refl
