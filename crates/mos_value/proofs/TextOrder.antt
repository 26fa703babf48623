-- The order of texts is total.

use Rattle.std.proofs.Common.{◌≡◌, ◌⊎◌, inl, inr, true, refl, ap, ◌∙◌}
use Rattle.std.specs.declared.cmp.Ordering.{Ordering}
use Rattle.std.specs.declared.cmp.Ordering.TheVariants.{Less, Equal, Greater}
use Rattle.std.specs.Ordering.{ordering_reverse, is_lt}
use Rattle.std.proofs.lemmas.Cmp.{nat_list_cmp_total, tied_itself}
use Rattle.std.proofs.lemmas.Map.Lookups.{exact_bytes}
use Rattle.mos_value.specs.Comparisons.{text_order, text_below}
use Rattle.mos_value.specs.ScalarLaws.{NoTextIsBelowItself, TextsHaveAnOrder, BelowIsTransitive}

pub irreflexive : NoTextIsBelowItself
irreflexive a = ap is_lt (tied_itself nat_list_cmp_total a)

pub total : TextsHaveAnOrder
total a b = by_order (text_order a b) refl
  where
    by_order : (order : Ordering) → text_order a b ≡ order → (text_below a b ≡ true) ⊎ (a ≡ b) ⊎ (text_below b a ≡ true)
    by_order Less e = inl (ap is_lt e)
    by_order Equal e = inr (inl (exact_bytes a b e))
    by_order Greater e = inr (inr (ap is_lt (nat_list_cmp_total.antisymm b a ∙ ap ordering_reverse e)))

-- what is less is that answer
less-is : (order : Ordering) → is_lt order ≡ true → order ≡ Less
less-is Less e = refl
less-is Equal e = cc
less-is Greater e = cc

pub transitive : BelowIsTransitive
transitive a b c e f = ap is_lt (nat_list_cmp_total.trans a b c (less-is (text_order a b) e) (less-is (text_order b c) f))
