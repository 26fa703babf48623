-- The runs that lanes were given: in a legal journal those below a number.

use Rattle.std.proofs.Common.{◌≡◌, ◌<◌, ◌≤◌, ℕ, suc, zero, ◌+◌, Bool, true, false, List, Some, None, refl, sym, ap, ◌∙◌, arith}
use Rattle.std.specs.Prelude.{nat_lt, if◌then◌else◌}
use Rattle.std.proofs.lemmas.Bool.{ltb-true, ltb-false}
use Rattle.job_calls.specs.declared.entry.Entry.{Entry}
use Rattle.job_calls.specs.Entries.{is_claimed, run_count, first_unclaimed, unclaimed_run}
use Rattle.model_table.specs.declared.table.ModelTable.{ModelTable}
use Rattle.model_table.specs.Index.{IsIndexOf, GivesInOrder}

-- the runs that were given are those below the table's number
pub claimed_is : (t : ModelTable) (journal : List Entry) → IsIndexOf t journal → GivesInOrder journal → (k : ℕ) → nat_lt k t.claimed ≡ is_claimed k journal
claimed_is t journal is in_order k = ap (nat_lt k) is.claimed ∙ sym (in_order k)

module _ (journal : List Entry) (g : ℕ) (all : (k : ℕ) → nat_lt k g ≡ is_claimed k journal) where
  some_by : (from many : ℕ) (b : Bool) → is_claimed from journal ≡ b → from ≤ g
      → (from + 1 ≤ g → first_unclaimed journal (from + 1) many ≡ Some g) → (if b then first_unclaimed journal (from + 1) many else Some from) ≡ Some g
  some_by from many true e le go = let less = ltb-true from g (all from ∙ e) in go (omega (arith, less))
  some_by from many false e le go =
      let more = ltb-false from g (all from ∙ e) in let same : from ≡ g = omega (arith, more, le) in ap Some same

  first_some : (from many : ℕ) → from ≤ g → g < from + many → first_unclaimed journal from many ≡ Some g
  first_some from zero le less = absurd (omega (arith, le, less))
  first_some from (suc many) le less =
      some_by from many (is_claimed from journal) refl le (λ more. first_some (from + 1) many more (omega (arith, less)))

  none_by : (from many : ℕ) (b : Bool) → is_claimed from journal ≡ b → from < g
      → first_unclaimed journal (from + 1) many ≡ None → (if b then first_unclaimed journal (from + 1) many else Some from) ≡ None
  none_by from many true e less go = go
  none_by from many false e less go = let more = ltb-false from g (all from ∙ e) in absurd (omega (arith, more, less))

  first_none : (from many : ℕ) → from + many ≤ g → first_unclaimed journal from many ≡ None
  first_none from zero past = refl
  first_none from (suc many) past =
      none_by from many (is_claimed from journal) refl (omega (arith, past)) (first_none (from + 1) many (omega (arith, past)))

-- the least run that no lane was given
pub unclaimed_some : (t : ModelTable) (journal : List Entry) → IsIndexOf t journal → GivesInOrder journal → t.claimed ≤ t.started → Some t.claimed ≡ unclaimed_run journal
unclaimed_some t journal is in_order le =
    let started = is.started in
    sym (first_some journal t.claimed (claimed_is t journal is in_order) 0 (run_count journal) (omega arith) (omega (arith, le, started)))

pub unclaimed_none : (t : ModelTable) (journal : List Entry) → IsIndexOf t journal → GivesInOrder journal → t.started < t.claimed → None ≡ unclaimed_run journal
unclaimed_none t journal is in_order less =
    let started = is.started in
    sym (first_none journal t.claimed (claimed_is t journal is in_order) 0 (run_count journal) (omega (arith, less, started)))
