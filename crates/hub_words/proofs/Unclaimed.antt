-- The search for the least run that no lane was given, a step at a time.
use Rattle.std.proofs.Common.{◌≡◌, ◌<◌, ℕ, ◌+◌, ◌-◌, suc, true, false, List, Some, None, sym, ap, ◌∙◌, arith, cond}
use Rattle.job_calls.specs.declared.entry.Entry.{Entry}
use Rattle.job_calls.specs.Entries.{is_claimed, first_unclaimed}

pub one_more : (k many : ℕ) → k < many → many - k ≡ suc (many - (k + 1))
one_more k many less = omega arith

-- a run that was given is passed over
pub passed : (journal : List Entry) (k many : ℕ) → k < many → is_claimed k journal ≡ true
    → first_unclaimed journal (k + 1) (many - (k + 1)) ≡ first_unclaimed journal k (many - k)
passed journal k many less is =
    sym (ap (first_unclaimed journal k) (one_more k many less) ∙ ap (λ b. cond b (first_unclaimed journal (k + 1) (many - (k + 1))) (Some k)) is)

-- one that was not given is the least
pub found : (journal : List Entry) (k many : ℕ) → k < many → is_claimed k journal ≡ false → first_unclaimed journal k (many - k) ≡ Some k
found journal k many less is =
    ap (first_unclaimed journal k) (one_more k many less) ∙ ap (λ b. cond b (first_unclaimed journal (k + 1) (many - (k + 1))) (Some k)) is

-- behind the last run there is none
pub none_left : (journal : List Entry) (k many : ℕ) → many - k ≡ 0 → first_unclaimed journal k (many - k) ≡ None
none_left journal k many e = ap (first_unclaimed journal k) e
