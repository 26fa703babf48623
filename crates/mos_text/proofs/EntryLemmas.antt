-- The first entry of a name in a list of entries.

use Rattle.std.proofs.Common.{◌≡◌, ◌≢◌, ℕ, ◌+◌, ◌<◌, true, false, cond, List, ◌∷◌, Some, length, drop, get_or, ap, sym, ◌∙◌, add-one}
use Rattle.std.proofs.Math.Seq.{drop-cons}
use Rattle.std.proofs.lemmas.Bool.{false_from_ne_true}
use Rattle.std.proofs.lemmas.Map.Text.{is_eq-slice_cmp}
use Rattle.std.proofs.lemmas.Slice.Eq.{bytes_eq-Decides}
use Rattle.std.specs.Ordering.{eq_by_cmp, nat_cmp}
use Rattle.std.specs.Cmp.Lexicographic.{slice_cmp}
use Rattle.std.specs.FinMap.{find}

-- one name is found under itself
pub tie-same : (a b : List ℕ) → a ≡ b → eq_by_cmp (slice_cmp nat_cmp) a b ≡ true
tie-same a b same = is_eq-slice_cmp a b ∙ (bytes_eq-Decides a b).1 same

-- and under no other
pub tie-apart : (a b : List ℕ) → a ≢ b → eq_by_cmp (slice_cmp nat_cmp) a b ≡ false
tie-apart a b apart = is_eq-slice_cmp a b ∙ false_from_ne_true _ (λ is. apart ((bytes_eq-Decides a b).0 is))

module _ {V : Type 0} (name : List ℕ) (entries : List (List ℕ × V)) (at : ℕ) (entry : List ℕ × V) (within : at < length entries) (is : entry ≡ get_or entries at entry) where
  stands : drop at entries ≡ entry ∷ drop (at + 1) entries
  stands =
      let next : drop (at + 1) entries ≡ drop (Prim.Native.Nat.suc at) entries = ap (λ n. drop n entries) (add-one at) in
      drop-cons entries at entry within ∙ ap (λ (e : List ℕ × V). e ∷ drop (Prim.Native.Nat.suc at) entries) (sym is) ∙ ap (λ rest. entry ∷ rest) (sym next)

  -- the entry of the name is the first in what is left
  pub find-here : entry.0 ≡ name → find (slice_cmp nat_cmp) name (drop at entries) ≡ Some entry.1
  find-here same = ap (find (slice_cmp nat_cmp) name) stands ∙ ap (λ b. cond b (Some entry.1) (find (slice_cmp nat_cmp) name (drop (at + 1) entries))) (tie-same name entry.0 (sym same))

  -- an entry of another name does not count
  pub find-later : entry.0 ≢ name → find (slice_cmp nat_cmp) name (drop at entries) ≡ find (slice_cmp nat_cmp) name (drop (at + 1) entries)
  find-later apart = ap (find (slice_cmp nat_cmp) name) stands ∙ ap (λ b. cond b (Some entry.1) (find (slice_cmp nat_cmp) name (drop (at + 1) entries))) (tie-apart name entry.0 (λ same. apart (sym same)))
