-- A journal that is legal with one entry more: what it is without that entry.

use Rattle.std.proofs.Common.{◌≡◌, List, [], ◌∷◌, ◌++◌, refl, sym, subst, append-nil, append_assoc}
use Rattle.job_calls.specs.declared.entry.Entry.{Entry}
use Rattle.job_calls.specs.Legal.{IsLegal, IsOpening, Follows, FollowOn}

-- the entry is the first, or follows a legal journal
pub data IsNext (journal : List Entry) (e : Entry) : Type 0 where
  first_entry : journal ≡ [] → IsOpening e → IsNext journal e
  next_entry : IsLegal journal → Follows journal e → IsNext journal e

-- entries that follow on, without the last
before_last : (log xs : List Entry) (e : Entry) → FollowOn log (xs ++ e ∷ []) → FollowOn log xs
before_last log [] e h = tt
before_last log (x ∷ xs) e h = (h.0, before_last (log ++ x ∷ []) xs e h.1)

-- and the last follows those
last_follows : (log xs : List Entry) (e : Entry) → FollowOn log (xs ++ e ∷ []) → Follows (log ++ xs) e
last_follows log [] e h = subst (λ j. Follows j e) (sym (append-nil log)) h.0
last_follows log (x ∷ xs) e h = subst (λ j. Follows j e) (append_assoc log (x ∷ []) xs) (last_follows (log ++ x ∷ []) xs e h.1)

-- the last entry of a legal journal
pub is_next : (journal : List Entry) (e : Entry) → IsLegal (journal ++ e ∷ []) → IsNext journal e
is_next [] e h = first_entry refl h.0
is_next (x ∷ xs) e h = next_entry (h.0, before_last (x ∷ []) xs e h.1) (last_follows (x ∷ []) xs e h.1)
