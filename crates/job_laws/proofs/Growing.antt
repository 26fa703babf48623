-- How the moments of a journal grow by one entry, and what a legal journal's entries follow.

use Rattle.std.proofs.Common.{◌≡◌, ◌<◌, ℕ, suc, List, [], ◌∷◌, ◌++◌, refl, sym, ap, ◌∙◌, subst, append_assoc, append-nil, length, get_or, take}
use Rattle.std.proofs.Math.Seq.{take-suc}
use Rattle.job_calls.specs.declared.entry.Entry.{Entry}
use Rattle.job_calls.specs.Moments.{moments_from, moments}
use Rattle.job_calls.specs.Legal.{IsLegal, IsOpening, Follows, FollowOn}

pub moments_from-append : (before xs ys : List Entry)
    → moments_from before (xs ++ ys) ≡ moments_from before xs ++ moments_from (before ++ xs) ys
moments_from-append before [] ys = ap (λ b. moments_from b ys) (sym (append-nil before))
moments_from-append before (x ∷ xs) ys =
    ap (λ rest. record { before = before; entry = x } ∷ rest)
    (moments_from-append (before ++ x ∷ []) xs ys
    ∙ ap (λ b. moments_from (before ++ x ∷ []) xs ++ moments_from b ys) (append_assoc before (x ∷ []) xs))

-- one entry more is one moment more
pub moments-snoc : (xs : List Entry) (e : Entry) → moments (xs ++ e ∷ []) ≡ moments xs ++ record { before = xs; entry = e } ∷ []
moments-snoc xs e = moments_from-append [] xs (e ∷ [])

-- the entry at a place is a moment, between those before it and those behind
pub moments-cut : (xs : List Entry) (e : Entry) (ys : List Entry)
    → moments (xs ++ e ∷ ys) ≡ moments xs ++ record { before = xs; entry = e } ∷ moments_from (xs ++ e ∷ []) ys
moments-cut xs e ys = moments_from-append [] xs (e ∷ ys)

pub moments-take : (xs : List Entry) (i : ℕ) (d : Entry) → i < length xs
    → moments (take (suc i) xs) ≡ moments (take i xs) ++ record { before = take i xs; entry = get_or xs i d } ∷ []
moments-take xs i d less = ap moments (take-suc xs i d less) ∙ moments-snoc (take i xs) (get_or xs i d)

legal_from : (P : List Entry → Type 0) → ((log : List Entry) (e : Entry) → P log → Follows log e → P (log ++ e ∷ []))
    → (before es : List Entry) → P before → FollowOn before es → P (before ++ es)
legal_from P step before [] p h = subst P (sym (append-nil before)) p
legal_from P step before (e ∷ es) p h =
    subst P (append_assoc before (e ∷ []) es) (legal_from P step (before ++ e ∷ []) es (step before e p h.0) h.1)

-- what holds of an opening, and of each journal with one more entry that follows, holds of every legal journal
pub legal_induct : (P : List Entry → Type 0) → ((e : Entry) → IsOpening e → P (e ∷ []))
    → ((log : List Entry) (e : Entry) → P log → Follows log e → P (log ++ e ∷ []))
    → (journal : List Entry) → IsLegal journal → P journal
legal_induct P first step [] h = absurd h
legal_induct P first step (e ∷ es) h = legal_from P step (e ∷ []) es (first e h.0) h.1

-- an entry that follows makes a legal journal longer
legal_on : (before es : List Entry) (e : Entry) → FollowOn before es → Follows (before ++ es) e → FollowOn before (es ++ e ∷ [])
legal_on before [] e h f = (subst (λ b. Follows b e) (append-nil before) f, tt)
legal_on before (x ∷ xs) e h f =
    (h.0, legal_on (before ++ x ∷ []) xs e h.1 (subst (λ b. Follows b e) (sym (append_assoc before (x ∷ []) xs)) f))

pub legal_more : (journal : List Entry) (e : Entry) → IsLegal journal → Follows journal e → IsLegal (journal ++ e ∷ [])
legal_more [] e h f = absurd h
legal_more (x ∷ xs) e h f = (h.0, legal_on (x ∷ []) xs e h.1 f)

-- each entry follows those before it, and these alone follow on too
pub on_cut : (log before after : List Entry) (e : Entry) → FollowOn log (before ++ e ∷ after) → FollowOn log before × Follows (log ++ before) e
on_cut log [] after e h = (tt, subst (λ b. Follows b e) (sym (append-nil log)) h.0)
on_cut log (x ∷ xs) after e h =
    let r = on_cut (log ++ x ∷ []) xs after e h.1 in
    ((h.0, r.0), subst (λ b. Follows b e) (append_assoc log (x ∷ []) xs) r.1)

-- a legal journal that is cut: the entry opens it, or follows the legal journal before it
pub data IsCut (before : List Entry) (e : Entry) : Type 0 where
  opens : before ≡ [] → IsOpening e → IsCut before e
  follows : IsLegal before → Follows before e → IsCut before e

pub legal_cut : (before after : List Entry) (e : Entry) → IsLegal (before ++ e ∷ after) → IsCut before e
legal_cut [] after e h = opens refl h.0
legal_cut (x ∷ xs) after e h =
    let r = on_cut (x ∷ []) xs after e h.1 in
    follows (h.0, r.0) r.1

-- what holds of an opening, and of each legal journal with one more entry, holds of every legal journal
pub legal_grow : (P : List Entry → Type 0) → ((e : Entry) → IsOpening e → P (e ∷ []))
    → ((log : List Entry) (e : Entry) → IsLegal log → P log → Follows log e → P (log ++ e ∷ []))
    → (journal : List Entry) → IsLegal journal → P journal
legal_grow P first step journal h =
    (legal_induct (λ log. IsLegal log × P log)
    (λ e o. ((o, tt), first e o))
    (λ log e p f. (legal_more log e p.0 f, step log e p.0 p.1 f)) journal h).1

-- entries that follow on, cut in two: the first ones follow on alone, and the others behind them
on_split : (log xs ys : List Entry) → FollowOn log (xs ++ ys) → FollowOn log xs × FollowOn (log ++ xs) ys
on_split log [] ys h = (tt, subst (λ b. FollowOn b ys) (sym (append-nil log)) h)
on_split log (x ∷ xs) ys h =
    let r = on_split (log ++ x ∷ []) xs ys h.1 in
    ((h.0, r.0), subst (λ b. FollowOn b ys) (append_assoc log (x ∷ []) xs) r.1)

pub legal_split : (xs : List Entry) (y : Entry) (ys zs : List Entry) → IsLegal ((xs ++ y ∷ ys) ++ zs)
    → IsLegal (xs ++ y ∷ ys) × FollowOn (xs ++ y ∷ ys) zs
legal_split [] y ys zs h = let r = on_split (y ∷ []) ys zs h.1 in ((h.0, r.0), r.1)
legal_split (x ∷ xs) y ys zs h = let r = on_split (x ∷ []) (xs ++ y ∷ ys) zs h.1 in ((h.0, r.0), r.1)
