-- What holds of every legal journal, entry by entry; what a call that fits says of its lane.

use Rattle.std.proofs.Common.{◌≡◌, ◌<◌, ℕ, Bool, true, false, not, ◌&&◌, ◌||◌, List, [], ◌∷◌, ◌++◌, Option, Some, None, refl, sym, ap, ◌∙◌, subst, append_assoc, append-nil, nat_eq, cond, arith, true≢false}
use Rattle.std.proofs.lemmas.Bool.{eqb-true, ltb-true, eq-eqb, ne_eqb}
use Rattle.std.proofs.lemmas.List.Elements.{filter-append}
use Rattle.std.proofs.lemmas.Option.{none-some}
use Rattle.std.specs.Prelude.{◌≢◌}
use Rattle.job_calls.specs.declared.call.Call.{Call}
use Rattle.job_calls.specs.declared.entry.Entry.{Entry}
use Rattle.job_calls.specs.Entries.{is_run, is_finish, own_entries}
use Rattle.job_calls.specs.Runs.{Opening, opening}
use Rattle.job_calls.specs.Fitting.{held_run, is_for_lane, may_call, exchange_of, run_fits, call_fits, below_lanes}
use Rattle.job_calls.specs.Legal.{IsLegal, IsOpening, OpensSo, Follows, FollowOn}
use Rattle.job_laws.specs.Growth.{Grows}
use Rattle.hub_index.specs.Journals.{MayMake}

grow_from : Grows → (P : List Entry → Type 0) → ((log : List Entry) (e : Entry) → IsLegal log → Follows log e → P log → P (log ++ e ∷ []))
    → (before es : List Entry) → IsLegal before → P before → FollowOn before es → P (before ++ es)
grow_from grows P step before [] h p f = subst P (sym (append-nil before)) p
grow_from grows P step before (e ∷ es) h p f =
    subst P (append_assoc before (e ∷ []) es)
    (grow_from grows P step (before ++ e ∷ []) es (grows before e h f.0) (step before e h f.0 p) f.1)

-- what holds of an opening, and of each legal journal with one more entry, holds of every legal journal
pub legal_grow : Grows → (P : List Entry → Type 0) → ((e : Entry) → IsOpening e → P (e ∷ []))
    → ((log : List Entry) (e : Entry) → IsLegal log → Follows log e → P log → P (log ++ e ∷ []))
    → (journal : List Entry) → IsLegal journal → P journal
legal_grow grows P first step [] h = absurd h
legal_grow grows P first step (e ∷ es) h = grow_from grows P step (e ∷ []) es (h.0, tt) (first e h.0) h.1

pub and_true : (a b : Bool) → (a && b) ≡ true → (a ≡ true) × (b ≡ true)
and_true true b e = (refl, e)
and_true false b e = absurd (true≢false (sym e))

pub is_run-some : (k : ℕ) (o : Option ℕ) → is_run k o ≡ true → o ≡ Some k
is_run-some k None e = absurd (true≢false (sym e))
is_run-some k (Some run) e = ap Some (eqb-true run k e)

held_by : (own : List Entry) (run : Option ℕ) (call : Call) (k : ℕ) → run ≡ Some k → call_fits own run call ≡ true → held_run own ≡ Some k
held_by own None call k by fit = absurd (none-some k by)
held_by own (Some r) call k by fit =
    let ours = and_true (not (is_for_lane call)) (run_fits own r call) fit in
    let held = and_true (is_run r (held_run own)) (is_finish call || may_call (exchange_of r own) call) ours.1 in
    is_run-some r (held_run own) held.0 ∙ by

-- a call of a run comes from the lane that holds it
pub held_of : (log : List Entry) (e : Entry) (k : ℕ) → Follows log e → e.run ≡ Some k → held_run (own_entries e.lane log) ≡ Some k
held_of log e k f by =
    held_by (own_entries e.lane log) e.run e.call k by
    (and_true (below_lanes e.lane (opening log)) (call_fits (own_entries e.lane log) e.run e.call) f.fit).1

pub held_if : (log : List Entry) (lane k : ℕ) (call : Call) → MayMake log lane (Some k) call → held_run (own_entries lane log) ≡ Some k
held_if log lane k call may =
    held_by (own_entries lane log) (Some k) call k refl
    (and_true (below_lanes lane (opening log)) (call_fits (own_entries lane log) (Some k) call) may).1

few_of : (o : Option Opening) (lane : ℕ) → OpensSo o → below_lanes lane o ≡ true → lane < 64
few_of None lane h below = absurd h
few_of (Some o) lane h below = let less = ltb-true lane o.lanes below in let few = h.few_lanes in omega (arith, less, few)

-- there are at most 64 lanes
pub few_lanes : (log : List Entry) (e : Entry) → IsLegal log → Follows log e → e.lane < 64
few_lanes [] e h f = absurd h
few_lanes (x ∷ xs) e h f =
    few_of (opening (x ∷ xs)) e.lane h.0.opened
    (and_true (below_lanes e.lane (opening (x ∷ xs))) (call_fits (own_entries e.lane (x ∷ xs)) e.run e.call) f.fit).0

-- a lane's own entries, with one entry more
pub own-snoc-same : (es : List Entry) (e : Entry) (lane : ℕ) → e.lane ≡ lane → own_entries lane (es ++ e ∷ []) ≡ own_entries lane es ++ e ∷ []
own-snoc-same es e lane same =
    filter-append (λ (x : Entry). nat_eq x.lane lane) es (e ∷ [])
    ∙ ap (λ b. own_entries lane es ++ cond b (e ∷ []) []) (eq-eqb e.lane lane same)

pub own-snoc-other : (es : List Entry) (e : Entry) (lane : ℕ) → e.lane ≢ lane → own_entries lane (es ++ e ∷ []) ≡ own_entries lane es
own-snoc-other es e lane apart =
    filter-append (λ (x : Entry). nat_eq x.lane lane) es (e ∷ [])
    ∙ ap (λ b. own_entries lane es ++ cond b (e ∷ []) []) (ne_eqb e.lane lane apart)
    ∙ append-nil (own_entries lane es)
