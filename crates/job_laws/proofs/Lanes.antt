-- Lanes and their runs: each run is of the one lane that was given it, and ends before its lane does.

use Rattle.std.proofs.Common.{◌≡◌, ◌≢◌, ◌≤◌, ◌<◌, ℕ, Bool, true, false, not, ◌&&◌, ◌||◌, List, [], ◌∷◌, ◌++◌, Option, Some, None, refl, sym, ap, ◌∙◌, subst, inl, inr, ◌⊎◌, nat_eq, cond, length, arith, append_assoc, append-nil}
use Rattle.std.specs.Prelude.{count_by, filter, map, if◌then◌else◌}
use Rattle.std.specs.List.{list_any}
use Rattle.std.proofs.lemmas.Bool.{eq-eqb, eqb-true, le-ltb}
use Rattle.std.proofs.lemmas.Bool.Decides.{eqb_tells}
use Rattle.std.proofs.lemmas.List.Elements.{filter-append}
use Rattle.std.proofs.lemmas.List.Folds.{list_any-append}
use Rattle.job_calls.specs.declared.call.Call.{Call}
use Rattle.job_calls.specs.declared.call.Call.TheVariants.{Open, Claim, Finish}
use Rattle.job_calls.specs.declared.reply.Answer.TheVariants.{Ready}
use Rattle.job_calls.specs.declared.reply.Reply.{Reply}
use Rattle.job_calls.specs.declared.reply.Reply.TheVariants.{Opened, Halt}
use Rattle.job_calls.specs.declared.entry.Entry.{Entry}
use Rattle.job_calls.specs.Moments.{moments, moments_from}
use Rattle.job_calls.specs.Entries.{is_run, is_quit, is_finish, claims, own_entries, has_quit, run_count, is_claimed, is_finished}
use Rattle.job_calls.specs.Runs.{opening_of, last_given, last_of, finish}
use Rattle.job_calls.specs.Files.{lanes_of}
use Rattle.job_calls.specs.Models.{asks, is_asked}
use Rattle.job_calls.specs.Answers.{stop_rows, table_answer}
use Rattle.job_calls.specs.Fitting.{held_after, held_run}
use Rattle.job_calls.specs.Legal.{IsLegal, IsOpening, OpensSo, Follows}
use Rattle.job_laws.specs.Lanes.{IsOfLane}
use Rattle.job_laws.specs.Order.{StopsWhenAsked}
use Rattle.job_laws.proofs.Growing.{legal_grow, legal_cut, IsCut, opens as cut_opens, follows as cut_follows, moments_from-append}
use Rattle.job_laws.proofs.Lists.{none_some, some_is, later_none}
use Rattle.job_laws.proofs.Counts.{AllBelow, AtMostOnce, once_more, once_same, own-cons-same, own-cons-other, own-snoc-same, own-snoc-other}
use Rattle.job_laws.proofs.Outcomes.{run_outcome, by_rows, reply_of, false_true}
use Rattle.job_laws.proofs.Entering as enter
use Rattle.job_laws.proofs.Entering.{Entering, entering, and_true, or_false, is_run-some}
use Rattle.job_laws.proofs.Bound as bound
use Rattle.job_laws.proofs.Bound.{RunCounts, run_counts, lanes_below, least, held-snoc, claimed-snoc, starts-snoc, or_yes, gives, plain, not_given}

-- which of two passes
pub either : (a b : Bool) → (a || b) ≡ true → (a ≡ true) ⊎ (b ≡ true)
either true b e = inl refl
either false b e = inr e

still_claimed : (r : ℕ) (own : List Entry) (e : Entry) → is_claimed r own ≡ true → is_claimed r (own ++ e ∷ []) ≡ true
still_claimed r own e is = claimed-snoc r own e ∙ ap (λ b. b || claims r e.reply) is

-- an entry of a run comes from the lane that holds it
pub held_of : (log : List Entry) (lane : ℕ) (run : Option ℕ) (call : Call) (reply : Reply) → Entering log lane run call reply
    → (r : ℕ) → run ≡ Some r → held_run (own_entries lane log) ≡ Some r
held_of log lane _ _ _ (enter.claims k source params none q s p) r e = none_some r e
held_of log lane _ _ _ (enter.done_entry not_done none q is) r e = none_some r e
held_of log lane _ _ _ enter.quits r e = none_some r e
held_of log lane _ _ _ (enter.finishes run end held) r e = held ∙ e
held_of log lane _ _ _ (enter.acts run call reply held fresh fit for_run no_finish answered) r e = held ∙ e

-- a lane holds runs that it was given
abbrev IsHeldGiven : List Entry → Type 0
IsHeldGiven own = (r : ℕ) → held_run own ≡ Some r → is_claimed r own ≡ true

held_given : (log : List Entry) (lane : ℕ) (run : Option ℕ) (call : Call) (reply : Reply)
    → IsHeldGiven (own_entries lane log)
    → Entering log lane run call reply → (r : ℕ) → held_after (held_run (own_entries lane log)) call reply ≡ Some r
    → (is_claimed r (own_entries lane log) || claims r reply) ≡ true
held_given log lane _ _ _ g (enter.claims k source params none q s p) r e =
    let same = some_is k r e in
    ap (λ b. is_claimed r (own_entries lane log) || b) (eq-eqb k r same) ∙ or_yes (is_claimed r (own_entries lane log))
held_given log lane _ _ _ g (enter.done_entry not_done none q is) r e = ap (λ b. b || false) (g r e)
held_given log lane _ _ _ g enter.quits r e = ap (λ b. b || false) (g r e)
held_given log lane _ _ _ g (enter.finishes run end held) r e = none_some r e
held_given log lane _ _ _ g (enter.acts run call reply held fresh fit for_run no_finish answered) r e =
    ap (λ b. b || claims r reply) (g r (sym (bound.held_same (held_run (own_entries lane log)) call reply for_run no_finish) ∙ e))

opened_holds : (call : Call) → OpensSo (opening_of call) → held_after None call Opened ≡ None
opened_holds (Open lanes budget params files) h = refl
opened_holds Claim h = absurd h
opened_holds (Finish end) h = absurd h
opened_holds call h = absurd h

-- what holds of no entries, of an opening, and of a lane's entries with one more, holds of each lane's own entries
pub own_grow : (P : List Entry → Type 0) → P [] → ((e : Entry) → IsOpening e → P (e ∷ []))
    → ((log : List Entry) (e : Entry) → IsLegal log → P (own_entries e.lane log) → Follows log e → P (own_entries e.lane log ++ e ∷ []))
    → (l : ℕ) (journal : List Entry) → IsLegal journal → P (own_entries l journal)
own_grow P none first step l = legal_grow (λ log. P (own_entries l log)) opened grown where
  opened : (e : Entry) → IsOpening e → P (own_entries l (e ∷ []))
  opened e o = elim (nat_eq e.lane l) as (λ b. P (cond b (e ∷ []) [])) [ true ↦ first e o | false ↦ none ]

  grown : (log : List Entry) (e : Entry) → IsLegal log → P (own_entries l log) → Follows log e → P (own_entries l (log ++ e ∷ []))
  grown log e h p f =
      elim (eqb_tells e.lane l) [
        | inl q ↦ subst (λ m. P (own_entries m (log ++ e ∷ []))) q.1
            (subst P (sym (own-snoc-same log e)) (step log e h (subst (λ m. P (own_entries m log)) (sym q.1) p) f))
        | inr q ↦ subst P (sym (own-snoc-other l log e q.1)) p
      ]

pub was_held : (l : ℕ) (journal : List Entry) → IsLegal journal → IsHeldGiven (own_entries l journal)
was_held = own_grow IsHeldGiven
    (λ r q. none_some r q)
    (λ e o r q. none_some r (sym (ap (λ k. held_after None e.call k) o.reply ∙ opened_holds e.call o.opened) ∙ q))
    (λ log e h g f r q. claimed-snoc r (own_entries e.lane log) e
    ∙ held_given log e.lane e.run e.call e.reply g (entering log e f) r (sym (held-snoc (own_entries e.lane log) e) ∙ q))

filtered_by : (p q : Entry → Bool) (x : Entry) (xs : List Entry) (b : Bool) → list_any p (cond b (x ∷ filter q xs) (filter q xs)) ≡ true
    → (list_any p (filter q xs) ≡ true → list_any p xs ≡ true) → (p x || list_any p xs) ≡ true
filtered_by p q x xs true e go =
    elim (either (p x) (list_any p (filter q xs)) e) [
      | inl h ↦ ap (λ b. b || list_any p xs) h
      | inr h ↦ ap (λ b. p x || b) (go h) ∙ or_yes (p x)
    ]
filtered_by p q x xs false e go = ap (λ b. p x || b) (go e) ∙ or_yes (p x)

-- what passes among some entries passes among all
pub filtered_any : (p q : Entry → Bool) (xs : List Entry) → list_any p (filter q xs) ≡ true → list_any p xs ≡ true
filtered_any p q [] e = e
filtered_any p q (x ∷ xs) e = filtered_by p q x xs (q x) e (λ h. filtered_any p q xs h)

pub own_claimed : (r l : ℕ) (log : List Entry) → is_claimed r (own_entries l log) ≡ true → is_claimed r log ≡ true
own_claimed r l log e = filtered_any (λ (x : Entry). claims r x.reply) (λ (x : Entry). nat_eq x.lane l) log e

-- a run that is given now was not given before
pub fresh_run : (log : List Entry) (lane : ℕ) (run : Option ℕ) (call : Call) (reply : Reply) → RunCounts log → Entering log lane run call reply
    → (r : ℕ) → claims r reply ≡ true → is_claimed r log ≡ false
fresh_run log lane _ _ _ c (enter.claims k source params none q s p) r e =
    let at = least log (gives log) c.first_given 0 (run_count log) k (omega arith) q in
    let same = eqb-true k r e in
    let g = at.0 in
    c.first_given r ∙ le-ltb r (gives log) (omega (arith, same, g))
fresh_run log lane _ _ _ c (enter.done_entry not_done none q is) r e = absurd (false_true e)
fresh_run log lane _ _ _ c enter.quits r e = absurd (false_true e)
fresh_run log lane _ _ _ c (enter.finishes run end held) r e = absurd (false_true e)
fresh_run log lane _ _ _ c (enter.acts run call reply held fresh fit for_run no_finish answered) r e =
    absurd (false_true (sym (not_given reply r (plain log run call reply (run_outcome log run call reply answered)).0) ∙ e))

-- the lane's entry that gives the run, or gave it before
gives_more : (l r : ℕ) (log : List Entry) (e : Entry) → is_claimed r (own_entries l (log ++ e ∷ [])) ≡ true
    → (is_claimed r (own_entries l log) ≡ true) ⊎ ((e.lane ≡ l) × (claims r e.reply ≡ true))
gives_more l r log e h =
    elim (eqb_tells e.lane l) [
      | inl q ↦ elim (either (is_claimed r (own_entries e.lane log)) (claims r e.reply)
          (sym (ap (is_claimed r) (own-snoc-same log e) ∙ claimed-snoc r (own_entries e.lane log) e)
          ∙ subst (λ m. is_claimed r (own_entries m (log ++ e ∷ [])) ≡ true) (sym q.1) h)) [
            | inl w ↦ inl (subst (λ m. is_claimed r (own_entries m log) ≡ true) q.1 w)
            | inr w ↦ inr (q.1, w)
          ]
      | inr q ↦ inl (ap (is_claimed r) (sym (own-snoc-other l log e q.1)) ∙ h)
    ]

-- a run that was given is not given again
given_once : (l r : ℕ) (log : List Entry) (e : Entry) → IsLegal log → Follows log e → is_claimed r (own_entries l log) ≡ true → claims r e.reply ≡ true → ⊥
given_once l r log e h f old new =
    false_true (sym (fresh_run log e.lane e.run e.call e.reply (run_counts log h) (entering log e f) r new) ∙ own_claimed r l log old)

abbrev Apart : ℕ → ℕ → ℕ → List Entry → Type 0
Apart l m r log = is_claimed r (own_entries l log) ≡ true → is_claimed r (own_entries m log) ≡ true → l ≡ m

-- a run is given to one lane
pub one_lane : (l m r : ℕ) (journal : List Entry) → IsLegal journal → Apart l m r journal
one_lane l m r = legal_grow (Apart l m r) first step
  where
    first : (e : Entry) → IsOpening e → Apart l m r (e ∷ [])
    first e o a b =
        elim (gives_more l r [] e a) [
          | inl x ↦ absurd (false_true x)
          | inr x ↦ absurd (false_true (sym (ap (claims r) o.reply) ∙ x.1))
        ]

    step : (log : List Entry) (e : Entry) → IsLegal log → Apart l m r log → Follows log e → Apart l m r (log ++ e ∷ [])
    step log e h p f a b =
        elim (gives_more l r log e a) [
          | inl x ↦ elim (gives_more m r log e b) [
            | inl y ↦ p x y
            | inr y ↦ absurd (given_once l r log e h f x y.1)
          ]
          | inr x ↦ elim (gives_more m r log e b) [
            | inl y ↦ absurd (given_once m r log e h f y x.1)
            | inr y ↦ sym x.0 ∙ y.0
          ]
        ]

-- an entry of a run is of a lane that was given the run before
pub claimed_follows : (log : List Entry) (e : Entry) → IsLegal log → Follows log e → (k : ℕ) → e.run ≡ Some k
    → is_claimed k (own_entries e.lane log) ≡ true
claimed_follows log e h f k q = was_held e.lane log h k (held_of log e.lane e.run e.call e.reply (entering log e f) k q)

claimed_cut : (before : List Entry) (e : Entry) → IsCut before e → (k : ℕ) → e.run ≡ Some k → is_claimed k (own_entries e.lane before) ≡ true
claimed_cut before e (cut_opens none o) k q = none_some k (sym o.run ∙ q)
claimed_cut before e (cut_follows h f) k q = claimed_follows before e h f k q

pub claimed_before : (before after : List Entry) (e : Entry) → IsLegal (before ++ e ∷ after) → (k : ℕ) → e.run ≡ Some k
    → is_claimed k (own_entries e.lane before) ≡ true
claimed_before before after e h k q = claimed_cut before e (legal_cut before after e h) k q

-- a run is given once
once_step : (k : ℕ) (log : List Entry) (e : Entry) → IsLegal log → AtMostOnce (λ (x : Entry). claims k x.reply) log → Follows log e
    → (b : Bool) → claims k e.reply ≡ b → AtMostOnce (λ (x : Entry). claims k x.reply) (log ++ e ∷ [])
once_step k log e h p f true is =
    once_more (λ (x : Entry). claims k x.reply) log e (fresh_run log e.lane e.run e.call e.reply (run_counts log h) (entering log e f) k is) p
once_step k log e h p f false is = once_same (λ (x : Entry). claims k x.reply) log e is p

pub claimed_once : (journal : List Entry) → IsLegal journal → (k : ℕ) → count_by (λ (e : Entry). claims k e.reply) journal ≤ 1
claimed_once journal h k =
    let once = legal_grow (AtMostOnce (λ (x : Entry). claims k x.reply))
    (λ e o. once_same (λ (x : Entry). claims k x.reply) [] e (ap (claims k) o.reply) (omega arith))
    (λ log e g p f. once_step k log e g p f (claims k e.reply) refl) journal h in
    omega (arith, once)

pub not_so : (b : Bool) → (b ≡ true → ⊥) → b ≡ false
not_so true h = absurd (h refl)
not_so false h = refl

-- a run that was not given has no entries
abbrev IsIdle : ℕ → List Entry → Type 0
IsIdle k log = is_claimed k log ≡ false → filter (λ (e : Entry). is_run k e.run) log ≡ []

abbrev of_run : ℕ → List Entry → List Entry
of_run k log = filter (λ (e : Entry). is_run k e.run) log

run-snoc : (k : ℕ) (log : List Entry) (e : Entry) → of_run k (log ++ e ∷ []) ≡ of_run k log ++ of_run k (e ∷ [])
run-snoc k log e = filter-append (λ (x : Entry). is_run k x.run) log (e ∷ [])

run-none : (k : ℕ) (log : List Entry) (e : Entry) → is_run k e.run ≡ false → of_run k (log ++ e ∷ []) ≡ of_run k log
run-none k log e is = run-snoc k log e ∙ ap (λ b. of_run k log ++ cond b (e ∷ []) []) is ∙ append-nil (of_run k log)

idle_step : (k : ℕ) (log : List Entry) (e : Entry) → IsLegal log → IsIdle k log → Follows log e → IsIdle k (log ++ e ∷ [])
idle_step k log e h p f q =
    let both = or_false (is_claimed k log) (claims k e.reply) (sym (claimed-snoc k log e) ∙ q) in
    run-none k log e
    (not_so (is_run k e.run) (λ is. false_true (sym both.0 ∙ own_claimed k e.lane log (claimed_follows log e h f k (is_run-some k e.run is)))))
    ∙ p both.0

is_idle : (k : ℕ) (journal : List Entry) → IsLegal journal → IsIdle k journal
is_idle k = legal_grow (IsIdle k)
    (λ e o q. ap (λ r. cond (is_run k r) (e ∷ []) []) o.run)
    (λ log e h p f. idle_step k log e h p f)

cons_nil : {A B : Type 0} (x : A) (xs : List A) → x ∷ xs ≡ [] → B
cons_nil x xs e = let l = ap (λ ys. length ys) e in absurd (omega (arith, l))

-- where none passes none of some passes
filter_none : (p q : Entry → Bool) (xs : List Entry) → filter p xs ≡ [] → filter p (filter q xs) ≡ []
filter_none p q [] e = refl
filter_none p q (x ∷ xs) e = by (p x) refl (q x) e (λ r. filter_none p q xs r) where
  by : (a : Bool) → p x ≡ a → (b : Bool) → cond a (x ∷ filter p xs) (filter p xs) ≡ [] → (filter p xs ≡ [] → filter p (filter q xs) ≡ [])
      → filter p (cond b (x ∷ filter q xs) (filter q xs)) ≡ []
  by true is b r go = cons_nil x (filter p xs) r
  by false is true r go = ap (λ d. cond d (x ∷ filter p (filter q xs)) (filter p (filter q xs))) is ∙ go r
  by false is false r go = go r

-- the entries of a run are its lane's
abbrev IsOwn : ℕ → ℕ → List Entry → Type 0
IsOwn k l log = is_claimed k (own_entries l log) ≡ true → of_run k (own_entries l log) ≡ of_run k log

own_same : (k : ℕ) (log : List Entry) (e : Entry) → IsLegal log → IsOwn k e.lane log → Follows log e
    → is_claimed k (own_entries e.lane (log ++ e ∷ [])) ≡ true → of_run k (own_entries e.lane log) ≡ of_run k log
own_same k log e h p f q =
    elim (gives_more e.lane k log e q) [
      | inl w ↦ p w
      | inr w ↦
          let none = is_idle k log h (fresh_run log e.lane e.run e.call e.reply (run_counts log h) (entering log e f) k w.1) in
          filter_none (λ (x : Entry). is_run k x.run) (λ (x : Entry). nat_eq x.lane e.lane) log none ∙ sym none
    ]

own_here : (k : ℕ) (log : List Entry) (e : Entry) → IsLegal log → IsOwn k e.lane log → Follows log e → IsOwn k e.lane (log ++ e ∷ [])
own_here k log e h p f q =
    ap (of_run k) (own-snoc-same log e)
    ∙ run-snoc k (own_entries e.lane log) e
    ∙ ap (λ xs. xs ++ of_run k (e ∷ [])) (own_same k log e h p f q)
    ∙ sym (run-snoc k log e)

own_there : (k l : ℕ) (log : List Entry) (e : Entry) → e.lane ≢ l → IsLegal log → IsOwn k l log → Follows log e → IsOwn k l (log ++ e ∷ [])
own_there k l log e apart h p f q =
    let was : is_claimed k (own_entries l log) ≡ true = ap (is_claimed k) (sym (own-snoc-other l log e apart)) ∙ q in
    ap (of_run k) (own-snoc-other l log e apart)
    ∙ p was
    ∙ sym (run-none k log e (not_so (is_run k e.run) (λ is. apart (one_lane e.lane l k log h (claimed_follows log e h f k (is_run-some k e.run is)) was))))

own_first : (k l : ℕ) (e : Entry) → IsOpening e → IsOwn k l (e ∷ [])
own_first k l e o q =
    elim (gives_more l k [] e q) [
      | inl x ↦ absurd (false_true x)
      | inr x ↦ absurd (false_true (sym (ap (claims k) o.reply) ∙ x.1))
    ]

own_step : (k l : ℕ) (log : List Entry) (e : Entry) → IsLegal log → IsOwn k l log → Follows log e → IsOwn k l (log ++ e ∷ [])
own_step k l log e h p f =
    elim (eqb_tells e.lane l) [
      | inl q ↦ subst (λ m. IsOwn k m (log ++ e ∷ [])) q.1 (own_here k log e h (subst (λ m. IsOwn k m log) (sym q.1) p) f)
      | inr q ↦ own_there k l log e q.1 h p f
    ]

is_own : (k l : ℕ) (journal : List Entry) → IsLegal journal → IsOwn k l journal
is_own k l = legal_grow (IsOwn k l) (λ e o. own_first k l e o) (λ log e h p f. own_step k l log e h p f)

-- a filter by two tests is one behind the other
filter_both : (p q : Entry → Bool) (xs : List Entry) → filter (λ e. p e && q e) xs ≡ filter q (filter p xs)
filter_both p q [] = refl
filter_both p q (x ∷ xs) = by (p x) (filter_both p q xs) where
  by : (a : Bool) → filter (λ e. p e && q e) xs ≡ filter q (filter p xs)
      → cond (a && q x) (x ∷ filter (λ e. p e && q e) xs) (filter (λ e. p e && q e) xs) ≡ filter q (cond a (x ∷ filter p xs) (filter p xs))
  by true go = ap (λ ys. cond (q x) (x ∷ ys) ys) go
  by false go = go

last_within : {B : Type 0} (p : Entry → Bool) (f : Entry → Option B) (xs : List Entry)
    → last_given (λ e. if p e then f e else None) xs ≡ last_given f (filter p xs)
last_within p f [] = refl
last_within p f (x ∷ xs) = by (p x) (last_within p f xs) where
  by : (a : Bool) → last_given (λ e. if p e then f e else None) xs ≡ last_given f (filter p xs)
      → last_of (if a then f x else None) (last_given (λ e. if p e then f e else None) xs) ≡ last_given f (cond a (x ∷ filter p xs) (filter p xs))
  by true go = ap (last_of (f x)) go
  by false go = later_none (last_given (λ e. if p e then f e else None) xs) ∙ go

pub one_lane_a_run : (journal : List Entry) → IsLegal journal → (k lane : ℕ) → is_claimed k (own_entries lane journal) ≡ true
    → IsOfLane k lane journal
one_lane_a_run journal h k lane q =
    let own = own_entries lane journal in
    let same = is_own k lane journal h q in
    record {
      entries = same;
      exchange = ap (map (λ (e : Entry). (e.call, e.reply))) same;
      acts =
          filter_both (λ (e : Entry). is_run k e.run) (λ (e : Entry). not (is_finish e.call)) own
          ∙ ap (filter (λ (e : Entry). not (is_finish e.call))) same
          ∙ sym (filter_both (λ (e : Entry). is_run k e.run) (λ (e : Entry). not (is_finish e.call)) journal);
      end =
          last_within (λ (e : Entry). is_run k e.run) (λ (e : Entry). finish e.call) own
          ∙ ap (last_given (λ (e : Entry). finish e.call)) same
          ∙ sym (last_within (λ (e : Entry). is_run k e.run) (λ (e : Entry). finish e.call) journal);
    }

-- what no lane has among its entries nobody has
none_own : (p : Entry → Bool) (n : ℕ) (es : List Entry) → AllBelow n es → ((l : ℕ) → l < n → list_any p (own_entries l es) ≡ false)
    → list_any p es ≡ false
none_own p n [] all h = refl
none_own p n (e ∷ es) all h =
    let here = or_false (p e) (list_any p (own_entries e.lane es)) (ap (list_any p) (sym (own-cons-same e es)) ∙ h e.lane all.0) in
    ap (λ b. b || list_any p es) here.0
    ∙ none_own p n es all.1 (λ l less.
    elim (eqb_tells e.lane l) [
      | inl q ↦ subst (λ m. list_any p (own_entries m es) ≡ false) q.1 here.1
      | inr q ↦ ap (list_any p) (sym (own-cons-other l e es q.1)) ∙ h l less
    ])

-- and what somebody has some lane has
pub some_own : (p : Entry → Bool) (n : ℕ) (es : List Entry) → AllBelow n es → list_any p es ≡ true
    → (l : ℕ) × (l < n) × (list_any p (own_entries l es) ≡ true)
some_own p n [] all h = absurd (false_true h)
some_own p n (e ∷ es) all h =
    elim (either (p e) (list_any p es) h) [
      | inl w ↦ (e.lane, all.0, ap (list_any p) (own-cons-same e es) ∙ ap (λ b. b || list_any p (own_entries e.lane es)) w)
      | inr w ↦
          let s = some_own p n es all.1 w in
          elim (eqb_tells e.lane s.0) [
            | inl q ↦ (
              s.0,
              s.1,
              subst (λ m. list_any p (own_entries m (e ∷ es)) ≡ true) q.1
                  (ap (list_any p) (own-cons-same e es)
                  ∙ ap (λ b. p e || b) (subst (λ m. list_any p (own_entries m es) ≡ true) (sym q.1) s.2) ∙ or_yes (p e)),
            )
            | inr q ↦ (s.0, s.1, ap (list_any p) (own-cons-other s.0 e es q.1) ∙ s.2)
          ]
    ]

pub no_quit : (journal : List Entry) → IsLegal journal → ((lane : ℕ) → lane < lanes_of journal → has_quit (own_entries lane journal) ≡ false)
    → has_quit journal ≡ false
no_quit journal h none =
    let below = lanes_below journal h in
    let is = below.lanes_is in
    none_own (λ (e : Entry). is_quit e.call) below.lanes journal below.all (λ l less. none l (omega (arith, less, is)))

-- a run that is to stop is told so, or finishes
stop_by : (log : List Entry) (lane : ℕ) (run : Option ℕ) (call : Call) (reply : Reply) → Entering log lane run call reply → (k : ℕ)
    → run ≡ Some k → is_asked k log ≡ true → (reply ≡ Halt) ⊎ (is_finish call ≡ true)
stop_by log lane _ _ _ (enter.claims k source params none q s p) r e asked = none_some r e
stop_by log lane _ _ _ (enter.done_entry not_done none q is) r e asked = none_some r e
stop_by log lane _ _ _ enter.quits r e asked = none_some r e
stop_by log lane _ _ _ (enter.finishes run end held) r e asked = inr refl
stop_by log lane _ _ _ (enter.acts run call reply held fresh fit for_run no_finish answered) r e asked =
    elim (by_rows (stop_rows log run call) (table_answer log run call) (Ready reply) answered) [
      | inl w ↦ inl (sym (ap reply_of w.1))
      | inr w ↦ absurd (false_true (sym w.0 ∙ ap (λ n. is_asked n log) (some_is run r e) ∙ asked))
    ]

stop_cut : (before : List Entry) (e : Entry) → IsCut before e → (k : ℕ) → e.run ≡ Some k → is_asked k before ≡ true
    → (e.reply ≡ Halt) ⊎ (is_finish e.call ≡ true)
stop_cut before e (cut_opens none o) k q asked = none_some k (sym o.run ∙ q)
stop_cut before e (cut_follows h f) k q asked = stop_by before e.lane e.run e.call e.reply (entering before e f) k q asked

pub stops_when_asked : (journal : List Entry) → IsLegal journal → StopsWhenAsked journal
stops_when_asked journal h before after e k cut q asked = stop_cut before e (legal_cut before after e (subst IsLegal cut h)) k q asked

pub stays_asked : (journal more : List Entry) (k : ℕ) → is_asked k journal ≡ true → is_asked k (journal ++ more) ≡ true
stays_asked journal more k asked =
    elim (either (is_finished 0 journal) (list_any (asks k) (moments journal)) asked) [
      | inl w ↦ ap (λ b. b || list_any (asks k) (moments (journal ++ more)))
          (list_any-append (λ (e : Entry). is_run 0 e.run && is_finish e.call) journal more
          ∙ ap (λ b. b || is_finished 0 more) w)
      | inr w ↦ ap (λ b. is_finished 0 (journal ++ more) || b)
          (ap (list_any (asks k)) (moments_from-append [] journal more)
          ∙ list_any-append (asks k) (moments journal) (moments_from journal more)
          ∙ ap (λ b. b || list_any (asks k) (moments_from journal more)) w)
          ∙ or_yes (is_finished 0 (journal ++ more))
    ]

-- a run is told so from the entry on by which it was asked
pub asked_stops : (before between after : List Entry) (ask e : Entry) (k : ℕ) → IsLegal (before ++ ask ∷ between ++ e ∷ after)
    → is_asked k (before ++ ask ∷ []) ≡ true → e.run ≡ Some k → (e.reply ≡ Halt) ⊎ (is_finish e.call ≡ true)
asked_stops before between after ask e k h asked q =
    let journal = before ++ ask ∷ between ++ e ∷ after in
    stops_when_asked journal h (before ++ ask ∷ between) after e k refl q
    (subst (λ log. is_asked k log ≡ true) (append_assoc before (ask ∷ []) between) (stays_asked (before ++ ask ∷ []) between k asked))
