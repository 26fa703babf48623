-- Runs that lanes hold, in a legal journal: they were given, they go on, and all that was said of them the lane said.

use Rattle.std.proofs.Common.{◌≡◌, ◌≢◌, ◌<◌, ℕ, zero, suc, ◌+◌, Bool, true, false, not, ◌&&◌, ◌||◌, List, [], ◌∷◌, ◌++◌, Option, Some, None, ◌⊎◌, inl, inr, refl, sym, ap, ◌∙◌, subst, nat_eq, length, arith, true≢false}
use Rattle.std.specs.Prelude.{count_by, filter, fold, is_some, IsSome, nat_lt, option_map, option_and_then, cond, if◌then◌else◌}
use Rattle.std.proofs.Math.Bool.{or-false}
use Rattle.std.proofs.lemmas.Bool.{eq-eqb, eqb-true, ltb-true, le-ltb, lt-ltb}
use Rattle.std.proofs.lemmas.Bool.Decides.{eqb_tells}
use Rattle.std.proofs.lemmas.List.Elements.{filter-append}
use Rattle.std.proofs.lemmas.List.{length_push}
use Rattle.std.proofs.lemmas.List.Sums.{fold-append}
use Rattle.std.proofs.lemmas.Option.{none-some, same_Some}
use Rattle.job_calls.specs.declared.call.Call.{Call}
use Rattle.job_calls.specs.declared.call.Call.TheVariants.{Claim, Finish, Run as Starts}
use Rattle.job_calls.specs.declared.reply.Reply.{Reply}
use Rattle.job_calls.specs.declared.reply.Reply.TheVariants.{Opened, Claimed, Started}
use Rattle.job_calls.specs.declared.entry.Entry.{Entry}
use Rattle.job_calls.specs.Entries.{is_run, is_finish, claims, own_entries, run_count, is_claimed, is_finished}
use Rattle.job_calls.specs.Runs.{Start, last_of, last_given, start_by, start_of_run, opening}
use Rattle.job_calls.specs.Models.{parent_of, is_live}
use Rattle.hub_index.specs.Journals.{MayMake}
use Rattle.job_calls.specs.Fitting.{held_after, held_run, exchange_of, call_fits, below_lanes}
use Rattle.job_calls.specs.Legal.{IsLegal, IsOpening, Follows}
use Rattle.job_laws.specs.Growth.{Grows, GivenInOrder, RunsHaveSources, is_given}
use Rattle.job_laws.specs.Lanes.{OneLaneARun}
use Rattle.growing_lists.specs.Growing.{any-snoc, count-snoc, last_given-snoc, as_number}
use Rattle.hub_index.proofs.Legal.{legal_grow, and_true, is_run-some, held_of, held_if, own-snoc-same, own-snoc-other}

-- a lane that holds a run after one more entry held it before, or is given it
held_step : (held : Option ℕ) (call : Call) (reply : Reply) (k : ℕ) → held_after held call reply ≡ Some k
    → (held ≡ Some k) ⊎ (claims k reply ≡ true)
held_step held Claim (Claimed run source params) k e = inr (eq-eqb run k (same_Some run k e))
held_step held (Finish end) reply k e = absurd (none-some k e)
held_step held call reply k e = inl e

or_yes : (b : Bool) → (b || true) ≡ true
or_yes true = refl
or_yes false = refl

either : (a b : Bool) → (a || b) ≡ true → (a ≡ true) ⊎ (b ≡ true)
either true b e = inl refl
either false b e = inr e

neither : (a b : Bool) → a ≡ false → b ≡ false → (a || b) ≡ false
neither true b x y = x
neither false b x y = y

given_by : (k : ℕ) (own : List Entry) (held : Option ℕ) → fold (λ h (e : Entry). held_after h e.call e.reply) held own ≡ Some k
    → (held ≡ Some k) ⊎ (is_claimed k own ≡ true)
given_by k [] held e = inl e
given_by k (x ∷ xs) held e =
    elim (given_by k xs (held_after held x.call x.reply) e) [
      | inl h ↦ elim (held_step held x.call x.reply k h) [
        | inl same ↦ inl same
        | inr now ↦ inr (ap (λ b. b || is_claimed k xs) now)
      ]
      | inr later ↦ inr (ap (λ b. claims k x.reply || b) later ∙ or_yes (claims k x.reply))
    ]

-- a run that a lane holds was given to it
pub held_given : (k : ℕ) (own : List Entry) → held_run own ≡ Some k → is_claimed k own ≡ true
held_given k own e = elim (given_by k own None e) [ inl none ↦ absurd (none-some k none) | inr given ↦ given ]

own_by : (k lane : ℕ) (e : Entry) (es : List Entry) (b : Bool) → (is_claimed k (own_entries lane es) ≡ true → is_claimed k es ≡ true)
    → is_claimed k (cond b (e ∷ own_entries lane es) (own_entries lane es)) ≡ true → (claims k e.reply || is_claimed k es) ≡ true
own_by k lane e es true go h =
    elim (either (claims k e.reply) (is_claimed k (own_entries lane es)) h) [
      | inl here ↦ ap (λ b. b || is_claimed k es) here
      | inr later ↦ ap (λ b. claims k e.reply || b) (go later) ∙ or_yes (claims k e.reply)
    ]
own_by k lane e es false go h = ap (λ b. claims k e.reply || b) (go h) ∙ or_yes (claims k e.reply)

-- a run that was given to one lane was given
pub own_given : (k lane : ℕ) (journal : List Entry) → is_claimed k (own_entries lane journal) ≡ true → is_claimed k journal ≡ true
own_given k lane [] h = h
own_given k lane (e ∷ es) h = own_by k lane e es (nat_eq e.lane lane) (own_given k lane es) h

-- and is one that there is
pub held_is_run : GivenInOrder → (journal : List Entry) (lane k : ℕ) → IsLegal journal → held_run (own_entries lane journal) ≡ Some k → k < run_count journal
held_is_run in_order journal lane k h held =
    let claimed = own_given k lane journal (held_given k (own_entries lane journal) held) in
    let order = in_order journal h in
    let less = ltb-true k (count_by (λ e. is_given e.reply) journal) (sym (order.0 k) ∙ claimed) in
    let few = order.1 in omega (arith, less, few)

-- what a run was told, its lane was told
pub same_exchange : OneLaneARun → (journal : List Entry) (lane k : ℕ) → IsLegal journal → held_run (own_entries lane journal) ≡ Some k
    → exchange_of k (own_entries lane journal) ≡ exchange_of k journal
same_exchange one journal lane k h held = (one journal h k lane (held_given k (own_entries lane journal) held)).exchange

claims_given : (k : ℕ) (reply : Reply) → claims k reply ≡ true → is_given reply ≡ true
claims_given k (Claimed run source params) e = refl
claims_given k reply e = absurd (true≢false (sym e))

-- a run that is given now was not given before
fresh_by : (c k : ℕ) (before this : ℕ → Bool) → ((n : ℕ) → before n ≡ nat_lt n c) → ((n : ℕ) → (before n || this n) ≡ nat_lt n (c + 1))
    → ((n : ℕ) → this n ≡ true → n ≡ k) → this k ≡ true → before k ≡ false
fresh_by c k before this was now only here =
    let past : before c ≡ false = was c ∙ le-ltb c c (omega arith) in
    let new : this c ≡ true = sym (ap (λ b. b || this c) past) ∙ now c ∙ le-ltb-lt c in
    subst (λ n. before n ≡ false) (only c new) past where
      le-ltb-lt : (n : ℕ) → nat_lt n (n + 1) ≡ true
      le-ltb-lt n = lt-ltb n (n + 1) (omega arith)

claims_one : (k n : ℕ) (reply : Reply) → claims k reply ≡ true → claims n reply ≡ true → n ≡ k
claims_one k n (Claimed run source params) e d = sym (eqb-true run n d) ∙ eqb-true run k e
claims_one k n reply e d = absurd (true≢false (sym e))

fresh : Grows → GivenInOrder → (log : List Entry) (e : Entry) (k : ℕ) → IsLegal log → Follows log e → claims k e.reply ≡ true → is_claimed k log ≡ false
fresh grows in_order log e k h f here =
    let before = in_order log h in
    let after = in_order (log ++ e ∷ []) (grows log e h f) in
    let more = count-snoc (λ (x : Entry). is_given x.reply) log e ∙ ap (λ b. count_by (λ (x : Entry). is_given x.reply) log + as_number b) (claims_given k e.reply here) in
    fresh_by (count_by (λ (x : Entry). is_given x.reply) log) k (λ n. is_claimed n log) (λ n. claims n e.reply) before.0
    (λ n. sym (any-snoc (λ (x : Entry). claims n x.reply) log e) ∙ after.0 n ∙ ap (nat_lt n) more)
    (λ n there. claims_one k n e.reply here there) here

-- runs that lanes hold go on, and runs that have ended were given
pub record GoOn (journal : List Entry) : Type 0 where
  pub held : (lane k : ℕ) → held_run (own_entries lane journal) ≡ Some k → is_finished k journal ≡ false
  pub ended : (k : ℕ) → is_finished k journal ≡ true → is_claimed k journal ≡ true

held_finish : (held : Option ℕ) (call : Call) (reply : Reply) → is_finish call ≡ true → held_after held call reply ≡ None
held_finish held (Finish end) reply e = refl
held_finish held call reply e = absurd (true≢false (sym e))

held-snoc : (own : List Entry) (e : Entry) → held_run (own ++ e ∷ []) ≡ held_after (held_run own) e.call e.reply
held-snoc own e = fold-append (λ held (x : Entry). held_after held x.call x.reply) None own (e ∷ [])

finished-snoc : (k : ℕ) (log : List Entry) (e : Entry) → is_finished k (log ++ e ∷ []) ≡ (is_finished k log || (is_run k e.run && is_finish e.call))
finished-snoc k log e = any-snoc (λ (x : Entry). is_run k x.run && is_finish x.call) log e

opened_ends : (k : ℕ) (e : Entry) → IsOpening e → is_finished k (e ∷ []) ≡ false
opened_ends k e o = ap (λ r. (is_run k r && is_finish e.call) || false) o.run

module _ (grows : Grows) (in_order : GivenInOrder) (one : OneLaneARun) where
  -- no other lane holds a run that is ended by its lane
  other_lane : (log : List Entry) (e : Entry) (lane k : ℕ) → IsLegal log → Follows log e → e.run ≡ Some k → e.lane ≢ lane
      → held_run (own_entries lane log) ≡ Some k → ⊥
  other_lane log e lane k h f by apart held =
      let given = held_given k (own_entries lane log) held in
      let before = (one log h k lane given).entries in
      let after = (one (log ++ e ∷ []) (grows log e h f) k lane (ap (is_claimed k) (own-snoc-other log e lane apart) ∙ given)).entries in
      let p : Entry → Bool = λ x. is_run k x.run in
      let more : filter p (log ++ e ∷ []) ≡ filter p log ++ e ∷ [] =
      filter-append p log (e ∷ []) ∙ ap (λ b. filter p log ++ cond b (e ∷ []) []) (ap (is_run k) by ∙ eq-eqb k k refl) in
      let same = ap length (sym before ∙ ap (filter p) (sym (own-snoc-other log e lane apart)) ∙ after ∙ more) in
      let l = length_push (filter p log) e in omega (arith, same, l)

  ends_now : (log : List Entry) (e : Entry) (lane k : ℕ) → IsLegal log → Follows log e → (is_run k e.run && is_finish e.call) ≡ true
      → held_run (own_entries lane (log ++ e ∷ [])) ≡ Some k → ⊥
  ends_now log e lane k h f now held =
      let both = and_true (is_run k e.run) (is_finish e.call) now in
      let by = is_run-some k e.run both.0 in
      elim (eqb_tells e.lane lane) [
        | inl q ↦ none-some k
            (sym (held_finish (held_run (own_entries lane log)) e.call e.reply both.1) ∙ sym (held-snoc (own_entries lane log) e)
            ∙ sym (ap held_run (own-snoc-same log e lane q.1)) ∙ held)
        | inr q ↦ other_lane log e lane k h f by q.1 (sym (ap held_run (own-snoc-other log e lane q.1)) ∙ held)
      ]

  was_held : (log : List Entry) (e : Entry) (lane k : ℕ) → held_run (own_entries lane (log ++ e ∷ [])) ≡ Some k
      → (held_run (own_entries lane log) ≡ Some k) ⊎ (claims k e.reply ≡ true)
  was_held log e lane k held =
      elim (eqb_tells e.lane lane) [
        | inl q ↦ held_step (held_run (own_entries lane log)) e.call e.reply k
            (sym (held-snoc (own_entries lane log) e) ∙ sym (ap held_run (own-snoc-same log e lane q.1)) ∙ held)
        | inr q ↦ inl (sym (ap held_run (own-snoc-other log e lane q.1)) ∙ held)
      ]

  unended : (log : List Entry) (e : Entry) (k : ℕ) → IsLegal log → Follows log e → GoOn log → claims k e.reply ≡ true
      → (b : Bool) → is_finished k log ≡ b → is_finished k log ≡ false
  unended log e k h f p here true is = absurd (true≢false (sym (p.ended k is) ∙ fresh grows in_order log e k h f here))
  unended log e k h f p here false is = is

  going : (log : List Entry) (e : Entry) (lane k : ℕ) → IsLegal log → Follows log e → GoOn log → held_run (own_entries lane (log ++ e ∷ [])) ≡ Some k
      → (b : Bool) → (is_run k e.run && is_finish e.call) ≡ b → is_finished k (log ++ e ∷ []) ≡ false
  going log e lane k h f p held true now = absurd (ends_now log e lane k h f now held)
  going log e lane k h f p held false now =
      finished-snoc k log e
      ∙ neither (is_finished k log) (is_run k e.run && is_finish e.call)
      (elim (was_held log e lane k held) [
        | inl before ↦ p.held lane k before
        | inr here ↦ unended log e k h f p here (is_finished k log) refl
      ]) now

  was_given : (log : List Entry) (e : Entry) (k : ℕ) → IsLegal log → Follows log e → GoOn log → is_finished k (log ++ e ∷ []) ≡ true
      → is_claimed k log ≡ true
  was_given log e k h f p ended =
      elim (either (is_finished k log) (is_run k e.run && is_finish e.call) (sym (finished-snoc k log e) ∙ ended)) [
        | inl before ↦ p.ended k before
        | inr now ↦ own_given k e.lane log (held_given k (own_entries e.lane log)
            (held_of log e k f (is_run-some k e.run (and_true (is_run k e.run) (is_finish e.call) now).0)))
      ]

  pub go_on : (journal : List Entry) → IsLegal journal → GoOn journal
  go_on = legal_grow grows GoOn
      (λ e o. record { held = λ lane k held. opened_ends k e o; ended = λ k ended. absurd (true≢false (sym ended ∙ opened_ends k e o)) })
      (λ log e h f p. record {
        held = λ lane k held. going log e lane k h f p held (is_run k e.run && is_finish e.call) refl;
        ended = λ k ended. any-snoc (λ (x : Entry). claims k x.reply) log e ∙ ap (λ b. b || claims k e.reply) (was_given log e k h f p ended);
      })

-- a start by an entry that fits has a parent
abbrev pub start_for : ℕ → Option ℕ → Call → Reply → Option Start
start_for k run call reply = option_and_then (λ (s : Start). if nat_eq s.run k then Some s else None) (start_by run call reply)

parent_by : (b : Bool) (s : Start) (r : ℕ) → s.parent ≡ Some r
    → is_some (option_map (λ (t : Start). t.params) (if b then Some s else None)) ≡ is_some (option_and_then (λ (t : Start). t.parent) (if b then Some s else None))
parent_by true s r is = sym (ap is_some is)
parent_by false s r is = refl

parent_same : (own : List Entry) (run : Option ℕ) (call : Call) (reply : Reply) (k : ℕ) → call_fits own run call ≡ true
    → is_some (option_map (λ (s : Start). s.params) (start_for k run call reply)) ≡ is_some (option_and_then (λ (s : Start). s.parent) (start_for k run call reply))
parent_same own None (Starts model params) (Started run) k fit = absurd (true≢false (sym fit))
parent_same own (Some r) (Starts model params) (Started run) k fit =
    parent_by (nat_eq run k) (record { run = run; model = model; params = params; parent = Some r }) r refl
parent_same own run call reply k fit = refl

no_start : (run : Option ℕ) (call : Call) → start_by run call Opened ≡ None
no_start run (Starts model params) = refl
no_start run call = refl

some_later : {A : Type 0} (a b : Option A) → is_some (last_of a b) ≡ (is_some a || is_some b)
some_later a None = sym (or-false (is_some a))
some_later a (Some x) = sym (or_yes (is_some a))

-- a run has a parameter text where it has a parent
abbrev pub HasBoth : List Entry → Type 0
HasBoth journal =
    (k : ℕ) → is_some (last_given (λ e. option_map (λ (s : Start). s.params) (start_of_run k e)) journal)
    ≡ is_some (last_given (λ e. option_and_then (λ (s : Start). s.parent) (start_of_run k e)) journal)

both_first : (e : Entry) → IsOpening e → HasBoth (e ∷ [])
both_first e o k =
    let none : start_by e.run e.call e.reply ≡ None = ap (start_by e.run e.call) o.reply ∙ no_start e.run e.call in
    let pick : Option Start → Option Start = option_and_then (λ (s : Start). if nat_eq s.run k then Some s else None) in
    ap (λ o. is_some (option_map (λ (s : Start). s.params) (pick o))) none
    ∙ sym (ap (λ o. is_some (option_and_then (λ (s : Start). s.parent) (pick o))) none)

both_step : (log : List Entry) (e : Entry) → Follows log e → HasBoth log → HasBoth (log ++ e ∷ [])
both_step log e f p k =
    let give : Entry → Option (List ℕ) = λ x. option_map (λ (s : Start). s.params) (start_of_run k x) in
    let from : Entry → Option ℕ = λ x. option_and_then (λ (s : Start). s.parent) (start_of_run k x) in
    let fit = (and_true (below_lanes e.lane (opening log)) (call_fits (own_entries e.lane log) e.run e.call) f.fit).1 in
    ap is_some (last_given-snoc give log e)
    ∙ some_later (last_given give log) (give e)
    ∙ ap (λ b. b || is_some (give e)) (p k)
    ∙ ap (λ b. is_some (last_given from log) || b) (parent_same (own_entries e.lane log) e.run e.call e.reply k fit)
    ∙ sym (some_later (last_given from log) (from e))
    ∙ sym (ap is_some (last_given-snoc from log e))

-- each run but run 0 has a parent
pub has_parent : Grows → RunsHaveSources → (journal : List Entry) → IsLegal journal → (k : ℕ) → k < run_count journal
    → (k ≡ 0) ⊎ IsSome (parent_of k journal)
has_parent grows sources journal h zero less = inl refl
has_parent grows sources journal h (suc k) less =
    let has = sources journal h (suc k) less in
    inr (sym (legal_grow grows HasBoth both_first (λ log e l f p. both_step log e f p) journal h (suc k)) ∙ ap is_some has.2.params_is)

-- a run for which its lane may call was given, and goes on
pub caller_given : (journal : List Entry) (lane k : ℕ) (call : Call) → MayMake journal lane (Some k) call → is_claimed k journal ≡ true
caller_given journal lane k call may =
    own_given k lane journal (held_given k (own_entries lane journal) (held_if journal lane k call may))

pub caller_lives : Grows → GivenInOrder → OneLaneARun → (journal : List Entry) (lane k : ℕ) (call : Call) → IsLegal journal → MayMake journal lane (Some k) call
    → is_live k journal ≡ true
caller_lives grows in_order one journal lane k call h may =
    let held = held_if journal lane k call may in
    ap (λ b. b && not (is_finished k journal)) (lt-ltb k (run_count journal) (held_is_run in_order journal lane k h held))
    ∙ ap not ((go_on grows in_order one journal h).held lane k held)
