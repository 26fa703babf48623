-- Events that are taken: each was sent, they come in order, and none comes twice.

use Rattle.std.proofs.Common.{◌≡◌, ◌≢◌, ◌≤◌, ◌<◌, ℕ, ℤ, pos, suc, zero, ◌+◌, Bool, true, false, ◌&&◌, List, [], ◌∷◌, ◌++◌, Option, Some, None, refl, sym, ap, ◌∙◌, subst, inl, inr, ◌⊎◌, length, length-append, drop, map, cond, arith, append_assoc, append-nil}
use Rattle.std.specs.Prelude.{filter, slice_get, option_and_then, if◌then◌else◌}
use Rattle.std.proofs.Math.Seq.{drop-append_seam}
use Rattle.std.proofs.lemmas.Bool.{eq-eqb}
use Rattle.std.proofs.lemmas.List.{map-append, length-map}
use Rattle.std.proofs.lemmas.List.Elements.{filter-append}
use Rattle.std.proofs.lemmas.List.Sums.{length-filter}
use Rattle.mos_text.specs.declared.place.Place.{Place}
use Rattle.job_calls.specs.declared.call.Call.{Call}
use Rattle.job_calls.specs.declared.call.Call.TheVariants.{Finish, Send}
use Rattle.job_calls.specs.declared.reply.Reply.{Reply}
use Rattle.job_calls.specs.declared.reply.Reply.TheVariants.{Took, Queued}
use Rattle.job_calls.specs.declared.entry.Entry.{Entry}
use Rattle.job_calls.specs.Moments.{Moment, moments_from, moments, place_of}
use Rattle.job_calls.specs.Entries.{is_run}
use Rattle.job_calls.specs.Models.{parent_of}
use Rattle.job_calls.specs.Events.{receiver_of, comes_to, arrivals, is_took, taken_count, first_event, Event, event_of, event_at, front}
use Rattle.job_calls.specs.Legal.{IsLegal, IsOpening, Follows}
use Rattle.job_laws.specs.Truth.{IsSent, IsEnd, IsEvent, IsTaken}
use Rattle.job_laws.specs.Order.{place_taken, places_taken, TakesInOrder, TakesOnce}
use Rattle.job_laws.proofs.Growing.{legal_induct, moments-snoc, legal_cut, IsCut, opens as cut_opens, follows as cut_follows}
use Rattle.job_laws.proofs.Lists.{none_some, some_is, get_behind, first_is, same_cut, tail_of}
use Rattle.job_laws.proofs.Outcomes as outcome
use Rattle.job_laws.proofs.Outcomes.{Outcome, run_outcome, is_idle, false_true}
use Rattle.job_laws.proofs.Entering as enter
use Rattle.job_laws.proofs.Entering.{Entering, entering, is_run-some}

idle_took : (reply : Reply) → is_idle reply ≡ true → is_took reply ≡ false
idle_took (Took place class value) e = absurd (false_true e)
idle_took reply e = refl

event_place : (place : ℕ) (call : Call) (event : Event) → event_of place call ≡ Some event → event.place ≡ place
event_place place (Send to class value) event q = ap (λ (x : Event). x.place) (sym (some_is _ event q))
event_place place (Finish end) event q = ap (λ (x : Event). x.place) (sym (some_is _ event q))
event_place place call event q = none_some event q

at_place : (place : ℕ) (o : Option Entry) (event : Event) → option_and_then (λ (e : Entry). event_of place e.call) o ≡ Some event → event.place ≡ place
at_place place None event q = none_some event q
at_place place (Some e) event q = event_place place e.call event q

front_by : (log : List Entry) (o : Option ℕ) (event : Event) → option_and_then (λ place. event_at place log) o ≡ Some event
    → (o ≡ Some event.place) × (event_at event.place log ≡ Some event)
front_by log None event q = none_some event q
front_by log (Some place) event q =
    let same = at_place place (slice_get log place) event q in
    (ap Some (sym same), ap (λ n. event_at n log) same ∙ q)

-- what an answer that takes an event is
pub record Taking (log : List Entry) (run : ℕ) (reply : Reply) : Type 0 where
  pub event : Event
  pub first : first_event run log ≡ Some event.place
  pub at : event_at event.place log ≡ Some event
  pub reply_is : reply ≡ Took (record { 0 = event.place }) event.class event.value

pub taking : (log : List Entry) (run : ℕ) (event : Event) → front run log ≡ Some event → Taking log run (Took (record { 0 = event.place }) event.class event.value)
taking log run event q =
    let both = front_by log (first_event run log) event q in
    record { event = event; first = both.0; at = both.1; reply_is = refl }

no_taking : {A : Type 0} (reply : Reply) → is_took reply ≡ false → is_took reply ≡ true → A
no_taking reply a b = absurd (false_true (sym a ∙ b))

took_outcome : (log : List Entry) (run : ℕ) (call : Call) (reply : Reply) → Outcome log run call reply → is_took reply ≡ true → Taking log run reply
took_outcome log run _ _ (outcome.idle call reply is can) t = no_taking reply (idle_took reply is) t
took_outcome log run _ _ (outcome.granted call is) t = absurd (false_true t)
took_outcome log run _ _ (outcome.compiled src dst) t = absurd (false_true t)
took_outcome log run _ _ (outcome.loaded file source q) t = absurd (false_true t)
took_outcome log run _ _ (outcome.started model params is less) t = absurd (false_true t)
took_outcome log run _ _ (outcome.next_took event q) t = taking log run event q
took_outcome log run _ _ (outcome.drop_took event q) t = taking log run event q
took_outcome log run _ _ (outcome.queued to class value receiver) t = absurd (false_true t)
took_outcome log run _ _ (outcome.found_write name write q) t = absurd (false_true t)
took_outcome log run _ _ (outcome.found_file name bytes q d) t = absurd (false_true t)
took_outcome log run _ _ (outcome.reads name q) t = absurd (false_true t)
took_outcome log run _ _ (outcome.joins name place a b d s) t = absurd (false_true t)
took_outcome log run _ _ (outcome.put name bytes j) t = absurd (false_true t)
took_outcome log run _ _ (outcome.took_all name) t = absurd (false_true t)
took_outcome log run _ _ (outcome.ended name a b) t = absurd (false_true t)

-- an entry that takes an event is of a run
pub record Taker (log : List Entry) (run : Option ℕ) (call : Call) (reply : Reply) : Type 0 where
  pub taker : ℕ
  pub by : run ≡ Some taker
  pub taking : Taking log taker reply

took_entering : (log : List Entry) (lane : ℕ) (run : Option ℕ) (call : Call) (reply : Reply) → Entering log lane run call reply
    → is_took reply ≡ true → Taker log run call reply
took_entering log lane _ _ _ (enter.claims k source params none q s p) t = absurd (false_true t)
took_entering log lane _ _ _ (enter.done_entry not_done none q is) t = absurd (false_true t)
took_entering log lane _ _ _ enter.quits t = absurd (false_true t)
took_entering log lane _ _ _ (enter.finishes run end held) t = absurd (false_true t)
took_entering log lane _ _ _ (enter.acts run call reply held fresh ends_fit_ for_run no_finish answered) t =
    record { taker = run; by = refl; taking = took_outcome log run call reply (run_outcome log run call reply answered) t }

pub takes : (log : List Entry) (e : Entry) → Follows log e → is_took e.reply ≡ true → Taker log e.run e.call e.reply
takes log e f t = took_entering log e.lane e.run e.call e.reply (entering log e f) t

-- a place in a run's arrivals is that of an entry that came to it
pub record Arrival (r place : ℕ) (before es : List Entry) : Type 0 where
  pub earlier : List Entry
  pub event : Entry
  pub rest : List Entry
  pub cut : es ≡ earlier ++ event ∷ rest
  pub place_is : length (before ++ earlier) ≡ place
  pub comes : comes_to r (record { before = before ++ earlier; entry = event }) ≡ true

arrival_later : (r place : ℕ) (before : List Entry) (e : Entry) (es : List Entry) → Arrival r place (before ++ e ∷ []) es → Arrival r place before (e ∷ es)
arrival_later r place before e es a =
    let one : before ++ e ∷ [] ++ a.earlier ≡ before ++ e ∷ a.earlier = append_assoc before (e ∷ []) a.earlier in
    record {
      earlier = e ∷ a.earlier;
      event = a.event;
      rest = a.rest;
      cut = ap (λ xs. e ∷ xs) a.cut;
      place_is = ap (λ xs. length xs) (sym one) ∙ a.place_is;
      comes = ap (λ xs. comes_to r (record { before = xs; entry = a.event })) (sym one) ∙ a.comes;
    }

abbrev places_from : ℕ → List Entry → List Entry → List ℕ
places_from r before es = map place_of (filter (comes_to r) (moments_from before es))

arrival_by : (r place : ℕ) (before : List Entry) (e : Entry) (es : List Entry)
    → ((n : ℕ) → slice_get (drop n (places_from r (before ++ e ∷ []) es)) 0 ≡ Some place → Arrival r place (before ++ e ∷ []) es)
    → (b : Bool) → comes_to r (record { before = before; entry = e }) ≡ b → (n : ℕ)
    → slice_get (drop n (map place_of (cond b (record { before = before; entry = e } ∷ filter (comes_to r) (moments_from (before ++ e ∷ []) es)) (filter (comes_to r) (moments_from (before ++ e ∷ []) es))))) 0 ≡ Some place
    → Arrival r place before (e ∷ es)
arrival_by r place before e es go true is zero q = record {
  earlier = [];
  event = e;
  rest = es;
  cut = refl;
  place_is = ap (λ xs. length xs) (append-nil before) ∙ some_is (length before) place q;
  comes = ap (λ xs. comes_to r (record { before = xs; entry = e })) (append-nil before) ∙ is;
}
arrival_by r place before e es go true is (suc n) q = arrival_later r place before e es (go n q)
arrival_by r place before e es go false is n q = arrival_later r place before e es (go n q)

abbrev no_places : List ℕ
no_places = []

drop_nothing : (n place : ℕ) → slice_get (drop n no_places) 0 ≡ Some place → None ≡ Some place
drop_nothing zero place q = q
drop_nothing (suc n) place q = q

arrival_from : (r place : ℕ) (before es : List Entry) (n : ℕ) → slice_get (drop n (places_from r before es)) 0 ≡ Some place → Arrival r place before es
arrival_from r place before [] n q = none_some place (drop_nothing n place q)
arrival_from r place before (e ∷ es) n q =
    arrival_by r place before e es (λ m p. arrival_from r place (before ++ e ∷ []) es m p) (comes_to r (record { before = before; entry = e })) refl n q

-- an event for run r, by its call, run and reply
pub data Made (before : List Entry) (r : ℕ) : Option ℕ → Call → Reply → Type 0 where
  sent : (run : Option ℕ) (to : Option ℕ) (class value : ℤ) → Made before r run (Send to class value) (Queued r)
  ended : (run : ℕ) (end : _) (reply : Reply) → parent_of run before ≡ Some r → Made before r (Some run) (Finish end) reply

made_by : (before : List Entry) (r : ℕ) (run : Option ℕ) (call : Call) (reply : Reply) → receiver_of before run call reply ≡ Some r → Made before r run call reply
made_by before r run (Send to class value) (Queued receiver) q =
    subst (λ m. Made before r run (Send to class value) (Queued m)) (sym (some_is receiver r q)) (sent run to class value)
made_by before r (Some run) (Finish end) reply q = ended run end reply q
made_by before r run call reply q = none_some r q

event_is : (before : List Entry) (r place : ℕ) (run : Option ℕ) (call : Call) (reply : Reply) (lane : ℕ) (event : Event) → Made before r run call reply
    → event_of place call ≡ Some event
    → IsSent (record { lane = lane; run = run; call = call; reply = reply }) r event.class event.value
    ⊎ IsEnd before (record { lane = lane; run = run; call = call; reply = reply }) r event.class event.value
event_is before r place _ _ _ lane event (sent run to class value) q =
    let e : Entry = record { lane = lane; run = run; call = Send to class value; reply = Queued r } in
    subst (λ (x : Event). IsSent e r x.class x.value ⊎ IsEnd before e r x.class x.value) (some_is _ event q)
    (inl (record { to = to; sent = refl; queued = refl }))
event_is before r place _ _ _ lane event (ended run end reply p) q =
    let e : Entry = record { lane = lane; run = Some run; call = Finish end; reply = reply } in
    subst (λ (x : Event). IsSent e r x.class x.value ⊎ IsEnd before e r x.class x.value) (some_is _ event q)
    (inr (record { run = run; end = end; by = refl; ended = refl; started = p; class_is = refl; value_is = refl }))

-- the event at a place is that of the entry there
at_cut : (earlier : List Entry) (event : Entry) (rest log : List Entry) (place : ℕ) → log ≡ earlier ++ event ∷ rest → length earlier ≡ place
    → event_at place log ≡ event_of place event.call
at_cut earlier event rest log place cut at =
    ap (option_and_then (λ (e : Entry). event_of place e.call)) (
    ap (λ xs. slice_get xs place) cut ∙ ap (slice_get (earlier ++ event ∷ rest)) (sym at) ∙ get_behind earlier event rest
    )

event_from : (log : List Entry) (r : ℕ) (event : Event) → event_at event.place log ≡ Some event → Arrival r event.place [] log
    → IsEvent log event.place r event.class event.value
event_from log r event q a =
    let m = made_by a.earlier r a.event.run a.event.call a.event.reply (is_run-some r _ a.comes) in
    let same = at_cut a.earlier a.event a.rest log event.place a.cut a.place_is in
    record {
      before = a.earlier;
      event = a.event;
      after = a.rest;
      cut = a.cut;
      place_is = a.place_is;
      made = event_is a.earlier r event.place a.event.run a.event.call a.event.reply a.event.lane event m (sym same ∙ q);
    }

abbrev class_taken : Reply → ℤ
class_taken (Took place class value) = class
class_taken _ = pos 0

abbrev value_taken : Reply → ℤ
value_taken (Took place class value) = value
value_taken _ = pos 0

-- an event that is taken was sent to the taker, or is the end of a run that it started
pub taken_is_event : (log : List Entry) (run : Option ℕ) (call : Call) (place : Place) (class value : ℤ)
    → Taker log run call (Took place class value) → IsTaken log run place.0 class value
taken_is_event log run call place class value t =
    let event = t.taking.event in
    let e = event_from log t.taker event t.taking.at (arrival_from t.taker event.place [] log (taken_count t.taker log) t.taking.first) in
    let p : place.0 ≡ event.place = ap place_taken t.taking.reply_is in
    let c : class ≡ event.class = ap class_taken t.taking.reply_is in
    let v : value ≡ event.value = ap value_taken t.taking.reply_is in
    record {
      taker = t.taker;
      by = t.by;
      event =
          subst (λ x. IsEvent log x t.taker class value) (sym p)
          (subst (λ x. IsEvent log event.place t.taker x value) (sym c)
          (subst (λ x. IsEvent log event.place t.taker event.class x) (sym v) e));
    }

-- the entries by which run r took an event
abbrev is_taking : ℕ → Entry → Bool
is_taking r e = is_run r e.run && is_took e.reply

taken_length : (r : ℕ) (log : List Entry) → length (places_taken r log) ≡ taken_count r log
taken_length r log = length-map (filter (is_taking r) log) (λ (e : Entry). place_taken e.reply) ∙ length-filter (is_taking r) log

one_taken : (r : ℕ) (e : Entry) → places_taken r (e ∷ []) ≡ (if is_taking r e then place_taken e.reply ∷ [] else [])
one_taken r e = elim (is_taking r e) as (λ b. map (λ (x : Entry). place_taken x.reply) (cond b (e ∷ []) []) ≡ cond b (place_taken e.reply ∷ []) []) [ true ↦ refl | false ↦ refl ]

taken-snoc : (r : ℕ) (log : List Entry) (e : Entry) → places_taken r (log ++ e ∷ []) ≡ places_taken r log ++ places_taken r (e ∷ [])
taken-snoc r log e =
    ap (map (λ (x : Entry). place_taken x.reply)) (filter-append (is_taking r) log (e ∷ []))
    ∙ map-append (λ (x : Entry). place_taken x.reply) (filter (is_taking r) log) (filter (is_taking r) (e ∷ []))

arrivals-snoc : (r : ℕ) (log : List Entry) (e : Entry)
    → arrivals r (log ++ e ∷ []) ≡ arrivals r log ++ map place_of (filter (comes_to r) (record { before = log; entry = e } ∷ []))
arrivals-snoc r log e =
    ap (λ ms. map place_of (filter (comes_to r) ms)) (moments-snoc log e)
    ∙ ap (map place_of) (filter-append (comes_to r) (moments log) (record { before = log; entry = e } ∷ []))
    ∙ map-append place_of (filter (comes_to r) (moments log)) (filter (comes_to r) (record { before = log; entry = e } ∷ []))

-- the rest begins with the queue's first
rest_first : (r place : ℕ) (log : List Entry) (rest : List ℕ) → arrivals r log ≡ places_taken r log ++ rest → first_event r log ≡ Some place → rest ≡ place ∷ tail_of rest
rest_first r place log rest q first =
    let left : drop (taken_count r log) (arrivals r log) ≡ rest =
    ap (λ n. drop n (arrivals r log)) (sym (taken_length r log)) ∙ ap (drop (length (places_taken r log))) q ∙ drop-append_seam (places_taken r log) rest in
    first_is rest place (ap (λ xs. slice_get xs 0) (sym left) ∙ first)

order_by : (r : ℕ) (log : List Entry) (e : Entry) (rest : List ℕ) → arrivals r log ≡ places_taken r log ++ rest → Follows log e
    → (b : Bool) → is_taking r e ≡ b → (more : List ℕ) × (arrivals r (log ++ e ∷ []) ≡ places_taken r (log ++ e ∷ []) ++ more)
order_by r log e rest q f false is =
    let new = map place_of (filter (comes_to r) (record { before = log; entry = e } ∷ [])) in
    let none : places_taken r (e ∷ []) ≡ [] = one_taken r e ∙ ap (λ b. if b then place_taken e.reply ∷ [] else []) is in (
      rest ++ new,
      arrivals-snoc r log e
          ∙ ap (λ xs. xs ++ new) q
          ∙ append_assoc (places_taken r log) rest new
          ∙ ap (λ xs. xs ++ (rest ++ new)) (sym (taken-snoc r log e ∙ ap (λ xs. places_taken r log ++ xs) none ∙ append-nil (places_taken r log))),
    )
order_by r log e rest q f true is =
    let both = enter.and_true (is_run r e.run) (is_took e.reply) is in
    let t = takes log e f both.1 in
    let same : t.taker ≡ r = some_is t.taker r (sym t.by ∙ is_run-some r e.run both.0) in
    let at : place_taken e.reply ≡ t.taking.event.place = ap place_taken t.taking.reply_is in
    let first : first_event r log ≡ Some (place_taken e.reply) =
    ap (λ k. first_event k log) (sym same) ∙ t.taking.first ∙ ap Some (sym at) in
    let head = rest_first r (place_taken e.reply) log rest q first in
    let new = map place_of (filter (comes_to r) (record { before = log; entry = e } ∷ [])) in
    let one : places_taken r (e ∷ []) ≡ place_taken e.reply ∷ [] = one_taken r e ∙ ap (λ b. if b then place_taken e.reply ∷ [] else []) is in (
      tail_of rest ++ new,
      arrivals-snoc r log e
          ∙ ap (λ xs. xs ++ new) (q ∙ ap (λ xs. places_taken r log ++ xs) head)
          ∙ append_assoc (places_taken r log) (place_taken e.reply ∷ tail_of rest) new
          ∙ sym (append_assoc (places_taken r log) (place_taken e.reply ∷ []) (tail_of rest ++ new))
          ∙ ap (λ xs. xs ++ (tail_of rest ++ new)) (sym (taken-snoc r log e ∙ ap (λ xs. places_taken r log ++ xs) one)),
    )

order_first : (r : ℕ) (e : Entry) → IsOpening e → (rest : List ℕ) × (arrivals r (e ∷ []) ≡ places_taken r (e ∷ []) ++ rest)
order_first r e o =
    let none : places_taken r (e ∷ []) ≡ [] =
    one_taken r e ∙ ap (λ k. if is_run r k && is_took e.reply then place_taken e.reply ∷ [] else []) o.run in
    (arrivals r (e ∷ []), sym (ap (λ xs. xs ++ arrivals r (e ∷ [])) none))

-- what a run took is a beginning of what came to it
pub in_order : (journal : List Entry) → IsLegal journal → TakesInOrder journal
in_order = legal_induct TakesInOrder
    (λ e o r. order_first r e o)
    (λ log e p f r. order_by r log e (p r).0 (p r).1 f (is_taking r e) refl)

-- places that rise, from n on
abbrev Rises : ℕ → List ℕ → Type 0
Rises n [] = Unit {0}
Rises n (x ∷ xs) = (n ≤ x) × Rises (x + 1) xs

rises_less : (m n : ℕ) (xs : List ℕ) → m ≤ n → Rises n xs → Rises m xs
rises_less m n [] l h = tt
rises_less m n (x ∷ xs) l h = (let a = h.0 in omega (arith, l, a), h.1)

rises_by : (before : List Entry) (e : Entry) (rest : List Moment) (b : Bool) → Rises (length (before ++ e ∷ [])) (map place_of rest)
    → Rises (length before) (map place_of (cond b (record { before = before; entry = e } ∷ rest) rest))
rises_by before e rest true h =
    let l : length (before ++ e ∷ []) ≡ length before + 1 = length-append before (e ∷ []) in
    (omega arith, subst (λ n. Rises n (map place_of rest)) l h)
rises_by before e rest false h =
    let l : length (before ++ e ∷ []) ≡ length before + 1 = length-append before (e ∷ []) in
    rises_less (length before) (length (before ++ e ∷ [])) (map place_of rest) (omega (arith, l)) h

places_rise : (r : ℕ) (before es : List Entry) → Rises (length before) (places_from r before es)
places_rise r before [] = tt
places_rise r before (e ∷ es) =
    rises_by before e (filter (comes_to r) (moments_from (before ++ e ∷ []) es)) (comes_to r (record { before = before; entry = e })) (places_rise r (before ++ e ∷ []) es)

above : (n p q : ℕ) (xs ys : List ℕ) → n ≤ p → Rises p (xs ++ q ∷ ys) → p ≤ q
above n p q [] ys l h = h.0
above n p q (x ∷ xs) ys l h =
    let a = h.0 in
    let b = above (x + 1) (x + 1) q xs ys (omega arith) h.1 in
    omega (arith, a, b)

pair_rises : (n p q : ℕ) (xs ys zs : List ℕ) → Rises n (xs ++ p ∷ (ys ++ q ∷ zs)) → p < q
pair_rises n p q [] ys zs h = let a = above (p + 1) (p + 1) q ys zs (omega arith) h.1 in omega (arith, a)
pair_rises n p q (x ∷ xs) ys zs h = pair_rises (x + 1) p q xs ys zs h.1

taken-append : (r : ℕ) (xs ys : List Entry) → places_taken r (xs ++ ys) ≡ places_taken r xs ++ places_taken r ys
taken-append r xs ys =
    ap (map (λ (x : Entry). place_taken x.reply)) (filter-append (is_taking r) xs ys)
    ∙ map-append (λ (x : Entry). place_taken x.reply) (filter (is_taking r) xs) (filter (is_taking r) ys)

-- the event that an entry takes came to the taker
pub record TakesEvent (log : List Entry) (e : Entry) : Type 0 where
  pub taker : ℕ
  pub by : is_taking taker e ≡ true
  pub first : first_event taker log ≡ Some (place_taken e.reply)
  pub came : Arrival taker (place_taken e.reply) [] log

takes_event : (log : List Entry) (e : Entry) → Follows log e → is_took e.reply ≡ true → TakesEvent log e
takes_event log e f t =
    let k = takes log e f t in
    let at : place_taken e.reply ≡ k.taking.event.place = ap place_taken k.taking.reply_is in
    let first : first_event k.taker log ≡ Some (place_taken e.reply) = k.taking.first ∙ ap Some (sym at) in
    record {
      taker = k.taker;
      by = ap (λ o. is_run k.taker o && is_took e.reply) k.by ∙ ap (λ b. b && is_took e.reply) (eq-eqb k.taker k.taker refl) ∙ t;
      first = first;
      came = arrival_from k.taker (place_taken e.reply) [] log (taken_count k.taker log) first;
    }

-- one place of a journal and of a beginning of it is one entry's
same_receiver : (r s place : ℕ) (log more : List Entry) → Arrival r place [] log → Arrival s place [] (log ++ more) → r ≡ s
same_receiver r s place log more a b =
    let longer : log ++ more ≡ a.earlier ++ a.event ∷ (a.rest ++ more) =
    ap (λ xs. xs ++ more) a.cut ∙ append_assoc a.earlier (a.event ∷ a.rest) more in
    let same = same_cut a.earlier b.earlier (a.rest ++ more) b.rest a.event b.event (sym longer ∙ b.cut) (a.place_is ∙ sym b.place_is) in
    let ra = is_run-some r _ a.comes in
    let rb = is_run-some s _ b.comes in
    some_is r s (sym ra ∙ ap (λ xs. receiver_of xs a.event.run a.event.call a.event.reply) same.0 ∙ ap (λ (x : Entry). receiver_of b.earlier x.run x.call x.reply) same.1 ∙ rb)

-- two entries of one run, one after the other, take different events
apart_by : (r : ℕ) (before between : List Entry) (e f : Entry) → IsLegal (before ++ e ∷ between) → is_taking r e ≡ true
    → first_event r (before ++ e ∷ between) ≡ Some (place_taken f.reply) → place_taken e.reply < place_taken f.reply
apart_by r before between e f h takes_e first =
    let log = before ++ e ∷ between in
    let o = in_order log h r in
    let head = rest_first r (place_taken f.reply) log o.0 o.1 first in
    let one : places_taken r (e ∷ []) ≡ place_taken e.reply ∷ [] = one_taken r e ∙ ap (λ b. if b then place_taken e.reply ∷ [] else []) takes_e in
    let tail : places_taken r (e ∷ between) ≡ place_taken e.reply ∷ places_taken r between =
    taken-append r (e ∷ []) between ∙ ap (λ xs. xs ++ places_taken r between) one in
    let whole : arrivals r log ≡ places_taken r before ++ place_taken e.reply ∷ (places_taken r between ++ place_taken f.reply ∷ tail_of o.0) =
    o.1
    ∙ ap (λ xs. places_taken r log ++ xs) head
    ∙ ap (λ xs. xs ++ place_taken f.reply ∷ tail_of o.0) (taken-append r before (e ∷ between) ∙ ap (λ xs. places_taken r before ++ xs) tail)
    ∙ append_assoc (places_taken r before) (place_taken e.reply ∷ places_taken r between) (place_taken f.reply ∷ tail_of o.0) in
    pair_rises 0 (place_taken e.reply) (place_taken f.reply) (places_taken r before) (places_taken r between) (tail_of o.0) (subst (Rises 0) whole (places_rise r [] log))

-- no event is taken twice
pub taken_apart : (before between : List Entry) (e f : Entry) → IsLegal (before ++ e ∷ between) → Follows before e → Follows (before ++ e ∷ between) f
    → is_took e.reply ≡ true → is_took f.reply ≡ true → place_taken e.reply ≢ place_taken f.reply
taken_apart before between e f h fe ff te tf = λ same.
    let a = takes_event before e fe te in
    let b = takes_event (before ++ e ∷ between) f ff tf in
    let came : Arrival b.taker (place_taken e.reply) [] (before ++ e ∷ between) =
    subst (λ p. Arrival b.taker p [] (before ++ e ∷ between)) (sym same) b.came in
    let r : a.taker ≡ b.taker = same_receiver a.taker b.taker (place_taken e.reply) before (e ∷ between) a.came came in
    let less = apart_by b.taker before between e f h (subst (λ k. is_taking k e ≡ true) r a.by) b.first in
    absurd (omega (arith, less, same))

none_opens : (e : Entry) → IsOpening e → is_took e.reply ≡ true → ⊥
none_opens e o t = false_true (sym (ap is_took o.reply) ∙ t)

once_cut : (before between : List Entry) (e f : Entry) → IsCut before e → IsCut (before ++ e ∷ between) f
    → is_took e.reply ≡ true → is_took f.reply ≡ true → place_taken e.reply ≢ place_taken f.reply
once_cut before between e f (cut_opens none o) g te tf = absurd (none_opens e o te)
once_cut before between e f (cut_follows h k) (cut_opens none o) te tf = absurd (none_opens f o tf)
once_cut before between e f (cut_follows h k) (cut_follows g l) te tf = taken_apart before between e f g k l te tf

pub taken_once : (journal : List Entry) → IsLegal journal → TakesOnce journal
taken_once journal h before between after e f cut te tf =
    let whole : journal ≡ before ++ e ∷ (between ++ f ∷ after) = cut ∙ append_assoc before (e ∷ between) (f ∷ after) in
    once_cut before between e f (legal_cut before (between ++ f ∷ after) e (subst IsLegal whole h))
    (legal_cut (before ++ e ∷ between) after f (subst IsLegal cut h)) te tf
