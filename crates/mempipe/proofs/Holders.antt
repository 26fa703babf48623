-- Who holds an end of a pipe, with one entry more.

use Rattle.std.proofs.Common.{◌≡◌, ◌<◌, ◌+◌, ℕ, Bool, true, false, not, ◌&&◌, ◌||◌, cond, List, [], ◌∷◌, ◌++◌, Option, Some, None, refl, sym, ap, ◌∙◌, length, map, arith, nat_eq, nat_lt, append-nil}
use Rattle.std.specs.Prelude.{is_some, filter, if◌then◌else◌}
use Rattle.std.specs.Option.{option_map_or}
use Rattle.std.proofs.lemmas.Bool.{lt-ltb, le-ltb, eqb-true, eq-eqb}
use Rattle.std.proofs.lemmas.List.{map-append}
use Rattle.std.proofs.lemmas.List.Elements.{filter-append}
use Rattle.std.proofs.lemmas.List.Sums.{fold-append}
use Rattle.std.proofs.lemmas.Option.{none-some, same_Some}
use Rattle.job_calls.specs.declared.call.Call.{Call}
use Rattle.job_calls.specs.declared.call.Call.TheVariants.{PipeOpen}
use Rattle.job_calls.specs.declared.call.Way.{Way}
use Rattle.job_calls.specs.declared.call.Way.TheVariants.{Reads, Writes}
use Rattle.job_calls.specs.declared.reply.Reply.{Reply}
use Rattle.job_calls.specs.declared.entry.Entry.{Entry}
use Rattle.job_calls.specs.Entries.{is_run, is_finish}
use Rattle.job_calls.specs.Pipes.{opened_session, opens, is_close, lets_go, closes, holder_after, holder}
use Rattle.job_calls.specs.Fitting.{exchange_of, holds_after, holds}
use Rattle.growing_lists.specs.Growing.{last_place-snoc}
use Rattle.mempipe.specs.declared.hold.Hold.{Hold}
use Rattle.mempipe.specs.declared.ends.Ends.{Ends}
use Rattle.mempipe.specs.States.{hold_of, holds_from, is_closed_by, hold_after, ends_after}
use Rattle.mempipe.specs.Index.{last_finish, holder_by}
use Rattle.mempipe.proofs.Places.{place_below, longer}
use Rattle.mempipe.proofs.Answered.{IsFree, false_true}
use Rattle.mempipe.proofs.Touches.{and_no}

holder-snoc : (way : Way) (name : List ℕ) (journal : List Entry) (e : Entry) → holder way name (journal ++ e ∷ []) ≡ holder_after way name (holder way name journal) e
holder-snoc way name journal e = fold-append (holder_after way name) None journal (e ∷ [])

-- the place at which a run last finished
finish-snoc : (k : ℕ) (journal : List Entry) (e : Entry)
    → last_finish k (journal ++ e ∷ []) ≡ (if is_run k e.run && is_finish e.call then Some (length journal) else last_finish k journal)
finish-snoc k journal e = last_place-snoc (λ x. is_run k x.run && is_finish x.call) journal e

-- an end that is opened now is held
opening_finish : (way : Way) (name : List ℕ) (call : Call) (reply : Reply) → is_some (opened_session way name call reply) ≡ true → is_finish call ≡ false
opening_finish way name (PipeOpen other end) reply e = refl
opening_finish way name call reply e = absurd (false_true e)

not_gone : (o : Option ℕ) (n : ℕ) → ((p : ℕ) → o ≡ Some p → p < n) → option_map_or (nat_lt n) o false ≡ false
not_gone None n below = refl
not_gone (Some p) n below = le-ltb n p (let less = below p refl in omega (arith, less))

open_held : (run : Option ℕ) (n : ℕ) (finished : ℕ → Option ℕ) → ((k p : ℕ) → finished k ≡ Some p → p < n) → holder_by finished (holds_from run n) ≡ run
open_held None n finished below = refl
open_held (Some k) n finished below = ap (λ b. if b then None else Some k) (not_gone (finished k) n (below k))

-- an end that is not opened
closes_by : (own close finish gone : Bool) (run since n : ℕ) (o : Option ℕ) → since < n → option_map_or (nat_lt since) o false ≡ gone
    → (if own && close then None else (if option_map_or (nat_lt since) (if own && finish then Some n else o) false then None else Some run))
    ≡ (if gone then None else (if own && (close || finish) then None else Some run))
closes_by true true finish true run since n o less g = refl
closes_by true true finish false run since n o less g = refl
closes_by true false true true run since n o less g = ap (λ b. if b then None else Some run) (lt-ltb since n less)
closes_by true false true false run since n o less g = ap (λ b. if b then None else Some run) (lt-ltb since n less)
closes_by true false false true run since n o less g = ap (λ b. if b then None else Some run) g
closes_by true false false false run since n o less g = ap (λ b. if b then None else Some run) g
closes_by false close finish true run since n o less g = ap (λ b. if b then None else Some run) g
closes_by false close finish false run since n o less g = ap (λ b. if b then None else Some run) g

-- who held an end, and lets go or does not
let_go_by : (name : List ℕ) (e : Entry) (gone : Bool) (run : ℕ)
    → (if gone then None else (if is_run run e.run && lets_go name e.call e.reply then None else Some run))
    ≡ (if closes name (if gone then None else Some run) e then None else (if gone then None else Some run))
let_go_by name e true run = refl
let_go_by name e false run = refl

inside : (b : Bool) (finished : ℕ → Option ℕ) (hold : Hold) → holder_by finished (if b then None else Some hold) ≡ (if b then None else holder_by finished (Some hold))
inside true finished hold = refl
inside false finished hold = refl

kept_held : (name : List ℕ) (hold : Option Hold) (finished later : ℕ → Option ℕ) (n : ℕ) (e : Entry)
    → ((k : ℕ) → later k ≡ (if is_run k e.run && is_finish e.call then Some n else finished k)) → ((h : Hold) → hold ≡ Some h → h.since < n)
    → holder_by later (if is_closed_by name hold e then None else hold)
    ≡ (if closes name (holder_by finished hold) e then None else holder_by finished hold)
kept_held name None finished later n e next since = refl
kept_held name (Some h) finished later n e next since =
    let own = is_run h.run e.run in
    let close = is_close name e.call e.reply in
    let gone = option_map_or (nat_lt h.since) (finished h.run) false in
    inside (own && close) later h
    ∙ ap (λ o. if own && close then None else (if option_map_or (nat_lt h.since) o false then None else Some h.run)) (next h.run)
    ∙ closes_by own close (is_finish e.call) gone h.run h.since n (finished h.run) (since h refl) refl
    ∙ let_go_by name e gone h.run

held_by : (way : Way) (name : List ℕ) (hold : Option Hold) (journal : List Entry) (e : Entry) (b : Bool) → opens way name e ≡ b
    → ((h : Hold) → hold ≡ Some h → h.since < length journal)
    → holder_by (λ k. last_finish k (journal ++ e ∷ [])) (if b then holds_from e.run (length journal) else (if is_closed_by name hold e then None else hold))
    ≡ (if b then e.run else (if closes name (holder_by (λ k. last_finish k journal) hold) e then None else holder_by (λ k. last_finish k journal) hold))
held_by way name hold journal e true is since =
    open_held e.run (length journal) (λ k. last_finish k (journal ++ e ∷ []))
    (λ k p q. place_below (λ x. is_run k x.run && is_finish x.call) journal p
    (sym (finish-snoc k journal e ∙ ap (λ b. if is_run k e.run && b then Some (length journal) else last_finish k journal) (opening_finish way name e.call e.reply is)
    ∙ ap (λ b. if b then Some (length journal) else last_finish k journal) (and_no (is_run k e.run))) ∙ q))
held_by way name hold journal e false is since =
    kept_held name hold (λ k. last_finish k journal) (λ k. last_finish k (journal ++ e ∷ [])) (length journal) e (λ k. finish-snoc k journal e) since

-- the holder of an end, by who opened it
pub holder_noted : (way : Way) (name : List ℕ) (hold : Option Hold) (journal : List Entry) (e : Entry)
    → ((h : Hold) → hold ≡ Some h → h.since < length journal) → holder_by (λ k. last_finish k journal) hold ≡ holder way name journal
    → holder_by (λ k. last_finish k (journal ++ e ∷ [])) (hold_after way name (length journal) hold e) ≡ holder way name (journal ++ e ∷ [])
holder_noted way name hold journal e since held =
    held_by way name hold journal e (opens way name e) refl since
    ∙ ap (λ h. holder_after way name h e) held
    ∙ sym (holder-snoc way name journal e)

from_since : (run : Option ℕ) (n : ℕ) (h : Hold) → holds_from run n ≡ Some h → h.since ≡ n
from_since None n h e = absurd (none-some h e)
from_since (Some k) n h e = ap (λ (x : Hold). x.since) (sym (same_Some _ h e))

since_by : (open_now closed : Bool) (run : Option ℕ) (hold : Option Hold) (n : ℕ) (h : Hold) → ((x : Hold) → hold ≡ Some x → x.since < n)
    → (if open_now then holds_from run n else (if closed then None else hold)) ≡ Some h → h.since < n + 1
since_by true closed run hold n h since e = let same = from_since run n h e in omega (arith, same)
since_by false true run hold n h since e = absurd (none-some h e)
since_by false false run hold n h since e = let less = since h e in omega (arith, less)

-- since when
pub since_noted : (way : Way) (name : List ℕ) (hold : Option Hold) (journal : List Entry) (e : Entry) (h : Hold)
    → ((x : Hold) → hold ≡ Some x → x.since < length journal) → hold_after way name (length journal) hold e ≡ Some h → h.since < length (journal ++ e ∷ [])
since_noted way name hold journal e h since q =
    let less = since_by (opens way name e) (is_closed_by name hold e) e.run hold (length journal) h since q in
    let more = longer journal e in
    omega (arith, less, more)

-- the end by its way
pub hold_is : (way : Way) (name : List ℕ) (place : ℕ) (ends : Ends) (e : Entry) → hold_of way (ends_after name place ends e) ≡ hold_after way name place (hold_of way ends) e
hold_is Reads name place ends e = refl
hold_is Writes name place ends e = refl

one_or_none : (b : Bool) (e : Entry) → map {B = Call × Reply} (λ (x : Entry). (x.call, x.reply)) (cond b (e ∷ []) []) ≡ (if b then (e.call, e.reply) ∷ [] else [])
one_or_none true e = refl
one_or_none false e = refl

exchange-snoc : (k : ℕ) (journal : List Entry) (e : Entry)
    → exchange_of k (journal ++ e ∷ []) ≡ exchange_of k journal ++ (if is_run k e.run then (e.call, e.reply) ∷ [] else [])
exchange-snoc k journal e =
    ap (map {B = Call × Reply} (λ (x : Entry). (x.call, x.reply))) (filter-append (λ (x : Entry). is_run k x.run) journal (e ∷ []))
    ∙ map-append {B = Call × Reply} (λ (x : Entry). (x.call, x.reply)) (filter (λ (x : Entry). is_run k x.run) journal) (filter (λ (x : Entry). is_run k x.run) (e ∷ []))
    ∙ ap (λ xs. exchange_of k journal ++ xs) (one_or_none (is_run k e.run) e)

run_is : (k : ℕ) (o : Option ℕ) → is_run k o ≡ true → o ≡ Some k
run_is k None e = absurd (false_true e)
run_is k (Some run) e = ap Some (eqb-true run k e)

none_held : (k : ℕ) (o : Option ℕ) → is_some o ≡ false → is_run k o ≡ false
none_held k None e = refl
none_held k (Some run) e = absurd (false_true (sym e))

was_none : (way : Way) (name : List ℕ) (journal : List Entry) (place : ℕ) → IsFree way name journal place → is_some (holder way name journal) ≡ false
was_none Reads name journal place free = free
was_none Writes name journal place free = free.0

other_holder : (k run : ℕ) (caller : Option ℕ) (go : Bool) → is_run k caller ≡ false → (b : Bool) → nat_eq run k ≡ b
    → b ≡ nat_eq run k → nat_eq run k ≡ is_run k (if is_run run caller && go then None else Some run)
other_holder k run caller go other true e q =
    let same = eqb-true run k e in
    ap (λ b. is_run k (if b && go then None else Some run)) (sym (ap (λ r. is_run r caller) same ∙ other))
other_holder k run caller go other false e q = e ∙ by (is_run run caller && go) where
  by : (b : Bool) → false ≡ is_run k (if b then None else Some run)
  by true = refl
  by false = sym e

-- a run that does not call keeps what it holds
held_other : (name : List ℕ) (k : ℕ) (held : Option ℕ) (e : Entry) → is_run k e.run ≡ false → is_run k held ≡ is_run k (if closes name held e then None else held)
held_other name k None e other = refl
held_other name k (Some run) e other = other_holder k run e.run (lets_go name e.call e.reply) other (nat_eq run k) refl refl

caller_by : (k run : ℕ) (go : Bool) (b : Bool) → nat_eq run k ≡ b → (nat_eq run k && not go) ≡ is_run k (if nat_eq k run && go then None else Some run)
caller_by k run true true e =
    ap (λ b. b && false) e ∙ ap (λ b. is_run k (if b && true then None else Some run)) (sym (eq-eqb k run (sym (eqb-true run k e))))
caller_by k run false true e = ap (λ b. b && true) e ∙ sym e ∙ by (nat_eq k run) where
  by : (b : Bool) → nat_eq run k ≡ is_run k (if b && false then None else Some run)
  by true = refl
  by false = refl
caller_by k run go false e = ap (λ b. b && not go) e ∙ by (nat_eq k run && go) where
  by : (b : Bool) → false ≡ is_run k (if b then None else Some run)
  by true = refl
  by false = sym e

-- a run that calls keeps what it holds and does not let go
held_caller : (name : List ℕ) (k : ℕ) (held : Option ℕ) (e : Entry) → e.run ≡ Some k
    → (is_run k held && not (lets_go name e.call e.reply)) ≡ is_run k (if closes name held e then None else held)
held_caller name k None e own = refl
held_caller name k (Some run) e own =
    caller_by k run (lets_go name e.call e.reply) (nat_eq run k) refl
    ∙ ap (λ o. is_run k (if is_run run o && lets_go name e.call e.reply then None else Some run)) (sym own)

holds_own : (way : Way) (name : List ℕ) (k : ℕ) (journal : List Entry) (e : Entry) (b : Bool) → opens way name e ≡ b → e.run ≡ Some k
    → (b || (is_run k (holder way name journal) && not (lets_go name e.call e.reply)))
    ≡ is_run k (if b then e.run else (if closes name (holder way name journal) e then None else holder way name journal))
holds_own way name k journal e true is own = sym (ap (is_run k) own ∙ eq-eqb k k refl)
holds_own way name k journal e false is own = held_caller name k (holder way name journal) e own

holds_other : (way : Way) (name : List ℕ) (k : ℕ) (journal : List Entry) (e : Entry) (o : Option ℕ) → opened_session way name e.call e.reply ≡ o
    → ((place : ℕ) → o ≡ Some place → IsFree way name journal place) → is_run k e.run ≡ false
    → is_run k (holder way name journal) ≡ is_run k (if is_some o then e.run else (if closes name (holder way name journal) e then None else holder way name journal))
holds_other way name k journal e None is free other = held_other name k (holder way name journal) e other
holds_other way name k journal e (Some place) is free other =
    none_held k (holder way name journal) (was_none way name journal place (free place refl)) ∙ sym other

holds_by : (way : Way) (name : List ℕ) (k : ℕ) (journal : List Entry) (e : Entry)
    → ((place : ℕ) → opened_session way name e.call e.reply ≡ Some place → IsFree way name journal place)
    → holds way name (exchange_of k journal) ≡ is_run k (holder way name journal) → (b : Bool) → is_run k e.run ≡ b
    → holds way name (exchange_of k journal ++ (if b then (e.call, e.reply) ∷ [] else [])) ≡ is_run k (holder_after way name (holder way name journal) e)
holds_by way name k journal e free held true own =
    fold-append (holds_after way name) false (exchange_of k journal) ((e.call, e.reply) ∷ [])
    ∙ ap (λ b. opens way name e || (b && not (lets_go name e.call e.reply))) held
    ∙ holds_own way name k journal e (opens way name e) refl (run_is k e.run own)
holds_by way name k journal e free held false other =
    ap (holds way name) (append-nil (exchange_of k journal))
    ∙ held
    ∙ holds_other way name k journal e (opened_session way name e.call e.reply) refl free other

-- what a run holds by what it was told
pub holds_noted : (way : Way) (name : List ℕ) (k : ℕ) (journal : List Entry) (e : Entry)
    → ((place : ℕ) → opened_session way name e.call e.reply ≡ Some place → IsFree way name journal place)
    → holds way name (exchange_of k journal) ≡ is_run k (holder way name journal)
    → holds way name (exchange_of k (journal ++ e ∷ [])) ≡ is_run k (holder way name (journal ++ e ∷ []))
holds_noted way name k journal e free held =
    ap (holds way name) (exchange-snoc k journal e)
    ∙ holds_by way name k journal e free held (is_run k e.run) refl
    ∙ ap (is_run k) (sym (holder-snoc way name journal e))
