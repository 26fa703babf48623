-- What a journal says of runs and their events, with one more entry.

use Rattle.std.proofs.Common.{◌≡◌, ◌≤◌, ◌-◌, ℕ, suc, zero, ◌+◌, Bool, true, false, ◌&&◌, ◌||◌, cond, List, [], ◌∷◌, ◌++◌, Option, Some, None, refl, sym, ap, subst, ◌∙◌, length, length-append, drop, map, arith}
use Rattle.std.specs.Prelude.{filter, nat_eq, option_and_then, if◌then◌else◌}
use Rattle.std.proofs.lemmas.List.{map-append, drop-append-le, length-map}
use Rattle.std.proofs.lemmas.List.Sums.{length-filter}
use Rattle.std.proofs.lemmas.List.Elements.{filter-append}
use Rattle.job_calls.specs.declared.call.Call.{Call}
use Rattle.job_calls.specs.declared.call.Call.TheVariants.{Finish, Run as Begin, Send}
use Rattle.job_calls.specs.declared.reply.Reply.{Reply}
use Rattle.job_calls.specs.declared.reply.Reply.TheVariants.{Queued, Started}
use Rattle.job_calls.specs.declared.entry.Entry.{Entry}
use Rattle.job_calls.specs.Moments.{Moment, moments, place_of}
use Rattle.job_calls.specs.Entries.{is_run, is_finish, is_finished}
use Rattle.job_calls.specs.Runs.{Start, last_of, start_by, start_of_run}
use Rattle.job_calls.specs.Models.{parent_of}
use Rattle.job_calls.specs.Events.{receiver_of, comes_to, arrivals, is_took, taken_count, queue}
use Rattle.job_calls.specs.Legal.{IsLegal}
use Rattle.job_laws.specs.Order.{TakesInOrder, place_taken, places_taken}
use Rattle.growing_lists.specs.Growing.{last_given-snoc, as_number, count-snoc, any-snoc, moments-snoc}
use Rattle.growing_lists.specs.Journals.{IsNext, first_entry, next_entry, is_next}
use Rattle.event_queue.specs.declared.run.Run.{Run}
use Rattle.event_queue.specs.Runs.{parent_at, places_at}
use Rattle.event_queue.specs.Steps.{place_for}
use Rattle.event_queue.specs.Deeds.{deed_of, receiver, starter, ender}

and_yes : (b : Bool) → (b && true) ≡ b
and_yes true = refl
and_yes false = refl

and_no : (b : Bool) → (b && false) ≡ false
and_no true = refl
and_no false = refl

one_or_none : (f : Moment → Bool) (m : Moment) → map place_of (filter f (m ∷ [])) ≡ (if f m then place_of m ∷ [] else [])
one_or_none f m = elim (f m) as (λ b. map place_of (cond b (m ∷ []) []) ≡ cond b (place_of m ∷ []) []) [ true ↦ refl | false ↦ refl ]

-- the events of a run
arrivals-snoc : (k : ℕ) (journal : List Entry) (e : Entry)
    → arrivals k (journal ++ e ∷ []) ≡ arrivals k journal ++ place_for k (receiver_of journal e.run e.call e.reply) (length journal)
arrivals-snoc k journal e =
    let last : Moment = record { before = journal; entry = e } in
    ap (λ ms. map place_of (filter (comes_to k) ms)) (moments-snoc journal e)
    ∙ ap (map place_of) (filter-append (comes_to k) (moments journal) (last ∷ []))
    ∙ map-append place_of (filter (comes_to k) (moments journal)) (filter (comes_to k) (last ∷ []))
    ∙ ap (λ more. arrivals k journal ++ more) (one_or_none (comes_to k) last)

drop_suc : (n : ℕ) (xs : List ℕ) → drop (suc n) xs ≡ drop 1 (drop n xs)
drop_suc zero [] = refl
drop_suc zero (x ∷ xs) = refl
drop_suc (suc n) [] = refl
drop_suc (suc n) (x ∷ xs) = drop_suc n xs

taken_by : (b : Bool) (t m : ℕ) (xs ys : List ℕ) → m ≡ t + as_number b → t ≤ length xs
    → drop m (xs ++ ys) ≡ (if b then drop 1 (drop t xs ++ ys) else drop t xs ++ ys)
taken_by true t m xs ys is less =
    let next : m ≡ suc t = omega (arith, is) in
    ap (λ n. drop n (xs ++ ys)) next ∙ drop_suc t (xs ++ ys) ∙ ap (drop 1) (drop-append-le t xs ys less)
taken_by false t m xs ys is less = let same : m ≡ t = omega (arith, is) in ap (λ n. drop n (xs ++ ys)) same ∙ drop-append-le t xs ys less

-- the queue of a run that has taken no more than came
queue-snoc : (k : ℕ) (journal : List Entry) (e : Entry) → taken_count k journal ≤ length (arrivals k journal)
    → queue k (journal ++ e ∷ []) ≡ (if is_run k e.run && is_took e.reply
    then drop 1 (queue k journal ++ place_for k (receiver_of journal e.run e.call e.reply) (length journal))
    else queue k journal ++ place_for k (receiver_of journal e.run e.call e.reply) (length journal))
queue-snoc k journal e less =
    ap (drop (taken_count k (journal ++ e ∷ []))) (arrivals-snoc k journal e)
    ∙ taken_by (is_run k e.run && is_took e.reply) (taken_count k journal) (taken_count k (journal ++ e ∷ [])) (arrivals k journal)
    (place_for k (receiver_of journal e.run e.call e.reply) (length journal))
    (count-snoc (λ e. is_run k e.run && is_took e.reply) journal e) less

taken_length : (k : ℕ) (journal : List Entry) → length (places_taken k journal) ≡ taken_count k journal
taken_length k journal =
    length-map (filter (λ (e : Entry). is_run k e.run && is_took e.reply) journal) (λ (e : Entry). place_taken e.reply)
    ∙ length-filter (λ (e : Entry). is_run k e.run && is_took e.reply) journal

-- a run takes no more than came
enough : (k : ℕ) (journal : List Entry) → TakesInOrder journal → taken_count k journal ≤ length (arrivals k journal)
enough k journal in_order =
    let rest = in_order k in
    let taken = taken_length k journal in
    let sum = ap (λ xs. length xs) rest.1 ∙ length-append (places_taken k journal) rest.0 in
    omega (arith, taken, sum)

enough_before : (k : ℕ) (journal : List Entry) (e : Entry) → ((log : List Entry) → IsLegal log → TakesInOrder log) → IsNext journal e
    → taken_count k journal ≤ length (arrivals k journal)
enough_before k journal e law (first_entry none opens) =
    subst (λ log. taken_count k log ≤ length (arrivals k log)) (sym none) (omega arith)
enough_before k journal e law (next_entry is goes_on) = enough k journal (law journal is)

-- the queue of a run in a legal journal
pub queue_noted : (k : ℕ) (journal : List Entry) (e : Entry) → ((log : List Entry) → IsLegal log → TakesInOrder log) → IsLegal (journal ++ e ∷ [])
    → queue k (journal ++ e ∷ []) ≡ (if is_run k e.run && is_took e.reply
    then drop 1 (queue k journal ++ place_for k (receiver_of journal e.run e.call e.reply) (length journal))
    else queue k journal ++ place_for k (receiver_of journal e.run e.call e.reply) (length journal))
queue_noted k journal e law is_legal = queue-snoc k journal e (enough_before k journal e law (is_next journal e is_legal))

parent_if : (b : Bool) (s : Start) → option_and_then (λ (s : Start). s.parent) (if b then Some s else None) ≡ (if b then s.parent else None)
parent_if true s = refl
parent_if false s = refl

none_if : (b : Bool) (o : Option ℕ) → o ≡ None → (if b then o else None) ≡ None
none_if true o none = none
none_if false o none = refl

-- the parent that an entry gives a run
starter_is : (k : ℕ) (run : Option ℕ) (call : Call) (reply : Reply)
    → option_and_then (λ (s : Start). s.parent) (option_and_then (λ (s : Start). if nat_eq s.run k then Some s else None) (start_by run call reply)) ≡ starter k (deed_of run call reply)
starter_is k (Some caller) (Begin model params) (Started run) = parent_if (nat_eq run k) _
starter_is k None (Begin model params) (Started run) = parent_if (nat_eq run k) _ ∙ none_if (nat_eq run k) None refl
starter_is k run (Send to class value) (Queued taker) = refl
starter_is k (Some run) (Finish end) reply = refl
starter_is k run call reply = refl

-- the parent of a run
pub parent_noted : (k : ℕ) (journal : List Entry) (e : Entry) → parent_of k (journal ++ e ∷ []) ≡ last_of (parent_of k journal) (starter k (deed_of e.run e.call e.reply))
parent_noted k journal e =
    last_given-snoc (λ e. option_and_then (λ (s : Start). s.parent) (start_of_run k e)) journal e ∙ ap (last_of (parent_of k journal)) (starter_is k e.run e.call e.reply)

ender_is : (k : ℕ) (run : Option ℕ) (call : Call) (reply : Reply) → (is_run k run && is_finish call) ≡ is_run k (ender (deed_of run call reply))
ender_is k run (Send to class value) (Queued taker) = and_no (is_run k run)
ender_is k (Some caller) (Begin model params) (Started run) = and_no (is_run k (Some caller))
ender_is k (Some run) (Finish end) reply = and_yes (is_run k (Some run))
ender_is k None (Finish end) reply = refl
ender_is k run call reply = and_no (is_run k run)

-- whether a run has ended
pub ended_noted : (k : ℕ) (journal : List Entry) (e : Entry) → is_finished k (journal ++ e ∷ []) ≡ (is_finished k journal || is_run k (ender (deed_of e.run e.call e.reply)))
ended_noted k journal e =
    any-snoc (λ (x : Entry). is_run k x.run && is_finish x.call) journal e ∙ ap (λ b. is_finished k journal || b) (ender_is k e.run e.call e.reply)

-- an entry's event comes to the same run by the runs and by the journal
receiver_is : (runs : List Run) (journal : List Entry) → ((k : ℕ) → parent_at runs k ≡ parent_of k journal) → (run : Option ℕ) (call : Call) (reply : Reply)
    → receiver runs (deed_of run call reply) ≡ receiver_of journal run call reply
receiver_is runs journal parents run (Send to class value) (Queued taker) = refl
receiver_is runs journal parents (Some caller) (Begin model params) (Started run) = refl
receiver_is runs journal parents (Some run) (Finish end) reply = parents run
receiver_is runs journal parents run call reply = refl

-- the queue of a run, once an entry was told
pub queue_told : (runs new : List Run) (place k : ℕ) (journal : List Entry) (e : Entry) → place ≡ length journal
    → ((k : ℕ) → parent_at runs k ≡ parent_of k journal) → places_at runs k ≡ queue k journal
    → places_at new k ≡ (if is_run k e.run && is_took e.reply
    then drop 1 (places_at runs k ++ place_for k (receiver runs (deed_of e.run e.call e.reply)) place)
    else places_at runs k ++ place_for k (receiver runs (deed_of e.run e.call e.reply)) place)
    → ((log : List Entry) → IsLegal log → TakesInOrder log) → IsLegal (journal ++ e ∷ []) → places_at new k ≡ queue k (journal ++ e ∷ [])
queue_told runs new place k journal e here parents same told law is_legal =
    let takes = is_run k e.run && is_took e.reply in
    let comes = receiver_is runs journal parents e.run e.call e.reply in
    told
    ∙ (λ j. if takes then drop 1 (same j ++ place_for k (comes j) (here j)) else same j ++ place_for k (comes j) (here j))
    ∙ sym (queue_noted k journal e law is_legal)
