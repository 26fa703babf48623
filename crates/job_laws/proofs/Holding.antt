-- Who holds an end of a pipe: the whole journal and what a run called and was told say the same.

use Rattle.std.proofs.Common.{◌≡◌, ℕ, Bool, true, false, not, ◌&&◌, ◌||◌, List, [], ◌∷◌, ◌++◌, Option, Some, None, refl, sym, ap, ◌∙◌, subst, length}
use Rattle.std.specs.Prelude.{is_some, if◌then◌else◌}
use Rattle.std.specs.Str.{bytes_eq}
use Rattle.std.proofs.lemmas.List.Sums.{fold-append}
use Rattle.std.proofs.lemmas.Slice.Eq.{bytes_eq-Decides}
use Rattle.job_calls.specs.declared.call.Call.{Call}
use Rattle.job_calls.specs.declared.call.Call.TheVariants.{PipeOpen}
use Rattle.job_calls.specs.declared.call.Way.{Way}
use Rattle.job_calls.specs.declared.call.Way.TheVariants.{Reads, Writes}
use Rattle.job_calls.specs.declared.reply.Reply.{Reply}
use Rattle.job_calls.specs.declared.reply.Reply.TheVariants.{Session, Unit as UnitReply}
use Rattle.job_calls.specs.declared.entry.Entry.{Entry}
use Rattle.job_calls.specs.Entries.{is_run}
use Rattle.job_calls.specs.Pipes.{is_way, opened_session, opens, lets_go, closes, holder_after, holder, had_writer}
use Rattle.job_calls.specs.Fitting.{exchange_of, holds_after, holds}
use Rattle.job_calls.specs.Legal.{IsLegal, IsOpening, Follows}
use Rattle.job_laws.proofs.Growing.{legal_grow}
use Rattle.job_laws.proofs.Counts.{exchange-snoc, exchange-same}
use Rattle.job_laws.proofs.Outcomes as outcome
use Rattle.job_laws.proofs.Outcomes.{Outcome, run_outcome, is_idle, false_true}
use Rattle.job_laws.proofs.Entering as enter
use Rattle.job_laws.proofs.Entering.{Entering, entering, and_true, is_run-some, not_true}
use Rattle.job_laws.proofs.Lanes.{not_so}

pub holder-snoc : (way : Way) (name : List ℕ) (log : List Entry) (e : Entry) → holder way name (log ++ e ∷ []) ≡ holder_after way name (holder way name log) e
holder-snoc way name log e = fold-append (holder_after way name) None log (e ∷ [])

-- an end is free to be opened: nobody holds it, and no session has two writers
abbrev pub IsFree : Way → List ℕ → List Entry → Type 0
IsFree Reads name log = is_some (holder Reads name log) ≡ false
IsFree Writes name log = (is_some (holder Writes name log) ≡ false) × (had_writer name log ≡ false)

idle_opens : (way : Way) (name : List ℕ) (call : Call) (reply : Reply) → is_idle reply ≡ true → is_some (opened_session way name call reply) ≡ false
idle_opens way name (PipeOpen opened end) (Session place) e = absurd (false_true e)
idle_opens way name (PipeOpen opened end) reply e = refl
idle_opens way name call reply e = refl

granted_opens : (way : Way) (name : List ℕ) (call : Call) → is_some (opened_session way name call UnitReply) ≡ false
granted_opens way name (PipeOpen opened end) = refl
granted_opens way name call = refl

free_reader : (way : Way) (name other : List ℕ) (log : List Entry) (place : ℕ) (b : Bool) → bytes_eq other name ≡ b
    → is_some (holder Reads other log) ≡ false → is_some (if is_way way Reads && b then Some place else None) ≡ true → IsFree way name log
free_reader Reads name other log place true is q h = subst (λ n. is_some (holder Reads n log) ≡ false) ((bytes_eq-Decides other name).0 is) q
free_reader Reads name other log place false is q h = absurd (false_true h)
free_reader Writes name other log place b is q h = absurd (false_true h)

free_writer : (way : Way) (name other : List ℕ) (log : List Entry) (place : ℕ) (b : Bool) → bytes_eq other name ≡ b
    → is_some (holder Writes other log) ≡ false → had_writer other log ≡ false → is_some (if is_way way Writes && b then Some place else None) ≡ true → IsFree way name log
free_writer Writes name other log place true is q w h =
    let same = (bytes_eq-Decides other name).0 is in
    (subst (λ n. is_some (holder Writes n log) ≡ false) same q, subst (λ n. had_writer n log ≡ false) same w)
free_writer Writes name other log place false is q w h = absurd (false_true h)
free_writer Reads name other log place b is q w h = absurd (false_true h)

free_outcome : (way : Way) (name : List ℕ) (log : List Entry) (run : ℕ) (call : Call) (reply : Reply) → Outcome log run call reply
    → is_some (opened_session way name call reply) ≡ true → IsFree way name log
free_outcome way name log run _ _ (outcome.idle call reply is can) h = absurd (false_true (sym (idle_opens way name call reply is) ∙ h))
free_outcome way name log run _ _ (outcome.granted call is) h = absurd (false_true (sym (granted_opens way name call) ∙ h))
free_outcome way name log run _ _ (outcome.compiled src dst) h = absurd (false_true h)
free_outcome way name log run _ _ (outcome.loaded file source q) h = absurd (false_true h)
free_outcome way name log run _ _ (outcome.started model params is less) h = absurd (false_true h)
free_outcome way name log run _ _ (outcome.next_took event q) h = absurd (false_true h)
free_outcome way name log run _ _ (outcome.drop_took event q) h = absurd (false_true h)
free_outcome way name log run _ _ (outcome.queued to class value receiver) h = absurd (false_true h)
free_outcome way name log run _ _ (outcome.found_write other write q) h = absurd (false_true h)
free_outcome way name log run _ _ (outcome.found_file other bytes q d) h = absurd (false_true h)
free_outcome way name log run _ _ (outcome.reads other q) h = free_reader way name other log (length log) (bytes_eq other name) refl q h
free_outcome way name log run _ _ (outcome.joins other place a b d s) h =
    free_writer way name other log place (bytes_eq other name) refl a d h
free_outcome way name log run _ _ (outcome.put other bytes j) h = absurd (false_true h)
free_outcome way name log run _ _ (outcome.took_all other) h = absurd (false_true h)
free_outcome way name log run _ _ (outcome.ended other a b) h = absurd (false_true h)

-- an end that is opened was free
pub was_free : (way : Way) (name : List ℕ) (log : List Entry) (lane : ℕ) (run : Option ℕ) (call : Call) (reply : Reply) → Entering log lane run call reply
    → is_some (opened_session way name call reply) ≡ true → IsFree way name log
was_free way name log lane _ _ _ (enter.claims k source params none q s p) h = absurd (false_true h)
was_free way name log lane _ _ _ (enter.done_entry not_done none q is) h = absurd (false_true h)
was_free way name log lane _ _ _ enter.quits h = absurd (false_true h)
was_free way name log lane _ _ _ (enter.finishes run end held) h = absurd (false_true h)
was_free way name log lane _ _ _ (enter.acts run call reply held fresh fit for_run no_finish answered) h =
    free_outcome way name log run call reply (run_outcome log run call reply answered) h

taken_end : (way : Way) (name : List ℕ) (log : List Entry) (r : ℕ) → holder way name log ≡ Some r → IsFree way name log → ⊥
taken_end Reads name log r h free = false_true (sym free ∙ ap is_some h)
taken_end Writes name log r h free = false_true (sym free.0 ∙ ap is_some h)

-- a holder that neither closes nor is followed keeps the end
kept : (way : Way) (name : List ℕ) (log : List Entry) (e : Entry) (r : ℕ) → holder way name log ≡ Some r → opens way name e ≡ false
    → closes name (Some r) e ≡ false → holder way name (log ++ e ∷ []) ≡ Some r
kept way name log e r h o c =
    holder-snoc way name log e
    ∙ ap (λ b. if b then e.run else (if closes name (holder way name log) e then None else holder way name log)) o
    ∙ ap (λ held. if closes name held e then None else held) h
    ∙ ap (λ b. if b then None else Some r) c

-- a run that holds an end by what it was told is the holder
abbrev HoldsByCalls : Way → List ℕ → ℕ → List Entry → Type 0
HoldsByCalls way name r log = holds way name (exchange_of r log) ≡ true → holder way name log ≡ Some r

holds_by : (way : Way) (name : List ℕ) (r : ℕ) (log : List Entry) (e : Entry) → HoldsByCalls way name r log → is_run r e.run ≡ true
    → (b : Bool) → opens way name e ≡ b → (b || (holds way name (exchange_of r log) && not (lets_go name e.call e.reply))) ≡ true
    → holder way name (log ++ e ∷ []) ≡ Some r
holds_by way name r log e p by_run true o h =
    holder-snoc way name log e
    ∙ ap (λ b. if b then e.run else (if closes name (holder way name log) e then None else holder way name log)) o
    ∙ is_run-some r e.run by_run
holds_by way name r log e p by_run false o h =
    let both = and_true (holds way name (exchange_of r log)) (not (lets_go name e.call e.reply)) h in
    kept way name log e r (p both.0) o
    (ap (λ b. b && lets_go name e.call e.reply) by_run ∙ not_true (lets_go name e.call e.reply) both.1)

-- an entry of the run itself
holds_own : (way : Way) (name : List ℕ) (r : ℕ) (log : List Entry) (e : Entry) → HoldsByCalls way name r log → is_run r e.run ≡ true
    → HoldsByCalls way name r (log ++ e ∷ [])
holds_own way name r log e p by_run h =
    holds_by way name r log e p by_run (opens way name e) refl
    (sym (ap (holds way name) (exchange-snoc r log e by_run)
    ∙ fold-append (holds_after way name) false (exchange_of r log) ((e.call, e.reply) ∷ [])) ∙ h)

-- an entry of another run
holds_other : (way : Way) (name : List ℕ) (r : ℕ) (log : List Entry) (e : Entry) → Follows log e → HoldsByCalls way name r log → is_run r e.run ≡ false
    → HoldsByCalls way name r (log ++ e ∷ [])
holds_other way name r log e f p other h =
    let before = p (ap (holds way name) (sym (exchange-same r log e other)) ∙ h) in
    kept way name log e r before
    (not_so (opens way name e) (λ o. taken_end way name log r before (was_free way name log e.lane e.run e.call e.reply (entering log e f) o)))
    (ap (λ b. b && lets_go name e.call e.reply) other)

holds_first : (way : Way) (name : List ℕ) (r : ℕ) (e : Entry) → IsOpening e → HoldsByCalls way name r (e ∷ [])
holds_first way name r e o h =
    absurd (false_true (sym (ap (holds way name) (exchange-same r [] e (ap (is_run r) o.run))) ∙ h))

holds_step : (way : Way) (name : List ℕ) (r : ℕ) (log : List Entry) (e : Entry) → Follows log e → HoldsByCalls way name r log
    → (b : Bool) → is_run r e.run ≡ b → HoldsByCalls way name r (log ++ e ∷ [])
holds_step way name r log e f p true is = holds_own way name r log e p is
holds_step way name r log e f p false is = holds_other way name r log e f p is

pub holds_by_calls : (way : Way) (name : List ℕ) (r : ℕ) (journal : List Entry) → IsLegal journal → HoldsByCalls way name r journal
holds_by_calls way name r = legal_grow (HoldsByCalls way name r)
    (λ e o. holds_first way name r e o)
    (λ log e h p f. holds_step way name r log e f p (is_run r e.run) refl)
