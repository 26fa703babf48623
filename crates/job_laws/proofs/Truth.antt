-- Each reply of a legal journal says what is true.

use Rattle.std.proofs.Common.{◌≡◌, ◌<◌, ℕ, Bool, true, false, List, [], ◌∷◌, ◌++◌, Option, Some, None, refl, sym, ap, ◌∙◌, subst, inl, inr, ◌⊎◌, nat_lt, length, arith, append-nil, codes}
use Rattle.std.proofs.lemmas.Bool.{ltb-false}
use Rattle.job_calls.specs.declared.call.Call.{Call}
use Rattle.job_calls.specs.declared.call.Call.TheVariants.{Claim, Read, Next, Drop}
use Rattle.job_calls.specs.declared.reply.Reply.{Reply}
use Rattle.job_calls.specs.declared.reply.Reply.TheVariants.{Opened, Claimed, Loaded, Took, Found, Bytes, PipeEnd, Unit as UnitReply}
use Rattle.job_calls.specs.declared.entry.Entry.{Entry}
use Rattle.job_calls.specs.Files.{data_of}
use Rattle.job_calls.specs.Events.{Event, front}
use Rattle.job_calls.specs.Pipes.{in_session, taken_in, untaken_bytes}
use Rattle.job_calls.specs.Legal.{IsLegal, Follows}
use Rattle.job_laws.specs.Truth.{IsTaken, IsLastWrite, IsListed, SaysTrue}
use Rattle.job_laws.proofs.Growing.{legal_cut, IsCut, opens as cut_opens, follows as cut_follows}
use Rattle.job_laws.proofs.Lists.{none_some}
use Rattle.job_laws.proofs.Outcomes as outcome
use Rattle.job_laws.proofs.Outcomes.{Outcome, run_outcome, is_idle, false_true}
use Rattle.job_laws.proofs.Entering as enter
use Rattle.job_laws.proofs.Entering.{Entering, entering}
use Rattle.job_laws.proofs.Taking.{taking, taken_is_event}
use Rattle.job_laws.proofs.Listing.{blocks_unlisted}
use Rattle.job_laws.proofs.Piping.{Piped, piped, untaken_is, write_is, unwritten}
use Rattle.job_laws.proofs.Sources.{image_accepted, claim_says}

abbrev is_opened : Reply → Bool
is_opened Opened = true
is_opened reply = false

idle_says : (log : List Entry) (run : Option ℕ) (call : Call) (reply : Reply) → is_idle reply ≡ true → SaysTrue log run call reply
idle_says log run call (Took place class value) e = absurd (false_true e)
idle_says log run call (Claimed k source params) e = absurd (false_true e)
idle_says log run call (Loaded model source) e = absurd (false_true e)
idle_says log run call (Found place bytes) e = absurd (false_true e)
idle_says log run call (Bytes bytes) e = absurd (false_true e)
idle_says log run call PipeEnd e = absurd (false_true e)
idle_says log run Claim reply e = tt
idle_says log run call reply e = tt

no_bytes : (xs : List ℕ) → nat_lt 0 (length xs) ≡ false → xs ≡ []
no_bytes [] e = refl
no_bytes (x ∷ xs) e = absurd (let l = ltb-false 0 (length (x ∷ xs)) e in omega (arith, l))

took_says : (log : List Entry) (run : ℕ) (call : Call) (event : Event) → front run log ≡ Some event
    → IsTaken log (Some run) event.place event.class event.value
took_says log run call event q =
    taken_is_event log (Some run) call (record { 0 = event.place }) event.class event.value
    (record { taker = run; by = refl; taking = taking log run event q })

granted_says : (log : List Entry) (run : Option ℕ) (call : Call) → SaysTrue log run call UnitReply
granted_says log run Claim = tt
granted_says log run call = tt

says_outcome : (log : List Entry) (run : ℕ) (call : Call) (reply : Reply) → IsLegal log → ((name : List ℕ) → Piped name (in_session name log))
    → Outcome log run call reply → SaysTrue log (Some run) call reply
says_outcome log run _ _ h p (outcome.idle call reply is can) = idle_says log (Some run) call reply is
says_outcome log run _ _ h p (outcome.granted call is) = granted_says log (Some run) call
says_outcome log run _ _ h p (outcome.compiled src dst) = tt
says_outcome log run _ _ h p (outcome.loaded file source q) = image_accepted log file source h q
says_outcome log run _ _ h p (outcome.started model params is less) = tt
says_outcome log run _ _ h p (outcome.next_took event q) = took_says log run Next event q
says_outcome log run _ _ h p (outcome.drop_took event q) = took_says log run Drop event q
says_outcome log run _ _ h p (outcome.queued to class value receiver) = tt
says_outcome log run _ _ h p (outcome.found_write name write q) = inl (write_is log name write h q)
says_outcome log run _ _ h p (outcome.found_file name bytes q d) =
    inr (record { place_is = refl; unwritten = unwritten log name h q; listed = d })
says_outcome log run _ _ h p (outcome.reads name q) = tt
says_outcome log run _ _ h p (outcome.joins name place a b d s) = tt
says_outcome log run _ _ h p (outcome.put name bytes j) = tt
says_outcome log run _ _ h p (outcome.took_all name) =
    (p name).1 ∙ ap (λ xs. taken_in name (in_session name log) ++ xs) (sym (untaken_is name log (p name).0 (p name).1))
says_outcome log run _ _ h p (outcome.ended name a b) =
    (p name).1
    ∙ ap (λ xs. taken_in name (in_session name log) ++ xs) (sym (untaken_is name log (p name).0 (p name).1) ∙ no_bytes (untaken_bytes name log) a)
    ∙ append-nil (taken_in name (in_session name log))

says_entering : (log : List Entry) (lane : ℕ) (run : Option ℕ) (call : Call) (reply : Reply) → IsLegal log → ((name : List ℕ) → Piped name (in_session name log))
    → Entering log lane run call reply → SaysTrue log run call reply
says_entering log lane _ _ _ h p (enter.claims k source params none q s t) = claim_says log k source params h q s t
says_entering log lane _ _ _ h p (enter.done_entry not_done none q is) = tt
says_entering log lane _ _ _ h p enter.quits = tt
says_entering log lane _ _ _ h p (enter.finishes run end held) = tt
says_entering log lane _ _ _ h p (enter.acts run call reply held fresh ends_fit_ for_run no_finish answered) =
    says_outcome log run call reply h p (run_outcome log run call reply answered)

-- a reply says what is true
pub says_true : (log : List Entry) (e : Entry) → IsLegal log → Follows log e → SaysTrue log e.run e.call e.reply
says_true log e h f = says_entering log e.lane e.run e.call e.reply h (λ name. piped name log h) (entering log e f)

opened_says : (log : List Entry) (run : Option ℕ) (call : Call) → SaysTrue log run call Opened
opened_says log run Claim = tt
opened_says log run call = tt

opening_says : (log : List Entry) (run : Option ℕ) (call : Call) (reply : Reply) → reply ≡ Opened → SaysTrue log run call reply
opening_says log run call reply q = subst (SaysTrue log run call) (sym q) (opened_says log run call)

says_cut : (before : List Entry) (e : Entry) → IsCut before e → SaysTrue before e.run e.call e.reply
says_cut before e (cut_opens none o) = opening_says before e.run e.call e.reply o.reply
says_cut before e (cut_follows h f) = says_true before e h f

pub replies_true : (before after : List Entry) (e : Entry) → IsLegal (before ++ e ∷ after) → SaysTrue before e.run e.call e.reply
replies_true before after e h = says_cut before e (legal_cut before after e h)

-- what is read with place 0 is a listed file
file_by : (log : List Entry) (name bytes : List ℕ) → IsLastWrite log name 0 bytes ⊎ IsListed log name 0 bytes → IsListed log name 0 bytes
file_by log name bytes h =
    elim h [
      | inl w ↦ absurd (let s = w.some in omega (arith, s))
      | inr l ↦ l
    ]

pub reads_files : (before after : List Entry) (e : Entry) → IsLegal (before ++ e ∷ after) → (name bytes : List ℕ) → e.call ≡ Read name
    → e.reply ≡ Found (record { 0 = 0 }) bytes → IsListed before name 0 bytes
reads_files before after e h name bytes q r =
    file_by before name bytes (subst (SaysTrue before e.run (Read name)) r (subst (λ call. SaysTrue before e.run call e.reply) q (replies_true before after e h)))

-- and what is read of a block was written
written_by : (log : List Entry) (name bytes : List ℕ) (place : ℕ) → data_of name log ≡ None → IsLastWrite log name place bytes ⊎ IsListed log name place bytes
    → 0 < place
written_by log name bytes place none h =
    elim h [
      | inl w ↦ w.some
      | inr l ↦ none_some bytes (sym none ∙ l.listed)
    ]

legal_before : (before : List Entry) (e : Entry) (bytes : List ℕ) (place : ℕ) → IsCut before e → e.reply ≡ Found (record { 0 = place }) bytes → IsLegal before
legal_before before e bytes place (cut_opens none o) r = absurd (false_true (ap is_opened (sym r ∙ o.reply)))
legal_before before e bytes place (cut_follows h f) r = h

pub reads_blocks : (before after : List Entry) (e : Entry) → IsLegal (before ++ e ∷ after) → (name bytes : List ℕ) (place : ℕ)
    → e.call ≡ Read (codes "shmem:" ++ name) → e.reply ≡ Found (record { 0 = place }) bytes → 0 < place
reads_blocks before after e h name bytes place q r =
    let legal = legal_before before e bytes place (legal_cut before after e h) r in
    written_by before (codes "shmem:" ++ name) bytes place (blocks_unlisted before legal name)
    (subst (SaysTrue before e.run (Read (codes "shmem:" ++ name))) r (subst (λ call. SaysTrue before e.run call e.reply) q (replies_true before after e h)))
