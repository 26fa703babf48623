-- Which calls may be refused for want of memory.
use Rattle.std.proofs.Common.{◌≡◌, ℕ, zero, suc, ◌≤◌, ◌∙◌, Bool, true, false, List, Option, Some, None, inl, inr, refl, sym, ap, subst, arith}
use Rattle.std.specs.Prelude.{IsTrue, IsOk, IfErr, Result, Ok, Err, if◌then◌else◌}
use Rattle.mos_text.specs.declared.fault_kind.FaultKind.TheVariants as kind
use Rattle.job_calls.specs.declared.call.Call.{Call}
use Rattle.job_calls.specs.declared.call.Call.TheVariants.{Claim, Quit, Finish, Wait, Peek, IsEmpty}
use Rattle.job_calls.specs.declared.entry.Entry.{Entry}
use Rattle.job_calls.specs.declared.reply.Answer.{Answer}
use Rattle.job_calls.specs.declared.reply.Answer.TheVariants.{Ready}
use Rattle.job_calls.specs.declared.reply.Answer.TheVariants as answer
use Rattle.job_calls.specs.declared.reply.Reply.{Reply}
use Rattle.job_calls.specs.declared.reply.Reply.TheVariants.{Halt}
use Rattle.job_calls.specs.Answers.{answer_of, answer_to_run, open_answer, fault, is_full, table_answer, wait_answer, peek_answer}
use Rattle.job_calls.specs.Events.{Event, first_event, front}
use Rattle.job_calls.specs.Models.{is_asked}
use Rattle.job_calls.specs.Replies.{is_plain}
use Rattle.job_calls.specs.Entries.{has_quit, is_claim, unclaimed_run}
use Rattle.hub_core.specs.declared.held.Acted.{Acted}
use Rattle.hub_core.specs.declared.held.Held.{Held}
use Rattle.hub_core.specs.declared.held.Held.TheVariants.{NotYet, Shut, NoMemory}
use Rattle.hub_core.specs.Hubs.{journal_of, spare_of, LacksMemory, LacksDone}
use Rattle.hub_core.specs.Room.{takes_no_memory, MayWant}

-- an answer that holds neither texts nor bytes
abbrev is_light : Answer → Bool
is_light (Ready reply) = is_plain reply
is_light answer.NotYet = true
is_light answer.Shut = true

either_light : (b : Bool) (x y : Answer) → is_light x ≡ true → is_light y ≡ true → is_light (if b then x else y) ≡ true
either_light true x y light other = light
either_light false x y light other = other

-- what is answered to a run is, where its row of the table is
run_light : (journal : List Entry) (run : Option ℕ) (call : Call)
    → ((k : ℕ) → is_light (table_answer journal k call) ≡ true) → is_light (answer_to_run journal run call) ≡ true
run_light journal None call light = refl
run_light journal (Some k) call light =
    either_light (is_asked k journal) (Ready Halt) (if is_full journal call then fault kind.HubFull else table_answer journal k call) refl
    (either_light (is_full journal call) (fault kind.HubFull) (table_answer journal k call) refl (light k))

wait_light : (place : Option ℕ) → is_light (wait_answer place) ≡ true
wait_light None = refl
wait_light (Some place) = refl

peek_light : (event : Option Event) → is_light (peek_answer event) ≡ true
peek_light None = refl
peek_light (Some event) = refl

true_is_not_false : true ≡ false → ⊥
true_is_not_false h = cc

false_is_not_true : false ≡ true → ⊥
false_is_not_true h = cc

open_light : (journal : List Entry) (lane : ℕ) (run : Option ℕ) (call : Call) → takes_no_memory call ≡ true → is_claim call ≡ false
    → is_light (open_answer journal lane run call) ≡ true
open_light journal lane run Claim few other = absurd (true_is_not_false other)
open_light journal lane run Quit few other = refl
open_light journal lane run (Finish end) few other = refl
open_light journal lane run Wait few other = run_light journal run Wait (λ k. wait_light (first_event k journal))
open_light journal lane run Peek few other = run_light journal run Peek (λ k. peek_light (front k journal))
open_light journal lane run IsEmpty few other = run_light journal run IsEmpty (λ k. refl)
open_light journal lane run call few other = absurd (true_is_not_false (sym few))

-- the calls that are promised an answer without memory have such a reply
pub plain_reply : (journal : List Entry) (lane : ℕ) (run : Option ℕ) (call : Call) (reply : Reply)
    → answer_of journal lane run call ≡ Ready reply → takes_no_memory call ≡ true → is_claim call ≡ false → is_plain reply ≡ true
plain_reply journal lane run call reply answered few other =
    sym (ap is_light answered)
    ∙ either_light (has_quit journal) answer.Shut (open_answer journal lane run call) refl (open_light journal lane run call few other)

-- a call that is answered without memory where there is room may lack some else
may_want : (spare : ℕ) (call : Call) (few : Bool) → takes_no_memory call ≡ few → (1 ≤ spare → few ≡ true → ⊥) → MayWant spare call
may_want zero call few is never = inl refl
may_want (suc spare) call true is never = absurd (never (omega arith) refl)
may_want (suc spare) call false is never = inr is

pub lacks : (spare : ℕ) (call : Call) (result : Result Acted Held)
    → (1 ≤ spare → takes_no_memory call ≡ true → IsOk result) → IfErr result (λ held. LacksMemory spare call held)
lacks spare call (Ok acted) served = tt
lacks spare call (Err (NotYet same)) served = tt
lacks spare call (Err (Shut same)) served = tt
lacks spare call (Err (NoMemory same)) served =
    may_want spare call (takes_no_memory call) refl (λ some few. false_is_not_true (served some few))

-- an answer that took memory was of a call that may want it
pub wanted : {A B : Type 0} (spare : ℕ) (call : Call) (answer : Result A B) (error : B) → answer ≡ Err error
    → (IsTrue (takes_no_memory call) → IsOk answer) → MayWant spare call
wanted spare call answer error is room =
    may_want spare call (takes_no_memory call) refl (λ some few. false_is_not_true (subst IsOk is (room few)))

none_spare : (spare : ℕ) → (1 ≤ spare → ⊥) → spare ≡ 0
none_spare zero never = refl
none_spare (suc spare) never = absurd (never (omega arith))

-- a lane that is told that the job is done lacks memory only where there is no room
pub lacks_done : (hub : List Entry × ℕ) (result : Result Acted Held) → unclaimed_run (journal_of hub) ≡ None
    → (1 ≤ spare_of hub → IsOk result) → IfErr result (λ held. LacksDone hub held)
lacks_done hub (Ok acted) none served = tt
lacks_done hub (Err (NotYet same)) none served = tt
lacks_done hub (Err (Shut same)) none served = tt
lacks_done hub (Err (NoMemory same)) none served =
    (none_spare (spare_of hub) (λ some. false_is_not_true (served some)), none)

-- so it lacks room, as any call may
pub lacks_room : (hub : List Entry × ℕ) (call : Call) (result : Result Acted Held) → IfErr result (λ held. LacksDone hub held)
    → IfErr result (λ held. LacksMemory (spare_of hub) call held)
lacks_room hub call (Ok acted) lacks = tt
lacks_room hub call (Err (NotYet same)) lacks = tt
lacks_room hub call (Err (Shut same)) lacks = tt
lacks_room hub call (Err (NoMemory same)) lacks = inl lacks.0
