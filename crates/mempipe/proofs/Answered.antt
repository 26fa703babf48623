-- What the hub says of a pipe by an answer.

use Rattle.std.proofs.Common.{◌≡◌, ◌≤◌, ◌+◌, ℕ, Bool, true, false, not, ◌&&◌, List, [], Option, Some, None, refl, sym, ap, subst, ◌∙◌, length, nat_lt}
use Rattle.std.specs.Prelude.{is_some, if◌then◌else◌}
use Rattle.std.specs.Str.{bytes_eq}
use Rattle.std.proofs.lemmas.Bool.{ltb-false}
use Rattle.std.proofs.lemmas.Option.{none-some}
use Rattle.std.proofs.lemmas.Slice.Eq.{bytes_eq-Decides}
use Rattle.mos_text.specs.declared.fault_kind.FaultKind.TheVariants as kind
use Rattle.job_calls.specs.declared.call.Call.{Call}
use Rattle.job_calls.specs.declared.call.Call.TheVariants.{PipeOpen, PipePut}
use Rattle.job_calls.specs.declared.call.Way.{Way}
use Rattle.job_calls.specs.declared.call.Way.TheVariants.{Reads, Writes}
use Rattle.job_calls.specs.declared.reply.Answer.{Answer}
use Rattle.job_calls.specs.declared.reply.Answer.TheVariants.{Ready, NotYet, Shut}
use Rattle.job_calls.specs.declared.reply.Reply.{Reply}
use Rattle.job_calls.specs.declared.reply.Reply.TheVariants.{Session, Halt, Fault, Unit as UnitReply}
use Rattle.job_calls.specs.declared.entry.Entry.{Entry}
use Rattle.job_calls.specs.Entries.{has_quit}
use Rattle.job_calls.specs.Models.{is_asked}
use Rattle.job_calls.specs.Pipes.{is_way, opened_session, holder, session, writers_session, had_writer, is_joined, is_session, put_by, untaken_bytes}
use Rattle.job_calls.specs.Answers.{fault, is_full, join_answer, table_answer, answer_to_run, answer_of}

pub false_true : false ≡ true → ⊥
false_true e = cc

-- the call is accepted
abbrev tells : Answer → Bool
tells (Ready Halt) = false
tells (Ready (Fault k)) = false
tells (Ready reply) = true
tells NotYet = false
tells Shut = false

past : (b : Bool) (x y a : Answer) → tells x ≡ false → tells a ≡ true → (if b then x else y) ≡ a → (b ≡ false) × (y ≡ a)
past true x y a bad good e = absurd (false_true (sym bad ∙ ap tells e ∙ good))
past false x y a bad good e = (refl, e)

never : (x a : Answer) → tells x ≡ false → tells a ≡ true → x ≡ a → ⊥
never x a bad good e = false_true (sym bad ∙ ap tells e ∙ good)

-- a run called, and was answered by the table
record IsAnswered (log : List Entry) (run : Option ℕ) (call : Call) (reply : Reply) : Type 0 where
  pub caller : ℕ
  pub answer : table_answer log caller call ≡ Ready reply

by_run : (log : List Entry) (run : Option ℕ) (call : Call) (reply : Reply) → tells (Ready reply) ≡ true → answer_to_run log run call ≡ Ready reply
    → IsAnswered log run call reply
by_run log None call reply good e = absurd (never NotYet (Ready reply) refl good e)
by_run log (Some k) call reply good e =
    let asked = past (is_asked k log) (Ready Halt) (if is_full log call then fault kind.HubFull else table_answer log k call) (Ready reply) refl good e in
    let full = past (is_full log call) (fault kind.HubFull) (table_answer log k call) (Ready reply) refl good asked.1 in
    record { caller = k; answer = full.1 }

open_by_run : (log : List Entry) (lane : ℕ) (run : Option ℕ) (name : List ℕ) (way : Way) (reply : Reply) → tells (Ready reply) ≡ true
    → answer_of log lane run (PipeOpen name way) ≡ Ready reply → IsAnswered log run (PipeOpen name way) reply
open_by_run log lane run name way reply good e =
    by_run log run (PipeOpen name way) reply good (past (has_quit log) Shut (answer_to_run log run (PipeOpen name way)) (Ready reply) refl good e).1

put_by_run : (log : List Entry) (lane : ℕ) (run : Option ℕ) (name bytes : List ℕ) (reply : Reply) → tells (Ready reply) ≡ true
    → answer_of log lane run (PipePut name bytes) ≡ Ready reply → IsAnswered log run (PipePut name bytes) reply
put_by_run log lane run name bytes reply good e =
    by_run log run (PipePut name bytes) reply good (past (has_quit log) Shut (answer_to_run log run (PipePut name bytes)) (Ready reply) refl good e).1

-- an end is free to be opened for the session at the place
abbrev pub IsFree : Way → List ℕ → List Entry → ℕ → Type 0
IsFree Reads name log place = is_some (holder Reads name log) ≡ false
IsFree Writes name log place = (is_some (holder Writes name log) ≡ false) × (session name log ≡ Some place)

abbrev session_told : Answer → Option ℕ
session_told (Ready (Session place)) = Some place.0
session_told answer = None

joined_by : (o : Option ℕ) (place : ℕ) → join_answer o ≡ Ready (Session (record { 0 = place })) → o ≡ Some place
joined_by None place e = absurd (never NotYet (Ready (Session (record { 0 = place }))) refl refl e)
joined_by (Some p) place e = ap session_told e

free_by : (way : Way) (name : List ℕ) (log : List Entry) (k place : ℕ) → table_answer log k (PipeOpen name way) ≡ Ready (Session (record { 0 = place }))
    → IsFree way name log place
free_by Reads name log k place e =
    (past (is_some (holder Reads name log)) (fault kind.PipeBusy) (Ready (Session (record { 0 = length log }))) (Ready (Session (record { 0 = place }))) refl refl e).0
free_by Writes name log k place e =
    let told = Ready (Session (record { 0 = place })) in
    let joins = join_answer (session name log) in
    let fresh = if had_writer name log then NotYet else joins in
    let busy = past (is_some (holder Writes name log)) (fault kind.PipeBusy) (if not (is_some (holder Reads name log)) then NotYet else fresh) told refl refl e in
    let read = past (not (is_some (holder Reads name log))) NotYet fresh told refl refl busy.1 in
    let had = past (had_writer name log) NotYet joins told refl refl read.1 in
    (busy.0, joined_by (session name log) place had.1)

some_is : (a b : ℕ) → Some a ≡ Some b → a ≡ b
some_is a b e = cc

opened_by : (way : Way) (name other : List ℕ) (end : Way) (log : List Entry) (k told place : ℕ) (b : Bool) → bytes_eq other name ≡ b
    → table_answer log k (PipeOpen other end) ≡ Ready (Session (record { 0 = told })) → (if is_way way end && b then Some told else None) ≡ Some place
    → IsFree way name log place
opened_by Reads name other Reads log k told place true is answer e =
    subst (λ n. IsFree Reads n log place) ((bytes_eq-Decides other name).0 is) (free_by Reads other log k told answer)
opened_by Writes name other Writes log k told place true is answer e =
    subst (λ p. IsFree Writes name log p) (some_is told place e)
    (subst (λ n. IsFree Writes n log told) ((bytes_eq-Decides other name).0 is) (free_by Writes other log k told answer))
opened_by Reads name other Reads log k told place false is answer e = absurd (none-some place e)
opened_by Writes name other Writes log k told place false is answer e = absurd (none-some place e)
opened_by Reads name other Writes log k told place b is answer e = absurd (none-some place e)
opened_by Writes name other Reads log k told place b is answer e = absurd (none-some place e)

-- an end that is opened was free
pub was_free : (way : Way) (name : List ℕ) (log : List Entry) (lane : ℕ) (run : Option ℕ) (call : Call) (reply : Reply) (place : ℕ)
    → answer_of log lane run call ≡ Ready reply → opened_session way name call reply ≡ Some place → IsFree way name log place
was_free way name log lane run (PipeOpen other end) (Session told) place answer e =
    let by = open_by_run log lane run other end (Session told) refl answer in
    opened_by way name other end log by.caller told.0 place (bytes_eq other name) refl by.answer e
was_free way name log lane run (PipeOpen other end) reply place answer e = absurd (none-some place e)
was_free way name log lane run call reply place answer e = absurd (none-some place e)

-- bytes that are put fit the pipe, which has a session
pub record IsPutWell (name : List ℕ) (log : List Entry) (bytes : List ℕ) : Type 0 where
  pub few : length (untaken_bytes name log) + length bytes ≤ 4096
  pub begun : is_some (session name log) ≡ true

-- nothing is put, or it is put well
pub data Puts (name : List ℕ) (log : List Entry) (bytes : List ℕ) : Type 0 where
  no_put : bytes ≡ [] → Puts name log bytes
  well : IsPutWell name log bytes → Puts name log bytes

not_false : (b : Bool) → not b ≡ false → b ≡ true
not_false true e = refl
not_false false e = sym e

begun_by : (a : Bool) (o p : Option ℕ) → (a && is_session o p) ≡ true → is_some o ≡ true
begun_by true None p e = e
begun_by true (Some place) p e = refl
begun_by false o p e = absurd (false_true e)

well_by : (name : List ℕ) (log : List Entry) (k : ℕ) (bytes : List ℕ) → table_answer log k (PipePut name bytes) ≡ Ready UnitReply → IsPutWell name log bytes
well_by name log k bytes e =
    let full = nat_lt 4096 (length (untaken_bytes name log) + length bytes) in
    let joined = past (not (is_joined name log)) (fault kind.Broken) (if full then NotYet else Ready UnitReply) (Ready UnitReply) refl refl e in
    let room = past full NotYet (Ready UnitReply) (Ready UnitReply) refl refl joined.1 in
    record {
      few = ltb-false 4096 (length (untaken_bytes name log) + length bytes) room.0;
      begun = begun_by (is_some (holder Reads name log)) (session name log) (writers_session name log) (not_false (is_joined name log) joined.0);
    }

puts_by : (name other : List ℕ) (log : List Entry) (k : ℕ) (bytes : List ℕ) (b : Bool) → bytes_eq other name ≡ b
    → table_answer log k (PipePut other bytes) ≡ Ready UnitReply → Puts name log (if b then bytes else [])
puts_by name other log k bytes true is answer = well (subst (λ n. IsPutWell n log bytes) ((bytes_eq-Decides other name).0 is) (well_by other log k bytes answer))
puts_by name other log k bytes false is answer = no_put refl

-- what is put is put well
pub was_put : (name : List ℕ) (log : List Entry) (lane : ℕ) (run : Option ℕ) (call : Call) (reply : Reply) → answer_of log lane run call ≡ Ready reply
    → Puts name log (put_by name call reply)
was_put name log lane run (PipePut other bytes) UnitReply answer =
    let by = put_by_run log lane run other bytes UnitReply refl answer in
    puts_by name other log by.caller bytes (bytes_eq other name) refl by.answer
was_put name log lane run (PipePut other bytes) reply answer = no_put refl
was_put name log lane run call reply answer = no_put refl
