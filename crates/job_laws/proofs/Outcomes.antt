-- What an answer can be, call by call: the reply with what the journal then says.

use Rattle.std.proofs.Common.{◌≡◌, ℕ, ◌+◌, ℤ, Bool, true, false, not, List, [], ◌∷◌, Option, Some, None, refl, sym, ap, subst, inl, inr, ◌⊎◌, nat_lt, length, arith}
use Rattle.std.specs.Prelude.{is_some, if◌then◌else◌}
use Rattle.mos_text.specs.declared.fault_kind.FaultKind.TheVariants.{HubFull}
use Rattle.job_calls.specs.declared.call.Call.{Call}
use Rattle.job_calls.specs.declared.call.Call.TheVariants.{Open, Claim, Quit, Finish, Compile, Load, Run, Wait, Next, Peek, Drop, IsEmpty, Send, Status, ExitCode, Stop, Unload, Read, Write, PipeOpen, PipePut, PipeTake, PipeClose}
use Rattle.job_calls.specs.declared.call.Way.TheVariants.{Reads, Writes}
use Rattle.job_calls.specs.declared.reply.Answer.{Answer}
use Rattle.job_calls.specs.declared.reply.Answer.TheVariants.{Ready, NotYet}
use Rattle.job_calls.specs.declared.reply.Reply.{Reply}
use Rattle.job_calls.specs.declared.reply.Reply.TheVariants.{Opened, Claimed, Done, Code, Loaded, Started, Took, Queued, Found, Session, Bytes, PipeEnd, Nothing, Halt, Fault, Unit as UnitReply}
use Rattle.job_calls.specs.declared.entry.Entry.{Entry}
use Rattle.job_calls.specs.Entries.{is_finish, run_count}
use Rattle.job_calls.specs.Files.{code_of, data_of}
use Rattle.job_calls.specs.Models.{image_source, is_loaded, loaded_count}
use Rattle.job_calls.specs.Events.{Event, first_event, front}
use Rattle.job_calls.specs.Blocks.{WrittenBytes, last_written}
use Rattle.job_calls.specs.Replies.{InRange, CanAnswer}
use Rattle.job_calls.specs.Fitting.{is_for_lane}
use Rattle.job_calls.specs.Pipes.{holder, session, had_writer, is_joined, is_ended, untaken_bytes}
use Rattle.job_calls.specs.Answers.{first_row, load_answer, run_rows, wait_answer, take_answer, peek_answer, target, send_rows, send_answer, unload_rows, read_answer, reader_rows, writer_rows, join_answer, put_rows, pipe_rows, table_answer, stop_rows, answer_to_run}

-- the replies that say nothing which later answers rest on
abbrev pub is_idle : Reply → Bool
is_idle (Claimed run source params) = false
is_idle Opened = false
is_idle Done = false
is_idle (Code code) = false
is_idle (Loaded model source) = false
is_idle (Started run) = false
is_idle UnitReply = false
is_idle (Took place class value) = false
is_idle (Queued run) = false
is_idle (Found place bytes) = false
is_idle (Session place) = false
is_idle (Bytes bytes) = false
is_idle PipeEnd = false
is_idle _ = true

-- the calls that are answered `Unit` whatever the journal says
abbrev pub is_granted : Call → Bool
is_granted Wait = true
is_granted (Stop model) = true
is_granted (Unload model) = true
is_granted (Write name bytes) = true
is_granted (PipeClose name) = true
is_granted _ = false

-- the reply fits the call of a run, where what it holds is in range
abbrev pub CanFit : Call → Reply → Type 0
CanFit call reply = is_for_lane call ≡ false → is_finish call ≡ false → InRange reply → CanAnswer call reply

-- what an answer is, with what the journal then says
pub data Outcome (log : List Entry) (run : ℕ) : Call → Reply → Type 0 where
  idle : (call : Call) (reply : Reply) → is_idle reply ≡ true → CanFit call reply → Outcome log run call reply
  granted : (call : Call) → is_granted call ≡ true → Outcome log run call UnitReply
  compiled : (src dst : List ℕ) → Outcome log run (Compile src dst) (Code (code_of src log))
  loaded : (file : List ℕ) (source : ℕ) → image_source file log ≡ Some source → Outcome log run (Load file) (Loaded (1 + loaded_count log) source)
  started : (model : ℕ) (params : List ℕ) → is_loaded model log ≡ true → nat_lt (run_count log) 4096 ≡ true → Outcome log run (Run model params) (Started (run_count log))
  next_took : (event : Event) → front run log ≡ Some event → Outcome log run Next (Took (record { 0 = event.place }) event.class event.value)
  drop_took : (event : Event) → front run log ≡ Some event → Outcome log run Drop (Took (record { 0 = event.place }) event.class event.value)
  queued : (to : Option ℕ) (class value : ℤ) (receiver : ℕ) → Outcome log run (Send to class value) (Queued receiver)
  found_write : (name : List ℕ) (write : WrittenBytes) → last_written name log ≡ Some write → Outcome log run (Read name) (Found (record { 0 = write.place }) write.bytes)
  found_file : (name bytes : List ℕ) → last_written name log ≡ None → data_of name log ≡ Some bytes → Outcome log run (Read name) (Found (record { 0 = 0 }) bytes)
  reads : (name : List ℕ) → is_some (holder Reads name log) ≡ false → Outcome log run (PipeOpen name Reads) (Session (record { 0 = length log }))
  joins : (name : List ℕ) (place : ℕ) → is_some (holder Writes name log) ≡ false → not (is_some (holder Reads name log)) ≡ false → had_writer name log ≡ false
      → session name log ≡ Some place → Outcome log run (PipeOpen name Writes) (Session (record { 0 = place }))
  put : (name bytes : List ℕ) → not (is_joined name log) ≡ false → Outcome log run (PipePut name bytes) UnitReply
  took_all : (name : List ℕ) → Outcome log run (PipeTake name) (Bytes (untaken_bytes name log))
  ended : (name : List ℕ) → nat_lt 0 (length (untaken_bytes name log)) ≡ false → is_ended name log ≡ true → Outcome log run (PipeTake name) PipeEnd

-- the answer is a row's whose test holds, where all before it fail, or the last one
abbrev pub InRows : List (Bool × Answer) → Answer → Answer → Type 0
InRows [] last a = last ≡ a
InRows (row ∷ rows) last a = ((row.0 ≡ true) × (row.1 ≡ a)) ⊎ ((row.0 ≡ false) × InRows rows last a)

in_row : (b : Bool) (x y a : Answer) (Rest : Type 0) → (y ≡ a → Rest) → (if b then x else y) ≡ a → ((b ≡ true) × (x ≡ a)) ⊎ ((b ≡ false) × Rest)
in_row true x y a Rest go e = inl (refl, e)
in_row false x y a Rest go e = inr (refl, go e)

pub by_rows : (rows : List (Bool × Answer)) (last a : Answer) → first_row rows last ≡ a → InRows rows last a
by_rows [] last a e = e
by_rows (row ∷ rows) last a e = in_row row.0 row.1 (first_row rows last) a (InRows rows last a) (by_rows rows last a) e

-- the reply of an answer
abbrev pub reply_of : Answer → Reply
reply_of (Ready reply) = reply
reply_of _ = Nothing

abbrev is_ready : Answer → Bool
is_ready (Ready reply) = true
is_ready _ = false

-- an idle answer
idle_by : (log : List Entry) (run : ℕ) (call : Call) (x reply : Reply) → is_idle x ≡ true → CanFit call x → Ready x ≡ Ready reply → Outcome log run call reply
idle_by log run call x reply is can e = subst (Outcome log run call) (ap reply_of e) (idle call x is can)

granted_by : (log : List Entry) (run : ℕ) (call : Call) (reply : Reply) → is_granted call ≡ true → Ready UnitReply ≡ Ready reply → Outcome log run call reply
granted_by log run call reply is e = subst (Outcome log run call) (ap reply_of e) (granted call is)

pub false_true : false ≡ true → ⊥
false_true e = cc

not_yet : (log : List Entry) (run : ℕ) (call : Call) (reply : Reply) → NotYet ≡ Ready reply → Outcome log run call reply
not_yet log run call reply e = absurd (false_true (ap is_ready e))

-- what is no test's opposite
pub not_false : (b : Bool) → not b ≡ false → b ≡ true
not_false true e = refl
not_false false e = sym e

load_by : (log : List Entry) (run : ℕ) (file : List ℕ) (o : Option ℕ) (reply : Reply) → image_source file log ≡ o → load_answer log o ≡ Ready reply → Outcome log run (Load file) reply
load_by log run file None reply q e = idle_by log run (Load file) _ reply refl (λ a b r. (refl, r)) e
load_by log run file (Some source) reply q e = subst (Outcome log run (Load file)) (ap reply_of e) (loaded file source q)

run_by : (log : List Entry) (run model : ℕ) (params : List ℕ) (reply : Reply)
    → InRows (run_rows log model) (Ready (Started (run_count log))) (Ready reply) → Outcome log run (Run model params) reply
run_by log run model params reply h =
    elim h [
      | inl w ↦ idle_by log run (Run model params) _ reply refl (λ a b r. (refl, r)) w.1
      | inr w ↦ elim w.1 [
        | inl v ↦ idle_by log run (Run model params) _ reply refl (λ a b r. (refl, r)) v.1
        | inr v ↦ elim v.1 [
          | inl u ↦ idle_by log run (Run model params) _ reply refl (λ a b r. (refl, r)) u.1
          | inr u ↦ elim u.1 [
            | inl t ↦ idle_by log run (Run model params) _ reply refl (λ a b r. (refl, r)) t.1
            | inr t ↦ subst (Outcome log run (Run model params)) (ap reply_of t.1)
                (started model params (not_false (is_loaded model log) w.0) (not_false (nat_lt (run_count log) 4096) u.0))
          ]
        ]
      ]
    ]

wait_by : (log : List Entry) (run : ℕ) (o : Option ℕ) (reply : Reply) → wait_answer o ≡ Ready reply → Outcome log run Wait reply
wait_by log run None reply e = not_yet log run Wait reply e
wait_by log run (Some place) reply e = granted_by log run Wait reply refl e

next_by : (log : List Entry) (run : ℕ) (o : Option Event) (reply : Reply) → front run log ≡ o → take_answer o ≡ Ready reply → Outcome log run Next reply
next_by log run None reply q e = idle_by log run Next _ reply refl (λ a b r. (refl, r)) e
next_by log run (Some event) reply q e = subst (Outcome log run Next) (ap reply_of e) (next_took event q)

drop_by : (log : List Entry) (run : ℕ) (o : Option Event) (reply : Reply) → front run log ≡ o → take_answer o ≡ Ready reply → Outcome log run Drop reply
drop_by log run None reply q e = idle_by log run Drop _ reply refl (λ a b r. (refl, r)) e
drop_by log run (Some event) reply q e = subst (Outcome log run Drop) (ap reply_of e) (drop_took event q)

peek_by : (log : List Entry) (run : ℕ) (o : Option Event) (reply : Reply) → peek_answer o ≡ Ready reply → Outcome log run Peek reply
peek_by log run None reply e = idle_by log run Peek _ reply refl (λ a b r. (refl, r)) e
peek_by log run (Some event) reply e = idle_by log run Peek _ reply refl (λ a b r. (refl, r)) e

send_rows_by : (log : List Entry) (run : ℕ) (to : Option ℕ) (class value : ℤ) (receiver : ℕ) (reply : Reply)
    → InRows (send_rows log receiver) (Ready (Queued receiver)) (Ready reply) → Outcome log run (Send to class value) reply
send_rows_by log run to class value receiver reply h =
    elim h [
      | inl w ↦ idle_by log run (Send to class value) _ reply refl (λ a b r. (refl, r)) w.1
      | inr w ↦ elim w.1 [
        | inl v ↦ idle_by log run (Send to class value) _ reply refl (λ a b r. (refl, r)) v.1
        | inr v ↦ subst (Outcome log run (Send to class value)) (ap reply_of v.1) (queued to class value receiver)
      ]
    ]

send_by : (log : List Entry) (run : ℕ) (to : Option ℕ) (class value : ℤ) (receiver : Option ℕ) (reply : Reply)
    → send_answer log receiver ≡ Ready reply → Outcome log run (Send to class value) reply
send_by log run to class value None reply e = idle_by log run (Send to class value) _ reply refl (λ a b r. (refl, r)) e
send_by log run to class value (Some receiver) reply e =
    send_rows_by log run to class value receiver reply (by_rows (send_rows log receiver) (Ready (Queued receiver)) (Ready reply) e)

unload_by : (log : List Entry) (run model : ℕ) (reply : Reply) → InRows (unload_rows log model) (Ready UnitReply) (Ready reply) → Outcome log run (Unload model) reply
unload_by log run model reply h =
    elim h [
      | inl w ↦ idle_by log run (Unload model) _ reply refl (λ a b r. (refl, r)) w.1
      | inr w ↦ granted_by log run (Unload model) reply refl w.1
    ]

read_by : (log : List Entry) (run : ℕ) (name : List ℕ) (o : Option WrittenBytes) (file : Option (List ℕ)) (reply : Reply)
    → last_written name log ≡ o → data_of name log ≡ file → read_answer o file ≡ Ready reply → Outcome log run (Read name) reply
read_by log run name (Some write) file reply q d e = subst (Outcome log run (Read name)) (ap reply_of e) (found_write name write q)
read_by log run name None (Some bytes) reply q d e = subst (Outcome log run (Read name)) (ap reply_of e) (found_file name bytes q d)
read_by log run name None None reply q d e = idle_by log run (Read name) _ reply refl (λ a b r. (refl, r)) e

reader_by : (log : List Entry) (run : ℕ) (name : List ℕ) (reply : Reply)
    → InRows (reader_rows log name) (Ready (Session (record { 0 = length log }))) (Ready reply) → Outcome log run (PipeOpen name Reads) reply
reader_by log run name reply h =
    elim h [
      | inl w ↦ idle_by log run (PipeOpen name Reads) _ reply refl (λ a b r. (refl, r)) w.1
      | inr w ↦ subst (Outcome log run (PipeOpen name Reads)) (ap reply_of w.1) (reads name w.0)
    ]

join_by : (log : List Entry) (run : ℕ) (name : List ℕ) (o : Option ℕ) (reply : Reply) → is_some (holder Writes name log) ≡ false
    → not (is_some (holder Reads name log)) ≡ false → had_writer name log ≡ false → session name log ≡ o → join_answer o ≡ Ready reply
    → Outcome log run (PipeOpen name Writes) reply
join_by log run name None reply a b d q e = not_yet log run (PipeOpen name Writes) reply e
join_by log run name (Some place) reply a b d q e = subst (Outcome log run (PipeOpen name Writes)) (ap reply_of e) (joins name place a b d q)

writer_by : (log : List Entry) (run : ℕ) (name : List ℕ) (reply : Reply)
    → InRows (writer_rows log name) (join_answer (session name log)) (Ready reply) → Outcome log run (PipeOpen name Writes) reply
writer_by log run name reply h =
    elim h [
      | inl w ↦ idle_by log run (PipeOpen name Writes) _ reply refl (λ a b r. (refl, r)) w.1
      | inr w ↦ elim w.1 [
        | inl v ↦ not_yet log run (PipeOpen name Writes) reply v.1
        | inr v ↦ elim v.1 [
          | inl u ↦ not_yet log run (PipeOpen name Writes) reply u.1
          | inr u ↦ join_by log run name (session name log) reply w.0 v.0 u.0 refl u.1
        ]
      ]
    ]

put_by_rows : (log : List Entry) (run : ℕ) (name bytes : List ℕ) (reply : Reply)
    → InRows (put_rows log name bytes) (Ready UnitReply) (Ready reply) → Outcome log run (PipePut name bytes) reply
put_by_rows log run name bytes reply h =
    elim h [
      | inl w ↦ idle_by log run (PipePut name bytes) _ reply refl (λ a b r. (refl, r)) w.1
      | inr w ↦ elim w.1 [
        | inl v ↦ not_yet log run (PipePut name bytes) reply v.1
        | inr v ↦ subst (Outcome log run (PipePut name bytes)) (ap reply_of v.1) (put name bytes w.0)
      ]
    ]

take_by_rows : (log : List Entry) (run : ℕ) (name : List ℕ) (reply : Reply)
    → InRows (pipe_rows log name) NotYet (Ready reply) → Outcome log run (PipeTake name) reply
take_by_rows log run name reply h =
    elim h [
      | inl w ↦ subst (Outcome log run (PipeTake name)) (ap reply_of w.1) (took_all name)
      | inr w ↦ elim w.1 [
        | inl v ↦ subst (Outcome log run (PipeTake name)) (ap reply_of v.1) (ended name w.0 v.0)
        | inr v ↦ not_yet log run (PipeTake name) reply v.1
      ]
    ]

-- what the table answers
pub outcome : (log : List Entry) (run : ℕ) (call : Call) (reply : Reply) → table_answer log run call ≡ Ready reply → Outcome log run call reply
outcome log run (Compile src dst) reply e = subst (Outcome log run (Compile src dst)) (ap reply_of e) (compiled src dst)
outcome log run (Load file) reply e = load_by log run file (image_source file log) reply refl e
outcome log run (Run model params) reply e = run_by log run model params reply (by_rows (run_rows log model) (Ready (Started (run_count log))) (Ready reply) e)
outcome log run Wait reply e = wait_by log run (first_event run log) reply e
outcome log run Next reply e = next_by log run (front run log) reply refl e
outcome log run Drop reply e = drop_by log run (front run log) reply refl e
outcome log run Peek reply e = peek_by log run (front run log) reply e
outcome log run IsEmpty reply e = idle_by log run IsEmpty _ reply refl (λ a b r. (refl, r)) e
outcome log run (Send to class value) reply e =
    send_by log run to class value (target log run to) reply e
outcome log run (Status model) reply e = idle_by log run (Status model) _ reply refl (λ a b r. (refl, r)) e
outcome log run (ExitCode model) reply e = idle_by log run (ExitCode model) _ reply refl (λ a b r. (refl, r)) e
outcome log run (Stop model) reply e = granted_by log run (Stop model) reply refl e
outcome log run (Unload model) reply e = unload_by log run model reply (by_rows (unload_rows log model) (Ready UnitReply) (Ready reply) e)
outcome log run (Read name) reply e = read_by log run name (last_written name log) (data_of name log) reply refl refl e
outcome log run (Write name bytes) reply e = granted_by log run (Write name bytes) reply refl e
outcome log run (PipeOpen name Reads) reply e = reader_by log run name reply (by_rows (reader_rows log name) (Ready (Session (record { 0 = length log }))) (Ready reply) e)
outcome log run (PipeOpen name Writes) reply e =
    writer_by log run name reply (by_rows (writer_rows log name) (join_answer (session name log)) (Ready reply) e)
outcome log run (PipePut name bytes) reply e = put_by_rows log run name bytes reply (by_rows (put_rows log name bytes) (Ready UnitReply) (Ready reply) e)
outcome log run (PipeTake name) reply e = take_by_rows log run name reply (by_rows (pipe_rows log name) NotYet (Ready reply) e)
outcome log run (PipeClose name) reply e = granted_by log run (PipeClose name) reply refl e
outcome log run (Open lanes budget params files) reply e = not_yet log run (Open lanes budget params files) reply e
outcome log run Claim reply e = not_yet log run Claim reply e
outcome log run Quit reply e = not_yet log run Quit reply e
outcome log run (Finish end) reply e = not_yet log run (Finish end) reply e

-- the ends of a run fit each of its calls
halt_fits : (call : Call) → CanFit call Halt
halt_fits (Open lanes budget params files) a b r = absurd (false_true (sym a))
halt_fits Claim a b r = absurd (false_true (sym a))
halt_fits Quit a b r = absurd (false_true (sym a))
halt_fits (Finish end) a b r = absurd (false_true (sym b))
halt_fits call a b r = (refl, r)

full_fits : (call : Call) → CanFit call (Fault HubFull)
full_fits (Open lanes budget params files) a b r = absurd (false_true (sym a))
full_fits Claim a b r = absurd (false_true (sym a))
full_fits Quit a b r = absurd (false_true (sym a))
full_fits (Finish end) a b r = absurd (false_true (sym b))
full_fits call a b r = (refl, r)

granted_fits : (call : Call) → is_granted call ≡ true → CanFit call UnitReply
granted_fits Wait e a b r = (refl, r)
granted_fits (Stop model) e a b r = (refl, r)
granted_fits (Unload model) e a b r = (refl, r)
granted_fits (Write name bytes) e a b r = (refl, r)
granted_fits (PipeClose name) e a b r = (refl, r)
granted_fits call e a b r = absurd (false_true e)

-- an answer fits
pub can_fit : (log : List Entry) (run : ℕ) (call : Call) (reply : Reply) → Outcome log run call reply → CanFit call reply
can_fit log run _ _ (idle call reply is can) = can
can_fit log run _ _ (granted call is) = granted_fits call is
can_fit log run _ _ (compiled src dst) = λ a b r. (refl, r)
can_fit log run _ _ (loaded file source q) = λ a b r. (refl, r)
can_fit log run _ _ (started model params is less) = λ a b r. (refl, r)
can_fit log run _ _ (next_took event q) = λ a b r. (refl, r)
can_fit log run _ _ (drop_took event q) = λ a b r. (refl, r)
can_fit log run _ _ (queued to class value receiver) = λ a b r. (refl, r)
can_fit log run _ _ (found_write name write q) = λ a b r. (refl, r)
can_fit log run _ _ (found_file name bytes q d) = λ a b r. (refl, r)
can_fit log run _ _ (reads name q) = λ a b r. (refl, r)
can_fit log run _ _ (joins name place a b d s) = λ a b r. (refl, r)
can_fit log run _ _ (put name bytes j) = λ a b r. (refl, r)
can_fit log run _ _ (took_all name) = λ a b r. (refl, r)
can_fit log run _ _ (ended name a b) = λ a b r. (refl, r)

-- a run is told to stop, or that the journal is full, or what the table answers
pub run_outcome : (log : List Entry) (run : ℕ) (call : Call) (reply : Reply) → answer_to_run log (Some run) call ≡ Ready reply → Outcome log run call reply
run_outcome log run call reply e =
    elim (by_rows (stop_rows log run call) (table_answer log run call) (Ready reply) e) [
      | inl w ↦ idle_by log run call _ reply refl (halt_fits call) w.1
      | inr w ↦ elim w.1 [
        | inl v ↦ idle_by log run call _ reply refl (full_fits call) v.1
        | inr v ↦ outcome log run call reply v.1
      ]
    ]
