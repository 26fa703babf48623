-- The hub's answer to a call: a function of the journal alone, by rules of which the first counts.

use Rattle.std.specs.Prelude.{ℕ, ◌+◌, Bool, ◌&&◌, ◌||◌, not, List, [], ◌∷◌, Option, Some, None, nat_eq, nat_lt, length, is_some, if◌then◌else◌}
use Rattle.mos_text.specs.declared.fault_kind.FaultKind.{FaultKind}
use Rattle.mos_text.specs.declared.fault_kind.FaultKind.TheVariants as kind
use Rattle.job_calls.specs.declared.call.Call.{Call}
use Rattle.job_calls.specs.declared.call.Call.TheVariants.{Open, Claim, Quit, Finish, Compile, Load, Run, Wait, Next, Peek, Drop, IsEmpty, Send, Status, ExitCode, Stop, Unload, Read, Write, PipeOpen, PipePut, PipeTake, PipeClose}
use Rattle.job_calls.specs.declared.call.Way.TheVariants.{Reads, Writes}
use Rattle.job_calls.specs.declared.reply.Answer.{Answer}
use Rattle.job_calls.specs.declared.reply.Answer.TheVariants.{Ready, NotYet, Shut}
use Rattle.job_calls.specs.declared.reply.Reply.TheVariants.{Opened, Claimed, Done, Code, Loaded, Started, Took, Seen, Nothing, Flag, Queued, Lost, Number, Found, Session, Bytes, PipeEnd, Halt, Fault}
use Rattle.job_calls.specs.declared.reply.Reply.TheVariants as reply
use Rattle.job_calls.specs.declared.entry.Entry.{Entry}
use Rattle.job_calls.specs.Entries.{has_quit, is_claimed, is_finished, run_count, unclaimed_run}
use Rattle.job_calls.specs.Runs.{source_of, params_of}
use Rattle.job_calls.specs.Files.{lanes_of, code_of, data_of}
use Rattle.job_calls.specs.Models.{image_source, loaded_count, is_loaded, current_run, parent_of, is_live, live_runs, is_live_run, is_asked, exit_of, status_of}
use Rattle.job_calls.specs.Events.{Event, queue, first_event, front}
use Rattle.job_calls.specs.Blocks.{WrittenBytes, last_written}
use Rattle.job_calls.specs.Pipes.{holder, session, had_writer, is_joined, is_ended, untaken_bytes}
use Rattle.job_calls.specs.Weights.{call_weight, weight}

-- the answer of the first row whose test holds, else the last one
abbrev pub first_row : List (Bool × Answer) → Answer → Answer
first_row [] last = last
first_row (row ∷ rows) last = if row.0 then row.1 else first_row rows last

-- the call meets a fault of the hub
abbrev pub fault : FaultKind → Answer
fault kind = Ready (Fault kind)

-- the call is accepted, and nothing is told
abbrev pub acknowledge : Answer
acknowledge = Ready reply.Unit

-- the lane is given run k, with the place of its source and its parameter text: in a legal journal each run has both
abbrev pub give_run : ℕ → Option ℕ → Option (List ℕ) → Answer
give_run k (Some source) (Some params) = Ready (Claimed k source params)
give_run k (Some source) None = NotYet
give_run k None params = NotYet

-- a run that no lane was given; else the end of the job, once run 0 has ended
abbrev pub next_run : List Entry → Option ℕ → Answer
next_run journal (Some k) = give_run k (source_of k journal) (params_of k journal)
next_run journal None = if is_finished 0 journal then Ready Done else NotYet

-- lane 0 is given run 0 before any other lane is given anything
abbrev pub claim_answer : List Entry → ℕ → Answer
claim_answer journal lane =
    if not (is_claimed 0 journal) && not (nat_eq lane 0) then NotYet
    else next_run journal (unclaimed_run journal)

-- the model gets the next number, and the source that the image was made of
abbrev pub load_answer : List Entry → Option ℕ → Answer
load_answer journal None = fault kind.NoImage
load_answer journal (Some source) = Ready (Loaded (1 + loaded_count journal) source)

-- the run gets the next number
abbrev pub run_rows : List Entry → ℕ → List (Bool × Answer)
run_rows journal model =
    (not (is_loaded model journal), fault kind.NotLoaded)
    ∷ (is_live_run (current_run model journal) journal, fault kind.Busy)
    ∷ (not (nat_lt (run_count journal) 4096), fault kind.TooManyRuns)
    ∷ (not (nat_lt (length (live_runs journal)) (lanes_of journal)), fault kind.NoLane)
    ∷ []

-- else it is started
abbrev pub run_answer : List Entry → ℕ → Answer
run_answer journal model = first_row (run_rows journal model) (Ready (Started (run_count journal)))

-- once an event is there
abbrev pub wait_answer : Option ℕ → Answer
wait_answer None = NotYet
wait_answer (Some place) = acknowledge

-- the first event is taken
abbrev pub take_answer : Option Event → Answer
take_answer None = Ready Nothing
take_answer (Some event) = Ready (Took (record { 0 = event.place }) event.class event.value)

-- the first event is looked at
abbrev pub peek_answer : Option Event → Answer
peek_answer None = Ready Nothing
peek_answer (Some event) = Ready (Seen (record { 0 = event.place }) event.class event.value)

-- the run that an event is sent to: the model's current one, or the one that started the sender
abbrev pub target : List Entry → ℕ → Option ℕ → Option ℕ
target journal run None = parent_of run journal
target journal run (Some model) = current_run model journal

-- an event for a run that has ended is lost
abbrev pub send_rows : List Entry → ℕ → List (Bool × Answer)
send_rows journal receiver =
    (not (is_live receiver journal), Ready Lost)
    ∷ (nat_lt 65535 (length (queue receiver journal)), fault kind.QueueFull)
    ∷ []

-- and so is one for a run that there is not
abbrev pub send_answer : List Entry → Option ℕ → Answer
send_answer journal None = Ready Lost
send_answer journal (Some receiver) =
    first_row (send_rows journal receiver) (Ready (Queued receiver))

-- a model whose run is live stays
abbrev pub unload_rows : List Entry → ℕ → List (Bool × Answer)
unload_rows journal model = (is_live_run (current_run model journal) journal, fault kind.Busy) ∷ []

-- else it is unloaded
abbrev pub unload_answer : List Entry → ℕ → Answer
unload_answer journal model = first_row (unload_rows journal model) acknowledge

-- the last write, else the listed file
abbrev pub read_answer : Option WrittenBytes → Option (List ℕ) → Answer
read_answer (Some write) file = Ready (Found (record { 0 = write.place }) write.bytes)
read_answer None (Some bytes) = Ready (Found (record { 0 = 0 }) bytes)
read_answer None None = fault kind.NoFile

-- a reader begins a session, whose place is that of this entry
abbrev pub reader_rows : List Entry → List ℕ → List (Bool × Answer)
reader_rows journal name = (is_some (holder Reads name journal), fault kind.PipeBusy) ∷ []

-- else the reader has it
abbrev pub reader_answer : List Entry → List ℕ → Answer
reader_answer journal name = first_row (reader_rows journal name) (Ready (Session (record { 0 = length journal })))

-- a writer joins the reader's session, once
abbrev pub writer_rows : List Entry → List ℕ → List (Bool × Answer)
writer_rows journal name =
    (is_some (holder Writes name journal), fault kind.PipeBusy)
    ∷ (not (is_some (holder Reads name journal)), NotYet)
    ∷ (had_writer name journal, NotYet)
    ∷ []

-- the reader's session, where there is one
abbrev pub join_answer : Option ℕ → Answer
join_answer None = NotYet
join_answer (Some place) = Ready (Session (record { 0 = place }))

-- else it waits for a reader that no writer has joined, and joins it
abbrev pub writer_answer : List Entry → List ℕ → Answer
writer_answer journal name = first_row (writer_rows journal name) (join_answer (session name journal))

-- a pipe holds at most 4,096 bytes that nobody has taken
abbrev pub put_rows : List Entry → List ℕ → List ℕ → List (Bool × Answer)
put_rows journal name bytes =
    (not (is_joined name journal), fault kind.Broken)
    ∷ (nat_lt 4096 (length (untaken_bytes name journal) + length bytes), NotYet)
    ∷ []

-- else they are put
abbrev pub put_answer : List Entry → List ℕ → List ℕ → Answer
put_answer journal name bytes = first_row (put_rows journal name bytes) acknowledge

-- all that was put and not taken; the end, once the writer has closed
abbrev pub pipe_rows : List Entry → List ℕ → List (Bool × Answer)
pipe_rows journal name =
    (nat_lt 0 (length (untaken_bytes name journal)), Ready (Bytes (untaken_bytes name journal)))
    ∷ (is_ended name journal, Ready PipeEnd)
    ∷ []

-- else it waits
abbrev pub pipe_answer : List Entry → List ℕ → Answer
pipe_answer journal name = first_row (pipe_rows journal name) NotYet

-- what a run is answered that goes on, while the journal has room
abbrev pub table_answer : List Entry → ℕ → Call → Answer
table_answer journal run (Compile src dst) = Ready (Code (code_of src journal))
table_answer journal run (Load file) = load_answer journal (image_source file journal)
table_answer journal run (Run model params) = run_answer journal model
table_answer journal run Wait = wait_answer (first_event run journal)
table_answer journal run Next = take_answer (front run journal)
table_answer journal run Drop = take_answer (front run journal)
table_answer journal run Peek = peek_answer (front run journal)
table_answer journal run IsEmpty = Ready (Flag (not (is_some (first_event run journal))))
table_answer journal run (Send to class value) = send_answer journal (target journal run to)
table_answer journal run (Status model) = Ready (Number (status_of model journal))
table_answer journal run (ExitCode model) = Ready (Number (exit_of model journal))
table_answer journal run (Stop model) = acknowledge
table_answer journal run (Unload model) = unload_answer journal model
table_answer journal run (Read name) = read_answer (last_written name journal) (data_of name journal)
table_answer journal run (Write name bytes) = acknowledge
table_answer journal run (PipeOpen name Reads) = reader_answer journal name
table_answer journal run (PipeOpen name Writes) = writer_answer journal name
table_answer journal run (PipePut name bytes) = put_answer journal name bytes
table_answer journal run (PipeTake name) = pipe_answer journal name
table_answer journal run (PipeClose name) = acknowledge
table_answer journal run (Open lanes budget params files) = NotYet
table_answer journal run Claim = NotYet
table_answer journal run Quit = NotYet
table_answer journal run (Finish end) = NotYet

-- the journal has 1,000,000 entries, or would weigh more than 268,435,456 with this call
abbrev pub is_full : List Entry → Call → Bool
is_full journal call =
    nat_lt 999999 (length journal) || nat_lt 268435456 (weight journal + call_weight call)

-- a run that is to stop is told so first; then a full journal takes nothing more
abbrev pub stop_rows : List Entry → ℕ → Call → List (Bool × Answer)
stop_rows journal run call =
    (is_asked run journal, Ready Halt)
    ∷ (is_full journal call, fault kind.HubFull)
    ∷ []

-- the calls of a run
abbrev pub answer_to_run : List Entry → Option ℕ → Call → Answer
answer_to_run journal None call = NotYet
answer_to_run journal (Some run) call = first_row (stop_rows journal run call) (table_answer journal run call)

-- what is answered while the job goes on; calls of a run that comes from none are never ready
abbrev pub open_answer : List Entry → ℕ → Option ℕ → Call → Answer
open_answer journal lane run (Open lanes budget params files) = Ready Opened
open_answer journal lane run Quit = acknowledge
open_answer journal lane run (Finish end) = acknowledge
open_answer journal lane run Claim = claim_answer journal lane
open_answer journal lane run call = answer_to_run journal run call

-- nothing is answered once the job was ended before its time
abbrev pub answer_of : List Entry → ℕ → Option ℕ → Call → Answer
answer_of journal lane run call = if has_quit journal then Shut else open_answer journal lane run call
