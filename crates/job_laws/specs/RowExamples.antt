-- Worked examples of rows of the hub's table: models and their ends, listed files, events, and pipes whose ends come and go.

use Rattle.std.specs.Prelude.{◌≡◌, ℕ, true, false, List, [], ◌∷◌, ◌++◌, Some, None, pos, map, codes, replicate}
use Rattle.mos_text.specs.declared.fault_kind.FaultKind.TheVariants.{NotLoaded, Busy, NoImage, NoFile, PipeBusy, Broken, Overflow}
use Rattle.job_calls.specs.declared.call.Call.{Call}
use Rattle.job_calls.specs.declared.call.Call.TheVariants.{Open, Claim, Quit, Finish, Compile, Load, Run, Wait, Next, Peek, IsEmpty, Send, Status, ExitCode, Stop, Unload, Read, Write, PipeOpen, PipePut, PipeTake, PipeClose}
use Rattle.job_calls.specs.declared.call.Way.TheVariants.{Reads, Writes}
use Rattle.job_calls.specs.declared.end.End.{End}
use Rattle.job_calls.specs.declared.end.End.TheVariants as end
use Rattle.job_calls.specs.declared.entry.Entry.{Entry}
use Rattle.job_calls.specs.declared.entry.Listed.{Listed}
use Rattle.job_calls.specs.declared.reply.Answer.{Answer}
use Rattle.job_calls.specs.declared.reply.Answer.TheVariants.{Ready, NotYet, Shut}
use Rattle.job_calls.specs.declared.reply.Reply.TheVariants.{Opened, Claimed, Done, Code, Started, Took, Seen, Nothing, Flag, Lost, Number, Found, Session, Bytes, PipeEnd, Halt, Fault}
use Rattle.job_calls.specs.declared.reply.Reply.TheVariants as reply
use Rattle.job_calls.specs.Answers.{answer_of}
use Rattle.job_laws.specs.HubExamples.{alone, by_run, master_file, child_file, child_is_loaded, child_runs, pipe_is_open}

-- a source that is not accepted
abbrev pub bad_file : Listed
bad_file = record { name = codes "bad.mos"; bytes = codes "modle"; code = 2 }

-- and a data file
abbrev pub data_file : Listed
data_file = record { name = codes "d.dat"; bytes = codes "x: 1"; code = 0 }

-- a job with both
abbrev pub with_data : List Entry
with_data =
    alone 0 (Open 1 10000000 [] (master_file ∷ child_file ∷ bad_file ∷ data_file ∷ [])) Opened
    ∷ alone 0 Claim (Claimed 0 0 [])
    ∷ []

-- sources that are refused or not there, a model that nobody loaded, no parent, and files that can be read or not
abbrev pub files_and_nothing : List Entry
files_and_nothing =
    with_data
    ++ by_run 0 0 (Compile (codes "bad.mos") (codes "x.bim")) (Code 2)
    ∷ by_run 0 0 (Compile (codes "no.mos") (codes "x.bim")) (Code 1)
    ∷ by_run 0 0 (Compile (codes "d.dat") (codes "x.bim")) (Code 1)
    ∷ by_run 0 0 (Status 0) (Number (pos 0))
    ∷ by_run 0 0 (ExitCode 0) (Number (pos 0))
    ∷ by_run 0 0 (Stop 0) reply.Unit
    ∷ by_run 0 0 (Unload 0) reply.Unit
    ∷ by_run 0 0 (Send (Some 0) (pos 2) (pos 5)) Lost
    ∷ by_run 0 0 (Send None (pos 2) (pos 5)) Lost
    ∷ by_run 0 0 (Read (codes "d.dat")) (Found (record { 0 = 0 }) (codes "x: 1"))
    ∷ by_run 0 0 (Read (codes "c.mos")) (Fault NoFile)
    ∷ []

-- no image was made under the name, and no model has the number
abbrev pub NothingToRun : Type 0
NothingToRun =
    (answer_of with_data 0 (Some 0) (Load (codes "x.bim")) ≡ Ready (Fault NoImage))
    × (answer_of with_data 0 (Some 0) (Run 1 []) ≡ Ready (Fault NotLoaded))
    × (answer_of with_data 0 (Some 0) (Run 0 []) ≡ Ready (Fault NotLoaded))

-- a model from its load to its unload, with what is seen of its end
abbrev pub model_goes : List Entry
model_goes =
    child_is_loaded 2
    ++ by_run 0 0 (Status 1) (Number (pos 1))
    ∷ by_run 0 0 (Run 1 []) (Started 1)
    ∷ by_run 0 0 (Status 1) (Number (pos 2))
    ∷ by_run 0 0 IsEmpty (Flag true)
    ∷ alone 1 Claim (Claimed 1 1 [])
    ∷ by_run 1 1 (Finish (end.Code (pos 7))) reply.Unit
    ∷ by_run 0 0 IsEmpty (Flag false)
    ∷ by_run 0 0 Peek (Seen (record { 0 = 9 }) (pos 1) (pos 7))
    ∷ by_run 0 0 Peek (Seen (record { 0 = 9 }) (pos 1) (pos 7))
    ∷ by_run 0 0 Next (Took (record { 0 = 9 }) (pos 1) (pos 7))
    ∷ by_run 0 0 Peek Nothing
    ∷ by_run 0 0 (Unload 1) reply.Unit
    ∷ by_run 0 0 (Status 1) (Number (pos 0))
    ∷ by_run 0 0 (ExitCode 1) (Number (pos 7))
    ∷ by_run 0 0 (Run 1 []) (Fault NotLoaded)
    ∷ []

-- what is answered of a model whose run ended so
abbrev pub asked_after : Call → End → Answer
asked_after call end = answer_of (child_runs 2 ++ by_run 1 1 (Finish end) reply.Unit ∷ []) 0 (Some 0) call

-- one end of each kind
abbrev pub some_ends : List End
some_ends = end.Code (pos 9) ∷ end.Fault Overflow ∷ end.Spent ∷ end.Stopped ∷ end.NoMemory ∷ []

-- these numbers, as answers
abbrev pub numbers : List ℕ → List Answer
numbers ns = map (λ n. Ready (Number (pos n))) ns

-- its status, and its exit code
abbrev pub EndsTell : Type 0
EndsTell =
    (map (asked_after (Status 1)) some_ends ≡ numbers (3 ∷ 4 ∷ 5 ∷ 6 ∷ 7 ∷ []))
    × (map (asked_after (ExitCode 1)) some_ends ≡ numbers (9 ∷ 100 ∷ 101 ∷ 102 ∷ 103 ∷ []))

-- a model whose run is live is not unloaded
abbrev pub UnloadWaits : Type 0
UnloadWaits = answer_of (child_runs 2) 0 (Some 0) (Unload 1) ≡ Ready (Fault Busy)

-- once the job was ended before its time, nothing is answered
abbrev pub AllIsShut : Type 0
AllIsShut =
    (answer_of (child_runs 2 ++ alone 1 Quit reply.Unit ∷ []) 0 (Some 0) Wait ≡ Shut)
    × (answer_of (child_runs 2 ++ alone 1 Quit reply.Unit ∷ []) 1 (Some 1) (Finish end.Spent) ≡ Shut)

-- a run that was stopped before it was claimed is claimed, and then told so
abbrev pub stopped_unclaimed : List Entry
stopped_unclaimed =
    child_is_loaded 2
    ++ by_run 0 0 (Run 1 []) (Started 1)
    ∷ by_run 0 0 (Stop 1) reply.Unit
    ∷ alone 1 Claim (Claimed 1 1 [])
    ∷ by_run 1 1 Wait Halt
    ∷ by_run 1 1 (Finish end.Stopped) reply.Unit
    ∷ by_run 0 0 Next (Took (record { 0 = 8 }) (pos 1) (pos 102))
    ∷ []

-- and so is one that was not claimed when the master ended
abbrev pub master_ends_first : List Entry
master_ends_first =
    child_is_loaded 2
    ++ by_run 0 0 (Run 1 []) (Started 1)
    ∷ by_run 0 0 (Finish (end.Code (pos 0))) reply.Unit
    ∷ alone 0 Claim (Claimed 1 1 [])
    ∷ by_run 0 1 (Send None (pos 2) (pos 5)) Halt
    ∷ by_run 0 1 (Finish end.Stopped) reply.Unit
    ∷ alone 1 Claim Done
    ∷ alone 0 Claim Done
    ∷ []

-- both reads come after both writes: each gives the second
abbrev pub reads_after_writes : List Entry
reads_after_writes =
    child_runs 2
    ++ by_run 0 0 (Write (codes "shmem:x") (codes "1")) reply.Unit
    ∷ by_run 1 1 (Write (codes "shmem:x") (codes "2")) reply.Unit
    ∷ by_run 0 0 (Read (codes "shmem:x")) (Found (record { 0 = 7 }) (codes "2"))
    ∷ by_run 1 1 (Read (codes "shmem:x")) (Found (record { 0 = 7 }) (codes "2"))
    ∷ []

-- a writer waits for a reader; each end has one holder, and a session one writer
abbrev pub EndsAreBusy : Type 0
EndsAreBusy =
    (answer_of (child_runs 2) 0 (Some 0) (PipeOpen (codes "p") Writes) ≡ NotYet)
    × (answer_of pipe_is_open 0 (Some 0) (PipeOpen (codes "p") Reads) ≡ Ready (Fault PipeBusy))
    × (answer_of pipe_is_open 1 (Some 1) (PipeOpen (codes "p") Writes) ≡ Ready (Fault PipeBusy))
    × (answer_of (pipe_is_open ++ by_run 0 0 (PipeClose (codes "p")) reply.Unit ∷ []) 0 (Some 0) (PipeOpen (codes "p") Writes) ≡ NotYet)

-- an empty block is none
abbrev pub empty_block : List Entry
empty_block =
    pipe_is_open
    ++ by_run 0 0 (PipePut (codes "p") []) reply.Unit
    ∷ by_run 0 0 (PipeClose (codes "p")) reply.Unit
    ∷ by_run 1 1 (PipeTake (codes "p")) PipeEnd
    ∷ []

-- nor do 4,097 bytes ever go in at once
abbrev pub TooManyBytes : Type 0
TooManyBytes = answer_of pipe_is_open 0 (Some 0) (PipePut (codes "p") (replicate 4097 0)) ≡ NotYet

-- the reader has child_is_loaded another session, which the old writer has no part in
abbrev pub read_anew : List Entry
read_anew =
    pipe_is_open
    ++ by_run 0 0 (PipePut (codes "p") (codes "ab")) reply.Unit
    ∷ by_run 1 1 (PipeClose (codes "p")) reply.Unit
    ∷ by_run 1 1 (PipeOpen (codes "p") Reads) (Session (record { 0 = 10 }))
    ∷ []

-- its puts are broken, it keeps others from writing, and the new session is empty
abbrev pub OldWriter : Type 0
OldWriter =
    (answer_of read_anew 0 (Some 0) (PipePut (codes "p") (codes "c")) ≡ Ready (Fault Broken))
    × (answer_of read_anew 1 (Some 1) (PipeOpen (codes "p") Writes) ≡ Ready (Fault PipeBusy))
    × (answer_of read_anew 1 (Some 1) (PipeTake (codes "p")) ≡ NotYet)

-- once it has closed there is a new writer, here the reader itself
abbrev pub new_session : List Entry
new_session =
    read_anew
    ++ by_run 0 0 (PipeClose (codes "p")) reply.Unit
    ∷ by_run 1 1 (PipeOpen (codes "p") Writes) (Session (record { 0 = 10 }))
    ∷ by_run 1 1 (PipePut (codes "p") (codes "c")) reply.Unit
    ∷ by_run 1 1 (PipeTake (codes "p")) (Bytes (codes "c"))
    ∷ by_run 1 1 (PipeClose (codes "p")) reply.Unit
    ∷ []
