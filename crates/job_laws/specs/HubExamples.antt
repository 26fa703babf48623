-- Worked examples of what the hub answers: journals of whole jobs, each of which is legal, and answers in such jobs.

use Rattle.std.specs.Prelude.{◌≡◌, ℕ, List, [], ◌∷◌, ◌++◌, Some, None, pos, codes, replicate}
use Rattle.mos_text.specs.declared.fault_kind.FaultKind.TheVariants.{NoLane, Busy, Broken}
use Rattle.job_calls.specs.declared.call.Call.{Call}
use Rattle.job_calls.specs.declared.call.Call.TheVariants.{Open, Claim, Finish, Compile, Load, Run, Wait, Next, Drop, Send, ExitCode, Stop, Read, Write, PipeOpen, PipePut, PipeTake, PipeClose}
use Rattle.job_calls.specs.declared.call.Way.TheVariants.{Reads, Writes}
use Rattle.job_calls.specs.declared.end.End.TheVariants as end
use Rattle.job_calls.specs.declared.entry.Entry.{Entry}
use Rattle.job_calls.specs.declared.entry.Listed.{Listed}
use Rattle.job_calls.specs.declared.reply.Answer.TheVariants.{Ready, NotYet}
use Rattle.job_calls.specs.declared.reply.Reply.{Reply}
use Rattle.job_calls.specs.declared.reply.Reply.TheVariants.{Opened, Claimed, Done, Code, Loaded, Started, Took, Nothing, Queued, Lost, Number, Found, Session, Bytes, PipeEnd, Halt, Fault}
use Rattle.job_calls.specs.declared.reply.Reply.TheVariants as reply
use Rattle.job_calls.specs.Answers.{answer_of}

-- what a lane calls for itself
abbrev pub alone : ℕ → Call → Reply → Entry
alone lane call reply = record { lane = lane; run = None; call = call; reply = reply }

-- and for a run
abbrev pub by_run : ℕ → ℕ → Call → Reply → Entry
by_run lane run call reply = record { lane = lane; run = Some run; call = call; reply = reply }

-- a master
abbrev pub master_file : Listed
master_file = record { name = codes "m.mos"; bytes = codes "model \"m\""; code = 0 }

-- and a child
abbrev pub child_file : Listed
child_file = record { name = codes "c.mos"; bytes = codes "model \"c\""; code = 0 }

-- the child is compiled and loaded
abbrev pub child_is_loaded : ℕ → List Entry
child_is_loaded lanes =
    alone 0 (Open lanes 10000000 [] (master_file ∷ child_file ∷ [])) Opened
    ∷ alone 0 Claim (Claimed 0 0 [])
    ∷ by_run 0 0 (Compile (codes "c.mos") (codes "c.bim")) (Code 0)
    ∷ by_run 0 0 (Load (codes "c.bim")) (Loaded 1 1)
    ∷ []

-- the child runs on lane 1
abbrev pub child_runs : ℕ → List Entry
child_runs lanes =
    child_is_loaded lanes
    ++ by_run 0 0 (Run 1 (codes "N=3")) (Started 1)
    ∷ alone 1 Claim (Claimed 1 1 (codes "N=3"))
    ∷ []

-- the child ends; the master waits for that, and goes on
abbrev pub waits_for_child : List Entry
waits_for_child =
    child_runs 2
    ++ by_run 1 1 (Finish (end.Code (pos 7))) reply.Unit
    ∷ by_run 0 0 Wait reply.Unit
    ∷ by_run 0 0 Drop (Took (record { 0 = 6 }) (pos 1) (pos 7))
    ∷ by_run 0 0 (ExitCode 1) (Number (pos 7))
    ∷ by_run 0 0 (Finish (end.Code (pos 0))) reply.Unit
    ∷ alone 1 Claim Done
    ∷ alone 0 Claim Done
    ∷ []

-- no lane is free for a child on one lane; the master may then only finish
abbrev pub no_lane_is_free : List Entry
no_lane_is_free =
    child_is_loaded 1
    ++ by_run 0 0 (Run 1 []) (Fault NoLane)
    ∷ by_run 0 0 (Finish (end.Fault NoLane)) reply.Unit
    ∷ alone 0 Claim Done
    ∷ []

-- a model that runs already is busy
abbrev pub run_twice : List Entry
run_twice = child_runs 2 ++ by_run 0 0 (Run 1 []) (Fault Busy) ∷ []

-- it can be run again once its run has ended, and the new run's queue is empty
abbrev pub runs_again : List Entry
runs_again =
    child_runs 2
    ++ by_run 0 0 (Send (Some 1) (pos 2) (pos 5)) (Queued 1)
    ∷ by_run 1 1 (Finish (end.Code (pos 0))) reply.Unit
    ∷ by_run 0 0 Wait reply.Unit
    ∷ by_run 0 0 Drop (Took (record { 0 = 7 }) (pos 1) (pos 0))
    ∷ by_run 0 0 (Send (Some 1) (pos 2) (pos 5)) Lost
    ∷ by_run 0 0 (Run 1 []) (Started 2)
    ∷ alone 1 Claim (Claimed 2 1 [])
    ∷ by_run 1 2 Next Nothing
    ∷ []

-- each read gives the last write before it
abbrev pub reads_last_write : List Entry
reads_last_write =
    child_runs 2
    ++ by_run 0 0 (Write (codes "shmem:x") (codes "v: 1\n")) reply.Unit
    ∷ by_run 1 1 (Read (codes "shmem:x")) (Found (record { 0 = 6 }) (codes "v: 1\n"))
    ∷ by_run 0 0 (Write (codes "shmem:x") (codes "v: 2\n")) reply.Unit
    ∷ by_run 1 1 (Read (codes "shmem:x")) (Found (record { 0 = 8 }) (codes "v: 2\n"))
    ∷ []

-- both ends of the pipe p are open
abbrev pub pipe_is_open : List Entry
pipe_is_open =
    child_runs 2
    ++ by_run 1 1 (PipeOpen (codes "p") Reads) (Session (record { 0 = 6 }))
    ∷ by_run 0 0 (PipeOpen (codes "p") Writes) (Session (record { 0 = 6 }))
    ∷ []

-- what was put is taken whole, and then the pipe is at its end, once its writer has closed
abbrev pub takes_whole : List Entry
takes_whole =
    pipe_is_open
    ++ by_run 0 0 (PipePut (codes "p") (codes "ab")) reply.Unit
    ∷ by_run 0 0 (PipePut (codes "p") (codes "c")) reply.Unit
    ∷ by_run 0 0 (PipeClose (codes "p")) reply.Unit
    ∷ by_run 1 1 (PipeTake (codes "p")) (Bytes (codes "abc"))
    ∷ by_run 1 1 (PipeTake (codes "p")) PipeEnd
    ∷ []

-- a pipe that holds 4,096 bytes takes no more, until they are taken
abbrev pub FullPipeWaits : Type 0
FullPipeWaits =
    (answer_of (pipe_is_open ++ by_run 0 0 (PipePut (codes "p") (replicate 4096 0)) reply.Unit ∷ []) 0 (Some 0) (PipePut (codes "p") (0 ∷ [])) ≡ NotYet)
    × (answer_of pipe_is_open 0 (Some 0) (PipePut (codes "p") (replicate 4096 0)) ≡ Ready reply.Unit)

-- a reader that was stopped leaves a broken pipe
abbrev pub reader_stops : List Entry
reader_stops =
    pipe_is_open
    ++ by_run 0 0 (Stop 1) reply.Unit
    ∷ by_run 1 1 (PipeTake (codes "p")) Halt
    ∷ by_run 1 1 (Finish end.Stopped) reply.Unit
    ∷ by_run 0 0 (PipePut (codes "p") (codes "a")) (Fault Broken)
    ∷ []

-- two runs that wait for one another are never ready
abbrev pub BothWait : Type 0
BothWait = (answer_of (child_runs 2) 0 (Some 0) Wait ≡ NotYet) × (answer_of (child_runs 2) 1 (Some 1) Wait ≡ NotYet)
