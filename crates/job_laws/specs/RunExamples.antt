-- Worked examples of the runs of a journal, and of replies that fit a call.

use Rattle.std.specs.Prelude.{◌≡◌, List, [], ◌∷◌, ◌++◌, Some, None, pos, negsuc, codes}
use Rattle.mos_text.specs.declared.fault_kind.FaultKind.TheVariants.{Overflow, NotLoaded}
use Rattle.job_calls.specs.declared.call.Call.TheVariants.{Open, Claim, Finish, Compile, Load, Run, Wait, Next, Status}
use Rattle.job_calls.specs.declared.end.End.TheVariants as end
use Rattle.job_calls.specs.declared.entry.Entry.{Entry}
use Rattle.job_calls.specs.declared.entry.Listed.{Listed}
use Rattle.job_calls.specs.declared.reply.Reply.TheVariants.{Opened, Claimed, Done, Code, Loaded, Started, Took, Number, Halt, Fault, Unit as UnitReply}
use Rattle.job_calls.specs.Entries.{run_count}
use Rattle.job_calls.specs.Runs.{source_of, params_of, calls_of, replies_of, finish_of}
use Rattle.job_calls.specs.Replies.{AllCanAnswer, CanAnswer}
use Rattle.job_calls.specs.HelloJournal.{hello_file, entry}

-- the child
abbrev pub child_file : Listed
child_file = record { name = codes "child.mos"; bytes = codes "model \"child\"\nend-model\n"; code = 0 }

-- a master that compiles, loads and runs a child with a parameter text; the child ends with code 7
abbrev pub child_entries : List Entry
child_entries =
    entry [] (Open 1 10000000 [] (hello_file ∷ child_file ∷ [])) Opened
    ∷ entry [] Claim (Claimed 0 0 [])
    ∷ entry (0 ∷ []) (Compile (codes "child.mos") (codes "child.bim")) (Code 0)
    ∷ entry (0 ∷ []) (Load (codes "child.bim")) (Loaded 1 1)
    ∷ entry (0 ∷ []) (Run 1 (codes "N=3")) (Started 1)
    ∷ entry (0 ∷ []) (Finish (end.Code (pos 0))) UnitReply
    ∷ entry [] Claim (Claimed 1 1 (codes "N=3"))
    ∷ entry (1 ∷ []) (Finish (end.Code (pos 7))) UnitReply
    ∷ entry [] Claim Done
    ∷ []

-- there are two runs
abbrev pub TwoRuns : Type 0
TwoRuns = run_count child_entries ≡ 2

-- the master is the first file
abbrev pub SourceOfMaster : Type 0
SourceOfMaster = source_of 0 child_entries ≡ Some 0

-- the child is the second file
abbrev pub SourceOfChild : Type 0
SourceOfChild = source_of 1 child_entries ≡ Some 1

-- the last start counts: of a model that nobody loaded, a run has no source
abbrev pub SourceOfUnloaded : Type 0
SourceOfUnloaded = source_of 1 (child_entries ++ entry (0 ∷ []) (Run 7 []) (Started 1) ∷ []) ≡ None

-- the master has the text of the `Open`
abbrev pub ParamsOfMaster : Type 0
ParamsOfMaster = params_of 0 child_entries ≡ Some []

-- and the child that of the `Run`
abbrev pub ParamsOfChild : Type 0
ParamsOfChild = params_of 1 child_entries ≡ Some (codes "N=3")

-- what the master called, without its `Finish`
abbrev pub CallsOfMaster : Type 0
CallsOfMaster = calls_of 0 child_entries ≡ Compile (codes "child.mos") (codes "child.bim") ∷ Load (codes "child.bim") ∷ Run 1 (codes "N=3") ∷ []

-- what it was answered
abbrev pub RepliesOfMaster : Type 0
RepliesOfMaster = replies_of 0 child_entries ≡ Code 0 ∷ Loaded 1 1 ∷ Started 1 ∷ []

-- the child called nothing
abbrev pub CallsOfChild : Type 0
CallsOfChild = calls_of 1 child_entries ≡ []

-- how each ended
abbrev pub FinishOfChild : Type 0
FinishOfChild = finish_of 1 child_entries ≡ Some (end.Code (pos 7))

-- replies that fit the calls beside them; the last ends the run
abbrev pub FittingReplies : Type 0
FittingReplies = AllCanAnswer (Wait ∷ Next ∷ Status 1 ∷ Wait ∷ []) (UnitReply ∷ Took (record { 0 = 6 }) (pos 1) (negsuc 0) ∷ Number (pos 2) ∷ Halt ∷ [])

-- a fault that only the hub knows of may be a reply
abbrev pub FittingFault : Type 0
FittingFault = CanAnswer (Run 1 []) (Fault NotLoaded)

-- but no fault of its own
abbrev pub FaultOfItsOwn : Type 0
FaultOfItsOwn = CanAnswer (Run 1 []) (Fault Overflow) → ⊥

-- the reply of another call does not fit
abbrev pub ReplyOfAnotherCall : Type 0
ReplyOfAnotherCall = CanAnswer Wait (Code 0) → ⊥

-- nor does a code that is no byte
abbrev pub CodeTooLarge : Type 0
CodeTooLarge = CanAnswer (Compile (codes "a.mos") (codes "a.bim")) (Code 256) → ⊥
