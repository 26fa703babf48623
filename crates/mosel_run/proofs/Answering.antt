-- An answer that was found and delivered is what the program answers.

use Rattle.std.proofs.Common.{◌≡◌, ◌≤◌, ℕ, List, Option, Some, None, subst, arith}
use Rattle.mos_text.specs.Content.{Files}
use Rattle.mos_text.specs.declared.folder.Got.{Got}
use Rattle.mos_text.specs.declared.folder.Got.TheVariants.{Bytes, Missing as NotThere, TooLarge as TooLong, Failed, NoMemory as WantsMemory}
use Rattle.mos_words.specs.CommandLine.{command_of}
use Rattle.mos_words.specs.declared.command_line.commands.Command.{Command}
use Rattle.mos_words.specs.declared.command_line.commands.Command.TheVariants.{Run}
use Rattle.mosel_run.specs.declared.answer.Answer.{Answer}
use Rattle.mosel_run.specs.declared.status.Status.{Status}
use Rattle.mosel_run.specs.Answered.{IsCommandAnswer, IsAnswer, Answered, delivered, no_memory}
use Rattle.mosel_run.specs.Answers.{IsUnreadAnswer}
use Rattle.mosel_run.specs.Delivered.{Delivered, whole, broken, Broke, unwritten, unput, no_memory_to_write, no_memory_to_put}
use Rattle.mosel_run.specs.Jobs.{Journals, AnyJournal, OneThread}
use Rattle.mosel_run.specs.Run.{Request, IsRunAnswer, unread, all_read, IsAnswerTo, refusal, report}
use Rattle.mosel_run.specs.States.{FolderState, SinkState, Devices, Held, folder_state}
use Rattle.mosel_run.specs.declared.answer.Deed.{Deed}

later_unread : (before middle after : FolderState) (name : List ℕ) (got : Got) (answer : Answer) → middle.faults ≤ after.faults
    → IsUnreadAnswer before middle name got answer → IsUnreadAnswer before after name got answer
later_unread before middle after name NotThere answer later h = h
later_unread before middle after name TooLong answer later h = h
later_unread before middle after name Failed answer later h = (h.0, (let rose = h.1 in omega arith))
later_unread before middle after name (Bytes bytes) answer later h = absurd h
later_unread before middle after name WantsMemory answer later h = absurd h

later_run : (journals : Journals) (asked : Request) (before middle after : FolderState) (answer : Answer) → middle.faults ≤ after.faults
    → IsRunAnswer journals asked before middle answer → IsRunAnswer journals asked before after answer
later_run journals asked before middle after answer later (unread name got u a) = unread name got u (later_unread before middle after name got answer later a)
later_run journals asked before middle after answer later (all_read sources r a) = all_read sources r a

-- an answer stays one where the folder's count rises further
later_answer : (journals : Journals) (command : Option Command) (before middle after : FolderState) (answer : Answer) → middle.faults ≤ after.faults
    → IsCommandAnswer journals command before middle answer → IsCommandAnswer journals command before after answer
later_answer journals None before middle after answer later h = h
later_answer journals (Some (Run name lanes budget)) before middle after answer later h = later_run journals _ before middle after answer later h

-- what was left of a deed, where the folder's count did not fall before
later_broke : (content : Option Files) (faults middle : ℕ) (sink : SinkState) (after : Devices) (held : Held) (deed : Deed) (status : Status) → faults ≤ middle
    → Broke (record { folder = folder_state content middle; sink = sink }) after held deed status
    → Broke (record { folder = folder_state content faults; sink = sink }) after held deed status
later_broke content faults middle sink after held _ _ later (unwritten text wrote rose) = unwritten text wrote rose
later_broke content faults middle sink after held _ _ later (unput put lost same rose) = unput put lost same (omega arith)
later_broke content faults middle sink after held _ _ later (no_memory_to_write text wrote) = no_memory_to_write text wrote
later_broke content faults middle sink after held _ _ later (no_memory_to_put put others same) = no_memory_to_put put others same

-- a delivery from a folder that holds the same, and whose count did not fall before it
same_folder : (answer : Answer) (content : Option Files) (faults middle : ℕ) (sink : SinkState) (after : Devices) (status : Status) → faults ≤ middle
    → Delivered answer (record { folder = folder_state content middle; sink = sink }) after status
    → Delivered answer (record { folder = folder_state content faults; sink = sink }) after status
same_folder answer content faults middle sink after status later (whole s is held) = whole s is held
same_folder answer content faults middle sink after status later (broken s first rest deed is b) =
    broken s first rest deed is (later_broke content faults middle sink after _ deed s later b)

pub answered : (words : List (List ℕ)) (content between : Option Files) (faults middle : ℕ) (sink : SinkState) (after : Devices) (answer : Answer) (status : Status)
    → between ≡ content → faults ≤ middle → middle ≤ after.folder.faults
    → IsAnswer OneThread words (folder_state content faults) (folder_state between middle) answer
    → Delivered answer (record { folder = folder_state between middle; sink = sink }) after status
    → Answered OneThread words (record { folder = folder_state content faults; sink = sink }) after status
answered words content between faults middle sink after answer status same earlier later is h =
    delivered status answer
    (later_answer OneThread (command_of words) (folder_state content faults) (folder_state between middle) after.folder answer later is)
    (same_folder answer content faults middle sink after status earlier
    (subst (λ (held : Option Files). Delivered answer (record { folder = folder_state held middle; sink = sink }) after status) same h))

-- what one thread writes is a journal
any_answer_to : (asked : Request) (sources : List (List ℕ)) (answer : Answer) → IsAnswerTo OneThread asked sources answer → IsAnswerTo AnyJournal asked sources answer
any_answer_to asked sources answer (refusal line kind r) = refusal line kind r
any_answer_to asked sources answer (report r) = report (record {
  files = r.files;
  models = r.models;
  master = r.master;
  journal = r.journal;
  lines = r.lines;
  judged = r.judged;
  master_is = r.master_is;
  job = record { ended = r.job.ended; written = tt; follows = r.job.follows };
  deeds = r.deeds;
  so_far = r.so_far;
})

any_run : (asked : Request) (before after : FolderState) (answer : Answer) → IsRunAnswer OneThread asked before after answer → IsRunAnswer AnyJournal asked before after answer
any_run asked before after answer (unread name got u a) = unread name got u a
any_run asked before after answer (all_read sources r a) = all_read sources r (any_answer_to asked sources answer a)

any_answer : (command : Option Command) (before after : FolderState) (answer : Answer) → IsCommandAnswer OneThread command before after answer
    → IsCommandAnswer AnyJournal command before after answer
any_answer None before after answer h = h
any_answer (Some (Run name lanes budget)) before after answer h = any_run _ before after answer h

pub any_journal : (words : List (List ℕ)) (before after : Devices) (status : Status) → Answered OneThread words before after status
    → Answered AnyJournal words before after status
any_journal words before after status (delivered s answer is d) = delivered s answer (any_answer (command_of words) before.folder after.folder answer is) d
any_journal words before after _ (no_memory held same) = no_memory held same
