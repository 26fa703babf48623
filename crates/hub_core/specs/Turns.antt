-- As the code goes about it: what a claim of a lane comes to. No public clause cites it.

use Rattle.std.specs.Prelude.{◌≡◌, List, Some, None}
use Rattle.job_calls.specs.declared.entry.Entry.{Entry}
use Rattle.job_calls.specs.declared.reply.Answer.{Answer}
use Rattle.job_calls.specs.declared.reply.Answer.TheVariants as answer
use Rattle.job_calls.specs.declared.reply.Reply.TheVariants as reply
use Rattle.job_calls.specs.Answers.{give_run}
use Rattle.job_calls.specs.Entries.{unclaimed_run}
use Rattle.job_calls.specs.Runs.{source_of, params_of}
use Rattle.hub_core.specs.declared.turn.Turn.{Turn}
use Rattle.hub_core.specs.declared.turn.Turn.TheVariants.{Gives, Done, NotYet, Shut}

-- the answer to the claim
abbrev pub turn_answer : List Entry → Turn → Answer
turn_answer journal (Gives k) = give_run k (source_of k journal) (params_of k journal)
turn_answer journal Done = answer.Ready reply.Done
turn_answer journal NotYet = answer.NotYet
turn_answer journal Shut = answer.Shut

-- the run that is given, or whether one might be
abbrev pub IsNextRun : List Entry → Turn → Type 0
IsNextRun journal (Gives k) = unclaimed_run journal ≡ Some k
IsNextRun journal Done = unclaimed_run journal ≡ None
IsNextRun journal NotYet = Unit {0}
IsNextRun journal Shut = Unit {0}
