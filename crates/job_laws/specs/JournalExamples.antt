-- Worked examples of journals: one that is legal, and some that are not.

use Rattle.std.specs.Prelude.{◌≡◌, List, [], ◌∷◌, None, pos}
use Rattle.job_calls.specs.declared.call.Call.TheVariants.{Open, Claim, Finish}
use Rattle.job_calls.specs.declared.end.End.TheVariants as end
use Rattle.job_calls.specs.declared.entry.Entry.{Entry}
use Rattle.job_calls.specs.declared.reply.Answer.TheVariants.{NotYet}
use Rattle.job_calls.specs.declared.reply.Reply.TheVariants.{Opened, Claimed, Done, Unit as UnitReply}
use Rattle.job_calls.specs.Answers.{answer_of}
use Rattle.job_calls.specs.Legal.{IsLegal, Follows}
use Rattle.job_calls.specs.HelloJournal.{hello_entries, hello_file, entry}

-- the journal of hello when it has just been opened
abbrev pub opened_only : List Entry
opened_only = entry [] (Open 1 10000000 [] (hello_file ∷ [])) Opened ∷ []

-- the journal of hello is legal
abbrev pub HelloIsLegal : Type 0
HelloIsLegal = IsLegal hello_entries

-- a lane that holds no run finishes none: the call does not fit
abbrev pub UnheldRun : Type 0
UnheldRun = Follows opened_only (entry (0 ∷ []) (Finish (end.Code (pos 0))) UnitReply) → ⊥

-- the first run that a lane is given is run 0, and not another
abbrev pub AnotherRun : Type 0
AnotherRun = Follows opened_only (entry [] Claim (Claimed 1 0 [])) → ⊥

-- no lane but lane 0 is given anything before run 0
abbrev pub OtherLaneWaits : Type 0
OtherLaneWaits = answer_of opened_only 1 None Claim ≡ NotYet

-- while run 0 goes on, the job is not done
abbrev pub NotDoneYet : Type 0
NotDoneYet = Follows opened_only (entry [] Claim Done) → ⊥

-- a lane that was told that the job is done asks no more: a journal that came to its end has no further entry of it
abbrev pub AfterTheEnd : Type 0
AfterTheEnd = Follows hello_entries (entry [] Claim Done) → ⊥
