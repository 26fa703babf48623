-- As the code goes about it: how the wanted files were read, and the answer where one was not given.

use Rattle.std.specs.Prelude.{◌≡◌, ℕ, List}
use Rattle.mos_text.specs.Faults.{Rose}
use Rattle.mos_text.specs.declared.folder.Got.{Got}
use Rattle.mos_text.specs.declared.folder.Got.TheVariants as got
use Rattle.hub_text.specs.ErrorLines.{missing_line, too_large_line, read_fault_line}
use Rattle.mosel_run.specs.declared.answer.Answer.{Answer}
use Rattle.mosel_run.specs.declared.status.Status.TheVariants as status
use Rattle.mosel_run.specs.declared.wanted.Wanted.{Wanted}
use Rattle.mosel_run.specs.declared.wanted.Lack.{Lack}
use Rattle.mosel_run.specs.declared.wanted.Lack.TheVariants.{Missing, TooLarge, Failed}
use Rattle.mosel_run.specs.declared.wanted.Read.{Read}
use Rattle.mosel_run.specs.declared.wanted.Read.TheVariants.{All as AllOf, Unread}
use Rattle.mosel_run.specs.Answers.{line_answer}
use Rattle.mosel_run.specs.States.{FolderState}
use Rattle.mosel_run.specs.Wanted.{AreRead, IsUnread}

-- the folder's answer
abbrev pub got_of : Lack → Got
got_of Missing = got.Missing
got_of TooLarge = got.TooLarge
got_of Failed = got.Failed

-- the folder's count rose, where it failed
abbrev pub CountRose : FolderState → FolderState → Lack → Type 0
CountRose before after Missing = Unit {0}
CountRose before after TooLarge = Unit {0}
CountRose before after Failed = Rose before.faults after.faults

-- all wanted files were read, or one was not given
abbrev pub IsReadOf : List Wanted → FolderState → FolderState → Read → Type 0
IsReadOf wanted before after (AllOf sources) = AreRead before.content wanted sources
IsReadOf wanted before after (Unread name lack) =
    IsUnread before.content wanted name (got_of lack) × CountRose before after lack

-- the line and the status of a file that was not given
abbrev pub AnswersLack : List ℕ → Lack → Answer → Type 0
AnswersLack name Missing answer = answer ≡ line_answer (missing_line name) (status.Missing name)
AnswersLack name TooLarge answer = answer ≡ line_answer (too_large_line name) (status.TooLarge name)
AnswersLack name Failed answer = answer ≡ line_answer (read_fault_line name) (status.FolderFault name)
