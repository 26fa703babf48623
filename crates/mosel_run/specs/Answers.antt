-- What a command has to answer, before any device is asked to take it; and the lines that stand in place
-- of all else.

use Rattle.std.specs.Prelude.{◌≡◌, ℕ, List, [], ◌∷◌}
use Rattle.mos_text.specs.Faults.{Rose}
use Rattle.mos_text.specs.declared.folder.Got.{Got}
use Rattle.mos_text.specs.declared.folder.Got.TheVariants.{Bytes, Missing as NotThere, TooLarge as TooLong, Failed, NoMemory as WantsMemory}
use Rattle.hub_text.specs.ErrorLines.{missing_line, too_large_line, read_fault_line}
use Rattle.mosel_run.specs.declared.answer.Answer.{Answer}
use Rattle.mosel_run.specs.declared.answer.Deed.TheVariants.{Write}
use Rattle.mosel_run.specs.declared.status.Status.{Status}
use Rattle.mosel_run.specs.declared.status.Status.TheVariants.{Missing, TooLarge, FolderFault}
use Rattle.mosel_run.specs.States.{FolderState}

-- one line, and nothing to put
abbrev pub line_answer : List ℕ → Status → Answer
line_answer text status = record { deeds = Write text ∷ []; status = status }

-- the answer to a file that the folder did not give: not there, too long, or the folder failed
abbrev pub IsUnreadAnswer : FolderState → FolderState → List ℕ → Got → Answer → Type 0
IsUnreadAnswer before after name NotThere answer = answer ≡ line_answer (missing_line name) (Missing name)
IsUnreadAnswer before after name TooLong answer = answer ≡ line_answer (too_large_line name) (TooLarge name)
IsUnreadAnswer before after name Failed answer =
    (answer ≡ line_answer (read_fault_line name) (FolderFault name)) × Rose before.faults after.faults
IsUnreadAnswer before after name (Bytes bytes) answer = ⊥
IsUnreadAnswer before after name WantsMemory answer = ⊥
