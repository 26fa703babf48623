-- The number of each way in which the program ends.

use Rattle.std.specs.Prelude.{ℕ}
use Rattle.mosel_run.specs.declared.status.Status.{Status}
use Rattle.mosel_run.specs.declared.status.Status.TheVariants.{Done, Usage, Refused, Missing, TooLarge, FolderFault, SinkFault, StartRefused, MasterFailed, MasterSpent, Stalled, BadInput, NoMemory, RunNoMemory}

-- the number of a status
abbrev pub code_of : Status → ℕ
code_of Done = 0
code_of Usage = 1
code_of (Refused line kind) = 2
code_of (Missing name) = 3
code_of (TooLarge name) = 4
code_of (FolderFault name) = 5
code_of SinkFault = 6
code_of StartRefused = 7
code_of MasterFailed = 8
code_of MasterSpent = 9
code_of Stalled = 10
code_of (BadInput name at rule) = 11
code_of NoMemory = 12
code_of RunNoMemory = 13
