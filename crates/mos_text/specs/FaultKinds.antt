-- The number and the printed word of each kind of fault.

use Rattle.std.specs.Prelude.{ℕ, List, codes}
use Rattle.mos_text.specs.declared.fault_kind.FaultKind.{FaultKind}
use Rattle.mos_text.specs.declared.fault_kind.FaultKind.TheVariants.{Overflow, DivZero, Range, Empty, TooBig, Depth, OutFull, BadParam, EventClass, BadName, BadData, NoLabel, NoFile, NoLane, QueueFull, TooManyRuns, HubFull, PipeBusy, Broken, NoImage, NotLoaded, Busy}

-- The number that an image writes, 1 to 22.
abbrev pub fault_number : FaultKind → ℕ
fault_number Overflow = 1
fault_number DivZero = 2
fault_number Range = 3
fault_number Empty = 4
fault_number TooBig = 5
fault_number Depth = 6
fault_number OutFull = 7
fault_number BadParam = 8
fault_number EventClass = 9
fault_number BadName = 10
fault_number BadData = 11
fault_number NoLabel = 12
fault_number NoFile = 13
fault_number NoLane = 14
fault_number QueueFull = 15
fault_number TooManyRuns = 16
fault_number HubFull = 17
fault_number PipeBusy = 18
fault_number Broken = 19
fault_number NoImage = 20
fault_number NotLoaded = 21
fault_number Busy = 22

-- The word that a report prints.
abbrev pub fault_word : FaultKind → List ℕ
fault_word Overflow = codes "OVERFLOW"
fault_word DivZero = codes "DIVZERO"
fault_word Range = codes "RANGE"
fault_word Empty = codes "EMPTY"
fault_word TooBig = codes "TOOBIG"
fault_word Depth = codes "DEPTH"
fault_word OutFull = codes "OUTFULL"
fault_word BadParam = codes "BADPARAM"
fault_word EventClass = codes "EVENTCLASS"
fault_word BadName = codes "BADNAME"
fault_word BadData = codes "BADDATA"
fault_word NoLabel = codes "NOLABEL"
fault_word NoFile = codes "NOFILE"
fault_word NoLane = codes "NOLANE"
fault_word QueueFull = codes "QUEUEFULL"
fault_word TooManyRuns = codes "TOOMANYRUNS"
fault_word HubFull = codes "HUBFULL"
fault_word PipeBusy = codes "PIPEBUSY"
fault_word Broken = codes "BROKEN"
fault_word NoImage = codes "NOIMAGE"
fault_word NotLoaded = codes "NOTLOADED"
fault_word Busy = codes "BUSY"
