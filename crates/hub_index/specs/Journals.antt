-- What a journal with its indexes is to a contract: its entries, and the number of those that there is room for.

use Rattle.std.specs.Prelude.{ℕ, List, Option, IsTrue}
use Rattle.job_calls.specs.declared.call.Call.{Call}
use Rattle.job_calls.specs.declared.entry.Entry.{Entry}
use Rattle.job_calls.specs.Entries.{own_entries}
use Rattle.job_calls.specs.Runs.{opening}
use Rattle.job_calls.specs.Fitting.{fits}

-- the entries
abbrev pub entries_of : List Entry × ℕ → List Entry
entries_of journal = journal.0

-- and the number of those that there is room for
abbrev pub room_of : List Entry × ℕ → ℕ
room_of journal = journal.1

-- the lane may make the call
abbrev pub MayMake : List Entry → ℕ → Option ℕ → Call → Type 0
MayMake journal lane run call = IsTrue (fits (opening journal) (own_entries lane journal) lane run call)
