-- How long a journal may be: its numbers and places then fit their types.
use Rattle.std.specs.Prelude.{◌<◌, ◌^◌, List, length}
use Rattle.job_calls.specs.declared.entry.Entry.{Entry}
use Rattle.job_calls.specs.Files.{files_of}

-- it has fewer than 2^31 entries, and so few files
abbrev pub IsSmall : List Entry → Type 0
IsSmall journal = (length journal < 2 ^ 31) × (length (files_of journal) < 2 ^ 31)
