-- The text of an end and of a call, as a report writes them.
use Rattle.std.specs.Prelude.{ℕ, List, ◌++◌, Option, Some, None, ℤ, length, flat_map, codes, decimal}
use Rattle.std.specs.Fmt.{signed_decimal}
use Rattle.mos_text.specs.FaultKinds.{fault_word}
use Rattle.job_calls.specs.declared.call.Call.{Call}
use Rattle.job_calls.specs.declared.call.Call.TheVariants.{Open, Claim, Quit, Finish, Compile, Load, Run, Wait, Next, Peek, Drop, IsEmpty, Send, Status, ExitCode, Stop, Unload, Read, Write, PipeOpen, PipePut, PipeTake, PipeClose}
use Rattle.job_calls.specs.declared.call.Way.{Way}
use Rattle.job_calls.specs.declared.call.Way.TheVariants.{Reads, Writes}
use Rattle.job_calls.specs.declared.end.End.{End}
use Rattle.job_calls.specs.declared.end.End.TheVariants.{Code, Fault, Spent, Stopped, NoMemory}
use Rattle.job_calls.specs.declared.entry.Listed.{Listed}
use Rattle.hub_text.specs.Quoting.{in_quotes, hex_text, with_number, with_quotes}

-- how a run ended
unfoldable pub end_text : End → List ℕ
end_text (Code n) = codes "ok " ++ signed_decimal n
end_text (Fault kind) = codes "fault " ++ fault_word kind
end_text Spent = codes "spent"
end_text Stopped = codes "stopped"
end_text NoMemory = codes "nomemory"

-- a listed file: a space, its name and its length
unfoldable pub file_text : Listed → List ℕ
file_text file = codes " " ++ file.name ++ codes ":" ++ decimal (length file.bytes)

-- the job's lanes and budget, the master's parameter text and the listed files
unfoldable pub open_text : ℕ → ℕ → List ℕ → List Listed → List ℕ
open_text lanes budget params files =
    codes "Open " ++ decimal lanes ++ codes " " ++ decimal budget ++ codes " " ++ in_quotes params ++ flat_map file_text files

-- the two names
unfoldable pub compile_text : List ℕ → List ℕ → List ℕ
compile_text src dst = codes "Compile " ++ in_quotes src ++ codes " " ++ in_quotes dst

-- the model and its parameter text
unfoldable pub run_text : ℕ → List ℕ → List ℕ
run_text model params = codes "Run " ++ decimal model ++ codes " " ++ in_quotes params

-- the model that an event goes to, or the run that started this one
unfoldable pub receiver_text : Option ℕ → List ℕ
receiver_text None = codes "parent"
receiver_text (Some model) = decimal model

-- the receiver, and the class and value of the event
unfoldable pub send_text : Option ℕ → ℤ → ℤ → List ℕ
send_text to class value =
    codes "Send " ++ receiver_text to ++ codes " " ++ signed_decimal class ++ codes " " ++ signed_decimal value

-- a word, a name in quotes and bytes
unfoldable pub bytes_text : List ℕ → List ℕ → List ℕ → List ℕ
bytes_text word name bytes = with_quotes word name ++ codes " " ++ hex_text bytes

-- which end of a pipe
abbrev pub way_text : Way → List ℕ
way_text Reads = codes " read"
way_text Writes = codes " write"

-- a call; the name of a block begins with its prefix, a pipe's stands without one
unfoldable pub call_text : Call → List ℕ
call_text (Open lanes budget params files) = open_text lanes budget params files
call_text Claim = codes "Claim"
call_text Quit = codes "Quit"
call_text (Finish end) = codes "Finish " ++ end_text end
call_text (Compile src dst) = compile_text src dst
call_text (Load file) = with_quotes (codes "Load") file
call_text (Run model params) = run_text model params
call_text Wait = codes "Wait"
call_text Next = codes "Next"
call_text Peek = codes "Peek"
call_text Drop = codes "Drop"
call_text IsEmpty = codes "IsEmpty"
call_text (Send to class value) = send_text to class value
call_text (Status model) = with_number (codes "Status") model
call_text (ExitCode model) = with_number (codes "ExitCode") model
call_text (Stop model) = with_number (codes "Stop") model
call_text (Unload model) = with_number (codes "Unload") model
call_text (Read name) = with_quotes (codes "Read") name
call_text (Write name bytes) = bytes_text (codes "Write") name bytes
call_text (PipeOpen name way) = with_quotes (codes "PipeOpen") name ++ way_text way
call_text (PipePut name bytes) = bytes_text (codes "PipePut") name bytes
call_text (PipeTake name) = with_quotes (codes "PipeTake") name
call_text (PipeClose name) = with_quotes (codes "PipeClose") name
