-- What a journal weighs: the bytes of the texts and blobs of its calls.

use Rattle.std.specs.Prelude.{ℕ, ◌+◌, List, length, sum_by}
use Rattle.job_calls.specs.declared.call.Call.{Call}
use Rattle.job_calls.specs.declared.call.Call.TheVariants.{Open, Claim, Quit, Finish, Compile, Load, Run, Wait, Next, Peek, Drop, IsEmpty, Send, Status, ExitCode, Stop, Unload, Read, Write, PipeOpen, PipePut, PipeTake, PipeClose}
use Rattle.job_calls.specs.declared.entry.Entry.{Entry}

-- the bytes of a call's texts and blobs; those of `Open` do not count
abbrev pub call_weight : Call → ℕ
call_weight (Open lanes budget params files) = 0
call_weight Claim = 0
call_weight Quit = 0
call_weight (Finish end) = 0
call_weight (Compile src dst) = length src + length dst
call_weight (Load file) = length file
call_weight (Run model params) = length params
call_weight Wait = 0
call_weight Next = 0
call_weight Peek = 0
call_weight Drop = 0
call_weight IsEmpty = 0
call_weight (Send to class value) = 0
call_weight (Status model) = 0
call_weight (ExitCode model) = 0
call_weight (Stop model) = 0
call_weight (Unload model) = 0
call_weight (Read name) = length name
call_weight (Write name bytes) = length name + length bytes
call_weight (PipeOpen name way) = length name
call_weight (PipePut name bytes) = length name + length bytes
call_weight (PipeTake name) = length name
call_weight (PipeClose name) = length name

-- what the calls of a journal weigh
abbrev pub weight : List Entry → ℕ
weight journal = sum_by (λ e. call_weight e.call) journal
