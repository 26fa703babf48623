-- Which calls are answered without memory, once there is room for one more entry.

use Rattle.std.specs.Prelude.{◌≡◌, ℕ, Bool, true, false, ◌⊎◌}
use Rattle.job_calls.specs.declared.call.Call.{Call}
use Rattle.job_calls.specs.declared.call.Call.TheVariants.{Open, Claim, Quit, Finish, Compile, Load, Run, Wait, Next, Peek, Drop, IsEmpty, Send, Status, ExitCode, Stop, Unload, Read, Write, PipeOpen, PipePut, PipeTake, PipeClose}

-- the calls that are promised an answer without memory
abbrev pub takes_no_memory : Call → Bool
takes_no_memory (Open lanes budget params files) = false
takes_no_memory Claim = true
takes_no_memory Quit = true
takes_no_memory (Finish end) = true
takes_no_memory (Compile src dst) = false
takes_no_memory (Load file) = false
takes_no_memory (Run model params) = false
takes_no_memory Wait = true
takes_no_memory Next = false
takes_no_memory Peek = true
takes_no_memory Drop = false
takes_no_memory IsEmpty = true
takes_no_memory (Send to class value) = false
takes_no_memory (Status model) = false
takes_no_memory (ExitCode model) = false
takes_no_memory (Stop model) = false
takes_no_memory (Unload model) = false
takes_no_memory (Read name) = false
takes_no_memory (Write name bytes) = false
takes_no_memory (PipeOpen name way) = false
takes_no_memory (PipePut name bytes) = false
takes_no_memory (PipeTake name) = false
takes_no_memory (PipeClose name) = false

-- a call may want memory where there is room for no more entry, or where it was promised none
abbrev pub MayWant : ℕ → Call → Type 0
MayWant spare call = (spare ≡ 0) ⊎ (takes_no_memory call ≡ false)
