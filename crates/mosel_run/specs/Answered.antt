-- What the program does, whatever its words: the answer that they ask for, as far as the devices took it.
-- A status comes in one of these ways alone.

use Rattle.std.specs.Prelude.{◌≡◌, ℕ, List, [], ◌∷◌, Option, Some, None}
use Rattle.mos_text.specs.Limits.{source_limit}
use Rattle.hub_text.specs.ErrorLines.{usage_line}
use Rattle.mos_words.specs.CommandLine.{command_of}
use Rattle.mos_words.specs.declared.command_line.commands.Command.{Command}
use Rattle.mos_words.specs.declared.command_line.commands.Command.TheVariants.{Run}
use Rattle.mosel_run.specs.declared.answer.Answer.{Answer}
use Rattle.mosel_run.specs.declared.status.Status.{Status}
use Rattle.mosel_run.specs.declared.status.Status.TheVariants.{Usage, NoMemory}
use Rattle.mosel_run.specs.Answers.{line_answer}
use Rattle.mosel_run.specs.Delivered.{Delivered}
use Rattle.mosel_run.specs.Jobs.{Journals}
use Rattle.mosel_run.specs.Run.{Request, IsRunAnswer}
use Rattle.mosel_run.specs.States.{FolderState, Devices}

-- what a command asks for
abbrev pub request_of : Command → Request
request_of (Run name lanes budget) =
    record { ahead = []; listed = record { name = name; limit = source_limit } ∷ []; behind = []; lanes = lanes; budget = budget; params = [] }

-- the answer by the command: words that are none have the usage line
abbrev pub IsCommandAnswer : Journals → Option Command → FolderState → FolderState → Answer → Type 0
IsCommandAnswer journals None before after answer = answer ≡ line_answer usage_line Usage
IsCommandAnswer journals (Some (Run name lanes budget)) before after answer = IsRunAnswer journals (request_of (Run name lanes budget)) before after answer

-- the answer by the words
abbrev pub IsAnswer : Journals → List (List ℕ) → FolderState → FolderState → Answer → Type 0
IsAnswer journals words before after answer = IsCommandAnswer journals (command_of words) before after answer

-- the status says how far the answer was delivered, or that memory was wanting before
pub data Answered (journals : Journals) (words : List (List ℕ)) (before after : Devices) : Status → Type 0 where
  -- the answer was delivered, as far as the status says
  delivered : (status : Status) (answer : Answer) → IsAnswer journals words before.folder after.folder answer
      → Delivered answer before after status → Answered journals words before after status
  -- memory was wanting before anything was written or put
  no_memory : after.folder.content ≡ before.folder.content → after.sink.bytes ≡ before.sink.bytes → Answered journals words before after NoMemory
