-- Which status comes, by the words and by what is known of the files alone. It yields to a device that
-- fails and to want of memory.

use Rattle.std.specs.Prelude.{◌≡◌, ℕ, List, Option, Some, None, slice_get, ◌⊎◌}
use Rattle.mos_text.specs.Content.{Files}
use Rattle.mos_text.specs.declared.folder.Got.{Got}
use Rattle.mos_text.specs.declared.kind.Kind.{Kind}
use Rattle.mos_tree.specs.declared.source.Tree.{Tree}
use Rattle.mos_words.specs.CommandLine.{command_of}
use Rattle.mos_words.specs.declared.command_line.commands.Command.{Command}
use Rattle.mos_words.specs.declared.command_line.commands.Command.TheVariants.{Run}
use Rattle.mosel_run.specs.declared.status.Status.{Status}
use Rattle.mosel_run.specs.declared.status.Status.TheVariants.{Usage, Refused, FolderFault, SinkFault, NoMemory}
use Rattle.mosel_run.specs.Accepted.{IsAccepted, IsRefusedAt}
use Rattle.mosel_run.specs.Answered.{request_of}
use Rattle.mosel_run.specs.Run.{wanted_of, listed_of, IsReported}
use Rattle.mosel_run.specs.Wanted.{AreKnown, AreRead, IsUnread}

-- a device failed, or memory was wanting
abbrev pub Hides : Status → Type 0
Hides status = (status ≡ SinkFault) ⊎ ((name : List ℕ) × (status ≡ FolderFault name)) ⊎ (status ≡ NoMemory)

-- the status is this one, if nothing hides it
abbrev pub Only : Status → Status → Type 0
Only expected status = (status ≡ expected) ⊎ Hides status

-- the words are a command, of whose files all is known up to the first that cannot be had, and of which this holds
abbrev pub Finds : List (List ℕ) → Option Files → (Command → Type 0) → Type 0
Finds words content holds = (command : Command) × (command_of words ≡ Some command)
    × AreKnown content (wanted_of (request_of command)) × holds command

-- the folder gives these bytes for all files of the command
abbrev pub Gives : Option Files → Command → List (List ℕ) → Type 0
Gives content command sources = AreRead content (wanted_of (request_of command)) sources

-- the first of the files of a job is this source
abbrev pub BeginsWith : Command → List (List ℕ) → List ℕ → Type 0
BeginsWith command sources source = slice_get (listed_of (request_of command) sources) 0 ≡ Some source

-- what a command refuses of these files: `run` its master
abbrev pub Refuses : Command → List (List ℕ) → ℕ → Kind → Type 0
Refuses (Run name lanes budget) sources line kind =
    (source : List ℕ) × BeginsWith (Run name lanes budget) sources source × IsRefusedAt source line kind

-- what it accepts
abbrev pub Accepts : Command → List (List ℕ) → Type 0
Accepts (Run name lanes budget) sources =
    (source : List ℕ) × (tree : Tree) × BeginsWith (Run name lanes budget) sources source × IsAccepted source tree

-- words that are no command
abbrev pub ExactUsage : List (List ℕ) → Status → Type 0
ExactUsage words status = command_of words ≡ None → Only Usage status

-- the folder answers so for the first file that cannot be had
abbrev pub ExactUnread : Got → (List ℕ → Status) → List (List ℕ) → Option Files → Status → Type 0
ExactUnread got status_of words content status = (name : List ℕ)
    → Finds words content (λ command. IsUnread content (wanted_of (request_of command)) name got) → Only (status_of name) status

-- all files are there and in size, and the command refuses them
abbrev pub ExactRefused : List (List ℕ) → Option Files → Status → Type 0
ExactRefused words content status = (sources : List (List ℕ)) (line : ℕ) (kind : Kind)
    → Finds words content (λ command. Gives content command sources × Refuses command sources line kind) → Only (Refused line kind) status

-- all files are there and in size, and the command accepts them: a report is written
abbrev pub ExactReport : List (List ℕ) → Option Files → Status → Type 0
ExactReport words content status = (sources : List (List ℕ))
    → Finds words content (λ command. Gives content command sources × Accepts command sources) → IsReported status ⊎ Hides status
