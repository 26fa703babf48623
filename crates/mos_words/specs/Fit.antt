-- What every command keeps.

use Rattle.std.specs.Prelude.{◌≡◌, ◌≤◌, true}
use Rattle.mos_text.specs.FileName.{is_file_name, is_source_name}
use Rattle.mos_words.specs.declared.command_line.commands.Command.{Command}
use Rattle.mos_words.specs.declared.command_line.commands.Command.TheVariants.{Run}

-- the source has the name of a source, and there are 1 to 64 lanes and 1 to 1,000,000,000 ticks
abbrev pub IsWithinLimits : Command → Type 0
IsWithinLimits (Run source lanes budget) =
    (is_file_name source ≡ true) × (is_source_name source ≡ true) × (1 ≤ lanes) × (lanes ≤ 64) × (1 ≤ budget) × (budget ≤ 1000000000)
