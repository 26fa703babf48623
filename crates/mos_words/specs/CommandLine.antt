-- The command that the words of a command line mean: its file words, its options, and the rules that they keep.

use Rattle.std.specs.Prelude.{ℕ, ◌+◌, ◌-◌, ◌*◌, ◌==◌, nat_lt, nat_le, Bool, false, not, ◌&&◌, ◌||◌, if◌then◌else◌, Option, Some, None, List, [], ◌∷◌, length, drop, slice_index, slice_index_or, codes, fold}
use Rattle.std.specs.List.{list_all, list_any, before_first, after_first}
use Rattle.std.specs.Str.{bytes_eq}
use Rattle.mos_text.specs.FileName.{is_digit, is_file_name, is_source_name}
use Rattle.mos_words.specs.declared.command_line.commands.Command.{Command}
use Rattle.mos_words.specs.declared.command_line.commands.Command.TheVariants.{Run}
use Rattle.mos_words.specs.declared.command_line.options.OptionName.{OptionName}
use Rattle.mos_words.specs.declared.command_line.options.OptionName.TheVariants.{Lanes, Budget}

-- a word, as the list of its bytes
abbrev pub Word : Type 0
Word = List ℕ

-- an option that takes a number: its name, its least and greatest value, and its value where it is not given
pub record OptionRow : Type 0 where
  pub name : Word
  pub least : ℕ
  pub most : ℕ
  pub usual : ℕ

-- the table of the options that take a number
abbrev pub row_of : OptionName → OptionRow
row_of Lanes = record { name = codes "lanes"; least = 1; most = 64; usual = 16 }
row_of Budget = record { name = codes "budget"; least = 1; most = 1000000000; usual = 10000000 }

-- the options of the command `run`
abbrev pub run_options : List OptionName
run_options = Lanes ∷ Budget ∷ []

-- the word begins with a dash
abbrev pub begins_with_dash : Word → Bool
begins_with_dash word = slice_index word 0 == 45

-- an option word begins with two dashes
abbrev pub is_option : Word → Bool
is_option word = begins_with_dash word && (slice_index word 1 == 45)

-- the byte is `=`
abbrev pub is_equals_sign : ℕ → Bool
is_equals_sign byte = byte == 61

-- what stands behind the two dashes of an option word up to its first `=`, if it has one
abbrev pub name_in : Word → Word
name_in word = before_first is_equals_sign (drop 2 word)

-- what stands behind the first `=` of an option word
abbrev pub value_in : Word → Word
value_in word = after_first is_equals_sign (drop 2 word)

-- whether an option word has a `=`
abbrev pub has_equals_sign : Word → Bool
has_equals_sign word = list_any is_equals_sign (drop 2 word)

-- empty, `-`, `--`, or a word that begins with one dash
unfoldable pub is_misshapen : Word → Bool
is_misshapen word = (length word == 0) || (begins_with_dash word && not (is_option word)) || (is_option word && (length word == 2))

-- an option word with `=` and nothing behind it
unfoldable pub has_empty_value : Word → Bool
has_empty_value word = is_option word && has_equals_sign word && (length (value_in word) == 0)

-- an option word without `=`, whose value is the next word
unfoldable pub takes_next : Word → Bool
takes_next word = is_option word && not (has_equals_sign word)

-- an option word with this option's name
unfoldable pub is_named : OptionName → Word → Bool
is_named option word = is_option word && bytes_eq (name_in word) (row_of option).name

-- an option word with the name of none of these options
unfoldable pub is_unknown : List OptionName → Word → Bool
is_unknown options word = is_option word && not (list_any (λ option. is_named option word) options)

-- an option without `=` is the last word or stands before a word that begins with a dash
abbrev pub lacks_value : List Word → Bool
lacks_value [] = false
lacks_value (word ∷ words) = (takes_next word && ((length words == 0) || begins_with_dash (slice_index_or words 0 []))) || lacks_value words

-- the value of an option word with these words behind it
unfoldable pub value_at : Word → List Word → Word
value_at word words = if has_equals_sign word then value_in word else slice_index_or words 0 []

-- the values that the words give an option, in order
abbrev pub values : OptionName → List Word → List Word
values option [] = []
values option (word ∷ words) = if is_named option word then value_at word words ∷ values option words else values option words

-- 1 to 10 decimal digits
unfoldable pub is_number : Word → Bool
is_number word = nat_le 1 (length word) && nat_le (length word) 10 && list_all is_digit word

-- the number that decimal digits write
unfoldable pub number_of : Word → ℕ
number_of word = fold (λ number digit. number * 10 + (digit - 48)) 0 word

-- a value in the option's table
unfoldable pub is_value : OptionName → Word → Bool
is_value option word = is_number word && nat_le (row_of option).least (number_of word) && nat_le (number_of word) (row_of option).most

-- the number that the first of these values gives an option
unfoldable pub setting_of : OptionName → List Word → ℕ
setting_of option given = if length given == 0 then (row_of option).usual else number_of (slice_index_or given 0 [])

-- the file words behind a word: those that begin with no dash and are no option's value
abbrev pub files_behind : Word → List Word → List Word
files_behind before [] = []
files_behind before (word ∷ words) = if takes_next before || begins_with_dash word then files_behind word words else word ∷ files_behind word words

-- the file words of a command
abbrev pub files : List Word → List Word
files arguments = files_behind [] arguments

-- a word is misshapen, or has `=` and nothing behind it, or an option without `=` has no value
unfoldable pub breaks_words : List Word → Bool
breaks_words arguments = list_any is_misshapen arguments || list_any has_empty_value arguments || lacks_value arguments

-- an option is unknown to the command, or stands twice, or has a value outside its table
unfoldable pub breaks_options : List OptionName → List Word → Bool
breaks_options options arguments =
    list_any (is_unknown options) arguments
    || list_any (λ option. nat_lt 1 (length (values option arguments))) options
    || list_any (λ option. not (list_all (is_value option) (values option arguments))) options

-- a file word is no file name, or there is not one file, or it is no source
unfoldable pub breaks_files : List Word → Bool
breaks_files named = not (list_all is_file_name named) || not (length named == 1) || not (list_all is_source_name named)

-- the command `run` with these words behind it: none exactly where they break a rule
unfoldable pub run_command : List Word → Option Command
run_command arguments =
    if breaks_words arguments || breaks_options run_options arguments || breaks_files (files arguments)
    then None
    else Some (Run (slice_index_or (files arguments) 0 []) (setting_of Lanes (values Lanes arguments)) (setting_of Budget (values Budget arguments)))

-- the command of a list of words: the first is the program's name, the second has to be a command's
unfoldable pub command_of : List Word → Option Command
command_of [] = None
command_of (program ∷ []) = None
command_of (program ∷ command ∷ arguments) = if bytes_eq command (codes "run") then run_command arguments else None
