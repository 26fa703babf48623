-- The line that a command writes in place of a report, where it ends before its job.
use Rattle.std.specs.Prelude.{ℕ, List, ◌++◌, codes, decimal}
use Rattle.mos_text.specs.Kinds.{kind_text}
use Rattle.mos_text.specs.declared.kind.Kind.{Kind}

-- the words are no command
unfoldable pub usage_line : List ℕ
usage_line = codes "mosel: usage\n"

-- the program's name, and what is the matter with a file
unfoldable pub about : List ℕ → List ℕ → List ℕ
about name matter = codes "mosel: " ++ name ++ matter

-- a source is not accepted: the first line at fault, and the kind with its word
unfoldable pub verdict_line : List ℕ → ℕ → Kind → List ℕ
verdict_line name line kind =
    about name (codes " line ") ++ decimal line ++ codes ": " ++ kind_text kind ++ codes "\n"

-- a listed file is not there
abbrev pub missing_line : List ℕ → List ℕ
missing_line name = about name (codes ": missing\n")

-- a listed file is above its limit
abbrev pub too_large_line : List ℕ → List ℕ
too_large_line name = about name (codes ": too large\n")

-- the folder failed at a file
abbrev pub read_fault_line : List ℕ → List ℕ
read_fault_line name = about name (codes ": read fault\n")

-- the rule that is broken, at the end of the line
unfoldable pub rule_text : ℕ → List ℕ
rule_text rule = codes ", rule " ++ decimal rule ++ codes "\n"

-- an image or an order file is not accepted: the byte at fault, and the rule that it breaks
unfoldable pub bad_input_line : List ℕ → ℕ → ℕ → List ℕ
bad_input_line name at rule = about name (codes ": bad input at ") ++ decimal at ++ rule_text rule
