-- Where an image breaks which rule, and which of the breaches comes first.

use Rattle.std.specs.Prelude.{ℕ, Bool, List, [], ◌∷◌, Option, Some, None, nat_eq, nat_lt, if◌then◌else◌}
use Rattle.bim_rules.specs.declared.breach.Breach.{Breach}
use Rattle.bim_rules.specs.declared.breach.Rule.{Rule}
use Rattle.bim_rules.specs.declared.breach.Rule.TheVariants.{Numbers, Types, Addresses, Ends, Stacks, Ticks, Operands, Targets, Returns, Heights}
use Rattle.bim_rules.specs.declared.breach.Table.{Table}
use Rattle.bim_rules.specs.declared.breach.Table.TheVariants as table

-- the rules by their numbers
abbrev pub rule_number : Rule → ℕ
rule_number Numbers = 1
rule_number Types = 2
rule_number Addresses = 3
rule_number Ends = 4
rule_number Stacks = 5
rule_number Ticks = 6
rule_number Operands = 7
rule_number Targets = 8
rule_number Returns = 9
rule_number Heights = 10

-- the tables in their order; the code stands behind them
abbrev pub table_number : Table → ℕ
table_number table.Types = 0
table_number table.Parameters = 1
table_number table.Globals = 2
table_number table.Routines = 3
table_number table.Points = 4
table_number table.Code = 5

-- by the rule, then by the table, then by the entry or address
abbrev pub comes_before : Breach → Breach → Bool
comes_before a b =
    if nat_eq (rule_number a.rule) (rule_number b.rule) then
    (if nat_eq (table_number a.table) (table_number b.table) then nat_lt a.at b.at
    else nat_lt (table_number a.table) (table_number b.table))
    else nat_lt (rule_number a.rule) (rule_number b.rule)

-- nothing where the rule is kept there
abbrev pub mark : Rule → Table → ℕ → Bool → List Breach
mark rule table at kept = if kept then [] else (record { rule = rule; table = table; at = at }) ∷ []

-- the one of two that comes first
abbrev pub earlier : Option Breach → Breach → Option Breach
earlier None b = Some b
earlier (Some a) b = if comes_before b a then Some b else Some a

-- the first of these and of what was found before
abbrev pub first_of : Option Breach → List Breach → Option Breach
first_of found [] = found
first_of found (b ∷ bs) = first_of (earlier found b) bs
