-- A command that the words mean keeps the limits of its parts.

use Rattle.std.proofs.Common.{◌≡◌, ◌≤◌, ℕ, Bool, true, false, not, ◌&&◌, ◌||◌, List, [], ◌∷◌, length, Some, None, refl, sym, ap, subst, nat_le, ◌==◌, eqb-true, ne_eqb, arith}
use Rattle.std.specs.Prelude.{IfOk, Result, Ok, Err}
use Rattle.mos_words.specs.declared.command_line.commands.WordFault.{WordFault}
use Rattle.std.proofs.lemmas.Bool.{leb-true}
use Rattle.std.specs.Prelude.{if◌then◌else◌, slice_index_or}
use Rattle.std.specs.List.{list_all}
use Rattle.mos_text.specs.FileName.{is_file_name, is_source_name}
use Rattle.mos_words.specs.declared.command_line.commands.Command.{Command}
use Rattle.mos_words.specs.declared.command_line.options.OptionName.{OptionName}
use Rattle.mos_words.specs.declared.command_line.options.OptionName.TheVariants.{Lanes, Budget}
use Rattle.mos_words.specs.CommandLine.{Word, row_of, run_options, values, is_number, number_of, is_value, setting_of, files, breaks_words, breaks_options, breaks_files, run_command}
use Rattle.mos_words.specs.Fit.{IsWithinLimits}

chosen : (b : Bool) (x y : Command) → (if b then None else Some x) ≡ Some y → (b ≡ false) × (x ≡ y)
chosen true x y h = cc
chosen false x y h = (refl, cc)

neither : (a b : Bool) → (a || b) ≡ false → (a ≡ false) × (b ≡ false)
neither true b h = cc
neither false b h = (refl, h)

both : (a b : Bool) → (a && b) ≡ true → (a ≡ true) × (b ≡ true)
both true b h = (refl, h)
both false b h = cc

holds : (a : Bool) → not a ≡ false → a ≡ true
holds true h = refl
holds false h = cc

at_most : (a b : ℕ) → nat_le a b ≡ true → a ≤ b
at_most a b h = leb-true a b h

picked : (all : List Word) → list_all is_file_name all ≡ true → length all ≡ 1 → list_all is_source_name all ≡ true
    → (is_file_name (slice_index_or all 0 []) ≡ true) × (is_source_name (slice_index_or all 0 []) ≡ true)
picked [] f l s = absurd (omega arith)
picked (x ∷ xs) f l s = ((both (is_file_name x) (list_all is_file_name xs) f).0, (both (is_source_name x) (list_all is_source_name xs) s).0)

-- one file, which is a file name and a source's
one_file : (named : List Word) → breaks_files named ≡ false
    → (is_file_name (slice_index_or named 0 []) ≡ true) × (is_source_name (slice_index_or named 0 []) ≡ true)
unfolding breaks_files
one_file named h =
    let m = neither (not (list_all is_file_name named) || not (length named == 1)) (not (list_all is_source_name named)) h in
    let n = neither (not (list_all is_file_name named)) (not (length named == 1)) m.0 in
    picked named (holds (list_all is_file_name named) n.0) (eqb-true (length named) 1 (holds (length named == 1) n.1)) (holds (list_all is_source_name named) m.1)

-- a setting that the table allows, where the usual one is
in_table : (option : OptionName) (given : List Word) → list_all (is_value option) given ≡ true
    → (row_of option).least ≤ (row_of option).usual → (row_of option).usual ≤ (row_of option).most
    → ((row_of option).least ≤ setting_of option given) × (setting_of option given ≤ (row_of option).most)
unfolding is_value setting_of
in_table option [] h low high = (low, high)
in_table option (v ∷ vs) h low high =
    let row = row_of option in
    let value = (both (is_value option v) (list_all (is_value option) vs) h).0 in
    let parts = both (is_number v && nat_le row.least (number_of v)) (nat_le (number_of v) row.most) value in
    let some : (length (v ∷ vs) == 0) ≡ false = ne_eqb (length (v ∷ vs)) 0 (λ e. absurd (omega arith)) in
    let is : setting_of option (v ∷ vs) ≡ number_of v = ap (λ b. if b then row.usual else number_of v) some in (
      subst (λ (n : ℕ). row.least ≤ n) (sym is) (at_most row.least (number_of v) (both (is_number v) (nat_le row.least (number_of v)) parts.0).1),
      subst (λ (n : ℕ). n ≤ row.most) (sym is) (at_most (number_of v) row.most parts.1),
    )

abbrev IsGiven : OptionName → List Word → Type 0
IsGiven option arguments = list_all (is_value option) (values option arguments) ≡ true

all_given : (arguments : List Word) → breaks_options run_options arguments ≡ false → IsGiven Lanes arguments × IsGiven Budget arguments
unfolding breaks_options
all_given arguments h =
    let lanes = neither (not (list_all (is_value Lanes) (values Lanes arguments))) _ (neither _ _ h).1 in
    let budget = neither (not (list_all (is_value Budget) (values Budget arguments))) false lanes.1 in
    (holds _ lanes.0, holds _ budget.0)

run_fits : (arguments : List Word) (command : Command) → run_command arguments ≡ Some command → IsWithinLimits command
unfolding run_command
run_fits arguments command h =
    let c = chosen (breaks_words arguments || breaks_options run_options arguments || breaks_files (files arguments)) _ command h in
    let outer = neither (breaks_words arguments || breaks_options run_options arguments) (breaks_files (files arguments)) c.0 in
    let inner = neither (breaks_words arguments) (breaks_options run_options arguments) outer.0 in
    let named = one_file (files arguments) outer.1 in
    let given = all_given arguments inner.1 in
    let lanes = in_table Lanes (values Lanes arguments) given.0 (omega arith) (omega arith) in
    let budget = in_table Budget (values Budget arguments) given.1 (omega arith) (omega arith) in
    subst IsWithinLimits c.1 (named.0, named.1, lanes.0, lanes.1, budget.0, budget.1)

pub all_fit : (arguments : List Word) (read : Result Command WordFault) → IfOk read (λ command. run_command arguments ≡ Some command) → IfOk read IsWithinLimits
all_fit arguments (Ok command) h = run_fits arguments command h
all_fit arguments (Err fault) h = tt
