-- As the code goes about it: what an item of a parameter text gives, and how a number is read.

use Rattle.std.specs.Prelude.{◌≡◌, ◌≤◌, ℕ, pos, ◌-ℤ◌, Bool, true, false, List, [], ◌∷◌, Option, Some, None, map, reverse, nat_le, if◌then◌else◌}
use Rattle.mos_text.specs.declared.scalar.Scalar.{Scalar}
use Rattle.mos_text.specs.declared.scalar.Scalar.TheVariants.{Int}
use Rattle.mos_names.specs.NameLists.{Name}
use Rattle.run_state.specs.Parameters.{Parameter, skip_blanks, digits_from, and_then, given_behind}

-- the names of parameters
abbrev pub names_of : List Parameter → List Name
names_of formals = map (λ (p : Parameter). p.name) formals

-- their values where a text gives none
abbrev pub defaults_of : List Parameter → List Scalar
defaults_of formals = map (λ (p : Parameter). p.default) formals

-- what the item gives was put over the values, or it gives nothing
abbrev pub IsPut : List Parameter → List Scalar → List ℕ → Bool → List Scalar → Type 0
IsPut formals before item true after = given_behind formals before (item ∷ []) ≡ Some after
IsPut formals before item false after = given_behind formals before (item ∷ []) ≡ None

-- without the blanks at the end
abbrev pub trimmed_end : List ℕ → List ℕ
trimmed_end text = reverse (skip_blanks (reverse text))

-- a number that is not above that of the least integer
abbrev pub up_to_least : ℕ → Option ℕ
up_to_least n = if nat_le n 2147483648 then Some n else None

-- the same of a number that may be there
abbrev pub IsUpToLeast : Option ℕ → Type 0
IsUpToLeast None = Unit {0}
IsUpToLeast (Some n) = n ≤ 2147483648

-- the number behind digits of which the first were read
abbrev pub number_behind : ℕ → List ℕ → Option ℕ
number_behind n text = and_then (digits_from n text) up_to_least

-- so many below 0
abbrev pub negative_of : ℕ → Scalar
negative_of n = Int (pos 0 -ℤ pos n)
