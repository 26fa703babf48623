-- As the code goes about it: a text that grows piece by piece, and how a number is read.

use Rattle.std.specs.Prelude.{◌≡◌, ◌≤◌, ◌<◌, ℕ, ◌+◌, List, ◌++◌, length, Option, Some, None, Result, Ok, Err, nat_le, if◌then◌else◌}
use Rattle.mos_text.specs.declared.fault_kind.FaultKind.TheVariants.{TooBig}
use Rattle.mos_value.specs.declared.fault.ValueFault.{ValueFault}
use Rattle.mos_value.specs.declared.fault.ValueFault.TheVariants.{Fault, NoMemory}
use Rattle.vm_lib.specs.Numerals.{digits_from}

-- the most bytes of a text
abbrev pub text_limit : ℕ
text_limit = 1000000

-- a text with this piece behind it would be too long, or memory was wanting
abbrev pub IsOver : ValueFault → (before piece : List ℕ) → Type 0
IsOver (Fault kind) before piece = (kind ≡ TooBig) × (text_limit < length before + length piece)
IsOver NoMemory before piece = Unit {0}

-- a piece went behind a text, or there is no room for it
abbrev pub Grows : {U : Type 0} → (before after piece : List ℕ) → Result U ValueFault → Type 0
Grows before after piece (Ok _) = (after ≡ before ++ piece) × (length after ≤ text_limit)
Grows before after piece (Err fault) = IsOver fault before piece

-- a number that is not above that of the least integer
abbrev pub up_to_least : ℕ → Option ℕ
up_to_least n = if nat_le n 2147483648 then Some n else None

-- the same of a number that may be there
abbrev pub IsUpToLeast : Option ℕ → Type 0
IsUpToLeast None = Unit {0}
IsUpToLeast (Some n) = n ≤ 2147483648

-- one that is there
abbrev pub if_up_to_least : Option ℕ → Option ℕ
if_up_to_least None = None
if_up_to_least (Some n) = up_to_least n

-- the number behind digits of which the first were read
abbrev pub number_behind : ℕ → List ℕ → Option ℕ
number_behind n text = if_up_to_least (digits_from n text)

-- what one more digit gives, and more digits behind it
abbrev pub number_then : Option ℕ → List ℕ → Option ℕ
number_then None text = None
number_then (Some n) text = number_behind n text
