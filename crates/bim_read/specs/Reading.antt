-- Reading from left to right: what stands at the front of bytes with the bytes behind it, or the first wrong field.

use Rattle.std.specs.Prelude.{◌≡◌, ℕ, zero, suc, Bool, List, [], ◌∷◌, ◌++◌, length, Option, Some, None, Result, Ok, Err, if◌then◌else◌}
use Rattle.bim_read.specs.declared.fault.FaultKind.{FaultKind}
use Rattle.bim_read.specs.declared.fault.FaultKind.TheVariants.{Short}
use Rattle.bim_read.specs.declared.fault.Bad.{Bad}
use Rattle.bim_read.specs.declared.fault.ReadFault.{ReadFault}
use Rattle.bim_read.specs.declared.fault.ReadFault.TheVariants as faults

-- a value and the bytes behind it, or a fault
abbrev pub Found : Type 0 → Type 0
Found A = Result (A × List ℕ) Bad

infixl 10 ◌>>=◌
-- go on with what was found
abbrev pub ◌>>=◌ : {A B : Type 0} → Result A Bad → (A → Result B Bad) → Result B Bad
(Ok x) >>= f = f x
(Err e) >>= f = Err e

-- the field at the front of these bytes is wrong; a place is told by how many bytes there are from it on
abbrev pub wrong : {A : Type 0} → FaultKind → List ℕ → Result A Bad
wrong kind bytes = Err (record { left = length bytes; kind = kind })

-- the bytes end too early, which is a fault at their end
abbrev pub ends_early : {A : Type 0} → Result A Bad
ends_early = Err (record { left = 0; kind = Short })

-- what is found, made into something else
abbrev pub made : {A B : Type 0} → (A → B) → (List ℕ → Found A) → List ℕ → Found B
made f read bytes = read bytes >>= λ x. Ok (f x.0, x.1)

-- one thing and another behind it
abbrev pub both : {A B : Type 0} → (List ℕ → Found A) → (List ℕ → Found B) → List ℕ → Found (A × B)
both first second bytes = first bytes >>= λ x. second x.1 >>= λ y. Ok ((x.0, y.0), y.1)

-- what a value means, or a fault at its field where it means nothing
abbrev pub meant : {B : Type 0} → Option B → FaultKind → List ℕ → List ℕ → Found B
meant None kind bytes rest = wrong kind bytes
meant (Some b) kind bytes rest = Ok (b, rest)

-- a field whose value means something
abbrev pub chosen : {A B : Type 0} → (A → Option B) → FaultKind → (List ℕ → Found A) → List ℕ → Found B
chosen meaning kind read bytes = read bytes >>= λ x. meant (meaning x.0) kind bytes x.1

-- where the test holds
abbrev pub tested : {A : Type 0} → (A → Bool) → A → Option A
tested test x = if test x then Some x else None

-- a field whose value passes a test
abbrev pub checked : {A : Type 0} → (A → Bool) → FaultKind → (List ℕ → Found A) → List ℕ → Found A
checked test kind read bytes = chosen (tested test) kind read bytes

-- as many things of one kind
unfoldable pub many : {A : Type 0} → (List ℕ → Found A) → ℕ → List ℕ → Found (List A)
many read zero bytes = Ok ([], bytes)
many read (suc n) bytes = read bytes >>= λ first. many read n first.1 >>= λ others. Ok (first.0 ∷ others.0, others.1)

-- a count, and as many things
abbrev pub table : {A : Type 0} → (List ℕ → Found ℕ) → (List ℕ → Found A) → List ℕ → Found (List A)
table count read bytes = count bytes >>= λ n. many read n.0 n.1

-- what was found before, and what is still found
abbrev pub with_front : {A : Type 0} → List A → Found (List A) → Found (List A)
with_front front found = found >>= λ x. Ok (front ++ x.0, x.1)

-- A function returned what reading finds, and left the bytes behind it; but for want of memory.

-- of a fault
abbrev pub Fails : {A : Type 0} → ReadFault → Result A Bad → Type 0
Fails faults.NoMemory found = Unit {0}
Fails (faults.Wrong bad) found = found ≡ Err bad

-- of any answer, the bytes behind it given
abbrev pub Finds : {A : Type 0} → Result A ReadFault → List ℕ → Found A → Type 0
Finds (Ok x) rest found = found ≡ Ok (x, rest)
Finds (Err e) rest found = Fails e found

-- of a function that puts what it finds somewhere
abbrev pub Puts : {A : Type 0} → Result (Unit {0}) ReadFault → A → List ℕ → Found A → Type 0
Puts (Ok done) x rest found = found ≡ Ok (x, rest)
Puts (Err e) x rest found = Fails e found

-- of one that leaves no bytes
abbrev pub Gives : {A : Type 0} → Result A ReadFault → Result A Bad → Type 0
Gives (Ok x) found = found ≡ Ok x
Gives (Err e) found = Fails e found

-- of one that puts it somewhere and leaves no bytes
abbrev pub Fills : {A : Type 0} → Result (Unit {0}) ReadFault → A → Result A Bad → Type 0
Fills (Ok done) x found = found ≡ Ok x
Fills (Err e) x found = Fails e found
