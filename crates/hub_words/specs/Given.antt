-- As the code goes about it: what a closure says of an entry. No public clause cites it.
use Rattle.std.specs.Prelude.{◌≡◌}
use Rattle.std.specs.Fn.{FnReturnsAt, Shared}
use denote.Bor.{Bor}
use Rattle.job_calls.specs.declared.entry.Entry.{Entry}

-- the closure gives of each entry the word on it
abbrev pub Computes : {F B : Type 0} → Shared F (Bor Entry × Unit {0}) B → F → (Entry → B) → Type 0
Computes {B = B} g f word = (e : Entry) (given : B) → FnReturnsAt g f e given → given ≡ word e
