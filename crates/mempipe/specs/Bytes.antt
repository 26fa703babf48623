-- The bytes of a pipe that nobody has taken, as the index keeps them.

use Rattle.std.specs.Prelude.{◌≡◌, ◌<◌, ℕ, List, length}
use Rattle.mempipe.specs.declared.untaken.Untaken.{Untaken}
use Rattle.mempipe.specs.declared.untaken.Untaken.TheVariants.{Held, Counted}

-- these are the bytes: they are held in a ring for 4,096, or counted
abbrev pub IsUntaken : Untaken → List ℕ → Type 0
IsUntaken (Held ring) bytes = (ring.items ≡ bytes) × (ring.capacity ≡ 4096)
IsUntaken (Counted count) bytes = count ≡ length bytes

-- no bytes were let go
abbrev pub IsHere : Untaken → Type 0
IsHere (Held ring) = Unit {0}
IsHere (Counted count) = count ≡ 0

-- more bytes need no memory: there is a ring for them, or they are counted only
abbrev pub CanHold : Untaken → Type 0
CanHold (Held ring) = Unit {0}
CanHold (Counted count) = 0 < count
