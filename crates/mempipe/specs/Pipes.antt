-- The pipe of each name, and what changes of it.

use Rattle.std.specs.Prelude.{◌≡◌, ◌≤◌, ◌<◌, ◌+◌, ℕ, true, List, Some, IsSome, is_some, length}
use Rattle.std.specs.Option.{option_map_or}
use Rattle.indexmap.specs.IndexMap.{get_by_text}
use Rattle.job_calls.specs.declared.entry.Entry.{Entry}
use Rattle.job_calls.specs.Pipes.{put_by}
use Rattle.mempipe.specs.declared.ends.Ends.{Ends}
use Rattle.mempipe.specs.declared.untaken.Untaken.{Untaken}
use Rattle.mempipe.specs.declared.untaken.Untaken.TheVariants.{Counted}
use Rattle.mempipe.specs.declared.state.State.{State}
use Rattle.mempipe.specs.declared.pipes.Pipes.{Pipes}
use Rattle.mempipe.specs.Bytes.{IsUntaken, IsHere, CanHold}
use Rattle.mempipe.specs.States.{named_pipe, no_ends, ends_after, bytes_after}

-- the ends of the pipe
abbrev pub ends_at : List ℕ → Pipes → Ends
ends_at name pipes = option_map_or (λ (state : State). state.ends) (get_by_text pipes.pipes name) no_ends

-- its bytes that nobody has taken
abbrev pub untaken_at : List ℕ → Pipes → Untaken
untaken_at name pipes = option_map_or (λ (state : State). state.untaken) (get_by_text pipes.pipes name) (Counted 0)

-- what is said of the pipe can change without memory
abbrev pub IsKnown : List ℕ → Pipes → Type 0
IsKnown name pipes = IsSome (get_by_text pipes.pipes name)

-- the pipes say the same, and have no less room
pub record SayTheSame (old new : Pipes) : Type 0 where
  pub ends : (name : List ℕ) → ends_at name new ≡ ends_at name old
  pub bytes : (name bytes : List ℕ) → IsUntaken (untaken_at name old) bytes → IsUntaken (untaken_at name new) bytes
  pub here : (name : List ℕ) → IsHere (untaken_at name old) → IsHere (untaken_at name new)
  pub room : (name : List ℕ) → CanHold (untaken_at name old) → CanHold (untaken_at name new)

-- the entry can be told without memory: its pipe is known, and has room for what is put
pub record CanTell (pipes : Pipes) (e : Entry) : Type 0 where
  pub known : (name : List ℕ) → named_pipe e.call ≡ Some name → IsKnown name pipes
  pub room : (name : List ℕ) → 0 < length (put_by name e.call e.reply) → CanHold (untaken_at name pipes)

-- what the entry tells of each pipe was told
pub record AreAfter (old new : Pipes) (e : Entry) (place : ℕ) : Type 0 where
  pub ends : (name : List ℕ) → ends_at name new ≡ ends_after name place (ends_at name old) e
  pub bytes : (name bytes : List ℕ) → IsUntaken (untaken_at name old) bytes → length bytes + length (put_by name e.call e.reply) ≤ 4096
      → IsUntaken (untaken_at name new) (bytes_after name bytes e)
  pub here : (name : List ℕ) → (is_some (ends_at name old).reader ≡ true → IsHere (untaken_at name old))
      → is_some (ends_at name new).reader ≡ true → IsHere (untaken_at name new)
