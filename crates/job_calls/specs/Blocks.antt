-- Blocks of memory and files: what was last written under a name.

use Rattle.std.specs.Prelude.{ℕ, Bool, false, List, Option, Some, None, if◌then◌else◌, option_map, option_and_then, slice_get}
use Rattle.std.specs.List.{enumerate_from}
use Rattle.std.specs.Str.{bytes_eq}
use Rattle.job_calls.specs.declared.call.Call.{Call}
use Rattle.job_calls.specs.declared.call.Call.TheVariants.{Write}
use Rattle.job_calls.specs.declared.reply.Reply.{Reply}
use Rattle.job_calls.specs.declared.reply.Reply.TheVariants as reply
use Rattle.job_calls.specs.declared.entry.Entry.{Entry}
use Rattle.job_calls.specs.Runs.{last_given}

-- the place of the last entry that passes the test
abbrev pub last_place : (Entry → Bool) → List Entry → Option ℕ
last_place test journal = last_given (λ p. if test p.1 then Some p.0 else None) (enumerate_from 0 journal)

-- bytes were written under this name
abbrev pub writes : List ℕ → Call → Reply → Bool
writes name (Write written bytes) reply.Unit = bytes_eq written name
writes name _ _ = false

-- the place of the last write under this name
abbrev pub last_write : List ℕ → List Entry → Option ℕ
last_write name journal = last_place (λ e. writes name e.call e.reply) journal

-- the bytes that a call writes
abbrev pub bytes_written : Call → Option (List ℕ)
bytes_written (Write name bytes) = Some bytes
bytes_written call = None

-- bytes that were written, and the place of the entry that wrote them
pub record WrittenBytes : Type 0 where
  pub place : ℕ
  pub bytes : List ℕ

-- what the entry at this place wrote
abbrev pub written_at : ℕ → List Entry → Option WrittenBytes
written_at place journal =
    option_map (λ bytes. record { place = place; bytes = bytes })
    (option_and_then (λ e. bytes_written e.call) (slice_get journal place))

-- what was last written under this name
abbrev pub last_written : List ℕ → List Entry → Option WrittenBytes
last_written name journal = option_and_then (λ place. written_at place journal) (last_write name journal)
