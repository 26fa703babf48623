-- What an entry makes of the ends and the bytes of one pipe.

use Rattle.std.specs.Prelude.{ℕ, Bool, false, not, ◌&&◌, ◌||◌, List, [], ◌++◌, Option, Some, None, drop, length, option_map, if◌then◌else◌}
use Rattle.job_calls.specs.declared.call.Call.{Call}
use Rattle.job_calls.specs.declared.call.Call.TheVariants.{PipeOpen, PipePut, PipeTake, PipeClose}
use Rattle.job_calls.specs.declared.call.Way.{Way}
use Rattle.job_calls.specs.declared.call.Way.TheVariants.{Reads, Writes}
use Rattle.job_calls.specs.declared.entry.Entry.{Entry}
use Rattle.job_calls.specs.Entries.{is_run}
use Rattle.job_calls.specs.Runs.{last_of}
use Rattle.job_calls.specs.Pipes.{opened_session, opens, is_close, is_session, put_by, taken_by}
use Rattle.mempipe.specs.declared.hold.Hold.{Hold}
use Rattle.mempipe.specs.declared.ends.Ends.{Ends}

-- the pipe that a call speaks of
abbrev pub named_pipe : Call → Option (List ℕ)
named_pipe (PipeOpen name way) = Some name
named_pipe (PipePut name bytes) = Some name
named_pipe (PipeTake name) = Some name
named_pipe (PipeClose name) = Some name
named_pipe call = None

-- the ends of a pipe that nobody has opened
abbrev pub no_ends : Ends
no_ends = record { reader = None; writer = None; session = None; joined = None; had_writer = false }

-- who opened this end and did not close it
abbrev pub hold_of : Way → Ends → Option Hold
hold_of Reads ends = ends.reader
hold_of Writes ends = ends.writer

-- the run holds an end from this place on
abbrev pub holds_from : Option ℕ → ℕ → Option Hold
holds_from run place = option_map (λ k. record { run = k; since = place }) run

-- the run that opened an end closes it
abbrev pub is_closed_by : List ℕ → Option Hold → Entry → Bool
is_closed_by name None e = false
is_closed_by name (Some hold) e = is_run hold.run e.run && is_close name e.call e.reply

-- who opened this end and did not close it, after one more entry at this place
abbrev pub hold_after : Way → List ℕ → ℕ → Option Hold → Entry → Option Hold
hold_after way name place hold e =
    if opens way name e then holds_from e.run place else (if is_closed_by name hold e then None else hold)

-- the pipe is opened to write, for this session
abbrev pub joins : Option ℕ → List ℕ → Entry → Bool
joins session name e = is_session session (opened_session Writes name e.call e.reply)

-- the ends after one more entry at this place
abbrev pub ends_after : List ℕ → ℕ → Ends → Entry → Ends
ends_after name place ends e =
    record {
      reader = hold_after Reads name place ends.reader e;
      writer = hold_after Writes name place ends.writer e;
      session = if opens Reads name e then Some place else ends.session;
      joined = last_of ends.joined (opened_session Writes name e.call e.reply);
      had_writer = not (opens Reads name e) && (ends.had_writer || joins ends.session name e);
    }

-- the bytes that nobody has taken, after one more entry
abbrev pub bytes_after : List ℕ → List ℕ → Entry → List ℕ
bytes_after name bytes e =
    if opens Reads name e then [] else drop (length (taken_by name e.call e.reply)) (bytes ++ put_by name e.call e.reply)
