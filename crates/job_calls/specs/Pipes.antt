-- Pipes: who holds their ends, their sessions, and the bytes that were put and not yet taken.

use Rattle.std.specs.Prelude.{ℕ, ◌+◌, Bool, true, false, ◌&&◌, ◌||◌, List, [], Option, Some, None, nat_eq, length, drop, fold, flat_map, if◌then◌else◌, is_some, is_none}
use Rattle.std.specs.List.{list_any}
use Rattle.std.specs.Option.{option_map_or}
use Rattle.std.specs.Str.{bytes_eq}
use Rattle.job_calls.specs.declared.call.Call.{Call}
use Rattle.job_calls.specs.declared.call.Call.TheVariants as call
use Rattle.job_calls.specs.declared.call.Way.{Way}
use Rattle.job_calls.specs.declared.call.Way.TheVariants.{Reads, Writes}
use Rattle.job_calls.specs.declared.reply.Reply.{Reply}
use Rattle.job_calls.specs.declared.reply.Reply.TheVariants.{Session, Bytes}
use Rattle.job_calls.specs.declared.reply.Reply.TheVariants as reply
use Rattle.job_calls.specs.declared.entry.Entry.{Entry}
use Rattle.job_calls.specs.Entries.{is_run, is_finish}
use Rattle.job_calls.specs.Runs.{last_given}
use Rattle.job_calls.specs.Blocks.{last_place}

-- both are one end
abbrev pub is_way : Way → Way → Bool
is_way Reads Reads = true
is_way Writes Writes = true
is_way _ _ = false

-- this end of the pipe was opened, for the session that began at the place
abbrev pub opened_session : Way → List ℕ → Call → Reply → Option ℕ
opened_session way name (call.PipeOpen opened end) (Session place) = if is_way way end && bytes_eq opened name then Some place.0 else None
opened_session way name (call.Open lanes budget params files) reply = None
opened_session way name call.Claim reply = None
opened_session way name call.Quit reply = None
opened_session way name (call.Finish end) reply = None
opened_session way name (call.Compile src dst) reply = None
opened_session way name (call.Load file) reply = None
opened_session way name (call.Run model params) reply = None
opened_session way name call.Wait reply = None
opened_session way name call.Next reply = None
opened_session way name call.Peek reply = None
opened_session way name call.Drop reply = None
opened_session way name call.IsEmpty reply = None
opened_session way name (call.Send to class value) reply = None
opened_session way name (call.Status model) reply = None
opened_session way name (call.ExitCode model) reply = None
opened_session way name (call.Stop model) reply = None
opened_session way name (call.Unload model) reply = None
opened_session way name (call.Read other) reply = None
opened_session way name (call.Write other bytes) reply = None
opened_session way name (call.PipeOpen other end) reply = None
opened_session way name (call.PipePut other bytes) reply = None
opened_session way name (call.PipeTake other) reply = None
opened_session way name (call.PipeClose other) reply = None

-- an entry opens this end of the pipe
abbrev pub opens : Way → List ℕ → Entry → Bool
opens way name e = is_some (opened_session way name e.call e.reply)

-- the pipe was closed
abbrev pub is_close : List ℕ → Call → Reply → Bool
is_close name (call.PipeClose closed) reply.Unit = bytes_eq closed name
is_close name (call.Open lanes budget params files) reply = false
is_close name call.Claim reply = false
is_close name call.Quit reply = false
is_close name (call.Finish end) reply = false
is_close name (call.Compile src dst) reply = false
is_close name (call.Load file) reply = false
is_close name (call.Run model params) reply = false
is_close name call.Wait reply = false
is_close name call.Next reply = false
is_close name call.Peek reply = false
is_close name call.Drop reply = false
is_close name call.IsEmpty reply = false
is_close name (call.Send to class value) reply = false
is_close name (call.Status model) reply = false
is_close name (call.ExitCode model) reply = false
is_close name (call.Stop model) reply = false
is_close name (call.Unload model) reply = false
is_close name (call.Read other) reply = false
is_close name (call.Write other bytes) reply = false
is_close name (call.PipeOpen other end) reply = false
is_close name (call.PipePut other bytes) reply = false
is_close name (call.PipeTake other) reply = false
is_close name (call.PipeClose other) reply = false

-- a run lets go of its ends of the pipe: it closes them, or finishes
abbrev pub lets_go : List ℕ → Call → Reply → Bool
lets_go name call reply = is_close name call reply || is_finish call

-- the run that held an end lets go of it
abbrev pub closes : List ℕ → Option ℕ → Entry → Bool
closes name None e = false
closes name (Some run) e = is_run run e.run && lets_go name e.call e.reply

-- the run that holds this end of the pipe, after one more entry
abbrev pub holder_after : Way → List ℕ → Option ℕ → Entry → Option ℕ
holder_after way name held e =
    if opens way name e then e.run else (if closes name held e then None else held)

-- the run that holds this end of the pipe
abbrev pub holder : Way → List ℕ → List Entry → Option ℕ
holder way name journal = fold (holder_after way name) None journal

-- the place at which the pipe was last opened to read: a session begins there
abbrev pub session : List ℕ → List Entry → Option ℕ
session name journal = last_place (opens Reads name) journal

-- the session that the pipe was last opened to write for
abbrev pub writers_session : List ℕ → List Entry → Option ℕ
writers_session name journal = last_given (λ e. opened_session Writes name e.call e.reply) journal

-- both are there, and are one session
abbrev pub is_session : Option ℕ → Option ℕ → Bool
is_session (Some place) (Some other) = nat_eq place other
is_session _ _ = false

-- the last session had its writer already
abbrev pub had_writer : List ℕ → List Entry → Bool
had_writer name journal =
    list_any (λ e. is_session (session name journal) (opened_session Writes name e.call e.reply)) journal

-- the pipe has a reader, and it is the one that the writer was opened for
abbrev pub is_joined : List ℕ → List Entry → Bool
is_joined name journal =
    is_some (holder Reads name journal) && is_session (session name journal) (writers_session name journal)

-- the last session had its writer, and that one has closed
abbrev pub is_ended : List ℕ → List Entry → Bool
is_ended name journal = had_writer name journal && is_none (holder Writes name journal)

-- the entries of the last session
abbrev pub in_session : List ℕ → List Entry → List Entry
in_session name journal = option_map_or (λ place. drop (place + 1) journal) (session name journal) []

-- the bytes that a call puts into the pipe
abbrev pub put_by : List ℕ → Call → Reply → List ℕ
put_by name (call.PipePut put bytes) reply.Unit = if bytes_eq put name then bytes else []
put_by name (call.Open lanes budget params files) reply = []
put_by name call.Claim reply = []
put_by name call.Quit reply = []
put_by name (call.Finish end) reply = []
put_by name (call.Compile src dst) reply = []
put_by name (call.Load file) reply = []
put_by name (call.Run model params) reply = []
put_by name call.Wait reply = []
put_by name call.Next reply = []
put_by name call.Peek reply = []
put_by name call.Drop reply = []
put_by name call.IsEmpty reply = []
put_by name (call.Send to class value) reply = []
put_by name (call.Status model) reply = []
put_by name (call.ExitCode model) reply = []
put_by name (call.Stop model) reply = []
put_by name (call.Unload model) reply = []
put_by name (call.Read other) reply = []
put_by name (call.Write other bytes) reply = []
put_by name (call.PipeOpen other end) reply = []
put_by name (call.PipePut other bytes) reply = []
put_by name (call.PipeTake other) reply = []
put_by name (call.PipeClose other) reply = []

-- the bytes that a call takes out of it
abbrev pub taken_by : List ℕ → Call → Reply → List ℕ
taken_by name (call.PipeTake taken) (Bytes bytes) = if bytes_eq taken name then bytes else []
taken_by name (call.Open lanes budget params files) reply = []
taken_by name call.Claim reply = []
taken_by name call.Quit reply = []
taken_by name (call.Finish end) reply = []
taken_by name (call.Compile src dst) reply = []
taken_by name (call.Load file) reply = []
taken_by name (call.Run model params) reply = []
taken_by name call.Wait reply = []
taken_by name call.Next reply = []
taken_by name call.Peek reply = []
taken_by name call.Drop reply = []
taken_by name call.IsEmpty reply = []
taken_by name (call.Send to class value) reply = []
taken_by name (call.Status model) reply = []
taken_by name (call.ExitCode model) reply = []
taken_by name (call.Stop model) reply = []
taken_by name (call.Unload model) reply = []
taken_by name (call.Read other) reply = []
taken_by name (call.Write other bytes) reply = []
taken_by name (call.PipeOpen other end) reply = []
taken_by name (call.PipePut other bytes) reply = []
taken_by name (call.PipeTake other) reply = []
taken_by name (call.PipeClose other) reply = []

-- the bytes that were put into the pipe by these entries
abbrev pub put_in : List ℕ → List Entry → List ℕ
put_in name entries = flat_map (λ e. put_by name e.call e.reply) entries

-- and those that were taken out of it
abbrev pub taken_in : List ℕ → List Entry → List ℕ
taken_in name entries = flat_map (λ e. taken_by name e.call e.reply) entries

-- the bytes of the last session that were put and not yet taken
abbrev pub untaken_bytes : List ℕ → List Entry → List ℕ
untaken_bytes name journal = drop (length (taken_in name (in_session name journal))) (put_in name (in_session name journal))
