-- What a reply says of the entries before it, in a legal journal: it is true.

use Rattle.std.specs.Prelude.{◌≡◌, ◌<◌, ℕ, ℤ, pos, false, true, List, ◌∷◌, ◌++◌, Option, Some, None, ◌⊎◌, length, slice_get, codes}
use Rattle.std.specs.List.{list_any}
use Rattle.mos_text.specs.FileName.{is_source_name}
use Rattle.job_calls.specs.declared.call.Call.{Call}
use Rattle.job_calls.specs.declared.call.Call.TheVariants.{Open, Claim, Quit, Finish, Compile, Load, Run, Wait, Next, Peek, Drop, IsEmpty, Send, Status, ExitCode, Stop, Unload, Read, Write, PipeOpen, PipePut, PipeTake, PipeClose}
use Rattle.job_calls.specs.declared.end.End.{End}
use Rattle.job_calls.specs.declared.reply.Reply.{Reply}
use Rattle.job_calls.specs.declared.reply.Reply.TheVariants.{Claimed, Loaded, Took, Queued, Found, Bytes, PipeEnd, Unit as UnitReply}
use Rattle.job_calls.specs.declared.entry.Entry.{Entry}
use Rattle.job_calls.specs.declared.entry.Listed.{Listed}
use Rattle.job_calls.specs.Runs.{source_of, params_of}
use Rattle.job_calls.specs.Files.{files_of, data_of}
use Rattle.job_calls.specs.Models.{parent_of, exit_code}
use Rattle.job_calls.specs.Blocks.{writes}
use Rattle.job_calls.specs.Pipes.{in_session, put_in, taken_in}
use Rattle.job_calls.specs.Legal.{IsLegal}

-- an event was sent to run r, and queued
pub record IsSent (e : Entry) (r : ℕ) (class value : ℤ) : Type 0 where
  pub to : Option ℕ
  pub sent : e.call ≡ Send to class value
  pub queued : e.reply ≡ Queued r

-- a run has ended that run r had started
pub record IsEnd (before : List Entry) (e : Entry) (r : ℕ) (class value : ℤ) : Type 0 where
  pub run : ℕ
  pub end : End
  pub by : e.run ≡ Some run
  pub ended : e.call ≡ Finish end
  pub started : parent_of run before ≡ Some r
  pub class_is : class ≡ pos 1
  pub value_is : value ≡ exit_code end

-- at this place of the journal stands an event for run r, with this class and value
pub record IsEvent (journal : List Entry) (place r : ℕ) (class value : ℤ) : Type 0 where
  pub before : List Entry
  pub event : Entry
  pub after : List Entry
  pub cut : journal ≡ before ++ event ∷ after
  pub place_is : length before ≡ place
  pub made : IsSent event r class value ⊎ IsEnd before event r class value

-- an event that is taken was sent to the taker, or is the end of a run that it started
pub record IsTaken (journal : List Entry) (run : Option ℕ) (place : ℕ) (class value : ℤ) : Type 0 where
  pub taker : ℕ
  pub by : run ≡ Some taker
  pub event : IsEvent journal place taker class value

-- at this place of the journal, which is not the first, stands the last write under the name: these are its bytes
pub record IsLastWrite (journal : List Entry) (name : List ℕ) (place : ℕ) (bytes : List ℕ) : Type 0 where
  pub before : List Entry
  pub write : Entry
  pub after : List Entry
  pub cut : journal ≡ before ++ write ∷ after
  pub place_is : length before ≡ place
  pub some : 0 < place
  pub wrote : write.call ≡ Write name bytes
  pub accepted : write.reply ≡ UnitReply
  pub last : list_any (λ e. writes name e.call e.reply) after ≡ false

-- nothing was written under the name, and a data file of that name with these bytes is listed
pub record IsListed (journal : List Entry) (name : List ℕ) (place : ℕ) (bytes : List ℕ) : Type 0 where
  pub place_is : place ≡ 0
  pub unwritten : list_any (λ e. writes name e.call e.reply) journal ≡ false
  pub listed : data_of name journal ≡ Some bytes

-- at this place of the list of files stands a source that was accepted
pub record IsAccepted (journal : List Entry) (source : ℕ) : Type 0 where
  pub file : Listed
  pub listed : slice_get (files_of journal) source ≡ Some file
  pub code : file.code ≡ 0
  pub named : is_source_name file.name ≡ true

-- run k can be carried out: it has a source and a parameter text, and the source is a file that was accepted, by its
-- name a source, or the file that the job was opened with as master
pub record HasSource (journal : List Entry) (k source : ℕ) (params : List ℕ) : Type 0 where
  pub file : Listed
  pub source_is : source_of k journal ≡ Some source
  pub params_is : params_of k journal ≡ Some params
  pub listed : slice_get (files_of journal) source ≡ Some file
  pub code : file.code ≡ 0
  pub named : (k ≡ 0) ⊎ (is_source_name file.name ≡ true)

-- what a reply says of the journal before it
abbrev pub SaysTrue : List Entry → Option ℕ → Call → Reply → Type 0
SaysTrue journal run call (Took place class value) = IsTaken journal run place.0 class value
SaysTrue journal run Claim (Claimed k source params) = HasSource journal k source params
SaysTrue journal run (Load file) (Loaded model source) = IsAccepted journal source
SaysTrue journal run (Read name) (Found place bytes) =
    IsLastWrite journal name place.0 bytes ⊎ IsListed journal name place.0 bytes
SaysTrue journal run (PipeTake name) (Bytes bytes) =
    put_in name (in_session name journal) ≡ taken_in name (in_session name journal) ++ bytes
SaysTrue journal run (PipeTake name) PipeEnd =
    put_in name (in_session name journal) ≡ taken_in name (in_session name journal)
SaysTrue journal run (Open lanes budget params files) reply = Unit {0}
SaysTrue journal run Claim reply = Unit {0}
SaysTrue journal run Quit reply = Unit {0}
SaysTrue journal run (Finish end) reply = Unit {0}
SaysTrue journal run (Compile src dst) reply = Unit {0}
SaysTrue journal run (Load file) reply = Unit {0}
SaysTrue journal run (Run model params) reply = Unit {0}
SaysTrue journal run Wait reply = Unit {0}
SaysTrue journal run Next reply = Unit {0}
SaysTrue journal run Peek reply = Unit {0}
SaysTrue journal run Drop reply = Unit {0}
SaysTrue journal run IsEmpty reply = Unit {0}
SaysTrue journal run (Send to class value) reply = Unit {0}
SaysTrue journal run (Status model) reply = Unit {0}
SaysTrue journal run (ExitCode model) reply = Unit {0}
SaysTrue journal run (Stop model) reply = Unit {0}
SaysTrue journal run (Unload model) reply = Unit {0}
SaysTrue journal run (Read name) reply = Unit {0}
SaysTrue journal run (Write name bytes) reply = Unit {0}
SaysTrue journal run (PipeOpen name way) reply = Unit {0}
SaysTrue journal run (PipePut name bytes) reply = Unit {0}
SaysTrue journal run (PipeTake name) reply = Unit {0}
SaysTrue journal run (PipeClose name) reply = Unit {0}

-- each reply of a legal journal says what is true of the entries before it
abbrev pub RepliesAreTrue : Type 0
RepliesAreTrue =
    (before after : List Entry) (e : Entry) → IsLegal (before ++ e ∷ after) → SaysTrue before e.run e.call e.reply

-- what is read with place 0 is a listed data file, and nothing was written under its name
abbrev pub ReadsOfFiles : Type 0
ReadsOfFiles =
    (before after : List Entry) (e : Entry) → IsLegal (before ++ e ∷ after)
    → (name bytes : List ℕ) → e.call ≡ Read name → e.reply ≡ Found (record { 0 = 0 }) bytes
    → IsListed before name 0 bytes

-- what is read of a block in memory was written: its place is not 0
abbrev pub ReadsOfBlocks : Type 0
ReadsOfBlocks =
    (before after : List Entry) (e : Entry) → IsLegal (before ++ e ∷ after)
    → (name bytes : List ℕ) (place : ℕ) → e.call ≡ Read (codes "shmem:" ++ name)
    → e.reply ≡ Found (record { 0 = place }) bytes → 0 < place

-- a name of a block in memory is no file's
abbrev pub BlocksAreNotListed : Type 0
BlocksAreNotListed =
    (journal : List Entry) → IsLegal journal → (name : List ℕ) → data_of (codes "shmem:" ++ name) journal ≡ None
