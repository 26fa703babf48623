-- Laws of jobs, of what they put, and of sources.

use Rattle.std.specs.Prelude.{◌≡◌, ℕ, ◌<◌, false, List, Option, Some, None, length, map, slice_get, ◌⊎◌}
use Rattle.mos_text.specs.Content.{Files, Holds, known_of}
use Rattle.mos_text.specs.declared.kind.Kind.{Kind}
use Rattle.mos_tree.specs.declared.source.Tree.{Tree}
use Rattle.job_calls.specs.declared.entry.Entry.{Entry}
use Rattle.job_calls.specs.declared.entry.Listed.{Listed}
use Rattle.job_calls.specs.declared.run_line.RunLine.{RunLine}
use Rattle.job_calls.specs.Entries.{own_entries, has_quit, run_count, is_finished}
use Rattle.job_calls.specs.Runs.{Opening, opening, source_of, last_given}
use Rattle.mos_meaning.specs.Follows.{Behaviour, FollowsSources}
use Rattle.mos_parse.specs.Parsed.{IsParsed, IsSyntaxFault}
use Rattle.job_laws.specs.Lanes.{EndsDone}
use Rattle.lane_step.specs.Whole.{IsWhole}
use Rattle.mosel_run.specs.declared.answer.Put.{Put}
use Rattle.mosel_run.specs.Accepted.{IsAccepted, IsRefusedAt, IsOnlyTree, IsOnlyRefusal}
use Rattle.mosel_run.specs.declared.answer.Deed.TheVariants.{Store}
use Rattle.mosel_run.specs.Puts.{bytes_under, last_puts}
use Rattle.mosel_run.specs.States.{held_after}

-- a whole job has the lanes, the budget and the files that its `Open` says, and no others
abbrev pub OneOpening : Type 0
OneOpening = (o other : Opening) (journal : List Entry) → IsWhole o journal → IsWhole other journal → o ≡ other

-- no lane of a whole job has quit
abbrev pub NobodyQuit : Type 0
NobodyQuit = (o : Opening) (journal : List Entry) → IsWhole o journal → has_quit journal ≡ false

-- a run without an end is no run of a whole job
abbrev pub EveryRunEnded : Type 0
EveryRunEnded = (o : Opening) (journal : List Entry) (run : ℕ) → IsWhole o journal → is_finished run journal ≡ false → run < run_count journal → ⊥

-- each lane was told last that the job is done
abbrev pub EveryLaneDone : Type 0
EveryLaneDone = (o : Opening) (journal : List Entry) (lane : ℕ) → IsWhole o journal → lane < o.lanes → EndsDone (own_entries lane journal)

-- there are as many lines as runs
abbrev pub LineForEachRun : Type 0
LineForEachRun = (journal : List Entry) (lines : List RunLine) (behaviours : List (Option Behaviour))
    → FollowsSources journal lines behaviours → length lines ≡ run_count journal

-- a file that can be run is the source of each run that has a line
abbrev pub EachRunHasASource : Type 0
EachRunHasASource = (journal : List Entry) (lines : List RunLine) (behaviours : List (Option Behaviour)) (run source : ℕ) (line : RunLine)
    → FollowsSources journal lines behaviours → slice_get lines run ≡ Some line → source_of run journal ≡ Some source
    → slice_get behaviours source ≡ Some None → ⊥

-- its line has the name of that file
abbrev pub EachLineNamesItsSource : Type 0
EachLineNamesItsSource = (journal : List Entry) (lines : List RunLine) (behaviours : List (Option Behaviour)) (run source : ℕ) (line : RunLine) (o : Opening) (file : Listed)
    → FollowsSources journal lines behaviours → slice_get lines run ≡ Some line → opening journal ≡ Some o → source_of run journal ≡ Some source
    → slice_get o.files source ≡ Some file → line.source ≡ file.name

-- the folder's content after these puts, one after the other
abbrev pub put_all : Option Files → List Put → Option Files
put_all content puts = (held_after (record { content = content; bytes = None }) (map Store puts)).content

-- a name that is given bytes has the last of them when all is put
abbrev pub LastPutStays : Type 0
LastPutStays = (files : Files) (puts : List Put) (name bytes : List ℕ) → last_given (bytes_under name) puts ≡ Some bytes
    → known_of (put_all (Some files) (last_puts puts)) name ≡ Holds bytes

-- a name that is given none is what it was
abbrev pub OthersStay : Type 0
OthersStay = (files : Files) (puts : List Put) (name : List ℕ) → last_given (bytes_under name) puts ≡ None
    → known_of (put_all (Some files) (last_puts puts)) name ≡ known_of (Some files) name

-- the source has a tree
abbrev pub HasATree : List ℕ → Type 0
HasATree source = (tree : Tree) × IsParsed source tree

-- the source has a fault of tokens or grammar
abbrev pub HasAFault : List ℕ → Type 0
HasAFault source = (line : ℕ) × (kind : Kind) × IsSyntaxFault source line kind

-- the source is accepted, or refused at a line
abbrev pub IsJudgedSource : List ℕ → Type 0
IsJudgedSource source =
    ((tree : Tree) × IsAccepted source tree) ⊎ ((line : ℕ) × (kind : Kind) × IsRefusedAt source line kind)

-- a source that has a tree or a fault is accepted, or refused at a line
abbrev pub SourcesAreJudged : Type 0
SourcesAreJudged = (source : List ℕ) → HasATree source ⊎ HasAFault source → IsJudgedSource source

-- there is no source that is neither accepted nor refused
abbrev pub NoSourceIsNeither : Type 0
NoSourceIsNeither = (source : List ℕ) → ((tree : Tree) → IsAccepted source tree → ⊥)
    → ((line : ℕ) (kind : Kind) → IsRefusedAt source line kind → ⊥) → ⊥

-- a source that is accepted has one tree, and is refused nowhere
abbrev pub AcceptedHaveOneTree : Type 0
AcceptedHaveOneTree = (source : List ℕ) (tree : Tree) → IsAccepted source tree
    → IsOnlyTree source tree

-- a source that is refused is so at one line and for one reason, and has no tree that is accepted
abbrev pub RefusedHaveOneFault : Type 0
RefusedHaveOneFault = (source : List ℕ) (line : ℕ) (kind : Kind) → IsRefusedAt source line kind
    → IsOnlyRefusal source line kind
