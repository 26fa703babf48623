-- A journal with its run lines follows its sources: each run's calls are those of the behaviour of its
-- source, given the replies, and its line says how the run ended, what it wrote and what it took.

use Rattle.std.specs.Prelude.{◌≡◌, ◌≤◌, ℕ, List, ◌++◌, Option, Some, None, length, slice_get}
use Rattle.job_calls.specs.declared.call.Call.{Call}
use Rattle.job_calls.specs.declared.reply.Reply.{Reply}
use Rattle.job_calls.specs.declared.entry.Entry.{Entry}
use Rattle.job_calls.specs.declared.entry.Listed.{Listed}
use Rattle.job_calls.specs.declared.end.End.{End}
use Rattle.job_calls.specs.declared.end.End.TheVariants as end
use Rattle.job_calls.specs.declared.run_line.RunEnd.TheVariants.{Ended, Waiting}
use Rattle.job_calls.specs.declared.run_line.RunLine.{RunLine}
use Rattle.job_calls.specs.Entries.{run_count}
use Rattle.job_calls.specs.Runs.{Opening, opening, source_of, params_of, calls_of, replies_of, finish_of}
use Rattle.job_calls.specs.Replies.{AllCanAnswer}
use Rattle.bim_code.specs.declared.image.Image.{Image}
use Rattle.run_state.specs.Stops.{Stop, Exited, Failed, Spent, Stopped, Asking, Stuck, Lost, Course}
use Rattle.bim_machine.specs.Courses.{course_of}
use Rattle.mos_meaning.specs.Syntax.{Program}
use Rattle.mos_meaning.specs.Meaning.{meaning_of}

-- what a run does, by its parameter text, the replies to its calls and its budget of ticks; that of an
-- image is `course_of image`
abbrev pub Behaviour : Type 0
Behaviour = List ℕ → List Reply → ℕ → Course

-- the behaviour of a source: what its model means, with the steps that its image takes
abbrev pub behaviour_of : Program → Image → Behaviour
behaviour_of program image params replies budget = record {
  outcome = meaning_of program params replies budget;
  steps = (course_of image params replies budget).steps;
}

-- the end of a run that stopped so
abbrev pub end_of : Stop → Option End
end_of (Exited code) = Some (end.Code code)
end_of (Failed kind) = Some (end.Fault kind)
end_of Spent = Some end.Spent
end_of Stopped = Some end.Stopped
end_of (Asking call) = None
end_of Stuck = None
end_of Lost = None

-- the line has all that the course wrote and took
pub record HasAll (line : RunLine) (course : Course) : Type 0 where
  pub output : line.output ≡ course.outcome.output
  pub ticks : line.ticks ≡ course.outcome.ticks
  pub steps : line.steps ≡ course.steps

-- the line has a first part of the output, and no more than the course took
pub record HasPart (line : RunLine) (course : Course) : Type 0 where
  pub output : (rest : List ℕ) × (line.output ++ rest ≡ course.outcome.output)
  pub ticks : line.ticks ≤ course.outcome.ticks
  pub steps : line.steps ≤ course.steps

-- what the line of a run says, by the run's end in the journal, where the run has one: it ended as its course
-- does; it waits with the call that its course asks; or memory was wanting on the way
pub data Says (line : RunLine) (course : Course) : Option End → Type 0 where
  ended : (finish : End) → end_of course.outcome.stop ≡ Some finish → line.end ≡ Ended finish → HasAll line course → Says line course (Some finish)
  waits : (call : Call) → course.outcome.stop ≡ Asking call → line.end ≡ Waiting call → HasAll line course → Says line course None
  no_memory : line.end ≡ Ended end.NoMemory → HasPart line course → Says line course (Some end.NoMemory)

-- a run of this file took this course, and its line says so
pub record RunFollows (journal : List Entry) (run : ℕ) (line : RunLine) (file : Listed) (course : Course) : Type 0 where
  pub named : line.source ≡ file.name
  pub replies_fit : AllCanAnswer (calls_of run journal) (replies_of run journal)
  pub calls : calls_of run journal ≡ course.outcome.calls
  pub says : Says line course (finish_of run journal)

-- the run has a file that can be run, and follows it
pub record Follows (journal : List Entry) (o : Opening) (behaviours : List (Option Behaviour)) (run : ℕ) (line : RunLine) : Type 0 where
  pub source : ℕ
  pub params : List ℕ
  pub file : Listed
  pub behaviour : Behaviour
  pub source_is : source_of run journal ≡ Some source
  pub params_is : params_of run journal ≡ Some params
  pub file_is : slice_get o.files source ≡ Some file
  pub behaviour_is : slice_get behaviours source ≡ Some (Some behaviour)
  pub follows : RunFollows journal run line file (behaviour params (replies_of run journal) o.budget)

-- one line for each run, in order, each of which follows; `behaviours` has one for each listed file, where
-- it can be run
pub record FollowsSources (journal : List Entry) (lines : List RunLine) (behaviours : List (Option Behaviour)) : Type 0 where
  pub opened : Opening
  pub opened_is : opening journal ≡ Some opened
  pub all_runs : length lines ≡ run_count journal
  pub each : (run : ℕ) (line : RunLine) → slice_get lines run ≡ Some line → Follows journal opened behaviours run line
