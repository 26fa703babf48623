-- Worked examples of meanings and of what images do.

use Rattle.std.specs.Prelude.{◌≡◌, ℕ, List, [], ◌∷◌, Option, Some, None, pos, true, false, codes}
use Rattle.mos_text.specs.declared.fault_kind.FaultKind.TheVariants.{Overflow, BadParam}
use Rattle.mos_text.specs.declared.scalar.Scalar.TheVariants.{Int}
use Rattle.bim_code.specs.declared.image.Image.{Image}
use Rattle.bim_code.specs.declared.image.ImageType.TheVariants.{Integer, Str as StrType}
use Rattle.bim_code.specs.declared.image.Default.TheVariants.{Number}
use Rattle.bim_code.specs.declared.instruction.Instruction.TheVariants.{Tick, PushInt, PushBool, PushText, LoadGlobal, Show, Write, Line, End, Fault}
use Rattle.job_calls.specs.declared.run_line.RunLine.{RunLine}
use Rattle.job_calls.specs.HelloJournal.{hello_entries, hello_runs}
use Rattle.mos_value.specs.Values.{One}
use Rattle.mos_value.specs.Answers.{sum, difference, compare, greater, at_least}
use Rattle.run_state.specs.Stops.{Outcome, Stop, Exited, Failed, Spent, Stuck}
use Rattle.bim_machine.specs.Courses.{course_of}
use Rattle.mos_meaning.specs.Syntax.{Model, Block, no_statement, statement_then, assign, change, write, if_, elif, else_, while_, do_, break_, next_, nothing_shown, shown_then, number, text, truth, variable, apply, Program}
use Rattle.mos_meaning.specs.Sources.{program_of}
use Rattle.mos_meaning.specs.Meaning.{meaning_of}
use Rattle.mos_meaning.specs.Follows.{Behaviour, behaviour_of, FollowsSources}

-- an outcome without calls
abbrev pub outcome : List ℕ → ℕ → Stop → Outcome
outcome output ticks stop = record { output = output; calls = []; ticks = ticks; stop = stop }

-- writeln("hello")
abbrev pub hello : Block
hello = statement_then (write 2 true (shown_then (text (codes "hello")) nothing_shown)) no_statement

-- x:=2+3 and writeln(x)
abbrev pub five : Block
five =
    statement_then (assign 2 Model (codes "x") (apply sum (number (pos 2)) (number (pos 3))))
    (statement_then (write 3 true (shown_then (variable Model (codes "x")) nothing_shown)) no_statement)

-- x:=2147483647+1
abbrev pub too_much : Block
too_much = statement_then (assign 2 Model (codes "x") (apply sum (number (pos 2147483647)) (number (pos 1)))) no_statement

-- x:=3 and while(x>0) do x-=1 end-do
abbrev pub down : Block
down =
    statement_then (assign 2 Model (codes "x") (number (pos 3)))
    (statement_then (while_ 3 (apply (compare greater) (variable Model (codes "x")) (number (pos 0)))
    (do_ (statement_then (change 4 difference Model (codes "x") (number (pos 1))) no_statement))) no_statement)

-- write("a") and while(true) next
abbrev pub endless : Block
endless = statement_then (write 2 false (shown_then (text (codes "a")) nothing_shown)) (statement_then (while_ 3 (truth true) (next_ 3)) no_statement)

-- write of a text alone
abbrev pub wrote : List ℕ → Block
wrote t = statement_then (write 3 false (shown_then (text t) nothing_shown)) no_statement

-- if(1>2) then write("a") elif(false) then write("b") else write("c") end-if
abbrev pub last_way : Block
last_way =
    statement_then (if_ 2 (elif 2 (apply (compare greater) (number (pos 1)) (number (pos 2))) (wrote (codes "a"))
    (elif 4 (truth false) (wrote (codes "b")) (else_ (wrote (codes "c")))))) no_statement

-- x:=0, while(true) do x+=1 if(x>=2) then break end-if end-do, writeln(x)
abbrev pub until_two : Block
until_two =
    statement_then (assign 2 Model (codes "x") (number (pos 0)))
    (statement_then (while_ 3 (truth true) (do_ (statement_then (change 4 sum Model (codes "x") (number (pos 1)))
    (statement_then (if_ 5 (elif 5 (apply (compare at_least) (variable Model (codes "x")) (number (pos 2))) (statement_then (break_ 6) no_statement) (else_ no_statement))) no_statement))))
    (statement_then (write 9 true (shown_then (variable Model (codes "x")) nothing_shown)) no_statement))

-- a model with a parameter N, 7 where nothing is given, that writes it
abbrev pub with_parameter : Program
with_parameter = record {
  names = codes "N" ∷ [];
  declared = 1;
  defaults = One (Int (pos 7)) ∷ [];
  params = record { name = codes "N"; default = Int (pos 7) } ∷ [];
  bodies = [];
  block = statement_then (write 5 true (shown_then (variable Model (codes "N")) nothing_shown)) no_statement;
}

-- an image that writes hello
abbrev pub hello_image : Image
hello_image = record {
  constants = codes "hello" ∷ [];
  types = [];
  params = [];
  globals = [];
  routines = [];
  points = [];
  code = Tick ∷ PushText 0 ∷ Show ∷ Write ∷ PushBool 1 ∷ Line ∷ PushInt (pos 0) ∷ End ∷ [];
}

-- an image with a parameter N in slot 1, behind a text, that writes both slots
abbrev pub parameter_image : Image
parameter_image = record {
  constants = codes "N" ∷ [];
  types = Integer ∷ StrType ∷ [];
  params = record { name = 0; slot = 1; default = Number (pos 7) } ∷ [];
  globals = 1 ∷ 0 ∷ [];
  routines = [];
  points = [];
  code = LoadGlobal 0 ∷ Show ∷ Write ∷ LoadGlobal 1 ∷ Show ∷ Write ∷ PushBool 1 ∷ Line ∷ PushInt (pos 0) ∷ End ∷ [];
}

-- hello and a newline, with one tick
abbrev pub HelloMeans : Type 0
HelloMeans = meaning_of (program_of hello) [] [] 10000000 ≡ outcome (codes "hello\n") 1 (Exited (pos 0))

-- without a tick it does nothing
abbrev pub HelloSpent : Type 0
HelloSpent = meaning_of (program_of hello) [] [] 0 ≡ outcome [] 0 Spent

-- with a parameter text it is refused
abbrev pub HelloRefused : Type 0
HelloRefused = meaning_of (program_of hello) (codes "N=1") [] 10000000 ≡ outcome [] 0 (Failed BadParam)

-- two statements, and what the second one prints
abbrev pub FiveMeans : Type 0
FiveMeans = meaning_of (program_of five) [] [] 10000000 ≡ outcome (codes "5\n") 2 (Exited (pos 0))

-- the fault of the sum
abbrev pub TooMuchMeans : Type 0
TooMuchMeans = meaning_of (program_of too_much) [] [] 10000000 ≡ outcome [] 1 (Failed Overflow)

-- an `if`, and the statement under its `else`
abbrev pub LastWayMeans : Type 0
LastWayMeans = meaning_of (program_of last_way) [] [] 10000000 ≡ outcome (codes "c") 2 (Exited (pos 0))

-- a parameter has its default, or what the text gives
abbrev pub ParameterMeans : Type 0
ParameterMeans =
    (meaning_of with_parameter [] [] 5 ≡ outcome (codes "7\n") 1 (Exited (pos 0)))
    × (meaning_of with_parameter (codes "N = -3") [] 5 ≡ outcome (codes "-3\n") 1 (Exited (pos 0)))
    × (meaning_of with_parameter (codes "N=x") [] 5 ≡ outcome [] 0 (Failed BadParam))

-- an assignment, a `while`, and three passes with a statement each
abbrev pub DownMeans : Type 0
DownMeans = meaning_of (program_of down) [] [] 10000000 ≡ outcome [] 8 (Exited (pos 0))

-- one tick less than it needs
abbrev pub DownSpent : Type 0
DownSpent = meaning_of (program_of down) [] [] 7 ≡ outcome [] 7 Spent

-- as many ticks as it needs
abbrev pub DownEnough : Type 0
DownEnough = meaning_of (program_of down) [] [] 8 ≡ outcome [] 8 (Exited (pos 0))

-- what was written before stays written
abbrev pub EndlessSpent : Type 0
EndlessSpent = meaning_of (program_of endless) [] [] 100 ≡ outcome (codes "a") 100 Spent

-- an assignment, a `while`, a pass with two statements, one with three of which the last leaves the loop, and `writeln`
abbrev pub UntilTwoMeans : Type 0
UntilTwoMeans = meaning_of (program_of until_two) [] [] 10000000 ≡ outcome (codes "2\n") 10 (Exited (pos 0))

-- the image takes eight steps, and means the same
abbrev pub HelloCourse : Type 0
HelloCourse = course_of hello_image [] [] 10000000 ≡ record { outcome = outcome (codes "hello\n") 1 (Exited (pos 0)); steps = 8 }

-- without a tick it is spent at its first instruction
abbrev pub HelloCourseSpent : Type 0
HelloCourseSpent = course_of hello_image [] [] 0 ≡ record { outcome = outcome [] 0 Spent; steps = 1 }

-- a slot begins with the default of its type, a parameter with its own or with what the text gives
abbrev pub ParameterCourses : Type 0
ParameterCourses =
    (course_of parameter_image [] [] 0 ≡ record { outcome = outcome (codes "7\n") 0 (Exited (pos 0)); steps = 10 })
    × (course_of parameter_image (codes "N=3") [] 0 ≡ record { outcome = outcome (codes "3\n") 0 (Exited (pos 0)); steps = 10 })
    × (course_of parameter_image (codes "M=3") [] 0 ≡ record { outcome = outcome [] 0 (Failed BadParam); steps = 0 })

-- an operand that means nothing is stuck: the truth 2, and a fault that only the hub has
abbrev pub MeaninglessOperands : Type 0
MeaninglessOperands =
    (course_of (record hello_image { code = PushBool 2 ∷ End ∷ [] }) [] [] 0 ≡ record { outcome = outcome [] 0 Stuck; steps = 1 })
    × (course_of (record hello_image { code = Fault 13 ∷ [] }) [] [] 0 ≡ record { outcome = outcome [] 0 Stuck; steps = 1 })
    × (course_of (record hello_image { code = Fault 8 ∷ [] }) [] [] 0 ≡ record { outcome = outcome [] 0 (Failed BadParam); steps = 1 })

-- the behaviour of the one file
abbrev pub hello_behaviours : List (Option Behaviour)
hello_behaviours = Some (behaviour_of (program_of hello) hello_image) ∷ []

-- the run line of hello follows its source
abbrev pub HelloFollows : Type 0
HelloFollows = FollowsSources hello_entries hello_runs hello_behaviours

-- one run line is wanted for each run
abbrev pub TooFewLines : Type 0
TooFewLines = FollowsSources hello_entries [] hello_behaviours → ⊥

-- the run has to have an accepted source
abbrev pub NoModel : Type 0
NoModel = FollowsSources hello_entries hello_runs (None ∷ []) → ⊥

-- the run line has to name the source
abbrev pub AnotherSource : Type 0
AnotherSource = (line : RunLine) → line.source ≡ codes "other.mos" → FollowsSources hello_entries (line ∷ []) hello_behaviours → ⊥
