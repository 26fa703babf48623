-- Models that a run can carry out today: values are integers but for the texts that are printed and the
-- conditions, each name is a variable of the model, and no form is left out. No run of such a model is
-- stuck or lost, or makes a call.

use Rattle.std.specs.Prelude.{◌≡◌, ◌≢◌, true, List, [], ℕ, take, length}
use Rattle.job_calls.specs.declared.call.Call.{Call}
use Rattle.job_calls.specs.declared.reply.Reply.{Reply}
use Rattle.job_calls.specs.Replies.{AllCanAnswer}
use Rattle.mos_names.specs.NameLists.{Name, has_name}
use Rattle.mos_value.specs.Answers.{Operator, sum, difference, compare}
use Rattle.run_state.specs.Stops.{Asking, Stuck, Lost, Outcome}
use Rattle.mos_meaning.specs.Syntax.{Scope, Own, Model, Expression, number, text, truth, variable, index, apply, range_of, sum_over, invoke, ask_hub, unbuilt, Shown, nothing_shown, shown_then, CoreStatement, assign, change, write, perform, tell_hub, if_, while_, do_, break_, next_, unbuilt_statement, Arms, else_, elif, Block, no_statement, statement_then, Program}
use Rattle.mos_meaning.specs.Sources.{variables_of, program_of}
use Rattle.mos_meaning.specs.Meaning.{meaning_of}

-- a variable of the model
abbrev pub IsVariable : List Name → Scope → Name → Type 0
IsVariable names Model n = has_name n names ≡ true
IsVariable names Own n = ⊥

-- `+` and `-`
abbrev pub IsSum : Operator → Type 0
IsSum sum = Unit {0}
IsSum difference = Unit {0}
IsSum (compare how) = ⊥

-- literals and variables with `+` and `-` between them
abbrev pub IsNumeric : List Name → Expression → Type 0
IsNumeric names (number n) = Unit {0}
IsNumeric names (variable scope n) = IsVariable names scope n
IsNumeric names (apply operator a b) = IsSum operator × IsNumeric names a × IsNumeric names b
IsNumeric names (text t) = ⊥
IsNumeric names (truth b) = ⊥
IsNumeric names (index n) = ⊥
IsNumeric names (range_of a b) = ⊥
IsNumeric names (sum_over i set condition body) = ⊥
IsNumeric names (invoke routine all) = ⊥
IsNumeric names (ask_hub function all) = ⊥
IsNumeric names unbuilt = ⊥

-- a text or such a sum
abbrev pub IsShown : List Name → Expression → Type 0
IsShown names (text t) = Unit {0}
IsShown names e = IsNumeric names e

-- a truth, or two such sums compared
abbrev pub IsComparison : List Name → Operator → Expression → Expression → Type 0
IsComparison names (compare how) a b = IsNumeric names a × IsNumeric names b
IsComparison names sum a b = ⊥
IsComparison names difference a b = ⊥

-- a truth, or a comparison
abbrev pub IsCondition : List Name → Expression → Type 0
IsCondition names (truth b) = Unit {0}
IsCondition names (apply operator a b) = IsComparison names operator a b
IsCondition names (number n) = ⊥
IsCondition names (text t) = ⊥
IsCondition names (variable scope n) = ⊥
IsCondition names (index n) = ⊥
IsCondition names (range_of a b) = ⊥
IsCondition names (sum_over i set condition body) = ⊥
IsCondition names (invoke routine all) = ⊥
IsCondition names (ask_hub function all) = ⊥
IsCondition names unbuilt = ⊥

-- each of what is printed
abbrev pub AreShown : List Name → Shown → Type 0
AreShown names nothing_shown = Unit {0}
AreShown names (shown_then e es) = IsShown names e × AreShown names es

abbrev mutual
  -- a statement
  pub Works : List Name → CoreStatement → Type 0
  Works names (assign line scope n e) = IsVariable names scope n × IsNumeric names e
  Works names (change line operator scope n e) = IsSum operator × IsVariable names scope n × IsNumeric names e
  Works names (write line newline all) = AreShown names all
  Works names (if_ line all) = ArmsWork names all
  Works names (while_ line e body) = IsCondition names e × Works names body
  Works names (do_ all) = AllWork names all
  Works names (break_ line) = Unit {0}
  Works names (next_ line) = Unit {0}
  Works names (perform line routine all) = ⊥
  Works names (tell_hub line function all) = ⊥
  Works names unbuilt_statement = ⊥

  -- branches
  pub ArmsWork : List Name → Arms → Type 0
  ArmsWork names (else_ all) = AllWork names all
  ArmsWork names (elif line e all rest) = IsCondition names e × AllWork names all × ArmsWork names rest

  -- the statements of a block
  pub AllWork : List Name → Block → Type 0
  AllWork names no_statement = Unit {0}
  AllWork names (statement_then e rest) = Works names e × AllWork names rest

-- the replies that were taken fit the calls of this outcome; of one without calls they do
abbrev pub TookFitting : List Reply → Outcome → Type 0
TookFitting replies outcome = AllCanAnswer outcome.calls (take (length outcome.calls) replies)

-- no run of the model is stuck that is answered what fits its calls
abbrev pub NeverStuck : Program → Type 0
NeverStuck program = (text : List ℕ) (replies : List Reply) (budget : ℕ)
    → TookFitting replies (meaning_of program text replies budget) → (meaning_of program text replies budget).stop ≢ Stuck

-- no run of the model is lost
abbrev pub NeverLost : Program → Type 0
NeverLost program = (text : List ℕ) (replies : List Reply) (budget : ℕ) → (meaning_of program text replies budget).stop ≢ Lost

-- in this outcome no call was answered, and none is asked
pub record HasNoCall (outcome : Outcome) : Type 0 where
  pub answered : outcome.calls ≡ []
  pub asked : (call : Call) → outcome.stop ≢ Asking call

-- no run of the model makes a call
abbrev pub CallsNothing : Program → Type 0
CallsNothing program = (text : List ℕ) (replies : List Reply) (budget : ℕ) → HasNoCall (meaning_of program text replies budget)

-- No model whose statements work is stuck, none is lost, and none makes a call.

-- none is stuck
abbrev pub WorkingNeverStuck : Type 0
WorkingNeverStuck = (statements : Block) → AllWork (variables_of statements) statements → NeverStuck (program_of statements)

-- none is lost
abbrev pub WorkingNeverLost : Type 0
WorkingNeverLost = (statements : Block) → AllWork (variables_of statements) statements → NeverLost (program_of statements)

-- none makes a call
abbrev pub WorkingCallsNothing : Type 0
WorkingCallsNothing = (statements : Block) → AllWork (variables_of statements) statements → CallsNothing (program_of statements)
