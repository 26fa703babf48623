-- The runs of a journal: where each comes from, what it called, what it was answered, how it ended.
-- A journal that is not legal may say a thing of a run more than once: then the last counts.

use Rattle.std.specs.Prelude.{ℕ, zero, suc, ◌&&◌, not, List, [], ◌∷◌, Option, Some, None, nat_eq, filter, map, if◌then◌else◌, option_map, option_and_then, unwrap_or}
use Rattle.job_calls.specs.declared.call.Call.{Call}
use Rattle.job_calls.specs.declared.call.Call.TheVariants.{Open, Finish, Run}
use Rattle.job_calls.specs.declared.end.End.{End}
use Rattle.job_calls.specs.declared.reply.Reply.{Reply}
use Rattle.job_calls.specs.declared.reply.Reply.TheVariants.{Loaded, Started}
use Rattle.job_calls.specs.declared.entry.Entry.{Entry}
use Rattle.job_calls.specs.declared.entry.Listed.{Listed}
use Rattle.job_calls.specs.Moments.{Moment, moments}
use Rattle.job_calls.specs.Entries.{is_run, is_finish}

-- the second, where it is there
abbrev pub last_of : {A : Type 0} → Option A → Option A → Option A
last_of first None = first
last_of first (Some x) = Some x

-- what the last element gives that gives anything
abbrev pub last_given : {A B : Type 0} → (A → Option B) → List A → Option B
last_given give [] = None
last_given give (x ∷ xs) = last_of (give x) (last_given give xs)

-- what entry 0, an `Open`, says
pub record Opening : Type 0 where
  pub lanes : ℕ
  pub budget : ℕ
  pub params : List ℕ
  pub files : List Listed

-- what the call says, where it is an `Open`
abbrev pub opening_of : Call → Option Opening
opening_of (Open lanes budget params files) =
    Some record { lanes = lanes; budget = budget; params = params; files = files }
opening_of _ = None

-- what entry 0 says
abbrev pub opening : List Entry → Option Opening
opening [] = None
opening (e ∷ es) = opening_of e.call

-- what the entry that starts a run says of it
pub record Start : Type 0 where
  pub run : ℕ
  pub model : ℕ
  pub params : List ℕ
  pub parent : Option ℕ

-- the run that is started by this call of a run, with this reply
abbrev pub start_by : Option ℕ → Call → Reply → Option Start
start_by caller (Run model params) (Started run) =
    Some record { run = run; model = model; params = params; parent = caller }
start_by caller call reply = None

-- the run that an entry starts
abbrev pub start_of : Entry → Option Start
start_of e = start_by e.run e.call e.reply

-- the start of run k by this entry
abbrev pub start_of_run : ℕ → Entry → Option Start
start_of_run k e = option_and_then (λ start. if nat_eq start.run k then Some start else None) (start_of e)

-- the source that was loaded as this model
abbrev pub loaded_source : ℕ → Reply → Option ℕ
loaded_source m (Loaded model source) = if nat_eq model m then Some source else None
loaded_source m _ = None

-- the source that was last loaded as this model
abbrev pub source_of_model : ℕ → List Entry → Option ℕ
source_of_model model journal = last_given (λ e. loaded_source model e.reply) journal

-- where this entry starts run k: the source of its model, if the entries before loaded that
abbrev pub source_started : ℕ → Moment → Option (Option ℕ)
source_started k m = option_map (λ start. source_of_model start.model m.before) (start_of_run k m.entry)

-- the place, in the list of files, of the source of run k; a run whose last start is of a model that was not
-- loaded has none
abbrev pub source_of : ℕ → List Entry → Option ℕ
source_of zero journal = Some 0
source_of (suc k) journal = unwrap_or (last_given (source_started (suc k)) (moments journal)) None

-- the parameter text of run k
abbrev pub params_of : ℕ → List Entry → Option (List ℕ)
params_of zero journal = option_map (λ o. o.params) (opening journal)
params_of (suc k) journal =
    last_given (λ e. option_map (λ start. start.params) (start_of_run (suc k) e)) journal

-- the entries of run k but its `Finish`
abbrev pub acts_of : ℕ → List Entry → List Entry
acts_of k journal = filter (λ e. is_run k e.run && not (is_finish e.call)) journal

-- its calls
abbrev pub calls_of : ℕ → List Entry → List Call
calls_of k journal = map (λ e. e.call) (acts_of k journal)

-- and what they were answered
abbrev pub replies_of : ℕ → List Entry → List Reply
replies_of k journal = map (λ e. e.reply) (acts_of k journal)

-- how a call says that a run has ended
abbrev pub finish : Call → Option End
finish (Finish end) = Some end
finish _ = None

-- how run k ended, where it has
abbrev pub finish_of : ℕ → List Entry → Option End
finish_of k journal = last_given (λ e. if is_run k e.run then finish e.call else None) journal
