-- What the last entry of a legal journal says of pipes.

use Rattle.std.proofs.Common.{◌≡◌, ℕ, Bool, true, false, List, [], ◌∷◌, ◌++◌, Option, Some, None, refl, sym, ap, subst, ◌∙◌}
use Rattle.std.specs.Prelude.{if◌then◌else◌}
use Rattle.std.specs.Str.{bytes_eq}
use Rattle.std.proofs.lemmas.Option.{none-some}
use Rattle.std.proofs.lemmas.Slice.Eq.{bytes_eq-Decides}
use Rattle.job_calls.specs.declared.call.Call.{Call}
use Rattle.job_calls.specs.declared.call.Call.TheVariants.{PipeOpen, PipePut, PipeTake}
use Rattle.job_calls.specs.declared.call.Way.{Way}
use Rattle.job_calls.specs.declared.reply.Reply.{Reply}
use Rattle.job_calls.specs.declared.reply.Reply.TheVariants.{Opened, Bytes}
use Rattle.job_calls.specs.declared.entry.Entry.{Entry}
use Rattle.job_calls.specs.Pipes.{opened_session, put_by, taken_by, put_in, taken_in, in_session}
use Rattle.job_calls.specs.Legal.{IsLegal}
use Rattle.job_laws.specs.Truth.{RepliesAreTrue, SaysTrue}
use Rattle.growing_lists.specs.Journals.{IsNext, first_entry, next_entry, is_next}
use Rattle.mempipe.proofs.Answered.{IsFree, Puts, no_put, was_free, was_put}

-- nothing is taken, or nothing is put and all is taken that was put and not taken
pub data Takes (name : List ℕ) (log : List Entry) (put taken : List ℕ) : Type 0 where
  no_take : taken ≡ [] → Takes name log put taken
  takes_all : put ≡ [] → put_in name (in_session name log) ≡ taken_in name (in_session name log) ++ taken → Takes name log put taken

-- an entry opens ends that are free, puts what the pipe can hold, and takes all of it
pub record IsFair (log : List Entry) (e : Entry) : Type 0 where
  pub opens : (way : Way) (name : List ℕ) (place : ℕ) → opened_session way name e.call e.reply ≡ Some place → IsFree way name log place
  pub puts : (name : List ℕ) → Puts name log (put_by name e.call e.reply)
  pub takes : (name : List ℕ) → Takes name log (put_by name e.call e.reply) (taken_by name e.call e.reply)

takes_by : (name other : List ℕ) (log : List Entry) (bytes : List ℕ) (b : Bool) → bytes_eq other name ≡ b
    → put_in other (in_session other log) ≡ taken_in other (in_session other log) ++ bytes → Takes name log [] (if b then bytes else [])
takes_by name other log bytes true is all =
    subst (λ n. Takes n log [] bytes) ((bytes_eq-Decides other name).0 is) (takes_all refl all)
takes_by name other log bytes false is all = no_take refl

was_taken : (name : List ℕ) (log : List Entry) (run : Option ℕ) (call : Call) (reply : Reply) → SaysTrue log run call reply
    → Takes name log (put_by name call reply) (taken_by name call reply)
was_taken name log run (PipeTake other) (Bytes bytes) true_ = takes_by name other log bytes (bytes_eq other name) refl true_
was_taken name log run (PipeTake other) reply true_ = no_take refl
was_taken name log run call reply true_ = no_take refl

-- the opening of a job opens no pipe
first_opens : (way : Way) (name : List ℕ) (call : Call) → opened_session way name call Opened ≡ None
first_opens way name (PipeOpen other end) = refl
first_opens way name call = refl

first_puts : (name : List ℕ) (call : Call) → put_by name call Opened ≡ []
first_puts name (PipePut other bytes) = refl
first_puts name call = refl

fair_by : (log : List Entry) (e : Entry) → IsNext log e → SaysTrue log e.run e.call e.reply → IsFair log e
fair_by log e (first_entry none opens) true_ =
    record {
      opens = λ way name place q. absurd (none-some place (sym (first_opens way name e.call) ∙ ap (opened_session way name e.call) (sym opens.reply) ∙ q));
      puts = λ name. no_put (ap (put_by name e.call) opens.reply ∙ first_puts name e.call);
      takes = λ name. was_taken name log e.run e.call e.reply true_;
    }
fair_by log e (next_entry is follows) true_ =
    record {
      opens = λ way name place q. was_free way name log e.lane e.run e.call e.reply place follows.answered q;
      puts = λ name. was_put name log e.lane e.run e.call e.reply follows.answered;
      takes = λ name. was_taken name log e.run e.call e.reply true_;
    }

-- the last entry of a legal journal is fair
pub fair : RepliesAreTrue → (log : List Entry) (e : Entry) → IsLegal (log ++ e ∷ []) → IsFair log e
fair truth log e legal = fair_by log e (is_next log e legal) (truth log [] e legal)
