-- Lanes and their runs in a legal journal: how what each lane did makes up the whole.

use Rattle.std.specs.Prelude.{◌≡◌, ◌≤◌, ◌<◌, ℕ, true, false, List, [], ◌∷◌, ◌++◌, Some, count_by, filter, All}
use Rattle.job_calls.specs.declared.call.Call.{Call}
use Rattle.job_calls.specs.declared.reply.Answer.TheVariants.{Ready}
use Rattle.job_calls.specs.declared.reply.Reply.{Reply}
use Rattle.job_calls.specs.declared.entry.Entry.{Entry}
use Rattle.job_calls.specs.Entries.{is_run, is_claim, is_done, is_finish, claims, own_entries, has_quit, run_count, is_claimed, is_finished}
use Rattle.job_calls.specs.Runs.{acts_of, calls_of, replies_of, finish_of}
use Rattle.job_calls.specs.Files.{lanes_of}
use Rattle.job_calls.specs.Replies.{InRange, CanAnswer, AllCanAnswer}
use Rattle.job_calls.specs.Answers.{answer_of}
use Rattle.job_calls.specs.Fitting.{exchange_of, is_for_lane}
use Rattle.job_calls.specs.Legal.{IsLegal}

-- a reply that is given fits its call: any call of a run but `Finish`, and a reply that can be held
abbrev pub AnswersFit : Type 0
AnswersFit =
    (journal : List Entry) (lane run : ℕ) (call : Call) (reply : Reply)
    → answer_of journal lane (Some run) call ≡ Ready reply
    → is_for_lane call ≡ false → is_finish call ≡ false → InRange reply → CanAnswer call reply

-- where all replies can be held, all that a run was answered fits what it called
abbrev pub RunsFit : Type 0
RunsFit =
    (journal : List Entry) → IsLegal journal → All (λ e. InRange e.reply) journal
    → (k : ℕ) → AllCanAnswer (calls_of k journal) (replies_of k journal)

-- a run is given to a lane at most once
abbrev pub ClaimedOnce : Type 0
ClaimedOnce =
    (journal : List Entry) → IsLegal journal → (k : ℕ) → count_by (λ e. claims k e.reply) journal ≤ 1

-- an entry of a run is of a lane that was given the run before
abbrev pub ClaimedBefore : Type 0
ClaimedBefore =
    (before after : List Entry) (e : Entry) → IsLegal (before ++ e ∷ after)
    → (k : ℕ) → e.run ≡ Some k → is_claimed k (own_entries e.lane before) ≡ true

-- all that the journal says of run k, the lane's own entries say
pub record IsOfLane (k lane : ℕ) (journal : List Entry) : Type 0 where
  pub entries : filter (λ e. is_run k e.run) (own_entries lane journal) ≡ filter (λ e. is_run k e.run) journal
  pub exchange : exchange_of k (own_entries lane journal) ≡ exchange_of k journal
  pub acts : acts_of k (own_entries lane journal) ≡ acts_of k journal
  pub end : finish_of k (own_entries lane journal) ≡ finish_of k journal

-- a run is of the one lane that was given it
abbrev pub OneLaneARun : Type 0
OneLaneARun =
    (journal : List Entry) → IsLegal journal → (k lane : ℕ)
    → is_claimed k (own_entries lane journal) ≡ true → IsOfLane k lane journal

-- the last of the entries is a `Claim` answered `Done`
abbrev pub EndsDone : List Entry → Type 0
EndsDone [] = ⊥
EndsDone (e ∷ []) = (is_claim e.call ≡ true) × (is_done e.reply ≡ true)
EndsDone (e ∷ d ∷ es) = EndsDone (d ∷ es)

-- where each lane came to its end, each run was given to a lane and has finished
abbrev pub AllEnd : Type 0
AllEnd =
    (journal : List Entry) → IsLegal journal
    → ((lane : ℕ) → lane < lanes_of journal → EndsDone (own_entries lane journal))
    → (k : ℕ) → k < run_count journal → (is_claimed k journal ≡ true) × (is_finished k journal ≡ true)

-- where no lane has ended the job before its time, nobody has
abbrev pub NoQuit : Type 0
NoQuit =
    (journal : List Entry) → IsLegal journal
    → ((lane : ℕ) → lane < lanes_of journal → has_quit (own_entries lane journal) ≡ false)
    → has_quit journal ≡ false
