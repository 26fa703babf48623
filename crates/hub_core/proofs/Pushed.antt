-- A journal at whose end a call that fits was put with its answer is legal, and keeps the laws of legal journals.
use Rattle.std.proofs.Common.{◌≡◌, ℕ, ◌∙◌, Bool, true, false, List, [], ◌∷◌, ◌++◌, ◌&&◌, ◌||◌, Option, Some, None, refl, sym, ap, subst}
use Rattle.std.specs.Prelude.{IsTrue, IfOk, Result, Ok, Err, if◌then◌else◌}
use Rattle.job_calls.specs.declared.call.Call.{Call}
use Rattle.job_calls.specs.declared.call.Call.TheVariants.{Open, Claim, Quit}
use Rattle.job_calls.specs.declared.entry.Entry.{Entry}
use Rattle.job_calls.specs.declared.reply.Answer.TheVariants.{Ready}
use Rattle.job_calls.specs.declared.reply.Reply.{Reply}
use Rattle.job_calls.specs.Answers.{answer_of}
use Rattle.job_calls.specs.Fitting.{fits, is_for_lane, lane_fits, may_claim, below_lanes}
use Rattle.job_calls.specs.Legal.{IsLegal, Follows}
use Rattle.job_calls.specs.Replies.{InRange, CanAnswer}
use Rattle.job_calls.specs.Runs.{Opening, opening}
use Rattle.job_calls.specs.Entries.{own_entries, is_finish, is_quit, is_claim}
use Rattle.job_laws.specs.Growth.{Grows}
use Rattle.job_laws.specs.Lanes.{AnswersFit}
use Rattle.job_laws.specs.Laws.{KeepsLaws}
use Rattle.job_laws.specs.Truth.{SaysTrue, RepliesAreTrue}
use Rattle.hub_core.specs.declared.held.Acted.{Acted}
use Rattle.hub_core.specs.declared.held.Held.{Held}
use Rattle.hub_core.specs.Hubs.{journal_of, entry_of, FitsRun, StopsRun}

true_is_not_false : true ≡ false → ⊥
true_is_not_false h = cc

legal_if : Grows → (b : Bool) (before after : List Entry) (e : Entry) → IsLegal before → Follows before e
    → after ≡ (if b then before ++ e ∷ [] else before) → IsLegal after
legal_if grows true before after e h f q = subst IsLegal (sym q) (grows before e h f)
legal_if grows false before after e h f q = subst IsLegal (sym q) h

pub pushed : Grows → (b : Bool) (hub : List Entry × ℕ) (before after : List Entry) (spare lane : ℕ) (run : Option ℕ) (call : Call) (reply again : Reply)
    → (before, spare) ≡ hub → IsLegal before
    → IsTrue (fits (opening (journal_of hub)) (own_entries lane (journal_of hub)) lane run call)
    → answer_of (journal_of hub) lane run call ≡ Ready reply → again ≡ reply
    → after ≡ (if b then before ++ entry_of lane run call again ∷ [] else before) → IsLegal after
pushed grows b hub before after spare lane run call reply again view h fit answered same q =
    let here : before ≡ journal_of hub = ap journal_of view in
    legal_if grows b before after (entry_of lane run call again) h
    (record {
      fit = subst (λ j. IsTrue (fits (opening j) (own_entries lane j) lane run call)) (sym here) fit;
      answered = ap (λ j. answer_of j lane run call) here ∙ answered ∙ ap Ready (sym same);
    }) q

-- no call of a run is one that a lane makes for itself
alone : (call : Call) → is_for_lane call ≡ false → (is_quit call ≡ false) × (is_claim call ≡ false)
alone Quit ours = absurd (true_is_not_false ours)
alone Claim ours = absurd (true_is_not_false ours)
alone (Open lanes budget params files) ours = (refl, refl)
alone call ours = (refl, refl)

and_second : (a b : Bool) → (a && b) ≡ true → b ≡ true
and_second true b both = both
and_second false b both = absurd (true_is_not_false (sym both))

-- so it fits none that comes from no run
fits_none : (opened : Option Opening) (own : List Entry) (lane : ℕ) (call : Call)
    → is_for_lane call ≡ false → fits opened own lane None call ≡ true → ⊥
fits_none opened own lane call ours may =
    let none = alone call ours in
    let fails : lane_fits own call ≡ false =
    ap (λ b. b || (is_claim call && may_claim own)) none.0 ∙ ap (λ b. b && may_claim own) none.1 in
    true_is_not_false (sym (and_second (below_lanes lane opened) (lane_fits own call) may) ∙ fails)

pub fits_run : AnswersFit → (before : List Entry) (lane : ℕ) (run : Option ℕ) (call : Call) (reply : Reply) → InRange reply
    → answer_of before lane run call ≡ Ready reply → IsTrue (fits (opening before) (own_entries lane before) lane run call)
    → is_for_lane call ≡ false → is_finish call ≡ false → CanAnswer call reply
fits_run fit before lane None call reply range answered may ours more =
    absurd (fits_none (opening before) (own_entries lane before) lane call ours may)
fits_run fit before lane (Some k) call reply range answered may ours more =
    fit before lane k call reply answered ours more range

-- a reply fits its call
pub fits_call : AnswersFit → (before : List Entry) (lane : ℕ) (run : Option ℕ) (call : Call) (result : Result Acted Held)
    → IfOk result (λ acted. InRange acted.reply)
    → IfOk result (λ acted. answer_of before lane run call ≡ Ready acted.reply)
    → IsTrue (fits (opening before) (own_entries lane before) lane run call)
    → IfOk result (λ acted. FitsRun call acted.reply)
fits_call fit before lane run call (Err held) range answered may = tt
fits_call fit before lane run call (Ok acted) range answered may = λ ours more.
    fits_run fit before lane run call acted.reply range answered may ours more

-- the entry that was put, and what is known of it
module _ (before after : List Entry) (lane : ℕ) (run : Option ℕ) (call : Call) where
  abbrev pub Put : Result Acted Held → Type 0
  Put result = IfOk result (λ acted. after ≡ before ++ entry_of lane run call acted.reply ∷ [])

  -- its reply says what is true of the journal before it
  pub says : RepliesAreTrue → (result : Result Acted Held) → IsLegal after → Put result → IfOk result (λ acted. SaysTrue before run call acted.reply)
  says truth (Err held) h put = tt
  says truth (Ok acted) h put = truth before [] (entry_of lane run call acted.reply) (subst IsLegal put h)

  -- it is Halt, or the call is Finish, where the run was asked to stop
  pub stops : KeepsLaws after → (result : Result Acted Held) → Put result
      → IfOk result (λ acted. StopsRun before run call acted.reply)
  stops laws (Err held) put = tt
  stops laws (Ok acted) put = λ k by asked.
      laws.stops_when_asked before [] (entry_of lane run call acted.reply) k put by asked
