-- As the hub goes about it: what a call that is served leaves.

use Rattle.std.specs.Prelude.{◌≡◌, ℕ, ◌+◌, ◌≤◌, List, Option, Result, length, IfOk, IfErr, OnErr}
use Rattle.job_calls.specs.declared.call.Call.{Call}
use Rattle.job_calls.specs.declared.entry.Entry.{Entry}
use Rattle.job_calls.specs.Legal.{IsLegal}
use Rattle.hub_core.specs.declared.held.Acted.{Acted}
use Rattle.hub_core.specs.declared.held.Held.{Held}
use Rattle.hub_core.specs.Hubs.{journal_of, spare_of, with_entry, IsAnswered, IsHeldBack}

-- the call stands with its answer at the end of the journal, which is legal; or it is handed back, and the journal and
-- the room for entries stay
pub record Serves (before behind : List Entry × ℕ) (lane : ℕ) (run : Option ℕ) (call : Call) (result : Result Acted Held) : Type 0 where
  pub answered : IfOk result (λ acted. IsAnswered (journal_of before) lane run call acted.reply)
  pub put : IfOk result (λ acted. journal_of behind ≡ with_entry (journal_of before) lane run call acted.reply)
  pub place : IfOk result (λ acted. acted.place.0 ≡ length (journal_of before))
  pub held : IfErr result (λ held. IsHeldBack (journal_of before) lane run call held)
  pub stays : OnErr result (journal_of behind ≡ journal_of before)
  pub legal : IsLegal (journal_of behind)
  pub spare : spare_of before ≤ spare_of behind + 1
  pub kept : OnErr result (spare_of before ≤ spare_of behind)

-- the same of a call that is answered at once; the room for other entries stays
pub record Given (before behind : List Entry × ℕ) (lane : ℕ) (run : Option ℕ) (call : Call) (acted : Acted) : Type 0 where
  pub answered : IsAnswered (journal_of before) lane run call acted.reply
  pub put : journal_of behind ≡ with_entry (journal_of before) lane run call acted.reply
  pub place : acted.place.0 ≡ length (journal_of before)
  pub legal : IsLegal (journal_of behind)
  pub spare : spare_of behind ≡ spare_of before
