-- Entries that a table takes without memory.

use Rattle.std.proofs.Common.{◌≡◌, ◌<◌, ◌≤◌, ℕ, Bool, true, false, List, Option, Some, None, sym, ◌∙◌, length, arith, true≢false}
use Rattle.std.specs.Prelude.{if◌then◌else◌}
use Rattle.std.proofs.lemmas.Option.{none-some, same_Some}
use Rattle.job_calls.specs.declared.call.Call.{Call}
use Rattle.job_calls.specs.declared.call.Call.TheVariants.{Finish, Run as Starts}
use Rattle.job_calls.specs.declared.reply.Reply.{Reply}
use Rattle.job_calls.specs.declared.reply.Reply.TheVariants.{Claimed, Done, Started}
use Rattle.job_calls.specs.declared.entry.Entry.{Entry}
use Rattle.job_calls.specs.Entries.{is_started, is_last, run_count}
use Rattle.model_table.specs.declared.table.ModelTable.{ModelTable}
use Rattle.model_table.specs.Tables.{run_told, lane_told}
use Rattle.model_table.specs.Index.{IsIndexOf, CanTake, IsQuiet}

-- a run that is told of, where none starts, is the caller
own_run : (run : Option ℕ) (call : Call) (reply : Reply) (k : ℕ) → is_started reply ≡ false → run_told run call reply ≡ Some k → run ≡ Some k
own_run (Some run) (Finish end) reply k starts e = e
own_run run (Starts model params) (Started started) k starts e = absurd (true≢false starts)
own_run run call reply k starts e = absurd (none-some k e)

over_run : (b : Bool) (run : Option ℕ) (k : ℕ) → (if b then run else None) ≡ Some k → run ≡ Some k
over_run true run k e = e
over_run false run k e = absurd (none-some k e)

own_lane : (lane : ℕ) (reply : Reply) (l : ℕ) → lane_told lane reply ≡ Some l → lane ≡ l
own_lane lane (Claimed run source params) l e = same_Some lane l e
own_lane lane Done l e = same_Some lane l e
own_lane lane reply l e = absurd (none-some l e)

within : (t : ModelTable) (journal : List Entry) (k : ℕ) → IsIndexOf t journal → t.started < length t.runs.items → k < run_count journal → k < length t.runs.items
within t journal k is places less = let started = is.started in omega (arith, less, started, places)

-- a table with places for all runs and for 64 lanes
pub can_take : (t : ModelTable) (journal : List Entry) (e : Entry) → IsIndexOf t journal → IsQuiet e → ((run : ℕ) → e.run ≡ Some run → run < run_count journal)
    → e.lane < 64 → t.started < length t.runs.items → 64 ≤ length t.lanes.items → CanTake t e
can_take t journal e is quiet few lane places seats = record {
  models = λ m told. absurd (none-some m (sym quiet.models ∙ told));
  runs = λ k told. within t journal k is places (few k (own_run e.run e.call e.reply k quiet.starts told));
  over = λ k told. within t journal k is places (few k (over_run (is_last e.reply) e.run k told));
  lanes = λ l told. let same = own_lane e.lane e.reply l told in omega (arith, same, lane, seats);
  images = λ file made. absurd (true≢false (sym made ∙ quiet.images file));
  next = λ started. absurd (true≢false (sym started ∙ quiet.starts));
}
