-- Entries that the indexes take without memory: of a claim, of the end of a run, and of calls that only look.

use Rattle.std.proofs.Common.{◌≡◌, ◌<◌, ℕ, Bool, true, false, not, ◌&&◌, List, [], ◌∷◌, ◌++◌, Option, Some, None, ◌⊎◌, refl, sym, ap, ◌∙◌, subst, nat_eq, true≢false}
use Rattle.std.specs.Prelude.{IsSome, is_some, if◌then◌else◌}
use Rattle.std.proofs.lemmas.Option.{none-some}
use Rattle.mos_text.specs.declared.fault_kind.FaultKind.TheVariants as kind
use Rattle.job_calls.specs.declared.call.Call.{Call}
use Rattle.job_calls.specs.declared.call.Call.TheVariants.{Open, Claim, Quit, Finish, Wait, Peek, IsEmpty, Compile, Run as Starts}
use Rattle.job_calls.specs.declared.reply.Answer.{Answer}
use Rattle.job_calls.specs.declared.reply.Answer.TheVariants.{Ready, NotYet, Shut}
use Rattle.job_calls.specs.declared.reply.Reply.{Reply}
use Rattle.job_calls.specs.declared.reply.Reply.TheVariants.{Loaded, Started, Done, Halt}
use Rattle.job_calls.specs.declared.entry.Entry.{Entry}
use Rattle.job_calls.specs.Entries.{is_finish, is_started, is_claimed, is_finished, has_quit, unclaimed_run, run_count}
use Rattle.job_calls.specs.Runs.{opening_of, source_of, params_of}
use Rattle.job_calls.specs.Events.{Event, first_event, front}
use Rattle.job_calls.specs.Models.{compiled_to, is_asked, parent_of}
use Rattle.job_calls.specs.Blocks.{writes}
use Rattle.job_calls.specs.Answers.{answer_of, open_answer, answer_to_run, table_answer, wait_answer, peek_answer, give_run, next_run, is_full, fault}
use Rattle.job_calls.specs.Legal.{IsLegal, OpensSo, Follows}
use Rattle.job_laws.specs.Growth.{Grows, GivenInOrder, RunsHaveSources}
use Rattle.job_laws.specs.Lanes.{OneLaneARun}
use Rattle.growing_lists.specs.Journals as journals
use Rattle.growing_lists.specs.Journals.{IsNext, is_next}
use Rattle.model_table.specs.declared.table.ModelTable.{ModelTable}
use Rattle.model_table.specs.Tables.{model_told}
use Rattle.model_table.specs.Index as models
use Rattle.model_table.specs.Index.{makes_image}
use Rattle.event_queue.specs.declared.queues.EventQueue.{EventQueue}
use Rattle.event_queue.specs.Deeds.{deed_of, CanTell}
use Rattle.event_queue.specs.Index as events
use Rattle.mempipe.specs.declared.pipe.Pipe.{Pipe}
use Rattle.mempipe.specs.States.{named_pipe}
use Rattle.mempipe.specs.Index as pipes
use Rattle.hub_index.specs.declared.index.HubIndex.{HubIndex}
use Rattle.hub_index.specs.Index.{IsIndexOf, CanTake}
use Rattle.hub_index.specs.Light.{is_light}
use Rattle.hub_index.proofs.Legal.{held_of, few_lanes}
use Rattle.hub_index.proofs.Held.{go_on, held_is_run, has_parent}

-- neither a model is loaded nor a run started
abbrev pub is_calm : Reply → Bool
is_calm (Loaded model source) = false
is_calm (Started run) = false
is_calm reply = true

-- nor where the answer stands
abbrev pub calms : Answer → Bool
calms (Ready reply) = is_calm reply
calms NotYet = true
calms Shut = true

calm_if : (b : Bool) (x y : Answer) → calms x ≡ true → calms y ≡ true → calms (if b then x else y) ≡ true
calm_if true x y a c = a
calm_if false x y a c = c

calm_run : (log : List Entry) (run : Option ℕ) (call : Call) → ((k : ℕ) → calms (table_answer log k call) ≡ true) → calms (answer_to_run log run call) ≡ true
calm_run log None call calm = refl
calm_run log (Some k) call calm =
    calm_if (is_asked k log) (Ready Halt) (if is_full log call then fault kind.HubFull else table_answer log k call) refl
    (calm_if (is_full log call) (fault kind.HubFull) (table_answer log k call) refl (calm k))

calm_give : (k : ℕ) (source : Option ℕ) (params : Option (List ℕ)) → calms (give_run k source params) ≡ true
calm_give k (Some source) (Some params) = refl
calm_give k (Some source) None = refl
calm_give k None params = refl

calm_next : (log : List Entry) (run : Option ℕ) → calms (next_run log run) ≡ true
calm_next log (Some k) = calm_give k (source_of k log) (params_of k log)
calm_next log None = calm_if (is_finished 0 log) (Ready Done) NotYet refl refl

calm_wait : (place : Option ℕ) → calms (wait_answer place) ≡ true
calm_wait None = refl
calm_wait (Some place) = refl

calm_peek : (event : Option Event) → calms (peek_answer event) ≡ true
calm_peek None = refl
calm_peek (Some event) = refl

calm_open : (log : List Entry) (lane : ℕ) (run : Option ℕ) (call : Call) → is_light call ≡ true → calms (open_answer log lane run call) ≡ true
calm_open log lane run Claim light =
    calm_if (not (is_claimed 0 log) && not (nat_eq lane 0)) NotYet (next_run log (unclaimed_run log)) refl (calm_next log (unclaimed_run log))
calm_open log lane run Quit light = refl
calm_open log lane run (Finish end) light = refl
calm_open log lane run Wait light = calm_run log run Wait (λ k. calm_wait (first_event k log))
calm_open log lane run Peek light = calm_run log run Peek (λ k. calm_peek (front k log))
calm_open log lane run IsEmpty light = calm_run log run IsEmpty (λ k. refl)
calm_open log lane run call light = absurd (true≢false (sym light))

-- such a call is never answered so
calm_reply : (log : List Entry) (lane : ℕ) (run : Option ℕ) (call : Call) (reply : Reply) → answer_of log lane run call ≡ Ready reply → is_light call ≡ true
    → is_calm reply ≡ true
calm_reply log lane run call reply answered light =
    sym (ap calms answered) ∙ calm_if (has_quit log) Shut (open_answer log lane run call) refl (calm_open log lane run call light)

no_model : (call : Call) (reply : Reply) → is_light call ≡ true → is_calm reply ≡ true → model_told call reply ≡ None
no_model call (Loaded model source) light calm = absurd (true≢false (sym calm))
no_model (Starts model params) reply light calm = absurd (true≢false (sym light))
no_model call reply light calm = refl

no_image : (file : List ℕ) (call : Call) (reply : Reply) → is_light call ≡ true → is_some (compiled_to file call reply) ≡ false
no_image file (Compile src dst) reply light = absurd (true≢false (sym light))
no_image file call reply light = refl

not_started : (reply : Reply) → is_calm reply ≡ true → is_started reply ≡ false
not_started (Started run) calm = absurd (true≢false (sym calm))
not_started reply calm = refl

tells_nothing : (index : EventQueue) (run : Option ℕ) (call : Call) (reply : Reply) → is_light call ≡ true → is_finish call ≡ false
    → CanTell index.runs.items (deed_of run call reply)
tells_nothing index run (Finish end) reply light goes = absurd (true≢false goes)
tells_nothing index run Claim reply light goes = record { covers = λ k told. absurd (none-some k told); room = λ k told. absurd (none-some k told) }
tells_nothing index run Quit reply light goes = record { covers = λ k told. absurd (none-some k told); room = λ k told. absurd (none-some k told) }
tells_nothing index run Wait reply light goes = record { covers = λ k told. absurd (none-some k told); room = λ k told. absurd (none-some k told) }
tells_nothing index run Peek reply light goes = record { covers = λ k told. absurd (none-some k told); room = λ k told. absurd (none-some k told) }
tells_nothing index run IsEmpty reply light goes = record { covers = λ k told. absurd (none-some k told); room = λ k told. absurd (none-some k told) }
tells_nothing index run call reply light goes = absurd (true≢false (sym light))

no_pipe : (call : Call) → is_light call ≡ true → named_pipe call ≡ None
no_pipe Claim light = refl
no_pipe Quit light = refl
no_pipe (Finish end) light = refl
no_pipe Wait light = refl
no_pipe Peek light = refl
no_pipe IsEmpty light = refl
no_pipe call light = absurd (true≢false (sym light))

no_run : (run : Option ℕ) (call : Call) (reply : Reply) → is_light call ≡ true → is_finish call ≡ false → pipes.run_told run call reply ≡ None
no_run run (Finish end) reply light goes = absurd (true≢false goes)
no_run None Claim reply light goes = refl
no_run (Some k) Claim reply light goes = refl
no_run None Quit reply light goes = refl
no_run (Some k) Quit reply light goes = refl
no_run None Wait reply light goes = refl
no_run (Some k) Wait reply light goes = refl
no_run None Peek reply light goes = refl
no_run (Some k) Peek reply light goes = refl
no_run None IsEmpty reply light goes = refl
no_run (Some k) IsEmpty reply light goes = refl
no_run run call reply light goes = absurd (true≢false (sym light))

no_write : (name : List ℕ) (call : Call) (reply : Reply) → is_light call ≡ true → writes name call reply ≡ false
no_write name Claim reply light = refl
no_write name Quit reply light = refl
no_write name (Finish end) reply light = refl
no_write name Wait reply light = refl
no_write name Peek reply light = refl
no_write name IsEmpty reply light = refl
no_write name call reply light = absurd (true≢false (sym light))

not_opening : (call : Call) → is_light call ≡ true → OpensSo (opening_of call) → ⊥
not_opening (Open lanes budget params files) light opens = true≢false (sym light)
not_opening call light opens = opens

quiet : (e : Entry) → is_light e.call ≡ true → is_calm e.reply ≡ true → models.IsQuiet e
quiet e light calm = record {
  models = no_model e.call e.reply light calm;
  images = λ file. no_image file e.call e.reply light;
  starts = not_started e.reply calm;
}

tells_no_end : (index : EventQueue) (call : Call) (reply : Reply) → is_finish call ≡ true → CanTell index.runs.items (deed_of None call reply)
tells_no_end index (Finish end) reply ends = record { covers = λ k told. absurd (none-some k told); room = λ k told. absurd (none-some k told) }
tells_no_end index call reply ends = absurd (true≢false (sym ends))

no_run_end : (call : Call) (reply : Reply) → is_finish call ≡ true → pipes.run_told None call reply ≡ None
no_run_end (Finish end) reply ends = refl
no_run_end call reply ends = absurd (true≢false (sym ends))

-- what the indexes say of the end of a run
abbrev pub EventsEnd : EventQueue → Entry → Type 0
EventsEnd index e =
    (journal : List Entry) (run : ℕ) → events.IsIndexOf index journal → e.run ≡ Some run → is_finish e.call ≡ true
    → is_finished run journal ≡ false → (run ≡ 0) ⊎ IsSome (parent_of run journal) → events.CanTake index e

abbrev pub PipesEnd : Pipe → Entry → Type 0
PipesEnd pipe e =
    (journal : List Entry) (run : ℕ) → pipes.IsIndexOf pipe journal → e.run ≡ Some run → is_finish e.call ≡ true
    → (run ≡ 0) ⊎ IsSome (parent_of run journal) → pipes.CanTake pipe e

abbrev pub ModelsNote : ModelTable → Entry → Type 0
ModelsNote table e =
    (journal : List Entry) → models.IsIndexOf table journal → models.IsQuiet e
    → ((run : ℕ) → e.run ≡ Some run → run < run_count journal) → e.lane < 64 → models.CanTake table e

module _ (grows : Grows) (in_order : GivenInOrder) (one : OneLaneARun) (sources : RunsHaveSources) where
  events_take : (index : EventQueue) (log : List Entry) (e : Entry) → events.IsIndexOf index log → IsLegal log → Follows log e → is_light e.call ≡ true
      → EventsEnd index e → (b : Bool) → is_finish e.call ≡ b → (run : Option ℕ) → e.run ≡ run → events.CanTake index e
  events_take index log e is h f light ends false goes run by = tells_nothing index e.run e.call e.reply light goes
  events_take index log e is h f light ends true fin None by =
      subst (λ r. CanTell index.runs.items (deed_of r e.call e.reply)) (sym by) (tells_no_end index e.call e.reply fin)
  events_take index log e is h f light ends true fin (Some k) by =
      let held = held_of log e k f by in
      ends log k is by fin ((go_on grows in_order one log h).held e.lane k held)
      (has_parent grows sources log h k (held_is_run in_order log e.lane k h held))

  pipes_take : (pipe : Pipe) (log : List Entry) (e : Entry) → pipes.IsIndexOf pipe log → IsLegal log → Follows log e → is_light e.call ≡ true
      → PipesEnd pipe e → (pipes.IsQuiet e → pipes.CanTake pipe e) → (b : Bool) → is_finish e.call ≡ b → (run : Option ℕ) → e.run ≡ run → pipes.CanTake pipe e
  pipes_take pipe log e is h f light ends note false goes run by = note (no_pipe e.call light, no_run e.run e.call e.reply light goes)
  pipes_take pipe log e is h f light ends note true fin None by =
      note (no_pipe e.call light, ap (λ r. pipes.run_told r e.call e.reply) by ∙ no_run_end e.call e.reply fin)
  pipes_take pipe log e is h f light ends note true fin (Some k) by =
      ends log k is by fin (has_parent grows sources log h k (held_is_run in_order log e.lane k h (held_of log e k f by)))

  all_take : (index : HubIndex) (log : List Entry) (e : Entry) → IsIndexOf index log → is_light e.call ≡ true → ModelsNote index.models e
      → EventsEnd index.events e → PipesEnd index.pipes e → (pipes.IsQuiet e → pipes.CanTake index.pipes e) → IsNext log e → CanTake index e
  all_take index log e is light note ends closes rests (journals.first_entry none opens) = absurd (not_opening e.call light opens.opened)
  all_take index log e is light note ends closes rests (journals.next_entry h f) = record {
    models = note log is.models (quiet e light (calm_reply log e.lane e.run e.call e.reply f.answered light))
        (λ run by. held_is_run in_order log e.lane run h (held_of log e run f by)) (few_lanes log e h f);
    events = events_take index.events log e is.events h f light ends (is_finish e.call) refl e.run refl;
    blocks = λ name wrote. absurd (true≢false (sym wrote ∙ no_write name e.call e.reply light));
    pipes = pipes_take index.pipes log e is.pipes h f light closes rests (is_finish e.call) refl e.run refl;
  }

  -- the indexes take such an entry of a legal journal
  pub can_take : (index : HubIndex) (log : List Entry) (e : Entry) → IsIndexOf index log → IsLegal (log ++ e ∷ []) → is_light e.call ≡ true
      → ModelsNote index.models e → EventsEnd index.events e → PipesEnd index.pipes e → (pipes.IsQuiet e → pipes.CanTake index.pipes e) → CanTake index e
  can_take index log e is legal light note ends closes rests = all_take index log e is light note ends closes rests (is_next log e legal)
