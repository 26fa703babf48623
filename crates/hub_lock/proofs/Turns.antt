-- The steps as the parts of a call take them.
use Rattle.std.proofs.Common.{◌≡◌, ℕ, ◌+◌, ◌%◌, ◌^◌, ◌<◌, List, [], ◌∷◌, ◌++◌, length, slice_get, Some, Option, sym, ap, ◌∙◌, subst₂, append-nil}
use mathlib.Core.Option as maybe
use Rattle.atomic_table.specs.Table.{Me, step, Allows}
use Rattle.hub_lock.specs.declared.rule.View.{View}
use Rattle.hub_lock.specs.LaneEntries.{entries_of}
use Rattle.hub_lock.specs.Marks.{mark}
use Rattle.hub_lock.specs.Inner.Rule.{HasJournal}
use Rattle.hub_lock.specs.Inner.Steps.{after_draw, LookTells, CountTells}
use Rattle.hub_lock.specs.Inner.Turns.{Raw, HasMark, HasEntry}
use Rattle.hub_lock.proofs.Lists.{of-append, first-append}
use Rattle.hub_lock.proofs.Steps.{looks, counts}

module _ {S E : Type 0} (list : S → List E) (lane_of : E → ℕ) (sound : List E → Type 0) where
  -- the seat waits with the ticket t
  pub looks_with : (slots id : ℕ) (me : Me (Option S) (View E)) (v : View E) (t : ℕ) → me ≡ (after_draw v t, [])
      → Allows (HasJournal list lane_of sound) slots id me 1 (λ n. n) (LookTells list lane_of sound (step slots 1 0 0 maybe.none) me)
  looks_with slots id me v t is = looks list lane_of sound slots id me t (ap (λ (m : Me (Option S) (View E)). m.0.stage) is)

  pub counts_with : (slots id : ℕ) (me : Me (Option S) (View E)) (raw : Raw S E) (story : S) → me ≡ (raw.me.0, (0, Some story) ∷ []) → HasMark raw → HasEntry list lane_of sound raw story
      → Allows (HasJournal list lane_of sound) slots id me 2 (λ n. (n + 1) % 2 ^ 64) (CountTells list (step slots 2 1 0 maybe.none) me)
  counts_with slots id me raw story is m e = counts list lane_of sound slots id me m.0 m.1 story e.entry
      (ap (λ (m : Me (Option S) (View E)). m.0.stage) is ∙ m.2)
      (ap (λ (m : Me (Option S) (View E)). m.0.marks) is ∙ m.3 ∙ ap (λ (x : Me (Option S) (View E)). m.1 ++ mark m.0 (length x.0.seen) ∷ []) (sym is))
      (ap (λ (m : Me (Option S) (View E)). m.1) is)
      (e.longer ∙ sym (ap (λ (m : Me (Option S) (View E)). m.0.seen ++ e.entry ∷ []) is)) (e.own ∙ sym (ap (λ (m : Me (Option S) (View E)). m.0.lane) is)) e.sounds e.small

module _ {E : Type 0} (lane_of : E → ℕ) where
  -- what is allowed on what the lane has seen is allowed on the journal, which goes on with other lanes' entries
  pub allowed_with : (allowed : Option E → List E → Type 0) (log seen between : List E) (lane : ℕ) → log ≡ seen ++ between → entries_of lane_of lane between ≡ [] → 0 < length seen
      → allowed (slice_get seen 0) (entries_of lane_of lane seen) → allowed (slice_get log 0) (entries_of lane_of lane log)
  allowed_with allowed log seen between lane is none some_entry h =
      let first : slice_get log 0 ≡ slice_get seen 0 = ap (λ (xs : List E). slice_get xs 0) is ∙ first-append seen between some_entry in
      let own : entries_of lane_of lane log ≡ entries_of lane_of lane seen = ap (entries_of lane_of lane) is ∙ of-append lane_of lane seen between ∙ ap (λ (xs : List E). entries_of lane_of lane seen ++ xs) none ∙ append-nil (entries_of lane_of lane seen) in
      subst₂ allowed (sym first) (sym own) h
