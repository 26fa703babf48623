-- What a whole call leaves of a seat: what it has seen, its own list and its marks have grown as the call says.
use Rattle.std.proofs.Common.{◌≡◌, ℕ, ◌<◌, List, [], ◌∷◌, ◌++◌, All, length, slice_get, Option, refl, sym, ap, ◌∙◌, subst, append-nil, arith}
use Rattle.std.proofs.lemmas.List.{length-append}
use Rattle.atomic_table.specs.Table.{Me}
use Rattle.atomic_table.specs.Seated.{TableId}
use Rattle.hub_lock.specs.declared.mark.Mark.{Mark}
use Rattle.hub_lock.specs.declared.rule.View.{View}
use Rattle.hub_lock.specs.declared.story.Story.{Ghosts}
use Rattle.hub_lock.specs.LaneEntries.{entries_of, StartsWith}
use Rattle.hub_lock.specs.Marks.{mark}
use Rattle.hub_lock.specs.Seats.{SeatState}
use Rattle.hub_lock.specs.Calls.{HasActed, HasHeld}
use Rattle.hub_lock.specs.Inner.Rule.{first_view}
use Rattle.hub_lock.specs.Inner.Rests.{IsAtRest}
use Rattle.hub_lock.specs.Inner.Steps.{after_look, after_count, after_pass}
use Rattle.hub_lock.specs.Inner.Turns.{Raw, HasTurn, HasMark}
use Rattle.hub_lock.proofs.Lists.{of-append, of-own, of-none, first-append}

module _ {S E : Type 0} where
  -- what contracts see of a seat
  abbrev pub state_of : TableId → ℕ → ℕ → Me (Option S) (View E) → SeatState E
  state_of lock lane made me = record { lock = lock; lane = lane; made = made; seen = me.0.seen; marks = me.0.marks }

  -- the first seat is at rest
  pub rests_first : (list : S → List E) (lane_of : E → ℕ) (story about : S) (me : Me (Option S) (View E)) → me ≡ (first_view (list about), []) → about ≡ story → 0 < length (list story) → All (λ e. lane_of e ≡ 0) (list story) → IsAtRest lane_of 0 1 me
  rests_first list lane_of story about me is same begun first = subst (IsAtRest lane_of 0 1) (sym (is ∙ ap (λ (x : S). let m : Me (Option S) (View E) = (first_view (list x), []) in m) same)) record {
    idle = refl;
    empty = refl;
    lane_is = refl;
    made_is = refl;
    begun = begun;
    alone = refl;
    unmade = λ _. (omega arith, λ lane le. of-none lane_of 0 lane (λ e. omega arith) (list story) first);
  }

  -- a seat that has its turn has the mark of it
  pub mark_of : (list : S → List E) (lane_of : E → ℕ) (sound : List E → Type 0) (old new : Raw S E) (story : S) → HasTurn list lane_of sound old new story → HasMark new
  mark_of list lane_of sound old new story turn = (
    turn.ticket,
    old.me.0.marks,
    ap (λ (m : Me (Option S) (View E)). m.0.stage) turn.after,
    ap (λ (m : Me (Option S) (View E)). m.0.marks) turn.after ∙ ap (λ (m : Me (Option S) (View E)). old.me.0.marks ++ mark turn.ticket (length m.0.seen) ∷ []) (sym turn.after),
  )

module _ {S C A H E : Type 0} (story : Ghosts S C A H E) where
  module _ (lane made : ℕ) (old mid new : Raw S E) (s : S) (rests : IsAtRest story.lane_of lane made old.me) (turn : HasTurn story.list story.lane_of story.sound old mid s) where
    -- all that the turn found
    abbrev log : List E
    log = old.me.0.seen ++ turn.between

    abbrev marked : List Mark
    marked = old.me.0.marks ++ mark turn.ticket (length log) ∷ []

    long : 0 < length log
    long = let b = rests.begun in omega (arith, length-append old.me.0.seen turn.between)

    others : entries_of story.lane_of lane turn.between ≡ []
    others = subst (λ (n : ℕ). entries_of story.lane_of n turn.between ≡ []) rests.lane_is turn.others

    own_log : entries_of story.lane_of lane log ≡ entries_of story.lane_of lane old.me.0.seen
    own_log = of-append story.lane_of lane old.me.0.seen turn.between ∙ ap (λ (xs : List E). entries_of story.lane_of lane old.me.0.seen ++ xs) others ∙ append-nil (entries_of story.lane_of lane old.me.0.seen)

    -- the turn was passed with the value as it was
    after_held : new.me ≡ (after_pass mid.me.0, []) → new.me ≡ (after_pass (after_look old.me.0 turn.ticket log), [])
    after_held is = is ∙ ap (λ (m : Me (Option S) (View E)). let n : Me (Option S) (View E) = (after_pass m.0, []) in n) turn.after

    pub marks_held : new.me ≡ (after_pass mid.me.0, []) → StartsWith new.me.0.marks old.me.0.marks
    marks_held is = (mark turn.ticket (length log) ∷ [], ap (λ (m : Me (Option S) (View E)). m.0.marks) (after_held is))

    pub has_held : (lock lock' : TableId) (call : C) (count : ℕ) (refusal : H) (s' : S) → new.me ≡ (after_pass mid.me.0, []) → story.list s' ≡ story.list s → count ≡ length (story.list s') → story.refuses (story.list s) lane call refusal
        → HasHeld story (state_of lock lane made old.me) (state_of lock' lane made new.me) call count refusal
    has_held lock lock' call count refusal s' is same counted refused =
        let seen : new.me.0.seen ≡ log = ap (λ (m : Me (Option S) (View E)). m.0.seen) (after_held is) in record {
          between = turn.between;
          goes_on = seen;
          others = others;
          none_more = ap (entries_of story.lane_of lane) seen ∙ own_log;
          first = ap (λ (xs : List E). slice_get xs 0) seen ∙ first-append old.me.0.seen turn.between rests.begun;
          counted = counted ∙ ap length (same ∙ turn.stands ∙ sym seen);
          refused = subst (λ (xs : List E). story.refuses xs lane call refusal) (turn.stands ∙ sym seen) refused;
          sounds = subst story.sound (sym seen) turn.sounds;
          found = (old.me.0.marks, turn.ticket, ap (λ (m : Me (Option S) (View E)). m.0.marks) (after_held is) ∙ ap (λ (xs : List E). old.me.0.marks ++ mark turn.ticket (length xs) ∷ []) (sym seen));
        }

    -- the turn was passed with one entry more
    module _ (s' : S) (entry : E) (longer : story.list s' ≡ story.list s ++ entry ∷ []) (is_own : story.lane_of entry ≡ lane) where
      whole : story.list s' ≡ log ++ entry ∷ []
      whole = longer ∙ ap (λ (xs : List E). xs ++ entry ∷ []) turn.stands

      after_acted : new.me ≡ (after_pass (after_count mid.me.0 (story.list s')), []) → new.me ≡ (after_pass (after_count (after_look old.me.0 turn.ticket log) (log ++ entry ∷ [])), [])
      after_acted is = is ∙ ap (λ (m : Me (Option S) (View E)). let n : Me (Option S) (View E) = (after_pass (after_count m.0 (story.list s')), []) in n) turn.after
          ∙ ap (λ (xs : List E). let n : Me (Option S) (View E) = (after_pass (after_count (after_look old.me.0 turn.ticket log) xs), []) in n) whole

      pub marks_acted : new.me ≡ (after_pass (after_count mid.me.0 (story.list s')), []) → StartsWith new.me.0.marks old.me.0.marks
      marks_acted is = (mark turn.ticket (length log) ∷ [], ap (λ (m : Me (Option S) (View E)). m.0.marks) (after_acted is))

      pub has_acted : (lock lock' : TableId) (call : C) (answer : A) → new.me ≡ (after_pass (after_count mid.me.0 (story.list s')), []) → story.answers (story.list s) lane call entry answer → story.sound (story.list s')
          → HasActed story (state_of lock lane made old.me) (state_of lock' lane made new.me) call answer
      has_acted lock lock' call answer is answered sounds =
          let seen : new.me.0.seen ≡ log ++ entry ∷ [] = ap (λ (m : Me (Option S) (View E)). m.0.seen) (after_acted is) in record {
            between = turn.between;
            entry = entry;
            goes_on = seen;
            others = others;
            own = is_own;
            one_more = ap (entries_of story.lane_of lane) seen ∙ of-own story.lane_of lane log entry is_own ∙ ap (λ (xs : List E). xs ++ entry ∷ []) own_log;
            first = ap (λ (xs : List E). slice_get xs 0) seen ∙ first-append log (entry ∷ []) long ∙ first-append old.me.0.seen turn.between rests.begun;
            answered = subst (λ (xs : List E). story.answers xs lane call entry answer) turn.stands answered;
            sounds = subst story.sound (whole ∙ sym seen) sounds;
            found = (old.me.0.marks, turn.ticket, ap (λ (m : Me (Option S) (View E)). m.0.marks) (after_acted is));
          }
