-- Calls that are tried again: what they leave together.
use Rattle.std.proofs.Common.{◌≡◌, ℕ, ◌≤◌, List, [], ◌++◌, refl, sym, subst, append-nil, arith}
use Rattle.hub_lock.specs.declared.story.Story.{Ghosts}
use Rattle.hub_lock.specs.LaneEntries.{entries_of, StartsWith}
use Rattle.hub_lock.specs.Seats.{SeatState, turns, first_entry, own_list, IsSameSeat}

module _ {S C A H E : Type 0} (story : Ghosts S C A H E) where
  -- the calls so far were refused: the seat has seen more entries of other lanes alone
  pub record HasWaited (old now : SeatState E) : Type 0 where
    pub between : List E
    pub goes_on : now.seen ≡ old.seen ++ between
    pub others : entries_of story.lane_of old.lane between ≡ []
    pub none_more : own_list story now ≡ own_list story old
    pub first : first_entry now ≡ first_entry old
    pub same : IsSameSeat old now
    pub turns_more : turns old ≤ turns now
    pub marks : StartsWith now.marks old.marks

  pub begins : (old : SeatState E) → HasWaited old old
  begins old = record {
    between = [];
    goes_on = sym (append-nil old.seen);
    others = refl;
    none_more = refl;
    first = refl;
    same = record { lock = refl; lane = refl; made = refl };
    turns_more = omega arith;
    marks = ([], sym (append-nil old.marks));
  }

  pub still_allowed : (old mid : SeatState E) (call again : C) → again ≡ call → HasWaited old mid
      → story.allowed (first_entry old) (own_list story old) old.lane call → story.allowed (first_entry mid) (own_list story mid) mid.lane again
  still_allowed old mid call again same w h =
      subst (λ (x : C). story.allowed (first_entry mid) (own_list story mid) mid.lane x) (sym same)
      (subst (λ (n : ℕ). story.allowed (first_entry mid) (own_list story mid) n call) (sym w.same.lane)
      (subst (λ (es : List E). story.allowed (first_entry mid) es old.lane call) (sym w.none_more)
      (subst (λ (e : _). story.allowed e (own_list story old) old.lane call) (sym w.first) h)))
