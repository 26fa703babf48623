-- What the end of a lock says of each seat.
use Rattle.std.proofs.Common.{◌≡◌, ℕ, ◌+◌, ◌<◌, List, [], ◌∷◌, zero, suc, map, map-id, length, sum_by, All, get_or, refl, sym, ap, ◌∙◌, subst, arith}
use Rattle.std.proofs.lemmas.List.{length-map}
use Rattle.std.proofs.lemmas.List.Sums.{sum_by-cons}
use Rattle.std.proofs.lemmas.List.Elements.{All-nil, All-head, All-tail, All-cons}
use Rattle.std.proofs.lemmas.Option.{slice_get-get_or, slice_get_read}
use mathlib.Core.Option.{some}
use lib.ListN.{get_elem?}
use Rattle.atomic_table.proofs.Lists.{at_map}
use Rattle.hub_lock.specs.declared.mark.Mark.{Mark}
use Rattle.hub_lock.specs.declared.rule.Part.{Part}
use Rattle.hub_lock.specs.declared.rule.View.{View}
use Rattle.hub_lock.specs.LaneEntries.{entries_of, StartsWith}
use Rattle.hub_lock.specs.Marks.{times, IsMarkOf}
use Rattle.hub_lock.specs.Seats.{SeatState, turns}
use Rattle.hub_lock.specs.Calls.{InOrder, HasOrder, IsEnd}
use Rattle.hub_lock.specs.Inner.Rule.{turns_of}
use Rattle.hub_lock.specs.Inner.Turns.{IsWhole}

elem_here : {A : Type 0} (l : List A) (i : ℕ) (d : A) → i < length l → get_elem? l i ≡ some (get_or l i d)
elem_here [] i d h = absurd (omega arith)
elem_here (x ∷ xs) zero d h = refl
elem_here (x ∷ xs) (suc i) d h = elem_here xs i d (omega arith)

module _ {E : Type 0} where
  -- what is kept of a seat once it is joined
  abbrev pub part_by : SeatState E → Part E
  part_by seat = record { seen = seat.seen; marks = seat.marks }

  sum_parts : (f : List Mark → ℕ) (seats : List (SeatState E)) → sum_by (λ (p : Part E). f p.marks) (map part_by seats) ≡ sum_by (λ (seat : SeatState E). f seat.marks) seats
  sum_parts f [] = refl
  sum_parts f (x ∷ xs) =
      let h = sum_parts f xs in
      let a = sum_by-cons (λ (p : Part E). f p.marks) (part_by x) (map part_by xs) in
      let b = sum_by-cons (λ (seat : SeatState E). f seat.marks) x xs in omega arith

  all_parts : (P : List Mark → Type 0) (seats : List (SeatState E)) → All (λ (p : Part E). P p.marks) (map part_by seats) → All (λ (seat : SeatState E). P seat.marks) seats
  all_parts P [] h = All-nil (λ (seat : SeatState E). P seat.marks)
  all_parts P (x ∷ xs) h =
      All-cons (λ (seat : SeatState E). P seat.marks) x xs (All-head (λ (p : Part E). P p.marks) (part_by x) (map part_by xs) h) (all_parts P xs (All-tail (λ (p : Part E). P p.marks) (part_by x) (map part_by xs) h))

  -- all seats' turns stand in one order
  orders : (lane_of : E → ℕ) (sound : List E → Type 0) (seat : SeatState E) (others : List (SeatState E)) (v : View E) (log : List E) → IsWhole lane_of sound v log → v.marks ≡ seat.marks → v.joined ≡ map part_by others
      → HasOrder (seat ∷ others) (length log)
  orders lane_of sound seat others v log whole own joined =
      let all : (f : List Mark → ℕ) → f v.marks + sum_by (λ (p : Part E). f p.marks) v.joined ≡ sum_by (λ (s : SeatState E). f s.marks) (seat ∷ others) = λ f.
      let a : f v.marks ≡ f seat.marks = ap f own in
      let b : sum_by (λ (p : Part E). f p.marks) v.joined ≡ sum_by (λ (s : SeatState E). f s.marks) others = ap (sum_by (λ (p : Part E). f p.marks)) joined ∙ sum_parts f others in
      omega (arith, a, b, sum_by-cons (λ (s : SeatState E). f s.marks) seat others) in
      let total : turns_of v ≡ sum_by turns (seat ∷ others) = all length in
      let P : List Mark → Type 0 = All (IsMarkOf whole.at (sum_by turns (seat ∷ others))) in
      let mine : P v.marks = subst (λ (n : ℕ). All (IsMarkOf whole.at n) v.marks) total whole.marks.0 in
      let theirs : All (λ (p : Part E). P p.marks) v.joined = subst (λ (n : ℕ). All (λ (p : Part E). All (IsMarkOf whole.at n) p.marks) v.joined) total whole.marks.1 in record {
        at = whole.at;
        steps = whole.order;
        marks = All-cons (λ (s : SeatState E). P s.marks) seat others (subst P own mine) (all_parts P others (subst (All (λ (p : Part E). P p.marks)) joined theirs));
        once = λ turn lt. sym (all (times turn)) ∙ whole.once turn (omega (arith, total));
        whole = ap whole.at (sym total) ∙ whole.leads;
      }

  pub ends : (lane_of : E → ℕ) (sound : List E → Type 0) (seat : SeatState E) (others sofar : List (SeatState E)) (v : View E) (log : List E) → IsWhole lane_of sound v log
      → v.seen ≡ seat.seen → v.marks ≡ seat.marks → v.lane ≡ seat.lane → v.made ≡ seat.made → v.joined ≡ map part_by sofar → map (λ x. x) sofar ≡ others → InOrder others → length others + 1 ≡ seat.made
      → IsEnd lane_of sound seat others log
  ends lane_of sound seat others sofar v log whole seen own lane made joined each order all =
      let parts : v.joined ≡ map part_by others = joined ∙ ap (map part_by) (sym (map-id sofar) ∙ each) in record {
        first = (
          subst (StartsWith log) seen whole.begins,
          subst (λ (n : ℕ). entries_of lane_of n log ≡ entries_of lane_of n seat.seen) lane (subst (λ (xs : List E). entries_of lane_of v.lane log ≡ entries_of lane_of v.lane xs) seen whole.own),
        );
        rest = λ k d lt.
            let other = get_or others k d in
            let part = whole.parts k (part_by other) (ap (λ (xs : List (Part E)). get_elem? xs k) parts ∙ at_map part_by others k other (elem_here others k d lt)) in
            (part.0, subst (λ (n : ℕ). entries_of lane_of n log ≡ entries_of lane_of n other.seen) (sym (order k other (slice_get-get_or others k d lt))) part.1);
        no_more = λ lane lt. whole.unmade lane (omega arith);
        sounds = whole.sounds;
        order = orders lane_of sound seat others v log whole own parts;
      }

  -- the next seat is that of the next lane
  pub next_lane : (others sofar : List (SeatState E)) (other : SeatState E) (joined : List (Part E)) → InOrder others → joined ≡ map part_by sofar → length sofar < length others → other ≡ get_or others (length sofar) other
      → other.lane ≡ length joined + 1
  next_lane others sofar other joined order is lt at =
      let n : length joined ≡ length sofar = ap length is ∙ length-map sofar part_by in
      let h = order (length sofar) other (slice_get_read others (length others) (length sofar) other refl lt at) in omega arith

  -- all seats are joined
  pub all_joined : (others sofar : List (SeatState E)) (joined : List (Part E)) (made count : ℕ) → joined ≡ map part_by sofar → length sofar ≡ length others → length others + 1 ≡ count → made ≡ count → length joined + 1 ≡ made
  all_joined others sofar joined made count is n all same = let m : length joined ≡ length sofar = ap length is ∙ length-map sofar part_by in omega arith
