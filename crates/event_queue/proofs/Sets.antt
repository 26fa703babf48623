-- Runs of which one was changed: what they say, and the room that they keep.

use Rattle.std.proofs.Common.{◌≡◌, ◌≢◌, ◌<◌, ◌≤◌, ◌^◌, ℕ, suc, zero, ◌+◌, Bool, true, false, not, ◌&&◌, cond, List, [], ◌∷◌, ◌++◌, Option, Some, None, refl, sym, ap, subst, ◌∙◌, length, arith, true≢false, nat_eq, drop, append-nil, ◌||◌}
use Rattle.std.specs.Prelude.{OnOk, Result, Ok, Err, slice_get, slice_set, slice_index_or, count_by, option_and_then, if◌then◌else◌}
use Rattle.std.specs.Option.{option_map_or}
use Rattle.std.proofs.lemmas.Bool.{eqb-true, eq-eqb}
use Rattle.std.proofs.lemmas.List.{length-append, length-set}
use Rattle.std.proofs.lemmas.List.Sums.{sum_by-set}
use Rattle.std.proofs.lemmas.Option.{slice_get_within, slice_get_past, slice_get_read, get_or_from_slice_get, same_Some, none-some}
use Rattle.job_calls.specs.Entries.{is_run}
use Rattle.growing_lists.specs.Growing.{as_number, count-cons, count-snoc}
use Rattle.event_queue.specs.declared.run.Run.{Run}
use Rattle.event_queue.specs.Runs.{parent_at, ended_at, places_at, will_tell, IsIdle, KeepsRoom, KeepRooms, HasRoom, RoomAt}
use Rattle.event_queue.specs.Steps.{HasSpare, place_for}
use Rattle.circular_buffer.specs.Buffer.{Buffer}

-- an element that was set
pub set_same : {A : Type 0} (xs : List A) (k : ℕ) (y : A) → k < length xs → slice_get (slice_set xs k y) k ≡ Some y
set_same [] k y less = absurd (omega (arith, less))
set_same (x ∷ xs) zero y less = refl
set_same (x ∷ xs) (suc k) y less = set_same xs k y (omega (arith, less))

-- and one that was not
pub set_other : {A : Type 0} (xs : List A) (k j : ℕ) (y : A) → (k ≡ j → ⊥) → slice_get (slice_set xs k y) j ≡ slice_get xs j
set_other [] k j y apart = refl
set_other (x ∷ xs) zero zero y apart = absurd (apart refl)
set_other (x ∷ xs) zero (suc j) y apart = refl
set_other (x ∷ xs) (suc k) zero y apart = refl
set_other (x ∷ xs) (suc k) (suc j) y apart = set_other xs k j y (λ e. apart (ap suc e))

pub apart_from : (k j : ℕ) → nat_eq k j ≡ false → k ≡ j → ⊥
apart_from k j e q = true≢false (sym (eq-eqb k j q) ∙ e)

-- what is said of each element, once one was set
pub set_said : {A B : Type 0} (said : Option A → B) (xs : List A) (k : ℕ) (y : A) → k < length xs → (j : ℕ)
    → said (slice_get (slice_set xs k y) j) ≡ (if nat_eq k j then said (Some y) else said (slice_get xs j))
set_said said xs k y less j = by (nat_eq k j) refl where
  by : (b : Bool) → nat_eq k j ≡ b → said (slice_get (slice_set xs k y) j) ≡ (if b then said (Some y) else said (slice_get xs j))
  by true e = ap (λ i. said (slice_get (slice_set xs k y) i)) (sym (eqb-true k j e)) ∙ ap said (set_same xs k y less)
  by false e = ap said (set_other xs k j y (apart_from k j e))

-- where the new one says the same as the old one, all say the same
pub set_says : {A B : Type 0} (said : Option A → B) (xs : List A) (k : ℕ) (x y : A) → slice_get xs k ≡ Some x → said (Some y) ≡ said (Some x)
    → (j : ℕ) → said (slice_get (slice_set xs k y) j) ≡ said (slice_get xs j)
set_says said xs k x y was same j = set_said said xs k y (slice_get_within xs k x was) j ∙ by (nat_eq k j) refl where
  by : (b : Bool) → nat_eq k j ≡ b → (if b then said (Some y) else said (slice_get xs j)) ≡ said (slice_get xs j)
  by true e = same ∙ ap said (sym was) ∙ ap (λ i. said (slice_get xs i)) (eqb-true k j e)
  by false e = refl

number_if : (b : Bool) → cond b 1 0 ≡ as_number b
number_if true = refl
number_if false = refl

-- how many pass, once one element was set
pub count_set : {A : Type 0} (p : A → Bool) (xs : List A) (k : ℕ) (x y : A) → slice_get xs k ≡ Some x
    → count_by p (slice_set xs k y) + as_number (p x) ≡ count_by p xs + as_number (p y)
count_set p xs k x y was =
    let here = get_or_from_slice_get xs k x x was in
    ap (λ n. count_by p (slice_set xs k y) + n) (sym (number_if (p x)) ∙ ap (λ z. cond (p z) 1 0) (sym here))
    ∙ sum_by-set (λ z. cond (p z) 1 0) xs k y x (slice_get_within xs k x was)
    ∙ ap (λ n. count_by p xs + n) (number_if (p y))

-- what a run at a place is, once one was set
pub data AtSet {A : Type 0} (xs : List A) (k : ℕ) (y : A) (j : ℕ) (z : A) : Type 0 where
  set_here : k ≡ j → y ≡ z → AtSet xs k y j z
  set_there : (k ≡ j → ⊥) → slice_get xs j ≡ Some z → AtSet xs k y j z

pub at_set : {A : Type 0} (xs : List A) (k j : ℕ) (y z : A) → k < length xs → slice_get (slice_set xs k y) j ≡ Some z → AtSet xs k y j z
at_set xs k j y z less at = by (nat_eq k j) refl where
  by : (b : Bool) → nat_eq k j ≡ b → AtSet xs k y j z
  by true e =
      let same = eqb-true k j e in
      set_here same (same_Some y z (sym (set_same xs k y less) ∙ ap (λ i. slice_get (slice_set xs k y) i) same ∙ at))
  by false e = set_there (apart_from k j e) (sym (set_other xs k j y (apart_from k j e)) ∙ at)

-- runs keep their rooms where the new one keeps its own, and the others' children are counted
keep_set : (runs : List Run) (k : ℕ) (x y : Run) → KeepRooms runs → slice_get runs k ≡ Some x
    → ((p : ℕ) (run : Run) → (k ≡ p → ⊥) → slice_get runs p ≡ Some run → count_by (will_tell p) (slice_set runs k y) ≤ run.children)
    → count_by (will_tell k) (slice_set runs k y) ≤ y.children → length y.places.items + y.children ≤ y.places.capacity → y.places.capacity < 2 ^ 63
    → ((q : ℕ) → y.parent ≡ Some q → q < length runs) → KeepRooms (slice_set runs k y)
keep_set runs k x y keep was others own room few parent = λ p run at. by p run (at_set runs k p y run (slice_get_within runs k x was) at) where
  longer : (q : ℕ) → q < length runs → q < length (slice_set runs k y)
  longer q less = let same = length-set runs k y in omega (arith, less, same)

  by : (p : ℕ) (run : Run) → AtSet runs k y p run → KeepsRoom (slice_set runs k y) p run
  by p run (set_here same is) =
      subst (λ r. KeepsRoom (slice_set runs k y) p r) is (subst (λ i. KeepsRoom (slice_set runs k y) i y) same
      (record { children = own; room = room; few = few; parent = λ q e. longer q (parent q e) }))
  by p run (set_there apart at) =
      let kept = keep p run at in
      record { children = others p run apart at; room = kept.room; few = kept.few; parent = λ q e. longer q (kept.parent q e) }

-- a run that is told of the same ends as before
same_count : (runs : List Run) (k : ℕ) (x y : Run) (p : ℕ) → slice_get runs k ≡ Some x → y.parent ≡ x.parent → y.ended ≡ x.ended
    → count_by (will_tell p) (slice_set runs k y) ≡ count_by (will_tell p) runs
same_count runs k x y p was parent ended =
    let counts = count_set (will_tell p) runs k x y was in
    let tells : as_number (will_tell p y) ≡ as_number (will_tell p x) = (λ j. as_number (not (ended j) && is_run p (parent j))) in
    omega (arith, counts, tells)

-- a run that changes its queue alone
pub keep_queue : (runs : List Run) (k : ℕ) (x y : Run) → KeepRooms runs → slice_get runs k ≡ Some x → y.parent ≡ x.parent → y.ended ≡ x.ended
    → count_by (will_tell k) runs ≤ y.children → length y.places.items + y.children ≤ y.places.capacity → y.places.capacity < 2 ^ 63 → KeepRooms (slice_set runs k y)
keep_queue runs k x y keep was parent ended children room few =
    keep_set runs k x y keep was
    (λ p run apart at. let e = same_count runs k x y p was parent ended in let kept = (keep p run at).children in omega (arith, e, kept))
    (let e = same_count runs k x y k was parent ended in omega (arith, e, children)) room few
    (λ q e. (keep k x was).parent q (sym parent ∙ e))

at_most : (b : Bool) → as_number b ≤ 1
at_most true = omega arith
at_most false = omega arith

never : (b : Bool) → as_number (b && false) ≡ 0
never true = refl
never false = refl

module _ (runs : List Run) (k : ℕ) (x y : Run) (was : slice_get runs k ≡ Some x) where
  -- a run that keeps its parent, its end or its queue
  pub parents_stay : y.parent ≡ x.parent → (j : ℕ) → parent_at (slice_set runs k y) j ≡ parent_at runs j
  parents_stay same = set_says (λ o. option_and_then (λ (run : Run). run.parent) o) runs k x y was same

  pub ends_stay : y.ended ≡ x.ended → (j : ℕ) → ended_at (slice_set runs k y) j ≡ ended_at runs j
  ends_stay same = set_says (λ o. option_map_or (λ (run : Run). run.ended) o false) runs k x y was same

  pub places_stay : y.places.items ≡ x.places.items → (j : ℕ) → places_at (slice_set runs k y) j ≡ places_at runs j
  places_stay same = set_says (λ o. option_map_or (λ (run : Run). run.places.items) o []) runs k x y was same

  -- what is said of the run, where the number is that of the run
  here_is : {B : Type 0} (said : Option Run → B) (j : ℕ) → nat_eq k j ≡ true → said (slice_get runs j) ≡ said (Some x)
  here_is said j e = ap (λ i. said (slice_get runs i)) (sym (eqb-true k j e)) ∙ ap said was

  -- a run that was started
  pub parent_set : (caller : ℕ) → y.parent ≡ Some caller → (j : ℕ) → parent_at (slice_set runs k y) j ≡ (if nat_eq k j then Some caller else parent_at runs j)
  parent_set caller is j =
      set_said (λ o. option_and_then (λ (run : Run). run.parent) o) runs k y (slice_get_within runs k x was) j
      ∙ ap (λ o. if nat_eq k j then o else parent_at runs j) is

  -- a run that has ended
  pub end_set : y.ended ≡ true → (j : ℕ) → ended_at (slice_set runs k y) j ≡ (ended_at runs j || nat_eq k j)
  end_set is j =
      set_said (λ o. option_map_or (λ (run : Run). run.ended) o false) runs k y (slice_get_within runs k x was) j
      ∙ ap (λ b. if nat_eq k j then b else ended_at runs j) is
      ∙ either (nat_eq k j) (ended_at runs j)
    where
      either : (b o : Bool) → (if b then true else o) ≡ (o || b)
      either true true = refl
      either true false = refl
      either false true = refl
      either false false = refl

  -- a run to which an event came
  pub place_added : (place : ℕ) → y.places.items ≡ x.places.items ++ place ∷ [] → (j : ℕ)
      → places_at (slice_set runs k y) j ≡ places_at runs j ++ place_for j (Some k) place
  place_added place is j =
      set_said (λ o. option_map_or (λ (run : Run). run.places.items) o []) runs k y (slice_get_within runs k x was) j ∙ by (nat_eq k j) refl
    where
      by : (b : Bool) → nat_eq k j ≡ b → (if b then y.places.items else places_at runs j) ≡ places_at runs j ++ (if b then place ∷ [] else [])
      by true e = is ∙ ap (λ xs. xs ++ place ∷ []) (sym (here_is (λ o. option_map_or (λ (run : Run). run.places.items) o []) j e))
      by false e = sym (append-nil (places_at runs j))

  -- a run that has taken an event
  pub place_taken : y.places.items ≡ drop 1 x.places.items → (j : ℕ)
      → places_at (slice_set runs k y) j ≡ (if nat_eq k j then drop 1 (places_at runs j) else places_at runs j)
  place_taken is j =
      set_said (λ o. option_map_or (λ (run : Run). run.places.items) o []) runs k y (slice_get_within runs k x was) j ∙ by (nat_eq k j) refl
    where
      by : (b : Bool) → nat_eq k j ≡ b → (if b then y.places.items else places_at runs j) ≡ (if b then drop 1 (places_at runs j) else places_at runs j)
      by true e = is ∙ ap (drop 1) (sym (here_is (λ o. option_map_or (λ (run : Run). run.places.items) o []) j e))
      by false e = refl

  -- the run itself, once it was set
  pub set_is : (run : Run) → slice_get (slice_set runs k y) k ≡ Some run → y ≡ run
  set_is run at = same_Some y run (sym (set_same runs k y (slice_get_within runs k x was)) ∙ at)

  -- how many are told to run p
  pub told_same : y.parent ≡ x.parent → y.ended ≡ x.ended → (p : ℕ) → count_by (will_tell p) (slice_set runs k y) ≡ count_by (will_tell p) runs
  told_same parent ended p = same_count runs k x y p was parent ended

  -- a run that counts one child more than goes on
  pub spare_made : y.parent ≡ x.parent → y.ended ≡ x.ended → KeepRooms runs → y.children ≡ x.children + 1 → HasSpare (slice_set runs k y) k
  spare_made parent ended keep one = λ run at.
      let same = ap (λ (r : Run). r.children) (set_is run at) in
      let count = told_same parent ended k in
      let kept = (keep k x was).children in
      omega (arith, same, count, kept, one)

  -- a run that gets a parent which counts one child more
  pub keep_started : (caller : ℕ) → KeepRooms runs → HasSpare runs caller → caller < length runs → y.parent ≡ Some caller → y.ended ≡ x.ended
      → y.children ≡ x.children → y.places ≡ x.places → KeepRooms (slice_set runs k y)
  keep_started caller keep spare less parent ended children places =
      let kept = keep k x was in
      keep_set runs k x y keep was
      (λ p run apart at. counted p run at)
      (let c = counted k x was in omega (arith, c, children))
      (let q = ap (λ (b : Buffer ℕ). length b.items) places in let r = ap (λ (b : Buffer ℕ). b.capacity) places in let room = kept.room in omega (arith, q, r, room, children))
      (let r = ap (λ (b : Buffer ℕ). b.capacity) places in let few = kept.few in omega (arith, r, few))
      (λ q e. let same = same_Some caller q (sym parent ∙ e) in omega (arith, same, less))
    where
      counted : (p : ℕ) (run : Run) → slice_get runs p ≡ Some run → count_by (will_tell p) (slice_set runs k y) ≤ run.children
      counted p run at = by (nat_eq caller p) refl where
        by : (b : Bool) → nat_eq caller p ≡ b → count_by (will_tell p) (slice_set runs k y) ≤ run.children
        by true e =
            let sum = count_set (will_tell p) runs k x y was in
            let spare_there = subst (λ q. (r : Run) → slice_get runs q ≡ Some r → count_by (will_tell q) runs + 1 ≤ r.children) (eqb-true caller p e) spare run at in
            let one = at_most (will_tell p y) in
            omega (arith, sum, spare_there, one)
        by false e =
            let none : as_number (will_tell p y) ≡ 0 = ap (λ o. as_number (not y.ended && is_run p o)) parent ∙ ap (λ b. as_number (not y.ended && b)) e ∙ never (not y.ended) in
            let sum = count_set (will_tell p) runs k x y was in
            let own = (keep p run at).children in
            omega (arith, sum, none, own)

  told_less : (p : ℕ) → y.ended ≡ true → count_by (will_tell p) (slice_set runs k y) + as_number (will_tell p x) ≡ count_by (will_tell p) runs
  told_less p ended =
      let sum = count_set (will_tell p) runs k x y was in
      let none : as_number (will_tell p y) ≡ 0 = ap (λ b. as_number (not b && is_run p y.parent)) ended in
      omega (arith, sum, none)

  -- a run that ends
  pub keep_ended : KeepRooms runs → y.ended ≡ true → y.parent ≡ x.parent → y.children ≡ x.children → y.places ≡ x.places → KeepRooms (slice_set runs k y)
  keep_ended keep ended parent children places =
      let kept = keep k x was in
      keep_set runs k x y keep was
      (λ p run apart at. let sum = told_less p ended in let own = (keep p run at).children in omega (arith, sum, own))
      (let sum = told_less k ended in let own = kept.children in omega (arith, sum, own, children))
      (let q = ap (λ (b : Buffer ℕ). length b.items) places in let r = ap (λ (b : Buffer ℕ). b.capacity) places in let room = kept.room in omega (arith, q, r, room, children))
      (let r = ap (λ (b : Buffer ℕ). b.capacity) places in let few = kept.few in omega (arith, r, few))
      (λ q e. kept.parent q (sym parent ∙ e))

  -- what is said of a run that only ended
  counts_stay : {B : Type 0} (said : Run → B) → said y ≡ said x → (p : ℕ) (run : Run) → slice_get (slice_set runs k y) p ≡ Some run → (old : Run) × (slice_get runs p ≡ Some old) × (said run ≡ said old)
  counts_stay said same p run at = by (at_set runs k p y run (slice_get_within runs k x was) at) where
    by : AtSet runs k y p run → (old : Run) × (slice_get runs p ≡ Some old) × (said run ≡ said old)
    by (set_here q is) = (x, ap (slice_get runs) (sym q) ∙ was, ap said (sym is) ∙ same)
    by (set_there apart at) = (run, at, refl)

  -- room for the end of a run that ends is spare at its parent
  pub end_spares : KeepRooms runs → x.ended ≡ false → y.ended ≡ true → y.children ≡ x.children → (p : ℕ) → x.parent ≡ Some p → HasSpare (slice_set runs k y) p
  end_spares keep going ended children p parent = λ run at.
      let old = counts_stay (λ (r : Run). r.children) children p run at in
      let sum = told_less p ended in
      let one : as_number (will_tell p x) ≡ 1 = (λ j. as_number (not (going j) && is_run p (parent j))) ∙ ap as_number (eq-eqb p p refl) in
      let own = (keep p old.0 old.1).children in
      let same = old.2 in
      omega (arith, sum, one, own, same)

  -- a run that gives room back that no child wants
  pub keep_freed : KeepRooms runs → HasSpare runs k → y.parent ≡ x.parent → y.ended ≡ x.ended → y.children + 1 ≡ x.children → y.places ≡ x.places → KeepRooms (slice_set runs k y)
  keep_freed keep spare parent ended children places =
      let kept = keep k x was in
      let own = spare x was in
      keep_queue runs k x y keep was parent ended
      (omega (arith, own, children))
      (let q = ap (λ (b : Buffer ℕ). length b.items) places in let r = ap (λ (b : Buffer ℕ). b.capacity) places in let room = kept.room in omega (arith, q, r, room, children))
      (let r = ap (λ (b : Buffer ℕ). b.capacity) places in let few = kept.few in omega (arith, r, few))

-- a run of which one changed has room where it has
pub room_at : (runs : List Run) (k : ℕ) (x y : Run) → slice_get runs k ≡ Some x → HasRoom y → RoomAt (slice_set runs k y) k
room_at runs k x y was room = (y, set_same runs k y (slice_get_within runs k x was), room)

-- a run that ends keeps the room of each
pub rooms_stay : (runs : List Run) (k : ℕ) (x y : Run) → slice_get runs k ≡ Some x → y.children ≡ x.children → y.places ≡ x.places → (p : ℕ) → RoomAt runs p → RoomAt (slice_set runs k y) p
rooms_stay runs k x y was children places p (run, at, room) = by (nat_eq k p) refl where
  by : (b : Bool) → nat_eq k p ≡ b → RoomAt (slice_set runs k y) p
  by true e =
      let q = eqb-true k p e in
      let same = same_Some x run (sym was ∙ ap (slice_get runs) q ∙ at) in
      let c = children ∙ ap (λ (r : Run). r.children) same in
      let l = ap (λ (b : Buffer ℕ). length b.items) places ∙ ap (λ (r : Run). length r.places.items) same in
      let n = ap (λ (b : Buffer ℕ). b.capacity) places ∙ ap (λ (r : Run). r.places.capacity) same in
      (y, ap (slice_get (slice_set runs k y)) (sym q) ∙ set_same runs k y (slice_get_within runs k x was), omega (arith, room, c, l, n))
  by false e = (run, set_other runs k p y (apart_from k p e) ∙ at, room)

-- what is read at a number is what stands there
pub same_run : {A : Type 0} (xs : List A) (k : ℕ) (x z : A) → slice_get xs k ≡ Some z → slice_get xs k ≡ Some x → z ≡ x
same_run xs k x z there here_too = same_Some z x (sym there ∙ here_too)

pub one_longer_list : {A : Type 0} (xs : List A) (x : A) → length (xs ++ x ∷ []) ≡ length xs + 1
one_longer_list xs x = length-append xs (x ∷ [])

pub one_more_long : {A : Type 0} (xs : List A) (x : A) → length xs ≤ length (xs ++ x ∷ [])
one_more_long xs x = let long = length-append xs (x ∷ []) in omega (arith, long)

pub no_shorter : {A : Type 0} (xs : List A) (k : ℕ) (y : A) → length xs ≤ length (slice_set xs k y)
no_shorter xs k y = let same = length-set xs k y in omega (arith, same)

pub one_set : {A : Type 0} (xs : List A) (k : ℕ) (y : A) (p : ℕ) → p < length xs → p < length (slice_set xs k y)
one_set xs k y p less = let same = length-set xs k y in omega (arith, same, less)

pub ended_here : (runs : List Run) (k : ℕ) (x : Run) → slice_get runs k ≡ Some x → ended_at runs k ≡ false → x.ended ≡ false
ended_here runs k x was going = sym (ap (λ o. option_map_or (λ (run : Run). run.ended) o false) was) ∙ going

pub parent_here : (runs : List Run) (k : ℕ) (x : Run) → slice_get runs k ≡ Some x → (p : ℕ) → parent_at runs k ≡ Some p → x.parent ≡ Some p
parent_here runs k x was p parent = sym (ap (λ o. option_and_then (λ (run : Run). run.parent) o) was) ∙ parent

pub on_ok : {T E A B : Type 0} (r : Result T E) → (A → B) → OnOk r A → OnOk r B
on_ok (Ok x) f a = f a
on_ok (Err e) f a = a

pub less_taken : (xs : List ℕ) (children capacity : ℕ) → length xs + children ≤ capacity → length (drop 1 xs) + children ≤ capacity
less_taken [] children capacity room = room
less_taken (x ∷ xs) children capacity room = omega (arith, room)

-- nothing is taken of a run that there is not
pub take_past : (runs : List Run) (k : ℕ) → length runs ≤ k → (j : ℕ) → places_at runs j ≡ (if nat_eq k j then drop 1 (places_at runs j) else places_at runs j)
take_past runs k past j = by (nat_eq k j) refl where
  none : nat_eq k j ≡ true → places_at runs j ≡ []
  none e = ap (λ o. option_map_or (λ (run : Run). run.places.items) o []) (ap (slice_get runs) (sym (eqb-true k j e)) ∙ slice_get_past runs k past)

  by : (b : Bool) → nat_eq k j ≡ b → places_at runs j ≡ (if b then drop 1 (places_at runs j) else places_at runs j)
  by true e = none e ∙ sym (ap (drop 1) (none e))
  by false e = refl

-- what is said of each stays, where it is said of one more what is said of none
pub added_says : {A B : Type 0} (said : Option A → B) (more : A) → said (Some more) ≡ said None → (xs : List A) (k : ℕ)
    → said (slice_get (xs ++ more ∷ []) k) ≡ said (slice_get xs k)
added_says said more same [] zero = same
added_says said more same [] (suc k) = refl
added_says said more same (x ∷ xs) zero = refl
added_says said more same (x ∷ xs) (suc k) = added_says said more same xs k

-- what stands at a number, once one was added
data AtSnoc {A : Type 0} (xs : List A) (more : A) (k : ℕ) (z : A) : Type 0 where
  old_one : slice_get xs k ≡ Some z → AtSnoc xs more k z
  new_one : length xs ≤ k → more ≡ z → AtSnoc xs more k z

one_on : {A : Type 0} (x : A) (xs : List A) (more : A) (k : ℕ) (z : A) → AtSnoc xs more k z → AtSnoc (x ∷ xs) more (suc k) z
one_on x xs more k z (old_one at) = old_one at
one_on x xs more k z (new_one past is) = new_one (omega (arith, past)) is

at_snoc : {A : Type 0} (xs : List A) (more : A) (k : ℕ) (z : A) → slice_get (xs ++ more ∷ []) k ≡ Some z → AtSnoc xs more k z
at_snoc [] more zero z at = new_one (omega arith) (same_Some more z at)
at_snoc [] more (suc k) z at = absurd (none-some z at)
at_snoc (x ∷ xs) more zero z at = old_one at
at_snoc (x ∷ xs) more (suc k) z at = one_on x xs more k z (at_snoc xs more k z at)

-- one more run, to which nothing has come
module _ (runs : List Run) (idle : Run) (is : IsIdle idle) where
  told_before : (p : ℕ) → count_by (will_tell p) (runs ++ idle ∷ []) ≡ count_by (will_tell p) runs
  told_before p =
      let count = count-snoc (will_tell p) runs idle in
      let none : as_number (will_tell p idle) ≡ 0 = ap (λ o. as_number (not idle.ended && is_run p o)) is.parent ∙ never (not idle.ended) in
      omega (arith, count, none)

  one_longer : (q : ℕ) → q < length runs → q < length (runs ++ idle ∷ [])
  one_longer q less = let long = length-append runs (idle ∷ []) in omega (arith, less, long)

  -- none is told by a run that there is not
  tells_past : (xs : List Run) (p : ℕ) → ((q : ℕ) (run : Run) → slice_get xs q ≡ Some run → (r : ℕ) → run.parent ≡ Some r → r < length runs)
      → length runs ≤ p → count_by (will_tell p) xs ≡ 0
  tells_past [] p inside past = refl
  tells_past (x ∷ xs) p inside past =
      let rest = tells_past xs p (λ q run at. inside (suc q) run at) past in
      let none = never_told x.parent (inside zero x refl) (not x.ended) in
      let count = count-cons (will_tell p) x xs in
      omega (arith, rest, none, count)
    where
      never_told : (o : Option ℕ) → ((r : ℕ) → o ≡ Some r → r < length runs) → (b : Bool) → as_number (b && is_run p o) ≡ 0
      never_told None less b = never b
      never_told (Some r) less b = ap (λ c. as_number (b && c)) (not_here (nat_eq r p) refl) ∙ never b where
        not_here : (c : Bool) → nat_eq r p ≡ c → c ≡ false
        not_here true e = let same = eqb-true r p e in let inside = less r refl in absurd (omega (arith, same, inside, past))
        not_here false e = refl

  pub keep_added : KeepRooms runs → KeepRooms (runs ++ idle ∷ [])
  keep_added keep p run at = by (at_snoc runs idle p run at) where
    by : AtSnoc runs idle p run → KeepsRoom (runs ++ idle ∷ []) p run
    by (old_one at) =
        let kept = keep p run at in
        let own = kept.children in
        let same = told_before p in
        record { children = omega (arith, same, own); room = kept.room; few = kept.few; parent = λ q e. one_longer q (kept.parent q e) }
    by (new_one past same) =
        let none = tells_past runs p (λ q r at o e. (keep q r at).parent o e) past in
        let told = told_before p in
        let empty = ap (λ xs. length xs) is.places in
        let no_child = is.children in
        let small = is.capacity in
        subst (λ r. KeepsRoom (runs ++ idle ∷ []) p r) same
        (record { children = omega (arith, none, told, no_child); room = omega (arith, empty, no_child); few = omega (arith, small); parent = λ q e. absurd (none-some q (sym is.parent ∙ e)) })

-- what stands at a number that was read
pub found : {A : Type 0} (xs : List A) (i : ℕ) (x : A) → i < length xs → x ≡ slice_index_or xs i x → slice_get xs i ≡ Some x
found xs i x less is = slice_get_read xs (length xs) i x refl less is
