-- Lists: sums over views, the entries of a lane, and beginnings.
use Rattle.std.proofs.Common.{◌≡◌, ◌≢◌, ℕ, zero, suc, ◌+◌, ◌<◌, ◌≤◌, Bool, cond, eqb, eq-eqb, ne_eqb, List, [], ◌∷◌, ◌++◌, All, length, set, sum_by, slice_get, ◌⊎◌, inl, inr, ⊎_elim, refl, sym, ap, ◌∙◌, append_assoc, append-nil, arith}
use Rattle.std.proofs.lemmas.List.{append_cancel_left, length-append}
use Rattle.std.proofs.lemmas.List.Sums.{sum_by-cons}
use Rattle.std.proofs.lemmas.List.Elements.{filter-append, All-head, All-tail}
use mathlib.Core.Option.{some, some-injective, some-ne-none}
use lib.ListN.{get_elem?}
use Rattle.hub_lock.specs.LaneEntries.{entries_of, StartsWith}

module _ {A : Type 0} (f : A → ℕ) where
  -- a sum after a change of one part
  pub sum_by-set_at : (l : List A) (i : ℕ) (v w : A) → get_elem? l i ≡ some v → sum_by f (set l i w) + f v ≡ sum_by f l + f w
  sum_by-set_at [] i v w e = absurd (some-ne-none v (sym e))
  sum_by-set_at (x ∷ xs) zero v w e = let h : f x ≡ f v = ap f (some-injective x v e) in omega (arith, sum_by-cons f w xs, sum_by-cons f x xs)
  sum_by-set_at (x ∷ xs) (suc i) v w e = let h = sum_by-set_at xs i v w e in omega (arith, sum_by-cons f x (set xs i w), sum_by-cons f x xs)

  -- a part is at most the sum
  pub sum_by-at : (l : List A) (i : ℕ) (v : A) → get_elem? l i ≡ some v → f v ≤ sum_by f l
  sum_by-at [] i v e = absurd (some-ne-none v (sym e))
  sum_by-at (x ∷ xs) zero v e = let h : f x ≡ f v = ap f (some-injective x v e) in omega (arith, sum_by-cons f x xs)
  sum_by-at (x ∷ xs) (suc i) v e = let h = sum_by-at xs i v e in omega (arith, sum_by-cons f x xs)

  -- parts of at most 1 make at most the length
  pub sum_by-most : ((x : A) → f x ≤ 1) → (l : List A) → sum_by f l ≤ length l
  sum_by-most h [] = omega arith
  sum_by-most h (x ∷ xs) = let a = sum_by-most h xs in let b = h x in omega (arith, sum_by-cons f x xs)

  -- a sum of which all parts are 0
  pub sum_by-none : (l : List A) → ((j : ℕ) (w : A) → get_elem? l j ≡ some w → f w ≡ 0) → sum_by f l ≡ 0
  sum_by-none [] h = refl
  sum_by-none (x ∷ xs) h = let first = h 0 x refl in let rest = sum_by-none xs (λ j w at. h (suc j) w at) in omega (arith, sum_by-cons f x xs)

  abbrev Part : List A → Type 0
  Part l = (j : ℕ) × (v : A) × (get_elem? l j ≡ some v) × (0 < f v)

  some_of : (x : A) (xs : List A) → (0 < sum_by f xs → Part xs) → 0 < sum_by f (x ∷ xs) → (n : ℕ) → f x ≡ n → Part (x ∷ xs)
  some_of x xs more h (suc n) e = (0, x, refl, omega arith)
  some_of x xs more h zero e = let r = more (omega (arith, sum_by-cons f x xs)) in (suc r.0, r.1, r.2, r.3)

  -- a sum that is not 0 has a part that is not 0
  pub sum_by-some : (l : List A) → 0 < sum_by f l → Part l
  sum_by-some [] h = absurd (omega arith)
  sum_by-some (x ∷ xs) h = some_of x xs (sum_by-some xs) h (f x) refl

module _ {A : Type 0} (f : A → ℕ) where
  -- a sum of which all parts but one are 0
  pub sum_by-one : (l : List A) (i : ℕ) (v : A) → get_elem? l i ≡ some v → ((j : ℕ) (w : A) → j ≢ i → get_elem? l j ≡ some w → f w ≡ 0) → sum_by f l ≡ f v
  sum_by-one [] i v e h = absurd (some-ne-none v (sym e))
  sum_by-one (x ∷ xs) zero v e h =
      let is : f x ≡ f v = ap f (some-injective x v e) in
      let rest = sum_by-none f xs (λ j w at. h (suc j) w (λ q. absurd (omega arith)) at) in omega (arith, sum_by-cons f x xs)
  sum_by-one (x ∷ xs) (suc i) v e h =
      let first = h 0 x (λ q. absurd (omega arith)) refl in
      let rest = sum_by-one xs i v e (λ j w ne at. h (suc j) w (λ q. ne (omega arith)) at) in omega (arith, sum_by-cons f x xs)

append_nil_left : {A : Type 0} (xs ys : List A) → xs ++ ys ≡ [] → xs ≡ []
append_nil_left [] ys e = refl
append_nil_left (x ∷ xs) ys e = let h : length ((x ∷ xs) ++ ys) ≡ 0 = ap length e in absurd (omega arith)

module _ {E : Type 0} (lane_of : E → ℕ) where
  pub of-append : (lane : ℕ) (xs ys : List E) → entries_of lane_of lane (xs ++ ys) ≡ entries_of lane_of lane xs ++ entries_of lane_of lane ys
  of-append lane xs ys = filter-append (λ e. eqb (lane_of e) lane) xs ys

  -- an entry of another lane adds nothing
  pub of-other : (lane : ℕ) (xs : List E) (e : E) → lane_of e ≢ lane → entries_of lane_of lane (xs ++ e ∷ []) ≡ entries_of lane_of lane xs
  of-other lane xs e ne = of-append lane xs (e ∷ []) ∙ ap (λ (b : Bool). entries_of lane_of lane xs ++ cond b (e ∷ []) []) (ne_eqb (lane_of e) lane ne) ∙ append-nil (entries_of lane_of lane xs)

  pub of-own : (lane : ℕ) (xs : List E) (e : E) → lane_of e ≡ lane → entries_of lane_of lane (xs ++ e ∷ []) ≡ entries_of lane_of lane xs ++ e ∷ []
  of-own lane xs e is = of-append lane xs (e ∷ []) ∙ ap (λ (b : Bool). entries_of lane_of lane xs ++ cond b (e ∷ []) []) (eq-eqb (lane_of e) lane is)

  -- a list of entries of one lane
  pub of-all : (lane : ℕ) (xs : List E) → All (λ e. lane_of e ≡ lane) xs → entries_of lane_of lane xs ≡ xs
  of-all lane [] h = refl
  of-all lane (x ∷ xs) h = ap (λ (b : Bool). cond b (x ∷ entries_of lane_of lane xs) (entries_of lane_of lane xs)) (eq-eqb (lane_of x) lane (All-head (λ e. lane_of e ≡ lane) x xs h)) ∙ ap (λ (l : List E). x ∷ l) (of-all lane xs (All-tail (λ e. lane_of e ≡ lane) x xs h))

  pub of-none : (lane other : ℕ) → lane ≢ other → (xs : List E) → All (λ e. lane_of e ≡ lane) xs → entries_of lane_of other xs ≡ []
  of-none lane other ne [] h = refl
  of-none lane other ne (x ∷ xs) h = let is = All-head (λ e. lane_of e ≡ lane) x xs h in
      ap (λ (b : Bool). cond b (x ∷ entries_of lane_of other xs) (entries_of lane_of other xs)) (ne_eqb (lane_of x) other (λ e. ne (sym is ∙ e))) ∙ of-none lane other ne xs (All-tail (λ e. lane_of e ≡ lane) x xs h)

  -- what came after has no entry of a lane whose entries had all been seen
  pub of-between : (lane : ℕ) (log seen between : List E) → log ≡ seen ++ between → entries_of lane_of lane log ≡ entries_of lane_of lane seen → entries_of lane_of lane between ≡ []
  of-between lane log seen between e own =
      append_cancel_left (entries_of lane_of lane seen) (entries_of lane_of lane between) [] (sym (of-append lane seen between) ∙ ap (entries_of lane_of lane) (sym e) ∙ own ∙ sym (append-nil (entries_of lane_of lane seen)))

  -- what is seen of a list has no entry of a lane of which the list has none
  pub unseen : (lane : ℕ) (log seen : List E) → StartsWith log seen → entries_of lane_of lane log ≡ [] → entries_of lane_of lane seen ≡ []
  unseen lane log seen s none = append_nil_left (entries_of lane_of lane seen) (entries_of lane_of lane s.0) (sym (of-append lane seen s.0) ∙ ap (entries_of lane_of lane) (sym s.1) ∙ none)

module _ {E : Type 0} where
  pub starts_longer : (log seen more : List E) → StartsWith log seen → StartsWith (log ++ more) seen
  starts_longer log seen more s = (s.0 ++ more, ap (λ (l : List E). l ++ more) s.1 ∙ append_assoc seen s.0 more)

  pub starts_whole : (log seen : List E) → seen ≡ log → StartsWith log seen
  starts_whole log seen e = ([], sym e ∙ sym (append-nil seen))

  -- the first entry stays
  pub first-append : (xs ys : List E) → 0 < length xs → slice_get (xs ++ ys) 0 ≡ slice_get xs 0
  first-append [] ys h = absurd (omega arith)
  first-append (x ∷ xs) ys h = refl

  pub length-one_more : (xs : List E) (e : E) → length (xs ++ e ∷ []) ≡ length xs + 1
  length-one_more xs e = length-append xs (e ∷ [])

-- the last item of a longer list, or an earlier one
pub at_pushed : {A : Type 0} (l : List A) (a b : A) (j : ℕ) → get_elem? (l ++ a ∷ []) j ≡ some b → (get_elem? l j ≡ some b) ⊎ ((j ≡ length l) × (a ≡ b))
at_pushed [] a b zero e = inr (refl, some-injective a b e)
at_pushed [] a b (suc j) e = absurd (some-ne-none b (sym e))
at_pushed (x ∷ xs) a b zero e = inl e
at_pushed (x ∷ xs) a b (suc j) e = ⊎_elim (λ (h : get_elem? xs j ≡ some b). inl h) (λ (h : (j ≡ length xs) × (a ≡ b)). let i = h.0 in inr (omega arith, h.1)) (at_pushed xs a b j e)

pub at_less : {A : Type 0} (l : List A) (i : ℕ) (a : A) → get_elem? l i ≡ some a → i < length l
at_less [] i a e = absurd (some-ne-none a (sym e))
at_less (x ∷ xs) zero a e = omega arith
at_less (x ∷ xs) (suc i) a e = let h = at_less xs i a e in omega arith
