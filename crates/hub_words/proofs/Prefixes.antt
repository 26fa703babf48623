-- A journal read entry by entry: what is known of the entries before a place, at that place and behind it.

use Rattle.std.proofs.Common.{◌≡◌, ◌<◌, ◌≤◌, ℕ, suc, ◌+◌, Bool, true, false, ◌||◌, List, [], ◌∷◌, ◌++◌, Option, Some, None, refl, sym, ap, ◌∙◌, length, get_or, take, drop, map, cond, arith, take-append-drop, append_assoc, append-nil, length-append, ◌⊎◌, inl, inr}
use Rattle.std.specs.Prelude.{filter, slice_get, option_copied, IfSome, if◌then◌else◌}
use Rattle.std.specs.Option.{option_or}
use Rattle.std.specs.List.{list_any, enumerate_from}
use Rattle.std.proofs.Math.Bool.{or-false}
use Rattle.std.proofs.Math.Seq.{take-suc}
use denote.Bor.{Bor}
use Rattle.std.proofs.lemmas.List.{map-append, length-take-le}
use Rattle.std.proofs.lemmas.List.Elements.{filter-append}
use Rattle.std.proofs.lemmas.List.Folds.{list_any-append}
use Rattle.std.proofs.lemmas.Option.{slice_get_past}
use Rattle.job_calls.specs.declared.entry.Entry.{Entry}
use Rattle.job_calls.specs.Moments.{Moment, moments, moments_from, place_of}
use Rattle.job_calls.specs.Runs.{last_of, last_given}
use Rattle.job_calls.specs.Blocks.{last_place}
use Rattle.job_calls.specs.Events.{comes_to, arrivals}
use Rattle.hub_words.proofs.Scans.{last_given-snoc}

moments_from-append : (before xs ys : List Entry)
    → moments_from before (xs ++ ys) ≡ moments_from before xs ++ moments_from (before ++ xs) ys
moments_from-append before [] ys = ap (λ b. moments_from b ys) (sym (append-nil before))
moments_from-append before (x ∷ xs) ys =
    ap (λ rest. record { before = before; entry = x } ∷ rest)
    (moments_from-append (before ++ x ∷ []) xs ys
    ∙ ap (λ b. moments_from (before ++ x ∷ []) xs ++ moments_from b ys) (append_assoc before (x ∷ []) xs))

-- one entry more is one moment more
moments-take : (xs : List Entry) (i : ℕ) (d : Entry) → i < length xs
    → moments (take (suc i) xs) ≡ moments (take i xs) ++ record { before = take i xs; entry = get_or xs i d } ∷ []
moments-take xs i d less = ap moments (take-suc xs i d less) ∙ moments_from-append [] (take i xs) (get_or xs i d ∷ [])

-- the moment of entry d at place i of the journal
abbrev pub at : List Entry → ℕ → Entry → Moment
at xs i d = record { before = take i xs; entry = d }

moments-at : (xs : List Entry) (i : ℕ) (d : Entry) → i < length xs → d ≡ get_or xs i d
    → moments (take (suc i) xs) ≡ moments (take i xs) ++ at xs i d ∷ []
moments-at xs i d less is =
    moments-take xs i d less ∙ ap (λ e. moments (take i xs) ++ record { before = take i xs; entry = e } ∷ []) (sym is)

any-take : (f : Moment → Bool) (xs : List Entry) (i : ℕ) (d : Entry) → i < length xs → d ≡ get_or xs i d
    → list_any f (moments (take (suc i) xs)) ≡ (list_any f (moments (take i xs)) || f (at xs i d))
any-take f xs i d less is =
    ap (list_any f) (moments-at xs i d less is)
    ∙ list_any-append f (moments (take i xs)) (at xs i d ∷ [])
    ∙ ap (λ b. list_any f (moments (take i xs)) || b) (or-false (f (at xs i d)))

-- none passed before, nor does this one
pub none_more : (f : Moment → Bool) (xs : List Entry) (i n : ℕ) (d : Entry) → i < length xs → d ≡ get_or xs i d → n ≡ i + 1
    → list_any f (moments (take i xs)) ≡ false → f (at xs i d) ≡ false → list_any f (moments (take n xs)) ≡ false
none_more f xs i n d less is next none fails =
    let s : n ≡ suc i = omega arith in
    ap (λ m. list_any f (moments (take m xs))) s ∙ any-take f xs i d less is
    ∙ ap (λ b. b || f (at xs i d)) none ∙ fails

or_true : (b : Bool) → (b || true) ≡ true
or_true true = refl
or_true false = refl

split_at : (xs : List Entry) (i : ℕ)
    → moments xs ≡ moments (take (suc i) xs) ++ moments_from (take (suc i) xs) (drop (suc i) xs)
split_at xs i =
    ap moments (sym (take-append-drop (suc i) xs)) ∙ moments_from-append [] (take (suc i) xs) (drop (suc i) xs)

-- this one passes
pub one_passes : (f : Moment → Bool) (xs : List Entry) (i : ℕ) (d : Entry) → i < length xs → d ≡ get_or xs i d
    → f (at xs i d) ≡ true → list_any f (moments xs) ≡ true
one_passes f xs i d less is passes =
    let rest = moments_from (take (suc i) xs) (drop (suc i) xs) in
    ap (list_any f) (split_at xs i)
    ∙ list_any-append f (moments (take (suc i) xs)) rest
    ∙ ap (λ b. b || list_any f rest) (any-take f xs i d less is ∙ ap (λ b. list_any f (moments (take i xs)) || b) passes ∙ or_true _)

-- what was last given by the moments, one more looked at
pub given-take : {B : Type 0} (give : Moment → Option B) (xs : List Entry) (i n : ℕ) (d : Entry) → i < length xs → d ≡ get_or xs i d → n ≡ i + 1
    → last_given give (moments (take n xs)) ≡ last_of (last_given give (moments (take i xs))) (give (at xs i d))
given-take give xs i n d less is next =
    let s : n ≡ suc i = omega arith in
    ap (λ m. last_given give (moments (take m xs))) s
    ∙ ap (last_given give) (moments-at xs i d less is)
    ∙ last_given-snoc give (moments (take i xs)) (at xs i d)

-- one event more, or none
abbrev pub arrived : ℕ → List Entry → ℕ → Entry → List ℕ
arrived r xs i d = if comes_to r (at xs i d) then i ∷ [] else []

one_or_none : (f : Moment → Bool) (m : Moment) → map place_of (filter f (m ∷ [])) ≡ (if f m then place_of m ∷ [] else [])
one_or_none f m = elim (f m) as (λ b. map place_of (cond b (m ∷ []) []) ≡ cond b (place_of m ∷ []) []) [ true ↦ refl | false ↦ refl ]

arrivals-suc : (r : ℕ) (xs : List Entry) (i : ℕ) (d : Entry) → i < length xs → d ≡ get_or xs i d
    → arrivals r (take (suc i) xs) ≡ arrivals r (take i xs) ++ arrived r xs i d
arrivals-suc r xs i d less is =
    ap (λ ms. map place_of (filter (comes_to r) ms)) (moments-at xs i d less is)
    ∙ ap (map place_of) (filter-append (comes_to r) (moments (take i xs)) (at xs i d ∷ []))
    ∙ map-append place_of (filter (comes_to r) (moments (take i xs))) (filter (comes_to r) (at xs i d ∷ []))
    ∙ ap (λ more. arrivals r (take i xs) ++ more) (
    one_or_none (comes_to r) (at xs i d)
    ∙ ap (λ n. if comes_to r (at xs i d) then n ∷ [] else []) (length-take-le i xs (omega (arith, less)))
    )

pub arrivals-take : (r : ℕ) (xs : List Entry) (i n : ℕ) (d : Entry) → i < length xs → d ≡ get_or xs i d → n ≡ i + 1
    → arrivals r (take n xs) ≡ arrivals r (take i xs) ++ arrived r xs i d
arrivals-take r xs i n d less is next =
    let s : n ≡ suc i = omega arith in ap (λ m. arrivals r (take m xs)) s ∙ arrivals-suc r xs i d less is

length_one : (b : Bool) (i : ℕ) → length (if b then i ∷ [] else []) ≡ (if b then 1 else 0)
length_one true i = refl
length_one false i = refl

pub length-arrivals-take : (r : ℕ) (xs : List Entry) (i n : ℕ) (d : Entry) → i < length xs → d ≡ get_or xs i d → n ≡ i + 1
    → length (arrivals r (take n xs)) ≡ length (arrivals r (take i xs)) + (if comes_to r (at xs i d) then 1 else 0)
length-arrivals-take r xs i n d less is next =
    ap (λ places. length places) (arrivals-take r xs i n d less is next)
    ∙ length-append (arrivals r (take i xs)) (arrived r xs i d)
    ∙ ap (λ m. length (arrivals r (take i xs)) + m) (length_one (comes_to r (at xs i d)) i)

append_one : (before : List ℕ) (i : ℕ) (behind : List ℕ) → before ++ i ∷ [] ++ behind ≡ before ++ i ∷ behind
append_one before i behind = append_assoc before (i ∷ []) behind

get_behind : {A : Type 0} (xs : List A) (y : A) (ys : List A) → slice_get (xs ++ y ∷ ys) (length xs) ≡ Some y
get_behind [] y ys = refl
get_behind (x ∷ xs) y ys = get_behind xs y ys

-- the place is that of the next event
pub arrival-here : (r : ℕ) (xs : List Entry) (i number : ℕ) (d : Entry) → i < length xs → d ≡ get_or xs i d
    → length (arrivals r (take i xs)) ≡ number → comes_to r (at xs i d) ≡ true → slice_get (arrivals r xs) number ≡ Some i
arrival-here r xs i number d less is so_far comes =
    let rest = moments_from (take (suc i) xs) (drop (suc i) xs) in
    let before = arrivals r (take i xs) in
    let behind = map place_of (filter (comes_to r) rest) in
    let whole : arrivals r xs ≡ before ++ i ∷ behind =
    ap (λ ms. map place_of (filter (comes_to r) ms)) (split_at xs i)
    ∙ ap (map place_of) (filter-append (comes_to r) (moments (take (suc i) xs)) rest)
    ∙ map-append place_of (filter (comes_to r) (moments (take (suc i) xs))) (filter (comes_to r) rest)
    ∙ ap (λ places. places ++ behind) (arrivals-suc r xs i d less is ∙ ap (λ b. before ++ (if b then i ∷ [] else [])) comes)
    ∙ append_one before i behind in
    ap (λ places. slice_get places number) whole
    ∙ ap (slice_get (before ++ i ∷ behind)) (sym so_far)
    ∙ get_behind before i behind

-- there are not so many events
pub no_arrival : (r : ℕ) (xs : List Entry) (number : ℕ) → length (arrivals r xs) ≤ number → slice_get (arrivals r xs) number ≡ None
no_arrival r xs number less = slice_get_past (arrivals r xs) number less

within_later : (a b : Option ℕ) (m : ℕ) → IfSome a (λ p. p < m) → IfSome b (λ p. p < m) → IfSome (last_of a b) (λ p. p < m)
within_later a None m h k = h
within_later a (Some p) m h k = k

place_within : {A : Type 0} → (test : A → Bool) (n : ℕ) (xs : List A) (m : ℕ) → n + length xs ≤ m
    → IfSome (last_given (λ (p : ℕ × A). if test p.1 then Some p.0 else None) (enumerate_from n xs)) (λ p. p < m)
place_within {A = A} test n [] m h = tt
place_within {A = A} test n (x ∷ xs) m h =
    within_later (if test x then Some n else None) (last_given (λ (p : ℕ × A). if test p.1 then Some p.0 else None) (enumerate_from (n + 1) xs)) m
    (elim (test x) as (λ b. IfSome (if b then Some n else None) (λ p. p < m)) [ true ↦ omega (arith, h) | false ↦ tt ])
    (place_within test (n + 1) xs m (omega (arith, h)))

-- the last place that passes is one of the list
pub last_within : {A : Type 0} → (test : A → Bool) (xs : List A)
    → IfSome (last_given (λ (p : ℕ × A). if test p.1 then Some p.0 else None) (enumerate_from 0 xs)) (λ p. p < length xs)
last_within {A = A} test xs = place_within test 0 xs (length xs) (omega arith)

pub one_at_most : (b : Bool) → (if b then 1 else 0) ≤ 1
one_at_most true = omega arith
one_at_most false = omega arith

-- what was last given by a list's elements, one more looked at
pub list_given-take : {A B : Type 0} (give : A → Option B) (xs : List A) (i n : ℕ) (d : A) → i < length xs → d ≡ get_or xs i d → n ≡ i + 1
    → last_given give (take n xs) ≡ last_of (last_given give (take i xs)) (give d)
list_given-take give xs i n d less is next =
    let s : n ≡ suc i = omega arith in
    ap (λ m. last_given give (take m xs)) s
    ∙ ap (last_given give) (take-suc xs i d less ∙ ap (λ e. take i xs ++ e ∷ []) (sym is))
    ∙ last_given-snoc give (take i xs) d

places-take : {A : Type 0} (n : ℕ) (xs : List A) (e : A) → enumerate_from n (xs ++ e ∷ []) ≡ enumerate_from n xs ++ (n + length xs, e) ∷ []
places-take n [] e = let s : n ≡ n + 0 = omega arith in ap (λ m. (m, e) ∷ []) s
places-take n (x ∷ xs) e =
    let s : (n + 1) + length xs ≡ n + suc (length xs) = omega arith in
    ap (λ rest. (n, x) ∷ rest) (places-take (n + 1) xs e ∙ ap (λ m. enumerate_from (n + 1) xs ++ (m, e) ∷ []) s)

-- the last place that passes, one more entry looked at
pub place-take : (test : Entry → Bool) (xs : List Entry) (i n : ℕ) (d : Entry) → i < length xs → d ≡ get_or xs i d → n ≡ i + 1
    → last_place test (take n xs) ≡ last_of (last_place test (take i xs)) (if test d then Some i else None)
place-take test xs i n d less is next =
    let give : ℕ × Entry → Option ℕ = λ p. if test p.1 then Some p.0 else None in
    let s : n ≡ suc i = omega arith in
    let long = length-take-le i xs (omega (arith, less)) in
    let here : 0 + length (take i xs) ≡ i = omega (arith, long) in
    ap (λ m. last_place test (take m xs)) s
    ∙ ap (last_place test) (take-suc xs i d less ∙ ap (λ e. take i xs ++ e ∷ []) (sym is))
    ∙ ap (last_given give) (places-take 0 (take i xs) d)
    ∙ last_given-snoc give (enumerate_from 0 (take i xs)) (0 + length (take i xs), d)
    ∙ ap (λ m. last_of (last_place test (take i xs)) (if test d then Some m else None)) here

pub or-copied : {A : Type 0} (a b : Option (Bor A)) → option_copied (option_or b a) ≡ last_of (option_copied a) (option_copied b)
or-copied a None = refl
or-copied a (Some x) = refl

true_is_not_false : true ≡ false → ⊥
true_is_not_false h = cc

-- where one is taken away there is one
pub enough : (b : Bool) (one left : ℕ) → one ≡ (if b then 1 else 0) → ((b ≡ true) × (left ≡ 0 → ⊥)) ⊎ (b ≡ false) → one ≤ left
enough true one left is (inl h) = let n = h.1 in omega (arith, is, n)
enough true one left is (inr h) = absurd (true_is_not_false h)
enough false one left is h = omega (arith, is)
