-- how many integers a range has, and which comes first
use Rattle.std.proofs.Common.{◌≡◌, ℕ, zero, suc, ◌<◌, ◌≤◌, ℤ, pos, negsuc, ◌+ℤ◌, ◌-ℤ◌, Bool, true, false, List, [], ◌∷◌, ◌++◌, length, refl, ap, sym, ◌∙◌, arith, inl, inr, append_assoc, length-append}
use Rattle.std.specs.Prelude.{◌≤ℤ◌, ◌<ℤ◌, ◌⊎◌, int_lt}
use Rattle.std.proofs.lemmas.Int.{ints}
use Rattle.std.proofs.lemmas.List.{append-nil}
use Rattle.mos_text.specs.declared.scalar.Scalar.{Scalar}
use Rattle.mos_text.specs.declared.scalar.Scalar.TheVariants.{Int}
use Rattle.mos_value.specs.Values.{at_least_zero, integers_from}
use Rattle.mos_value.specs.Ranges.{range_count, range_members}

pub length-integers_from : (n : ℤ) (many : ℕ) → length (integers_from n many) ≡ many
length-integers_from n zero = refl
length-integers_from n (suc many) = ap suc (length-integers_from (n +ℤ pos 1) many)

-- one behind the last, where there are any
pub count_end : (first last : ℤ) → first ≤ℤ last → first +ℤ pos (range_count first last) ≡ last +ℤ pos 1
count_end first last h = by (last -ℤ first +ℤ pos 1) refl
  where
    by : (z : ℤ) → last -ℤ first +ℤ pos 1 ≡ z → first +ℤ pos (at_least_zero z) ≡ last +ℤ pos 1
    by (pos n) e = omega (arith, ints)
    by (negsuc n) e = absurd (omega (arith, ints))

pub count_none : (first last : ℤ) → last <ℤ first → range_count first last ≡ 0
count_none first last h = by (last -ℤ first +ℤ pos 1) refl
  where
    by : (z : ℤ) → last -ℤ first +ℤ pos 1 ≡ z → at_least_zero z ≡ 0
    by (pos n) e = omega (arith, ints)
    by (negsuc n) e = refl

pub below_or_not : (a b : ℤ) → (a <ℤ b) ⊎ (b ≤ℤ a)
below_or_not a b = by (int_lt a b) refl
  where
    by : (r : Bool) → int_lt a b ≡ r → (a <ℤ b) ⊎ (b ≤ℤ a)
    by true e = inl (grind (arith, ints))
    by false e = inr (grind (arith, ints))

-- the first of them, where there are any, and then the rest
count-first : (first last : ℤ) → first ≤ℤ last → range_count first last ≡ suc (range_count (first +ℤ pos 1) last)
count-first first last h = by (last -ℤ first +ℤ pos 1) refl
  where
    by : (z : ℤ) → last -ℤ first +ℤ pos 1 ≡ z → at_least_zero z ≡ suc (range_count (first +ℤ pos 1) last)
    by (pos zero) e = absurd (omega (arith, ints))
    by (pos (suc n)) e =
        let rest : last -ℤ (first +ℤ pos 1) +ℤ pos 1 ≡ pos n = omega (arith, ints) in
        ap suc (sym (ap at_least_zero rest))
    by (negsuc n) e = absurd (omega (arith, ints))

count_first_above : (first last : ℤ) → first ≤ℤ last → 0 < range_count first last
count_first_above first last h = let e = count-first first last h in omega (arith, e)

pub range_members-first : (first last : ℤ) → first ≤ℤ last → range_members first last ≡ Int first ∷ range_members (first +ℤ pos 1) last
range_members-first first last h = ap (integers_from first) (count-first first last h)

pub range_members-none : (first last : ℤ) → last <ℤ first → range_members first last ≡ []
range_members-none first last h = ap (integers_from first) (count_none first last h)

-- one integer
pub range_members-one : (n : ℤ) → range_members n n ≡ Int n ∷ []
range_members-one n =
    range_members-first n n (omega (arith, ints)) ∙ ap (λ rest. Int n ∷ rest) (range_members-none (n +ℤ pos 1) n (omega (arith, ints)))

integers_from-last : (n : ℤ) (many : ℕ) → integers_from n (suc many) ≡ integers_from n many ++ Int (n +ℤ pos many) ∷ []
integers_from-last n zero = let same : n ≡ n +ℤ pos 0 = omega (arith, ints) in ap (λ m. Int m ∷ []) same
integers_from-last n (suc many) =
    let same : (n +ℤ pos 1) +ℤ pos many ≡ n +ℤ pos (suc many) = omega (arith, ints) in
    ap (λ rest. Int n ∷ rest) (integers_from-last (n +ℤ pos 1) many)
    ∙ ap (λ m. (Int n ∷ integers_from (n +ℤ pos 1) many) ++ Int m ∷ []) same

-- the integers up to the next one are those before it, and it behind them
pub range_members-last : (first last next : ℤ) → first ≤ℤ last → next ≡ last +ℤ pos 1
    → range_members first next ≡ range_members first last ++ Int next ∷ []
range_members-last first last next some is =
    let end = count_end first last some in
    let further = count_end first next (omega (arith, ints, some, is)) in
    let more : range_count first next ≡ suc (range_count first last) = omega (arith, ints, end, further, is) in
    ap (integers_from first) more
    ∙ (integers_from-last first (range_count first last) ∙ ap (λ m. range_members first last ++ Int m ∷ []) (end ∙ sym is))

pub length-range_members : (first last : ℤ) → length (range_members first last) ≡ range_count first last
length-range_members first last = length-integers_from first (range_count first last)

-- one more of them is there, and the rest follows
pub range-step : (members after : List Scalar) (first last n next x : ℤ) → n ≤ℤ last → next ≡ n +ℤ pos 1 → x ≡ n
    → after ≡ members ++ Int x ∷ [] → members ++ range_members n last ≡ range_members first last → after ++ range_members next last ≡ range_members first last
range-step members after first last n next x some e same added so_far =
    (λ i. added i ++ range_members (e i) last)
    ∙ (append_assoc members (Int x ∷ []) (range_members (n +ℤ pos 1) last)
    ∙ (ap (λ y. members ++ Int y ∷ range_members (n +ℤ pos 1) last) same ∙ (ap (λ rest. members ++ rest) (sym (range_members-first n last some)) ∙ so_far)))

-- behind the last one all are there
pub range-end : (members : List Scalar) (first last n : ℤ) → last <ℤ n
    → members ++ range_members n last ≡ range_members first last → members ≡ range_members first last
range-end members first last n behind so_far =
    sym (append-nil members) ∙ (ap (λ rest. members ++ rest) (sym (range_members-none n last behind)) ∙ so_far)

-- so many are there already that one more is still among them
pub range-room : (members : List Scalar) (first last n x : ℤ) → n ≤ℤ last → members ++ range_members n last ≡ range_members first last
    → length (members ++ Int x ∷ []) ≤ length (range_members first last)
range-room members first last n x some so_far =
    let first_of_rest = ap length (range_members-first n last some) in
    omega (arith, length-append members (Int x ∷ []), length-append members (range_members n last), ap length so_far, first_of_rest)

-- two ranges have the same integers where both have none, or the same bounds
pub same-none : (a b c d : ℤ) → b <ℤ a → d <ℤ c → range_members a b ≡ range_members c d
same-none a b c d ab cd = range_members-none a b ab ∙ sym (range_members-none c d cd)

abbrev head_or : ℤ → List Scalar → ℤ
head_or d (Int x ∷ rest) = x
head_or d rest = d

-- and nowhere else
pub same-bounds : (a b c d : ℤ) → range_members a b ≡ range_members c d → ((b <ℤ a) × (d <ℤ c)) ⊎ ((a ≡ c) × (b ≡ d))
same-bounds a b c d e = by (below_or_not b a) (below_or_not d c)
  where
    many : range_count a b ≡ range_count c d
    many = sym (length-range_members a b) ∙ (ap length e ∙ length-range_members c d)

    by : (b <ℤ a) ⊎ (a ≤ℤ b) → (d <ℤ c) ⊎ (c ≤ℤ d) → ((b <ℤ a) × (d <ℤ c)) ⊎ ((a ≡ c) × (b ≡ d))
    by (inl none) (inl none') = inl (none, none')
    by (inl none) (inr some) =
        let e' = count_none a b none in let g = count_first_above c d some in absurd (omega (arith, e', g, many))
    by (inr some) (inl none) =
        let e' = count_none c d none in let g = count_first_above a b some in absurd (omega (arith, e', g, many))
    by (inr some) (inr some') =
        let heads : a ≡ c = ap (head_or a) (sym (range_members-first a b some) ∙ (e ∙ range_members-first c d some')) in
        let ends = count_end a b some in
        let ends' = count_end c d some' in
        inr (heads, omega (arith, ints, ends, ends', many, heads))

pub below_if : (x y : ℤ) → int_lt x y ≡ true → x <ℤ y
below_if x y h = grind (arith, ints)

pub not_below_if : (x y : ℤ) → int_lt x y ≡ false → y ≤ℤ x
not_below_if x y h = grind (arith, ints)

if_below : (x y : ℤ) → x <ℤ y → int_lt x y ≡ true
if_below x y h = grind (arith, ints)

-- where one has none, the other has the same where it has none
pub same-if_none : (a b c d c' d' : ℤ) → c' ≡ c → d' ≡ d → b <ℤ a
    → (int_lt d' c' ≡ true → range_members a b ≡ range_members c d) × (range_members a b ≡ range_members c d → int_lt d' c' ≡ true)
same-if_none a b c d c' d' ec ed none = (to, from)
  where
    to : int_lt d' c' ≡ true → range_members a b ≡ range_members c d
    to h = let below = below_if d' c' h in same-none a b c d none (omega (arith, ints, below, ec, ed))

    below_as : ((b <ℤ a) × (d <ℤ c)) ⊎ ((a ≡ c) × (b ≡ d)) → d' <ℤ c'
    below_as (inl w) = omega (arith, ints, w.1, ec, ed)
    below_as (inr w) = omega (arith, ints, none, w.0, w.1, ec, ed)

    from : range_members a b ≡ range_members c d → int_lt d' c' ≡ true
    from e = if_below d' c' (below_as (same-bounds a b c d e))
