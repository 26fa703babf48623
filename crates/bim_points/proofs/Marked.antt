-- The table of marks, as it grows instruction by instruction.

use Rattle.std.proofs.Common.{◌≡◌, ◌<◌, ℕ, zero, suc, ◌+◌, Bool, true, false, List, [], ◌∷◌, Option, Some, None, refl, sym, ap, ◌∙◌, length, drop, get_or, replicate, set, nat_eq, nat_lt, arith, subst}
use Rattle.std.proofs.lemmas.Option.{unwrap_or-slice_get}
use Rattle.std.specs.Prelude.{Result, Ok, Err, IfOk, ◌||◌, slice_get, unwrap_or, if◌then◌else◌}
use Rattle.std.proofs.lemmas.Bool.Decides.{nat_tests}
use Rattle.std.proofs.lemmas.List.{get_or-replicate, get_or-set_same, get_or-set_other, length-set}
use Rattle.bim_code.specs.declared.instruction.Instruction.{Instruction}
use Rattle.bim_code.specs.declared.instruction.Instruction.TheVariants.{Tick}
use Rattle.bim_code.specs.declared.image.Point.{Point}
use Rattle.bim_code.specs.Code.{code_size}
use Rattle.bim_code.specs.Rows.{width, named_address}
use Rattle.bim_points.specs.Marks.{is_marked, with_mark, with_mark_at, with_marks_of, Marks}
use Rattle.bim_points.specs.Wanted.{is_at, behind, wants, is_wanted, is_wanted_from, empty_point, empty_points}

or_false : (s : Bool) → (s || false) ≡ s
or_false true = refl
or_false false = refl

or_assoc : (s t u v : Bool) → (((s || t) || u) || v) ≡ (s || ((t || u) || v))
or_assoc true t u v = refl
or_assoc false t u v = refl

or_true : (s : Bool) → (s || true) ≡ true
or_true true = refl
or_true false = refl

-- a mark more
with_one : (marks : List Bool) (n a : ℕ) → a < length marks → is_marked (with_mark marks n) a ≡ (is_marked marks a || nat_eq n a)
with_one marks n a within = by (nat_eq n a) refl
  where
    others : nat_eq n a ≡ false → (t : Bool) → is_marked (if t then set marks n true else marks) a ≡ is_marked marks a
    others apart true = get_or-set_other marks n a true false (λ e. differ e)
      where
        differ : a ≡ n → ⊥
        differ e = grind (arith, nat_tests, apart, e)
    others apart false = refl

    by : (t : Bool) → nat_eq n a ≡ t → is_marked (with_mark marks n) a ≡ (is_marked marks a || t)
    by true e =
        let same : n ≡ a = grind (arith, nat_tests, e) in
        let inside : nat_lt a (length marks) ≡ true = grind (arith, nat_tests, within) in
        rw (same, inside) (get_or-set_same marks a true false within ∙ sym (or_true (is_marked marks a)))
    by false e = others e (nat_lt n (length marks)) ∙ sym (or_false (is_marked marks a))

mark_long : (marks : List Bool) (n : ℕ) → length (with_mark marks n) ≡ length marks
mark_long marks n = by (nat_lt n (length marks))
  where
    by : (t : Bool) → length (if t then set marks n true else marks) ≡ length marks
    by true = length-set marks n true
    by false = refl

at_long : (marks : List Bool) (o : Option ℕ) → length (with_mark_at marks o) ≡ length marks
at_long marks None = refl
at_long marks (Some n) = mark_long marks n

pub as_long : (marks : List Bool) (at : ℕ) (i : Instruction) → length (with_marks_of marks at i) ≡ length marks
as_long marks at i = at_long (with_mark_at marks (named_address i)) (behind at i) ∙ at_long marks (named_address i)

with_one_at : (marks : List Bool) (o : Option ℕ) (a : ℕ) → a < length marks → is_marked (with_mark_at marks o) a ≡ (is_marked marks a || is_at o a)
with_one_at marks None a within = sym (or_false (is_marked marks a))
with_one_at marks (Some n) a within = with_one marks n a within

-- those of an instruction
pub one_more : (marks : List Bool) (at : ℕ) (i : Instruction) (a : ℕ) (later : Bool) → a < length marks
    → (is_marked (with_marks_of marks at i) a || later) ≡ (is_marked marks a || (wants at i a || later))
one_more marks at i a later within =
    let long = at_long marks (named_address i) in
    ap (λ (t : Bool). t || later)
    (with_one_at (with_mark_at marks (named_address i)) (behind at i) a (omega (arith, within, long))
    ∙ ap (λ (t : Bool). t || is_at (behind at i) a) (with_one_at marks (named_address i) a within))
    ∙ or_assoc (is_marked marks a) (is_at (named_address i) a) (is_at (behind at i) a) later

-- one instruction further in the code
next_at : (code : List Instruction) (k : ℕ) → k < length code → drop k code ≡ get_or code k Tick ∷ drop (suc k) code
next_at [] k less = absurd (omega (arith, less))
next_at (i ∷ is) zero less = refl
next_at (i ∷ is) (suc k) less = next_at is k (omega (arith, less))

split_at : (code : List Instruction) (k : ℕ) → k < length code → drop k code ≡ get_or code k Tick ∷ drop (k + 1) code
split_at code k less =
    let one : suc k ≡ k + 1 = omega arith in
    subst (λ (n : ℕ). drop k code ≡ get_or code k Tick ∷ drop n code) one (next_at code k less)

pub placed_on : (code : List Instruction) (k place w : ℕ) → k < length code → place + code_size (drop k code) ≡ code_size code
    → w ≡ width (get_or code k Tick) → (place + w) + code_size (drop (k + 1) code) ≡ code_size code
placed_on code k place w less placed wide = let sizes = ap code_size (split_at code k less) in omega (arith, placed, wide, sizes)

pub told_on : (code : List Instruction) (k place w : ℕ) (marks next : List Bool) → k < length code → next ≡ with_marks_of marks place (get_or code k Tick)
    → w ≡ width (get_or code k Tick)
    → ((a : ℕ) → a < length marks → (is_marked marks a || is_wanted_from place (drop k code) a) ≡ is_wanted code a)
    → (a : ℕ) → a < length next → (is_marked next a || is_wanted_from (place + w) (drop (k + 1) code) a) ≡ is_wanted code a
told_on code k place w marks next less marked wide tells a within =
    let long = ap length marked ∙ as_long marks place (get_or code k Tick) in
    let inside : a < length marks = omega (arith, within, long) in
    ap (λ (all : List Bool). is_marked all a || is_wanted_from (place + w) (drop (k + 1) code) a) marked
    ∙ ap (λ (n : ℕ). is_marked (with_marks_of marks place (get_or code k Tick)) a || is_wanted_from (place + n) (drop (k + 1) code) a) wide
    ∙ one_more marks place (get_or code k Tick) a (is_wanted_from (place + width (get_or code k Tick)) (drop (k + 1) code) a) inside
    ∙ or_pair (is_marked marks a) (wants place (get_or code k Tick) a) (is_wanted_from (place + width (get_or code k Tick)) (drop (k + 1) code) a)
    ∙ ap (λ (is : List Instruction). is_marked marks a || is_wanted_from place is a) (sym (split_at code k less))
    ∙ tells a inside
  where
    or_pair : (s t u : Bool) → (s || (t || u)) ≡ (s || (t || u))
    or_pair s t u = refl

-- behind the table there is none
pub mark_missing : (marks : List Bool) (address : ℕ) → slice_get marks address ≡ None → false ≡ is_marked marks address
mark_missing marks address e = sym (ap (λ found. unwrap_or found false) e) ∙ unwrap_or-slice_get marks address false

-- none at first
pub none_marked : (n a : ℕ) (later : Bool) → a < n → (is_marked (replicate n false) a || later) ≡ later
none_marked n a later within = ap (λ (t : Bool). t || later) (get_or-replicate n a false false within)

-- all at last
pub all_marked : (marks : List Bool) (a : ℕ) (wanted : Bool) → (is_marked marks a || false) ≡ wanted → is_marked marks a ≡ wanted
all_marked marks a wanted e = sym (or_false (is_marked marks a)) ∙ e

-- points by two tests that agree within the code
agree : (f g : ℕ → Bool) (at : ℕ) (code : List Instruction) → ((a : ℕ) → a < at + code_size code → f a ≡ g a)
    → empty_points f at code ≡ empty_points g at code
agree f g at [] same = refl
agree f g at (i ∷ is) same =
    by (f at) (g at) (same at (omega arith)) (agree f g (at + width i) is (λ a less. same a (omega (arith, less))))
  where
    by : (s t : Bool) → s ≡ t → empty_points f (at + width i) is ≡ empty_points g (at + width i) is
        → (if s then empty_point at ∷ empty_points f (at + width i) is else empty_points f (at + width i) is)
        ≡ (if t then empty_point at ∷ empty_points g (at + width i) is else empty_points g (at + width i) is)
    by true true e rest = ap (λ (all : List Point). empty_point at ∷ all) rest
    by true false e rest = cc
    by false true e rest = cc
    by false false e rest = rest

pub same_points : (marks : List Bool) (code : List Instruction) → length marks ≡ code_size code → Marks marks (is_wanted code)
    → empty_points (is_marked marks) 0 code ≡ empty_points (is_wanted code) 0 code
same_points marks code long tells = agree (is_marked marks) (is_wanted code) 0 code (λ a less. tells a (omega (arith, less, long)))

pub carried : {A E : Type 0} (r : Result A E) (P Q : A → Type 0) → ((x : A) → P x → Q x) → IfOk r P → IfOk r Q
carried (Ok x) P Q more h = more x h
carried (Err e) P Q more h = tt
