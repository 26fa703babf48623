-- What is found before, and what is still found behind it.
use Rattle.std.proofs.Common.{◌≡◌, ◌≢◌, ◌<◌, ◌≤◌, ◌-◌, ℕ, zero, suc, Bool, true, false, List, [], ◌∷◌, ◌++◌, Result, Ok, Err, length, take, drop, nat_lt, nat_eq, if◌then◌else◌, refl, sym, ap, ◌∙◌, subst, append_assoc, append-nil, IsUtf8, arith}
use Rattle.std.specs.Str.{is_utf8}
use Rattle.std.proofs.lemmas.Bool.Decides.{nat_tests}
use Rattle.std.proofs.lemmas.Str.{IsUtf8-from_is_utf8, is_utf8-from_IsUtf8}
use Rattle.bim_code.specs.declared.instruction.Instruction.{Instruction}
use Rattle.bim_code.specs.Rows.{width}
use Rattle.bim_read.specs.declared.fault.FaultKind.TheVariants.{NotText, Limit}
use Rattle.bim_read.specs.declared.fault.Bad.{Bad}
use Rattle.bim_read.specs.Reading.{Found, ◌>>=◌, many, with_front, wrong}
use Rattle.bim_read.specs.Fields.{text_of}
use Rattle.bim_read.specs.Code.{instruction_in, instructions_at}

pub front_none : {A : Type 0} (found : Found (List A)) → with_front [] found ≡ found
front_none (Ok x) = refl
front_none (Err bad) = refl

front_more : {A : Type 0} (xs : List A) (x : A) (found : Found (List A))
    → with_front xs (found >>= λ others. Ok (x ∷ others.0, others.1)) ≡ with_front (xs ++ x ∷ []) found
front_more {A} xs x (Ok others) = ap (λ (all : List A). Ok (all, others.1)) (sym (append_assoc xs (x ∷ []) others.0))
front_more xs x (Err bad) = refl

-- as many things of one kind

pub many_more : {A : Type 0} (read : List ℕ → Found A) (n k : ℕ) (xs : List A) (x : A) (bytes rest : List ℕ) → n ≡ suc k → read bytes ≡ Ok (x, rest)
    → with_front xs (many read n bytes) ≡ with_front (xs ++ x ∷ []) (many read k rest)
unfolding many
many_more {A} read n k xs x bytes rest count e =
    ap (λ (m : ℕ). with_front xs (many read m bytes)) count
    ∙ ap (λ (r : Result (A × List ℕ) Bad). with_front xs (r >>= λ first. many read k first.1 >>= λ others. Ok (first.0 ∷ others.0, others.1))) e
    ∙ front_more xs x (many read k rest)

pub many_wrong : {A : Type 0} (read : List ℕ → Found A) (n : ℕ) (xs : List A) (bad : Bad) (bytes : List ℕ) → 0 < n → read bytes ≡ Err bad
    → with_front xs (many read n bytes) ≡ Err bad
unfolding many
many_wrong read zero xs bad bytes some e = absurd (omega (arith, some))
many_wrong {A} read (suc k) xs bad bytes some e =
    ap (λ (r : Result (A × List ℕ) Bad). with_front xs (r >>= λ first. many read k first.1 >>= λ others. Ok (first.0 ∷ others.0, others.1))) e

pub many_whole : {A : Type 0} (read : List ℕ → Found A) (n : ℕ) (xs : List A) (bytes : List ℕ) → n ≡ 0 → with_front xs (many read n bytes) ≡ Ok (xs, bytes)
unfolding many
many_whole {A} read n xs bytes none =
    ap (λ (m : ℕ). with_front xs (many read m bytes)) none ∙ ap (λ (all : List A). Ok (all, bytes)) (append-nil xs)

-- instructions

abbrev nothing : List ℕ → Found (List Instruction)
nothing bytes = Ok ([], bytes)

some_left : (size : ℕ) → size ≢ 0 → nat_eq size 0 ≡ false
some_left size some = by (nat_eq size 0) refl
  where
    by : (t : Bool) → nat_eq size 0 ≡ t → t ≡ false
    by true e = absurd (some (grind (arith, nat_tests, e)))
    by false e = refl

pub code_more : (n k size : ℕ) (xs : List Instruction) (i : Instruction) (bytes rest : List ℕ) → n ≡ suc k → size ≢ 0 → instruction_in size bytes ≡ Ok (i, rest)
    → with_front xs (instructions_at n size bytes) ≡ with_front (xs ++ i ∷ []) (instructions_at k (size - width i) rest)
unfolding instructions_at
code_more n k size xs i bytes rest count some e =
    ap (λ (m : ℕ). with_front xs (instructions_at m size bytes)) count
    ∙ by (nat_eq size 0) (some_left size some)
  where
    by : (t : Bool) → t ≡ false
        → with_front xs (if t then nothing bytes else (instruction_in size bytes >>= λ j. instructions_at k (size - width j.0) j.1 >>= λ others. Ok (j.0 ∷ others.0, others.1)))
        ≡ with_front (xs ++ i ∷ []) (instructions_at k (size - width i) rest)
    by true f = absurd cc
    by false f =
        ap (λ (r : Result (Instruction × List ℕ) Bad). with_front xs (r >>= λ j. instructions_at k (size - width j.0) j.1 >>= λ others. Ok (j.0 ∷ others.0, others.1))) e
        ∙ front_more xs i (instructions_at k (size - width i) rest)

pub code_wrong : (n size : ℕ) (xs : List Instruction) (bad : Bad) (bytes : List ℕ) → 0 < n → size ≢ 0 → instruction_in size bytes ≡ Err bad
    → with_front xs (instructions_at n size bytes) ≡ Err bad
unfolding instructions_at
code_wrong zero size xs bad bytes many some e = absurd (omega (arith, many))
code_wrong (suc k) size xs bad bytes many some e = by (nat_eq size 0) (some_left size some)
  where
    by : (t : Bool) → t ≡ false
        → with_front xs (if t then nothing bytes else (instruction_in size bytes >>= λ j. instructions_at k (size - width j.0) j.1 >>= λ others. Ok (j.0 ∷ others.0, others.1))) ≡ Err bad
    by true f = absurd cc
    by false f =
        ap (λ (r : Result (Instruction × List ℕ) Bad). with_front xs (r >>= λ j. instructions_at k (size - width j.0) j.1 >>= λ others. Ok (j.0 ∷ others.0, others.1))) e

pub code_whole : (n size : ℕ) (xs : List Instruction) (bytes : List ℕ) → size ≡ 0 → with_front xs (instructions_at n size bytes) ≡ Ok (xs, bytes)
unfolding instructions_at
code_whole zero size xs bytes none =
    ap (λ (m : ℕ). with_front xs (instructions_at 0 m bytes)) none ∙ ap (λ (all : List Instruction). Ok (all, bytes)) (append-nil xs)
code_whole (suc n) size xs bytes none =
    ap (λ (m : ℕ). with_front xs (instructions_at (suc n) m bytes)) none ∙ ap (λ (all : List Instruction). Ok (all, bytes)) (append-nil xs)

pub code_over : (n size : ℕ) (xs : List Instruction) (bytes : List ℕ) → n ≡ 0 → size ≢ 0 → with_front xs (instructions_at n size bytes) ≡ wrong Limit bytes
unfolding instructions_at
code_over n size xs bytes none some =
    ap (λ (m : ℕ). with_front xs (instructions_at m size bytes)) none ∙ by (nat_eq size 0) (some_left size some)
  where
    by : (t : Bool) → t ≡ false → with_front xs (if t then nothing bytes else wrong Limit bytes) ≡ wrong Limit bytes
    by true f = absurd cc
    by false f = refl

-- texts

long_enough : (n : ℕ) (bytes : List ℕ) → n ≤ length bytes → nat_lt (length bytes) n ≡ false
long_enough n bytes enough = grind (arith, nat_tests, enough)

pub text_read : (n : ℕ) (bytes front rest text : List ℕ) → n ≤ length bytes → front ≡ take n bytes → rest ≡ drop n bytes → IsUtf8 front → text ≡ front
    → text_of n bytes ≡ Ok (text, rest)
text_read n bytes front rest text enough f r utf8 t =
    let long = long_enough n bytes enough in
    let good = is_utf8-from_IsUtf8 (take n bytes) (subst IsUtf8 f utf8) in
    rw long (rw good (λ i. Ok ((sym (t ∙ f)) i, (sym r) i)))

pub text_wrong : (n : ℕ) (bytes front : List ℕ) → n ≤ length bytes → front ≡ take n bytes → (IsUtf8 front → ⊥) → text_of n bytes ≡ wrong NotText bytes
text_wrong n bytes front enough f utf8 = by (is_utf8 (take n bytes)) refl
  where
    by : (t : Bool) → is_utf8 (take n bytes) ≡ t → text_of n bytes ≡ wrong NotText bytes
    by true e = absurd (utf8 (subst IsUtf8 (sym f) (IsUtf8-from_is_utf8 (take n bytes) e)))
    by false e = let long = long_enough n bytes enough in rw long (rw e refl)
