-- Code and constants that stand in an image from a place on.

use Rattle.std.proofs.Common.{◌≡◌, ◌≤◌, ℕ, ◌+◌, suc, List, [], ◌∷◌, ◌++◌, length, Some, refl, sym, append_assoc, nat_eq, slice_get, false, arith, subst, eq-eqb, ne_eqb, length-append}
use Rattle.bim_code.specs.declared.instruction.Instruction.{Instruction}
use Rattle.bim_code.specs.Rows.{width}
use Rattle.bim_code.specs.Code.{instruction_at, instruction_from}
use Rattle.bim_compile.specs.declared.draft.Labelled.{Labelled}
use Rattle.bim_compile.specs.Compiled.{instructions}

-- the instructions stand one behind the other from an address on
abbrev pub HasAt : List Instruction → ℕ → List Labelled → Type 0
HasAt code address [] = Unit {0}
HasAt code address (l ∷ ls) = (instruction_at code address ≡ Some l.instruction) × HasAt code (address + width l.instruction) ls

-- the address behind them
abbrev pub after : ℕ → List Labelled → ℕ
after address [] = address
after address (l ∷ ls) = after (address + width l.instruction) ls

pub after-append : (address : ℕ) (is js : List Labelled) → after address (is ++ js) ≡ after (after address is) js
after-append address [] js = refl
after-append address (i ∷ is) js = after-append (address + width i.instruction) is js

parts : (code : List Instruction) (address : ℕ) (is js : List Labelled)
    → HasAt code address (is ++ js) → HasAt code address is × HasAt code (after address is) js
parts code address [] js h = (tt, h)
parts code address (i ∷ is) js h =
    let rest = parts code (address + width i.instruction) is js h.1 in ((h.0, rest.0), rest.1)

-- code that stands there is a form and what follows it, behind the form's end
pub cut : (code : List Instruction) (at end : ℕ) (is js : List Labelled) → after at is ≡ end → HasAt code at (is ++ js)
    → HasAt code at is × HasAt code end js
cut code at end is js p h = let both = parts code at is js h in (both.0, subst (λ x. HasAt code x js) p both.1)

above : (address : ℕ) (is : List Labelled) → address ≤ after address is
above address [] = omega arith
above address (i ∷ is) = let h : address + width i.instruction ≤ after (address + width i.instruction) is = above (address + width i.instruction) is in omega arith

-- what stands behind some instructions is found there
found : (at : ℕ) (is : List Labelled) (i : Labelled) (js : List Labelled)
    → instruction_from at (instructions (is ++ i ∷ js)) (after at is) ≡ Some i.instruction
found at [] i js = rw (eq-eqb at at refl) refl
found at (j ∷ is) i js =
    let apart : nat_eq at (after (at + width j.instruction) is) ≡ false =
    ne_eqb at (after (at + width j.instruction) is) (λ e. let h = above (at + width j.instruction) is in absurd (omega (arith, e, h))) in
    rw apart (found (at + width j.instruction) is i js)

behind : (is js : List Labelled) → HasAt (instructions (is ++ js)) (after 0 is) js
behind is [] = tt
behind is (j ∷ js) =
    let e : (is ++ j ∷ []) ++ js ≡ is ++ j ∷ js = append_assoc is (j ∷ []) js in
    let rest : HasAt (instructions (is ++ j ∷ js)) (after 0 (is ++ j ∷ [])) js =
    subst (λ (all : List Labelled). HasAt (instructions all) (after 0 (is ++ j ∷ [])) js) e (behind (is ++ j ∷ []) js) in (
      found 0 is j js,
      subst (λ (address : ℕ). HasAt (instructions (is ++ j ∷ js)) address js) (after-append 0 is (j ∷ [])) rest,
    )

-- the whole code stands from address 0 on
pub whole : (labelled : List Labelled) → HasAt (instructions labelled) 0 labelled
whole labelled = behind [] labelled

-- the constants stand one behind the other from a place on
abbrev pub HasTexts : List (List ℕ) → ℕ → List (List ℕ) → Type 0
HasTexts all k [] = Unit {0}
HasTexts all k (t ∷ ts) = (slice_get all k ≡ Some t) × HasTexts all (k + 1) ts

pub text_parts : (all : List (List ℕ)) (k : ℕ) (ts us : List (List ℕ))
    → HasTexts all k (ts ++ us) → HasTexts all k ts × HasTexts all (k + length ts) us
text_parts all k [] us h =
    let e : k + 0 ≡ k = omega arith in (tt, rw e h)
text_parts all k (t ∷ ts) us h =
    let rest = text_parts all (k + 1) ts us h.1 in
    let e : k + suc (length ts) ≡ (k + 1) + length ts = omega arith in
    ((h.0, rest.0), subst (λ (n : ℕ). HasTexts all n us) (sym e) rest.1)

text_found : (ts : List (List ℕ)) (t : List ℕ) (us : List (List ℕ)) → slice_get (ts ++ t ∷ us) (length ts) ≡ Some t
text_found [] t us = refl
text_found (u ∷ ts) t us = text_found ts t us

texts_behind : (ts us : List (List ℕ)) → HasTexts (ts ++ us) (length ts) us
texts_behind ts [] = tt
texts_behind ts (u ∷ us) =
    let e : (ts ++ u ∷ []) ++ us ≡ ts ++ u ∷ us = append_assoc ts (u ∷ []) us in
    let l : length (ts ++ u ∷ []) ≡ length ts + 1 = omega (arith, length-append ts (u ∷ [])) in
    let rest : HasTexts (ts ++ u ∷ us) (length (ts ++ u ∷ [])) us =
    subst (λ (all : List (List ℕ)). HasTexts all (length (ts ++ u ∷ [])) us) e (texts_behind (ts ++ u ∷ []) us) in
    (text_found ts u us, subst (λ (n : ℕ). HasTexts (ts ++ u ∷ us) n us) l rest)

-- all constants stand from place 0 on
pub all_texts : (all : List (List ℕ)) → HasTexts all 0 all
all_texts all = texts_behind [] all
