-- Plain code is sound.

use Rattle.std.proofs.Common.{◌≡◌, ◌≤◌, ◌+◌, ◌-◌, ℕ, Bool, true, false, List, [], ◌∷◌, Option, Some, None, All, refl, sym, ap, subst, ◌∙◌, nat_eq, arith}
use Rattle.std.specs.Prelude.{◌||◌, not, if◌then◌else◌}
use Rattle.std.proofs.lemmas.Bool.Decides.{nat_tests}
use Rattle.std.proofs.lemmas.List.Elements.{All-head, All-tail}
use Rattle.bim_code.specs.declared.image.Image.{Image}
use Rattle.bim_code.specs.declared.image.Operand.{Operand}
use Rattle.bim_code.specs.declared.image.Routine.{Routine}
use Rattle.bim_code.specs.declared.instruction.Instruction.{Instruction}
use Rattle.bim_code.specs.Rows.{width, named_address}
use Rattle.bim_code.specs.Rules.{leaves_part, part_of}
use Rattle.bim_rules.specs.Parts.{is_start}
use Rattle.bim_verify.specs.declared.kinds.Kind.{Kind}
use Rattle.bim_verify.specs.Shapes.{Shape, Breaks, Flows, Goes, Splits, Closes}
use Rattle.bim_verify.specs.Stacks.{Known, Nothing, shape_leaves, stack_of}
use Rattle.bim_points.specs.Annotated.{Step, code_of, step_from, told_of, ArrivesAt, Arrives, Meets, LeadsTo, Finds, AreSound, IsSound}
use Rattle.bim_points.specs.Plain.{IsEmptyAt, NextHas, Follows, AreLocal, IsPlain}
use Rattle.bim_points.specs.Wanted.{is_at, behind, wants, is_wanted_from, is_wanted, empty_points}
use Rattle.bim_points.proofs.Same.{self}
use Rattle.bim_points.proofs.Told.{empty_told}

or_left : (s t : Bool) → s ≡ true → (s || t) ≡ true
or_left true t e = refl
or_left false t e = cc

or_right : (s t : Bool) → t ≡ true → (s || t) ≡ true
or_right true t e = refl
or_right false t e = e

-- a step that is found tells nothing
told_found : (at : ℕ) (steps : List Step) (a : ℕ) (s : Step) → All (λ (s : Step). s.told ≡ []) steps → step_from at steps a ≡ Some s → s.told ≡ []
told_found at [] a s all e = cc
told_found at (x ∷ steps) a s all e =
    by (nat_eq at a) e (All-head (λ (s : Step). s.told ≡ []) x steps all)
    (told_found (at + width x.instruction) steps a s (All-tail (λ (s : Step). s.told ≡ []) x steps all))
  where
    by : (t : Bool) → (if t then Some x else step_from (at + width x.instruction) steps a) ≡ Some s → x.told ≡ []
        → (step_from (at + width x.instruction) steps a ≡ Some s → s.told ≡ []) → s.told ≡ []
    by true f told more = let same : x ≡ s = cc in subst (λ (y : Step). y.told ≡ []) same told
    by false f told more = more f

told_empty : (image : Image) (s : Step) → s.told ≡ [] → told_of image s ≡ []
told_empty image s e = ap (λ (told : List Operand). stack_of image (record { address = 0; stack = told })) e

-- behind an instruction that leaves the stack is empty
behind_empty : (t : Bool) (x : Shape) (steps : List Step) → t ≡ true → Follows t x steps → NextHas [] steps
behind_empty true (Goes stack) steps e f = f.1
behind_empty true Closes steps e f = f
behind_empty true (Breaks rule) steps e f = absurd f
behind_empty true (Flows stack) steps e f = absurd f
behind_empty true (Splits on jump) steps e f = absurd f
behind_empty false x steps e f = cc

-- the step at the front
front_is : (at : ℕ) (stack : List Kind) (steps : List Step) (s : Step) → NextHas stack steps → step_from at steps at ≡ Some s → s.stack ≡ stack
front_is at stack [] s next e = cc
front_is at stack (x ∷ steps) s next e = by (nat_eq at at) (self at) e
  where
    by : (t : Bool) → t ≡ true → (if t then Some x else step_from (at + width x.instruction) steps at) ≡ Some s → s.stack ≡ stack
    by true h f = let same : x ≡ s = cc in subst (λ (y : Step). y.stack ≡ stack) same next
    by false h f = cc

-- what was found among all is found among those still to come
same_behind : (all : List Step) (at : ℕ) (s : Step) (steps : List Step) → ((a : ℕ) → at ≤ a → step_from 0 all a ≡ step_from at (s ∷ steps) a)
    → (a : ℕ) → at + width s.instruction ≤ a → step_from 0 all a ≡ step_from (at + width s.instruction) steps a
same_behind all at s steps same a past = same a (omega (arith, past)) ∙ by (nat_eq at a) refl
  where
    by : (t : Bool) → nat_eq at a ≡ t
        → (if t then Some s else step_from (at + width s.instruction) steps a) ≡ step_from (at + width s.instruction) steps a
    by true is = let same_place : at ≡ a = grind (arith, nat_tests, is) in absurd (omega (arith, same_place, past))
    by false is = refl

-- a step of whose address a point is wanted has an empty stack
wanted_empty : (image : Image) (all : List Step) (at : ℕ) (steps : List Step) → ((a : ℕ) → at ≤ a → step_from 0 all a ≡ step_from at steps a)
    → AreLocal image all steps → (a : ℕ) (s : Step) → is_wanted_from at (code_of steps) a ≡ true → step_from 0 all a ≡ Some s → s.stack ≡ []
wanted_empty image all at [] same local a s wanted found = cc
wanted_empty image all at (x ∷ steps) same (empty, low, follows, more) a s wanted found =
    by (is_at (named_address x.instruction) a) (is_at (behind at x.instruction) a) refl refl wanted
    (λ later. wanted_empty image all (at + width x.instruction) steps (same_behind all at x steps same) more a s later found)
  where
    named : (n : Option ℕ) → IsEmptyAt all n → is_at n a ≡ true → s.stack ≡ []
    named None there is = cc
    named (Some n) (y, at_n, none) is =
        let place : n ≡ a = grind (arith, nat_tests, is) in
        let there : step_from 0 all a ≡ Some y = subst (λ (m : ℕ). step_from 0 all m ≡ Some y) place at_n in
        let one : Some y ≡ Some s = sym there ∙ found in
        let step : y ≡ s = cc in
        subst (λ (z : Step). z.stack ≡ []) step none

    after : (t : Bool) → leaves_part x.instruction ≡ t → is_at (if t then Some (at + width x.instruction) else None) a ≡ true → s.stack ≡ []
    after true leaves is =
        let place : at + width x.instruction ≡ a = grind (arith, nat_tests, is) in
        let here : step_from 0 all (at + width x.instruction) ≡ Some s = subst (λ (m : ℕ). step_from 0 all m ≡ Some s) (sym place) found in
        front_is (at + width x.instruction) [] steps s (behind_empty (leaves_part x.instruction) _ steps leaves follows)
        (sym (same_behind all at x steps same (at + width x.instruction) (omega arith)) ∙ here)
    after false leaves is = cc

    by : (u v : Bool) → is_at (named_address x.instruction) a ≡ u → is_at (behind at x.instruction) a ≡ v
        → ((u || v) || is_wanted_from (at + width x.instruction) (code_of steps) a) ≡ true
        → (is_wanted_from (at + width x.instruction) (code_of steps) a ≡ true → s.stack ≡ []) → s.stack ≡ []
    by true v e f w later = named (named_address x.instruction) empty e
    by false true e f w later = after (leaves_part x.instruction) refl f
    by false false e f w later = later w

-- in code of one part the first address alone begins one
not_start : (image : Image) (at : ℕ) → image.routines ≡ [] → 1 ≤ at → is_start image at ≡ false
not_start image at alone past =
    subst (λ (routines : List Routine). (nat_eq at 0 || not (nat_eq (part_of routines at) (part_of routines (at - 1)))) ≡ false) (sym alone) last
  where
    last : (nat_eq at 0 || false) ≡ false
    last = let apart : nat_eq at 0 ≡ false = grind (arith, nat_tests, past) in ap (λ (t : Bool). t || false) apart

-- at a named address there is a point, and it tells what the jump leaves
leads : (image : Image) (all : List Step) → All (λ (s : Step). s.told ≡ []) all → (named : Option ℕ) → IsEmptyAt all named
    → (stack : List Kind) → stack ≡ [] → ((n : ℕ) → named ≡ Some n → is_wanted (code_of all) n ≡ true)
    → LeadsTo image (is_wanted (code_of all)) all named stack
leads image all told None empty stack none wanted = tt
leads image all told (Some n) (y, there, nothing) stack none wanted =
    (y, there, told_empty image y (told_found 0 all n y told there) ∙ sym none, wanted n refl)

finds_is : (image : Image) (all : List Step) → All (λ (s : Step). s.told ≡ []) all → (named : Option ℕ) → IsEmptyAt all named
    → ((n : ℕ) → named ≡ Some n → is_wanted (code_of all) n ≡ true) → (t : Bool) (x : Shape) (steps : List Step) → Follows t x steps
    → Finds image (is_wanted (code_of all)) all named x
finds_is image all told named empty wanted true (Goes stack) steps f = leads image all told named empty stack f.0 wanted
finds_is image all told named empty wanted true Closes steps f = tt
finds_is image all told named empty wanted true (Breaks rule) steps f = absurd f
finds_is image all told named empty wanted true (Flows stack) steps f = absurd f
finds_is image all told named empty wanted true (Splits on jump) steps f = absurd f
finds_is image all told named empty wanted false (Goes stack) steps f = absurd f
finds_is image all told named empty wanted false Closes steps f = absurd f
finds_is image all told named empty wanted false (Breaks rule) steps f = absurd f
finds_is image all told named empty wanted false (Flows stack) steps f = tt
finds_is image all told named empty wanted false (Splits on jump) steps f = leads image all told named empty jump f.0 wanted

-- what is left meets the next step
meets : (chosen : ℕ → Bool) (at : ℕ) (t : Bool) (x : Shape) (s : Step) (steps : List Step) → (t ≡ true → chosen at ≡ true) → Follows t x (s ∷ steps)
    → Meets chosen at (shape_leaves x) s.stack
meets chosen at true (Goes stack) s steps on f = on refl
meets chosen at true Closes s steps on f = on refl
meets chosen at true (Breaks rule) s steps on f = absurd f
meets chosen at true (Flows stack) s steps on f = absurd f
meets chosen at true (Splits go jump) s steps on f = absurd f
meets chosen at false (Goes stack) s steps on f = absurd f
meets chosen at false Closes s steps on f = absurd f
meets chosen at false (Breaks rule) s steps on f = absurd f
meets chosen at false (Flows stack) s steps on f = sym f
meets chosen at false (Splits go jump) s steps on f = sym f.1

-- the first of the steps arrives so
abbrev ArrivesFirst : Image → (ℕ → Bool) → ℕ → Known → List Step → Type 0
ArrivesFirst image chosen at left [] = Unit {0}
ArrivesFirst image chosen at left (s ∷ steps) = Arrives image chosen at left s.stack

arrives_next : (image : Image) (chosen : ℕ → Bool) (at : ℕ) → image.routines ≡ [] → 1 ≤ at → (t : Bool) (x : Shape) (steps : List Step)
    → (t ≡ true → chosen at ≡ true) → Follows t x steps → ArrivesFirst image chosen at (shape_leaves x) steps
arrives_next image chosen at alone past t x [] on f = tt
arrives_next image chosen at alone past t x (s ∷ steps) on f =
    subst (λ (b : Bool). ArrivesAt b chosen at (shape_leaves x) s.stack) (sym (not_start image at alone past)) (meets chosen at t x s steps on f)

-- the address behind an instruction that leaves
is_behind : (at : ℕ) (i : Instruction) → leaves_part i ≡ true → is_at (behind at i) (at + width i) ≡ true
is_behind at i leaves = by (leaves_part i) leaves
  where
    by : (t : Bool) → t ≡ true → is_at (if t then Some (at + width i) else None) (at + width i) ≡ true
    by true e = self (at + width i)
    by false e = cc

sound_walk : (image : Image) (all : List Step) → image.routines ≡ [] → All (λ (s : Step). s.told ≡ []) all → AreLocal image all all
    → (at : ℕ) (left : Known) (steps : List Step) → ((a : ℕ) → at ≤ a → step_from 0 all a ≡ step_from at steps a)
    → ((a : ℕ) → is_wanted_from at (code_of steps) a ≡ true → is_wanted (code_of all) a ≡ true) → AreLocal image all steps
    → ArrivesFirst image (is_wanted (code_of all)) at left steps → AreSound image (is_wanted (code_of all)) all at left steps
sound_walk image all alone told whole at left [] same more local arrives = tt
sound_walk image all alone told whole at left (s ∷ steps) same more (empty, low, follows, others) arrives =
    let found : step_from 0 all at ≡ Some s = same at (omega arith) ∙ here (nat_eq at at) (self at) in
    let next : (a : ℕ) → is_wanted_from (at + width s.instruction) (code_of steps) a ≡ true → is_wanted (code_of all) a ≡ true
    = λ a w. more a (or_right (wants at s.instruction a) (is_wanted_from (at + width s.instruction) (code_of steps) a) w) in (
      arrives,
      (λ on. told_empty image s (told_found 0 all at s told found) ∙ sym (wanted_empty image all 0 all (λ a past. refl) whole at s on found)),
      low,
      finds_is image all told (named_address s.instruction) empty named_on (leaves_part s.instruction) _ steps follows,
      sound_walk image all alone told whole (at + width s.instruction) _ steps (same_behind all at s steps same) next others
          (arrives_next image (is_wanted (code_of all)) (at + width s.instruction) alone (omega arith) (leaves_part s.instruction) _ steps behind_on follows),
    )
  where
    here : (t : Bool) → t ≡ true → (if t then Some s else step_from (at + width s.instruction) steps at) ≡ Some s
    here true e = refl
    here false e = cc

    here_on : (a : ℕ) → wants at s.instruction a ≡ true → is_wanted (code_of all) a ≡ true
    here_on a w = more a (or_left (wants at s.instruction a) (is_wanted_from (at + width s.instruction) (code_of steps) a) w)

    named_on : (n : ℕ) → named_address s.instruction ≡ Some n → is_wanted (code_of all) n ≡ true
    named_on n e = here_on n (or_left (is_at (named_address s.instruction) n) (is_at (behind at s.instruction) n) (ap (λ (o : Option ℕ). is_at o n) e ∙ self n))

    behind_on : leaves_part s.instruction ≡ true → is_wanted (code_of all) (at + width s.instruction) ≡ true
    behind_on e =
        here_on (at + width s.instruction)
        (or_right (is_at (named_address s.instruction) (at + width s.instruction)) (is_at (behind at s.instruction) (at + width s.instruction)) (is_behind at s.instruction e))

first_arrives : (image : Image) (chosen : ℕ → Bool) (steps : List Step) → NextHas [] steps → ArrivesFirst image chosen 0 Nothing steps
first_arrives image chosen [] next = tt
first_arrives image chosen (s ∷ steps) next = next

pub plain_sound : (image : Image) (steps : List Step) → IsPlain image steps → IsSound image (is_wanted (code_of steps)) steps
plain_sound image steps plain = record {
  code = plain.code;
  points = plain.points ∙ ap (λ (code : List Instruction). empty_points (is_wanted code) 0 code) plain.code ∙ sym (empty_told (is_wanted (code_of steps)) 0 steps plain.told);
  sound = sound_walk image steps plain.alone plain.told plain.local 0 Nothing steps (λ a past. refl) (λ a w. w) plain.local (first_arrives image (is_wanted (code_of steps)) steps plain.first);
}
