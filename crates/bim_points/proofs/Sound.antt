-- Sound code breaks no rule on stacks.

use Rattle.std.proofs.Common.{◌≡◌, ◌≤◌, ◌+◌, ℕ, Bool, true, false, List, [], ◌∷◌, ◌++◌, Option, Some, None, length, refl, sym, ap, subst, ◌∙◌, nat_eq, nat_le, arith}
use Rattle.std.specs.Prelude.{if◌then◌else◌}
use Rattle.std.proofs.lemmas.Bool.Decides.{nat_tests}
use Rattle.bim_code.specs.declared.image.Image.{Image}
use Rattle.bim_code.specs.declared.image.Point.{Point}
use Rattle.bim_code.specs.declared.instruction.Instruction.{Instruction}
use Rattle.bim_code.specs.Rows.{width, named_address}
use Rattle.bim_rules.specs.declared.breach.Breach.{Breach}
use Rattle.bim_rules.specs.declared.breach.Rule.{Rule}
use Rattle.bim_rules.specs.declared.breach.Rule.TheVariants.{Stacks, Targets, Heights}
use Rattle.bim_rules.specs.declared.breach.Table.{Table}
use Rattle.bim_rules.specs.declared.breach.Table.TheVariants as table
use Rattle.bim_rules.specs.Breaches.{mark}
use Rattle.bim_rules.specs.Parts.{is_start}
use Rattle.bim_verify.specs.declared.kinds.Kind.{Kind}
use Rattle.bim_verify.specs.Kinds.{same_stack}
use Rattle.bim_verify.specs.Shapes.{Shape, Breaks, Flows, Goes, Splits, Closes, shape}
use Rattle.bim_verify.specs.Stacks.{Known, Stack, Nothing, Unsaid, point_at, arriving, with_point, before, is_known, is_told_by, is_told, shape_breaches, known_breaches, shape_leaves, leaves, line_breaches, stack_breaches}
use Rattle.bim_points.specs.Annotated.{Step, code_of, points_from, step_from, told_of, ArrivesAt, Arrives, LeadsTo, Finds, AreSound, IsSound}
use Rattle.bim_points.proofs.Same.{self, stack_self}
use Rattle.bim_points.proofs.Lookups.{told, point_is}

unmarked : (rule : Rule) (table : Table) (at : ℕ) (kept : Bool) → kept ≡ true → mark rule table at kept ≡ []
unmarked rule table at true e = refl
unmarked rule table at false e = cc

pub both_none : (xs ys : List Breach) → xs ≡ [] → ys ≡ [] → xs ++ ys ≡ []
both_none [] ys d e = e
both_none (x ∷ xs) ys d e = cc

same_as : (image : Image) (a b : List Kind) → a ≡ b → same_stack image a b ≡ true
same_as image a b e = subst (λ (c : List Kind). same_stack image a c ≡ true) e (stack_self image a)

-- what is known before a step is its stack
known_is : (image : Image) (chosen : ℕ → Bool) (at : ℕ) (left : Known) (s : Step) → Arrives image chosen at left s.stack
    → (chosen at ≡ true → told_of image s ≡ s.stack)
    → (is_known image (told (chosen at) at (Some s)) (arriving image at left) ≡ true)
    × (with_point image (told (chosen at) at (Some s)) (arriving image at left) ≡ Stack s.stack)
known_is image chosen at left s arrives tells = by (is_start image at) (chosen at) left refl arrives
  where
    by : (st t : Bool) (left : Known) → chosen at ≡ t → ArrivesAt st chosen at left s.stack
        → (is_known image (told t at (Some s)) (if st then Stack [] else left) ≡ true)
        × (with_point image (told t at (Some s)) (if st then Stack [] else left) ≡ Stack s.stack)
    by true true left c e = (same_as image (told_of image s) [] (tells c ∙ e), ap Stack (tells c))
    by true false left c e = (refl, ap Stack (sym e))
    by false true (Stack stack) c e = (same_as image (told_of image s) stack (tells c ∙ sym e), ap Stack (tells c))
    by false true Nothing c e = (refl, ap Stack (tells c))
    by false true Unsaid c e = absurd e
    by false false (Stack stack) c e = (refl, ap Stack e)
    by false false Nothing c e = (cc, cc)
    by false false Unsaid c e = absurd e

-- the image and its steps
record Given (image : Image) (chosen : ℕ → Bool) (all : List Step) : Type 0 where
  code : image.code ≡ code_of all
  points : image.points ≡ points_from chosen 0 all

-- the address that is named tells the stack
told_there : (image : Image) (chosen : ℕ → Bool) (all : List Step) → Given image chosen all → (named : Option ℕ) (stack : List Kind)
    → LeadsTo image chosen all named stack → is_told image named stack ≡ true
told_there image chosen all given None stack leads = refl
told_there image chosen all given (Some address) stack (s, found, kinds, on) =
    subst (λ (o : Option Point). is_told_by image o stack ≡ true) (sym (point_is image chosen all given.code given.points address s found))
    (by (chosen address) on)
  where
    by : (t : Bool) → t ≡ true → is_told_by image (told t address (Some s)) stack ≡ true
    by true e = same_as image (told_of image s) stack kinds
    by false e = cc

shape_holds : (image : Image) (chosen : ℕ → Bool) (all : List Step) → Given image chosen all → (at : ℕ) (named : Option ℕ) (x : Shape)
    → Finds image chosen all named x → shape_breaches image at named x ≡ []
shape_holds image chosen all given at named (Breaks rule) finds = absurd finds
shape_holds image chosen all given at named (Flows stack) finds = refl
shape_holds image chosen all given at named (Goes stack) finds =
    unmarked Targets table.Code at (is_told image named stack) (told_there image chosen all given named stack finds)
shape_holds image chosen all given at named (Splits on jump) finds =
    unmarked Targets table.Code at (is_told image named jump) (told_there image chosen all given named jump finds)
shape_holds image chosen all given at named Closes finds = refl

-- a step with its stack
step_holds : (image : Image) (chosen : ℕ → Bool) (all : List Step) → Given image chosen all → (at : ℕ) (s : Step) → length s.stack ≤ 40000
    → Finds image chosen all (named_address s.instruction) (shape image s.instruction s.stack)
    → known_breaches image at s.instruction (Stack s.stack) ≡ []
step_holds image chosen all given at s low finds =
    both_none (mark Heights table.Code at (nat_le (length s.stack) 40000)) _
    (unmarked Heights table.Code at (nat_le (length s.stack) 40000) (grind (arith, nat_tests, low)))
    (shape_holds image chosen all given at (named_address s.instruction) (shape image s.instruction s.stack) finds)

-- what is known before it
before_is : (image : Image) (chosen : ℕ → Bool) (all : List Step) → Given image chosen all → (at : ℕ) (left : Known) (s : Step)
    → step_from 0 all at ≡ Some s → Arrives image chosen at left s.stack → (chosen at ≡ true → told_of image s ≡ s.stack)
    → (is_known image (point_at image at) (arriving image at left) ≡ true) × (before image at left ≡ Stack s.stack)
unfolding before
before_is image chosen all given at left s found arrives tells =
    subst (λ (o : Option Point). (is_known image o (arriving image at left) ≡ true) × (with_point image o (arriving image at left) ≡ Stack s.stack))
    (sym (point_is image chosen all given.code given.points at s found)) (known_is image chosen at left s arrives tells)

line_holds : (image : Image) (chosen : ℕ → Bool) (all : List Step) → Given image chosen all → (at : ℕ) (left : Known) (s : Step)
    → is_known image (point_at image at) (arriving image at left) ≡ true → before image at left ≡ Stack s.stack
    → known_breaches image at s.instruction (Stack s.stack) ≡ [] → line_breaches image at s.instruction left ≡ []
unfolding line_breaches
line_holds image chosen all given at left s known stack holds =
    both_none (mark Stacks table.Code at (is_known image (point_at image at) (arriving image at left))) _
    (unmarked Stacks table.Code at (is_known image (point_at image at) (arriving image at left)) known)
    (subst (λ (k : Known). known_breaches image at s.instruction k ≡ []) (sym stack) holds)

leaves_is : (image : Image) (i : Instruction) (stack : List Kind) → leaves image i (Stack stack) ≡ shape_leaves (shape image i stack)
unfolding leaves
leaves_is image i stack = refl

walk : (image : Image) (chosen : ℕ → Bool) (all : List Step) → Given image chosen all → (at : ℕ) (left : Known) (steps : List Step)
    → ((a : ℕ) → at ≤ a → step_from 0 all a ≡ step_from at steps a) → AreSound image chosen all at left steps
    → stack_breaches image at left (code_of steps) ≡ []
walk image chosen all given at left [] same sound = refl
walk image chosen all given at left (s ∷ steps) same (arrives, tells, low, finds, more) =
    let found : step_from 0 all at ≡ Some s = same at (omega arith) ∙ here (nat_eq at at) (self at) in
    let is = before_is image chosen all given at left s found arrives tells in
    let line = line_holds image chosen all given at left s is.0 is.1 (step_holds image chosen all given at s low finds) in
    let rest = walk image chosen all given (at + width s.instruction) (shape_leaves (shape image s.instruction s.stack)) steps later more in
    both_none (line_breaches image at s.instruction left) _ line
    (subst (λ (k : Known). stack_breaches image (at + width s.instruction) k (code_of steps) ≡ [])
    (sym (ap (leaves image s.instruction) is.1 ∙ leaves_is image s.instruction s.stack)) rest)
  where
    here : (t : Bool) → t ≡ true → (if t then Some s else step_from (at + width s.instruction) steps at) ≡ Some s
    here true e = refl
    here false e = cc

    behind : (a : ℕ) (t : Bool) → nat_eq at a ≡ t → at + width s.instruction ≤ a
        → (if t then Some s else step_from (at + width s.instruction) steps a) ≡ step_from (at + width s.instruction) steps a
    behind a true is past = let same_place : at ≡ a = grind (arith, nat_tests, is) in absurd (omega (arith, same_place, past))
    behind a false is past = refl

    later : (a : ℕ) → at + width s.instruction ≤ a → step_from 0 all a ≡ step_from (at + width s.instruction) steps a
    later a past = same a (omega (arith, past)) ∙ behind a (nat_eq at a) refl past

pub unbroken : (image : Image) (chosen : ℕ → Bool) (steps : List Step) → IsSound image chosen steps → stack_breaches image 0 Nothing image.code ≡ []
unbroken image chosen steps sound =
    subst (λ (code : List Instruction). stack_breaches image 0 Nothing code ≡ []) (sym sound.code)
    (walk image chosen steps (record { code = sound.code; points = sound.points }) 0 Nothing steps (λ a past. refl) sound.sound)
