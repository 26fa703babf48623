-- Flowing code is plain, with the stacks that it makes.

use Rattle.std.proofs.Common.{◌≡◌, ◌+◌, ℕ, Bool, true, false, List, [], ◌∷◌, ◌++◌, Option, Some, None, All, refl, sym, ap, subst, nat_eq, arith}
use Rattle.std.specs.Prelude.{if◌then◌else◌}
use Rattle.std.proofs.lemmas.Bool.Decides.{nat_tests}
use Rattle.std.proofs.lemmas.List.Elements.{All-cons, All-nil, All-head, All-tail}
use Rattle.bim_code.specs.declared.image.Image.{Image}
use Rattle.bim_code.specs.declared.instruction.Instruction.{Instruction}
use Rattle.bim_code.specs.Code.{code_size}
use Rattle.bim_code.specs.Rows.{width, named_address}
use Rattle.bim_code.specs.Rules.{leaves_part}
use Rattle.bim_verify.specs.declared.kinds.Kind.{Kind}
use Rattle.bim_verify.specs.Shapes.{Shape, Breaks, Flows, Goes, Splits, Closes, shape}
use Rattle.bim_points.specs.Annotated.{Step, code_of, step_from}
use Rattle.bim_points.specs.Flowing.{next_stack, stack_behind, stack_after, annotated, IsFine, AreFine, LeadsToEmpty, IsFlowing}
use Rattle.bim_points.specs.Plain.{IsEmptyAt, NextHas, Follows, AreLocal, IsPlain}

-- its code is the code
code_is : (image : Image) (stack : List Kind) (code : List Instruction) → code ≡ code_of (annotated image stack code)
code_is image stack [] = refl
code_is image stack (i ∷ is) = ap (λ (all : List Instruction). i ∷ all) (code_is image (stack_behind image stack i) is)

nothing_told : (image : Image) (stack : List Kind) (code : List Instruction) → All (λ (s : Step). s.told ≡ []) (annotated image stack code)
nothing_told image stack [] = All-nil (λ (s : Step). s.told ≡ [])
nothing_told image stack (i ∷ is) =
    All-cons (λ (s : Step). s.told ≡ []) (record { instruction = i; stack = stack; told = [] }) (annotated image (stack_behind image stack i) is)
    refl (nothing_told image (stack_behind image stack i) is)

-- the next step has the stack
next_has : (image : Image) (stack : List Kind) (code : List Instruction) → NextHas stack (annotated image stack code)
next_has image stack [] = tt
next_has image stack (i ∷ is) = refl

-- the step behind some code
step_behind : (image : Image) (stack : List Kind) (before : List Instruction) (i : Instruction) (rest : List Instruction) (at a : ℕ) → at + code_size before ≡ a
    → step_from at (annotated image stack (before ++ i ∷ rest)) a ≡ Some (record { instruction = i; stack = stack_after image stack before; told = [] })
step_behind image stack [] i rest at a e = by (nat_eq at a) (grind (arith, nat_tests, e))
  where
    by : (t : Bool) → t ≡ true
        → (if t then Some (record { instruction = i; stack = stack; told = [] }) else step_from (at + width i) (annotated image (stack_behind image stack i) rest) a)
        ≡ Some (record { instruction = i; stack = stack; told = [] })
    by true h = refl
    by false h = cc
step_behind image stack (j ∷ js) i rest at a e =
    by (nat_eq at a) (grind (arith, nat_tests, e)) (step_behind image (stack_behind image stack j) js i rest (at + width j) a (omega (arith, e)))
  where
    by : (t : Bool) → t ≡ false
        → step_from (at + width j) (annotated image (stack_behind image stack j) (js ++ i ∷ rest)) a
        ≡ Some (record { instruction = i; stack = stack_after image (stack_behind image stack j) js; told = [] })
        → (if t then Some (record { instruction = j; stack = stack; told = [] }) else step_from (at + width j) (annotated image (stack_behind image stack j) (js ++ i ∷ rest)) a)
        ≡ Some (record { instruction = i; stack = stack_after image (stack_behind image stack j) js; told = [] })
    by true h more = cc
    by false h more = more

-- where an instruction leads
empty_there : (image : Image) (named : Option ℕ) → LeadsToEmpty image named → IsEmptyAt (annotated image [] image.code) named
empty_there image None leads = tt
empty_there image (Some address) leads =
    let place = leads.at in (
      record { instruction = leads.i; stack = stack_after image [] leads.before; told = [] },
      subst (λ (code : List Instruction). step_from 0 (annotated image [] code) address ≡ Some (record { instruction = leads.i; stack = stack_after image [] leads.before; told = [] }))
          (sym leads.code) (step_behind image [] leads.before leads.i leads.rest 0 address (omega (arith, place))),
      leads.empty,
    )

-- what follows an instruction
follows_is : (t : Bool) (x : Shape) (steps : List Step) → IsFine t x → NextHas (next_stack t x) steps → Follows t x steps
follows_is true (Goes stack) steps fine next = (fine, next)
follows_is true Closes steps fine next = next
follows_is true (Breaks rule) steps fine next = absurd fine
follows_is true (Flows stack) steps fine next = absurd fine
follows_is true (Splits on jump) steps fine next = absurd fine
follows_is false (Flows stack) steps fine next = next
follows_is false (Splits on jump) steps fine next = (fine, next)
follows_is false (Breaks rule) steps fine next = absurd fine
follows_is false (Goes stack) steps fine next = absurd fine
follows_is false Closes steps fine next = absurd fine

local_is : (image : Image) (stack : List Kind) (code : List Instruction) → AreFine image stack code
    → All (λ (i : Instruction). LeadsToEmpty image (named_address i)) code → AreLocal image (annotated image [] image.code) (annotated image stack code)
local_is image stack [] fine leads = tt
local_is image stack (i ∷ is) (one, low, others) leads = (
  empty_there image (named_address i) (All-head (λ (i : Instruction). LeadsToEmpty image (named_address i)) i is leads),
  low,
  follows_is (leaves_part i) (shape image i stack) (annotated image (stack_behind image stack i) is) one (next_has image (stack_behind image stack i) is),
  local_is image (stack_behind image stack i) is others (All-tail (λ (i : Instruction). LeadsToEmpty image (named_address i)) i is leads),
)

pub flowing_plain : (image : Image) → IsFlowing image → IsPlain image (annotated image [] image.code)
flowing_plain image flowing = record {
  alone = flowing.alone;
  code = code_is image [] image.code;
  points = flowing.points;
  told = nothing_told image [] image.code;
  first = next_has image [] image.code;
  local = local_is image [] image.code flowing.fine flowing.leads;
}
