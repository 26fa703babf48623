-- Code with the stack before each instruction, from which points are taken; and when it is sound: each instruction finds its
-- stack, and leaves that of the instruction behind it and of the address that it names.

use Rattle.std.specs.Prelude.{◌≡◌, ◌≤◌, ℕ, ◌+◌, Bool, true, false, List, [], ◌∷◌, Option, Some, None, length, map, nat_eq, if◌then◌else◌}
use Rattle.bim_code.specs.declared.image.Image.{Image}
use Rattle.bim_code.specs.declared.image.Operand.{Operand}
use Rattle.bim_code.specs.declared.image.Point.{Point}
use Rattle.bim_code.specs.declared.instruction.Instruction.{Instruction}
use Rattle.bim_code.specs.Rows.{width, named_address}
use Rattle.bim_rules.specs.Parts.{is_start}
use Rattle.bim_verify.specs.declared.kinds.Kind.{Kind}
use Rattle.bim_verify.specs.Shapes.{Shape, Breaks, Flows, Goes, Splits, Closes, shape}
use Rattle.bim_verify.specs.Stacks.{Known, Stack, Nothing, Unsaid, stack_of, shape_leaves}

-- an instruction, the stack before it, the top first, and what a point tells where there is one
pub record Step : Type 0 where
  pub instruction : Instruction
  pub stack : List Kind
  pub told : List Operand

-- the code alone
abbrev pub code_of : List Step → List Instruction
code_of steps = map (λ (s : Step). s.instruction) steps

-- the point at an address that a step tells
abbrev pub point_of : ℕ → Step → Point
point_of at s = record { address = at; stack = s.told }

-- the points at the addresses that are chosen, of steps that begin at `at`
abbrev pub points_from : (ℕ → Bool) → ℕ → List Step → List Point
points_from chosen at [] = []
points_from chosen at (s ∷ steps) =
    if chosen at then point_of at s ∷ points_from chosen (at + width s.instruction) steps
    else points_from chosen (at + width s.instruction) steps

-- the step that begins at an address, of steps that begin at `at`
abbrev pub step_from : ℕ → List Step → ℕ → Option Step
step_from at [] address = None
step_from at (s ∷ steps) address = if nat_eq at address then Some s else step_from (at + width s.instruction) steps address

-- what is told of a step, as the verifier knows it
abbrev pub told_of : Image → Step → List Kind
told_of image s = stack_of image (point_of 0 s)

-- what the step before leaves is this step's stack, or nothing, and then there is a point
abbrev pub Meets : (ℕ → Bool) → ℕ → Known → List Kind → Type 0
Meets chosen at (Stack stack) kinds = stack ≡ kinds
Meets chosen at Nothing kinds = chosen at ≡ true
Meets chosen at Unsaid kinds = ⊥

-- where a part begins the stack is empty
abbrev pub ArrivesAt : Bool → (ℕ → Bool) → ℕ → Known → List Kind → Type 0
ArrivesAt true chosen at left kinds = kinds ≡ []
ArrivesAt false chosen at left kinds = Meets chosen at left kinds

-- by whether one begins there
abbrev pub Arrives : Image → (ℕ → Bool) → ℕ → Known → List Kind → Type 0
Arrives image chosen at left kinds = ArrivesAt (is_start image at) chosen at left kinds

-- at the named address, if one is, there is a point of a step, and it tells this stack
abbrev pub LeadsTo : Image → (ℕ → Bool) → List Step → Option ℕ → List Kind → Type 0
LeadsTo image chosen all None stack = Unit {0}
LeadsTo image chosen all (Some address) stack =
    (s : Step) × (step_from 0 all address ≡ Some s) × (told_of image s ≡ stack) × (chosen address ≡ true)

-- the instruction finds what it wants, and leads where this is told
abbrev pub Finds : Image → (ℕ → Bool) → List Step → Option ℕ → Shape → Type 0
Finds image chosen all named (Breaks rule) = ⊥
Finds image chosen all named (Flows stack) = Unit {0}
Finds image chosen all named (Goes stack) = LeadsTo image chosen all named stack
Finds image chosen all named (Splits on jump) = LeadsTo image chosen all named jump
Finds image chosen all named Closes = Unit {0}

-- steps that begin at `at`, to which this is left
abbrev pub AreSound : Image → (ℕ → Bool) → List Step → ℕ → Known → List Step → Type 0
AreSound image chosen all at left [] = Unit {0}
AreSound image chosen all at left (s ∷ steps) =
    let found : Shape = shape image s.instruction s.stack in
    Arrives image chosen at left s.stack
    × (chosen at ≡ true → told_of image s ≡ s.stack)
    × (length s.stack ≤ 40000)
    × Finds image chosen all (named_address s.instruction) found
    × AreSound image chosen all (at + width s.instruction) (shape_leaves found) steps

-- the image has this code, with points at the chosen addresses, and all of it is sound
pub record IsSound (image : Image) (chosen : ℕ → Bool) (steps : List Step) : Type 0 where
  pub code : image.code ≡ code_of steps
  pub points : image.points ≡ points_from chosen 0 steps
  pub sound : AreSound image chosen steps 0 Nothing steps
