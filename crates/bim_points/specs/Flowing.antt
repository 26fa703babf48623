-- Code alone: the stack at each instruction is what those before it make of an empty one.

use Rattle.std.specs.Prelude.{◌≡◌, ◌≤◌, ℕ, Bool, true, false, List, [], ◌∷◌, ◌++◌, Option, Some, None, All, length}
use Rattle.bim_code.specs.declared.image.Image.{Image}
use Rattle.bim_code.specs.declared.instruction.Instruction.{Instruction}
use Rattle.bim_code.specs.Code.{code_size}
use Rattle.bim_code.specs.Rows.{named_address}
use Rattle.bim_code.specs.Rules.{leaves_part}
use Rattle.bim_verify.specs.declared.kinds.Kind.{Kind}
use Rattle.bim_verify.specs.Shapes.{Shape, Breaks, Flows, Goes, Splits, Closes, shape}
use Rattle.bim_points.specs.Annotated.{Step}
use Rattle.bim_points.specs.Wanted.{is_wanted, empty_points}

-- the stack behind an instruction of this shape; behind one that leaves its part it is empty
abbrev pub next_stack : Bool → Shape → List Kind
next_stack true found = []
next_stack false (Flows stack) = stack
next_stack false (Splits on jump) = on
next_stack false (Breaks rule) = []
next_stack false (Goes stack) = []
next_stack false Closes = []

-- behind an instruction
abbrev pub stack_behind : Image → List Kind → Instruction → List Kind
stack_behind image stack i = next_stack (leaves_part i) (shape image i stack)

-- behind code
abbrev pub stack_after : Image → List Kind → List Instruction → List Kind
stack_after image stack [] = stack
stack_after image stack (i ∷ is) = stack_after image (stack_behind image stack i) is

-- code with its stacks
abbrev pub annotated : Image → List Kind → List Instruction → List Step
annotated image stack [] = []
annotated image stack (i ∷ is) = record { instruction = i; stack = stack; told = [] } ∷ annotated image (stack_behind image stack i) is

-- an instruction of this shape finds what it wants, and what it takes along a jump is empty
abbrev pub IsFine : Bool → Shape → Type 0
IsFine true (Goes stack) = stack ≡ []
IsFine true Closes = Unit {0}
IsFine true (Breaks rule) = ⊥
IsFine true (Flows stack) = ⊥
IsFine true (Splits on jump) = ⊥
IsFine false (Flows stack) = Unit {0}
IsFine false (Splits on jump) = jump ≡ []
IsFine false (Breaks rule) = ⊥
IsFine false (Goes stack) = ⊥
IsFine false Closes = ⊥

-- each instruction, where the stack is this before them
abbrev pub AreFine : Image → List Kind → List Instruction → Type 0
AreFine image stack [] = Unit {0}
AreFine image stack (i ∷ is) =
    IsFine (leaves_part i) (shape image i stack) × (length stack ≤ 40000) × AreFine image (stack_behind image stack i) is

-- an instruction begins at the address, if there is one, and the stack before it is empty
pub record IsEmptyBefore (image : Image) (address : ℕ) : Type 0 where
  pub before : List Instruction
  pub i : Instruction
  pub rest : List Instruction
  pub code : image.code ≡ before ++ i ∷ rest
  pub at : code_size before ≡ address
  pub empty : stack_after image [] before ≡ []

-- where an instruction leads, if it does
abbrev pub LeadsToEmpty : Image → Option ℕ → Type 0
LeadsToEmpty image None = Unit {0}
LeadsToEmpty image (Some address) = IsEmptyBefore image address

-- an image of one part, with the points that are wanted
pub record IsFlowing (image : Image) : Type 0 where
  pub alone : image.routines ≡ []
  pub points : image.points ≡ empty_points (is_wanted image.code) 0 image.code
  pub fine : AreFine image [] image.code
  pub leads : All (λ (i : Instruction). LeadsToEmpty image (named_address i)) image.code
