-- The rules on the operand stack.

use Rattle.std.specs.Prelude.{ℕ, ◌+◌, Bool, true, false, List, [], ◌∷◌, ◌++◌, Option, Some, None, length, map, reverse, nat_eq, nat_le, nat_lt, if◌then◌else◌}
use Rattle.bim_code.specs.declared.image.Image.{Image}
use Rattle.bim_code.specs.declared.image.Point.{Point}
use Rattle.bim_code.specs.declared.instruction.Instruction.{Instruction}
use Rattle.bim_code.specs.Code.{code_size}
use Rattle.bim_code.specs.Rows.{width, named_address}
use Rattle.bim_rules.specs.declared.breach.Breach.{Breach}
use Rattle.bim_rules.specs.declared.breach.Rule.TheVariants.{Stacks, Targets, Heights}
use Rattle.bim_rules.specs.declared.breach.Table.TheVariants as table
use Rattle.bim_rules.specs.Breaches.{mark}
use Rattle.bim_rules.specs.Parts.{is_start}
use Rattle.bim_verify.specs.declared.kinds.Kind.{Kind}
use Rattle.bim_verify.specs.declared.rows.Told.{Told}
use Rattle.bim_verify.specs.declared.rows.Told.TheVariants as told
use Rattle.bim_verify.specs.Kinds.{kind_of, same_stack}
use Rattle.bim_verify.specs.Shapes.{Shape, Breaks, Flows, Goes, Splits, Closes, shape}

-- what is known of the stack before an instruction
pub data Known : Type 0 where
  Stack : (stack : List Kind) → Known
  Nothing : Known  -- no instruction leads there
  Unsaid : Known  -- a rule is broken before it, and nothing is said up to the next point or part

-- how the code tells it: beside a stack
abbrev pub known_of : Told → List Kind → Known
known_of told.Stack stack = Stack stack
known_of told.Nothing stack = Nothing
known_of told.Unsaid stack = Unsaid

-- the stack that a point tells, the top first
abbrev pub stack_of : Image → Point → List Kind
stack_of image point = reverse (map (kind_of image) point.stack)

-- the first of the points at an address
abbrev pub first_point : ℕ → List Point → Option Point
first_point address [] = None
first_point address (point ∷ points) = if nat_eq point.address address then Some point else first_point address points

-- the point at an address within the code
abbrev pub point_at : Image → ℕ → Option Point
point_at image address = if nat_lt address (code_size image.code) then first_point address image.points else None

-- a part begins with an empty stack
abbrev pub arriving : Image → ℕ → Known → Known
arriving image at left = if is_start image at then Stack [] else left

-- a point tells the stack, whatever was known
abbrev pub with_point : Image → Option Point → Known → Known
with_point image None known = known
with_point image (Some point) known = Stack (stack_of image point)

-- what is known before the instruction at an address, from what the one before it leaves
unfoldable pub before : Image → ℕ → Known → Known
before image at left = with_point image (point_at image at) (arriving image at left)

-- what is known and what the point tells are one stack, and one of them tells it
abbrev pub is_known : Image → Option Point → Known → Bool
is_known image None Nothing = false
is_known image (Some point) (Stack stack) = same_stack image (stack_of image point) stack
is_known image point known = true

-- a point is there, and tells this stack
abbrev pub is_told_by : Image → Option Point → List Kind → Bool
is_told_by image None stack = false
is_told_by image (Some point) stack = same_stack image (stack_of image point) stack

-- that at the address that is named, if one is
abbrev pub is_told : Image → Option ℕ → List Kind → Bool
is_told image None stack = true
is_told image (Some address) stack = is_told_by image (point_at image address) stack

-- the breaches by a shape: its own, or that of the address to which it leads
abbrev pub shape_breaches : Image → ℕ → Option ℕ → Shape → List Breach
shape_breaches image at named (Breaks rule) = mark rule table.Code at false
shape_breaches image at named (Flows stack) = []
shape_breaches image at named (Goes stack) = mark Targets table.Code at (is_told image named stack)
shape_breaches image at named (Splits on jump) = mark Targets table.Code at (is_told image named jump)
shape_breaches image at named Closes = []

-- the breaches by an instruction, as far as the stack before it is known
abbrev pub known_breaches : Image → ℕ → Instruction → Known → List Breach
known_breaches image at i (Stack stack) =
    mark Heights table.Code at (nat_le (length stack) 40000)
    ++ shape_breaches image at (named_address i) (shape image i stack)
known_breaches image at i Nothing = []
known_breaches image at i Unsaid = []

-- what a shape leaves to the next instruction
abbrev pub shape_leaves : Shape → Known
shape_leaves (Breaks rule) = Unsaid
shape_leaves (Flows stack) = Stack stack
shape_leaves (Goes stack) = Nothing
shape_leaves (Splits on jump) = Stack on
shape_leaves Closes = Nothing

-- what an instruction leaves to the next
unfoldable pub leaves : Image → Instruction → Known → Known
leaves image i (Stack stack) = shape_leaves (shape image i stack)
leaves image i Nothing = Unsaid
leaves image i Unsaid = Unsaid

-- the breaches by the instruction at an address, to which this is left
unfoldable pub line_breaches : Image → ℕ → Instruction → Known → List Breach
line_breaches image at i left =
    mark Stacks table.Code at (is_known image (point_at image at) (arriving image at left))
    ++ known_breaches image at i (before image at left)

-- the breaches by code that begins at an address, to which this is left
abbrev pub stack_breaches : Image → ℕ → Known → List Instruction → List Breach
stack_breaches image at left [] = []
stack_breaches image at left (i ∷ is) =
    line_breaches image at i left ++ stack_breaches image (at + width i) (leaves image i (before image at left)) is
