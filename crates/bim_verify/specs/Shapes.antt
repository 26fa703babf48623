-- What each instruction makes of the stack that is known before it, the top first. It goes hand in hand with
-- the act of the machine.

use Rattle.std.specs.Prelude.{ℕ, Bool, true, false, List, [], ◌∷◌, Option, Some, None, slice_get, ◌&&◌, if◌then◌else◌}
use Rattle.bim_code.specs.declared.image.Image.{Image}
use Rattle.bim_code.specs.declared.image.Form.{Form}
use Rattle.bim_code.specs.declared.image.Form.TheVariants as form
use Rattle.bim_code.specs.declared.instruction.Comparison.{Comparison}
use Rattle.bim_code.specs.declared.instruction.Comparison.TheVariants.{Equal, NotEqual, Less, AtMost, Greater, AtLeast}
use Rattle.bim_code.specs.declared.instruction.Instruction.{Instruction}
use Rattle.bim_code.specs.declared.instruction.Instruction.TheVariants.{Tick, PushInt, PushBool, PushText, LoadGlobal, StoreGlobal, Swap, Add, Subtract, Compare, Jump, JumpIf, JumpNot, Show, Write, Line, End, Fault}
use Rattle.bim_rules.specs.declared.breach.Rule.{Rule}
use Rattle.bim_rules.specs.declared.breach.Rule.TheVariants.{Numbers, Operands}
use Rattle.bim_verify.specs.declared.kinds.Kind.{Kind}
use Rattle.bim_verify.specs.declared.kinds.Sort.{Sort}
use Rattle.bim_verify.specs.declared.kinds.Sort.TheVariants.{Integer, Boolean, Str}
use Rattle.bim_verify.specs.declared.rows.Outcome.{Outcome}
use Rattle.bim_verify.specs.declared.rows.Outcome.TheVariants as outcome
use Rattle.bim_verify.specs.Kinds.{value, sort_of, same_sort, is_no_array, is_integer, is_truth, is_text}

-- what comes of an instruction
pub data Shape : Type 0 where
  Breaks : (rule : Rule) → Shape  -- this rule is broken
  Flows : (stack : List Kind) → Shape  -- on behind it
  Goes : (stack : List Kind) → Shape  -- at the address that it names
  Splits : (on jump : List Kind) → Shape  -- behind it, or there
  Closes : Shape  -- it leaves the part

-- where the test holds
abbrev pub when : Bool → Shape → Shape
when holds shape = if holds then shape else Breaks Operands

-- where there is one
abbrev pub wanted : {A : Type 0} → Option A → (A → Shape) → Shape
wanted None go = Breaks Operands
wanted (Some x) go = go x

-- whatever is on top
abbrev pub on_kind : List Kind → (Kind → List Kind → Shape) → Shape
on_kind [] go = Breaks Operands
on_kind (kind ∷ stack) go = go kind stack

-- a value
abbrev pub if_value : Form → Shape → Shape
if_value form.Value shape = shape
if_value form.Place shape = Breaks Operands
if_value form.Walk shape = Breaks Operands

-- a value on top
abbrev pub on_value : List Kind → (Sort → List Kind → Shape) → Shape
on_value stack go = on_kind stack (λ kind rest. if_value kind.form (go kind.sort rest))

-- an integer on top
abbrev pub on_integer : List Kind → (List Kind → Shape) → Shape
on_integer stack go = on_value stack (λ sort rest. when (is_integer sort) (go rest))

-- a truth on top
abbrev pub on_truth : List Kind → (List Kind → Shape) → Shape
on_truth stack go = on_value stack (λ sort rest. when (is_truth sort) (go rest))

-- a text on top
abbrev pub on_text : List Kind → (List Kind → Shape) → Shape
on_text stack go = on_value stack (λ sort rest. when (is_text sort) (go rest))

-- the sort of a slot that is there
abbrev pub on_sort : Image → Option ℕ → (Sort → Shape) → Shape
on_sort image None go = Breaks Numbers
on_sort image (Some typ) go = go (sort_of image typ)

-- the sort of a global slot
abbrev pub on_global : Image → ℕ → (Sort → Shape) → Shape
on_global image slot go = on_sort image (slice_get image.globals slot) go

-- two integers or two texts
abbrev pub are_ordered : Sort → Sort → Bool
are_ordered Integer Integer = true
are_ordered Str Str = true
are_ordered a b = false

-- two values of one type, and no arrays
abbrev pub are_alike : Image → Sort → Sort → Bool
are_alike image a b = is_no_array image a && same_sort image a b

-- the comparison can be made
abbrev pub can_compare : Image → Comparison → Sort → Sort → Bool
can_compare image Equal a b = are_alike image a b
can_compare image NotEqual a b = are_alike image a b
can_compare image Less a b = are_ordered a b
can_compare image AtMost a b = are_ordered a b
can_compare image Greater a b = are_ordered a b
can_compare image AtLeast a b = are_ordered a b

-- a value goes into a place of this sort
abbrev pub stores : Image → Sort → List Kind → Shape
stores image wanted_sort stack = on_value stack (λ sort rest. when (same_sort image sort wanted_sort) (Flows rest))

-- two entries, each in the place of the other
abbrev pub swaps : Kind → List Kind → Shape
swaps b stack = on_kind stack (λ a below. Flows (a ∷ b ∷ below))

-- an integer of two
abbrev pub joins_integers : List Kind → Shape
joins_integers stack = on_integer stack (λ rest. on_integer rest (λ below. Flows (value Integer ∷ below)))

-- a truth of two values
abbrev pub compares : Image → Comparison → Sort → List Kind → Shape
compares image comparison b stack =
    on_value stack (λ a below. when (can_compare image comparison a b) (Flows (value Boolean ∷ below)))

-- a text of a value
abbrev pub shows : List Kind → Shape
shows stack = on_value stack (λ sort rest. Flows (value Str ∷ rest))

-- the shape of each instruction
abbrev pub shape : Image → Instruction → List Kind → Shape
shape image Tick stack = Flows stack
shape image (PushInt n) stack = Flows (value Integer ∷ stack)
shape image (PushBool n) stack = Flows (value Boolean ∷ stack)
shape image (PushText constant) stack = Flows (value Str ∷ stack)
shape image (LoadGlobal slot) stack = on_global image slot (λ sort. Flows (value sort ∷ stack))
shape image (StoreGlobal slot) stack = on_global image slot (λ sort. stores image sort stack)
shape image Swap stack = on_kind stack swaps
shape image Add stack = joins_integers stack
shape image Subtract stack = joins_integers stack
shape image (Compare comparison) stack = on_value stack (compares image comparison)
shape image (Jump address) stack = Goes stack
shape image (JumpIf address) stack = on_truth stack (λ rest. Splits rest rest)
shape image (JumpNot address) stack = on_truth stack (λ rest. Splits rest rest)
shape image Show stack = shows stack
shape image Write stack = on_text stack Flows
shape image Line stack = on_truth stack Flows
shape image End stack = on_integer stack (λ rest. Closes)
shape image (Fault kind) stack = Closes

-- how the code tells a shape: beside the stack that is left
abbrev pub shape_of : Outcome → List Kind → Shape
shape_of (outcome.Breaks rule) stack = Breaks rule
shape_of outcome.Flows stack = Flows stack
shape_of outcome.Goes stack = Goes stack
shape_of outcome.Splits stack = Splits stack stack
shape_of outcome.Closes stack = Closes
