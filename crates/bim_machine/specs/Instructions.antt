-- What each instruction asks of the machine, given its image, whose tables it may look at, the places of
-- the slots, what is at hand, and the store. It changes none of them.

use Rattle.std.specs.Prelude.{ℕ, zero, suc, ℤ, Bool, true, false, List, [], ◌∷◌, ◌++◌, Option, Some, None, slice_get}
use Rattle.mos_text.specs.declared.fault_kind.FaultKind.{FaultKind}
use Rattle.mos_text.specs.declared.fault_kind.FaultKind.TheVariants.{Overflow, DivZero, Range, Empty, TooBig, Depth, OutFull, BadParam, EventClass, BadName, BadData, NoLabel}
use Rattle.mos_text.specs.declared.scalar.Scalar.TheVariants.{Int, Bool as Truth, Str}
use Rattle.bim_code.specs.declared.image.Image.{Image}
use Rattle.bim_code.specs.declared.instruction.Comparison.{Comparison}
use Rattle.bim_code.specs.declared.instruction.Comparison.TheVariants.{Equal, NotEqual, Less, AtMost, Greater, AtLeast}
use Rattle.bim_code.specs.declared.instruction.Instruction.{Instruction}
use Rattle.bim_code.specs.declared.instruction.Instruction.TheVariants.{Tick, PushInt, PushBool, PushText, LoadGlobal, StoreGlobal, Swap, Add, Subtract, Compare, Jump, JumpIf, JumpNot, Show, Write, Line, End, Fault}
use Rattle.mos_value.specs.Values.{Value, One, Place, Operand, Holds}
use Rattle.mos_value.specs.Answers.{Operation, between, sum, difference, compare, show, Result, Gives, Faults, Sticks as NoAnswer, answer, text}
use Rattle.mos_value.specs.Answers as how
use Rattle.run_state.specs.State.{line_end}
use Rattle.run_state.specs.Places.{load}
use Rattle.bim_machine.specs.Machine.{Work, push, Exits, Fails, Sticks, Act, On, Jumps, Stops, Puts, Prints, Ticks}

-- Operands of instructions that stand for one of a few values.

-- 0 or 1
abbrev pub truth_of_operand : ℕ → Option Bool
truth_of_operand zero = Some false
truth_of_operand (suc zero) = Some true
truth_of_operand (suc (suc n)) = None

-- the faults that a run can make by itself, in the order of their numbers
abbrev pub own_faults : List FaultKind
own_faults =
    Overflow ∷ DivZero ∷ Range ∷ Empty ∷ TooBig ∷ Depth ∷ OutFull ∷ BadParam ∷ EventClass ∷ BadName ∷ BadData ∷ NoLabel ∷ []

-- 1 to 12
abbrev pub own_fault : ℕ → Option FaultKind
own_fault zero = None
own_fault (suc n) = slice_get own_faults n

-- the comparison that an instruction makes
abbrev pub comparison_of : Comparison → how.Comparison
comparison_of Equal = how.equal
comparison_of NotEqual = how.not_equal
comparison_of Less = how.less
comparison_of AtMost = how.at_most
comparison_of Greater = how.greater
comparison_of AtLeast = how.at_least

-- What stands at hand.

-- what is there, or stuck
abbrev pub on_some : {A : Type 0} → Option A → (A → Act) → Act
on_some None go = Stops Sticks
on_some (Some x) go = go x

-- the same with other operands
abbrev pub with_stack : List Operand → Work → Work
with_stack stack work = record work { stack = stack }

-- the operand on top, with what is below it at hand
abbrev pub on_operand : List Operand → Work → (Operand → Work → Act) → Act
on_operand [] work go = Stops Sticks
on_operand (operand ∷ below) work go = go operand (with_stack below work)

-- a value on top
abbrev pub on_value : List Operand → Work → (Value → Work → Act) → Act
on_value (Holds value ∷ below) work go = go value (with_stack below work)
on_value _ work go = Stops Sticks

-- an integer on top
abbrev pub on_integer : List Operand → Work → (ℤ → Work → Act) → Act
on_integer (Holds (One (Int n)) ∷ below) work go = go n (with_stack below work)
on_integer _ work go = Stops Sticks

-- a text on top
abbrev pub on_text : List Operand → Work → (List ℕ → Work → Act) → Act
on_text (Holds (One (Str t)) ∷ below) work go = go t (with_stack below work)
on_text _ work go = Stops Sticks

-- a truth on top
abbrev pub on_truth : List Operand → Work → (Bool → Work → Act) → Act
on_truth (Holds (One (Truth b)) ∷ below) work go = go b (with_stack below work)
on_truth _ work go = Stops Sticks

-- Answers of operators.

-- the answer of an operator goes on top, or stops
abbrev pub act_by_result : Result → Work → Act
act_by_result (Gives value) work = On (push value work)
act_by_result (Faults kind) work = Stops (Fails kind)
act_by_result NoAnswer work = Stops Sticks

-- so many values off the operands, before those so far; the last written stands on top
abbrev pub values_off : ℕ → List Operand → List Value → Option (List Value × List Operand)
values_off zero stack sofar = Some (sofar, stack)
values_off (suc n) (Holds value ∷ stack) sofar = values_off n stack (value ∷ sofar)
values_off (suc n) _ sofar = None

-- an operator on so many values
abbrev pub operate : Operation → ℕ → Work → Act
operate operation many work =
    on_some (values_off many work.stack []) (λ (off : List Value × List Operand). act_by_result (answer operation off.0) (with_stack off.1 work))

-- Jumps by the truth on top, which they take.

-- where it is true
abbrev pub jumps_if : Bool → Work → Act
jumps_if true work = Jumps work
jumps_if false work = On work

-- where it is false
abbrev pub jumps_not : Bool → Work → Act
jumps_not true work = On work
jumps_not false work = Jumps work

-- a global slot has the place of its own number in the model's frame
abbrev pub global : ℕ → Place
global slot = record { frame = 0; slot = slot }

-- the act of each instruction
abbrev pub act : Image → Instruction → List Place → Work → List (List Value) → Act
act image Tick slots work store = Ticks (On work)
act image (PushInt n) slots work store = On (push (One (Int n)) work)
act image (PushBool n) slots work store = on_some (truth_of_operand n) (λ b. On (push (One (Truth b)) work))
act image (PushText k) slots work store = on_some (slice_get image.constants k) (λ t. act_by_result (text t) work)
act image (LoadGlobal slot) slots work store = on_some (load (global slot) store) (λ value. On (push value work))
act image (StoreGlobal slot) slots work store = on_value work.stack work (λ value below. Puts ((global slot, value) ∷ []) below)
act image Swap slots work store =
    on_operand work.stack work (λ b rest. on_operand rest.stack rest (λ a below. On (with_stack (a ∷ b ∷ below.stack) below)))
act image Add slots work store = operate (between sum) 2 work
act image Subtract slots work store = operate (between difference) 2 work
act image (Compare comparison) slots work store = operate (between (compare (comparison_of comparison))) 2 work
act image (Jump address) slots work store = Jumps work
act image (JumpIf address) slots work store = on_truth work.stack work jumps_if
act image (JumpNot address) slots work store = on_truth work.stack work jumps_not
act image Show slots work store = operate show 1 work
act image Write slots work store = on_text work.stack work (λ t below. On (record below { held = below.held ++ t }))
act image Line slots work store =
    on_truth work.stack work (λ newline below. Prints (below.held ++ line_end newline) (record below { held = [] }))
act image End slots work store = on_integer work.stack work (λ code below. Stops (Exits code))
act image (Fault kind) slots work store = on_some (own_fault kind) (λ k. Stops (Fails k))
