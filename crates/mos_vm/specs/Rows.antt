-- As the code goes about it: what an instruction asks of the machine that the program keeps, when it
-- has done with the operands what it does.

use Rattle.std.specs.Prelude.{◌≡◌, ℕ, List, [], ◌∷◌, Option, Some, None}
use Rattle.bim_code.specs.declared.image.Image.{Image}
use Rattle.bim_code.specs.declared.instruction.Instruction.{Instruction}
use Rattle.mos_value.specs.Values.{Value, Place}
use Rattle.mos_value.specs.Answers.{Result, Gives, Faults, Sticks as NoAnswer}
use Rattle.bim_machine.specs.Machine.{Work, Act, On, Jumps, Stops, Puts, Prints, Ticks, OwnStop, Exits, Fails, Sticks}
use Rattle.bim_machine.specs.Instructions.{act}
use Rattle.mos_vm.specs.declared.asked.OwnStop.{OwnStop as VmOwnStop}
use Rattle.mos_vm.specs.declared.asked.OwnStop.TheVariants as halt
use Rattle.mos_vm.specs.declared.asked.Place.{Place as VmPlace}
use Rattle.mos_vm.specs.declared.asked.Asked.{Asked}
use Rattle.mos_vm.specs.declared.asked.Asked.TheVariants as asked
use Rattle.mos_vm.specs.declared.answers.Answer.{Answer}
use Rattle.mos_vm.specs.declared.answers.Answer.TheVariants as answer

-- the same stop in the words of the definitions
abbrev pub own_stop_of : VmOwnStop → OwnStop
own_stop_of (halt.Exits code) = Exits code
own_stop_of (halt.Fails kind) = Fails kind
own_stop_of halt.Sticks = Sticks

-- the same place in the words of the definitions
abbrev pub place_of : VmPlace → Place
place_of place = record { frame = place.frame; slot = place.slot }

-- the act that is asked for, with this at hand behind it
abbrev pub act_of : Asked → Work → Act
act_of asked.On work = On work
act_of asked.Jumps work = Jumps work
act_of (asked.Stops how) work = Stops (own_stop_of how)
act_of (asked.Puts place value) work = Puts ((place_of place, value) ∷ []) work
act_of asked.Prints work = Prints work.held (record work { held = [] })
act_of asked.Ticks work = Ticks (On work)

-- the instruction asks for that, in this image, with these places of the slots and this store
abbrev pub Asks : Image → Instruction → List Place → List (List Value) → Work → Asked → Work → Type 0
Asks image i slots store before asked after = act image i slots before store ≡ act_of asked after

-- an image in which there is nothing
abbrev pub blank : Image
blank = record { constants = []; types = []; params = []; globals = []; routines = []; points = []; code = [] }

-- the same for an instruction that looks at none of these
abbrev pub AsksAnywhere : Instruction → Work → Asked → Work → Type 0
AsksAnywhere i before asked after = Asks blank i [] [] before asked after

-- the answer of an operator or a function
abbrev pub result_of : Answer → Result
result_of (answer.Gives value) = Gives value
result_of (answer.Faults kind) = Faults kind
result_of answer.Sticks = NoAnswer

-- an operand that was wanted goes on, where it was found
abbrev pub with_top : {A : Type 0} → Option A → Work → (A → Work → Act) → Act
with_top None work go = Stops Sticks
with_top (Some x) work go = go x work
