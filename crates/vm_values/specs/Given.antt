-- What comes of values, in the words of the definitions.

use Rattle.mos_value.specs.Answers.{Result, Gives, Faults, Sticks}
use Rattle.vm_values.specs.declared.answer.Answer.{Answer}
use Rattle.vm_values.specs.declared.answer.Answer.TheVariants as answer

-- what comes of values
abbrev pub result_of : Answer → Result
result_of (answer.Gives value) = Gives value
result_of (answer.Faults kind) = Faults kind
result_of answer.Sticks = Sticks
