-- what is asked for is done by the function for it
use Rattle.std.proofs.lemmas.Result.{IfOk-weaker}
use Rattle.mos_vm.proofs.machine.Machine.settle.Goals as goal

pub returns-in-Puts : goal.returns-in-Puts
returns-in-Puts c = rw c.in-Puts.is (c.put.ensures c.args.budget)

pub returns-in-Prints : goal.returns-in-Prints
returns-in-Prints c = rw c.in-Prints.is (IfOk-weaker c.print.result _ _ (λ control leads. leads c.args.budget) c.print.ensures)

pub returns-in-Ticks : goal.returns-in-Ticks
returns-in-Ticks c = rw c.in-Ticks.is c.tick.ensures
