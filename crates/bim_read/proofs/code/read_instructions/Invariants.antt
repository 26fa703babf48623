use Rattle.std.proofs.Common.{◌≡◌, ◌-◌}
use Rattle.bim_read.specs.Code.{instructions_at}
use Rattle.bim_read.specs.Reading.{with_front}
use Rattle.bim_read.proofs.code.read_instructions.Given as goal

abbrev pub invariant-loop : goal.invariant-loop
invariant-loop l =
    with_front l.code (instructions_at (l.most - l.counter) l.size l.from) ≡ instructions_at l.initial.most l.fn.size l.initial.from
