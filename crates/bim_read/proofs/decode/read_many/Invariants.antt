use Rattle.std.proofs.Common.{◌≡◌, ◌-◌}
use Rattle.bim_read.specs.Reading.{many, with_front}
use Rattle.bim_read.proofs.decode.read_many.Given as goal

abbrev pub invariant-loop : goal.invariant-loop
invariant-loop g l =
    with_front l.items (many g.T.Decode.reading (l.count - l.counter) l.from) ≡ many g.T.Decode.reading l.initial.count l.initial.from
