-- the piece that is found is wrong
use Rattle.mosel_run.specs.Accepted.{not_built}
use Rattle.mosel_run.proofs.reader.refuse_unbuilt.Goals as goal

pub returns-in-Some-clause-wrong : goal.returns-in-Some-clause-wrong
returns-in-Some-clause-wrong c =
    let h = rw c.in-Some.is at c.in_ok-refusal.ensures in
    not_built c.args.tree.now c.in-Some.refusal.line c.in-Some.refusal.kind h
