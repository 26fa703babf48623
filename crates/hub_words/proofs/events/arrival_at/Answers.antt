-- the place is found where no event is left before it, and is none where too few are made
use Rattle.std.proofs.Common.{◌≡◌, ◌∙◌, ◌+◌, sym, ap, arith, length, if◌then◌else◌, take_all}
use Rattle.job_calls.specs.Events.{arrivals, comes_to}
use Rattle.hub_words.proofs.Prefixes.{at, arrival-here, no_arrival, length-arrivals-take, enough}
use Rattle.hub_words.proofs.events.arrival_at.Goals as goal

pub returns-then-left-eq0 : goal.returns-then-left-eq0
returns-then-left-eq0 c =
    let so_far = c.loop-i.invariant in
    let none = c.if-left-eq0.true in
    sym (arrival-here c.args.run_number c.args.journal.now c.loop-i.i c.args.number c.index-journal-i.result c.loop-i-test.true c.index-journal-i.is
    (omega (arith, so_far, none)) (sym c.comes_to-comes.ensures ∙ c.if-comes.true))

pub loop-i-preserved : goal.loop-i-preserved
loop-i-preserved c =
    let more = length-arrivals-take c.args.run_number c.args.journal.now c.loop-i.i (c.loop-i.i + 1) c.index-journal-i.result c.loop-i-test.true c.index-journal-i.is (omega arith) in
    let one : c.one_if-left.result ≡ (if comes_to c.args.run_number (at c.args.journal.now c.loop-i.i c.index-journal-i.result) then 1 else 0) =
    c.one_if-left.ensures ∙ ap (λ b. if b then 1 else 0) c.comes_to-comes.ensures in
    let some = enough c.comes_to-comes.result c.one_if-left.result c.loop-i.left c.one_if-left.ensures c.else-comes.either in
    let so_far = c.loop-i.invariant in
    omega (arith, more, one, some, so_far)

pub returns : goal.returns
returns c =
    let so_far = c.loop-i.invariant in
    let whole = ap (λ xs. length (arrivals c.args.run_number xs)) (take_all c.loop-i.i c.args.journal.now c.loop-i-test.false) in
    sym (no_arrival c.args.run_number c.args.journal.now c.args.number (omega (arith, so_far, whole)))
