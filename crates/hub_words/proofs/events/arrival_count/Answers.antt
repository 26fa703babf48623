-- this entry makes one event more, or none
use Rattle.std.proofs.Common.{◌≡◌, ◌∙◌, ◌+◌, ap, arith, if◌then◌else◌}
use Rattle.job_calls.specs.Events.{comes_to}
use Rattle.hub_words.proofs.Prefixes.{at, length-arrivals-take, one_at_most}
use Rattle.hub_words.proofs.events.arrival_count.Goals as goal

pub loop-i-preserved : goal.loop-i-preserved
loop-i-preserved c =
    let more = length-arrivals-take c.args.run_number c.args.journal.now c.loop-i.i (c.loop-i.i + 1) c.index-journal-i.result c.loop-i-test.true c.index-journal-i.is (omega arith) in
    let one : c.one_if-count.result ≡ (if comes_to c.args.run_number (at c.args.journal.now c.loop-i.i c.index-journal-i.result) then 1 else 0) =
    c.one_if-count.ensures ∙ ap (λ b. if b then 1 else 0) c.comes_to.ensures in
    let small = one_at_most (comes_to c.args.run_number (at c.args.journal.now c.loop-i.i c.index-journal-i.result)) in
    let so_far = c.loop-i.invariant.0 in
    let few = c.loop-i.invariant.1 in
    (omega (arith, more, one, so_far), omega (arith, one, small, few))
