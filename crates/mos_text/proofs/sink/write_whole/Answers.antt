use Rattle.std.proofs.Common.{◌≡◌, ◌∙◌, ap, arith, take, drop, ◌-◌, length}
use Rattle.std.proofs.lemmas.List.{take_all, length-drop}
use Rattle.mos_text.specs.SinkBytes.{bytes_after}
use Rattle.mos_text.proofs.AppendedLemmas.{appended-take}
use Rattle.mos_text.proofs.sink.write_whole.Goals as goal

pub loop-done-preserved : goal.loop-done-preserved
loop-done-preserved g c =
    let size = length-drop c.loop-done.done c.args.text.now in
    let rest : take (length c.args.text.now - c.loop-done.done) (drop c.loop-done.done c.args.text.now) ≡ drop c.loop-done.done c.args.text.now =
    take_all _ _ (omega (arith, size)) in
    let room : length (take (length c.args.text.now - c.loop-done.done) (drop c.loop-done.done c.args.text.now)) ≡ length c.args.text.now - c.loop-done.done =
    ap length rest ∙ size in (
      omega (arith, c.in-Took.ensures.some, room, c.loop-done-test.true),
      c.in-Took.ensures.bytes
          ∙ ap (λ piece. bytes_after (g.K.Sink.bytes c.loop-done.sink) (take c.in-Took.count piece)) rest
          ∙ ap (λ before. bytes_after before (take c.in-Took.count (drop c.loop-done.done c.args.text.now))) c.loop-done.invariant.1
          ∙ appended-take (g.K.Sink.bytes c.args.sink.now) c.args.text.now c.loop-done.done c.in-Took.count,
      omega (arith, c.loop-done.invariant.2, c.in-Took.ensures.later),
    )
