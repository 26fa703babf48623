-- an item for which there is no room
use Rattle.std.proofs.Common.{arith}
use Rattle.std.proofs.lemmas.Result.{err_from_is_err_and}
use Rattle.std.specs.Prelude.{string_bytes}
use Rattle.vm_lib.proofs.GrowthLemmas.{over_item}
use Rattle.vm_lib.proofs.growing.put_more.Goals as goal

pub returns-in_err-put_next : goal.returns-in_err-put_next
returns-in_err-put_next c =
    let p = err_from_is_err_and c.from_residual.result c.from_residual.ensures.1 in
    let over = over_item c.in_err-put_next.field-0.0 (string_bytes c.loop-item.text) (string_bytes c.args.text.now) c.args.items.now c.loop-item.item-index
    c.item-item.result (omega (arith, c.loop-item-test.true)) c.item-item.is c.loop-item.invariant.whole c.in_err-put_next.ensures in
    rw (p.1, p.2) over
