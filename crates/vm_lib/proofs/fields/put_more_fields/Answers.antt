-- a field for which there is no room
use Rattle.std.proofs.Common.{arith, rules}
use Rattle.std.proofs.lemmas.Result.{err_from_is_err_and}
use Rattle.std.specs.Prelude.{string_bytes}
use Rattle.vm_lib.proofs.GrowthLemmas.{over_field}
use Rattle.vm_lib.proofs.fields.put_more_fields.Goals as goal

pub returns-in_err-put_next_field : goal.returns-in_err-put_next_field
returns-in_err-put_next_field c =
    let p = err_from_is_err_and c.from_residual.result c.from_residual.ensures.1 in
    let over = over_field c.in_err-put_next_field.field-0.0 (string_bytes c.loop-name.text) (string_bytes c.args.text.now) c.args.names.now c.args.values.now c.loop-name.name-index
    c.name-item.result c.in-Some.value.now c.in-Some.more.now c.loop-name.rest.now (omega (arith, c.loop-name-test.true)) c.name-item.is (search rules) c.loop-name.invariant.whole c.in_err-put_next_field.ensures in
    rw (p.1, p.2) over
