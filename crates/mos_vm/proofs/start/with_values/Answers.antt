-- one parameter after the other
use Rattle.std.proofs.Common.{◌+◌, ◌∙◌, sym, ap, drop, get_or, pos, arith}
use Rattle.std.specs.Option.{option_copied}
use Rattle.std.specs.Prelude.{slice_set}
use Rattle.std.proofs.lemmas.Option.{slice_get-get_or}
use Rattle.bim_code.specs.declared.image.Parameter.{Parameter}
use Rattle.bim_code.specs.declared.image.Default.TheVariants.{Number}
use Rattle.mos_value.specs.Values.{One}
use Rattle.run_state.specs.Parameters.{with_values}
use Rattle.mos_vm.specs.Beginnings.{slots_of}
use Rattle.mos_vm.proofs.GivenValues.{no_value, next_value}
use Rattle.mos_vm.proofs.start.with_values.Goals as goal

pub returns-in-None : goal.returns-in-None
returns-in-None c =
    let none = sym c.get.ensures.value ∙ ap option_copied c.in-None.is in
    let there = slice_get-get_or c.args.params.now c.loop-place.place (record { name = 0; slot = 0; default = Number (pos 0) })
    (omega (arith, c.loop-place-test.true)) in
    sym (no_value c.args.params.now c.args.given c.loop-place.values c.loop-place.place _ there none) ∙ c.loop-place.invariant

pub loop-place-preserved : goal.loop-place-preserved
loop-place-preserved c =
    let place = c.loop-place.place in
    let p : Parameter = get_or c.args.params.now place (record { name = 0; slot = 0; default = Number (pos 0) }) in
    let there = slice_get-get_or c.args.params.now place (record { name = 0; slot = 0; default = Number (pos 0) })
    (omega (arith, c.loop-place-test.true)) in
    let found = sym c.get.ensures.value ∙ ap option_copied c.in-Some.is in
    let put = c.set.ensures ∙ ap (slice_set c.loop-place.values p.slot) (c.one.ensures ∙ ap One c.in_ok-copy-in-Some.ensures) in
    ap (with_values (slots_of (drop (place + 1) c.args.params.now)) (drop (place + 1) c.args.given)) put
    ∙ next_value c.args.params.now c.args.given c.loop-place.values place p c.in-Some.value.now there found (omega (arith, c.if-slot-len.false, c.len.ensures))
    ∙ c.loop-place.invariant
