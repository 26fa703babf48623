-- what the item gives, by its parts
use Rattle.std.proofs.Common.{◌≡◌, ◌+◌, ◌∙◌, sym, ap, Some, false, length, nat_eq, arith}
use Rattle.std.specs.Option.{option_copied}
use Rattle.std.proofs.lemmas.Option.{slice_get_within}
use Rattle.std.proofs.lemmas.Bool.Decides.{nat_tests}
use Rattle.mos_names.specs.NameLists.{place_of}
use Rattle.run_state.specs.Parameters.{and_then, trim, written_of, value_like}
use Rattle.mos_vm.specs.Givens.{names_of}
use Rattle.mos_vm.proofs.TextParts.{utf8_behind, all_behind}
use Rattle.mos_vm.proofs.GivenItems.{put_by}
use Rattle.mos_vm.proofs.parameters.put_item.Goals as goal

pub value_written-requires : goal.value_written-requires
value_written-requires c =
    let there = c.position-equals.ensures.there (omega (arith, c.if-equals-item.false, c.position-equals.ensures.within)) in
    c.trimmed-in-Some.ensures.utf8
    (utf8_behind c.args.item.now c.position-equals.result c.requires.utf8
    (omega (arith, c.if-equals-item.false, c.position-equals.ensures.within)) (omega (arith, there)))

pub set-requires : goal.set-requires
set-requires c =
    let found = sym c.at.ensures ∙ ap option_copied c.in-Some.is in
    let within = slice_get_within c.args.formals.now c.place_of-place.result c.in-Some.formal.now found in
    omega (arith, within, c.requires.all)

pub returns-in-Some-2-clause-put : goal.returns-in-Some-2-clause-put
returns-in-Some-2-clause-put c =
    let item = c.args.item.now in
    let formals = c.args.formals.now in
    let equals = c.position-equals.result in
    let apart : nat_eq equals (length item) ≡ false = grind (arith, nat_tests, c.if-equals-item.false) in
    let written = c.trimmed-in-Some.ensures.value ∙ ap trim (all_behind item (equals + 1)) in
    let value = ap (λ text. and_then (written_of text) (value_like c.in-Some.formal.now.default)) (sym written)
    ∙ ap (λ like. and_then (written_of c.trimmed-in-Some.result.now) (value_like like)) (sym c.default.ensures)
    ∙ sym c.in_ok-value-in-Some.ensures ∙ c.in-Some-2.is in
    put_by formals c.args.values.now item equals c.place_of-place.result c.in-Some.formal.now c.in-Some-2.value c.position-equals.ensures.value apart
    (c.place_of-place.ensures ∙ ap (λ name. place_of name (names_of formals)) c.trimmed.ensures.value)
    (sym c.at.ensures ∙ ap option_copied c.in-Some.is) value
    ∙ ap Some (sym c.set.ensures)
