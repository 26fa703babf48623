use Rattle.std.proofs.Common.{rules, ◌≡◌, ◌<◌, length, sym, ◌∙◌}
use Rattle.mos_declarations.proofs.Remaining.{some_left}
use Rattle.mos_declarations.proofs.headings.same_formals.Goals as goal

pub returns-in_default : goal.returns-in_default
returns-in_default c =
    let more : c.loop-formal.formal-index < length c.args.found.now = search rules in
    let none : length c.loop-formal.rest.now ≡ 0 = search rules in
    sym (some_left c.args.found.now c.loop-formal.formal-index c.loop-formal.rest.now more none) ∙ c.loop-formal.invariant
