use Rattle.std.proofs.Common.{subst}
use Rattle.mos_typing.specs.Spellings.{FindsNames}
use Rattle.mos_form.proofs.Listing.{names_with, no_names}
use Rattle.mos_form.proofs.form_reader.typed.Goals as goal

pub returns-in-Some : goal.returns-in-Some
returns-in-Some c = names_with c.args.before.now c.args.behind.now c.in-Some.names
    (subst (FindsNames c.args.before.now) c.in-Some.is c.in_ok-found.ensures)
    c.typed_as.result c.typed_as.ensures

pub returns-in-None : goal.returns-in-None
returns-in-None c = no_names c.args.before.now c.args.behind.now
    (subst (FindsNames c.args.before.now) c.in-None.is c.in_ok-found.ensures)
