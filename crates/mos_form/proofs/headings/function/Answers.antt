use Rattle.std.proofs.Common.{Some}
use Rattle.mos_tree.specs.declared.declaration.BaseType.TheVariants as base
use Rattle.mos_form.proofs.Routines.{no_name}
use Rattle.mos_form.proofs.headings.function.Goals as goal

pub returns-in-None : goal.returns-in-None
returns-in-None c = no_name c.args.forward (Some base.Text) c.args.words.now c.in-None.ensures
