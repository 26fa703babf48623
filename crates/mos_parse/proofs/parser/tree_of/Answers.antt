use Rattle.std.proofs.Common.{subst}
use Rattle.mos_source.specs.Answers.{IsFaultOf, BreaksBy}
use Rattle.mos_parse.proofs.Whole.{faulty_line}
use Rattle.mos_parse.proofs.parser.tree_of.Goals as goal

pub returns-in-Err-At : goal.returns-in-Err-At
returns-in-Err-At c =
    faulty_line c.args.bytes.now c.args.forms.items c.in-Err-At.line _ c.in-Err-At.kind
    (subst (IsFaultOf c.args.forms.items) c.in-Err-At.field-0-is c.in-Err-At.ensures.faulty)
    (subst (BreaksBy c.args.forms.items) c.in-Err-At.field-0-is c.in-Err-At.ensures.breaks)
    c.line_or_last.ensures
