-- the addresses in rising order tell the part
use Rattle.std.proofs.Common.{◌∙◌, ap}
use Rattle.bim_code.specs.Rules.{part_of}
use Rattle.bim_rules.specs.ByAddress.{many_up_to}
use Rattle.bim_rules.proofs.Starts.{part_by_starts}
use Rattle.bim_rules.proofs.code_map.CodeMap.part_of.Goals as goal

pub returns : goal.returns
returns c =
    c.many_up_to.ensures ∙ ap (many_up_to c.args.address) c.as_slice.ensures.value
    ∙ part_by_starts c.self.inside.image.now.routines _ c.args.address c.self.invariant.same
    ∙ ap (λ image. part_of image.routines c.args.address) c.self.view_is
