-- what begins at a byte is the instruction at that address
use Rattle.std.proofs.Common.{◌∙◌, ap}
use Rattle.bim_code.specs.Code.{instruction_at}
use Rattle.bim_rules.specs.ByAddress.{found_at}
use Rattle.bim_rules.proofs.Cells.{begun_is}
use Rattle.bim_rules.proofs.code_map.CodeMap.instruction_at.Goals as goal

pub returns : goal.returns
returns c =
    c.found_at.ensures ∙ ap (λ cells. found_at cells c.args.address) (c.as_slice.ensures.value ∙ c.self.invariant.cells_are)
    ∙ begun_is c.self.inside.image.now.code c.args.address ∙ ap (λ image. instruction_at image.code c.args.address) c.self.view_is
