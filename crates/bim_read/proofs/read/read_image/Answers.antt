use Rattle.std.proofs.Common.{Result, Ok, sym, ap, ◌∙◌, subst}
use Rattle.bim_code.specs.declared.image.Image.{Image}
use Rattle.bim_read.specs.declared.fault.Bad.{Bad}
use Rattle.bim_read.specs.Reading.{Fails}
use Rattle.bim_read.specs.Images.{image_from}
use Rattle.bim_read.proofs.ImageCodecs.{read_back, only_written}
use Rattle.bim_read.proofs.read.read_image.Goals as goal

pub returns-in-Ok-clause-found : goal.returns-in-Ok-clause-found
returns-in-Ok-clause-found c =
    only_written c.args.bytes.now c.in-Ok.image (λ i. let byte = c.type_inv.bytes i in byte.fits) (c.in-Ok.ensures {u = tt})

pub returns-in-Ok-clause-only : goal.returns-in-Ok-clause-only
returns-in-Ok-clause-only c = λ image fits e. sym (read_back image fits) ∙ ap image_from (sym e) ∙ c.in-Ok.ensures {u = tt}

pub returns-in-Err-clause-only : goal.returns-in-Err-clause-only
returns-in-Err-clause-only c = λ image fits e.
    c.fault_in.ensures (Ok image)
    (subst (λ (r : Result Image Bad). Fails c.in-Err.fault r) (ap image_from e ∙ read_back image fits) (c.in-Err.ensures {u = tt}))
