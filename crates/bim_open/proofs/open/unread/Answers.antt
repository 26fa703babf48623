use Rattle.std.proofs.Common.{subst}
use Rattle.bim_read.specs.declared.read.ImageFault.{ImageFault}
use Rattle.bim_read.specs.Images.{IsFaultIn, image_from}
use Rattle.bim_open.proofs.Faults.{unread_fault}
use Rattle.bim_open.proofs.open.unread.Goals as goal

pub returns-in-BadImage : goal.returns-in-BadImage
returns-in-BadImage c = λ bytes told.
    unread_fault bytes c.in-BadImage.at c.in-BadImage.kind
    (subst (λ (fault : ImageFault). IsFaultIn bytes fault (image_from bytes)) c.in-BadImage.is told)
