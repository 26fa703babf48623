use Rattle.bim_format.proofs.Images.{same_image}
use Rattle.bim_format.proofs.laws.same_bytes_same_image.Goals as goal

pub returns : goal.returns
returns c = same_image
