use Rattle.std.proofs.Common.{refl}
use Rattle.bim_code.specs.Bytes.{u16_bytes, u32_bytes}
use Rattle.bim_code.specs.Code.{code_bytes}
use Rattle.bim_code.specs.Tables.{heading_bytes, image_bytes}
use Rattle.bim_code.proofs.laws.ends_at_once_bytes.Goals as goal

pub returns : goal.returns
unfolding image_bytes heading_bytes code_bytes u16_bytes u32_bytes
returns c = refl
