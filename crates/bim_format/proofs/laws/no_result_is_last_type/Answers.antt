use Rattle.std.proofs.Common.{refl}
use Rattle.bim_code.specs.Tables.{image_bytes, routine_bytes}
use Rattle.bim_format.proofs.laws.no_result_is_last_type.Goals as goal

pub returns : goal.returns
unfolding image_bytes routine_bytes
returns c = refl
