use Rattle.std.proofs.Common.{refl}
use Rattle.bim_code.specs.Bytes.{u16_bytes, u32_bytes}
use Rattle.bim_code.specs.Code.{code_bytes}
use Rattle.bim_code.specs.Tables.{array_bytes, constant_bytes, default_bytes, field_bytes, heading_bytes, image_bytes, operand_bytes, parameter_bytes, point_bytes, routine_bytes, slot_bytes, type_bytes}
use Rattle.bim_code.proofs.laws.every_part_bytes.Goals as goal

pub returns : goal.returns
unfolding image_bytes heading_bytes constant_bytes type_bytes array_bytes field_bytes parameter_bytes default_bytes routine_bytes slot_bytes point_bytes operand_bytes code_bytes u16_bytes u32_bytes
returns c = refl
