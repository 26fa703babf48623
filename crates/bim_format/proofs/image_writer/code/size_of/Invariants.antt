use Rattle.std.proofs.Common.{◌≡◌, ◌+◌, drop}
use Rattle.bim_code.specs.Code.{code_size}
use Rattle.bim_format.proofs.image_writer.code.size_of.Given as goal

abbrev pub invariant-loop-instruction : goal.invariant-loop-instruction
invariant-loop-instruction l = l.size + code_size (drop l.instruction-index l.code) ≡ code_size l.code
