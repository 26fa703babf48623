-- the instructions so far, with those still to come, are all
use Rattle.std.proofs.Common.{◌≡◌, ◌++◌, ◌+◌, drop, map}
use Rattle.bim_code.specs.Code.{code_size}
use Rattle.bim_compile.specs.Compiled.{at_line}
use Rattle.bim_compile.proofs.draft.Draft.put_all.Given as goal

abbrev pub invariant-loop-instruction : goal.invariant-loop-instruction
invariant-loop-instruction l = record {
  code : l.self.code ++ map (at_line l.line) (drop l.instruction-index l.all) ≡ l.initial.self.code ++ map (at_line l.line) l.all;
  constants : l.self.constants ≡ l.initial.self.constants;
  at : l.self.at + code_size (drop l.instruction-index l.all) ≡ l.initial.self.at + code_size l.all;
}
