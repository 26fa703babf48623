-- the instructions so far, with those still to come, are all
use Rattle.std.proofs.Common.{◌≡◌, ◌++◌, drop}
use Rattle.bim_compile.specs.Compiled.{instructions}
use Rattle.bim_compile.proofs.compiler.without_lines.Given as goal

abbrev pub invariant-loop-one : goal.invariant-loop-one
invariant-loop-one l = l.code ++ instructions (drop l.one-index l.labelled) ≡ instructions l.labelled
