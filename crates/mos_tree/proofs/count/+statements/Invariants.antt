use Rattle.std.proofs.Common.{◌≡◌, ◌+◌, drop}
use Rattle.mos_tree.specs.Statements as spec
use Rattle.mos_tree.proofs.count.+statements.Given as goal

abbrev pub invariant-statements_in-loop-statement : goal.invariant-statements_in-loop-statement
invariant-statements_in-loop-statement l = l.sum + spec.statements_in (drop l.statement-index l.all) ≡ spec.statements_in l.all

abbrev pub invariant-statements_in_arms-loop-arm : goal.invariant-statements_in_arms-loop-arm
invariant-statements_in_arms-loop-arm l = l.sum + spec.statements_in_arms (drop l.arm-index l.arms) ≡ spec.statements_in_arms l.arms

abbrev pub invariant-statements_in_alternatives-loop-alternative : goal.invariant-statements_in_alternatives-loop-alternative
invariant-statements_in_alternatives-loop-alternative l = l.sum + spec.statements_in_alternatives (drop l.alternative-index l.all) ≡ spec.statements_in_alternatives l.all

abbrev pub invariant-statements_in_arms-loop-statement : goal.invariant-statements_in_arms-loop-statement
invariant-statements_in_arms-loop-statement l = l.sum + spec.statements_in (drop l.statement-index l.statement-items) + spec.statements_in_arms (drop (l.arm-index + 1) l.arms) ≡ spec.statements_in_arms l.arms
