-- all do where those still to come do
use Rattle.std.proofs.Common.{◌≤◌, All, length, drop}
use Rattle.tests_verify.proofs.limits.texts_within.Given as goal

abbrev pub invariant-loop-text : goal.invariant-loop-text
invariant-loop-text l = All (λ text. length text ≤ 1048576) (drop l.text-index l.texts) → All (λ text. length text ≤ 1048576) l.texts
