use Rattle.std.proofs.Common.{◌≡◌, ◌++◌, drop}
use Rattle.mos_scan.specs.Reading as spec
use Rattle.mos_scan.proofs.grammar_word.words.Given as goal

abbrev pub invariant-loop-token : goal.invariant-loop-token
invariant-loop-token l = l.found.items ++ spec.words_of l.source (drop l.token-index l.tokens) ≡ spec.words_of l.source l.tokens
