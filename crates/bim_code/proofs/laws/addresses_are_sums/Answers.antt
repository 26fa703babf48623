-- each by its lemma
use Rattle.bim_code.proofs.Addresses.{begins_at_sum, none_elsewhere}
use Rattle.bim_code.proofs.laws.addresses_are_sums.Goals as goal

pub returns : goal.returns
returns c = record { there = begins_at_sum; nowhere_else = none_elsewhere }
