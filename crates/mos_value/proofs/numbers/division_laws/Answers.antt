-- as the lemmas say
use Rattle.mos_value.proofs.NumberLemmas.{exact, smaller, left_sign}
use Rattle.mos_value.proofs.numbers.division_laws.Goals as goal

pub returns : goal.returns
returns c = record { exact = exact; smaller = smaller; left_sign = left_sign }
