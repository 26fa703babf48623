use Rattle.std.proofs.Common.{refl}
use Rattle.std.specs.Fmt.{digits}
use Rattle.bim_list.specs.Listing.{line_of, listing}
use Rattle.bim_list.proofs.laws.listings.Goals as goal

pub returns-clause-ends_at_once : goal.returns-clause-ends_at_once
unfolding listing line_of digits
returns-clause-ends_at_once c = refl

pub returns-clause-every_part : goal.returns-clause-every_part
unfolding listing line_of digits
returns-clause-every_part c = refl
