-- as the lemmas say
use Rattle.mos_value.proofs.TextOrder.{irreflexive, total, transitive}
use Rattle.mos_value.proofs.comparisons.text_order_laws.Goals as goal

pub returns : goal.returns
returns c = record { irreflexive = irreflexive; total = total; transitive = transitive }
