-- what is left is few enough
use Rattle.std.proofs.Common.{ap, sym, ◌∙◌}
use Rattle.mos_value.specs.Collections.{collection_of}
use Rattle.mos_value.proofs.CollectionLemmas.{collection_few}
use Rattle.mos_value.proofs.sets.take_from_set.Goals as goal

pub returns-clause-becomes : goal.returns-clause-becomes
returns-clause-becomes c =
    ap collection_of (sym c.drop_those_of.ensures.kept) ∙ collection_few c.drop_those_of.new.self c.drop_those_of.ensures.limited
