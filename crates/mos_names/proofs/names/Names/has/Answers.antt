-- the keys stand for the names
use Rattle.std.proofs.Common.{◌∙◌}
use Rattle.std.specs.Map.Iter.{deref}
use Rattle.mos_names.specs.NameLists.{has_name}
use Rattle.mos_names.proofs.NameLemmas.{has_name-map}
use Rattle.mos_names.proofs.names.Names.has.Goals as goal

pub returns : goal.returns
returns c =
    c.contains.ensures ∙ has_name-map deref c.as_str.result.now c.self.inside.noted.keys ∙ (λ i. has_name (c.as_str.ensures.value i) (c.self.view_is i))
