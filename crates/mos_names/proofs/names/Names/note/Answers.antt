-- the keys stand for the names
use Rattle.std.proofs.Common.{◌∙◌, ap, map}
use Rattle.std.specs.Map.Iter.{deref}
use Rattle.mos_names.specs.NameLists.{with_name}
use Rattle.mos_names.proofs.NameLemmas.{with_name-map}
use Rattle.mos_names.proofs.names.Names.note.Goals as goal

pub returns-clause-noted : goal.returns-clause-noted
returns-clause-noted c =
    ap (map deref) c.in_ok-insert.ensures.keys ∙ with_name-map deref c.self.inside.noted.keys c.as_str.result ∙ (λ i. with_name (c.self.view_is i) (c.as_str.ensures.value i))
