-- the keys stand for the names
use Rattle.std.proofs.Common.{◌∙◌}
use Rattle.std.specs.Map.Iter.{deref}
use Rattle.mos_names.specs.NameLists.{place_of}
use Rattle.mos_names.proofs.NameLemmas.{place-from_Some, place-from_None}
use Rattle.mos_names.proofs.names.Names.place.Goals as goal

pub returns-in-Some-clause-place : goal.returns-in-Some-clause-place
returns-in-Some-clause-place c =
    place-from_Some deref c.as_str.result.now c.self.inside.noted.keys c.in-Some.place c.in-Some.ensures.index ∙ (λ i. place_of (c.as_str.ensures.value i) (c.self.view_is i))

pub returns-in-None-clause-place : goal.returns-in-None-clause-place
returns-in-None-clause-place c =
    c.len.ensures.len ∙ place-from_None deref c.as_str.result.now c.self.inside.noted.keys c.in-None.ensures.index ∙ (λ i. place_of (c.as_str.ensures.value i) (c.self.view_is i))
