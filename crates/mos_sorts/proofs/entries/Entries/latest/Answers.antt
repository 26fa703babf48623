use Rattle.std.proofs.Common.{sym, ap, ◌∙◌}
use Rattle.std.specs.List.{slice_get}
use Rattle.mos_sorts.proofs.Latest.{stands-found}
use Rattle.mos_sorts.proofs.entries.Entries.latest.Goals as goal

pub returns-in-Some : goal.returns-in-Some
returns-in-Some c = c.get.ensures.value ∙ ap (λ xs. slice_get xs c.in-Some.place) c.self.view_is ∙ sym (stands-found _ _ _ _ c.in-Some.is c.place_of.ensures)
