use Rattle.std.proofs.Common.{rules, Some, ℕ, Option, List, ◌∷◌, ◌∙◌, sym, ap}
use Rattle.atomic_table.specs.Table.{rest}
use Rattle.hub_lock.proofs.lock.Lock.take.Goals as goal

pub exchange-requires : goal.exchange-requires
exchange-requires g c =
    let is = c.requires.slot.1 in
    (search rules, (Some c.requires.slot.0, is ∙ ap (λ (xs : List (ℕ × Option g.row.S.Denot)). (0, Some c.requires.slot.0) ∷ rest xs) (sym is)))
