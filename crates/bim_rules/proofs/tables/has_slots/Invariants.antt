-- the rest decides
use Rattle.std.proofs.Common.{◌≡◌, drop}
use Rattle.std.specs.List.{list_all}
use Rattle.bim_rules.specs.Tables.{has_slot}
use Rattle.bim_rules.proofs.tables.has_slots.Given as goal

abbrev pub invariant-loop-slot : goal.invariant-loop-slot
invariant-loop-slot l = list_all (has_slot l.image) (drop l.slot-index l.slots) ≡ list_all (has_slot l.image) l.slots
