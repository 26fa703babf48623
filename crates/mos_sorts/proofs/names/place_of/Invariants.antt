-- the name is none of those before
use Rattle.std.proofs.Common.{◌≡◌, ◌+◌, drop}
use Rattle.mos_names.specs.NameLists.{place_of}
use Rattle.mos_sorts.proofs.names.place_of.Given as goal

abbrev pub invariant-loop-other : goal.invariant-loop-other
invariant-loop-other l = record { at : l.at ≡ l.other-index; place : l.at + place_of l.name (drop l.other-index l.names) ≡ place_of l.name l.names }
