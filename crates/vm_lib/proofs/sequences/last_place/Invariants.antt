-- what was found is the last one of the items so far
use Rattle.std.proofs.Common.{◌≡◌, ◌≤◌, take}
use Rattle.vm_lib.specs.Sequences.{place_of_last}
use Rattle.vm_lib.proofs.sequences.last_place.Given as goal

abbrev pub invariant-loop-item : goal.invariant-loop-item
invariant-loop-item l = record {
  place : l.place ≡ l.item-index;
  found : l.found ≡ place_of_last (take l.item-index l.items) l.x;
  within : l.found ≤ l.item-index;
}
