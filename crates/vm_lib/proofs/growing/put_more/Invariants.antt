-- the text so far, with the items still to come, is the whole text
use Rattle.std.proofs.Common.{◌≡◌, ◌≤◌, ◌++◌, length, drop}
use Rattle.std.specs.Prelude.{string_bytes}
use Rattle.std.specs.List.{flat_map}
use Rattle.vm_lib.specs.Growing.{text_limit}
use Rattle.vm_lib.specs.Printed.{print_next}
use Rattle.vm_lib.proofs.growing.put_more.Given as goal

abbrev pub invariant-loop-item : goal.invariant-loop-item
invariant-loop-item l = record {
  whole : string_bytes l.text ++ flat_map print_next (drop l.item-index l.items) ≡ string_bytes l.initial.text ++ flat_map print_next l.items;
  small : length (string_bytes l.text) ≤ text_limit;
}
