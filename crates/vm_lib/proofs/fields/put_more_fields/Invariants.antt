-- the text so far, with the fields still to come, is the whole text
use Rattle.std.proofs.Common.{◌≡◌, ◌≤◌, ◌++◌, length, drop}
use Rattle.std.specs.Prelude.{string_bytes}
use Rattle.vm_lib.specs.Growing.{text_limit}
use Rattle.vm_lib.specs.Printed.{print_more_fields}
use Rattle.vm_lib.proofs.fields.put_more_fields.Given as goal

abbrev pub invariant-loop-name : goal.invariant-loop-name
invariant-loop-name l = record {
  whole : string_bytes l.text ++ print_more_fields (drop l.name-index l.names) l.rest ≡ string_bytes l.initial.text ++ print_more_fields l.names l.values;
  small : length (string_bytes l.text) ≤ text_limit;
}
