use Rattle.std.proofs.Common.{◌≡◌, ◌++◌, drop, flat_map}
use Rattle.hub_text.specs.Quoting.{escape}
use Rattle.hub_text.proofs.report_writer.fields.put_escaped.Given as goal

abbrev pub invariant-loop-byte : goal.invariant-loop-byte
invariant-loop-byte l =
    l.out.items ++ flat_map escape (drop l.byte-index l.text) ≡ l.initial.out.items ++ flat_map escape l.text
