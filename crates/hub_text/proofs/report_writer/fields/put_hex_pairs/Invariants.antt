use Rattle.std.proofs.Common.{◌≡◌, ◌++◌, drop, flat_map}
use Rattle.hub_text.specs.Quoting.{hex_pair}
use Rattle.hub_text.proofs.report_writer.fields.put_hex_pairs.Given as goal

abbrev pub invariant-loop-byte : goal.invariant-loop-byte
invariant-loop-byte l =
    l.out.items ++ flat_map hex_pair (drop l.byte-index l.bytes) ≡ l.initial.out.items ++ flat_map hex_pair l.bytes
