use Rattle.std.proofs.Common.{◌≡◌, ◌++◌, drop, flat_map}
use Rattle.bim_format.proofs.image_writer.encode.put_all.Given as goal

abbrev pub invariant-loop-entry : goal.invariant-loop-entry
invariant-loop-entry g l =
    l.out.items ++ flat_map g.T.Encode.encoding (drop l.entry-index l.entries)
    ≡ l.initial.out.items ++ flat_map g.T.Encode.encoding l.entries
