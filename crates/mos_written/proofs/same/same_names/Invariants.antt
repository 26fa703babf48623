-- what is left of the one is the same as what is left of the other, where all of it is
use Rattle.std.proofs.Common.{◌≡◌, drop}
use Rattle.std.specs.Str.{bytes_eq}
use Rattle.mos_written.specs.Tables.{all_same}
use Rattle.mos_written.proofs.same.same_names.Given as goal

abbrev pub invariant-loop-name : goal.invariant-loop-name
invariant-loop-name l = all_same bytes_eq (drop l.name-index l.a) l.rest ≡ all_same bytes_eq l.a l.b
