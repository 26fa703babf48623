-- those before are added
use Rattle.std.proofs.Common.{◌≡◌, drop}
use Rattle.mos_written.specs.Fields.{with_fields}
use Rattle.mos_written.proofs.records.add_fields.Given as goal

abbrev pub invariant-loop-name : goal.invariant-loop-name
invariant-loop-name l = with_fields (drop l.name-index l.names) l.sort l.fields ≡ with_fields l.names l.sort l.fn.fields
