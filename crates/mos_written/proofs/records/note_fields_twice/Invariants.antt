-- what counts of the names behind those before
use Rattle.std.proofs.Common.{◌≡◌, [], drop}
use Rattle.mos_written.specs.Fields.{fields_twice}
use Rattle.mos_written.proofs.records.note_fields_twice.Given as goal

abbrev pub invariant-loop-name : goal.invariant-loop-name
invariant-loop-name l = fields_twice l.fields.names l.before (drop l.name-index l.names) l.worst ≡ fields_twice l.fields.names [] l.names l.fn.worst
