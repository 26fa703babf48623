-- none of those before is the same
use Rattle.std.proofs.Common.{◌≡◌, ◌+◌, drop}
use Rattle.mos_written.specs.Tables.{place_by, same_record}
use Rattle.mos_written.proofs.table.place_of_record.Given as goal

abbrev pub invariant-loop-other : goal.invariant-loop-other
invariant-loop-other l = record {
  at : l.at ≡ l.other-index;
  place : l.at + place_by (same_record l.parts) (drop l.other-index l.records) ≡ place_by (same_record l.parts) l.records;
}
