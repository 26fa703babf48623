-- the rest decides
use Rattle.std.proofs.Common.{◌≡◌, drop}
use Rattle.std.specs.List.{list_all}
use Rattle.bim_rules.specs.Types.{has_field}
use Rattle.bim_rules.proofs.types.has_fields.Given as goal

abbrev pub invariant-loop-field : goal.invariant-loop-field
invariant-loop-field l = list_all (has_field l.image) (drop l.field-index l.fields) ≡ list_all (has_field l.image) l.fields
