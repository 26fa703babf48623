-- the rest decides
use Rattle.std.proofs.Common.{◌≡◌, drop}
use Rattle.std.specs.List.{list_all}
use Rattle.bim_rules.specs.Types.{is_field}
use Rattle.bim_rules.proofs.types.all_fields.Given as goal

abbrev pub invariant-loop-field : goal.invariant-loop-field
invariant-loop-field l = list_all (is_field l.before) (drop l.field-index l.fields) ≡ list_all (is_field l.before) l.fields
