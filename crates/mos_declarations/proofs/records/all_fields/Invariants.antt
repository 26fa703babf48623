-- what is found of the rest is found of all
use Rattle.std.proofs.Common.{◌≡◌, drop}
use Rattle.mos_declarations.specs.Items.{fields_found, no_fields}
use Rattle.mos_declarations.proofs.records.all_fields.Given as goal

abbrev pub invariant-loop-group : goal.invariant-loop-group
invariant-loop-group l = fields_found (drop l.group-index l.groups) l.fields l.scope ≡ fields_found l.groups no_fields l.fn.scope
