-- what is seen of the rest, behind what was seen, is what is seen of all
use Rattle.std.proofs.Common.{◌≡◌, ◌++◌, drop}
use Rattle.mos_rules.specs.Rows.{each, expects}
use Rattle.mos_types.specs.Looks as spec
use Rattle.std.specs.Prelude.{map}
use Rattle.mos_types.proofs.looking.+look.Given as goal

abbrev pub invariant-look_all-loop-expr : goal.invariant-look_all-loop-expr
invariant-look_all-loop-expr l = record {
  at : l.at ≡ l.expr-index;
  trees : l.trees ++ (each (expects l.expected) l.at (map spec.look (drop l.expr-index l.all)) l.scope l.bound l.worst).trees ≡ (each (expects l.expected) 0 (map spec.look l.all) l.scope l.bound l.fn.worst).trees;
  worst : (each (expects l.expected) l.at (map spec.look (drop l.expr-index l.all)) l.scope l.bound l.worst).worst ≡ (each (expects l.expected) 0 (map spec.look l.all) l.scope l.bound l.fn.worst).worst;
}

abbrev pub invariant-look_groups-loop-group : goal.invariant-look_groups-loop-group
invariant-look_groups-loop-group l = record {
  groups : l.found ++ (spec.look_groups (drop l.group-index l.groups) l.scope l.bound l.worst).groups ≡ (spec.look_groups l.groups l.scope l.fn.bound l.fn.worst).groups;
  bound : (spec.look_groups (drop l.group-index l.groups) l.scope l.bound l.worst).bound ≡ (spec.look_groups l.groups l.scope l.fn.bound l.fn.worst).bound;
  worst : (spec.look_groups (drop l.group-index l.groups) l.scope l.bound l.worst).worst ≡ (spec.look_groups l.groups l.scope l.fn.bound l.fn.worst).worst;
}
