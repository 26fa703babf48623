use Rattle.std.proofs.Common.{◌≡◌, ◌+◌, drop}
use Rattle.mos_tree.specs.Nodes as spec
use Rattle.mos_tree.proofs.count.+nodes.Given as goal

abbrev pub invariant-nodes_in-loop-expr : goal.invariant-nodes_in-loop-expr
invariant-nodes_in-loop-expr l = l.sum + spec.nodes_in (drop l.expr-index l.all) ≡ spec.nodes_in l.all

abbrev pub invariant-nodes_in_groups-loop-group : goal.invariant-nodes_in_groups-loop-group
invariant-nodes_in_groups-loop-group l = l.sum + spec.nodes_in_groups (drop l.group-index l.groups) ≡ spec.nodes_in_groups l.groups
