-- what is added so far, and those still to come, are the union, in front of which stand those that were there
use Rattle.std.proofs.Common.{◌≡◌, ◌≤◌, length, take, drop}
use Rattle.mos_value.specs.Collections.{collection_limit}
use Rattle.mos_value.specs.Sets.{union}
use Rattle.mos_value.proofs.sets.add_each.Given as goal

abbrev pub invariant-loop-member : goal.invariant-loop-member
invariant-loop-member l = record {
  so_far : union l.to (drop l.member-index l.member-items) ≡ union l.initial.to l.member-items;
  in_front : take (length l.initial.to) l.to ≡ l.initial.to;
  grown : length l.initial.to ≤ length l.to;
  limited : length l.to ≤ collection_limit;
}
