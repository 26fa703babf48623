-- the items that are complete were put, and the bytes since then have begun the next
use Rattle.std.proofs.Common.{◌≡◌, ◌≤◌, ◌-◌, [], None, drop, take, length}
use Rattle.std.specs.Str.{IsCharBoundary}
use Rattle.run_state.specs.Parameters.{items_from, given_behind}
use Rattle.mos_vm.proofs.parameters.given_behind.Given as goal

abbrev pub invariant-loop-index : goal.invariant-loop-index
invariant-loop-index l = record {
  items : given_behind l.formals l.values (items_from l.quote (take (l.index - l.begin) (drop l.begin l.text)) (drop l.index l.text))
      ≡ given_behind l.formals l.fn.values (items_from None [] l.text);
  begin : l.begin ≤ l.index;
  all : length l.values ≡ length l.formals;
  cut : IsCharBoundary l.text l.begin;
}
