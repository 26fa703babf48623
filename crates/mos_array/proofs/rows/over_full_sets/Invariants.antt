-- the lists so far with the sets still to come give all, and they are few enough
use Rattle.std.proofs.Common.{◌≡◌, ◌≤◌, drop, fold, length}
use Rattle.mos_value.specs.Collections.{collection_limit}
use Rattle.mos_array.specs.Rows.{with_index, index_lists}
use Rattle.mos_array.proofs.rows.over_full_sets.Given as goal

abbrev pub invariant-loop-set : goal.invariant-loop-set
invariant-loop-set l = record {
  so_far : fold with_index l.lists (drop l.set-index l.sets) ≡ index_lists l.sets;
  few : length l.lists ≤ collection_limit;
}
