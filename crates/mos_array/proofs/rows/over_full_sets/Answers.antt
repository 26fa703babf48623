-- what is too much with one set more is too much with all
use Rattle.mos_array.specs.Rows.{with_index, index_lists}
use Rattle.mos_array.proofs.RowLemmas.{grows_at, refused_further}
use Rattle.mos_array.proofs.rows.over_full_sets.Goals as goal

pub returns-in-Err : goal.returns-in-Err
returns-in-Err c =
    let lists = c.loop-set.lists in
    let set = c.set-item.result in
    let all = index_lists c.args.sets.now in
    refused_further (with_index lists set) all
    (grows_at lists c.args.sets.now all c.loop-set.set-index set c.requires c.loop-set-test.true c.set-item.is c.loop-set.invariant.so_far)
    c.in-Err.fault c.in-Err.ensures.few
