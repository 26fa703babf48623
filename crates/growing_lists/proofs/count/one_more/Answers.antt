use Rattle.std.proofs.Common.{◌∷◌, [], arith, length-append}
use Rattle.growing_lists.proofs.count.one_more.Goals as goal

pub returns : goal.returns
returns c = λ journal e so_far few.
    let is = c.saturating_add.ensures in let longer = length-append journal (e ∷ []) in omega (arith, is, so_far, few, longer)
