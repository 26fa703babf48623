-- the front is taken, and the rest is what is left
use Rattle.std.proofs.Common.{◌≡◌, ◌-◌, ◌++◌, length, take, drop, ap, ◌∙◌, arith}
use Rattle.std.proofs.lemmas.List.{take-append-drop}
use Rattle.vm_lib.proofs.laws.laws_of_parts.Goals as goal

pub returns : goal.returns
returns c = λ items n within.
    let left : length items - (length items - n) ≡ n = omega (arith, within) in
    ap (λ m. take n items ++ drop m items) left ∙ take-append-drop n items
