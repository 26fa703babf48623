-- the first name is none of the others'
use Rattle.std.proofs.Common.{◌∙◌, sym, arith, length-drop}
use Rattle.hub_core.proofs.Distinct.{false_is_not_true, distinct_first, first_apart, rest_distinct}
use Rattle.hub_core.proofs.opening.+are_distinct.Goals as goal

pub returns-then-not-is_among-clause-yes : goal.returns-then-not-is_among-clause-yes
returns-then-not-is_among-clause-yes n c = λ fine.
    let l = length-drop 1 c.args.files.now in
    distinct_first c.args.files.now c.file-item.result _ c.in-len1-up.len_at_least c.file-item.is
    (sym c.is_among.ensures ∙ c.if-not-is_among.true) (c.are_distinct.ensures.yes fine) (omega (arith, l))

pub returns-then-not-is_among-clause-no : goal.returns-then-not-is_among-clause-no
returns-then-not-is_among-clause-no n c = λ distinct.
    let l = length-drop 1 c.args.files.now in
    c.are_distinct.ensures.no
    (rest_distinct c.args.files.now c.file-item.result _ c.in-len1-up.len_at_least c.file-item.is (omega (arith, l)) distinct)

pub returns-else-not-is_among-clause-no : goal.returns-else-not-is_among-clause-no
returns-else-not-is_among-clause-no n c = λ distinct.
    let l = length-drop 1 c.args.files.now in
    absurd (false_is_not_true (
    sym (first_apart c.args.files.now c.file-item.result _ c.in-len1-up.len_at_least c.file-item.is (omega (arith, l)) distinct)
    ∙ (sym c.is_among.ensures ∙ c.if-not-is_among.false)))
