-- each member that is added goes behind those before, and the rest follows
use Rattle.std.proofs.Common.{◌≡◌, ◌+◌, ◌≤◌, drop, take, length, ap, sym, ◌∙◌, arith}
use Rattle.std.proofs.lemmas.List.{drop_all}
use Rattle.std.proofs.lemmas.Result.{err_from_is_err_and}
use Rattle.mos_value.specs.Collections.{collection_of}
use Rattle.mos_value.specs.Sets.{union, with_member}
use Rattle.mos_value.proofs.CollectionLemmas.{collection_few, collection_is, cause_further}
use Rattle.mos_value.proofs.SetLemmas.{union-next, take-with_member, length-with_member, length-union}
use Rattle.mos_value.proofs.sets.add_each.Goals as goal

pub loop-member-preserved : goal.loop-member-preserved
loop-member-preserved c =
    let items = c.as_slice-member-items.result.now in
    let before = c.loop-member.to in
    let x = c.member-item.result in
    let place = c.loop-member.member-index in
    let i = c.loop-member.invariant in
    let added = collection_is (with_member before x) c.insert.new.self c.in_ok-insert.ensures in
    record {
      so_far =
          ap (λ members. union members (drop (place + 1) items)) added.0
          ∙ (sym (union-next before items place x c.loop-member-test.true c.member-item.is) ∙ i.so_far);
      in_front = ap (take (length c.args.to.now)) added.0 ∙ (take-with_member (length c.args.to.now) before x i.grown ∙ i.in_front);
      grown = omega (arith, ap length added.0, length-with_member before x, i.grown);
      limited = omega (arith, ap length added.0, added.1);
    }

pub returns-in_err-insert-clause-refused : goal.returns-in_err-insert-clause-refused
returns-in_err-insert-clause-refused c =
    let items = c.as_slice-member-items.result.now in
    let before = c.loop-member.to in
    let x = c.member-item.result in
    let place = c.loop-member.member-index in
    let p = err_from_is_err_and c.from_residual.result c.from_residual.ensures.1 in
    let whole : union (with_member before x) (drop (place + 1) items) ≡ union c.args.to.now c.args.other.now =
    sym (union-next before items place x c.loop-member-test.true c.member-item.is)
    ∙ (c.loop-member.invariant.so_far ∙ ap (union c.args.to.now) c.as_slice-member-items.ensures) in
    let longer : length (with_member before x) ≤ length (union c.args.to.now c.args.other.now) =
    omega (arith, length-union (with_member before x) (drop (place + 1) items), ap length whole) in
    rw (p.1, p.2)
    (cause_further (with_member before x) (union c.args.to.now c.args.other.now) longer c.in_err-insert.field-0.0 c.in_err-insert.ensures.0)

pub returns-clause-added : goal.returns-clause-added
returns-clause-added c =
    let items = c.as_slice-member-items.result.now in
    let i = c.loop-member.invariant in
    let all : union c.args.to.now c.args.other.now ≡ c.loop-member.to =
    ap (union c.args.to.now) (sym c.as_slice-member-items.ensures)
    ∙ (sym i.so_far ∙ ap (union c.loop-member.to) (drop_all c.loop-member.member-index items c.loop-member-test.false)) in
    ap collection_of all ∙ collection_few c.loop-member.to i.limited
