-- each byte goes on with its item, or ends it
use Rattle.std.proofs.Common.{◌<◌, ◌∙◌, sym, ap, refl, length, get_or, arith}
use Rattle.std.proofs.lemmas.Str.{IsUtf8-between, IsCharBoundary-start, IsCharBoundary-end, IsCharBoundary-before_ascii, IsCharBoundary-after_ascii}
use Rattle.mos_vm.proofs.TextParts.{item_end_is_ascii}
use Rattle.mos_vm.proofs.GivenItems.{ended_at, goes_on_at}
use Rattle.mos_vm.proofs.parameters.given_behind.Goals as goal
use Rattle.mos_vm.proofs.parameters.given_behind.Goals.{then-ends_item+in_ok-put_item+else-not-branch, else-ends_item}

pub loop-index-init : goal.loop-index-init
loop-index-init c = record {
  items = refl;
  begin = omega arith;
  all = c.requires.all;
  cut = IsCharBoundary-start c.args.text.now c.requires.utf8;
}

pub put_item-requires-clause-utf8 : goal.put_item-requires-clause-utf8
put_item-requires-clause-utf8 c =
    let ascii : get_or c.args.text.now c.loop-index.index 0 < 128 =
    item_end_is_ascii c.loop-index.quote (get_or c.args.text.now c.loop-index.index 0) (sym c.ends_item.ensures ∙ c.if-ends_item.true) in
    IsUtf8-between c.args.text.now c.loop-index.begin c.loop-index.index c.requires.utf8 c.loop-index.invariant.begin c.loop-index.invariant.cut
    (IsCharBoundary-before_ascii c.args.text.now c.loop-index.index (omega (arith, c.loop-index-test.true)) ascii)

pub put_item-requires-2-clause-utf8 : goal.put_item-requires-2-clause-utf8
put_item-requires-2-clause-utf8 c =
    IsUtf8-between c.args.text.now c.loop-index.begin _ c.requires.utf8 c.loop-index.invariant.cut.0
    c.loop-index.invariant.cut (IsCharBoundary-end c.args.text.now)

pub loop-index-preserved : goal.loop-index-preserved
loop-index-preserved c =
    let text = c.args.text.now in
    let index = c.loop-index.index in
    let begin = c.loop-index.begin in
    let within : index < length text = omega (arith, c.loop-index-test.true) in
    elim c.if-ends_item.branch [
      | then-ends_item+in_ok-put_item+else-not-branch w ↦
          let ends = sym c.ends_item.ensures ∙ w.if-ends_item.true in
          let put = rw w.if-not-branch.false at w.in_ok-put_item.ensures.put in
          record {
            items = rw (w.values-is, w.begin-is)
                (ended_at c.args.formals.now c.loop-index.values w.put_item.new.values c.loop-index.quote c.open_behind-quote.result text begin index
                within ends c.open_behind-quote.ensures put
                ∙ c.loop-index.invariant.items);
            begin = omega (arith, w.begin-is);
            all = ap length w.values-is ∙ w.in_ok-put_item.ensures.all ∙ c.loop-index.invariant.all;
            cut = rw w.begin-is (IsCharBoundary-after_ascii text index c.requires.utf8 within (item_end_is_ascii _ _ ends));
          }
      | else-ends_item w ↦
          let goes = sym c.ends_item.ensures ∙ w.if-ends_item.false in
          record {
            items = rw (w.values-is, w.begin-is)
                (goes_on_at c.args.formals.now c.loop-index.values c.loop-index.quote c.open_behind-quote.result text begin index within
                c.loop-index.invariant.begin goes c.open_behind-quote.ensures
                ∙ c.loop-index.invariant.items);
            begin = omega (arith, w.begin-is, c.loop-index.invariant.begin);
            all = ap length w.values-is ∙ c.loop-index.invariant.all;
            cut = rw w.begin-is c.loop-index.invariant.cut;
          }
    ]
