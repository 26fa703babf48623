-- a blank is a character by itself
use Rattle.std.proofs.Common.{◌<◌, ◌∙◌, sym, refl, length, arith}
use Rattle.std.proofs.lemmas.Str.{IsUtf8-between, IsCharBoundary-start, IsCharBoundary-end, IsCharBoundary-after_ascii}
use Rattle.mos_vm.proofs.TextParts.{blank_is_ascii, blank_on}
use Rattle.mos_vm.proofs.written.skip_blanks.Goals as goal

pub loop-begin-init : goal.loop-begin-init
loop-begin-init c = record { value = refl; cut = λ u. IsCharBoundary-start c.args.text.now u }

pub returns-then-not-is_blank-clause-utf8 : goal.returns-then-not-is_blank-clause-utf8
returns-then-not-is_blank-clause-utf8 c = λ u.
    IsUtf8-between c.args.text.now c.loop-begin.begin _ u (omega (arith, c.loop-begin-test.true)) (c.loop-begin.invariant.cut u)
    (IsCharBoundary-end c.args.text.now)

pub loop-begin-preserved : goal.loop-begin-preserved
loop-begin-preserved c =
    let text = c.args.text.now in
    let begin = c.loop-begin.begin in
    let within : begin < length text = omega (arith, c.loop-begin-test.true) in
    let blank = sym c.is_blank.ensures ∙ c.if-not-is_blank.false in
    record {
      value = blank_on text begin within blank ∙ c.loop-begin.invariant.value;
      cut = λ u. IsCharBoundary-after_ascii text begin u within (blank_is_ascii _ blank);
    }
