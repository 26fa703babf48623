-- a blank is a character by itself
use Rattle.std.proofs.Common.{◌∙◌, sym, arith}
use Rattle.mos_vm.proofs.TextParts.{utf8_before, blank_is_ascii, blank_off}
use Rattle.mos_vm.proofs.written.trimmed_end.Goals as goal

pub loop-rest-preserved : goal.loop-rest-preserved
loop-rest-preserved c =
    let blank = sym c.is_blank.ensures ∙ c.if-not-is_blank.false in
    record {
      value = blank_off c.loop-rest.rest.now (omega (arith, c.in-len1-up.len_at_least)) blank ∙ c.loop-rest.invariant.value;
      utf8 = λ u. utf8_before c.loop-rest.rest.now _ (c.loop-rest.invariant.utf8 u) (omega (arith, c.in-len1-up.len_at_least)) (blank_is_ascii _ blank);
    }
