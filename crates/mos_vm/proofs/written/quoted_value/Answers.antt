-- a quote is a character by itself
use Rattle.std.proofs.Common.{arith}
use Rattle.mos_vm.proofs.TextParts.{utf8_before}
use Rattle.mos_vm.proofs.written.quoted_value.Goals as goal

pub text_value-requires : goal.text_value-requires
text_value-requires c =
    let there = c.position-end.ensures.there (omega (arith, c.if-end-more.false)) in
    utf8_before c.args.more.now c.position-end.result c.requires.utf8 (omega (arith, c.if-end-more.false)) (omega (arith, there, c.requires.ascii))
