-- a quote is a character by itself
use Rattle.std.proofs.Common.{◌∙◌, sym, arith}
use Rattle.mos_vm.proofs.TextParts.{utf8_behind, quote_is_ascii}
use Rattle.mos_vm.proofs.written.value_written.Goals as goal

pub quoted_value-requires-clause-utf8 : goal.quoted_value-requires-clause-utf8
quoted_value-requires-clause-utf8 c =
    utf8_behind c.args.text.now 0 c.requires (omega (arith, c.in-len1-up.len_at_least)) (quote_is_ascii _ (sym c.is_quote.ensures ∙ c.if-is_quote.true))
