use Rattle.std.proofs.Common.{◌∙◌, ap, nat_lt}
use Rattle.mos_scan.proofs.Numbers.{is_above}
use Rattle.mos_scan.proofs.lexeme.is_large.Goals as goal

pub returns : goal.returns
returns c = ap (λ v. nat_lt 2147483647 v) c.number.ensures ∙ is_above _
