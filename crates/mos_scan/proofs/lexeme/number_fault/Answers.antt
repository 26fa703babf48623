use Rattle.std.proofs.Common.{◌∙◌, ap, refl}
use Rattle.mos_scan.specs.Tokens.{spoilt_or_large, number_fault}
use Rattle.mos_scan.proofs.lexeme.number_fault.Goals as goal

pub returns-clause-value : goal.returns-clause-value
unfolding number_fault
returns-clause-value c = λ whole.
    c.spoilt_or_large.ensures.value whole
    ∙ ap (λ s. spoilt_or_large s c.split_at.result.0.now) (c.spoils.ensures whole)
    ∙ rw (c.split_at.ensures.front, c.split_at.ensures.back, c.digits_length.ensures.value) refl
