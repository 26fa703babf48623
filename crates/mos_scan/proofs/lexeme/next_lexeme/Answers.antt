use Rattle.std.proofs.Common.{◌≡◌, ℕ, None, sym, ◌∙◌, ap, subst}
use Rattle.mos_scan.specs.declared.token.TokenKind.{TokenKind}
use Rattle.mos_scan.specs.Tokens.{gap_at, fault_at}
use Rattle.mos_scan.specs.Lexemes.{kind_and_offset, Longest}
use Rattle.mos_scan.proofs.Looks.{longest_at}
use Rattle.mos_scan.proofs.lexeme.next_lexeme.Goals as goal

pub returns-clause-stands : goal.returns-clause-stands
returns-clause-stands c =
    let no_gap : gap_at c.args.text.now ≡ None = sym c.gap_at.ensures.value ∙ c.in_default.is in
    let no_fault : fault_at c.args.text.now ≡ None =
    sym c.fault_at.ensures.value ∙ ap (λ found. kind_and_offset c.args.text.now found) c.in_default-fault_at.is in (
      no_gap,
      no_fault,
      subst (λ (found : TokenKind × ℕ). Longest c.args.text.now found.0 found.1) (sym c.token_at-kind.ensures.value) (longest_at c.args.text.now c.requires no_fault),
    )
