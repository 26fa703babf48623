use Rattle.std.proofs.Common.{[], ◌∷◌, ◌++◌, sym, ◌∙◌}
use Rattle.mos_scan.specs.declared.grammar_word.Word.TheVariants as word_kind
use Rattle.mos_scan.specs.declared.token.TokenKind.TheVariants as token_kind
use Rattle.mos_form.proofs.Parting.{snoc_same, regroup_three}
use Rattle.mos_form.proofs.cut.before_field.Goals as goal

pub returns-in-None-before_last : goal.returns-in-None-before_last
returns-in-None-before_last c inside field e =
    let p = snoc_same _ _ _ _ (sym c.in_ok-word.ensures ∙ e ∙ regroup_three inside (word_kind.Key token_kind.CloseRound) (word_kind.Key token_kind.Dot) (word_kind.Name field)) in
    let q = snoc_same _ _ _ _ (sym c.in-Some.ensures ∙ p.0) in
    c.in-None-before_last.ensures inside q.0

pub returns-in-None : goal.returns-in-None
returns-in-None c inside field e =
    let p = snoc_same _ _ _ _ (sym c.in_ok-word.ensures ∙ e ∙ regroup_three inside (word_kind.Key token_kind.CloseRound) (word_kind.Key token_kind.Dot) (word_kind.Name field)) in
    c.in-None.ensures (inside ++ word_kind.Key token_kind.CloseRound ∷ []) p.0
