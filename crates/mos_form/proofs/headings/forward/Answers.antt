use Rattle.std.proofs.Common.{◌≡◌, ◌∷◌, [], refl, sym, ◌∙◌}
use Rattle.mos_scan.specs.declared.grammar_word.Word.TheVariants as word_kind
use Rattle.mos_scan.specs.declared.token.TokenKind.TheVariants as token_kind
use Rattle.mos_form.proofs.Routines.{no_forward}
use Rattle.mos_form.proofs.headings.forward.Goals as goal

pub returns-else-is_key-2 : goal.returns-else-is_key-2
returns-else-is_key-2 c = no_forward c.args.words.now
    (λ rest e. let q : c.in-Some.word.now ∷ c.in-Some.rest.now ≡ word_kind.Key token_kind.Procedure ∷ rest = sym c.in-Some.ensures ∙ e in c.if-is_key.ensures.no refl cc)
    (λ rest e. let q : c.in-Some.word.now ∷ c.in-Some.rest.now ≡ word_kind.Key token_kind.Function ∷ rest = sym c.in-Some.ensures ∙ e in c.if-is_key-2.ensures.no refl cc)

pub returns-in-None : goal.returns-in-None
returns-in-None c = no_forward c.args.words.now
    (λ rest e. let q : [] ≡ word_kind.Key token_kind.Procedure ∷ rest = sym c.in-None.ensures ∙ e in absurd cc)
    (λ rest e. let q : [] ≡ word_kind.Key token_kind.Function ∷ rest = sym c.in-None.ensures ∙ e in absurd cc)
