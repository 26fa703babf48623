use Rattle.std.proofs.Common.{ap, ◌∷◌}
use Rattle.mos_scan.specs.declared.token.TokenKind.TheVariants as token_kind
use Rattle.mos_scan.specs.declared.grammar_word.Word.TheVariants as word_kind
use Rattle.mos_typing.specs.Shapes.{array_of}
use Rattle.mos_typing.proofs.Typed.{says_no_dynamic, says_as}
use Rattle.mos_typing.proofs.types.dynamic_type.Goals as goal

pub returns-in-Some : goal.returns-in-Some
returns-in-Some c =
    says_as (word_kind.Key token_kind.Dynamic ∷ c.args.words.now) (word_kind.Key token_kind.Dynamic ∷ array_of c.in-Some.indexes.now c.in-Some.cell.now) c.array_type.result
    (ap (λ z. word_kind.Key token_kind.Dynamic ∷ z) c.in-Some.ensures) c.array_type.ensures

pub returns-in-None : goal.returns-in-None
returns-in-None c = says_no_dynamic c.args.words.now c.in-None.ensures
