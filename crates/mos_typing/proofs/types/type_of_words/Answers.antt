use Rattle.std.proofs.Common.{◌∷◌}
use Rattle.mos_scan.specs.declared.token.TokenKind.TheVariants as token_kind
use Rattle.mos_scan.specs.declared.grammar_word.Word.TheVariants as word_kind
use Rattle.mos_typing.proofs.Typed.{says_as}
use Rattle.mos_typing.proofs.types.type_of_words.Goals as goal

pub returns-in-Some : goal.returns-in-Some
returns-in-Some c = says_as c.args.words.now (word_kind.Key token_kind.Dynamic ∷ c.in-Some.rest.now) c.dynamic_type.result c.in-Some.ensures c.dynamic_type.ensures

pub returns-in-None : goal.returns-in-None
returns-in-None c = c.static_type.ensures c.in-None.ensures
