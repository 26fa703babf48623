use Rattle.std.proofs.Common.{refl}
use Rattle.mos_typing.specs.Typing.{tallest_type, type_of, TypeIsGrouped, typing_words}
use Rattle.mos_tree.specs.declared.form.Form.TheVariants as form_kind
use Rattle.mos_tree.specs.declared.form.PieceKind.TheVariants as piece_kind
use Rattle.mos_form.proofs.Spelled.{spelled_ok, spelled_err}
use Rattle.mos_form.proofs.expressions.typed_as.Goals as goal

pub returns-in-Ok : goal.returns-in-Ok
returns-in-Ok c = spelled_ok TypeIsGrouped typing_words type_of tallest_type c.args.words.now (form_kind.Typed c.args.names) c.in-Ok.typ c.in-Ok.ensures

pub returns-in-Err : goal.returns-in-Err
returns-in-Err c = spelled_err TypeIsGrouped typing_words type_of tallest_type c.args.words.now (form_kind.Typed c.args.names) piece_kind.Typed (λ x. refl) c.in-Err.fault c.in-Err.ensures c.refused.result c.refused.ensures
