use Rattle.std.proofs.Common.{◌∷◌, sym, subst}
use Rattle.mos_scan.specs.declared.grammar_word.Word.TheVariants as word_kind
use Rattle.mos_form.specs.Fixed as fixed
use Rattle.mos_form.specs.Lists as lists
use Rattle.mos_form.specs.Telling.{TellsPiece}
use Rattle.mos_form.proofs.Exactly.{ok_form, model_piece, options_piece, uses_piece, single_piece, head_model, head_uses, head_options}
use Rattle.mos_form.proofs.form_reader.keyed.Goals as goal

pub returns-in-Model : goal.returns-in-Model
returns-in-Model c = ok_form c.model.result (fixed.model c.args.rest.now) (TellsPiece (word_kind.Key c.args.kind ∷ c.args.rest.now)) c.model.ensures
    (subst (λ z. TellsPiece (word_kind.Key z ∷ c.args.rest.now) (fixed.model c.args.rest.now)) (sym (head_model c.args.kind c.in-Model.ensures)) (model_piece c.args.rest.now))

pub returns-in-Uses : goal.returns-in-Uses
returns-in-Uses c = ok_form c.uses.result (lists.uses c.args.rest.now) (TellsPiece (word_kind.Key c.args.kind ∷ c.args.rest.now)) c.uses.ensures
    (subst (λ z. TellsPiece (word_kind.Key z ∷ c.args.rest.now) (lists.uses c.args.rest.now)) (sym (head_uses c.args.kind c.in-Uses.ensures)) (uses_piece c.args.rest.now))

pub returns-in-Options : goal.returns-in-Options
returns-in-Options c = ok_form c.options.result (fixed.options c.args.rest.now) (TellsPiece (word_kind.Key c.args.kind ∷ c.args.rest.now)) c.options.ensures
    (subst (λ z. TellsPiece (word_kind.Key z ∷ c.args.rest.now) (fixed.options c.args.rest.now)) (sym (head_options c.args.kind c.in-Options.ensures)) (options_piece c.args.rest.now))

pub returns-in-Single : goal.returns-in-Single
returns-in-Single c = subst (TellsPiece (word_kind.Key c.args.kind ∷ c.args.rest.now)) (sym c.single.ensures) (single_piece c.args.kind c.args.rest.now (sym c.in-Single.ensures))
