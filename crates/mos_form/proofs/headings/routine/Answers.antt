use Rattle.std.proofs.Common.{◌≡◌, Some, IfOk, sym, subst}
use Rattle.mos_typing.specs.Typing.{tallest_formals, formals_of, FormalsAreGrouped, formal_words}
use Rattle.mos_form.specs.Fixed.{heading, heading_kind}
use Rattle.mos_form.specs.Telling.{TellsFormals, refusal}
use Rattle.mos_form.proofs.Routines.{routine_kind}
use Rattle.mos_form.proofs.Spelled.{spelled_ok, spelled_err}
use Rattle.mos_form.proofs.headings.routine.Goals as goal

pub returns-in-Ok : goal.returns-in-Ok
returns-in-Ok c =
    subst (TellsFormals (λ xs. heading c.args.forward c.args.name.now xs c.args.typ) c.args.words.now) (sym c.heading.ensures)
    (subst (λ n. TellsFormals (λ xs. heading c.args.forward n xs c.args.typ) c.args.words.now (heading c.args.forward c.in_ok-name.name c.in-Ok.formals c.args.typ)) c.in_ok-name.ensures
    (spelled_ok FormalsAreGrouped formal_words formals_of tallest_formals c.args.words.now (λ xs. heading c.args.forward c.in_ok-name.name xs c.args.typ) c.in-Ok.formals c.in-Ok.ensures))

pub returns-in-Err : goal.returns-in-Err
returns-in-Err c =
    spelled_err FormalsAreGrouped formal_words formals_of tallest_formals c.args.words.now (λ xs. heading c.args.forward c.args.name.now xs c.args.typ) (heading_kind c.args.forward c.args.typ)
    (routine_kind c.args.forward c.args.name.now c.args.typ) c.in-Err.fault c.in-Err.ensures c.refused.result
    (subst (λ z. IfOk c.refused.result (λ form. Some form ≡ refusal z c.in-Err.fault)) c.heading_kind-kind.ensures c.refused.ensures)
