use Rattle.std.proofs.Common.{refl}
use Rattle.mos_form.specs.Lists as lists
use Rattle.mos_form.specs.Telling.{TellsList}
use Rattle.mos_form.proofs.Exactly.{ok_form}
use Rattle.mos_form.proofs.Listing.{typed_piece, labels_plain, labels_cut}
use Rattle.mos_form.proofs.form_reader.listed.Goals as goal

pub returns-then-is_key : goal.returns-then-is_key
returns-then-is_key c = typed_piece c.args.words.now c.in-Some.before.now c.in-Some.behind.now c.in-Some.word.now c.in-Some.ensures.0 (c.if-is_key.ensures.yes refl) c.in-Some.ensures.2 c.typed.result c.typed.ensures

pub returns-else-is_key : goal.returns-else-is_key
returns-else-is_key c = ok_form c.labels.result (lists.labels c.args.words.now) (TellsList c.args.words.now) c.labels.ensures
    (labels_cut c.args.words.now c.in-Some.before.now c.in-Some.behind.now c.in-Some.word.now c.requires c.in-Some.ensures.0 c.in-Some.ensures.1 c.in-Some.ensures.2 (c.if-is_key.ensures.no refl))

pub returns-in-None : goal.returns-in-None
returns-in-None c = ok_form c.labels-in-None.result (lists.labels c.args.words.now) (TellsList c.args.words.now) c.labels-in-None.ensures (labels_plain c.args.words.now c.requires c.in-None.ensures)
