use Rattle.std.proofs.Common.{sym}
use Rattle.mos_form.proofs.Named.{record_piece, value_piece}
use Rattle.mos_form.proofs.form_reader.equal.Goals as goal

pub returns-in_ok-copy : goal.returns-in_ok-copy
returns-in_ok-copy c = record_piece c.expressions_have_plain_words.ensures.one c.args.name.now c.in_ok-copy.field-0 c.args.behind.now (sym c.if-is_record.ensures) c.in_ok-copy.ensures

pub returns-else-is_record : goal.returns-else-is_record
returns-else-is_record c = value_piece c.args.name.now c.args.behind.now (sym c.if-is_record.ensures) c.definition.result c.definition.ensures
