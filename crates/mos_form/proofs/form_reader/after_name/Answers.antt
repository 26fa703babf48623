use Rattle.mos_scan.specs.declared.grammar_word.Word.TheVariants as word_kind
use Rattle.mos_form.proofs.Listing.{list_only, other_next, has_more}
use Rattle.mos_form.proofs.form_reader.after_name.Goals as goal

pub returns-in-List : goal.returns-in-List
returns-in-List c = list_only c.args.words.now c.args.behind.now c.args.name.now c.args.next.now c.requires c.in-List.ensures c.listed.result c.listed.ensures

pub returns-in-Other : goal.returns-in-Other
returns-in-Other c = other_next c.args.words.now c.args.behind.now c.args.name.now c.args.next.now c.requires c.in-Other.ensures

pub listed-requires : goal.listed-requires
listed-requires c = has_more c.args.words.now c.args.behind.now (word_kind.Name c.args.name.now) c.args.next.now c.requires
