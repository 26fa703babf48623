use Rattle.mos_parse.proofs.OneWay.{one_list_of_forms}
use Rattle.mos_parse.proofs.laws.sources_have_one_list_of_forms.Goals as goal

pub returns : goal.returns
returns c = one_list_of_forms c.words_have_one_form.ensures.one c.source_is_scanned_once.ensures.tokens c.tokens_are_cut_once.ensures.one
