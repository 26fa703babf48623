use Rattle.mos_form.proofs.Parting.{parted_some, parted_none}
use Rattle.mos_form.proofs.cut.parted.Goals as goal

pub returns-in-Some : goal.returns-in-Some
returns-in-Some c = parted_some c.args.words.now c.split_at.result.0.now c.split_at.result.1.now c.in-Some.behind.now c.in-Some.word.now c.plain_words.result c.min.result c.plain_words.ensures c.min.ensures c.split_at.ensures.front c.split_at.ensures.back c.in-Some.ensures

pub returns-in-None : goal.returns-in-None
returns-in-None c = parted_none c.args.words.now c.split_at.result.1.now c.plain_words.result c.min.result c.plain_words.ensures c.min.ensures c.split_at.ensures.back c.in-None.ensures
