use Rattle.mos_typing.proofs.Listed.{names_answer}
use Rattle.mos_typing.proofs.answers.names.Goals as goal

pub returns : goal.returns
returns c = names_answer c.args.words.now c.names_of_words.result c.names_of_words.ensures
