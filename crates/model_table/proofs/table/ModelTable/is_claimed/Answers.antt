use Rattle.model_table.proofs.Claims.{claimed_is}
use Rattle.model_table.proofs.table.ModelTable.is_claimed.Goals as goal

pub returns : goal.returns
returns c = λ journal stands in_order. claimed_is c.args.self.now journal stands in_order c.args.run
