use Rattle.model_table.proofs.Claims.{unclaimed_some, unclaimed_none}
use Rattle.model_table.proofs.table.ModelTable.unclaimed.Goals as goal

pub returns-then-claimed-started : goal.returns-then-claimed-started
returns-then-claimed-started c = λ journal stands in_order. unclaimed_some c.args.self.now journal stands in_order c.if-claimed-started.true

pub returns-else-claimed-started : goal.returns-else-claimed-started
returns-else-claimed-started c = λ journal stands in_order. unclaimed_none c.args.self.now journal stands in_order c.if-claimed-started.false
