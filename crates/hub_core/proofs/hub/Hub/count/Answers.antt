-- a legal journal has few entries
use Rattle.std.proofs.Common.{arith}
use Rattle.hub_core.proofs.hub.Hub.count.Goals as goal

pub overflow_cast-result : goal.overflow_cast-result
overflow_cast-result c =
    let few = c.few_entries.ensures c.self.inside.journal.0 c.self.invariant.legal in let len = c.count.ensures in omega (arith, few, len)
