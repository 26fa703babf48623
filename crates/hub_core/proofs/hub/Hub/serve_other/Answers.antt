-- which calls want memory
use Rattle.std.proofs.Common.{◌∙◌, sym}
use Rattle.hub_core.proofs.Wanting.{plain_reply, lacks}
use Rattle.hub_core.proofs.hub.Hub.serve_other.Goals as goal

pub returns-in-Ok-Ready-clause-room : goal.returns-in-Ok-Ready-clause-room
returns-in-Ok-Ready-clause-room c =
    lacks _ c.args.call c.settle.result (λ some few. c.settle.ensures.room some
    (plain_reply c.self.inside.journal.0 c.args.lane c.args.run c.args.call c.in-Ok-Ready.reply
    (sym c.in-Ok-Ready.ensures.answer ∙ c.in-Ok-Ready.field-0-is) few c.requires.other) few)
