use Rattle.std.proofs.Common.{◌∙◌, ap}
use Rattle.model_table.specs.Tables.{model_told}
use Rattle.model_table.proofs.Journals.{told_loaded}
use Rattle.model_table.proofs.telling.tell_models.Goals as goal

pub load-requires : goal.load-requires
load-requires c =
    c.requires c.in_default-Loaded.model
    (ap (model_told c.args.entry.now.call) c.in_default-Loaded.is-1 ∙ told_loaded c.args.entry.now.call c.in_default-Loaded.model c.in_default-Loaded.source)

pub set_current-requires : goal.set_current-requires
set_current-requires c =
    c.requires c.in-Run-Started.model (λ j. model_told (c.in-Run-Started.is-0 j) (c.in-Run-Started.is-1 j))
