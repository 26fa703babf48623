use Rattle.std.proofs.Common.{◌∙◌, ap, Some}
use Rattle.mos_text.specs.Content.{Files, known_of}
use Rattle.mos_text.proofs.FilesLemmas.{same-insert}
use Rattle.mos_text.proofs.sure_folder.SureFolderFolder.put.Goals as goal

pub returns-in-Ok-clause-others : goal.returns-in-Ok-clause-others
returns-in-Ok-clause-others c = λ other apart.
    ap (λ (files : Files). known_of (Some files) other) c.in-Ok.ensures.ok ∙ same-insert c.args.self.now c.args.name.now (Some c.args.bytes.now) other apart
