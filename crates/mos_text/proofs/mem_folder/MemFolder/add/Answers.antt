use Rattle.std.proofs.Common.{◌∙◌, ap, Some, List, ℕ, Option}
use Rattle.mos_text.specs.Content.{known_of, files_of, laid_over}
use Rattle.mos_text.specs.Memory.{MemoryFiles}
use Rattle.mos_text.proofs.FilesLemmas.{same-insert}
use Rattle.mos_text.proofs.mem_folder.MemFolder.add.Goals as goal

pub returns-clause-others : goal.returns-clause-others
returns-clause-others c = λ other apart.
    let given = files_of c.self.inside.given.items in
    ap (λ (entries : List (List ℕ × Option (List ℕ))). known_of (Some (laid_over entries given)) other) c.in_ok-insert.ensures.items
    ∙ same-insert (laid_over c.self.inside.later.items given) c.in_ok-copy.field-0 c.args.blob other (λ same. apart (same ∙ c.in_ok-copy.ensures))
    ∙ ap (λ (seen : MemoryFiles). known_of (Some seen.files) other) c.self.view_is
