use Rattle.std.proofs.Common.{◌∙◌, ap, sym, Some, List, ℕ, Option}
use Rattle.mos_text.specs.Content.{known_of, known_bytes, files_of, laid_over}
use Rattle.mos_text.specs.Memory.{MemoryFiles}
use Rattle.mos_text.proofs.FilesLemmas.{known-in_order}
use Rattle.mos_text.proofs.mem_folder.MemFolder.content.Goals as goal

pub returns : goal.returns
returns c =
    let entries = c.as_slice.result.now in
    let files = c.as_slice-2.result.now in
    c.find_latest.ensures
    ∙ ap known_bytes (sym (known-in_order entries files c.args.name.now))
    ∙ ap (λ (es : List (List ℕ × Option (List ℕ))). known_bytes (known_of (Some (laid_over es (files_of files))) c.args.name.now)) c.as_slice.ensures.value
    ∙ ap (λ (fs : List (List ℕ × List ℕ)). known_bytes (known_of (Some (laid_over c.self.inside.later.items (files_of fs))) c.args.name.now)) c.as_slice-2.ensures.value
    ∙ ap (λ (seen : MemoryFiles). known_bytes (known_of (Some seen.files) c.args.name.now)) c.self.view_is
