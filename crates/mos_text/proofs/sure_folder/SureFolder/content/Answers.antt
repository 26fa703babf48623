use Rattle.std.proofs.Common.{◌∙◌, ap, sym, Some, option_copied}
use Rattle.std.specs.Ordering.{nat_cmp}
use Rattle.std.specs.Cmp.Lexicographic.{slice_cmp}
use Rattle.std.specs.FinMap.{find}
use Rattle.mos_text.specs.Content.{Files, known_of, known_bytes, held_of}
use Rattle.mos_text.proofs.FilesLemmas.{known-files_of, known_bytes-held_of}
use Rattle.mos_text.proofs.sure_folder.SureFolder.content.Goals as goal

pub returns-clause-known : goal.returns-clause-known
returns-clause-known c =
    ap (λ (files : Files). known_of (Some files) c.args.name.now) (sym c.self.view_is)
    ∙ known-files_of c.self.inside.files.items c.args.name.now
    ∙ ap (λ files. held_of (find (slice_cmp nat_cmp) c.args.name.now files)) (sym c.as_slice.ensures.value)
    ∙ ap held_of (sym c.find_bytes.ensures)

pub returns-clause-bytes : goal.returns-clause-bytes
returns-clause-bytes c =
    sym (known_bytes-held_of (option_copied c.find_bytes.result)) ∙ ap known_bytes (sym (returns-clause-known c))
