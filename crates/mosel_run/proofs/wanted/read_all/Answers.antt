-- all were read
use Rattle.std.proofs.Common.{List, subst}
use Rattle.std.proofs.lemmas.List.{drop_all}
use Rattle.mosel_run.specs.declared.wanted.Wanted.{Wanted}
use Rattle.mosel_run.proofs.ReadingFiles.{ReadsOn, read_whole}
use Rattle.mosel_run.proofs.wanted.read_all.Goals as goal

pub returns-clause-read : goal.returns-clause-read
returns-clause-read g c =
    read_whole (g.F.Folder.content c.args.folder.now) c.args.wanted.now c.loop-file.sources
    (subst (λ (left : List Wanted). ReadsOn (g.F.Folder.content c.args.folder.now) c.args.wanted.now left c.loop-file.sources)
    (drop_all c.loop-file.file-index c.args.wanted.now c.loop-file-test.false) c.loop-file.invariant.reads)
