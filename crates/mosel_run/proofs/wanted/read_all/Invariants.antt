-- what was read goes before what is still to come; the folder holds what it held
use Rattle.std.proofs.Common.{◌≡◌, ◌≤◌, drop}
use Rattle.mosel_run.proofs.ReadingFiles.{ReadsOn, StopsOn}
use Rattle.mosel_run.proofs.wanted.read_all.Given as goal

abbrev pub invariant-loop-file : goal.invariant-loop-file
invariant-loop-file g l = record {
  reads : ReadsOn (g.F.Folder.content l.initial.folder) l.wanted (drop l.file-index l.wanted) l.sources;
  stops : StopsOn (g.F.Folder.content l.initial.folder) l.wanted (drop l.file-index l.wanted);
  content : g.F.Folder.content l.folder ≡ g.F.Folder.content l.initial.folder;
  later : g.F.Folder.faults l.initial.folder ≤ g.F.Folder.faults l.folder;
}
