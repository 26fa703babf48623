-- those before this place were done
use Rattle.std.proofs.Common.{◌≡◌, ◌≤◌, take}
use Rattle.mosel_run.specs.States.{states, held_of, held_after}
use Rattle.mosel_run.proofs.deliver.do_each.Given as goal

abbrev pub invariant-loop-deed : goal.invariant-loop-deed
invariant-loop-deed g l = record {
  place : l.place ≡ l.deed-index;
  held :
      held_of (states (g.F.Folder.content l.folder) (g.F.Folder.faults l.folder) (g.K.Sink.bytes l.sink) (g.K.Sink.faults l.sink))
      ≡ held_after (held_of (states (g.F.Folder.content l.initial.folder) (g.F.Folder.faults l.initial.folder) (g.K.Sink.bytes l.initial.sink) (g.K.Sink.faults l.initial.sink))) (take l.deed-index l.deeds);
  folder_faults : g.F.Folder.faults l.initial.folder ≤ g.F.Folder.faults l.folder;
  sink_faults : g.K.Sink.faults l.initial.sink ≤ g.K.Sink.faults l.sink;
}
