-- the answer is delivered; or memory was wanting to find it
use Rattle.std.proofs.Common.{refl}
use Rattle.mosel_run.specs.Answered.{no_memory}
use Rattle.mosel_run.specs.States.{states}
use Rattle.mosel_run.proofs.Answering.{answered}
use Rattle.mosel_run.proofs.top.perform.Goals as goal

pub returns-in-Ok-clause-one_thread : goal.returns-in-Ok-clause-one_thread
returns-in-Ok-clause-one_thread g c =
    answered c.args.words.now
    (g.F.Folder.content c.args.folder.now) (g.F.Folder.content c.find_answer.new.folder)
    (g.F.Folder.faults c.args.folder.now) (g.F.Folder.faults c.find_answer.new.folder)
    (record { bytes = g.K.Sink.bytes c.args.sink.now; faults = g.K.Sink.faults c.args.sink.now })
    (states (g.F.Folder.content c.deliver.new.folder) (g.F.Folder.faults c.deliver.new.folder) (g.K.Sink.bytes c.deliver.new.sink) (g.K.Sink.faults c.deliver.new.sink))
    c.in-Ok.answer c.deliver.result
    c.in-Ok.ensures.content c.in-Ok.ensures.later c.deliver.ensures.folder_faults
    c.in-Ok.ensures.answer c.deliver.ensures.delivered

pub returns-in-Err-clause-one_thread : goal.returns-in-Err-clause-one_thread
returns-in-Err-clause-one_thread g c = no_memory c.in-Err.ensures.content refl
