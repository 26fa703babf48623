-- all files were read, or one could not be had
use Rattle.std.proofs.Common.{◌≡◌, ◌∙◌, subst, List, ℕ}
use Rattle.std.proofs.lemmas.Result.{IfOk-weaker}
use Rattle.mosel_run.specs.declared.wanted.Wanted.{Wanted}
use Rattle.mosel_run.specs.Making.{run_request}
use Rattle.mosel_run.specs.Jobs.{OneThread}
use Rattle.mosel_run.specs.Reading.{IsReadOf, AnswersLack, got_of}
use Rattle.mosel_run.specs.Run.{wanted_of, IsRunAnswer, IsAnswerTo, unread, all_read}
use Rattle.mosel_run.specs.States.{folder_state}
use Rattle.mosel_run.specs.Wanted.{AreRead}
use Rattle.mosel_run.proofs.ReadingFiles.{lack_answer}
use Rattle.mosel_run.proofs.run.answer_run.Goals as goal

pub returns-in-All-clause-answer : goal.returns-in-All-clause-answer
returns-in-All-clause-answer g c =
    let before = folder_state (g.F.Folder.content c.args.folder.now) (g.F.Folder.faults c.args.folder.now) in
    let after = folder_state (g.F.Folder.content c.read_all.new.folder) (g.F.Folder.faults c.read_all.new.folder) in
    let asked = run_request c.args.name c.args.lanes c.args.budget in
    let wanted : c.as_slice.result.now ≡ (wanted_of asked) = c.as_slice.ensures ∙ c.in_ok-wanted.ensures in
    let read : AreRead before.content (wanted_of asked) c.in-All.sources =
    subst (λ (files : List Wanted). AreRead before.content files c.in-All.sources) wanted
    (subst (IsReadOf c.as_slice.result.now before after) c.in-All.is c.in_ok-sources.ensures.read) in
    IfOk-weaker c.answer_sources.result (IsAnswerTo OneThread asked c.as_slice-in-All.result.now) (IsRunAnswer OneThread asked before after)
    (λ answer a. all_read c.in-All.sources read (subst (λ (sources : List (List ℕ)). IsAnswerTo OneThread asked sources answer) c.as_slice-in-All.ensures a))
    c.answer_sources.ensures

pub returns-clause-answer : goal.returns-clause-answer
returns-clause-answer g c =
    let before = folder_state (g.F.Folder.content c.args.folder.now) (g.F.Folder.faults c.args.folder.now) in
    let after = folder_state (g.F.Folder.content c.read_all.new.folder) (g.F.Folder.faults c.read_all.new.folder) in
    let asked = run_request c.args.name c.args.lanes c.args.budget in
    let wanted : c.as_slice.result.now ≡ (wanted_of asked) = c.as_slice.ensures ∙ c.in_ok-wanted.ensures in
    let read = subst (λ (files : List Wanted). IsReadOf files before after c.in_ok-sources.field-0) wanted c.in_ok-sources.ensures.read in
    let stops = subst (IsReadOf (wanted_of asked) before after) c.in-Unread.is read in
    IfOk-weaker c.unread.result (AnswersLack c.in-Unread.name c.in-Unread.lack) (IsRunAnswer OneThread asked before after)
    (λ answer a. unread c.in-Unread.name (got_of c.in-Unread.lack) stops.0 (lack_answer before after c.in-Unread.name c.in-Unread.lack answer stops.1 a))
    c.unread.ensures
