-- each law is a field of what the job has
use Rattle.std.proofs.Common.{◌≡◌, List, Option, Some, None, sym, ap, ◌∙◌}
use Rattle.std.specs.Prelude.{slice_get}
use Rattle.job_calls.specs.declared.entry.Listed.{Listed}
use Rattle.job_calls.specs.Runs.{Opening}
use Rattle.mosel_run.proofs.laws.whole_jobs.Goals as goal

inside : {A : Type 0} (x y : A) → Some x ≡ Some y → x ≡ y
inside x y e = cc

not_both : {A : Type 0} (found : Option (Option A)) (x : A) → found ≡ Some (Some x) → found ≡ Some None → ⊥
not_both found x e f = let none : Some (Some x) ≡ Some None = sym e ∙ f in let one : Some x ≡ None = inside _ _ none in cc

pub returns-clause-one_opening : goal.returns-clause-one_opening
returns-clause-one_opening c = λ o other journal h k. inside o other (sym h.opened ∙ k.opened)

pub returns-clause-nobody_quit : goal.returns-clause-nobody_quit
returns-clause-nobody_quit c = λ o journal h. h.no_quit

pub returns-clause-every_run_ended : goal.returns-clause-every_run_ended
returns-clause-every_run_ended c = λ o journal run h unfinished less. let e = sym unfinished ∙ h.all_finished run less in cc

pub returns-clause-every_lane_done : goal.returns-clause-every_lane_done
returns-clause-every_lane_done c = λ o journal lane h less. h.all_done lane less

pub returns-clause-line_for_each_run : goal.returns-clause-line_for_each_run
returns-clause-line_for_each_run c = λ journal lines behaviours h. h.all_runs

pub returns-clause-each_run_has_a_source : goal.returns-clause-each_run_has_a_source
returns-clause-each_run_has_a_source c = λ journal lines behaviours run source line h found is none.
    let f = h.each run line found in
    let same : f.source ≡ source = inside f.source source (sym f.source_is ∙ is) in
    not_both (slice_get behaviours f.source) f.behaviour f.behaviour_is (ap (slice_get behaviours) same ∙ none)

pub returns-clause-each_line_names_its_source : goal.returns-clause-each_line_names_its_source
returns-clause-each_line_names_its_source c = λ journal lines behaviours run source line o file h found opened is there.
    let f = h.each run line found in
    let same : f.source ≡ source = inside f.source source (sym f.source_is ∙ is) in
    let files : h.opened.files ≡ o.files = ap (λ (x : Opening). x.files) (inside h.opened o (sym h.opened_is ∙ opened)) in
    let at : Some f.file ≡ Some file =
    sym f.file_is ∙ ap (λ (all : List Listed). slice_get all f.source) files ∙ ap (slice_get o.files) same ∙ there in
    f.follows.named ∙ ap (λ (x : Listed). x.name) (inside f.file file at)
