-- a line is missing, or has no model, or names another file
use Rattle.std.proofs.Common.{◌≡◌, ℕ, List, [], ◌∷◌, Option, Some, None, refl, sym, ◌∙◌, ap, get_or, arith}
use Rattle.std.specs.Prelude.{slice_get, codes}
use Rattle.job_calls.specs.declared.entry.Listed.{Listed}
use Rattle.job_calls.specs.Runs.{Opening}
use Rattle.job_calls.specs.HelloJournal.{hello_file}
use Rattle.mos_meaning.specs.Follows.{Behaviour}
use Rattle.mos_meaning.proofs.examples.refused_lines.Goals as goal

inside : {A : Type 0} (x y : A) → Some x ≡ Some y → x ≡ y
inside x y e = cc

pub returns-clause-too_few : goal.returns-clause-too_few
returns-clause-too_few c = λ h. let e = h.all_runs in absurd (omega (arith, e))

pub returns-clause-no_model : goal.returns-clause-no_model
returns-clause-no_model c = λ h.
    let f = h.each 0 _ refl in
    let behaviours : List (Option Behaviour) = None ∷ [] in
    let at : slice_get behaviours 0 ≡ Some (Some f.behaviour) = ap (slice_get behaviours) (inside 0 f.source f.source_is) ∙ f.behaviour_is in
    let none : Option Behaviour = None in
    let e : none ≡ Some f.behaviour = inside none (Some f.behaviour) at in
    cc

pub returns-clause-another_source : goal.returns-clause-another_source
returns-clause-another_source c = λ line named h.
    let f = h.each 0 line refl in
    let files : h.opened.files ≡ hello_file ∷ [] = ap (λ (o : Opening). o.files) (sym (inside _ h.opened h.opened_is)) in
    let at : Some hello_file ≡ Some f.file =
    ap (slice_get (hello_file ∷ [])) (inside 0 f.source f.source_is) ∙ ap (λ all. slice_get all f.source) (sym files) ∙ f.file_is in
    let name : codes "hello.mos" ≡ codes "other.mos" =
    ap (λ (file : Listed). file.name) (inside hello_file f.file at) ∙ sym f.follows.named ∙ named in
    let first : ◌≡◌ {A = ℕ} 104 111 = ap (λ bytes. get_or bytes 0 0) name in
    absurd (omega (arith, first))
