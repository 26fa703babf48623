-- what is known of every model's image, of this one
use Rattle.std.proofs.Common.{◌≡◌, ◌≤◌, ◌*◌, ◌+◌, ◌∙◌, List, [], take, Result, Ok, Err, sym, ap, subst, length}
use Rattle.std.specs.Prelude.{IfOk, OnOk}
use Rattle.job_calls.specs.declared.call.Call.{Call}
use Rattle.job_calls.specs.declared.reply.Reply.{Reply}
use Rattle.job_calls.specs.Replies.{AllCanAnswer}
use Rattle.bim_code.specs.declared.image.Image.{Image}
use Rattle.bim_code.specs.Code.{code_size}
use Rattle.bim_code.specs.Limits.{CountsInRange}
use Rattle.bim_code.specs.Rules.{KeepsRules}
use Rattle.mos_text.specs.declared.no_memory.NoMemory.{NoMemory}
use Rattle.run_state.specs.Stops.{Outcome}
use Rattle.mos_meaning.specs.Syntax.{Block}
use Rattle.mos_meaning.specs.Sources.{program_of, statements_of, variables_of}
use Rattle.mos_meaning.specs.Meaning.{meaning_of}
use Rattle.mos_meaning.specs.Working.{NeverStuck, NeverLost, CallsNothing, TookFitting}
use Rattle.bim_compile.specs.Compiled.{image_of}
use Rattle.bim_compile.specs.InSize.{IsInSize, IsSmallBlock}
use Rattle.bim_compile.specs.Means.{Means, KeepsGlobals, NeverFails}
use Rattle.bim_compile.specs.Sizes.{size_of_block}
use Rattle.bim_compile.proofs.BuiltModels.{block-built}
use Rattle.bim_compile.proofs.CourseLemmas.{course_is_meaning, keeps_globals}
use Rattle.bim_compile.proofs.KeptRules.{keeps_rules}
use Rattle.bim_compile.proofs.SizeLemmas.{fits_fields, code_within, few_instructions, texts_short_block}
use Rattle.bim_compile.proofs.compiler.compile.Goals as goal

-- what holds of one image holds of what is that image
of_it : (P : Image → Type 0) (image : Image) (result : Result Image NoMemory) → P image → IfOk result (λ made. made ≡ image) → IfOk result P
of_it P image (Ok made) h e = subst P (sym e) h
of_it P image (Err fault) h e = tt

-- or, where literals and texts are small, of a small one
of_small : (P : Image → Type 0) (model : Block) (result : Result Image NoMemory) → (IsSmallBlock model → P (image_of model))
    → IfOk result (λ (made : Image). made ≡ image_of model) → OnOk result (IsSmallBlock model) → IfOk result P
of_small P model (Ok made) h e small = subst P (sym e) (h small)
of_small P model (Err fault) h e small = tt

pub build-requires-clause-built : goal.build-requires-clause-built
build-requires-clause-built c = block-built (variables_of (statements_of c.args.tree.now)) (statements_of c.args.tree.now) c.requires.can_compile.works

pub build-requires-clause-small : goal.build-requires-clause-small
build-requires-clause-small c = c.requires.can_compile.not_large

pub returns-clause-means : goal.returns-clause-means
returns-clause-means c =
    let model = statements_of c.args.tree.now in
    let works = c.requires.can_compile.works in
    of_small (Means (program_of model)) model c.build.result
    (λ small.
    let in_size : IsInSize model = record { small = small; size = c.requires.can_compile.not_large } in
    course_is_meaning c.machine_laws.ensures.over_in_time c.machine_laws.ensures.stays_over model (block-built (variables_of model) model works)
    (keeps_rules model works in_size).ticks (c.working_models.ensures.never_lost model works))
    c.build.ensures.built c.build.ensures.small

pub returns-clause-globals : goal.returns-clause-globals
returns-clause-globals c =
    let model = statements_of c.args.tree.now in
    let works = c.requires.can_compile.works in
    of_small (KeepsGlobals (program_of model)) model c.build.result
    (λ small.
    let in_size : IsInSize model = record { small = small; size = c.requires.can_compile.not_large } in
    keeps_globals c.machine_laws.ensures.over_in_time c.machine_laws.ensures.stays_over model (block-built (variables_of model) model works)
    (keeps_rules model works in_size).ticks (c.working_models.ensures.never_lost model works))
    c.build.ensures.built c.build.ensures.small

-- without calls there are no replies that could not fit
without_calls : (replies : List Reply) (o : Outcome) → o.calls ≡ [] → TookFitting replies o
without_calls replies o e = subst (λ (calls : List Call). AllCanAnswer calls (take (length calls) replies)) (sym e) tt

-- what means a model that is never stuck and never lost is neither
never_fails : (model : Block) (image : Image) → Means (program_of model) image → NeverStuck (program_of model) → NeverLost (program_of model) → CallsNothing (program_of model)
    → NeverFails image
never_fails model image means never_stuck never_lost calls_nothing = record {
  stuck = λ text replies budget fits e.
      never_stuck text replies budget (subst (TookFitting replies) (means text replies budget) fits) (ap (λ (o : Outcome). o.stop) (sym (means text replies budget)) ∙ e);
  alone = λ text budget e.
      never_stuck text [] budget (without_calls [] (meaning_of (program_of model) text [] budget) (calls_nothing text [] budget).answered) (ap (λ (o : Outcome). o.stop) (sym (means text [] budget)) ∙ e);
  lost = λ text replies budget e. never_lost text replies budget (ap (λ (o : Outcome). o.stop) (sym (means text replies budget)) ∙ e);
}

pub returns-clause-never_fails : goal.returns-clause-never_fails
returns-clause-never_fails c =
    let model = statements_of c.args.tree.now in
    let works = c.requires.can_compile.works in
    of_small NeverFails model c.build.result
    (λ small.
    let in_size : IsInSize model = record { small = small; size = c.requires.can_compile.not_large } in
    never_fails model (image_of model)
    (course_is_meaning c.machine_laws.ensures.over_in_time c.machine_laws.ensures.stays_over model (block-built (variables_of model) model works)
    (keeps_rules model works in_size).ticks (c.working_models.ensures.never_lost model works))
    (c.working_models.ensures.never_stuck model works) (c.working_models.ensures.never_lost model works) (c.working_models.ensures.calls_nothing model works))
    c.build.ensures.built c.build.ensures.small

pub returns-clause-never_lost : goal.returns-clause-never_lost
returns-clause-never_lost c = c.working_models.ensures.never_lost (statements_of c.args.tree.now) c.requires.can_compile.works

pub returns-clause-calls_nothing : goal.returns-clause-calls_nothing
returns-clause-calls_nothing c = c.working_models.ensures.calls_nothing (statements_of c.args.tree.now) c.requires.can_compile.works

pub returns-clause-rules : goal.returns-clause-rules
returns-clause-rules c =
    let model = statements_of c.args.tree.now in
    of_small KeepsRules model c.build.result
    (λ small. keeps_rules model c.requires.can_compile.works (record { small = small; size = c.requires.can_compile.not_large }))
    c.build.ensures.built c.build.ensures.small

pub returns-clause-fields : goal.returns-clause-fields
returns-clause-fields c =
    let model = statements_of c.args.tree.now in
    of_small CountsInRange model c.build.result (λ small. fits_fields model c.requires.can_compile.not_large (texts_short_block model small))
    c.build.ensures.built c.build.ensures.small

pub returns-clause-few : goal.returns-clause-few
returns-clause-few c =
    let model = statements_of c.args.tree.now in
    of_it (λ (image : Image). length image.code ≤ 5 * size_of_block model + 2) (image_of model) c.build.result (few_instructions model) c.build.ensures.built

pub returns-clause-size : goal.returns-clause-size
returns-clause-size c =
    let model = statements_of c.args.tree.now in
    of_it (λ (image : Image). code_size image.code ≤ 13 * size_of_block model + 6) (image_of model) c.build.result (code_within model) c.build.ensures.built
