-- The journal of one run that makes no call follows the course of its image.

use Rattle.std.proofs.Common.{◌≡◌, ℕ, zero, suc, List, [], ◌∷◌, Option, Some, refl, sym, ap, ◌∙◌, subst}
use Rattle.std.specs.Prelude.{slice_get}
use Rattle.job_calls.specs.declared.end.End.{End}
use Rattle.job_calls.specs.declared.entry.Listed.{Listed}
use Rattle.job_calls.specs.declared.run_line.RunLine.{RunLine}
use Rattle.job_calls.specs.Runs.{Opening, calls_of, replies_of}
use Rattle.job_calls.specs.Replies.{AllCanAnswer}
use Rattle.bim_code.specs.declared.image.Image.{Image}
use Rattle.run_state.specs.Stops.{Course}
use Rattle.bim_machine.specs.Courses.{course_of}
use Rattle.mos_meaning.specs.Follows.{Behaviour, FollowsSources, Follows, RunFollows, Says, ended, end_of}
use Rattle.mos_vm.specs.declared.runner.RunResult.{RunResult}
use Rattle.mos_vm.specs.Courses.{IsCourse, outcome_of, stop_of}
use Rattle.lane_step.specs.Alone.{opening_with}
use Rattle.lane_step.specs.Lines.{line_of, IsFirstName}
use Rattle.lane_step.specs.Schedule.{schedule_of}
use Rattle.lane_step.proofs.WholeSchedules.{one_run, finish_is, no_calls, no_replies}

-- the run took the course that it took
took : (o : Opening) (file : Listed) (ran : RunResult) (end : End) → end_of (stop_of ran.stop) ≡ Some end
    → RunFollows (schedule_of o end) 0 (line_of file.name end ran) file (record { outcome = outcome_of ran; steps = ran.steps })
took o file ran end ends =
    let journal = schedule_of o end in
    let course : Course = record { outcome = outcome_of ran; steps = ran.steps } in
    record {
      named = refl;
      replies_fit = subst (AllCanAnswer (calls_of 0 journal)) (sym (no_replies o end)) (subst (λ calls. AllCanAnswer calls []) (sym (no_calls o end)) tt);
      calls = no_calls o end;
      says = subst (Says (line_of file.name end ran) course) (sym (finish_is o end)) (ended end ends refl (record { output = refl; ticks = refl; steps = refl }));
    }

-- and that is the course of its image
run_follows : (o : Opening) (file : Listed) (image : Image) (ran : RunResult) (end : End)
    → IsCourse image o.params o.budget ran → end_of (stop_of ran.stop) ≡ Some end
    → RunFollows (schedule_of o end) 0 (line_of file.name end ran) file (course_of image o.params (replies_of 0 (schedule_of o end)) o.budget)
run_follows o file image ran end course ends =
    let same : course_of image o.params (replies_of 0 (schedule_of o end)) o.budget ≡ record { outcome = outcome_of ran; steps = ran.steps } =
    ap (λ replies. course_of image o.params replies o.budget) (no_replies o end) ∙ course in
    subst (RunFollows (schedule_of o end) 0 (line_of file.name end ran) file) (sym same) (took o file ran end ends)

-- the run follows the first of these files
abbrev HasFollowed : ℕ → ℕ → List ℕ → Listed → List Listed → Image → End → List (Option Behaviour) → ℕ → RunLine → Type 0
HasFollowed lanes budget params file files image end others =
    Follows (schedule_of (opening_with lanes budget params (file ∷ files)) end) (opening_with lanes budget params (file ∷ files)) (Some (course_of image) ∷ others)

by_file : (lanes budget : ℕ) (params : List ℕ) (file : Listed) (files : List Listed) (image : Image) (ran : RunResult) (end : End) (others : List (Option Behaviour))
    → IsCourse image params budget ran → end_of (stop_of ran.stop) ≡ Some end
    → FollowsSources (schedule_of (opening_with lanes budget params (file ∷ files)) end) (line_of file.name end ran ∷ []) (Some (course_of image) ∷ others)
by_file lanes budget params file files image ran end others course ends =
    let o = opening_with lanes budget params (file ∷ files) in
    record { opened = o; opened_is = refl; all_runs = sym (one_run o end); each = each }
  where
    one : (line : RunLine) → line_of file.name end ran ≡ line → HasFollowed lanes budget params file files image end others 0 line
    one line same = subst (HasFollowed lanes budget params file files image end others 0) same (record {
      source = 0;
      params = params;
      file = file;
      behaviour = course_of image;
      source_is = refl;
      params_is = refl;
      file_is = refl;
      behaviour_is = refl;
      follows = run_follows (opening_with lanes budget params (file ∷ files)) file image ran end course ends;
    })

    each : (run : ℕ) (line : RunLine) → slice_get (line_of file.name end ran ∷ []) run ≡ Some line → HasFollowed lanes budget params file files image end others run line
    each zero line found = one line cc
    each (suc run) line found = cc

pub follows_sources : (lanes budget : ℕ) (params : List ℕ) (files : List Listed) (name : List ℕ) (image : Image) (ran : RunResult) (end : End) (others : List (Option Behaviour))
    → IsFirstName files name → IsCourse image params budget ran → end_of (stop_of ran.stop) ≡ Some end
    → FollowsSources (schedule_of (opening_with lanes budget params files) end) (line_of name end ran ∷ []) (Some (course_of image) ∷ others)
follows_sources lanes budget params [] name image ran end others first course ends = absurd first
follows_sources lanes budget params (file ∷ files) name image ran end others first course ends =
    subst (λ (n : List ℕ). FollowsSources (schedule_of (opening_with lanes budget params (file ∷ files)) end) (line_of n end ran ∷ []) (Some (course_of image) ∷ others)) (sym first)
    (by_file lanes budget params file files image ran end others course ends)
