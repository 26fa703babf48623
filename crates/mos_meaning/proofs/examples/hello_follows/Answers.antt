-- the one line, and no other, by computing
use Rattle.std.proofs.Common.{◌≡◌, ℕ, zero, suc, [], ◌∷◌, Some, None, refl, subst}
use Rattle.std.specs.Prelude.{slice_get}
use Rattle.job_calls.specs.declared.run_line.RunLine.{RunLine}
use Rattle.job_calls.specs.Runs.{Opening}
use Rattle.job_calls.specs.HelloJournal.{hello_entries, hello_runs, hello_file}
use Rattle.mos_meaning.specs.Examples.{hello, hello_image, hello_behaviours}
use Rattle.mos_meaning.specs.Follows.{Follows, ended, behaviour_of}
use Rattle.mos_meaning.specs.Sources.{program_of}
use Rattle.mos_meaning.proofs.examples.hello_follows.Goals as goal

abbrev opened : Opening
opened = record { lanes = 1; budget = 10000000; params = []; files = hello_file ∷ [] }

inside : {A : Type 0} (x y : A) → Some x ≡ Some y → x ≡ y
inside x y e = cc

each : (run : ℕ) (line : RunLine) → slice_get hello_runs run ≡ Some line → Follows hello_entries opened hello_behaviours run line
each zero line e = subst (Follows hello_entries opened hello_behaviours 0) (inside _ line e) record {
  source = 0;
  params = [];
  file = hello_file;
  behaviour = behaviour_of (program_of hello) hello_image;
  source_is = refl;
  params_is = refl;
  file_is = refl;
  behaviour_is = refl;
  follows = record {
    named = refl;
    replies_fit = tt;
    calls = refl;
    says = ended _ refl refl (record { output = refl; ticks = refl; steps = refl });
  };
}
each (suc run) line e = let none : None ≡ Some line = e in cc

pub returns : goal.returns
returns c = record { opened = opened; opened_is = refl; all_runs = refl; each = each }
