-- by computing
use Rattle.std.proofs.Common.{refl}
use Rattle.job_laws.proofs.journals.rare_answers.Goals as goal

pub returns : goal.returns
returns c = record {
  nothing_to_run = (refl, refl, refl);
  ends = (refl, refl);
  unload = refl;
  shut = (refl, refl);
  busy = (refl, refl, refl, refl);
  bytes = refl;
  old_writer = (refl, refl, refl);
}
