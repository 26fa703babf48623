-- by computing
use Rattle.std.proofs.Common.{refl}
use Rattle.job_laws.proofs.journals.unfit_calls.Goals as goal

pub returns : goal.returns
returns c = record {
  calls = refl;
  unclaimed = refl;
  finished = refl;
  done = refl;
  over = (refl, refl, refl, refl);
  pipes = refl;
  closed = refl;
}
