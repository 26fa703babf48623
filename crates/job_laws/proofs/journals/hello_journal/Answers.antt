-- each entry fits and is answered by those before it, by computing
use Rattle.std.proofs.Common.{refl, arith}
use Rattle.std.proofs.lemmas.List.Elements.{All-nil}
use Rattle.mos_text.specs.FileName.{is_file_name}
use Rattle.job_laws.proofs.journals.hello_journal.Goals as goal

pub returns : goal.returns
unfolding is_file_name
returns c = (
  record {
    lane = refl;
    run = refl;
    reply = refl;
    opened = record {
      some_lane = omega arith;
      few_lanes = omega arith;
      some_budget = omega arith;
      small_budget = omega arith;
      few_files = omega arith;
      master = (refl, refl);
      names = refl;
      distinct = (All-nil _, tt);
    };
  },
  (
    record { fit = refl; answered = refl },
    (
      record { fit = refl; answered = refl },
      (
        record { fit = refl; answered = refl },
        tt,
      ),
    ),
  ),
)
