-- Journals that are legal by computing each test and each answer.

use Rattle.std.proofs.Common.{◌≡◌, ◌≤◌, ℕ, Bool, true, List, [], ◌∷◌, ◌++◌, refl, ap, arith}
use Rattle.std.specs.Prelude.{map}
use Rattle.std.specs.List.{list_all}
use Rattle.std.proofs.lemmas.List.Elements.{All-nil}
use Rattle.mos_text.specs.FileName.{is_file_name}
use Rattle.job_calls.specs.declared.call.Call.TheVariants.{Open}
use Rattle.job_calls.specs.declared.reply.Answer.{Answer}
use Rattle.job_calls.specs.declared.reply.Answer.TheVariants.{Ready}
use Rattle.job_calls.specs.declared.reply.Reply.TheVariants.{Opened}
use Rattle.job_calls.specs.declared.entry.Entry.{Entry}
use Rattle.job_calls.specs.Entries.{own_entries}
use Rattle.job_calls.specs.Moments.{Moment, moments_from}
use Rattle.job_calls.specs.Runs.{opening}
use Rattle.job_calls.specs.Answers.{answer_of}
use Rattle.job_calls.specs.Fitting.{fits}
use Rattle.job_calls.specs.Legal.{IsLegal, IsOpening, FollowOn}
use Rattle.job_laws.specs.HubExamples.{alone, master_file, child_file}
use Rattle.job_laws.specs.RowExamples.{bad_file, data_file}
use Rattle.job_laws.proofs.Lists.{head_or, tail_of}
use Rattle.job_laws.proofs.Naming.{all_apart}
use Rattle.job_laws.proofs.Entering.{and_true}

abbrev pub fits_then : Moment → Bool
fits_then m = fits (opening m.before) (own_entries m.entry.lane m.before) m.entry.lane m.entry.run m.entry.call

abbrev pub answer_then : Moment → Answer
answer_then m = answer_of m.before m.entry.lane m.entry.run m.entry.call

abbrev pub reply_then : Moment → Answer
reply_then m = Ready m.entry.reply

-- the first entry opens a job, every other call fits, and every reply is the answer
abbrev pub CanStand : List Entry → Type 0
CanStand [] = ⊥
CanStand (e ∷ es) =
    IsOpening e
    × (list_all fits_then (moments_from (e ∷ []) es) ≡ true)
    × (map answer_then (moments_from (e ∷ []) es) ≡ map reply_then (moments_from (e ∷ []) es))

follow_on : (before es : List Entry) → list_all fits_then (moments_from before es) ≡ true
    → map answer_then (moments_from before es) ≡ map reply_then (moments_from before es) → FollowOn before es
follow_on before [] fit same = tt
follow_on before (e ∷ es) fit same =
    let both = and_true (fits_then (record { before = before; entry = e })) (list_all fits_then (moments_from (before ++ e ∷ []) es)) fit in (
      record { fit = both.0; answered = ap (head_or (Ready e.reply)) same },
      follow_on (before ++ e ∷ []) es both.1 (ap tail_of same),
    )

pub legal_by : (journal : List Entry) → CanStand journal → IsLegal journal
legal_by [] h = absurd h
legal_by (e ∷ es) h = (h.0, follow_on (e ∷ []) es h.1 h.2)

-- a master and a child are what a job may be opened with
pub opens_job : (lanes : ℕ) → 1 ≤ lanes → lanes ≤ 64 → IsOpening (alone 0 (Open lanes 10000000 [] (master_file ∷ child_file ∷ [])) Opened)
unfolding is_file_name
opens_job lanes some few = record {
  lane = refl;
  run = refl;
  reply = refl;
  opened = record {
    some_lane = some;
    few_lanes = few;
    some_budget = omega arith;
    small_budget = omega arith;
    few_files = omega arith;
    master = (refl, refl);
    names = refl;
    distinct = (all_apart master_file.name (child_file ∷ []) refl, (All-nil _, tt));
  };
}

-- and so are these with a source that is refused and a data file
pub opens_more : IsOpening (alone 0 (Open 1 10000000 [] (master_file ∷ child_file ∷ bad_file ∷ data_file ∷ [])) Opened)
unfolding is_file_name
opens_more = record {
  lane = refl;
  run = refl;
  reply = refl;
  opened = record {
    some_lane = omega arith;
    few_lanes = omega arith;
    some_budget = omega arith;
    small_budget = omega arith;
    few_files = omega arith;
    master = (refl, refl);
    names = refl;
    distinct = (
      all_apart master_file.name (child_file ∷ bad_file ∷ data_file ∷ []) refl,
      (all_apart child_file.name (bad_file ∷ data_file ∷ []) refl, (all_apart bad_file.name (data_file ∷ []) refl, (All-nil _, tt))),
    );
  };
}
