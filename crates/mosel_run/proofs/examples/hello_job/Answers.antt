-- by computing; that the journal is legal is an example of its own
use Rattle.std.proofs.Common.{◌≡◌, ℕ, zero, suc, ◌<◌, true, refl, arith, rules}
use Rattle.job_calls.specs.HelloJournal.{hello_entries}
use Rattle.job_calls.specs.Entries.{own_entries, is_finished}
use Rattle.job_laws.specs.Lanes.{EndsDone}
use Rattle.mosel_run.proofs.examples.hello_job.Goals as goal

finished : (run : ℕ) → run < 1 → is_finished run hello_entries ≡ true
finished zero h = refl
finished (suc run) h = absurd (omega (arith, h))

done : (lane : ℕ) → lane < 1 → EndsDone (own_entries lane hello_entries)
done zero h = (refl, refl)
done (suc lane) h = absurd (omega (arith, h))

pub returns-clause-schedule : goal.returns-clause-schedule
returns-clause-schedule c = refl

pub returns-clause-whole : goal.returns-clause-whole
returns-clause-whole c = record { legal = search rules; opened = refl; no_quit = refl; all_finished = finished; all_done = done }

pub returns-clause-puts : goal.returns-clause-puts
returns-clause-puts c = refl
