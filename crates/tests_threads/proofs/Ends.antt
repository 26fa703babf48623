-- What a lane was told of a run is all that the journal says of it.
use Rattle.std.proofs.Common.{◌≡◌, ◌∙◌, List, sym, ap}
use Rattle.std.specs.Prelude.{All}
use Rattle.std.proofs.lemmas.List.Elements.{All-weaker}
use Rattle.job_calls.specs.declared.entry.Entry.{Entry}
use Rattle.job_calls.specs.Fitting.{exchange_of}
use Rattle.job_calls.specs.Legal.{IsLegal}
use Rattle.job_calls.specs.Runs.{finish_of}
use Rattle.job_calls.specs.Entries.{is_claimed, own_entries}
use Rattle.job_laws.specs.Lanes.{OneLaneARun}
use Rattle.hub_lock.specs.Seats.{SeatState}
use Rattle.hub_lock.specs.Calls.{IsIn}
use Rattle.tests_threads.specs.Holding.{own}
use Rattle.tests_threads.specs.Endings.{TellsRuns}

pub tells : OneLaneARun → (seat : SeatState Entry) (journal : List Entry) → IsLegal journal → IsIn (λ e. e.lane) seat journal → TellsRuns seat journal
tells one seat journal legal within run given =
    let same : own_entries seat.lane journal ≡ own seat = within.1 in
    let of_lane = one journal legal run seat.lane (ap (is_claimed run) same ∙ given) in
    record {
      exchange = sym of_lane.exchange ∙ ap (exchange_of run) same;
      end = sym of_lane.end ∙ ap (finish_of run) same;
    }

pub all_tell : OneLaneARun → (seats : List (SeatState Entry)) (journal : List Entry) → IsLegal journal
    → All (λ seat. IsIn (λ (e : Entry). e.lane) seat journal) seats → All (λ seat. TellsRuns seat journal) seats
all_tell one seats journal legal within =
    All-weaker (λ (seat : SeatState Entry). IsIn (λ (e : Entry). e.lane) seat journal) (λ seat. TellsRuns seat journal)
    (λ seat is. tells one seat journal legal is) seats within
