use Rattle.std.proofs.Common.{sym, subst, [], false}
use Rattle.std.specs.Prelude.{option_and_then}
use Rattle.std.specs.Option.{option_map_or}
use Rattle.event_queue.specs.declared.run.Run.{Run}
use Rattle.event_queue.specs.Runs.{KeepRooms}
use Rattle.event_queue.specs.Steps.{SayTheSame}
use Rattle.event_queue.proofs.Sets as sets
use Rattle.event_queue.proofs.steps.add.Goals as goal

pub returns-in_err-push-clause-rooms : goal.returns-in_err-push-clause-rooms
returns-in_err-push-clause-rooms c = subst KeepRooms (sym c.in_err-push.ensures.items) c.requires

pub returns-clause-rooms : goal.returns-clause-rooms
returns-clause-rooms c = subst KeepRooms (sym c.in_ok-push.ensures.items) (sets.keep_added c.args.runs.now.items c.in_ok-idle.field-0 c.in_ok-idle.ensures c.requires)

pub returns-clause-same : goal.returns-clause-same
returns-clause-same c =
    let runs = c.args.runs.now.items in
    let idle = c.in_ok-idle.field-0 in
    let is = c.in_ok-idle.ensures in
    subst (SayTheSame runs) (sym c.in_ok-push.ensures.items) (record {
      parents = sets.added_says (λ o. option_and_then (λ (run : Run). run.parent) o) idle is.parent runs;
      ended = sets.added_says (λ o. option_map_or (λ (run : Run). run.ended) o false) idle is.ended runs;
      places = sets.added_says (λ o. option_map_or (λ (run : Run). run.places.items) o []) idle is.places runs;
      covers = sets.one_more_long runs idle;
    })
