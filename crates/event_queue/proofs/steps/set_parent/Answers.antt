use Rattle.std.proofs.Common.{◌-◌, refl, Some}
use Rattle.event_queue.proofs.Sets as sets
use Rattle.event_queue.proofs.steps.set_parent.Goals as goal

pub returns-in-Some-clause-rooms : goal.returns-in-Some-clause-rooms
returns-in-Some-clause-rooms c =
    let was = sets.found c.args.runs.now.items c.args.run c.in-Some.run'.now c.requires.covers.0 c.in-Some.ensures.value in
    sets.keep_started c.args.runs.now.items c.args.run c.in-Some.run'.now
    (record { parent = Some c.args.caller; ended = c.in-Some.run'.now.ended; children = c.in-Some.run'.now.children; places = c.in-Some.run'.now.places })
    was c.args.caller c.requires.rooms c.requires.spare c.requires.covers.1 refl refl refl refl

pub returns-in-Some-clause-parents : goal.returns-in-Some-clause-parents
returns-in-Some-clause-parents c =
    let was = sets.found c.args.runs.now.items c.args.run c.in-Some.run'.now c.requires.covers.0 c.in-Some.ensures.value in
    sets.parent_set c.args.runs.now.items c.args.run c.in-Some.run'.now
    (record { parent = Some c.args.caller; ended = c.in-Some.run'.now.ended; children = c.in-Some.run'.now.children; places = c.in-Some.run'.now.places })
    was c.args.caller refl

pub returns-in-Some-clause-ended : goal.returns-in-Some-clause-ended
returns-in-Some-clause-ended c =
    let was = sets.found c.args.runs.now.items c.args.run c.in-Some.run'.now c.requires.covers.0 c.in-Some.ensures.value in
    sets.ends_stay c.args.runs.now.items c.args.run c.in-Some.run'.now
    (record { parent = Some c.args.caller; ended = c.in-Some.run'.now.ended; children = c.in-Some.run'.now.children; places = c.in-Some.run'.now.places })
    was refl

pub returns-in-Some-clause-places : goal.returns-in-Some-clause-places
returns-in-Some-clause-places c =
    let was = sets.found c.args.runs.now.items c.args.run c.in-Some.run'.now c.requires.covers.0 c.in-Some.ensures.value in
    sets.places_stay c.args.runs.now.items c.args.run c.in-Some.run'.now
    (record { parent = Some c.args.caller; ended = c.in-Some.run'.now.ended; children = c.in-Some.run'.now.children; places = c.in-Some.run'.now.places })
    was refl
