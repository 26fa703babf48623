use Rattle.std.proofs.Common.{◌-◌, refl, true}
use Rattle.event_queue.proofs.Sets as sets
use Rattle.event_queue.proofs.steps.set_ended.Goals as goal

pub returns-in-Some-clause-rooms : goal.returns-in-Some-clause-rooms
returns-in-Some-clause-rooms c =
    let was = sets.found c.args.runs.now.items c.args.run c.in-Some.run'.now c.requires.covers c.in-Some.ensures.value in
    sets.keep_ended c.args.runs.now.items c.args.run c.in-Some.run'.now
    (record { parent = c.in-Some.run'.now.parent; ended = true; children = c.in-Some.run'.now.children; places = c.in-Some.run'.now.places })
    was c.requires.rooms refl refl refl refl

pub returns-in-Some-clause-parents : goal.returns-in-Some-clause-parents
returns-in-Some-clause-parents c =
    let was = sets.found c.args.runs.now.items c.args.run c.in-Some.run'.now c.requires.covers c.in-Some.ensures.value in
    sets.parents_stay c.args.runs.now.items c.args.run c.in-Some.run'.now
    (record { parent = c.in-Some.run'.now.parent; ended = true; children = c.in-Some.run'.now.children; places = c.in-Some.run'.now.places })
    was refl

pub returns-in-Some-clause-ended : goal.returns-in-Some-clause-ended
returns-in-Some-clause-ended c =
    let was = sets.found c.args.runs.now.items c.args.run c.in-Some.run'.now c.requires.covers c.in-Some.ensures.value in
    sets.end_set c.args.runs.now.items c.args.run c.in-Some.run'.now
    (record { parent = c.in-Some.run'.now.parent; ended = true; children = c.in-Some.run'.now.children; places = c.in-Some.run'.now.places })
    was refl

pub returns-in-Some-clause-places : goal.returns-in-Some-clause-places
returns-in-Some-clause-places c =
    let was = sets.found c.args.runs.now.items c.args.run c.in-Some.run'.now c.requires.covers c.in-Some.ensures.value in
    sets.places_stay c.args.runs.now.items c.args.run c.in-Some.run'.now
    (record { parent = c.in-Some.run'.now.parent; ended = true; children = c.in-Some.run'.now.children; places = c.in-Some.run'.now.places })
    was refl

pub returns-in-Some-clause-spare : goal.returns-in-Some-clause-spare
returns-in-Some-clause-spare c = λ going p parent.
    let was = sets.found c.args.runs.now.items c.args.run c.in-Some.run'.now c.requires.covers c.in-Some.ensures.value in
    let is_going = sets.ended_here c.args.runs.now.items c.args.run c.in-Some.run'.now was going in
    let is_parent = sets.parent_here c.args.runs.now.items c.args.run c.in-Some.run'.now was p parent in
    sets.end_spares c.args.runs.now.items c.args.run c.in-Some.run'.now
    (record { parent = c.in-Some.run'.now.parent; ended = true; children = c.in-Some.run'.now.children; places = c.in-Some.run'.now.places })
    was c.requires.rooms is_going refl refl p is_parent

pub returns-in-Some-clause-room : goal.returns-in-Some-clause-room
returns-in-Some-clause-room c =
    let was = sets.found c.args.runs.now.items c.args.run c.in-Some.run'.now c.requires.covers c.in-Some.ensures.value in
    sets.rooms_stay c.args.runs.now.items c.args.run c.in-Some.run'.now
    (record { parent = c.in-Some.run'.now.parent; ended = true; children = c.in-Some.run'.now.children; places = c.in-Some.run'.now.places })
    was refl refl

pub returns-in-Some-clause-parent : goal.returns-in-Some-clause-parent
returns-in-Some-clause-parent c = λ p parent.
    let was = sets.found c.args.runs.now.items c.args.run c.in-Some.run'.now c.requires.covers c.in-Some.ensures.value in
    let inside = (c.requires.rooms _ _ was).parent p (sets.parent_here c.args.runs.now.items c.args.run c.in-Some.run'.now was p parent) in
    sets.one_set c.args.runs.now.items c.args.run
    (record { parent = c.in-Some.run'.now.parent; ended = true; children = c.in-Some.run'.now.children; places = c.in-Some.run'.now.places })
    p inside
