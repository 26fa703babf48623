use Rattle.std.proofs.Common.{◌-◌, ap, refl, arith, length}
use Rattle.event_queue.proofs.Sets as sets
use Rattle.event_queue.proofs.steps.take.Goals as goal

pub returns-in-Some-clause-rooms : goal.returns-in-Some-clause-rooms
returns-in-Some-clause-rooms c =
    let was = sets.found c.args.runs.now.items c.args.run c.in-Some.run'.now c.in-Some.ensures.item.3.0 c.in-Some.ensures.value in
    let kept = c.requires.rooms _ _ was in
    let items = ap (λ b. length b.items) c.pop_front.ensures.items in
    let capacity = ap (λ b. b.capacity) c.pop_front.ensures.items in
    let room = sets.less_taken c.in-Some.run'.now.places.items c.in-Some.run'.now.children c.in-Some.run'.now.places.capacity kept.room in
    let few = kept.few in
    sets.keep_queue c.args.runs.now.items c.args.run c.in-Some.run'.now
    (record { parent = c.in-Some.run'.now.parent; ended = c.in-Some.run'.now.ended; children = c.in-Some.run'.now.children; places = c.pop_front.new.self })
    c.requires.rooms was refl refl kept.children (omega (arith, room, items, capacity)) (omega (arith, few, capacity))

pub returns-in-Some-clause-parents : goal.returns-in-Some-clause-parents
returns-in-Some-clause-parents c =
    let was = sets.found c.args.runs.now.items c.args.run c.in-Some.run'.now c.in-Some.ensures.item.3.0 c.in-Some.ensures.value in
    sets.parents_stay c.args.runs.now.items c.args.run c.in-Some.run'.now
    (record { parent = c.in-Some.run'.now.parent; ended = c.in-Some.run'.now.ended; children = c.in-Some.run'.now.children; places = c.pop_front.new.self })
    was refl

pub returns-in-Some-clause-ended : goal.returns-in-Some-clause-ended
returns-in-Some-clause-ended c =
    let was = sets.found c.args.runs.now.items c.args.run c.in-Some.run'.now c.in-Some.ensures.item.3.0 c.in-Some.ensures.value in
    sets.ends_stay c.args.runs.now.items c.args.run c.in-Some.run'.now
    (record { parent = c.in-Some.run'.now.parent; ended = c.in-Some.run'.now.ended; children = c.in-Some.run'.now.children; places = c.pop_front.new.self })
    was refl

pub returns-in-Some-clause-places : goal.returns-in-Some-clause-places
returns-in-Some-clause-places c =
    let was = sets.found c.args.runs.now.items c.args.run c.in-Some.run'.now c.in-Some.ensures.item.3.0 c.in-Some.ensures.value in
    sets.place_taken c.args.runs.now.items c.args.run c.in-Some.run'.now
    (record { parent = c.in-Some.run'.now.parent; ended = c.in-Some.run'.now.ended; children = c.in-Some.run'.now.children; places = c.pop_front.new.self })
    was (ap (λ b. b.items) c.pop_front.ensures.items)

pub returns-in_default-clause-places : goal.returns-in_default-clause-places
returns-in_default-clause-places c = sets.take_past c.args.runs.now.items c.args.run c.in_default.ensures.item.3
