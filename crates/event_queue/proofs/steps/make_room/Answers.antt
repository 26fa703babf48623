use Rattle.std.proofs.Common.{◌-◌, ap, arith, length, subst}
use Rattle.event_queue.specs.Runs.{HasRoom}
use Rattle.event_queue.proofs.Sets as sets
use Rattle.event_queue.proofs.steps.make_room.Goals as goal

pub returns-in-Some-clause-rooms : goal.returns-in-Some-clause-rooms
returns-in-Some-clause-rooms c =
    let was = sets.found c.args.runs.now.items c.args.run c.in-Some.run'.now c.requires.covers c.in-Some.ensures.value in
    let kept = c.requires.rooms _ _ was in
    let told = c.make_room.ensures.same in
    let counted = kept.children in
    let room = kept.room in
    let children = told.children in
    let length_is = ap (λ xs. length xs) told.places in
    let more = told.room in
    sets.keep_queue c.args.runs.now.items c.args.run c.in-Some.run'.now c.make_room.new.self c.requires.rooms was told.parent told.ended (omega (arith, counted, children)) (omega (arith, room, children, length_is, more)) told.few

pub returns-in-Some-clause-same : goal.returns-in-Some-clause-same
returns-in-Some-clause-same c =
    let was = sets.found c.args.runs.now.items c.args.run c.in-Some.run'.now c.requires.covers c.in-Some.ensures.value in
    let told = c.make_room.ensures.same in
    record {
      parents = sets.parents_stay c.args.runs.now.items c.args.run c.in-Some.run'.now c.make_room.new.self was told.parent;
      ended = sets.ends_stay c.args.runs.now.items c.args.run c.in-Some.run'.now c.make_room.new.self was told.ended;
      places = sets.places_stay c.args.runs.now.items c.args.run c.in-Some.run'.now c.make_room.new.self was told.places;
      covers = sets.no_shorter c.args.runs.now.items c.args.run c.make_room.new.self;
    }

pub returns-in-Some-clause-room : goal.returns-in-Some-clause-room
returns-in-Some-clause-room c =
    let was = sets.found c.args.runs.now.items c.args.run c.in-Some.run'.now c.requires.covers c.in-Some.ensures.value in
    sets.on_ok c.make_room.result (sets.room_at c.args.runs.now.items c.args.run c.in-Some.run'.now c.make_room.new.self was) c.make_room.ensures.room

pub returns-in-Some-clause-sure : goal.returns-in-Some-clause-sure
returns-in-Some-clause-sure c = λ room.
    let was = sets.found c.args.runs.now.items c.args.run c.in-Some.run'.now c.requires.covers c.in-Some.ensures.value in
    c.make_room.ensures.sure (subst HasRoom (sets.same_run c.args.runs.now.items c.args.run _ _ room.1 was) room.2)
