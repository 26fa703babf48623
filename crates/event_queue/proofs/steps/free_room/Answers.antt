use Rattle.std.proofs.Common.{◌-◌, refl, arith}
use Rattle.event_queue.proofs.Sets as sets
use Rattle.event_queue.proofs.steps.free_room.Goals as goal

pub returns-in-Some-clause-rooms : goal.returns-in-Some-clause-rooms
returns-in-Some-clause-rooms c =
    let was = sets.found c.args.runs.now.items c.args.run c.in-Some.run'.now c.requires.covers c.in-Some.ensures.value in
    let own = c.requires.spare _ was in
    sets.keep_freed c.args.runs.now.items c.args.run c.in-Some.run'.now
    (record { parent = c.in-Some.run'.now.parent; ended = c.in-Some.run'.now.ended; children = c.in-Some.run'.now.children - 1; places = c.in-Some.run'.now.places })
    was c.requires.rooms c.requires.spare refl refl (omega (arith, own)) refl

pub returns-in-Some-clause-same : goal.returns-in-Some-clause-same
returns-in-Some-clause-same c =
    let was = sets.found c.args.runs.now.items c.args.run c.in-Some.run'.now c.requires.covers c.in-Some.ensures.value in
    record {
      parents = sets.parents_stay c.args.runs.now.items c.args.run c.in-Some.run'.now
          (record { parent = c.in-Some.run'.now.parent; ended = c.in-Some.run'.now.ended; children = c.in-Some.run'.now.children - 1; places = c.in-Some.run'.now.places })
          was refl;
      ended = sets.ends_stay c.args.runs.now.items c.args.run c.in-Some.run'.now
          (record { parent = c.in-Some.run'.now.parent; ended = c.in-Some.run'.now.ended; children = c.in-Some.run'.now.children - 1; places = c.in-Some.run'.now.places })
          was refl;
      places = sets.places_stay c.args.runs.now.items c.args.run c.in-Some.run'.now
          (record { parent = c.in-Some.run'.now.parent; ended = c.in-Some.run'.now.ended; children = c.in-Some.run'.now.children - 1; places = c.in-Some.run'.now.places })
          was refl;
      covers = sets.no_shorter c.args.runs.now.items c.args.run
          (record { parent = c.in-Some.run'.now.parent; ended = c.in-Some.run'.now.ended; children = c.in-Some.run'.now.children - 1; places = c.in-Some.run'.now.places });
    }

pub returns-in-Some-clause-room : goal.returns-in-Some-clause-room
returns-in-Some-clause-room c =
    let was = sets.found c.args.runs.now.items c.args.run c.in-Some.run'.now c.requires.covers c.in-Some.ensures.value in
    let own = c.requires.spare _ was in
    let room = (c.requires.rooms _ _ was).room in
    sets.room_at c.args.runs.now.items c.args.run c.in-Some.run'.now
    (record { parent = c.in-Some.run'.now.parent; ended = c.in-Some.run'.now.ended; children = c.in-Some.run'.now.children - 1; places = c.in-Some.run'.now.places })
    was (omega (arith, own, room))
