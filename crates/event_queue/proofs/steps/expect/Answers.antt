use Rattle.std.proofs.Common.{◌+◌, ◌-◌, ap, refl, arith, length}
use Rattle.std.proofs.lemmas.Option.{slice_get_within}
use Rattle.event_queue.proofs.Sets as sets
use Rattle.event_queue.proofs.steps.expect.Goals as goal

pub returns-in-Some-clause-rooms : goal.returns-in-Some-clause-rooms
returns-in-Some-clause-rooms c =
    let was = sets.found c.args.runs.now.items c.args.run c.in-Some.run'.now (slice_get_within _ _ _ c.requires.room.1) c.in-Some.ensures.value in
    let kept = c.requires.rooms _ _ was in
    let own = c.requires.room.2 in
    let same = sets.same_run c.args.runs.now.items c.args.run _ _ c.requires.room.1 was in
    let l = ap (λ r. length r.places.items) same in
    let n = ap (λ r. r.places.capacity) same in
    let m = ap (λ r. r.children) same in
    let counted = kept.children in
    sets.keep_queue c.args.runs.now.items c.args.run c.in-Some.run'.now
    (record { parent = c.in-Some.run'.now.parent; ended = c.in-Some.run'.now.ended; children = c.in-Some.run'.now.children + 1; places = c.in-Some.run'.now.places })
    c.requires.rooms was refl refl (omega (arith, counted)) (omega (arith, own, l, n, m)) kept.few

pub returns-in-Some-clause-same : goal.returns-in-Some-clause-same
returns-in-Some-clause-same c =
    let was = sets.found c.args.runs.now.items c.args.run c.in-Some.run'.now (slice_get_within _ _ _ c.requires.room.1) c.in-Some.ensures.value in
    record {
      parents = sets.parents_stay c.args.runs.now.items c.args.run c.in-Some.run'.now
          (record { parent = c.in-Some.run'.now.parent; ended = c.in-Some.run'.now.ended; children = c.in-Some.run'.now.children + 1; places = c.in-Some.run'.now.places })
          was refl;
      ended = sets.ends_stay c.args.runs.now.items c.args.run c.in-Some.run'.now
          (record { parent = c.in-Some.run'.now.parent; ended = c.in-Some.run'.now.ended; children = c.in-Some.run'.now.children + 1; places = c.in-Some.run'.now.places })
          was refl;
      places = sets.places_stay c.args.runs.now.items c.args.run c.in-Some.run'.now
          (record { parent = c.in-Some.run'.now.parent; ended = c.in-Some.run'.now.ended; children = c.in-Some.run'.now.children + 1; places = c.in-Some.run'.now.places })
          was refl;
      covers = sets.no_shorter c.args.runs.now.items c.args.run
          (record { parent = c.in-Some.run'.now.parent; ended = c.in-Some.run'.now.ended; children = c.in-Some.run'.now.children + 1; places = c.in-Some.run'.now.places });
    }

pub returns-in-Some-clause-spare : goal.returns-in-Some-clause-spare
returns-in-Some-clause-spare c =
    let was = sets.found c.args.runs.now.items c.args.run c.in-Some.run'.now (slice_get_within _ _ _ c.requires.room.1) c.in-Some.ensures.value in
    sets.spare_made c.args.runs.now.items c.args.run c.in-Some.run'.now
    (record { parent = c.in-Some.run'.now.parent; ended = c.in-Some.run'.now.ended; children = c.in-Some.run'.now.children + 1; places = c.in-Some.run'.now.places })
    was refl refl c.requires.rooms refl

pub returns-in_default-clause-spare : goal.returns-in_default-clause-spare
returns-in_default-clause-spare c = λ run at.
    let past = c.in_default.ensures.item.3 in let less = slice_get_within c.args.runs.now.items c.args.run c.requires.room.0 c.requires.room.1 in absurd (omega (arith, past, less))
