use Rattle.std.proofs.Common.{◌-◌, ◌∙◌, ap, arith, length}
use Rattle.std.proofs.lemmas.Option.{slice_get_within}
use Rattle.event_queue.proofs.Sets as sets
use Rattle.event_queue.proofs.steps.arrive.Goals as goal

pub returns-in-Some-clause-rooms : goal.returns-in-Some-clause-rooms
returns-in-Some-clause-rooms c =
    let was = sets.found c.args.runs.now.items c.args.run c.in-Some.run'.now (slice_get_within _ _ _ c.requires.room.1) c.in-Some.ensures.value in
    let kept = c.requires.rooms _ _ was in
    let own = c.requires.room.2 in
    let same = sets.same_run c.args.runs.now.items c.args.run _ _ c.requires.room.1 was in
    let told = c.push.ensures in
    let longer = ap (λ xs. length xs) told.places ∙ sets.one_longer_list c.in-Some.run'.now.places.items c.args.place in
    let l = ap (λ r. length r.places.items) same in
    let n = ap (λ r. r.places.capacity) same in
    let m = ap (λ r. r.children) same in
    let children = told.children in
    let capacity = told.room in
    let counted = kept.children in
    let few = kept.few in
    sets.keep_queue c.args.runs.now.items c.args.run c.in-Some.run'.now c.push.new.self c.requires.rooms was told.parent told.ended
    (omega (arith, counted, children)) (omega (arith, own, longer, l, n, m, children, capacity)) (omega (arith, few, capacity))

pub returns-in-Some-clause-parents : goal.returns-in-Some-clause-parents
returns-in-Some-clause-parents c =
    sets.parents_stay c.args.runs.now.items c.args.run c.in-Some.run'.now c.push.new.self (sets.found c.args.runs.now.items c.args.run c.in-Some.run'.now (slice_get_within _ _ _ c.requires.room.1) c.in-Some.ensures.value) c.push.ensures.parent

pub returns-in-Some-clause-ended : goal.returns-in-Some-clause-ended
returns-in-Some-clause-ended c =
    sets.ends_stay c.args.runs.now.items c.args.run c.in-Some.run'.now c.push.new.self (sets.found c.args.runs.now.items c.args.run c.in-Some.run'.now (slice_get_within _ _ _ c.requires.room.1) c.in-Some.ensures.value) c.push.ensures.ended

pub returns-in-Some-clause-places : goal.returns-in-Some-clause-places
returns-in-Some-clause-places c =
    sets.place_added c.args.runs.now.items c.args.run c.in-Some.run'.now c.push.new.self (sets.found c.args.runs.now.items c.args.run c.in-Some.run'.now (slice_get_within _ _ _ c.requires.room.1) c.in-Some.ensures.value) c.args.place c.push.ensures.places

pub returns-in_default-clause-places : goal.returns-in_default-clause-places
returns-in_default-clause-places c = λ k.
    let past = c.in_default.ensures.item.3 in let less = slice_get_within c.args.runs.now.items c.args.run c.requires.room.0 c.requires.room.1 in absurd (omega (arith, past, less))
