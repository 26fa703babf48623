-- Each kind of step that one seat takes alone keeps the lock's rule: draw, look, count and pass.
use Rattle.std.proofs.Common.{◌≡◌, ◌≢◌, ℕ, ◌+◌, ◌%◌, ◌^◌, ◌<◌, ◌≤◌, true, List, [], ◌∷◌, ◌++◌, length, set, get_or, sum_by, Some, None, Option, inl, inr, ⊎_elim, refl, sym, ap, ◌∙◌, subst, subst₂, mod-eq_of_lt, arith}
use Rattle.std.proofs.Math.Nat.{mod-add-mod}
use Rattle.std.proofs.Math.Decide.{ℕ_discrete}
use mathlib.Core.Logic.{dite}
use mathlib.Core.Option as maybe
use lib.ListN.{get_elem?, length-set}
use Rattle.atomic_table.specs.Table.{State, Me, keeps, takes, gives, step, put_back, Allows}
use Rattle.atomic_table.proofs.Lists.{at_set, set_here, set_else, set_again, one_turn}
use Rattle.hub_lock.specs.declared.rule.Stage.{Stage}
use Rattle.hub_lock.specs.declared.rule.Stage.TheVariants.{Idle, Waits, Holds, Spent}
use Rattle.hub_lock.specs.declared.rule.View.{View}
use Rattle.hub_lock.specs.declared.mark.Mark.{Mark}
use Rattle.hub_lock.specs.declared.rule.Part.{Part}
use Rattle.hub_lock.specs.LaneEntries.{entries_of, StartsWith, HasNoneFrom}
use Rattle.hub_lock.specs.Marks.{mark}
use Rattle.hub_lock.specs.Inner.Rule.{is_alive, ticket_at, tickets_out, turns_held, tickets_out_of, turns_held_of, Tickets, Joined, Apart, SeatKeeps, Knows, IsLongest, HasTurns, Home, LockRule, HasJournal}
use Rattle.hub_lock.specs.Inner.Steps.{view_at, after_draw, after_look, after_count, after_pass, DrawTells, Came, LookTells, CountTells, PassTells}
use Rattle.hub_lock.proofs.Lists.{sum_by-set_at, sum_by-at, sum_by-most, sum_by-some, of-other, of-between, starts_longer, starts_whole, length-one_more, at_less}
use Rattle.hub_lock.proofs.Marking.{turns_stay, turns_more, turns_count}

-- of one stage
pub ticket_in : {E : Type 0} (drawn served : ℕ) (log seen : List E) (st : Stage) (t : ℕ) → Tickets drawn served log seen st → ticket_at st ≡ maybe.some t → (served ≤ t) × (t < drawn)
ticket_in drawn served log seen Idle t h e = absurd (maybe.some-ne-none t (sym e))
ticket_in drawn served log seen (Waits u) t h e = let s : u ≡ t = maybe.some-injective u t e in let a = h.0 in let b = h.1 in (omega arith, omega arith)
ticket_in drawn served log seen (Holds u) t h e = let s : u ≡ t = maybe.some-injective u t e in let a = h.0 in let b = h.1 in (omega arith, omega arith)
ticket_in drawn served log seen Spent t h e = absurd (maybe.some-ne-none t (sym e))

pub out_most : (st : Stage) → tickets_out st ≤ 1
out_most Idle = omega arith
out_most (Waits t) = omega arith
out_most (Holds t) = omega arith
out_most Spent = omega arith

-- who has the turn has the ticket that is served
pub holder : {E : Type 0} (drawn served : ℕ) (log seen : List E) (st : Stage) → Tickets drawn served log seen st → 0 < turns_held st → (st ≡ Holds served) × (seen ≡ log)
holder drawn served log seen Idle h p = absurd (omega arith)
holder drawn served log seen (Waits t) h p = absurd (omega arith)
holder drawn served log seen (Holds t) h p = (ap Holds h.0, h.2)
holder drawn served log seen Spent h p = absurd (omega arith)

-- one more ticket is drawn
wider : {E : Type 0} (drawn served : ℕ) (log seen : List E) (st : Stage) → Tickets drawn served log seen st → Tickets (drawn + 1) served log seen st
wider drawn served log seen Idle h = tt
wider drawn served log seen (Waits t) h = let b = h.1 in (h.0, omega arith)
wider drawn served log seen (Holds t) h = let b = h.1 in (h.0, omega arith, h.2)
wider drawn served log seen Spent h = tt

-- the ticket that was served is another's
later : {E : Type 0} (drawn served : ℕ) (log seen : List E) (st : Stage) → Tickets drawn served log seen st → (ticket_at st ≡ maybe.some served → ⊥) → Tickets drawn (served + 1) log seen st
later drawn served log seen Idle h ne = tt
later drawn served log seen (Waits t) h ne = let a = h.0 in let n : t ≢ served = λ e. ne (ap maybe.some e) in (omega arith, h.1)
later drawn served log seen (Holds t) h ne = absurd (ne (ap maybe.some h.0))
later drawn served log seen Spent h ne = tt

-- the journal gets longer, while another seat has the turn
grown : {E : Type 0} (drawn served : ℕ) (log more seen : List E) (st : Stage) → Tickets drawn served log seen st → (ticket_at st ≡ maybe.some served → ⊥) → Tickets drawn served more seen st
grown drawn served log more seen Idle h ne = tt
grown drawn served log more seen (Waits t) h ne = h
grown drawn served log more seen (Holds t) h ne = absurd (ne (ap maybe.some h.0))
grown drawn served log more seen Spent h ne = tt

module _ {E : Type 0} where
  pub longest_set : (log : List E) (views : List (View E)) (id : ℕ) (v w : View E) → get_elem? views id ≡ maybe.some v → (Knows log v → Knows log w) → id < length views → IsLongest log views → IsLongest log (set views id w)
  longest_set log views id v w at same lt l = dite (ℕ_discrete l.0 id)
      (λ e. let here : v ≡ l.1 = maybe.some-injective v l.1 (sym at ∙ ap (get_elem? views) (sym e) ∙ l.2) in (id, w, set_here views id w lt, same (subst (Knows log) (sym here) l.3)))
      (λ ne. (l.0, l.1, set_else views id l.0 w ne ∙ l.2, l.3))

module _ {S E : Type 0} (list : S → List E) (lane_of : E → ℕ) (sound : List E → Type 0) where
  -- The seat id steps: its stage, its list and its marks change, and so may the words, the slot and the journal
  moved : (s : State (Option S) (View E)) (log₀ : List E) (k : LockRule list lane_of sound log₀ s) (id : ℕ) (v : View E) (st : Stage) (seen : List E) (marks : List Mark)
      → get_elem? s.views id ≡ maybe.some v → is_alive v.stage ≡ true
      → (words : List ℕ) (homes : List (maybe.Option (Option S))) (drawn served : ℕ) (log : List E)
      → words ≡ drawn % 2 ^ 64 ∷ served % 2 ^ 64 ∷ length log ∷ [] → sound log
      → ((j : ℕ) (u : View E) → j ≢ id → get_elem? s.views j ≡ maybe.some u → (t : ℕ) → ticket_at st ≡ maybe.some t → ticket_at u.stage ≡ maybe.some t → ⊥)
      → SeatKeeps lane_of drawn served k.made log (view_at v st seen marks)
      → ((j : ℕ) (u : View E) → j ≢ id → get_elem? s.views j ≡ maybe.some u → SeatKeeps lane_of drawn served k.made log u)
      → IsLongest log (set s.views id (view_at v st seen marks))
      → (served + (sum_by tickets_out_of s.views + tickets_out st) ≡ drawn + tickets_out v.stage)
      → ((total : ℕ) → total + turns_held v.stage ≡ served + (sum_by turns_held_of s.views + turns_held st) → HasTurns total (length log) (set s.views id (view_at v st seen marks)))
      → HasNoneFrom lane_of k.made log
      → ((n : ℕ) → n + turns_held v.stage ≡ sum_by turns_held_of s.views + turns_held st → Home list homes n log)
      → LockRule list lane_of sound log record { words = words; homes = homes; views = set s.views id (view_at v st seen marks) }
  moved s log₀ k id v st seen marks at al words homes drawn served log ws sounds new mine others longest outs counts unmade home =
      let w : View E = view_at v st seen marks in
      let o = sum_by-set_at tickets_out_of s.views id v w at in
      let h = sum_by-set_at turns_held_of s.views id v w at in
      record {
        drawn = drawn;
        served = served;
        made = k.made;
        words = ws;
        all = length-set s.views id w ∙ k.all;
        few = k.few;
        sounds = sounds;
        longest = longest;
        outs = omega (arith, o, outs);
        turns = counts (served + sum_by turns_held_of (set s.views id w)) (omega (arith, h));
        fits = λ j u e. ⊎_elim
            (λ (x : (j ≡ id) × (w ≡ u)). subst (SeatKeeps lane_of drawn served k.made log) x.1 mine)
            (λ (x : (j ≢ id) × (get_elem? s.views j ≡ maybe.some u)). others j u x.0 x.1)
            (at_set s.views id j w u e);
        apart = λ i j a b ne ea eb. ⊎_elim
            (λ (x : (i ≡ id) × (w ≡ a)). ⊎_elim
            (λ (y : (j ≡ id) × (w ≡ b)). absurd (ne (x.0 ∙ sym y.0)))
            (λ (y : (j ≢ id) × (get_elem? s.views j ≡ maybe.some b)). subst (λ (z : View E). Apart z b) x.1
            (let p = k.apart id j v b (λ e. y.0 (sym e)) at y.1 in record { tickets = new j b y.0 y.1; lanes = λ _ q. p.lanes al q; joined = λ _ q. p.joined al q }))
            (at_set s.views id j w b eb))
            (λ (x : (i ≢ id) × (get_elem? s.views i ≡ maybe.some a)). ⊎_elim
            (λ (y : (j ≡ id) × (w ≡ b)). subst (λ (z : View E). Apart a z) y.1
            (let p = k.apart i id a v x.0 x.1 at in record { tickets = λ t f g. new i a x.0 x.1 t g f; lanes = λ q _. p.lanes q al; joined = λ q _. p.joined q al }))
            (λ (y : (j ≢ id) × (get_elem? s.views j ≡ maybe.some b)). k.apart i j a b ne x.1 y.1)
            (at_set s.views id j w b eb))
            (at_set s.views id i w a ea);
        unmade = unmade;
        home = home (sum_by turns_held_of (set s.views id w)) (omega (arith, h));
      }

  pub draws : (slots id : ℕ) (me : Me (Option S) (View E)) → me.0.stage ≡ Idle → Allows (HasJournal list lane_of sound) slots id me 0 (λ n. (n + 1) % 2 ^ 64) (DrawTells (step slots 0 1 0 maybe.none) me)
  draws slots id me idle s holds wide at small =
      let log = holds.0 in
      let k = holds.1 in
      let v : View E = me.0 in
      let al : is_alive v.stage ≡ true = ap is_alive idle in
      let f = k.fits id v at in
      let l = f.lives al in
      let no_out : tickets_out v.stage ≡ 0 = ap tickets_out idle in
      let no_turn : turns_held v.stage ≡ 0 = ap turns_held idle in
      let found : get_or s.words 0 0 ≡ k.drawn % 2 ^ 64 = ap (λ (ws : List ℕ). get_or ws 0 0) k.words in
      let ws : set s.words 0 ((get_or s.words 0 0 + 1) % 2 ^ 64) ≡ (k.drawn + 1) % 2 ^ 64 ∷ k.served % 2 ^ 64 ∷ length log ∷ [] =
      ap (λ (ws : List ℕ). set ws 0 ((get_or ws 0 0 + 1) % 2 ^ 64)) k.words ∙ ap (λ (n : ℕ). n ∷ k.served % 2 ^ 64 ∷ length log ∷ []) (mod-add-mod k.drawn (2 ^ 64) 1) in (
        after_draw v k.drawn,
        keeps,
        tt,
        (
          log,
          moved s log k id v (Waits k.drawn) v.seen v.marks at al _ s.homes (k.drawn + 1) k.served log ws k.sounds
              (λ j u ne there t mine theirs. let b = ticket_in k.drawn k.served log u.seen u.stage t (k.fits j u there).tickets theirs in let e : k.drawn ≡ t = maybe.some-injective k.drawn t mine in let c = b.1 in omega arith)
              record { tickets = (let o = k.outs in omega arith, omega arith); lives = λ _. record { begins = l.begins; own = l.own; there = l.there; count = l.count; parts = l.parts; few = l.few } }
              (λ j u ne there. let g = k.fits j u there in record { tickets = wider k.drawn k.served log u.seen u.stage g.tickets; lives = g.lives })
              (longest_set log s.views id v (after_draw v k.drawn) at (λ q. q) (at_less s.views id v at) k.longest)
              (let o = k.outs in omega arith)
              (λ total e. subst (λ (n : ℕ). HasTurns n (length log) (set s.views id (after_draw v k.drawn))) (omega arith) (turns_stay (k.served + sum_by turns_held_of s.views) (length log) s.views k.turns id v (after_draw v k.drawn) at refl refl refl))
              k.unmade
              (λ n e. subst (λ (m : ℕ). Home list s.homes m log) (omega arith) k.home),
        ),
        (k.drawn, found, refl),
      )

  story_or : S → List (ℕ × Option S) → S
  story_or x [] = x
  story_or x (p ∷ ps) = elim p.1 as (λ _. S) [ Some y ↦ y | None ↦ x ]

  pub story_is : (slot : List (ℕ × Option S)) (x y : S) → slot ≡ (0, Some x) ∷ [] → slot ≡ (0, Some y) ∷ [] → x ≡ y
  unfolding story_or
  story_is slot x y a b = sym (ap (story_or x) a) ∙ ap (story_or x) b

  -- the value given back is at home
  home_again : (homes : List (maybe.Option (Option S))) (carried : List (ℕ × Option S)) (story : S) → homes ≡ maybe.none ∷ [] → carried ≡ (0, Some story) ∷ [] → put_back homes carried ≡ maybe.some (Some story) ∷ []
  home_again homes carried story a b = ap (λ (hs : List (maybe.Option (Option S))). put_back hs carried) a ∙ ap (put_back (maybe.none ∷ [])) b

  -- Where the ticket found is one's own, it is the one that is served, and so the slot is at home
  turn_came : (s : State (Option S) (View E)) (log : List E) (k : LockRule list lane_of sound log s) (id : ℕ) (v : View E) (t : ℕ) → get_elem? s.views id ≡ maybe.some v → v.stage ≡ Waits t → get_or s.words 1 0 ≡ t % 2 ^ 64
      → (t ≡ k.served) × (sum_by turns_held_of s.views ≡ 0) × ((story : S) × (s.homes ≡ maybe.some (Some story) ∷ []) × (list story ≡ log))
  turn_came s log k id v t at waits found =
      let f = k.fits id v at in
      let mine : ticket_at v.stage ≡ maybe.some t = ap ticket_at waits in
      let b = ticket_in k.drawn k.served log v.seen v.stage t f.tickets mine in
      let few = sum_by-most tickets_out_of (λ u. out_most u.stage) s.views in
      let word : get_or s.words 1 0 ≡ k.served % 2 ^ 64 = ap (λ (ws : List ℕ). get_or ws 1 0) k.words in
      let is : k.served ≡ t = one_turn k.served t (2 ^ 64) b.0 (let b1 = b.1 in let o = k.outs in let a = k.all in let m = k.few in omega arith) (sym word ∙ found) in
      ⊎_elim
      (λ (h : (sum_by turns_held_of s.views ≡ 0) × ((story : S) × (s.homes ≡ maybe.some (Some story) ∷ []) × (list story ≡ log))). (sym is, h.0, h.1))
      (λ (h : (sum_by turns_held_of s.views ≡ 1) × (s.homes ≡ maybe.none ∷ [])).
      let one = h.0 in
      let who = sum_by-some turns_held_of s.views (omega arith) in
      let turn = holder k.drawn k.served log who.1.seen who.1.stage (k.fits who.0 who.1 who.2).tickets who.3 in
      absurd (dite (ℕ_discrete id who.0)
      (λ e. let same : v ≡ who.1 = maybe.some-injective v who.1 (sym at ∙ ap (get_elem? s.views) e ∙ who.2) in let z : turns_held v.stage ≡ 0 = ap turns_held waits in let p : 0 < turns_held v.stage = subst (λ (u : View E). 0 < turns_held u.stage) (sym same) who.3 in omega arith)
      (λ ne. (k.apart id who.0 v who.1 ne at who.2).tickets t mine (ap ticket_at turn.0 ∙ ap maybe.some is))))
      k.home

  pub looks : (slots id : ℕ) (me : Me (Option S) (View E)) (t : ℕ) → me.0.stage ≡ Waits t → Allows (HasJournal list lane_of sound) slots id me 1 (λ n. n) (LookTells list lane_of sound (step slots 1 0 0 maybe.none) me)
  looks slots id me t waits s holds wide at small =
      let log = holds.0 in
      let k = holds.1 in
      let v : View E = me.0 in
      let stay : set s.words 1 (get_or s.words 1 0) ≡ s.words = subst (λ (ws : List ℕ). set ws 1 (get_or ws 1 0) ≡ ws) (sym k.words) refl in
      let only : (u : ℕ) → me.0.stage ≡ Waits u → t ≡ u = λ u e. maybe.some-injective t u (ap ticket_at (sym waits ∙ e)) in
      dite (ℕ_discrete (get_or s.words 1 0) (t % 2 ^ 64))
      (λ found.
      let came = turn_came s log k id v t at waits found in
      let story = came.2.0 in
      let al : is_alive v.stage ≡ true = ap is_alive waits in
      let one_out : tickets_out v.stage ≡ 1 = ap tickets_out waits in
      let no_turn : turns_held v.stage ≡ 0 = ap turns_held waits in
      let f = k.fits id v at in
      let l = f.lives al in
      let between = l.begins.0 in
      let is : v.seen ++ between ≡ log = sym l.begins.1 in
      let w : View E = after_look v t (v.seen ++ between) in
      let b = ticket_in k.drawn k.served log v.seen v.stage t f.tickets (ap ticket_at waits) in
      let zero_turns = came.1 in
      let now : t ≡ k.served + sum_by turns_held_of s.views = let c = came.0 in omega arith in
      let marked : mark t (length (v.seen ++ between)) ≡ mark (k.served + sum_by turns_held_of s.views) (length log) = ap (λ (n : ℕ). mark n (length (v.seen ++ between))) now ∙ ap (λ (xs : List E). mark (k.served + sum_by turns_held_of s.views) (length xs)) is in
      let after : State (Option S) (View E) = record { words = set s.words 1 (get_or s.words 1 0); homes = set s.homes 0 maybe.none; views = set s.views id w } in
      let kept : LockRule list lane_of sound log after = moved s log k id v (Holds t) (v.seen ++ between) (v.marks ++ mark t (length (v.seen ++ between)) ∷ []) at al _ _ k.drawn k.served log (stay ∙ k.words) k.sounds
      (λ j u ne there t' mine theirs. (k.apart id j v u (λ e. ne (sym e)) at there).tickets t' (ap ticket_at waits ∙ mine) theirs)
      record { tickets = (came.0, b.1, is); lives = λ _. record { begins = starts_whole log (v.seen ++ between) is; own = ap (entries_of lane_of v.lane) (sym is); there = l.there; count = l.count; parts = l.parts; few = l.few } }
      (λ j u ne there. k.fits j u there)
      (id, w, set_here s.views id w (at_less s.views id v at), inl is)
      (let o = k.outs in omega arith)
      (λ total e. subst (λ (n : ℕ). HasTurns n (length log) (set s.views id w)) (omega arith)
      (turns_more (k.served + sum_by turns_held_of s.views) (length log) s.views k.turns id v w at refl (ap (λ (m : Mark). v.marks ++ m ∷ []) marked) refl))
      k.unmade
      (λ n e. inr (omega arith, ap (λ (hs : List (maybe.Option (Option S))). set hs 0 maybe.none) came.2.1)) in (
        w,
        takes 0 (Some story),
        ap (λ (hs : List (maybe.Option (Option S))). get_elem? hs 0) came.2.1,
        (log, kept),
        (λ u e. (
          (λ _. subst (λ (x : ℕ). Came list lane_of sound x me (w, (0, Some story) ∷ me.1)) (only u e) record {
            story = story;
            between = between;
            after = refl;
            others = of-between lane_of v.lane log v.seen between l.begins.1 l.own;
            stands = came.2.2 ∙ sym is;
            sounds = subst sound (sym is) k.sounds;
            unmade = λ first. subst (HasNoneFrom lane_of v.made) (sym is) (subst (λ (n : ℕ). HasNoneFrom lane_of n log) (sym (l.count first)) k.unmade);
          }),
          (λ (other : get_or s.words 1 0 ≢ u % 2 ^ 64). absurd (other (found ∙ ap (λ (x : ℕ). x % 2 ^ 64) (only u e)))),
        )),
      ))
      (λ other. (
        v,
        keeps,
        tt,
        (log, let P : State (Option S) (View E) → Type 0 = LockRule list lane_of sound log in subst (λ (ws : List ℕ). P record { words = ws; homes = s.homes; views = set s.views id v }) (sym stay) (subst (λ (vs : List (View E)). P record { words = s.words; homes = s.homes; views = vs }) (sym (set_again s.views id v at)) k)),
        (λ u e. ((λ (found : get_or s.words 1 0 ≡ u % 2 ^ 64). absurd (other (found ∙ ap (λ (x : ℕ). x % 2 ^ 64) (sym (only u e))))), (λ _. refl))),
      ))

  pub counts : (slots id : ℕ) (me : Me (Option S) (View E)) (t : ℕ) (before : List Mark) (story : S) (entry : E) → me.0.stage ≡ Holds t → me.0.marks ≡ before ++ mark t (length me.0.seen) ∷ [] → me.1 ≡ (0, Some story) ∷ [] → list story ≡ me.0.seen ++ entry ∷ [] → lane_of entry ≡ me.0.lane → sound (list story) → length (list story) < 2 ^ 32
      → Allows (HasJournal list lane_of sound) slots id me 2 (λ n. (n + 1) % 2 ^ 64) (CountTells list (step slots 2 1 0 maybe.none) me)
  counts slots id me t before story entry turn last slot longer own sounds few s holds wide at small =
      let old = holds.0 in
      let k = holds.1 in
      let v : View E = me.0 in
      let log : List E = list story in
      let al : is_alive v.stage ≡ true = ap is_alive turn in
      let has : turns_held v.stage ≡ 1 = ap turns_held turn in
      let f = k.fits id v at in
      let l = f.lives al in
      let h = holder k.drawn k.served old v.seen v.stage f.tickets (omega arith) in
      let is : log ≡ old ++ entry ∷ [] = longer ∙ ap (λ (xs : List E). xs ++ entry ∷ []) h.1 in
      let long : length log ≡ length old + 1 = ap length is ∙ length-one_more old entry in
      let mine : ticket_at v.stage ≡ maybe.some k.served = ap ticket_at h.0 in
      let in_lane : lane_of entry ≡ v.lane = own in
      let w : View E = after_count v log in
      let at_least = sum_by-at turns_held_of s.views id v at in
      let ws : set s.words 2 ((get_or s.words 2 0 + 1) % 2 ^ 64) ≡ k.drawn % 2 ^ 64 ∷ k.served % 2 ^ 64 ∷ length log ∷ [] =
      ap (λ (ws : List ℕ). set ws 2 ((get_or ws 2 0 + 1) % 2 ^ 64)) k.words ∙ ap (λ (n : ℕ). k.drawn % 2 ^ 64 ∷ k.served % 2 ^ 64 ∷ n ∷ []) (ap (λ (n : ℕ). n % 2 ^ 64) (sym long) ∙ mod-eq_of_lt (omega arith)) in
      let grows : (lane : ℕ) → lane ≢ v.lane → entries_of lane_of lane log ≡ entries_of lane_of lane old = λ lane ne. ap (entries_of lane_of lane) is ∙ of-other lane_of lane old entry (λ e. ne (sym e ∙ in_lane)) in
      let joins : (joined : List (Part E)) → Joined lane_of old joined → ((i : ℕ) → i < length joined → i + 1 ≢ v.lane) → Joined lane_of log joined =
      λ joined p ne i part there. let q = p i part there in (subst (λ (xs : List E). StartsWith xs part.seen) (sym is) (starts_longer old part.seen (entry ∷ []) q.0), grows (i + 1) (ne i (at_less joined i part there)) ∙ q.1) in
      let one : sum_by turns_held_of s.views ≡ 1 = ⊎_elim
      (λ (x : (sum_by turns_held_of s.views ≡ 0) × ((story : S) × (s.homes ≡ maybe.some (Some story) ∷ []) × (list story ≡ old))). let z = x.0 in absurd (omega arith))
      (λ (x : (sum_by turns_held_of s.views ≡ 1) × (s.homes ≡ maybe.none ∷ [])). x.0)
      k.home in
      let now : k.served + sum_by turns_held_of s.views ≡ k.served + 1 = ap (λ (n : ℕ). k.served + n) one in
      let served : t ≡ k.served = maybe.some-injective t k.served (ap ticket_at (sym turn ∙ h.0)) in
      let marked : mark t (length v.seen) ≡ mark k.served (length old) = ap (λ (n : ℕ). mark n (length v.seen)) served ∙ ap (λ (xs : List E). mark k.served (length xs)) h.1 in
      let after : State (Option S) (View E) = record { words = set s.words 2 ((get_or s.words 2 0 + 1) % 2 ^ 64); homes = s.homes; views = set s.views id w } in
      let kept : LockRule list lane_of sound log after =
      moved s old k id v v.stage log v.marks at al _ s.homes k.drawn k.served log ws sounds
      (λ j u ne there t' a b. (k.apart id j v u (λ e. ne (sym e)) at there).tickets t' a b)
      record {
        tickets = subst (Tickets k.drawn k.served log log) (sym h.0) (refl, (ticket_in k.drawn k.served old v.seen v.stage k.served f.tickets mine).1, refl);
        lives = λ _. record {
          begins = starts_whole log log refl;
          own = refl;
          there = l.there;
          count = l.count;
          parts = λ first. joins v.joined (l.parts first) (λ i lt. omega arith);
          few = l.few;
        };
      }
      (λ j u ne there.
      let g = k.fits j u there in
      let p = k.apart id j v u (λ e. ne (sym e)) at there in
      let q = k.apart j id u v ne there at in
      record {
        tickets = grown k.drawn k.served old log u.seen u.stage g.tickets (λ e. p.tickets k.served mine e);
        lives = λ lives. let r = g.lives lives in record {
          begins = subst (λ (xs : List E). StartsWith xs u.seen) (sym is) (starts_longer old u.seen (entry ∷ []) r.begins);
          own = grows u.lane (λ e. p.lanes al lives (sym e)) ∙ r.own;
          there = r.there;
          count = r.count;
          parts = λ first. joins u.joined (r.parts first) (λ i lt. let z = q.joined lives al first in omega arith);
          few = r.few;
        };
      })
      (id, w, set_here s.views id w (at_less s.views id v at), inl refl)
      (let o = k.outs in omega arith)
      (λ total e. subst₂ (λ (n m : ℕ). HasTurns n m (set s.views id w)) (omega arith) (sym long)
      (turns_count k.served (length old) s.views (subst (λ (n : ℕ). HasTurns n (length old) s.views) now k.turns) id v w before at al refl refl (last ∙ ap (λ (n : Mark). before ++ n ∷ []) marked)))
      (λ lane le. grows lane (let a = l.there in omega arith) ∙ k.unmade lane le)
      (λ n e. ⊎_elim
      (λ (x : (sum_by turns_held_of s.views ≡ 0) × ((story : S) × (s.homes ≡ maybe.some (Some story) ∷ []) × (list story ≡ old))). let z = x.0 in absurd (omega arith))
      (λ (x : (sum_by turns_held_of s.views ≡ 1) × (s.homes ≡ maybe.none ∷ [])). let z = x.0 in inr (omega arith, x.1))
      k.home) in (
        w,
        keeps,
        tt,
        (log, kept),
        (λ x e. let m : Me (Option S) (View E) = (w, me.1) in ap (λ (y : S). let n : Me (Option S) (View E) = (after_count v (list y), me.1) in n) (story_is me.1 story x slot e)),
      )

  pub passes : (slots id : ℕ) (me : Me (Option S) (View E)) (t : ℕ) (story : S) → me.0.stage ≡ Holds t → me.1 ≡ (0, Some story) ∷ [] → list story ≡ me.0.seen
      → Allows (HasJournal list lane_of sound) slots id me 1 (λ n. (n + 1) % 2 ^ 64) (PassTells (step slots 1 1 0 maybe.none) me)
  passes slots id me t story turn slot same s holds wide at small =
      let log = holds.0 in
      let k = holds.1 in
      let v : View E = me.0 in
      let al : is_alive v.stage ≡ true = ap is_alive turn in
      let has : turns_held v.stage ≡ 1 = ap turns_held turn in
      let one_out : tickets_out v.stage ≡ 1 = ap tickets_out turn in
      let f = k.fits id v at in
      let l = f.lives al in
      let h = holder k.drawn k.served log v.seen v.stage f.tickets (omega arith) in
      let mine : ticket_at v.stage ≡ maybe.some k.served = ap ticket_at h.0 in
      let at_least = sum_by-at turns_held_of s.views id v at in
      let w : View E = after_pass v in
      let ws : set s.words 1 ((get_or s.words 1 0 + 1) % 2 ^ 64) ≡ k.drawn % 2 ^ 64 ∷ (k.served + 1) % 2 ^ 64 ∷ length log ∷ [] =
      ap (λ (ws : List ℕ). set ws 1 ((get_or ws 1 0 + 1) % 2 ^ 64)) k.words ∙ ap (λ (n : ℕ). k.drawn % 2 ^ 64 ∷ n ∷ length log ∷ []) (mod-add-mod k.served (2 ^ 64) 1) in (
        w,
        gives,
        tt,
        (
          log,
          moved s log k id v Idle v.seen v.marks at al _ _ k.drawn (k.served + 1) log ws k.sounds
              (λ j u ne there t' none. absurd (maybe.some-ne-none t' (sym none)))
              record { tickets = tt; lives = λ _. record { begins = l.begins; own = l.own; there = l.there; count = l.count; parts = l.parts; few = l.few } }
              (λ j u ne there. let g = k.fits j u there in record { tickets = later k.drawn k.served log u.seen u.stage g.tickets (λ e. (k.apart id j v u (λ e. ne (sym e)) at there).tickets k.served mine e); lives = g.lives })
              (longest_set log s.views id v w at (λ q. q) (at_less s.views id v at) k.longest)
              (let o = k.outs in omega arith)
              (λ total e. subst (λ (n : ℕ). HasTurns n (length log) (set s.views id w)) (omega arith) (turns_stay (k.served + sum_by turns_held_of s.views) (length log) s.views k.turns id v w at refl refl refl))
              k.unmade
              (λ n e. ⊎_elim
              (λ (x : (sum_by turns_held_of s.views ≡ 0) × ((story : S) × (s.homes ≡ maybe.some (Some story) ∷ []) × (list story ≡ log))). let z = x.0 in absurd (omega arith))
              (λ (x : (sum_by turns_held_of s.views ≡ 1) × (s.homes ≡ maybe.none ∷ [])). let z = x.0 in
              inl (omega arith, (story, home_again s.homes me.1 story x.1 slot, same ∙ h.1)))
              k.home),
        ),
        refl,
      )
