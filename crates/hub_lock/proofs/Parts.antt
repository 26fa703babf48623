-- How the rule begins, how it goes on when a seat is split off or joined, and what it says at the end.
use Rattle.std.proofs.Common.{◌≡◌, ◌≢◌, ℕ, ◌+◌, ◌^◌, ◌<◌, ◌⊎◌, true, false, List, [], ◌∷◌, ◌++◌, All, length, set, sum_by, Some, None, Option, inl, inr, ⊎_elim, Bool, refl, sym, ap, ◌∙◌, subst, subst₂, is_some, true≢false, arith}
use Rattle.std.proofs.lemmas.List.{length-append}
use Rattle.std.proofs.lemmas.List.Sums.{sum_by_push}
use Rattle.std.proofs.lemmas.List.Elements.{All-nil}
use Rattle.std.proofs.Math.Decide.{ℕ_discrete}
use mathlib.Core.Logic.{dite}
use mathlib.Core.Option as maybe
use lib.ListN.{get_elem?, length-set}
use Rattle.atomic_table.specs.Table.{opening, Splits, Joins, Final, Seen}
use Rattle.atomic_table.proofs.Lists.{at_set, set_here, set_else, at_longer, at_last, at_snoc}
use Rattle.hub_lock.specs.declared.rule.Stage.{Stage}
use Rattle.hub_lock.specs.declared.rule.Stage.TheVariants.{Idle}
use Rattle.hub_lock.specs.declared.rule.View.{View}
use Rattle.hub_lock.specs.declared.rule.Part.{Part}
use Rattle.hub_lock.specs.LaneEntries.{entries_of, StartsWith}
use Rattle.hub_lock.specs.Marks.{IsMarkOf}
use Rattle.hub_lock.specs.Inner.Rule.{is_alive, ticket_at, tickets_out, turns_held, tickets_out_of, turns_held_of, turns_of, Tickets, Apart, SeatKeeps, Knows, HasMarks, HasTurns, Home, HasJournal, first_view}
use Rattle.hub_lock.specs.Inner.Steps.{first_after_split, new_view, after_join, spent_view, part_of}
use Rattle.hub_lock.specs.Inner.Turns.{IsWhole}
use Rattle.hub_lock.proofs.Lists.{sum_by-set_at, sum_by-some, of-none, starts_whole, unseen, at_pushed, at_less}
use Rattle.hub_lock.proofs.Marking.{turns_stay, turns_new, turns_join, turns_all}
use Rattle.hub_lock.proofs.Steps.{holder, longest_set}

-- what an idle seat's stage says of any numbers
idle_tickets : {E : Type 0} (drawn served : ℕ) (log seen : List E) (st : Stage) → st ≡ Idle → Tickets drawn served log seen st
idle_tickets drawn served log seen st e = subst (Tickets drawn served log seen) (sym e) tt

no_ticket : (st : Stage) → st ≡ Idle → (t : ℕ) → ticket_at st ≡ maybe.some t → ⊥
no_ticket st idle t e = maybe.some-ne-none t (sym e ∙ ap ticket_at idle)

not_alive : (b : Bool) → (b ≡ true → ⊥) → b ≡ false
not_alive true h = absurd (h refl)
not_alive false h = refl

module _ {S E : Type 0} (list : S → List E) (lane_of : E → ℕ) (sound : List E → Type 0) where
  pub starts : (story : S) (count : ℕ) → count ≡ length (list story) → count < 2 ^ 64 → sound (list story) → 0 < length (list story) → All (λ e. lane_of e ≡ 0) (list story)
      → HasJournal list lane_of sound (opening (0 ∷ 0 ∷ count ∷ []) (Some story ∷ []) (first_view (list story)))
  starts story count is small sounds some_entry first =
      let log : List E = list story in
      let v : View E = first_view log in
      let one : List (View E) = v ∷ [] in (
        log,
        record {
          drawn = 0;
          served = 0;
          made = 1;
          words = ap (λ (n : ℕ). 0 ∷ 0 ∷ n ∷ []) is;
          all = refl;
          few = omega arith;
          sounds = sounds;
          longest = (0, v, refl, inl refl);
          outs = refl;
          turns = record {
            at = λ _. length log;
            order = λ _. inl refl;
            leads = λ _ _. refl;
            counts = refl;
            once = λ turn lt. absurd (omega arith);
            free = λ _ _. refl;
            marks = λ j u e. ⊎_elim
                (λ (x : get_elem? [] j ≡ maybe.some u). absurd (maybe.some-ne-none u (sym x)))
                (λ (x : v ≡ u). subst (HasMarks (λ _. length log) 0) x (All-nil (IsMarkOf (λ _. length log) 0), All-nil (λ (p : Part E). All (IsMarkOf (λ _. length log) 0) p.marks)))
                (at_snoc [] v u j e);
            gone = λ j u e none. ⊎_elim
                (λ (x : get_elem? [] j ≡ maybe.some u). absurd (maybe.some-ne-none u (sym x)))
                (λ (x : v ≡ u). absurd (true≢false (ap (λ (z : View E). is_alive z.stage) x ∙ none)))
                (at_snoc [] v u j e);
          };
          fits = λ j u e. ⊎_elim
              (λ (x : get_elem? [] j ≡ maybe.some u). absurd (maybe.some-ne-none u (sym x)))
              (λ (x : v ≡ u). subst (SeatKeeps lane_of 0 0 1 log) x record {
                tickets = tt;
                lives = λ _. record { begins = starts_whole log log refl; own = refl; there = omega arith; count = λ _. refl; parts = λ _ i es e. absurd (maybe.some-ne-none es (sym e)); few = λ _. omega arith };
              })
              (at_snoc [] v u j e);
          apart = λ i j a b ne ea eb. let x = at_less one i a ea in let y = at_less one j b eb in absurd (ne (omega arith));
          unmade = λ lane le. of-none lane_of 0 lane (λ e. omega arith) log first;
          home = inl (refl, (story, refl, refl));
        },
      )

  pub splits : (id : ℕ) (v : View E) → v.stage ≡ Idle → v.lane ≡ 0 → v.made < 64 → Splits (HasJournal list lane_of sound) id v (first_after_split v) (new_view v)
  splits id v idle first few s holds at =
      let log = holds.0 in
      let k = holds.1 in
      let al : is_alive v.stage ≡ true = ap is_alive idle in
      let f = k.fits id v at in
      let l = f.lives al in
      let is : v.made ≡ k.made = l.count first in
      let n : ℕ = k.made + 1 in
      let a : View E = first_after_split v in
      let b : View E = new_view v in
      let vs : List (View E) = set s.views id a in
      let o = sum_by-set_at tickets_out_of s.views id v a at in
      let h = sum_by-set_at turns_held_of s.views id v a at in
      let same : (j : ℕ) (u : View E) → get_elem? vs j ≡ maybe.some u → (w : View E) × (get_elem? s.views j ≡ maybe.some w) × (w.lane ≡ u.lane) × (w.stage ≡ u.stage) × (w.seen ≡ u.seen) × (w.joined ≡ u.joined) = λ j u e. ⊎_elim
      (λ (x : (j ≡ id) × (a ≡ u)). (v, ap (get_elem? s.views) x.0 ∙ at, ap (λ (z : View E). z.lane) x.1, ap (λ (z : View E). z.stage) x.1, ap (λ (z : View E). z.seen) x.1, ap (λ (z : View E). z.joined) x.1))
      (λ (x : (j ≢ id) × (get_elem? s.views j ≡ maybe.some u)). (u, x.1, refl, refl, refl, refl))
      (at_set s.views id j a u e) in
      let old_lane : (j : ℕ) (u : View E) → get_elem? vs j ≡ maybe.some u → is_alive u.stage ≡ true → u.lane < k.made = λ j u e q.
      let r = same j u e in let z = ((k.fits j r.0 r.1).lives (ap is_alive r.3 ∙ q)).there in let y = r.2 in omega arith in
      let older : (j : ℕ) (u : View E) → j ≢ id → get_elem? s.views j ≡ maybe.some u → is_alive u.stage ≡ true → u.lane ≢ 0 = λ j u ne e q z. (k.apart id j v u (λ x. ne (sym x)) at e).lanes al q (first ∙ sym z) in
      let apart_new : (j : ℕ) (u : View E) → get_elem? vs j ≡ maybe.some u → Apart u b = λ j u e. record {
        tickets = λ t _ none. maybe.some-ne-none t (sym none);
        lanes = λ q _ z. let y = old_lane j u e q in omega arith;
        joined = λ q _ zero_lane. let r = same j u e in let c = ((k.fits j r.0 r.1).lives (ap is_alive r.3 ∙ q)).few (r.2 ∙ zero_lane) in let y : length r.0.joined ≡ length u.joined = ap length r.5 in omega arith;
      } in
      let apart_new' : (j : ℕ) (u : View E) → get_elem? vs j ≡ maybe.some u → Apart b u = λ j u e. record {
        tickets = λ t none _. maybe.some-ne-none t (sym none);
        lanes = λ _ q z. let y = old_lane j u e q in omega arith;
        joined = λ _ _ z. let y = l.there in absurd (omega arith);
      } in (
        log,
        record {
          drawn = k.drawn;
          served = k.served;
          made = n;
          words = k.words;
          all = length-append vs (b ∷ []) ∙ ap (λ (m : ℕ). m + 1) (length-set s.views id a ∙ k.all);
          few = omega arith;
          sounds = k.sounds;
          longest = let q = longest_set log s.views id v a at (λ x. x) (at_less s.views id v at) k.longest in (q.0, q.1, at_longer vs (b ∷ []) q.0 q.1 q.2, q.3);
          outs = let z = k.outs in omega (arith, sum_by_push tickets_out_of vs b, o);
          turns = subst (λ (m : ℕ). HasTurns m (length log) (vs ++ b ∷ [])) (omega (arith, sum_by_push turns_held_of vs b, h))
              (turns_new (k.served + sum_by turns_held_of s.views) (length log) vs (turns_stay (k.served + sum_by turns_held_of s.views) (length log) s.views k.turns id v a at al refl refl) b refl refl refl);
          fits = λ j u e. ⊎_elim
              (λ (there : get_elem? vs j ≡ maybe.some u). ⊎_elim
              (λ (x : (j ≡ id) × (a ≡ u)). subst (SeatKeeps lane_of k.drawn k.served n log) x.1 record {
                tickets = idle_tickets k.drawn k.served log v.seen v.stage idle;
                lives = λ _. record { begins = l.begins; own = l.own; there = let y = l.there in omega arith; count = λ _. omega arith; parts = l.parts; few = λ z. let y = l.few z in omega arith };
              })
              (λ (x : (j ≢ id) × (get_elem? s.views j ≡ maybe.some u)). let g = k.fits j u x.1 in record {
                tickets = g.tickets;
                lives = λ q. let r = g.lives q in record { begins = r.begins; own = r.own; there = let y = r.there in omega arith; count = λ z. absurd (older j u x.0 x.1 q z); parts = r.parts; few = λ z. absurd (older j u x.0 x.1 q z) };
              })
              (at_set s.views id j a u there))
              (λ (x : (j ≡ length vs) × (b ≡ u)). subst (SeatKeeps lane_of k.drawn k.served n log) x.1 record {
                tickets = tt;
                lives = λ _. let y = l.there in record {
                  begins = l.begins;
                  own = let none : entries_of lane_of v.made log ≡ [] = k.unmade v.made (omega arith) in none ∙ sym (unseen lane_of v.made log v.seen l.begins none);
                  there = omega arith;
                  count = λ z. absurd (omega arith);
                  parts = λ z. absurd (omega arith);
                  few = λ z. absurd (omega arith);
                };
              })
              (at_pushed vs b u j e);
          apart = λ i j u w ne eu ew. ⊎_elim
              (λ (x : get_elem? vs i ≡ maybe.some u). ⊎_elim
              (λ (y : get_elem? vs j ≡ maybe.some w). let p = same i u x in let q = same j w y in let r = k.apart i j p.0 q.0 ne p.1 q.1 in record {
                tickets = λ t c d. r.tickets t (ap ticket_at p.3 ∙ c) (ap ticket_at q.3 ∙ d);
                lanes = λ c d z. r.lanes (ap is_alive p.3 ∙ c) (ap is_alive q.3 ∙ d) (p.2 ∙ z ∙ sym q.2);
                joined = λ c d z. let m = r.joined (ap is_alive p.3 ∙ c) (ap is_alive q.3 ∙ d) (p.2 ∙ z) in let g : length p.0.joined ≡ length u.joined = ap length p.5 in let e = q.2 in omega arith;
              })
              (λ (y : (j ≡ length vs) × (b ≡ w)). subst (Apart u) y.1 (apart_new i u x))
              (at_pushed vs b w j ew))
              (λ (x : (i ≡ length vs) × (b ≡ u)). ⊎_elim
              (λ (y : get_elem? vs j ≡ maybe.some w). subst (λ (z : View E). Apart z w) x.1 (apart_new' j w y))
              (λ (y : (j ≡ length vs) × (b ≡ w)). absurd (ne (x.0 ∙ sym y.0)))
              (at_pushed vs b w j ew))
              (at_pushed vs b u i eu);
          unmade = λ lane le. k.unmade lane (omega arith);
          home = subst (λ (m : ℕ). Home list s.homes m log) (omega (arith, sum_by_push turns_held_of vs b, h)) k.home;
        },
      )

  pub joins : (id : ℕ) (v : View E) (other : ℕ) (w : View E) → v.stage ≡ Idle → v.lane ≡ 0 → w.stage ≡ Idle → w.lane ≡ length v.joined + 1 → w.joined ≡ [] → Joins (HasJournal list lane_of sound) id v other w (after_join v w) spent_view
  joins id v other w idle first idle' next alone s holds at two at' =
      let log = holds.0 in
      let k = holds.1 in
      let a : View E = after_join v w in
      let b : View E = spent_view in
      let vs : List (View E) = set s.views id a in
      let us : List (View E) = set vs other b in
      let two' : id ≢ other = λ e. two (sym e) in
      let there : get_elem? s.views other ≡ maybe.some w = sym (set_else s.views id other a two) ∙ at' in
      let al : is_alive v.stage ≡ true = ap is_alive idle in
      let al' : is_alive w.stage ≡ true = ap is_alive idle' in
      let l = (k.fits id v at).lives al in
      let m = (k.fits other w there).lives al' in
      let lt = at_less s.views id v at in
      let lt' = at_less vs other w at' in
      let here : get_elem? us id ≡ maybe.some a = set_else vs other id b two' ∙ set_here s.views id a lt in
      let more : length a.joined ≡ length v.joined + 1 = length-append v.joined (part_of w ∷ []) in
      let o = sum_by-set_at tickets_out_of s.views id v a at in
      let o' = sum_by-set_at tickets_out_of vs other w b at' in
      let h = sum_by-set_at turns_held_of s.views id v a at in
      let h' = sum_by-set_at turns_held_of vs other w b at' in
      let no_out : tickets_out w.stage ≡ 0 = ap tickets_out idle' in
      let no_turn : turns_held w.stage ≡ 0 = ap turns_held idle' in
      let keeps_knowing : Knows log v → Knows log a = λ q. ⊎_elim
      (λ (x : v.seen ≡ log). inl x)
      (λ (x : (v.lane ≡ 0) × ((i : ℕ) × (p : Part E) × (get_elem? v.joined i ≡ maybe.some p) × (p.seen ≡ log))). inr (x.0, (x.1.0, x.1.1, at_longer v.joined (part_of w ∷ []) x.1.0 x.1.1 x.1.2, x.1.3)))
      q in
      let takes_over : Knows log w → Knows log a = λ q. ⊎_elim
      (λ (x : w.seen ≡ log). inr (first, (length v.joined, part_of w, at_last v.joined (part_of w) (length v.joined) refl, x)))
      (λ (x : (w.lane ≡ 0) × ((i : ℕ) × (p : Part E) × (get_elem? w.joined i ≡ maybe.some p) × (p.seen ≡ log))). let z = x.0 in absurd (omega arith))
      q in
      let gone : is_alive b.stage ≡ true → ⊥ = λ q. true≢false (sym q) in
      let old : (j : ℕ) (u : View E) → get_elem? us j ≡ maybe.some u → (b ≡ u) ⊎ ((j ≢ other) × (((j ≡ id) × (a ≡ u)) ⊎ ((j ≢ id) × (get_elem? s.views j ≡ maybe.some u)))) = λ j u e. ⊎_elim
      (λ (x : (j ≡ other) × (b ≡ u)). inl x.1)
      (λ (x : (j ≢ other) × (get_elem? vs j ≡ maybe.some u)). inr (x.0, at_set s.views id j a u x.1))
      (at_set vs other j b u e) in
      let spent_left : (u : View E) → Apart b u = λ u. record { tickets = λ t none _. maybe.some-ne-none t (sym none); lanes = λ q _. absurd (gone q); joined = λ q _. absurd (gone q) } in
      let spent_right : (u : View E) → Apart u b = λ u. record { tickets = λ t _ none. maybe.some-ne-none t (sym none); lanes = λ _ q. absurd (gone q); joined = λ _ q. absurd (gone q) } in (
        log,
        record {
          drawn = k.drawn;
          served = k.served;
          made = k.made;
          words = k.words;
          all = length-set vs other b ∙ length-set s.views id a ∙ k.all;
          few = k.few;
          sounds = k.sounds;
          longest = let q = k.longest in dite (ℕ_discrete q.0 other)
              (λ e. let same : w ≡ q.1 = maybe.some-injective w q.1 (sym there ∙ ap (get_elem? s.views) (sym e) ∙ q.2) in (id, a, here, takes_over (subst (Knows log) (sym same) q.3)))
              (λ ne. dite (ℕ_discrete q.0 id)
              (λ e. let same : v ≡ q.1 = maybe.some-injective v q.1 (sym at ∙ ap (get_elem? s.views) (sym e) ∙ q.2) in (id, a, here, keeps_knowing (subst (Knows log) (sym same) q.3)))
              (λ ne'. (q.0, q.1, set_else vs other q.0 b ne ∙ set_else s.views id q.0 a ne' ∙ q.2, q.3)));
          outs = let z = k.outs in omega arith;
          turns = subst (λ (n : ℕ). HasTurns n (length log) us) (omega arith) (turns_join (k.served + sum_by turns_held_of s.views) (length log) s.views k.turns id other v w at two at' al alone);
          fits = λ j u e. ⊎_elim
              (λ (x : b ≡ u). subst (SeatKeeps lane_of k.drawn k.served k.made log) x record { tickets = tt; lives = λ q. absurd (gone q) })
              (λ (x : (j ≢ other) × (((j ≡ id) × (a ≡ u)) ⊎ ((j ≢ id) × (get_elem? s.views j ≡ maybe.some u)))). ⊎_elim
              (λ (y : (j ≡ id) × (a ≡ u)). subst (SeatKeeps lane_of k.drawn k.served k.made log) y.1 record {
                tickets = idle_tickets k.drawn k.served log v.seen v.stage idle;
                lives = λ _. record {
                  begins = l.begins;
                  own = l.own;
                  there = l.there;
                  count = l.count;
                  parts = λ z i p e. ⊎_elim
                      (λ (c : get_elem? v.joined i ≡ maybe.some p). l.parts z i p c)
                      (λ (c : (i ≡ length v.joined) × (part_of w ≡ p)). let lane : w.lane ≡ i + 1 = let d = c.0 in omega arith in
                      subst (λ (x : Part E). StartsWith log x.seen × (entries_of lane_of (i + 1) log ≡ entries_of lane_of (i + 1) x.seen)) c.1 (m.begins, subst (λ (n : ℕ). entries_of lane_of n log ≡ entries_of lane_of n w.seen) lane m.own))
                      (at_pushed v.joined (part_of w) p i e);
                  few = λ _. let z = m.there in omega arith;
                };
              })
              (λ (y : (j ≢ id) × (get_elem? s.views j ≡ maybe.some u)). k.fits j u y.1)
              x.1)
              (old j u e);
          apart = λ i j c d ne ec ed. ⊎_elim
              (λ (x : b ≡ c). subst (λ (z : View E). Apart z d) x (spent_left d))
              (λ (x : (i ≢ other) × (((i ≡ id) × (a ≡ c)) ⊎ ((i ≢ id) × (get_elem? s.views i ≡ maybe.some c)))). ⊎_elim
              (λ (y : b ≡ d). subst (λ (z : View E). Apart c z) y (spent_right c))
              (λ (y : (j ≢ other) × (((j ≡ id) × (a ≡ d)) ⊎ ((j ≢ id) × (get_elem? s.views j ≡ maybe.some d)))). ⊎_elim
              (λ (p : (i ≡ id) × (a ≡ c)). ⊎_elim
              (λ (q : (j ≡ id) × (a ≡ d)). absurd (ne (p.0 ∙ sym q.0)))
              (λ (q : (j ≢ id) × (get_elem? s.views j ≡ maybe.some d)).
              let f = k.apart id j v d (λ e. q.0 (sym e)) at q.1 in
              let g = k.apart other j w d (λ e. y.0 (sym e)) there q.1 in
              subst (λ (z : View E). Apart z d) p.1 record { tickets = f.tickets; lanes = f.lanes; joined = λ _ live z. let r = f.joined al live z in let n : w.lane ≢ d.lane = g.lanes al' live in omega arith })
              (y.1))
              (λ (p : (i ≢ id) × (get_elem? s.views i ≡ maybe.some c)). ⊎_elim
              (λ (q : (j ≡ id) × (a ≡ d)). let f = k.apart i id c v p.0 p.1 at in subst (λ (z : View E). Apart c z) q.1 record { tickets = f.tickets; lanes = f.lanes; joined = f.joined })
              (λ (q : (j ≢ id) × (get_elem? s.views j ≡ maybe.some d)). k.apart i j c d ne p.1 q.1)
              (y.1))
              (x.1))
              (old j d ed))
              (old i c ec);
          unmade = k.unmade;
          home = subst (λ (n : ℕ). Home list s.homes n log) (omega arith) k.home;
        },
      )

  pub closes : (id : ℕ) (v : View E) (ws : List ℕ) (xs : List (Option S)) → v.stage ≡ Idle → v.lane ≡ 0 → length v.joined + 1 ≡ v.made → Final (Seen (HasJournal list lane_of sound) id v) ws xs
      → (story : S) × (get_elem? xs 0 ≡ maybe.some (Some story)) × IsWhole lane_of sound v (list story)
  closes id v ws xs idle first all final =
      let s = final.0 in
      let log = final.1.0.0 in
      let k = final.1.0.1 in
      let at = final.1.1 in
      let al : is_alive v.stage ≡ true = ap is_alive idle in
      let l = (k.fits id v at).lives al in
      let spent_else : (j : ℕ) (u : View E) → j ≢ id → get_elem? s.views j ≡ maybe.some u → is_alive u.stage ≡ false = λ j u ne e. not_alive (is_alive u.stage) (λ live.
      let r = (k.apart id j v u (λ q. ne (sym q)) at e).joined al live first in let q = ((k.fits j u e).lives live).there in let c = l.count first in omega arith) in
      let whole = turns_all (k.served + sum_by turns_held_of s.views) (length log) s.views k.turns id v at spent_else in
      ⊎_elim
      (λ (h : (sum_by turns_held_of s.views ≡ 0) × ((story : S) × (s.homes ≡ maybe.some (Some story) ∷ []) × (list story ≡ log))).
      let story = h.1.0 in (
        story,
        final.4 0 (Some story) (ap (λ (hs : List (maybe.Option (Option S))). get_elem? hs 0) h.1.1),
        subst (IsWhole lane_of sound v) (sym h.1.2) record {
          begins = l.begins;
          own = l.own;
          parts = l.parts first;
          unmade = λ lane le. let c = l.count first in k.unmade lane (omega arith);
          sounds = k.sounds;
          at = k.turns.at;
          order = k.turns.order;
          marks = subst (λ (n : ℕ). HasMarks k.turns.at n v) (sym whole.0) (k.turns.marks id v at);
          once = λ turn lt. let n = whole.0 in whole.1 turn (omega arith);
          leads = let n = whole.0 in k.turns.leads (turns_of v) (omega arith);
        },
      ))
      (λ (h : (sum_by turns_held_of s.views ≡ 1) × (s.homes ≡ maybe.none ∷ [])).
      let one = h.0 in
      let who = sum_by-some turns_held_of s.views (omega arith) in
      let f = k.fits who.0 who.1 who.2 in
      let turn = holder k.drawn k.served log who.1.seen who.1.stage f.tickets who.3 in
      let live : is_alive who.1.stage ≡ true = ap is_alive turn.0 in
      absurd (dite (ℕ_discrete id who.0)
      (λ e. let same : v ≡ who.1 = maybe.some-injective v who.1 (sym at ∙ ap (get_elem? s.views) e ∙ who.2) in let z : turns_held v.stage ≡ 0 = ap turns_held idle in let p : 0 < turns_held v.stage = subst (λ (u : View E). 0 < turns_held u.stage) (sym same) who.3 in omega arith)
      (λ ne. let r = (k.apart id who.0 v who.1 ne at who.2).joined al live first in let q = (f.lives live).there in let c = l.count first in omega arith)))
      k.home

  story_in : S → Option S → S
  story_in x o = elim o as (λ _. S) [ Some y ↦ y | None ↦ x ]

  same_story : (x y : S) → maybe.some (Some x) ≡ maybe.some (Some y) → x ≡ y
  unfolding story_in
  same_story x y e = ap (story_in x) (maybe.some-injective (Some x) (Some y) e)

  -- what the slot gives at the end is a story
  pub closes_some : (id : ℕ) (v : View E) (ws : List ℕ) (xs : List (Option S)) (slot : Option S) → v.stage ≡ Idle → v.lane ≡ 0 → length v.joined + 1 ≡ v.made → Final (Seen (HasJournal list lane_of sound) id v) ws xs
      → get_elem? xs 0 ≡ maybe.some slot → (slot ≡ None → ⊥)
  closes_some id v ws xs slot idle first all final at none =
      let end = closes id v ws xs idle first all final in
      let is : slot ≡ Some end.0 = maybe.some-injective slot (Some end.0) (sym at ∙ end.1) in
      let e : true ≡ false = ap is_some (sym is ∙ none) in true≢false e

  -- and the story stands for the journal
  pub closes_with : (id : ℕ) (v : View E) (ws : List ℕ) (xs : List (Option S)) (story : S) → v.stage ≡ Idle → v.lane ≡ 0 → length v.joined + 1 ≡ v.made → Final (Seen (HasJournal list lane_of sound) id v) ws xs
      → get_elem? xs 0 ≡ maybe.some (Some story) → IsWhole lane_of sound v (list story)
  closes_with id v ws xs story idle first all final at =
      let end = closes id v ws xs idle first all final in
      subst (λ (x : S). IsWhole lane_of sound v (list x)) (same_story end.0 story (sym end.1 ∙ at)) end.2

  -- the table at the start, as its parts come
  pub starts_with : (story about : S) (items : List (Option S)) (count : ℕ) → items ≡ Some story ∷ [] → about ≡ story → count ≡ length (list story) → count < 2 ^ 64 → sound (list story) → 0 < length (list story) → All (λ e. lane_of e ≡ 0) (list story)
      → HasJournal list lane_of sound (opening (0 ∷ 0 ∷ count ∷ []) items (first_view (list about)))
  starts_with story about items count is same counted small sounds some_entry first =
      subst₂ (λ (xs : List (Option S)) (x : S). HasJournal list lane_of sound (opening (0 ∷ 0 ∷ count ∷ []) xs (first_view (list x)))) (sym is) (sym same) (starts story count counted small sounds some_entry first)
