-- All turns stand in one order, and each kind of step keeps that.
use Rattle.std.proofs.Common.{◌≡◌, ◌≢◌, ℕ, ◌+◌, ◌<◌, ◌≤◌, Bool, true, false, cond, eqb, eq-eqb, ne_eqb, leb, le-leb, List, [], ◌∷◌, ◌++◌, All, length, set, sum_by, inl, inr, ⊎_elim, refl, sym, ap, ◌∙◌, subst, true≢false, arith}
use Rattle.std.proofs.lemmas.Bool.{cases_lt, lt-leb}
use Rattle.std.proofs.lemmas.List.{length-append}
use Rattle.std.proofs.lemmas.List.Sums.{sum_by-cons, sum_by_push}
use Rattle.std.proofs.lemmas.List.Elements.{All-nil, All-head, All-tail, All-push, All-weaker}
use Rattle.std.proofs.Math.Decide.{ℕ_discrete}
use mathlib.Core.Logic.{dite}
use mathlib.Core.Option.{some}
use lib.ListN.{get_elem?}
use Rattle.atomic_table.proofs.Lists.{at_set, set_else}
use Rattle.hub_lock.specs.declared.mark.Mark.{Mark}
use Rattle.hub_lock.specs.declared.rule.Part.{Part}
use Rattle.hub_lock.specs.declared.rule.View.{View}
use Rattle.hub_lock.specs.Marks.{mark, times, IsOrder, IsMarkOf}
use Rattle.hub_lock.specs.Inner.Rule.{is_alive, turns_of, times_of, HasMarks, HasTurns}
use Rattle.hub_lock.specs.Inner.Steps.{after_join, spent_view, part_of}
use Rattle.hub_lock.proofs.Lists.{sum_by-set_at, sum_by-one, at_pushed}

-- the order once an entry was counted at the last of `total` turns
later : (ℕ → ℕ) → ℕ → ℕ → ℕ → ℕ
later at total count turn = cond (leb total turn) count (at turn)

later_before : (at : ℕ → ℕ) (total count turn : ℕ) → turn < total → later at total count turn ≡ at turn
unfolding later
later_before at total count turn lt = ap (λ (b : Bool). cond b count (at turn)) (lt-leb total turn lt)

later_from : (at : ℕ → ℕ) (total count turn : ℕ) → total ≤ turn → later at total count turn ≡ count
unfolding later
later_from at total count turn le = ap (λ (b : Bool). cond b count (at turn)) (le-leb total turn le)

-- the order goes on one higher, where the last turn found as many as there were
later_order : (at : ℕ → ℕ) (last count : ℕ) → IsOrder at → at last ≡ count → IsOrder (later at (last + 1) (count + 1))
later_order at last count order found turn = ⊎_elim
    (λ (lt : turn < last).
    let a : later at (last + 1) (count + 1) turn ≡ at turn = later_before at (last + 1) (count + 1) turn (omega arith) in
    let b : later at (last + 1) (count + 1) (turn + 1) ≡ at (turn + 1) = later_before at (last + 1) (count + 1) (turn + 1) (omega arith) in
    ⊎_elim
    (λ (e : at (turn + 1) ≡ at turn). inl (b ∙ e ∙ sym a))
    (λ (e : at (turn + 1) ≡ at turn + 1). inr (b ∙ e ∙ ap (λ (n : ℕ). n + 1) (sym a)))
    (order turn))
    (λ (le : last ≤ turn).
    let b : later at (last + 1) (count + 1) (turn + 1) ≡ count + 1 = later_from at (last + 1) (count + 1) (turn + 1) (omega arith) in
    dite (ℕ_discrete turn last)
    (λ e. let a : later at (last + 1) (count + 1) turn ≡ at turn = later_before at (last + 1) (count + 1) turn (omega arith) in
    inr (b ∙ ap (λ (n : ℕ). n + 1) (sym found ∙ ap at (sym e) ∙ sym a)))
    (λ ne. let a : later at (last + 1) (count + 1) turn ≡ count + 1 = later_from at (last + 1) (count + 1) turn (omega arith) in inl (b ∙ sym a)))
    (cases_lt turn last)

-- marks of so many turns are of more, where the order is the same so far
more_turns : (at at' : ℕ → ℕ) (total total' : ℕ) → total ≤ total' → ((turn : ℕ) → turn < total → at' turn ≡ at turn) → (ms : List Mark) → All (IsMarkOf at total) ms → All (IsMarkOf at' total') ms
more_turns at at' total total' le same ms h = All-weaker (IsMarkOf at total) (IsMarkOf at' total') (λ m p. let a = p.0 in (omega arith, p.1 ∙ sym (same m.ticket p.0))) ms h

pub all_last : {X : Type 0} (P : X → Type 0) (xs : List X) (x : X) → All P (xs ++ x ∷ []) → P x
all_last P [] x h = All-head P x [] h
all_last P (y ∷ ys) x h = all_last P ys x (All-tail P y (ys ++ x ∷ []) h)

-- a ticket stands once with its own mark
times_own : (ticket_at found : ℕ) → times ticket_at (mark ticket_at found ∷ []) ≡ 1
times_own ticket_at found = sum_by-cons (λ (x : Mark). cond (eqb x.ticket ticket_at) 1 0) (mark ticket_at found) [] ∙ ap (λ (b : Bool). cond b 1 0 + 0) (eq-eqb ticket_at ticket_at refl)

times_other : (ticket_at other found : ℕ) → other ≢ ticket_at → times ticket_at (mark other found ∷ []) ≡ 0
times_other ticket_at other found ne = sum_by-cons (λ (x : Mark). cond (eqb x.ticket ticket_at) 1 0) (mark other found) [] ∙ ap (λ (b : Bool). cond b 1 0 + 0) (ne_eqb other ticket_at ne)

times_push : (ticket_at : ℕ) (ms : List Mark) (m : Mark) → times ticket_at (ms ++ m ∷ []) ≡ times ticket_at ms + times ticket_at (m ∷ [])
times_push ticket_at ms m = let a = sum_by_push (λ (x : Mark). cond (eqb x.ticket ticket_at) 1 0) ms m in let b = sum_by_push (λ (x : Mark). cond (eqb x.ticket ticket_at) 1 0) [] m in omega arith

module _ {E : Type 0} where
  -- the marks of a view are of more turns
  more_marks : (at at' : ℕ → ℕ) (total total' : ℕ) → total ≤ total' → ((turn : ℕ) → turn < total → at' turn ≡ at turn) → (v : View E) → HasMarks at total v → HasMarks at' total' v
  more_marks at at' total total' le same v h = (
    more_turns at at' total total' le same v.marks h.0,
    All-weaker (λ (p : Part E). All (IsMarkOf at total) p.marks) (λ (p : Part E). All (IsMarkOf at' total') p.marks) (λ p q. more_turns at at' total total' le same p.marks q) v.joined h.1,
  )

  -- one view changes, and with it perhaps the order and the number of turns
  turns_set : (total count total' count' : ℕ) (views : List (View E)) (h : HasTurns total count views) (at' : ℕ → ℕ) (id : ℕ) (v w : View E) → get_elem? views id ≡ some v → is_alive w.stage ≡ true
      → total ≤ total' → ((turn : ℕ) → turn < total → at' turn ≡ h.at turn) → IsOrder at' → ((turn : ℕ) → total' ≤ turn → at' turn ≡ count')
      → turns_of w + total ≡ turns_of v + total'
      → ((turn n : ℕ) → n + times_of turn v ≡ sum_by (times_of turn) views + times_of turn w → (turn < total' → n ≡ 1) × (total' ≤ turn → n ≡ 0))
      → HasMarks at' total' w
      → HasTurns total' count' (set views id w)
  turns_set total count total' count' views h at' id v w at live le same order leads all each mine = record {
    at = at';
    order = order;
    leads = leads;
    counts = let s = sum_by-set_at turns_of views id v w at in let c = h.counts in omega (arith, all, s);
    once = λ turn. (each turn (sum_by (times_of turn) (set views id w)) (sum_by-set_at (times_of turn) views id v w at)).0;
    free = λ turn. (each turn (sum_by (times_of turn) (set views id w)) (sum_by-set_at (times_of turn) views id v w at)).1;
    marks = λ j u e. ⊎_elim
        (λ (x : (j ≡ id) × (w ≡ u)). subst (HasMarks at' total') x.1 mine)
        (λ (x : (j ≢ id) × (get_elem? views j ≡ some u)). more_marks h.at at' total total' le same u (h.marks j u x.1))
        (at_set views id j w u e);
    gone = λ j u e none. ⊎_elim
        (λ (x : (j ≡ id) × (w ≡ u)). absurd (true≢false (sym live ∙ ap (λ (z : View E). is_alive z.stage) x.1 ∙ none)))
        (λ (x : (j ≢ id) × (get_elem? views j ≡ some u)). h.gone j u x.1 none)
        (at_set views id j w u e);
  }

  -- the view has the marks that it had
  pub turns_stay : (total count : ℕ) (views : List (View E)) → HasTurns total count views → (id : ℕ) (v w : View E) → get_elem? views id ≡ some v → is_alive w.stage ≡ true → w.marks ≡ v.marks → w.joined ≡ v.joined
      → HasTurns total count (set views id w)
  turns_stay total count views h id v w at live same joined =
      let number : turns_of w ≡ turns_of v = ap (λ (ms : List Mark). length ms + sum_by (λ (p : Part E). length p.marks) w.joined) same ∙ ap (λ (ps : List (Part E)). length v.marks + sum_by (λ (p : Part E). length p.marks) ps) joined in
      let each : (turn : ℕ) → times_of turn w ≡ times_of turn v = λ turn. ap (λ (ms : List Mark). times turn ms + sum_by (λ (p : Part E). times turn p.marks) w.joined) same ∙ ap (λ (ps : List (Part E)). times turn v.marks + sum_by (λ (p : Part E). times turn p.marks) ps) joined in
      turns_set total count total count views h h.at id v w at live (omega arith) (λ _ _. refl) h.order h.leads (omega (arith, number))
      (λ turn n e. let a = each turn in (λ lt. let o = h.once turn lt in omega arith, λ le. let o = h.free turn le in omega arith))
      (let m = h.marks id v at in (subst (All (IsMarkOf h.at total)) (sym same) m.0, subst (All (λ (p : Part E). All (IsMarkOf h.at total) p.marks)) (sym joined) m.1))

  -- one turn more, which keeps its mark
  pub turns_more : (total count : ℕ) (views : List (View E)) → HasTurns total count views → (id : ℕ) (v w : View E) → get_elem? views id ≡ some v → is_alive w.stage ≡ true → w.marks ≡ v.marks ++ mark total count ∷ [] → w.joined ≡ v.joined
      → HasTurns (total + 1) count (set views id w)
  turns_more total count views h id v w at live more joined =
      let new : Mark = mark total count in
      let number : turns_of w ≡ turns_of v + 1 = let a : turns_of w ≡ length (v.marks ++ new ∷ []) + sum_by (λ (p : Part E). length p.marks) v.joined = ap (λ (ms : List Mark). length ms + sum_by (λ (p : Part E). length p.marks) w.joined) more ∙ ap (λ (ps : List (Part E)). length (v.marks ++ new ∷ []) + sum_by (λ (p : Part E). length p.marks) ps) joined in
      let b = length-append v.marks (new ∷ []) in omega arith in
      let each : (turn : ℕ) → times_of turn w ≡ times_of turn v + times turn (new ∷ []) = λ turn. let a : times_of turn w ≡ times turn (v.marks ++ new ∷ []) + sum_by (λ (p : Part E). times turn p.marks) v.joined = ap (λ (ms : List Mark). times turn ms + sum_by (λ (p : Part E). times turn p.marks) w.joined) more ∙ ap (λ (ps : List (Part E)). times turn (v.marks ++ new ∷ []) + sum_by (λ (p : Part E). times turn p.marks) ps) joined in
      let b = times_push turn v.marks new in omega arith in
      turns_set total count (total + 1) count views h h.at id v w at live (omega arith) (λ _ _. refl) h.order (λ turn le. h.leads turn (omega arith)) (omega (arith, number))
      (λ turn n e. let a = each turn in dite (ℕ_discrete turn total)
      (λ is. let f = h.free turn (omega arith) in let o : times turn (new ∷ []) ≡ 1 = ap (λ (t : ℕ). times t (new ∷ [])) is ∙ times_own total count in (λ lt. omega arith, λ le. absurd (omega arith)))
      (λ ne. let o : times turn (new ∷ []) ≡ 0 = times_other turn total count (λ q. ne (sym q)) in (λ lt. let f = h.once turn (omega arith) in omega arith, λ le. let f = h.free turn (omega arith) in omega arith)))
      (let m = h.marks id v at in (
        subst (All (IsMarkOf h.at (total + 1))) (sym more) (All-push (IsMarkOf h.at (total + 1)) v.marks new (more_turns h.at h.at total (total + 1) (omega arith) (λ _ _. refl) v.marks m.0) (omega arith, sym (h.leads total (omega arith)))),
        subst (All (λ (p : Part E). All (IsMarkOf h.at (total + 1)) p.marks)) (sym joined) (more_marks h.at h.at total (total + 1) (omega arith) (λ _ _. refl) v m).1,
      ))

  -- an entry is counted at the last turn, which is the view's
  pub turns_count : (last count : ℕ) (views : List (View E)) → HasTurns (last + 1) count views → (id : ℕ) (v w : View E) (before : List Mark) → get_elem? views id ≡ some v → is_alive w.stage ≡ true → w.marks ≡ v.marks → w.joined ≡ v.joined
      → v.marks ≡ before ++ mark last count ∷ [] → HasTurns (last + 1) (count + 1) (set views id w)
  turns_count last count views h id v w before at live same joined mine =
      let total : ℕ = last + 1 in
      let m = h.marks id v at in
      let found : IsMarkOf h.at total (mark last count) = all_last (IsMarkOf h.at total) before (mark last count) (subst (All (IsMarkOf h.at total)) mine m.0) in
      let kept = turns_stay total count views h id v w at live same joined in
      let at' : ℕ → ℕ = later h.at total (count + 1) in
      let on : (turn : ℕ) → turn < total → at' turn ≡ h.at turn = later_before h.at total (count + 1) in record {
        at = at';
        order = later_order h.at last count h.order (sym found.1);
        leads = later_from h.at total (count + 1);
        counts = kept.counts;
        once = kept.once;
        free = kept.free;
        marks = λ j u e. ⊎_elim
            (λ (x : (j ≡ id) × (w ≡ u)). subst (HasMarks at' total) x.1 (subst (All (IsMarkOf at' total)) (sym same) (more_marks h.at at' total total (omega arith) on v m).0, subst (All (λ (p : Part E). All (IsMarkOf at' total) p.marks)) (sym joined) (more_marks h.at at' total total (omega arith) on v m).1))
            (λ (x : (j ≢ id) × (get_elem? views j ≡ some u)). more_marks h.at at' total total (omega arith) on u (h.marks j u x.1))
            (at_set views id j w u e);
        gone = kept.gone;
      }

  -- nothing is counted of a view without marks
  no_marks : (v : View E) → v.marks ≡ [] → v.joined ≡ [] → (f : List Mark → ℕ) → f [] ≡ 0 → f v.marks + sum_by (λ (p : Part E). f p.marks) v.joined ≡ 0
  no_marks v none alone f zero_of =
      let a : f v.marks ≡ f [] = ap f none in
      let b : sum_by (λ (p : Part E). f p.marks) v.joined ≡ 0 = ap (sum_by (λ (p : Part E). f p.marks)) alone in omega arith

  -- a new seat has no marks
  pub turns_new : (total count : ℕ) (views : List (View E)) → HasTurns total count views → (b : View E) → is_alive b.stage ≡ true → b.marks ≡ [] → b.joined ≡ [] → HasTurns total count (views ++ b ∷ [])
  turns_new total count views h b live none alone =
      let nothing : (f : List Mark → ℕ) → f [] ≡ 0 → f b.marks + sum_by (λ (p : Part E). f p.marks) b.joined ≡ 0 = no_marks b none alone in
      let number : turns_of b ≡ 0 = nothing length refl in
      let each : (turn : ℕ) → times_of turn b ≡ 0 = λ turn. nothing (times turn) refl in record {
        at = h.at;
        order = h.order;
        leads = h.leads;
        counts = let c = h.counts in omega (arith, sum_by_push turns_of views b);
        once = λ turn lt. let o = h.once turn lt in let z = each turn in omega (arith, sum_by_push (times_of turn) views b);
        free = λ turn le. let o = h.free turn le in let z = each turn in omega (arith, sum_by_push (times_of turn) views b);
        marks = λ j u e. ⊎_elim
            (λ (x : get_elem? views j ≡ some u). h.marks j u x)
            (λ (x : (j ≡ length views) × (b ≡ u)). subst (HasMarks h.at total) x.1
            (subst (All (IsMarkOf h.at total)) (sym none) (All-nil (IsMarkOf h.at total)), subst (All (λ (p : Part E). All (IsMarkOf h.at total) p.marks)) (sym alone) (All-nil (λ (p : Part E). All (IsMarkOf h.at total) p.marks))))
            (at_pushed views b u j e);
        gone = λ j u e q. ⊎_elim
            (λ (x : get_elem? views j ≡ some u). h.gone j u x q)
            (λ (x : (j ≡ length views) × (b ≡ u)). absurd (true≢false (sym live ∙ ap (λ (z : View E). is_alive z.stage) x.1 ∙ q)))
            (at_pushed views b u j e);
      }

  -- what is counted of a view that takes in another
  sum_both : (f : List Mark → ℕ) (views : List (View E)) (id other : ℕ) (v w : View E) → get_elem? views id ≡ some v → get_elem? (set views id (after_join v w)) other ≡ some w → w.joined ≡ [] → f [] ≡ 0
      → let g : View E → ℕ = λ (z : View E). f z.marks + sum_by (λ (p : Part E). f p.marks) z.joined in sum_by g (set (set views id (after_join v w)) other spent_view) ≡ sum_by g views
  sum_both f views id other v w at at' alone zero_of =
      let h : Part E → ℕ = λ (p : Part E). f p.marks in
      let g : View E → ℕ = λ (z : View E). f z.marks + sum_by h z.joined in
      let a = sum_by-set_at g views id v (after_join v w) at in
      let b = sum_by-set_at g (set views id (after_join v w)) other w spent_view at' in
      let taken : g (after_join v w) ≡ g v + f w.marks = let p = sum_by_push h v.joined (part_of w) in omega arith in
      let given : g w ≡ f w.marks = let c : sum_by h w.joined ≡ 0 = ap (sum_by h) alone in omega arith in
      let left : g spent_view ≡ 0 = no_marks spent_view refl refl f zero_of in omega arith

  -- lane 0's seat takes in another, with its marks
  pub turns_join : (total count : ℕ) (views : List (View E)) → HasTurns total count views → (id other : ℕ) (v w : View E) → get_elem? views id ≡ some v → other ≢ id → get_elem? (set views id (after_join v w)) other ≡ some w → is_alive v.stage ≡ true → w.joined ≡ []
      → HasTurns total count (set (set views id (after_join v w)) other spent_view)
  turns_join total count views h id other v w at two at' live alone =
      let a : View E = after_join v w in
      let there : get_elem? views other ≡ some w = sym (set_else views id other a two) ∙ at' in
      let m = h.marks id v at in
      let n = h.marks other w there in
      let P : Part E → Type 0 = λ (p : Part E). All (IsMarkOf h.at total) p.marks in
      let all : HasMarks h.at total a = (m.0, All-push P v.joined (part_of w) m.1 n.0) in
      let none : HasMarks {E = E} h.at total spent_view = (All-nil (IsMarkOf h.at total), All-nil P) in record {
        at = h.at;
        order = h.order;
        leads = h.leads;
        counts = sum_both length views id other v w at at' alone refl ∙ h.counts;
        once = λ turn lt. sum_both (times turn) views id other v w at at' alone refl ∙ h.once turn lt;
        free = λ turn le. sum_both (times turn) views id other v w at at' alone refl ∙ h.free turn le;
        marks = λ j u e. ⊎_elim
            (λ (x : (j ≡ other) × (spent_view ≡ u)). subst (HasMarks h.at total) x.1 none)
            (λ (x : (j ≢ other) × (get_elem? (set views id a) j ≡ some u)). ⊎_elim
            (λ (y : (j ≡ id) × (a ≡ u)). subst (HasMarks h.at total) y.1 all)
            (λ (y : (j ≢ id) × (get_elem? views j ≡ some u)). h.marks j u y.1)
            (at_set views id j a u x.1))
            (at_set (set views id a) other j spent_view u e);
        gone = λ j u e q. ⊎_elim
            (λ (x : (j ≡ other) × (spent_view ≡ u)). (ap (λ (z : View E). z.marks) (sym x.1), ap (λ (z : View E). z.joined) (sym x.1)))
            (λ (x : (j ≢ other) × (get_elem? (set views id a) j ≡ some u)). ⊎_elim
            (λ (y : (j ≡ id) × (a ≡ u)). absurd (true≢false (sym live ∙ ap (λ (z : View E). is_alive z.stage) y.1 ∙ q)))
            (λ (y : (j ≢ id) × (get_elem? views j ≡ some u)). h.gone j u y.1 q)
            (at_set views id j a u x.1))
            (at_set (set views id a) other j spent_view u e);
      }

  -- where all other seats are spent, all turns are the one view's
  pub turns_all : (total count : ℕ) (views : List (View E)) → HasTurns total count views → (id : ℕ) (v : View E) → get_elem? views id ≡ some v → ((j : ℕ) (u : View E) → j ≢ id → get_elem? views j ≡ some u → is_alive u.stage ≡ false)
      → (turns_of v ≡ total) × ((turn : ℕ) → turn < total → times_of turn v ≡ 1)
  turns_all total count views h id v at others =
      let nothing : (f : List Mark → ℕ) → f [] ≡ 0 → (j : ℕ) (u : View E) → j ≢ id → get_elem? views j ≡ some u → f u.marks + sum_by (λ (p : Part E). f p.marks) u.joined ≡ 0 = λ f zero_of j u ne e.
      let g = h.gone j u e (others j u ne e) in no_marks u g.0 g.1 f zero_of in (
        sym (sum_by-one turns_of views id v at (nothing length refl)) ∙ h.counts,
        λ turn lt. sym (sum_by-one (times_of turn) views id v at (nothing (times turn) refl)) ∙ h.once turn lt,
      )
