-- Seats in the order of their lanes.
use Rattle.std.proofs.Common.{◌≡◌, ℕ, zero, suc, ◌+◌, List, [], ◌∷◌, ◌++◌, length, slice_get, Option, Some, unwrap_or, ◌⊎◌, inl, inr, ⊎_elim, is_some, true≢false, refl, sym, ap, ◌∙◌, arith}
use Rattle.hub_lock.specs.Seats.{SeatState}
use Rattle.hub_lock.specs.Calls.{InOrder}

-- an item of a longer list is its last, or was there before
item_pushed : {X : Type 0} (xs : List X) (y x : X) (i : ℕ) → slice_get (xs ++ y ∷ []) i ≡ Some x → (slice_get xs i ≡ Some x) ⊎ ((i ≡ length xs) × (y ≡ x))
item_pushed [] y x zero e = inr (refl, ap (λ (o : Option _). unwrap_or o y) e)
item_pushed [] y x (suc i) e = absurd (true≢false (sym (ap is_some e)))
item_pushed (z ∷ zs) y x zero e = inl e
item_pushed (z ∷ zs) y x (suc i) e = ⊎_elim (λ (h : slice_get zs i ≡ Some x). inl h) (λ (h : (i ≡ length zs) × (y ≡ x)). let n = h.0 in inr (omega arith, h.1)) (item_pushed zs y x i e)

-- the next lane's seat goes behind the others
pub InOrder-push : {E : Type 0} (others : List (SeatState E)) (next : SeatState E) → InOrder others → next.lane ≡ length others + 1 → InOrder (others ++ next ∷ [])
InOrder-push others next order is i other e = ⊎_elim
    (λ (h : slice_get others i ≡ Some other). order i other h)
    (λ (h : (i ≡ length others) × (next ≡ other)). ap (λ (s : SeatState _). s.lane) (sym h.1) ∙ is ∙ ap (λ (n : ℕ). n + 1) (sym h.0))
    (item_pushed others next other i e)
