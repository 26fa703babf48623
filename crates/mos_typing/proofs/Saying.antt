-- What is said of words goes over to what they are part of.

use Rattle.std.proofs.Common.{◌≡◌, ℕ, ◌<◌, ◌≤◌, max, Result, Ok, Err, refl, sym, ◌∙◌, ap, subst, arith}
use Rattle.mos_expr.specs.Grammar.{limit}
use Rattle.mos_expr.specs.declared.fault.ExprFault.{ExprFault}
use Rattle.mos_expr.specs.declared.fault.ExprFault.TheVariants as expr_fault
use Rattle.mos_typing.specs.Joining.{on_ok, both}
use Rattle.mos_expr.specs.Said.{Made, TooHigh, Nothing, Says, Gives}

pub says_nothing : {T : Type 0} (Is : T → ℕ → Type 0) → ((t : T) (h : ℕ) → Is t h → ⊥) → Says Is (Err expr_fault.NoExpr)
unfolding Says
says_nothing Is n = record { none = n }

pub says_made : {T : Type 0} (Is : T → ℕ → Type 0) (made : T) (high : ℕ) → Is made high → high ≤ limit → ((t : T) (h : ℕ) → Is t h → (t ≡ made) × (h ≤ limit)) → Says Is (Ok made)
unfolding Says
says_made Is made high i l o = record { high = high; is = i; low = l; only = o }

pub says_high : {T : Type 0} (Is : T → ℕ → Type 0) (made : T) (high : ℕ) → Is made high → limit < high → ((t : T) (h : ℕ) → Is t h → limit < h) → Says Is (Err expr_fault.Deep)
unfolding Says
says_high Is made high i a o = record { made = made; high = high; is = i; above = a; only = o }

pub says_want : {T : Type 0} (Is : T → ℕ → Type 0) → Says Is (Err expr_fault.NoMemory)
unfolding Says
says_want Is = tt

pub says_gives : {T : Type 0} (Is : T → ℕ → Type 0) (r y : Result T ExprFault) → Gives r y → Says Is y → Says Is r
unfolding Says
says_gives Is (Err expr_fault.NoMemory) y e k = tt
says_gives Is (Err expr_fault.NoExpr) y e k = subst (Says Is) (sym e) k
says_gives Is (Err expr_fault.Deep) y e k = subst (Says Is) (sym e) k
says_gives Is (Ok made) y e k = subst (Says Is) (sym e) k

-- what is said of a part is said of the whole
pub says_on_ok : {S T : Type 0} (P : S → ℕ → Type 0) (Q : T → ℕ → Type 0) (f : S → T) (r : Result S ExprFault) → ((s : S) (h : ℕ) → P s h → Q (f s) h) → ((t : T) (h : ℕ) → Q t h → (s : S) × P s h × (t ≡ f s)) → Says P r → Says Q (on_ok f r)
unfolding Says
says_on_ok P Q f (Ok s) out back k = record {
  high = k.high;
  is = out s k.high k.is;
  low = k.low;
  only = λ t h q. ((back t h q).2 ∙ ap f (k.only (back t h q).0 h (back t h q).1).0, (k.only (back t h q).0 h (back t h q).1).1);
}
says_on_ok P Q f (Err expr_fault.Deep) out back k = record {
  made = f k.made;
  high = k.high;
  is = out k.made k.high k.is;
  above = k.above;
  only = λ t h q. k.only (back t h q).0 h (back t h q).1;
}
says_on_ok P Q f (Err expr_fault.NoExpr) out back k = record { none = λ t h q. k.none (back t h q).0 h (back t h q).1 }
says_on_ok P Q f (Err expr_fault.NoMemory) out back k = tt

on_ok_same : {T : Type 0} (r : Result T ExprFault) → on_ok (λ z. z) r ≡ r
on_ok_same (Ok made) = refl
on_ok_same (Err fault) = refl

-- what is said of words in two ways
pub says_same : {T : Type 0} (P Q : T → ℕ → Type 0) (r : Result T ExprFault) → ((t : T) (h : ℕ) → P t h → Q t h) → ((t : T) (h : ℕ) → Q t h → P t h) → Says P r → Says Q r
says_same P Q r out back k = subst (Says Q) (on_ok_same r) (says_on_ok P Q (λ z. z) r out (λ t h q. (t, back t h q, refl)) k)

-- the two parts of a whole
pub record Parts {A B C : Type 0} (P : A → ℕ → Type 0) (R : B → ℕ → Type 0) (f : A → B → C) (whole : C) (high : ℕ) : Type 0 where
  pub first : A
  pub first_high : ℕ
  pub rest : B
  pub rest_high : ℕ
  pub first_is : P first first_high
  pub rest_is : R rest rest_high
  pub is : whole ≡ f first rest
  pub high_is : high ≡ max first_high rest_high

module _ {A B C : Type 0} (P : A → ℕ → Type 0) (R : B → ℕ → Type 0) (Q : C → ℕ → Type 0) (f : A → B → C)
    (out : (a : A) (h : ℕ) (b : B) (k : ℕ) → P a h → R b k → Q (f a b) (max h k))
    (back : (c : C) (m : ℕ) → Q c m → Parts P R f c m) where
  two_made : (a : A) (b : B) → Made P a → Made R b → Made Q (f a b)
  two_made a b k l = record {
    high = max k.high l.high;
    is = out a k.high b l.high k.is l.is;
    low = let h : k.high ≤ limit = k.low in let j : l.high ≤ limit = l.low in omega arith;
    only = λ c m q.
        let p : Parts P R f c m = back c m q in
        let o : (p.first ≡ a) × (p.first_high ≤ limit) = k.only p.first p.first_high p.first_is in
        let n : (p.rest ≡ b) × (p.rest_high ≤ limit) = l.only p.rest p.rest_high p.rest_is in
        (p.is ∙ ap (λ z. f z p.rest) o.0 ∙ ap (f a) n.0, let e : m ≡ max p.first_high p.rest_high = p.high_is in omega (arith, o.1, n.1));
  }

  high_first : TooHigh P → (b : B) (k : ℕ) → R b k → ((c : C) (m : ℕ) → Q c m → limit < m) → TooHigh Q
  high_first p b k r o = record {
    made = f p.made b;
    high = max p.high k;
    is = out p.made p.high b k p.is r;
    above = let h : limit < p.high = p.above in omega arith;
    only = o;
  }

  high_rest : TooHigh R → (a : A) (h : ℕ) → P a h → ((c : C) (m : ℕ) → Q c m → limit < m) → TooHigh Q
  high_rest r a h p o = record {
    made = f a r.made;
    high = max h r.high;
    is = out a h r.made r.high p r.is;
    above = let k : limit < r.high = r.above in omega arith;
    only = o;
  }

  above_first : TooHigh P → (c : C) (m : ℕ) → Q c m → limit < m
  above_first k c m q =
      let p : Parts P R f c m = back c m q in
      let h : limit < p.first_high = k.only p.first p.first_high p.first_is in
      let e : m ≡ max p.first_high p.rest_high = p.high_is in
      omega arith

  above_rest : TooHigh R → (c : C) (m : ℕ) → Q c m → limit < m
  above_rest k c m q =
      let p : Parts P R f c m = back c m q in
      let h : limit < p.rest_high = k.only p.rest p.rest_high p.rest_is in
      let e : m ≡ max p.first_high p.rest_high = p.high_is in
      omega arith

  none_first : Nothing P → Nothing Q
  none_first k = record { none = λ c m q. k.none (back c m q).first (back c m q).first_high (back c m q).first_is }

  none_rest : Nothing R → Nothing Q
  none_rest k = record { none = λ c m q. k.none (back c m q).rest (back c m q).rest_high (back c m q).rest_is }

  -- what is said of two parts is said of the whole
  pub says_both : (p : Result A ExprFault) (r : Result B ExprFault) → Says P p → Says R r → Says Q (both f p r)
  unfolding Says
  says_both (Ok a) (Ok b) k l = two_made a b k l
  says_both (Ok a) (Err expr_fault.Deep) k l = high_rest l a k.high k.is (above_rest l)
  says_both (Ok a) (Err expr_fault.NoExpr) k l = none_rest l
  says_both (Ok a) (Err expr_fault.NoMemory) k l = tt
  says_both (Err expr_fault.Deep) (Ok b) k l = high_first k b l.high l.is (above_first k)
  says_both (Err expr_fault.Deep) (Err expr_fault.Deep) k l = high_first k l.made l.high l.is (above_first k)
  says_both (Err expr_fault.Deep) (Err expr_fault.NoExpr) k l = none_rest l
  says_both (Err expr_fault.Deep) (Err expr_fault.NoMemory) k l = tt
  says_both (Err expr_fault.NoExpr) r k l = none_first k
  says_both (Err expr_fault.NoMemory) r k l = tt
