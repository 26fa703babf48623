use Rattle.std.proofs.Common.{◌≡◌, ◌≢◌, ℕ, Bool, true, false, List, [], ◌∷◌, ◌++◌, length, refl, sym, ◌∙◌, ap, subst, arith}
use Rattle.std.specs.List.{prefix_len, list_all}
use Rattle.std.proofs.lemmas.Bool.{and_parts}

-- either answer of a test
pub on_bool : {P : Type 0} (b : Bool) → (b ≡ true → P) → (b ≡ false → P) → P
on_bool true yes_case no_case = yes_case refl
on_bool false yes_case no_case = no_case refl

pub not_both : (b : Bool) → b ≡ true → b ≡ false → ⊥
not_both b e f = let g : true ≡ false = sym e ∙ f in cc

-- nothing, or something that fails the test, comes next
abbrev pub StopsAt : (ℕ → Bool) → List ℕ → Type 0
StopsAt p [] = Unit {0}
StopsAt p (m ∷ ms) = p m ≡ false

-- the longest front whose bytes pass
pub record Run (p : ℕ → Bool) (bytes : List ℕ) : Type 0 where
  pub front : List ℕ
  pub back : List ℕ
  pub parts : bytes ≡ front ++ back
  pub long : length front ≡ prefix_len p bytes
  pub passes : list_all p front ≡ true
  pub stops : StopsAt p back

pub run_of : (p : ℕ → Bool) (bytes : List ℕ) → Run p bytes
run_of p [] = record { front = []; back = []; parts = refl; long = refl; passes = refl; stops = tt }
run_of p (b ∷ bs) =
    on_bool (p b)
    (λ e. let r : Run p bs = run_of p bs in record {
      front = b ∷ r.front;
      back = r.back;
      parts = ap (λ xs. b ∷ xs) r.parts;
      long = rw e (omega (arith, r.long));
      passes = rw e r.passes;
      stops = r.stops;
    })
    (λ e. record {
      front = [];
      back = b ∷ bs;
      parts = refl;
      long = rw e refl;
      passes = refl;
      stops = e;
    })

-- a longer text than a run has a byte that fails
pub run_over : (p : ℕ → Bool) (front back more after : List ℕ) → StopsAt p back → back ≡ more ++ after → more ≢ [] → list_all p (front ++ more) ≡ false
run_over p [] back [] after s e n = absurd (n refl)
run_over p [] [] (m ∷ ms) after s e n = cc
run_over p [] (b ∷ bs) (m ∷ ms) after s e n =
    let h : b ≡ m = cc in
    let k : p m ≡ false = subst (λ x. p x ≡ false) h s in
    rw k refl
run_over p (f ∷ fs) back more after s e n =
    let k : list_all p (fs ++ more) ≡ false = run_over p fs back more after s e n in
    on_bool (p f) (λ e. rw (e, k) refl) (λ e. rw e refl)

pub all_head : (p : ℕ → Bool) (x : ℕ) (xs : List ℕ) → list_all p (x ∷ xs) ≡ true → p x ≡ true
all_head p x xs h = (and_parts (p x) (list_all p xs) h).0

pub all_tail : (p : ℕ → Bool) (x : ℕ) (xs : List ℕ) → list_all p (x ∷ xs) ≡ true → list_all p xs ≡ true
all_tail p x xs h = (and_parts (p x) (list_all p xs) h).1
