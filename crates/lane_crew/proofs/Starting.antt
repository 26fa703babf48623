-- Lanes that are started one after another, and their ends.
use Rattle.std.proofs.Common.{◌≡◌, ◌+◌, List, [], ◌∷◌, ◌++◌, length, Bool, true, false, refl, sym, ap, ◌∙◌, subst, arith}
use Rattle.std.specs.List.{AllZip}
use Rattle.std.proofs.lemmas.Slice.Zip.{AllZip-long}
use Rattle.std.proofs.lemmas.List.{append-nil, append_assoc, length-append}
use Rattle.lane_crew.specs.Starts.{AreOver, HaveStarted}

module _ {A B : Type 0} where
  pub zip_append : (R : A → B → Type 0) (xs : List A) (ys : List B) (more : List A) (others : List B) → AllZip R xs ys → AllZip R more others → AllZip R (xs ++ more) (ys ++ others)
  zip_append R [] [] more others all rest = rest
  zip_append R [] (y ∷ ys) more others all rest = absurd all
  zip_append R (x ∷ xs) [] more others all rest = absurd all
  zip_append R (x ∷ xs) (y ∷ ys) more others all rest = (all.0, zip_append R xs ys more others all.1 rest)

  pub zip_snoc : (R : A → B → Type 0) (xs : List A) (ys : List B) (x : A) (y : B) → AllZip R xs ys → R x y → AllZip R (xs ++ x ∷ []) (ys ++ y ∷ [])
  zip_snoc R xs ys x y all one = zip_append R xs ys (x ∷ []) (y ∷ []) all (one, tt)

  pub none_left : (R : A → B → Type 0) (ys : List B) → AllZip R [] ys → ys ≡ []
  none_left R [] all = refl
  none_left R (y ∷ ys) all = absurd all

module _ {A B C : Type 0} where
  pub zip_through : (R : A → B → Type 0) (S : A → C → Type 0) (xs : List A) (ys : List B) (zs : List C) → AllZip R xs ys → AllZip (λ y z. (x : A) → R x y → S x z) ys zs → AllZip S xs zs
  zip_through R S [] [] [] all ends = tt
  zip_through R S [] [] (z ∷ zs) all ends = absurd ends
  zip_through R S [] (y ∷ ys) zs all ends = absurd all
  zip_through R S (x ∷ xs) [] zs all ends = absurd all
  zip_through R S (x ∷ xs) (y ∷ ys) [] all ends = absurd ends
  zip_through R S (x ∷ xs) (y ∷ ys) (z ∷ zs) all ends = (ends.0 x all.0, zip_through R S xs ys zs all.1 ends.1)

module _ {L B E : Type 0} (begins : L → B → Type 0) (quitted : L → E → Type 0) where
  -- before the first start
  pub none_started : HaveStarted begins quitted [] [] [] true
  none_started = record { started = []; left = []; lanes_are = refl; started_begun = tt; left_quit = tt; going_is = refl }

  -- one more lane has begun
  pub one_begun : (lanes : List L) (begun after : List B) (over : List E) (going : Bool) (lane : L) (one : B) → going ≡ true → after ≡ begun ++ one ∷ []
      → HaveStarted begins quitted lanes begun over going → begins lane one → HaveStarted begins quitted (lanes ++ lane ∷ []) after over true
  one_begun lanes begun after over true lane one goes is so begin = record {
    started = so.started ++ lane ∷ [];
    left = so.left;
    lanes_are =
        ap (λ them. them ++ lane ∷ []) (so.lanes_are ∙ ap (λ left. so.started ++ left) so.going_is ∙ append-nil so.started)
        ∙ sym (append-nil (so.started ++ lane ∷ []))
        ∙ ap (λ left. (so.started ++ lane ∷ []) ++ left) (sym so.going_is);
    started_begun = subst (λ them. AllZip begins (so.started ++ lane ∷ []) them) (sym is) (zip_snoc begins so.started begun lane one so.started_begun begin);
    left_quit = so.left_quit;
    going_is = so.going_is;
  }
  one_begun lanes begun after over false lane one goes is so begin = let nay : ⊥ = cc in absurd nay

  -- one more lane has quit
  pub one_quit : (lanes : List L) (begun : List B) (over after : List E) (going : Bool) (lane : L) (end : E) → after ≡ over ++ end ∷ []
      → HaveStarted begins quitted lanes begun over going → quitted lane end → HaveStarted begins quitted (lanes ++ lane ∷ []) begun after false
  one_quit lanes begun over after going lane end is so quit = record {
    started = so.started;
    left = so.left ++ lane ∷ [];
    lanes_are = ap (λ them. them ++ lane ∷ []) so.lanes_are ∙ append_assoc so.started so.left (lane ∷ []);
    started_begun = so.started_begun;
    left_quit = subst (λ them. AllZip quitted (so.left ++ lane ∷ []) them) (sym is) (zip_snoc quitted so.left over lane end so.left_quit quit);
    going_is = omega (arith, length-append so.left (lane ∷ []));
  }

-- each lane has begun or quit
pub all_counted : {L B E : Type 0} (begins : L → B → Type 0) (quitted : L → E → Type 0) (lanes : List L) (begun : List B) (over : List E) (going : Bool)
    → HaveStarted begins quitted lanes begun over going → length begun + length over ≡ length lanes
all_counted begins quitted lanes begun over going so =
    let one = AllZip-long begins so.started begun so.started_begun in
    let other = AllZip-long quitted so.left over so.left_quit in
    let both = length-append so.started so.left in
    let them = ap length so.lanes_are in omega arith

-- the first end, those of the lanes that had begun, and those of the others
pub all_over : {L B E : Type 0} (begins : L → B → Type 0) (ran quitted : L → E → Type 0) (first : L) (others : List L) (begun : List B) (over more : List E) (all : Bool) (end : E)
    → HaveStarted begins quitted others begun over all
    → (all ≡ true → ran first end) → (all ≡ false → quitted first end)
    → AllZip (λ one last. (lane : L) → begins lane one → ran lane last) begun more
    → AreOver ran quitted first others all (end ∷ (more ++ over))
all_over begins ran quitted first others begun over more true end so here quit ends =
    let have = zip_through begins ran so.started begun more so.started_begun ends in
    let none = none_left quitted over (subst (λ left. AllZip quitted left over) so.going_is so.left_quit) in (
      here refl,
      subst (λ them. AllZip ran them (more ++ over)) (sym (so.lanes_are ∙ ap (λ left. so.started ++ left) so.going_is ∙ append-nil so.started))
          (subst (λ them. AllZip ran so.started them) (sym (ap (λ last. more ++ last) none ∙ append-nil more)) have),
    )
all_over begins ran quitted first others begun over more false end so here quit ends = record {
  started = so.started;
  left = so.left;
  first_end = end;
  started_ends = more;
  left_ends = over;
  lanes_are = so.lanes_are;
  ends_are = refl;
  one_was_refused = so.going_is;
  first_quit = quit refl;
  started_ran = zip_through begins ran so.started begun more so.started_begun ends;
  left_quit = so.left_quit;
}
