-- Reading and writing are inverse: what was written is read back, and only what is written is read.
use Rattle.std.proofs.Common.{◌≡◌, ◌<◌, ◌+◌, ℕ, zero, suc, Bool, true, false, List, [], ◌∷◌, ◌++◌, Option, Some, None, Result, Ok, Err, length, get_or, slice_get, flat_map, All, refl, sym, ap, ◌∙◌, subst, append_assoc, if◌then◌else◌, arith}
use Rattle.std.proofs.lemmas.List.Elements.{All-head, All-tail, All-cons, All-nil}
use Rattle.bim_read.specs.declared.fault.FaultKind.{FaultKind}
use Rattle.bim_read.specs.declared.fault.Bad.{Bad}
use Rattle.bim_read.specs.Reading.{Found, ◌>>=◌, meant, made, both, chosen, tested, checked, many, table}

-- each number is a byte
abbrev pub AreBytes : List ℕ → Type 0
AreBytes bytes = (i : ℕ) → get_or bytes i 0 < 256

pub bytes_behind : (front rest bytes : List ℕ) → AreBytes bytes → bytes ≡ front ++ rest → AreBytes rest
bytes_behind front rest bytes are e = by front (subst AreBytes e are)
  where
    by : (ahead : List ℕ) → AreBytes (ahead ++ rest) → AreBytes rest
    by [] these = these
    by (b ∷ ahead) these = by ahead (λ i. these (suc i))

-- a test, known
pub by_test : {P : Type 0} (t : Bool) → (t ≡ true → P) → (t ≡ false → P) → P
by_test true on off = on refl
by_test false on off = off refl

-- what was found is one thing
abbrev pub found : {A : Type 0} → A → Result A Bad
found x = Ok x

pub same_found : {A : Type 0} (x y : A) → found x ≡ Ok y → x ≡ y
same_found {A} x y e = ap (value x) e
  where
    value : A → Result A Bad → A
    value d (Ok a) = a
    value d (Err bad) = d

-- what is found came from what was found before
pub came_from : {A B : Type 0} (r : Result A Bad) (f : A → Result B Bad) (y : B) → (r >>= f) ≡ Ok y → (x : A) × (r ≡ Ok x) × (f x ≡ Ok y)
came_from (Ok x) f y e = (x, refl, e)
came_from (Err bad) f y e = absurd cc

-- values that fit are written so, and read so
pub record IsCodec (A : Type 0) (Fits : A → Type 0) (write : A → List ℕ) (read : List ℕ → Found A) : Type 0 where
  pub back : (x : A) (rest : List ℕ) → Fits x → read (write x ++ rest) ≡ Ok (x, rest)
  pub forth : (bytes rest : List ℕ) (x : A) → AreBytes bytes → read bytes ≡ Ok (x, rest) → Fits x × (bytes ≡ write x ++ rest)

-- one thing and another behind it
pub both_codec : {A B : Type 0} {F : A → Type 0} {G : B → Type 0} {f : A → List ℕ} {g : B → List ℕ} {p : List ℕ → Found A} {q : List ℕ → Found B}
    → IsCodec A F f p → IsCodec B G g q → IsCodec (A × B) (λ x. F x.0 × G x.1) (λ x. f x.0 ++ g x.1) (both p q)
both_codec {A} {B} {F} {G} {f} {g} {p} {q} first second = record {
  back = λ x rest fits.
      let one = first.back x.0 (g x.1 ++ rest) fits.0 in
      let two = second.back x.1 rest fits.1 in
      ap (both p q) (append_assoc (f x.0) (g x.1) rest) ∙ rw one (rw two refl);
  forth = λ bytes rest x are e.
      let one = came_from (p bytes) (λ a. q a.1 >>= λ b. Ok ((a.0, b.0), b.1)) (x, rest) e in
      let here = first.forth bytes one.0.1 one.0.0 are one.1 in
      let two = came_from (q one.0.1) (λ b. Ok ((one.0.0, b.0), b.1)) (x, rest) one.2 in
      let there = second.forth one.0.1 two.0.1 two.0.0 (bytes_behind (f one.0.0) one.0.1 bytes are here.1) two.1 in
      subst (λ (y : (A × B) × List ℕ). (F y.0.0 × G y.0.1) × (bytes ≡ (f y.0.0 ++ g y.0.1) ++ y.1))
      (same_found ((one.0.0, two.0.0), two.0.1) (x, rest) two.2)
      ((here.0, there.0), here.1 ∙ ap (λ tail. f one.0.0 ++ tail) there.1 ∙ sym (append_assoc (f one.0.0) (g two.0.0) two.0.1));
}

-- what is written by a key of it, and then by what is left
pub keyed_codec : {A B : Type 0} {F : A → Type 0} {G : B → Type 0} {f : A → List ℕ} {g : B → List ℕ} {p : List ℕ → Found A} {q : A → List ℕ → Found B} (key : B → A)
    → IsCodec A F f p → ((a : A) → IsCodec B (λ b. G b × (key b ≡ a)) g (q a))
    → IsCodec B (λ b. F (key b) × G b) (λ b. f (key b) ++ g b) (λ bytes. p bytes >>= λ a. q a.0 a.1)
keyed_codec {A} {B} {F} {G} {f} {g} {p} {q} key first second = record {
  back = λ b rest fits.
      let one = first.back (key b) (g b ++ rest) fits.0 in
      let two = (second (key b)).back b rest (fits.1, refl) in
      ap (λ (bytes : List ℕ). p bytes >>= λ a. q a.0 a.1) (append_assoc (f (key b)) (g b) rest) ∙ rw one two;
  forth = λ bytes rest b are e.
      let one = came_from (p bytes) (λ a. q a.0 a.1) (b, rest) e in
      let here = first.forth bytes one.0.1 one.0.0 are one.1 in
      let there = (second one.0.0).forth one.0.1 rest b (bytes_behind (f one.0.0) one.0.1 bytes are here.1) one.2 in
      let same : one.0.0 ≡ key b = sym there.0.1 in
      let whole : bytes ≡ f one.0.0 ++ (g b ++ rest) = here.1 ∙ ap (λ tail. f one.0.0 ++ tail) there.1 in (
        (subst F same here.0, there.0.0),
        whole ∙ ap (λ a. f a ++ (g b ++ rest)) same ∙ sym (append_assoc (f (key b)) (g b) rest),
      );
}

-- what is made of what is written
pub made_codec : {A B : Type 0} {F : A → Type 0} {f : A → List ℕ} {p : List ℕ → Found A} (G : B → Type 0) (whole : A → B) (parts : B → A)
    → IsCodec A F f p → ((b : B) → G b → F (parts b)) → ((b : B) → G b → whole (parts b) ≡ b) → ((a : A) → F a → G (whole a) × (parts (whole a) ≡ a))
    → IsCodec B G (λ b. f (parts b)) (made whole p)
made_codec {A} {B} {F} {f} {p} G whole parts code fit again other = record {
  back = λ b rest fits.
      let one = code.back (parts b) rest (fit b fits) in
      let same = again b fits in
      rw one (ap (λ (y : B). Ok (y, rest)) same);
  forth = λ bytes rest b are e.
      let one = came_from (p bytes) (λ a. Ok (whole a.0, a.1)) (b, rest) e in
      let here = code.forth bytes one.0.1 one.0.0 are one.1 in
      let there = other one.0.0 here.0 in
      subst (λ (y : B × List ℕ). G y.0 × (bytes ≡ f (parts y.0) ++ y.1))
      (same_found (whole one.0.0, one.0.1) (b, rest) one.2)
      (there.0, here.1 ∙ ap (λ a. f a ++ one.0.1) (sym there.1));
}

-- what a value means
pub chosen_codec : {A B : Type 0} {F : A → Type 0} {f : A → List ℕ} {p : List ℕ → Found A} (G : B → Type 0) (meaning : A → Option B) (kind : FaultKind) (name : B → A)
    → IsCodec A F f p → ((b : B) → G b → F (name b) × (meaning (name b) ≡ Some b)) → ((a : A) (b : B) → F a → meaning a ≡ Some b → G b × (name b ≡ a))
    → IsCodec B G (λ b. f (name b)) (chosen meaning kind p)
chosen_codec {A} {B} {F} {f} {p} G meaning kind name code fit other = record {
  back = λ b rest fits.
      let there = fit b fits in
      let one = code.back (name b) rest there.0 in
      rw one (rw there.1 refl);
  forth = λ bytes rest b are e.
      let one = came_from (p bytes) (λ a. meant (meaning a.0) kind bytes a.1) (b, rest) e in
      let here = code.forth bytes one.0.1 one.0.0 are one.1 in
      told bytes one.0.1 rest one.0.0 b (meaning one.0.0) refl one.2 here.0 here.1;
}
  where
    told : (bytes tail rest : List ℕ) (a : A) (b : B) (m : Option B) → meaning a ≡ m → meant m kind bytes tail ≡ Ok (b, rest) → F a → bytes ≡ f a ++ tail
        → G b × (bytes ≡ f (name b) ++ rest)
    told bytes tail rest a b None known e fits written = absurd cc
    told bytes tail rest a b (Some c) known e fits written =
        let there = other a c fits known in
        subst (λ (y : B × List ℕ). G y.0 × (bytes ≡ f (name y.0) ++ y.1)) (same_found (c, tail) (b, rest) e)
        (there.0, written ∙ ap (λ x. f x ++ tail) (sym there.1))

-- what passes a test
pub checked_codec : {A : Type 0} {F : A → Type 0} {f : A → List ℕ} {p : List ℕ → Found A} (test : A → Bool) (kind : FaultKind)
    → IsCodec A F f p → IsCodec A (λ x. F x × (test x ≡ true)) f (checked test kind p)
checked_codec {A} {F} test kind code =
    chosen_codec (λ x. F x × (test x ≡ true)) (tested test) kind (λ x. x) code (λ x fits. (fits.0, passes (test x) x fits.1)) (λ a b fits e. passed (test a) a b refl e fits)
  where
    passes : (t : Bool) (x : A) → t ≡ true → (if t then Some x else None) ≡ Some x
    passes true x e = refl
    passes false x e = absurd cc

    passed : (t : Bool) (a b : A) → test a ≡ t → (if t then Some a else None) ≡ Some b → F a → (F b × (test b ≡ true)) × (b ≡ a)
    passed true a b known e fits = let same : a ≡ b = cc in ((subst F same fits, sym (ap test same) ∙ known), sym same)
    passed false a b known e fits = absurd cc

-- as many things of one kind
all_back : {A : Type 0} {F : A → Type 0} {f : A → List ℕ} {p : List ℕ → Found A} → IsCodec A F f p → (xs : List A) (rest : List ℕ) → All F xs
    → many p (length xs) (flat_map f xs ++ rest) ≡ Ok (xs, rest)
unfolding many
all_back code [] rest fits = refl
all_back {F} {f} {p} code (x ∷ xs) rest fits =
    let one = code.back x (flat_map f xs ++ rest) (All-head F x xs fits) in
    let others = all_back code xs rest (All-tail F x xs fits) in
    ap (many p (suc (length xs))) (append_assoc (f x) (flat_map f xs) rest) ∙ rw one (rw others refl)

all_forth : {A : Type 0} {F : A → Type 0} {f : A → List ℕ} {p : List ℕ → Found A} → IsCodec A F f p → (n : ℕ) (bytes rest : List ℕ) (xs : List A) → AreBytes bytes
    → many p n bytes ≡ Ok (xs, rest) → (All F xs × (length xs ≡ n)) × (bytes ≡ flat_map f xs ++ rest)
unfolding many
all_forth {A} {F} {f} code zero bytes rest xs are e =
    subst (λ (y : List A × List ℕ). (All F y.0 × (length y.0 ≡ 0)) × (bytes ≡ flat_map f y.0 ++ y.1)) (same_found ([], bytes) (xs, rest) e)
    ((All-nil F, refl), refl)
all_forth {A} {F} {f} {p} code (suc n) bytes rest xs are e =
    let one = came_from (p bytes) (λ a. many p n a.1 >>= λ others. Ok (a.0 ∷ others.0, others.1)) (xs, rest) e in
    let here = code.forth bytes one.0.1 one.0.0 are one.1 in
    let two = came_from (many p n one.0.1) (λ others. Ok (one.0.0 ∷ others.0, others.1)) (xs, rest) one.2 in
    let there = all_forth code n one.0.1 two.0.1 two.0.0 (bytes_behind (f one.0.0) one.0.1 bytes are here.1) two.1 in
    let count : suc (length two.0.0) ≡ suc n = ap suc there.0.1 in
    subst (λ (y : List A × List ℕ). (All F y.0 × (length y.0 ≡ suc n)) × (bytes ≡ flat_map f y.0 ++ y.1))
    (same_found (one.0.0 ∷ two.0.0, two.0.1) (xs, rest) two.2) (
      (All-cons F one.0.0 two.0.0 here.0 there.0.0, count),
      here.1 ∙ ap (λ tail. f one.0.0 ++ tail) there.1 ∙ sym (append_assoc (f one.0.0) (flat_map f two.0.0) two.0.1),
    )

pub many_codec : {A : Type 0} {F : A → Type 0} {f : A → List ℕ} {p : List ℕ → Found A} → IsCodec A F f p → (n : ℕ)
    → IsCodec (List A) (λ xs. All F xs × (length xs ≡ n)) (flat_map f) (many p n)
many_codec {A} {F} {f} {p} code n = record {
  back = λ xs rest fits. ap (λ (k : ℕ). many p k (flat_map f xs ++ rest)) (sym fits.1) ∙ all_back code xs rest fits.0;
  forth = λ bytes rest xs are e. all_forth code n bytes rest xs are e;
}

-- a count, and as many things
pub table_codec : {A : Type 0} {F : A → Type 0} {f : A → List ℕ} {p : List ℕ → Found A} {C : ℕ → Type 0} {c : ℕ → List ℕ} {count : List ℕ → Found ℕ}
    → IsCodec ℕ C c count → IsCodec A F f p → IsCodec (List A) (λ xs. C (length xs) × All F xs) (λ xs. c (length xs) ++ flat_map f xs) (table count p)
table_codec counted code = keyed_codec length counted (many_codec code)

-- entries that are numbered by their places
abbrev pub Numbered : {T : Type 0} → (T → ℕ) → ℕ → List T → Type 0
Numbered number k [] = Unit {0}
Numbered number k (t ∷ ts) = (number t ≡ k) × Numbered number (suc k) ts

pub numbered_at : {T : Type 0} (number : T → ℕ) (k : ℕ) (ts : List T) (n : ℕ) (t : T) → Numbered number k ts → slice_get ts n ≡ Some t → number t ≡ k + n
numbered_at number k [] n t all e = absurd cc
numbered_at number k (u ∷ ts) zero t all e = let same : u ≡ t = cc in let here : number u ≡ number t = ap number same in omega (arith, all.0, here)
numbered_at number k (u ∷ ts) (suc n) t all e = let later = numbered_at number (suc k) ts n t all.1 e in omega (arith, later)
