-- Encodings of which no word goes on another: what stands at the front of bytes, and what stands behind it, is told by the bytes.
use Rattle.std.proofs.Common.{◌≡◌, ◌<◌, ◌^◌, ℕ, List, [], ◌∷◌, ◌++◌, length, get_or, drop, flat_map, All, refl, sym, ap, ◌∙◌, append_assoc, arith}
use Rattle.std.specs.Int.{w16, w32, from_be_bytes}
use Rattle.std.proofs.lemmas.List.{append_cancel_left}
use Rattle.std.proofs.lemmas.List.Elements.{All-head, All-tail}
use Rattle.std.proofs.lemmas.Nat.{from_be_bytes-to_be_bytes_2, from_be_bytes-to_be_bytes_4}
use Rattle.bim_code.specs.Bytes.{u16_bytes, u32_bytes, short_table, long_table}

-- two values that fit, with anything behind each, have the same bytes only if both are the same
pub record IsPrefixCode (A : Type 0) (Fits : A → Type 0) (encode : A → List ℕ) : Type 0 where
  pub apart : (x y : A) (r s : List ℕ) → Fits x → Fits y → encode x ++ r ≡ encode y ++ s → (x ≡ y) × (r ≡ s)

-- numbers
pub u16_apart : IsPrefixCode ℕ (λ n. n < 2 ^ 16) u16_bytes
unfolding u16_bytes
u16_apart = record {
  apart = λ n m r s below also e. (
    sym (from_be_bytes-to_be_bytes_2 n below) ∙ ap (from_be_bytes w16) e ∙ from_be_bytes-to_be_bytes_2 m also,
    ap (λ (all : List ℕ). drop 2 all) e,
  );
}

pub u32_apart : IsPrefixCode ℕ (λ n. n < 2 ^ 32) u32_bytes
unfolding u32_bytes
u32_apart = record {
  apart = λ n m r s below also e. (
    sym (from_be_bytes-to_be_bytes_4 n below) ∙ ap (from_be_bytes w32) e ∙ from_be_bytes-to_be_bytes_4 m also,
    ap (λ (all : List ℕ). drop 4 all) e,
  );
}

-- bytes of one length
pub same_length_apart : (x y r s : List ℕ) → length x ≡ length y → x ++ r ≡ y ++ s → (x ≡ y) × (r ≡ s)
same_length_apart [] [] r s same e = (refl, e)
same_length_apart [] (b ∷ y) r s same e = absurd (omega arith)
same_length_apart (a ∷ x) [] r s same e = absurd (omega arith)
same_length_apart (a ∷ x) (b ∷ y) r s same e =
    let first : a ≡ b = ap (λ (all : List ℕ). get_or all 0 0) e in
    let rest = same_length_apart x y r s (omega arith) (ap (λ (all : List ℕ). drop 1 all) e) in
    (λ i. first i ∷ rest.0 i, rest.1)

-- one thing behind another
pub both_apart : {A B : Type 0} {F : A → Type 0} {G : B → Type 0} {f : A → List ℕ} {g : B → List ℕ} → IsPrefixCode A F f → IsPrefixCode B G g
    → IsPrefixCode (A × B) (λ p. F p.0 × G p.1) (λ p. f p.0 ++ g p.1)
both_apart {f} {g} first second = record {
  apart = λ p q r s fits also e.
      let one = first.apart p.0 q.0 (g p.1 ++ r) (g q.1 ++ s) fits.0 also.0 (sym (append_assoc (f p.0) (g p.1) r) ∙ e ∙ append_assoc (f q.0) (g q.1) s) in
      let two = second.apart p.1 q.1 r s fits.1 also.1 one.1 in
      (λ i. (one.0 i, two.0 i), two.1);
}

-- what is encoded by its parts, which make the whole again
pub whole_apart : {A B : Type 0} {G : B → Type 0} {g : B → List ℕ} → IsPrefixCode B G g → (Fits : A → Type 0) (parts : A → B) (whole : B → A)
    → ((x : A) → Fits x → G (parts x)) → ((x : A) → whole (parts x) ≡ x) → IsPrefixCode A Fits (λ x. g (parts x))
whole_apart code Fits parts whole fit back = record {
  apart = λ x y r s fits also e.
      let same = code.apart (parts x) (parts y) r s (fit x fits) (fit y also) e in
      (sym (back x) ∙ ap whole same.0 ∙ back y, same.1);
}

-- behind bytes that are always the same
pub behind_apart : {A : Type 0} {F : A → Type 0} {f : A → List ℕ} (head : List ℕ) → IsPrefixCode A F f → IsPrefixCode A F (λ x. head ++ f x)
behind_apart {f} head code = record {
  apart = λ x y r s fits also e.
      code.apart x y r s fits also
      (append_cancel_left head (f x ++ r) (f y ++ s) (sym (append_assoc head (f x) r) ∙ e ∙ append_assoc head (f y) s));
}

-- as many things of one kind
pub all_apart : {A : Type 0} {F : A → Type 0} {f : A → List ℕ} → IsPrefixCode A F f → (xs ys : List A) (r s : List ℕ)
    → All F xs → All F ys → length xs ≡ length ys → flat_map f xs ++ r ≡ flat_map f ys ++ s → (xs ≡ ys) × (r ≡ s)
all_apart code [] [] r s fits also same e = (refl, e)
all_apart code [] (y ∷ ys) r s fits also same e = absurd (omega arith)
all_apart code (x ∷ xs) [] r s fits also same e = absurd (omega arith)
all_apart {F} {f} code (x ∷ xs) (y ∷ ys) r s fits also same e =
    let one = code.apart x y (flat_map f xs ++ r) (flat_map f ys ++ s) (All-head F x xs fits) (All-head F y ys also)
    (sym (append_assoc (f x) (flat_map f xs) r) ∙ e ∙ append_assoc (f y) (flat_map f ys) s) in
    let rest = all_apart code xs ys r s (All-tail F x xs fits) (All-tail F y ys also) (omega arith) one.1 in
    (λ i. one.0 i ∷ rest.0 i, rest.1)

-- tables
pub short_table_apart : {A : Type 0} {F : A → Type 0} {f : A → List ℕ} → IsPrefixCode A F f
    → IsPrefixCode (List A) (λ xs. (length xs < 2 ^ 16) × All F xs) (short_table f)
short_table_apart {f} code = record {
  apart = λ xs ys r s fits also e.
      let count = u16_apart.apart (length xs) (length ys) (flat_map f xs ++ r) (flat_map f ys ++ s) fits.0 also.0
      (sym (append_assoc (u16_bytes (length xs)) (flat_map f xs) r) ∙ e ∙ append_assoc (u16_bytes (length ys)) (flat_map f ys) s) in
      all_apart code xs ys r s fits.1 also.1 count.0 count.1;
}

pub long_table_apart : {A : Type 0} {F : A → Type 0} {f : A → List ℕ} → IsPrefixCode A F f
    → IsPrefixCode (List A) (λ xs. (length xs < 2 ^ 32) × All F xs) (long_table f)
long_table_apart {f} code = record {
  apart = λ xs ys r s fits also e.
      let count = u32_apart.apart (length xs) (length ys) (flat_map f xs ++ r) (flat_map f ys ++ s) fits.0 also.0
      (sym (append_assoc (u32_bytes (length xs)) (flat_map f xs) r) ∙ e ∙ append_assoc (u32_bytes (length ys)) (flat_map f ys) s) in
      all_apart code xs ys r s fits.1 also.1 count.0 count.1;
}
