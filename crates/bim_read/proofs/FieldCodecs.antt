-- The fields of an image's file: what is written is read, and only that.
use Rattle.std.proofs.Common.{◌≡◌, ◌<◌, ◌≤◌, ◌^◌, ℕ, zero, suc, ℤ, pos, negsuc, Bool, true, false, List, [], ◌∷◌, ◌++◌, Some, Ok, length, take, drop, nat_lt, nat_le, if◌then◌else◌, FitsSigned, refl, sym, ap, ◌∙◌, subst, take-append-drop, length-append, length-take-le, arith}
use Rattle.std.specs.Int.{w16, w32, from_be_bytes, cast_signed, cast_unsigned, from_bool}
use Rattle.std.specs.Str.{is_utf8}
use Rattle.std.proofs.lemmas.Bool.Decides.{nat_tests}
use Rattle.std.proofs.lemmas.Int.{to_z-of_z, of_z-to_z}
use Rattle.std.proofs.Math.Facts.{sfits_to_z}
use Rattle.std.proofs.lemmas.Nat.{be_bytes_2, be_bytes_4, from_be_bytes-to_be_bytes_2, from_be_bytes-to_be_bytes_4}
use Rattle.bim_code.specs.Bytes.{u16_bytes, u32_bytes, i32_bytes}
use Rattle.bim_code.specs.Tables.{constant_bytes}
use Rattle.bim_read.specs.declared.fault.FaultKind.TheVariants.{Tag, NotText, Limit}
use Rattle.bim_read.specs.Reading.{ends_early}
use Rattle.bim_read.specs.Fields.{byte_at, piece_at, half_at, word_at, integer_at, truth_at, truth_of, count_at, text_of, text_at}
use Rattle.bim_read.proofs.Codecs.{AreBytes, IsCodec, same_found, came_from, made_codec, chosen_codec, checked_codec, keyed_codec}

-- one byte

pub byte_codec : IsCodec ℕ (λ b. b < 256) (λ b. b ∷ []) byte_at
byte_codec = record { back = λ b rest fits. refl; forth = known }
  where
    known : (bytes rest : List ℕ) (x : ℕ) → AreBytes bytes → byte_at bytes ≡ Ok (x, rest) → (x < 256) × (bytes ≡ x ∷ rest)
    known [] rest x are e = absurd cc
    known (b ∷ tail) rest x are e =
        subst (λ (y : ℕ × List ℕ). (y.0 < 256) × (b ∷ tail ≡ y.0 ∷ y.1)) (same_found (b, tail) (x, rest) e) (are 0, refl)

-- some bytes

front_of : (xs ys : List ℕ) → take (length xs) (xs ++ ys) ≡ xs
front_of [] ys = refl
front_of (x ∷ xs) ys = ap (λ (more : List ℕ). x ∷ more) (front_of xs ys)

rest_of : (xs ys : List ℕ) → drop (length xs) (xs ++ ys) ≡ ys
rest_of [] ys = refl
rest_of (x ∷ xs) ys = rest_of xs ys

front_bytes : (n : ℕ) (bytes : List ℕ) → AreBytes bytes → AreBytes (take n bytes)
front_bytes zero bytes are i = omega arith
front_bytes (suc n) [] are i = are i
front_bytes (suc n) (b ∷ bytes) are zero = are 0
front_bytes (suc n) (b ∷ bytes) are (suc i) = front_bytes n bytes (λ j. are (suc j)) i

pub piece_back : (n : ℕ) (xs rest : List ℕ) → length xs ≡ n → piece_at n (xs ++ rest) ≡ Ok (xs, rest)
piece_back n xs rest e = ap (λ (k : ℕ). piece_at k (xs ++ rest)) (sym e) ∙ by (nat_lt (length (xs ++ rest)) (length xs)) (long xs rest)
  where
    long : (ys zs : List ℕ) → nat_lt (length (ys ++ zs)) (length ys) ≡ false
    long ys zs = let all = length-append ys zs in grind (arith, nat_tests, all)

    by : (t : Bool) → t ≡ false → (if t then ends_early {A = List ℕ × List ℕ} else Ok (take (length xs) (xs ++ rest), drop (length xs) (xs ++ rest))) ≡ Ok (xs, rest)
    by true f = absurd cc
    by false f = rw (front_of xs rest, rest_of xs rest) refl

pub piece_forth : (n : ℕ) (bytes rest xs : List ℕ) → AreBytes bytes → piece_at n bytes ≡ Ok (xs, rest) → ((length xs ≡ n) × AreBytes xs) × (bytes ≡ xs ++ rest)
piece_forth n bytes rest xs are e = by (nat_lt (length bytes) n) refl e
  where
    by : (t : Bool) → nat_lt (length bytes) n ≡ t → (if t then ends_early {A = List ℕ × List ℕ} else Ok (take n bytes, drop n bytes)) ≡ Ok (xs, rest)
        → ((length xs ≡ n) × AreBytes xs) × (bytes ≡ xs ++ rest)
    by true f g = absurd cc
    by false f g =
        let enough : n ≤ length bytes = grind (arith, nat_tests, f) in
        subst (λ (y : List ℕ × List ℕ). ((length y.0 ≡ n) × AreBytes y.0) × (bytes ≡ y.0 ++ y.1)) (same_found (take n bytes, drop n bytes) (xs, rest) g)
        ((length-take-le n bytes enough, front_bytes n bytes are), sym (take-append-drop n bytes))

plain_piece_codec : (n : ℕ) → IsCodec (List ℕ) (λ xs. length xs ≡ n) (λ xs. xs) (piece_at n)
plain_piece_codec n = record {
  back = λ xs rest fits. piece_back n xs rest fits;
  forth = λ bytes rest xs are e. let here = piece_forth n bytes rest xs are e in (here.0.0, here.1);
}

-- numbers

below_16 : (bs : List ℕ) → length bs ≡ 2 → AreBytes bs → from_be_bytes w16 bs < 2 ^ 16
below_16 (a ∷ b ∷ []) e are = let first = are 0 in let second = are 1 in omega (arith, first, second)
below_16 _ e are = absurd (omega (arith, e))

below_32 : (bs : List ℕ) → length bs ≡ 4 → AreBytes bs → from_be_bytes w32 bs < 2 ^ 32
below_32 (a ∷ b ∷ c ∷ d ∷ []) e are =
    let first = are 0 in let second = are 1 in let third = are 2 in let fourth = are 3 in omega (arith, first, second, third, fourth)
below_32 _ e are = absurd (omega (arith, e))

pub half_codec : IsCodec ℕ (λ n. n < 2 ^ 16) u16_bytes half_at
unfolding half_at u16_bytes
half_codec = record {
  back = λ n rest fits.
      rw (piece_back 2 (u16_bytes n) rest refl) (ap (λ (m : ℕ). Ok (m, rest)) (from_be_bytes-to_be_bytes_2 n fits));
  forth = λ bytes rest n are e.
      let one = came_from (piece_at 2 bytes) (λ x. Ok (from_be_bytes w16 x.0, x.1)) (n, rest) e in
      let here = piece_forth 2 bytes one.0.1 one.0.0 are one.1 in
      subst (λ (y : ℕ × List ℕ). (y.0 < 2 ^ 16) × (bytes ≡ u16_bytes y.0 ++ y.1)) (same_found (from_be_bytes w16 one.0.0, one.0.1) (n, rest) one.2) (
        below_16 one.0.0 here.0.0 here.0.1,
        here.1 ∙ ap (λ (front : List ℕ). front ++ one.0.1) (sym (be_bytes_2 one.0.0 (from_be_bytes w16 one.0.0) here.0.0 here.0.1 refl)),
      );
}

pub word_codec : IsCodec ℕ (λ n. n < 2 ^ 32) u32_bytes word_at
unfolding word_at u32_bytes
word_codec = record {
  back = λ n rest fits.
      rw (piece_back 4 (u32_bytes n) rest refl) (ap (λ (m : ℕ). Ok (m, rest)) (from_be_bytes-to_be_bytes_4 n fits));
  forth = λ bytes rest n are e.
      let one = came_from (piece_at 4 bytes) (λ x. Ok (from_be_bytes w32 x.0, x.1)) (n, rest) e in
      let here = piece_forth 4 bytes one.0.1 one.0.0 are one.1 in
      subst (λ (y : ℕ × List ℕ). (y.0 < 2 ^ 32) × (bytes ≡ u32_bytes y.0 ++ y.1)) (same_found (from_be_bytes w32 one.0.0, one.0.1) (n, rest) one.2) (
        below_32 one.0.0 here.0.0 here.0.1,
        here.1 ∙ ap (λ (front : List ℕ). front ++ one.0.1) (sym (be_bytes_4 one.0.0 (from_be_bytes w32 one.0.0) here.0.0 here.0.1 refl)),
      );
}

pub unsigned_below : (n : ℤ) → FitsSigned w32 n → cast_unsigned w32 n < 2 ^ 32
unsigned_below (pos n) fits = omega arith
unsigned_below (negsuc n) fits = omega arith

pub signed_fits : (n : ℕ) → n < 2 ^ 32 → FitsSigned w32 (cast_signed w32 n)
signed_fits n below = sfits_to_z {w = w32} {n = n} record { fits = below }

pub integer_codec : IsCodec ℤ (FitsSigned w32) i32_bytes integer_at
integer_codec =
    made_codec (FitsSigned w32) (cast_signed w32) (cast_unsigned w32) word_codec unsigned_below (λ n fits. to_z-of_z w32 n fits)
    (λ n below. (signed_fits n below, of_z-to_z w32 n below))

pub truth_codec : IsCodec Bool (λ b. Unit {0}) (λ b. from_bool b ∷ []) truth_at
truth_codec = chosen_codec (λ (b : Bool). Unit {0}) truth_of Tag from_bool byte_codec fit other
  where
    fit : (b : Bool) → Unit {0} → (from_bool b < 256) × (truth_of (from_bool b) ≡ Some b)
    fit true u = (omega arith, refl)
    fit false u = (omega arith, refl)

    other : (n : ℕ) (b : Bool) → n < 256 → truth_of n ≡ Some b → Unit {0} × (from_bool b ≡ n)
    other zero b below e = (tt, let same : false ≡ b = cc in sym (ap from_bool same))
    other (suc zero) b below e = (tt, let same : true ≡ b = cc in sym (ap from_bool same))
    other (suc (suc n)) b below e = absurd cc

-- a count that is within its limit
abbrev pub Counted : ℕ → ℕ → Type 0
Counted most n = (n < 2 ^ 32) × (nat_le n most ≡ true)

pub count_codec : (most : ℕ) → IsCodec ℕ (Counted most) u32_bytes (count_at most)
count_codec most = checked_codec (λ n. nat_le n most) Limit word_codec

-- a text, behind its length
abbrev pub TextFits : List ℕ → Type 0
TextFits text = Counted 1048576 (length text) × (is_utf8 text ≡ true)

pub text_codec : IsCodec (List ℕ) TextFits constant_bytes text_at
unfolding text_at constant_bytes
text_codec = keyed_codec length (count_codec 1048576) one
  where
    one : (n : ℕ) → IsCodec (List ℕ) (λ text. (is_utf8 text ≡ true) × (length text ≡ n)) (λ text. text) (text_of n)
    one n =
        let code = checked_codec is_utf8 NotText (plain_piece_codec n) in
        record {
          back = λ text rest fits. code.back text rest (fits.1, fits.0);
          forth = λ bytes rest text are e. let here = code.forth bytes rest text are e in ((here.0.1, here.0.0), here.1);
        }
