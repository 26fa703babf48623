-- Parts of a text, cut at bytes that are characters by themselves.

use Rattle.std.proofs.Common.{◌≡◌, ◌<◌, ℕ, ◌+◌, ◌-◌, ◌*◌, Bool, true, false, List, [], ◌∷◌, ◌++◌, drop, take, get_or, length, reverse, Option, Some, None, refl, sym, ap, ◌∙◌, add-one, drop-cons, length-drop, arith}
use Rattle.std.proofs.lemmas.List.{take_more, take_all, reverse-append}
use Rattle.std.specs.Str.{IsUtf8}
use Rattle.std.proofs.lemmas.Str.{IsUtf8-take, IsUtf8-between, IsCharBoundary-after_ascii, IsCharBoundary-before_ascii, IsCharBoundary-end}
use Rattle.std.proofs.lemmas.Bool.Decides.{nat_tests}
use Rattle.std.specs.Prelude.{nat_le, ◌&&◌, if◌then◌else◌}
use Rattle.run_state.specs.Parameters.{is_blank, skip_blanks, is_quote, ends_item, digits_from, and_then}
use Rattle.mos_vm.specs.Givens.{up_to_least, number_behind}

-- what stands before a byte
pub utf8_before : (bs : List ℕ) (i : ℕ) → IsUtf8 bs → i < length bs → get_or bs i 0 < 128 → IsUtf8 (take i bs)
utf8_before bs i u within ascii = IsUtf8-take bs i u (IsCharBoundary-before_ascii bs i within ascii)

-- what stands behind one
pub utf8_behind : (bs : List ℕ) (i : ℕ) → IsUtf8 bs → i < length bs → get_or bs i 0 < 128 → IsUtf8 (take (length bs - (i + 1)) (drop (i + 1) bs))
utf8_behind bs i u within ascii =
    IsUtf8-between bs (i + 1) (length bs) u (omega (arith, within)) (IsCharBoundary-after_ascii bs i u within ascii) (IsCharBoundary-end bs)

pub blank_is_ascii : (byte : ℕ) → is_blank byte ≡ true → byte < 128
blank_is_ascii byte e = grind (arith, nat_tests, e)

pub quote_is_ascii : (byte : ℕ) → is_quote byte ≡ true → byte < 128
quote_is_ascii byte e = grind (arith, nat_tests, e)

pub item_end_is_ascii : (quote : Option ℕ) (byte : ℕ) → ends_item quote byte ≡ true → byte < 128
item_end_is_ascii None byte e = grind (arith, nat_tests, e)
item_end_is_ascii (Some quote) byte e = cc

-- one digit more
pub one_digit : (n d : ℕ) (ds : List ℕ) → number_behind (10 * n + (d - 48)) ds ≡ None → number_behind n (d ∷ ds) ≡ None
one_digit n d ds later = tested (nat_le 48 d && nat_le d 57)
  where
    tested : (b : Bool) → and_then (if b then digits_from (10 * n + (d - 48)) ds else None) up_to_least ≡ None
    tested true = later
    tested false = refl

-- more digits do not make a number less
pub too_large : (n : ℕ) (text : List ℕ) → 2147483648 < n → number_behind n text ≡ None
too_large n [] more =
    let above : nat_le n 2147483648 ≡ false = grind (arith, nat_tests, more) in
    rw above refl
too_large n (d ∷ ds) more = one_digit n d ds (too_large (10 * n + (d - 48)) ds (omega (arith, more)))

-- all that stands behind some bytes
pub all_behind : (bs : List ℕ) (i : ℕ) → take (length bs - i) (drop i bs) ≡ drop i bs
all_behind bs i = take_all (length bs - i) (drop i bs) (simp length-drop (omega arith))

-- a blank at the end does not count
pub blank_off : (bs : List ℕ) → 0 < length bs → is_blank (get_or bs (length bs - 1) 0) ≡ true
    → skip_blanks (reverse (take (length bs - 1) bs)) ≡ skip_blanks (reverse bs)
blank_off bs some blank =
    let last : ℕ = get_or bs (length bs - 1) 0 in
    let first : List ℕ = take (length bs - 1) bs in
    let one : length bs - 1 + 1 ≡ length bs = omega (arith, some) in
    let whole : first ++ last ∷ [] ≡ bs =
    sym (take_more bs (length bs - 1) 0 (omega (arith, some))) ∙ ap (λ n. take n bs) one ∙ take_all (length bs) bs (omega arith) in
    sym (ap (λ all. skip_blanks (reverse all)) (sym whole) ∙ ap skip_blanks (reverse-append first (last ∷ []))
    ∙ ap (λ b. if b then skip_blanks (reverse first) else last ∷ reverse first) blank)

-- a blank at the front does not count
pub blank_on : (bs : List ℕ) (i : ℕ) → i < length bs → is_blank (get_or bs i 0) ≡ true → skip_blanks (drop (i + 1) bs) ≡ skip_blanks (drop i bs)
blank_on bs i within blank =
    let step : drop i bs ≡ get_or bs i 0 ∷ drop (i + 1) bs = rw (add-one, drop-cons bs i 0 within) in
    sym (ap skip_blanks step ∙ ap (λ b. if b then skip_blanks (drop (i + 1) bs) else get_or bs i 0 ∷ drop (i + 1) bs) blank)
