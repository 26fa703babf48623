-- The table of points, as it grows point by point.

use Rattle.std.proofs.Common.{◌≡◌, ◌<◌, ◌≤◌, ℕ, suc, ◌+◌, Bool, true, false, List, [], ◌∷◌, Option, Some, None, refl, sym, ap, ◌∙◌, length, slice_get, set, nat_eq, nat_lt, arith, subst}
use Rattle.std.specs.Prelude.{◌&&◌, is_none, unwrap_or, if◌then◌else◌}
use Rattle.std.proofs.lemmas.Option.{slice_get_past, unwrap_or-slice_get}
use Rattle.bim_code.specs.declared.image.Image.{Image}
use Rattle.bim_code.specs.declared.image.Point.{Point}
use Rattle.bim_code.specs.Code.{code_size}
use Rattle.bim_verify.specs.Stacks.{first_point, point_at}
use Rattle.std.proofs.lemmas.Bool.Decides.{nat_tests}
use Rattle.std.proofs.lemmas.List.{get_or-set_same, get_or-set_other, length-set}
use Rattle.bim_verify.specs.Tables.{number_in, first_number, with_number, or_else, IsTableOf}

-- at an address where a point is noted first
fresh : (numbers : List (Option ℕ)) (number address : ℕ) (later : Option ℕ) → address < length numbers → (found : Option ℕ) → number_in numbers address ≡ found
    → or_else (number_in (if is_none found then set numbers address (Some number) else numbers) address) later ≡ or_else found (Some number)
fresh numbers number address later within None e = ap (λ f. or_else f later) (get_or-set_same numbers address (Some number) None within)
fresh numbers number address later within (Some one) e = ap (λ f. or_else f later) e

-- at other addresses nothing changes
others : (numbers : List (Option ℕ)) (number address a : ℕ) → nat_eq address a ≡ false → (t : Bool)
    → number_in (if t then set numbers address (Some number) else numbers) a ≡ number_in numbers a
others numbers number address a apart true = get_or-set_other numbers address a (Some number) None (λ e. differ e)
  where
    differ : a ≡ address → ⊥
    differ e = grind (arith, nat_tests, apart, e)
others numbers number address a apart false = refl

pub noted : (numbers : List (Option ℕ)) (number address a : ℕ) (later : Option ℕ) → a < length numbers
    → or_else (number_in (with_number numbers number address) a) later ≡ or_else (number_in numbers a) (if nat_eq address a then Some number else later)
noted numbers number address a later within = by (nat_eq address a) refl
  where
    by : (t : Bool) → nat_eq address a ≡ t
        → or_else (number_in (with_number numbers number address) a) later ≡ or_else (number_in numbers a) (if t then Some number else later)
    by true e =
        let same : address ≡ a = grind (arith, nat_tests, e) in
        let inside : nat_lt a (length numbers) ≡ true = grind (arith, nat_tests, within) in
        rw (same, inside) (fresh numbers number a later within (number_in numbers a) refl)
    by false e = ap (λ f. or_else f later) (others numbers number address a e (nat_lt address (length numbers) && is_none (number_in numbers address)))

pub long : (numbers : List (Option ℕ)) (number address : ℕ) → length (with_number numbers number address) ≡ length numbers
long numbers number address = by (nat_lt address (length numbers) && is_none (number_in numbers address))
  where
    by : (t : Bool) → length (if t then set numbers address (Some number) else numbers) ≡ length numbers
    by true = length-set numbers address (Some number)
    by false = refl

-- The table is read.

-- behind its end nothing is noted
pub number_missing : (numbers : List (Option ℕ)) (address : ℕ) → slice_get numbers address ≡ None → None ≡ number_in numbers address
number_missing numbers address e = sym (ap (λ found. unwrap_or found None) e) ∙ unwrap_or-slice_get numbers address None

-- the number of the first point at an address leads to it
numbered_point : (address n : ℕ) (points : List Point) (k : ℕ) → first_number address n points ≡ Some k
    → (j : ℕ) × (k ≡ n + j) × (slice_get points j ≡ first_point address points)
numbered_point address n [] k e = cc
numbered_point address n (point ∷ points) k e = by (nat_eq point.address address) e (numbered_point address (n + 1) points k)
  where
    by : (t : Bool) → (if t then Some n else first_number address (n + 1) points) ≡ Some k
        → (first_number address (n + 1) points ≡ Some k → (j : ℕ) × (k ≡ (n + 1) + j) × (slice_get points j ≡ first_point address points))
        → (j : ℕ) × (k ≡ n + j) × (slice_get (point ∷ points) j ≡ (if t then Some point else first_point address points))
    by true e more = let same : n ≡ k = cc in (0, omega (arith, same), refl)
    by false e more = let w = more e in let sum = w.1 in (suc w.0, omega (arith, sum), w.2)

-- where there is none, there is no point
unnumbered : (address n : ℕ) (points : List Point) → first_number address n points ≡ None → None ≡ first_point address points
unnumbered address n [] e = refl
unnumbered address n (point ∷ points) e = by (nat_eq point.address address) e (unnumbered address (n + 1) points)
  where
    by : (t : Bool) → (if t then Some n else first_number address (n + 1) points) ≡ None
        → (first_number address (n + 1) points ≡ None → None ≡ first_point address points)
        → None ≡ (if t then Some point else first_point address points)
    by true e more = cc
    by false e more = more e

pub number_leads : (image : Image) (numbers : List (Option ℕ)) → IsTableOf image numbers → (address k : ℕ) → number_in numbers address ≡ Some k
    → slice_get image.points k ≡ point_at image address
number_leads image numbers is address k e = by (nat_lt address (code_size image.code)) refl
  where
    by : (t : Bool) → nat_lt address (code_size image.code) ≡ t → slice_get image.points k ≡ (if t then first_point address image.points else None)
    by true l =
        let long = is.long in
        let within : address < length numbers = grind (arith, nat_tests, l, long) in
        let w = numbered_point address 0 image.points k (sym (is.tells address within) ∙ e) in
        let sum = w.1 in
        let same : w.0 ≡ k = omega (arith, sum) in
        subst (λ j. slice_get image.points j ≡ first_point address image.points) same w.2
    by false l =
        let long = is.long in
        let past : length numbers ≤ address = grind (arith, nat_tests, l, long) in
        let none = number_missing numbers address (slice_get_past numbers address past) in
        cc

pub none_leads : (image : Image) (numbers : List (Option ℕ)) → IsTableOf image numbers → (address : ℕ) → number_in numbers address ≡ None
    → None ≡ point_at image address
none_leads image numbers is address e = by (nat_lt address (code_size image.code)) refl
  where
    by : (t : Bool) → nat_lt address (code_size image.code) ≡ t → None ≡ (if t then first_point address image.points else None)
    by true l =
        let long = is.long in
        let within : address < length numbers = grind (arith, nat_tests, l, long) in
        unnumbered address 0 image.points (sym (is.tells address within) ∙ e)
    by false l = refl
