-- how many index lists there are
use Rattle.std.proofs.Common.{◌≡◌, ◌<◌, ◌≤◌, ◌+◌, ◌*◌, ℕ, zero, suc, Bool, true, false, List, [], ◌∷◌, Ok, Err, fold, length, drop, get_or, refl, ap, sym, subst, ◌∙◌, ⊎_elim, true≢false, arith, if◌then◌else◌, length-append, zero-mul, suc-mul, mul-suc, add_comm, suc-ne-zero}
use Rattle.std.specs.Prelude.{◌||◌, nat_le}
use Rattle.std.specs.List.{list_any}
use Rattle.std.proofs.lemmas.Bool.{leb-true, le-leb}
use Rattle.std.proofs.lemmas.Bool.Decides.{leb_tells, Decides-eqb}
use Rattle.std.proofs.lemmas.Grind.{common_steps}
use Rattle.mos_text.specs.declared.fault_kind.FaultKind.{FaultKind}
use Rattle.mos_text.specs.declared.fault_kind.FaultKind.TheVariants.{TooBig}
use Rattle.mos_text.specs.declared.scalar.Scalar.{Scalar}
use Rattle.mos_value.specs.Collections.{collection_limit}
use Rattle.mos_value.specs.UpToMemory.{UpToMemory}
use Rattle.mos_value.specs.declared.fault.ValueFault.{ValueFault}
use Rattle.mos_value.specs.declared.fault.ValueFault.TheVariants.{Fault, NoMemory}
use Rattle.mos_array.specs.Rows.{with_each, with_index, few_lists, is_empty}

-- one for each member
length-with_each : (at members : List Scalar) → length (with_each at members) ≡ length members
length-with_each at [] = refl
length-with_each at (x ∷ members) = ap suc (length-with_each at members)

-- so for each list as many as there are members
pub with_index_length : (lists : List (List Scalar)) (members : List Scalar) → length (with_index lists members) ≡ length lists * length members
with_index_length [] members = sym (zero-mul (length members))
with_index_length (at ∷ lists) members =
    length-append (with_each at members) (with_index lists members)
    ∙ (ap (λ n. n + length (with_index lists members)) (length-with_each at members)
    ∙ (ap (λ n. length members + n) (with_index_length lists members)
    ∙ (add_comm (length members) (length lists * length members) ∙ sym (suc-mul (length lists) (length members)))))

-- none where there is no member
with_index-empty : (lists : List (List Scalar)) → with_index lists [] ≡ []
with_index-empty [] = refl
with_index-empty (at ∷ lists) = with_index-empty lists

fold-none : (sets : List (List Scalar)) → fold with_index [] sets ≡ []
fold-none [] = refl
fold-none (set ∷ sets) = fold-none sets

-- a set with a member is not empty
full : (x : Scalar) (members : List Scalar) → is_empty (x ∷ members) ≡ false
full x members = by (is_empty (x ∷ members)) refl
  where
    by : (b : Bool) → is_empty (x ∷ members) ≡ b → b ≡ false
    by true e = absurd (suc-ne-zero (length members) ((Decides-eqb (suc (length members)) 0).0 e))
    by false e = refl

some_rest : (b c : Bool) → b ≡ false → (b || c) ≡ true → c ≡ true
some_rest false c none some = some
some_rest true c none some = cc

none_rest : (b c : Bool) → (b || c) ≡ false → c ≡ false
none_rest false c none = none
none_rest true c none = cc

-- a set without a member leaves no list
pub fold_empty : (lists sets : List (List Scalar)) → list_any is_empty sets ≡ true → fold with_index lists sets ≡ []
fold_empty lists [] some = cc
fold_empty lists ([] ∷ sets) some = ap (λ all. fold with_index all sets) (with_index-empty lists) ∙ fold-none sets
fold_empty lists ((x ∷ members) ∷ sets) some =
    fold_empty (with_index lists (x ∷ members)) sets (some_rest (is_empty (x ∷ members)) (list_any is_empty sets) (full x members) some)

-- sets with members make no fewer
part : (all some more : ℕ) → all ≡ more + some → some ≤ all
part all some more is = omega (arith, is)

through : (a b c d : ℕ) → a ≤ b → c ≡ b → c ≤ d → a ≤ d
through a b c d ab cb cd = omega (arith, ab, cb, cd)

fold_grows : (lists sets : List (List Scalar)) → list_any is_empty sets ≡ false → length lists ≤ length (fold with_index lists sets)
fold_grows lists [] none = omega arith
fold_grows lists ([] ∷ sets) none = cc
fold_grows lists ((x ∷ members) ∷ sets) none =
    through (length lists) (length lists * suc (length members)) (length (with_index lists (x ∷ members))) (length (fold with_index lists ((x ∷ members) ∷ sets)))
    (part (length lists * suc (length members)) (length lists) (length lists * length members) (mul-suc (length lists) (length members)))
    (with_index_length lists (x ∷ members))
    (fold_grows (with_index lists (x ∷ members)) sets (none_rest (is_empty (x ∷ members)) (list_any is_empty sets) none))

-- sets behind the first ones have members too
any-drop : (i : ℕ) (sets : List (List Scalar)) → list_any is_empty sets ≡ false → list_any is_empty (drop i sets) ≡ false
any-drop zero sets none = none
any-drop (suc i) [] none = none
any-drop (suc i) (set ∷ sets) none = any-drop i sets (none_rest (is_empty set) (list_any is_empty sets) none)

-- so with one set more there are no more lists than in the end
pub grows_at : (lists sets all : List (List Scalar)) (i : ℕ) (set : List Scalar) → list_any is_empty sets ≡ false
    → i < length sets → set ≡ get_or sets i set → fold with_index lists (drop i sets) ≡ all → length (with_index lists set) ≤ length all
grows_at lists sets all i set none within is so_far =
    let rest : drop i sets ≡ set ∷ drop (i + 1) sets = grind (arith, common_steps) in
    let whole : fold with_index (with_index lists set) (drop (i + 1) sets) ≡ all = ap (fold with_index lists) (sym rest) ∙ so_far in
    subst (λ end. length (with_index lists set) ≤ length end) whole (fold_grows (with_index lists set) (drop (i + 1) sets) (any-drop (i + 1) sets none))

-- few are few
pub lists_few : (lists : List (List Scalar)) → length lists ≤ collection_limit → few_lists lists ≡ Ok lists
lists_few lists few = ap (λ (b : Bool). if b then Ok lists else Err TooBig) (le-leb (length lists) collection_limit few)

pub lists_many : (lists : List (List Scalar)) → collection_limit < length lists → few_lists lists ≡ Err TooBig
lists_many lists many = ap (λ (b : Bool). if b then Ok lists else Err TooBig) not_few
  where
    not_few : nat_le (length lists) collection_limit ≡ false
    not_few = ⊎_elim (λ w. absurd (omega (arith, many, w.1))) (λ w. w.0) (leb_tells (length lists) collection_limit)

-- and what is few is all that was to be
pub lists_is : (lists made : List (List Scalar)) → few_lists lists ≡ Ok made → (made ≡ lists) × (length lists ≤ collection_limit)
lists_is lists made is = by (nat_le (length lists) collection_limit) refl is
  where
    by : (b : Bool) → nat_le (length lists) collection_limit ≡ b
        → (if b then Ok lists else Err TooBig) ≡ Ok made → (made ≡ lists) × (length lists ≤ collection_limit)
    by true few e = (cc, leb-true (length lists) collection_limit few)
    by false few e = cc

-- where there are too many, more are
pub lists_further : (lists more : List (List Scalar)) (kind : FaultKind) → length lists ≤ length more
    → few_lists lists ≡ Err kind → few_lists more ≡ Err kind
lists_further lists more kind longer is = by (nat_le (length lists) collection_limit) refl is
  where
    many : nat_le (length lists) collection_limit ≡ false → collection_limit < length more
    many few = ⊎_elim (λ w. absurd (true≢false (sym w.0 ∙ few))) (λ w. omega (arith, longer, w.1)) (leb_tells (length lists) collection_limit)

    by : (b : Bool) → nat_le (length lists) collection_limit ≡ b → (if b then Ok lists else Err TooBig) ≡ Err kind → few_lists more ≡ Err kind
    by true few e = cc
    by false few e = lists_many more (many few) ∙ e

-- so what is refused with fewer is refused with more
pub refused_further : (lists more : List (List Scalar)) → length lists ≤ length more
    → (fault : ValueFault) → UpToMemory (Err fault) (few_lists lists) → UpToMemory (Err fault) (few_lists more)
refused_further lists more longer (Fault kind) is = lists_further lists more kind longer is
refused_further lists more longer NoMemory is = tt
