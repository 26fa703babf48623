-- What the last entry that gives something gives, read at its place.

use Rattle.std.proofs.Common.{◌≡◌, ◌<◌, ℕ, zero, suc, Bool, true, false, List, [], ◌∷◌, ◌++◌, Option, Some, None, refl, sym, ap, ◌∙◌, subst, append_assoc, append-nil, length, arith}
use Rattle.std.specs.Prelude.{is_some, slice_get, option_and_then, option_map, if◌then◌else◌}
use Rattle.std.proofs.lemmas.List.{length_push}
use Rattle.job_calls.specs.declared.entry.Entry.{Entry}
use Rattle.job_calls.specs.Runs.{Start, last_of, last_given, start_of_run, params_of}
use Rattle.job_calls.specs.Models.{compiled_to, compiled_from}
use Rattle.model_table.specs.Tables.{starts_run}
use Rattle.model_table.specs.Index.{makes_image}
use Rattle.job_calls.specs.Blocks.{last_place}
use Rattle.growing_lists.specs.Growing.{last_given-snoc, last_place-snoc}

snoc_from : {A : Type 0} (P : List A → Type 0) → ((xs : List A) (x : A) → P xs → P (xs ++ x ∷ [])) → (before xs : List A) → P before → P (before ++ xs)
snoc_from P step before [] p = subst P (sym (append-nil before)) p
snoc_from P step before (x ∷ xs) p = subst P (append_assoc before (x ∷ []) xs) (snoc_from P step (before ++ x ∷ []) xs (step before x p))

-- what stands in front of the last
get_before : {A : Type 0} (xs : List A) (x : A) (n : ℕ) → n < length xs → slice_get (xs ++ x ∷ []) n ≡ slice_get xs n
get_before [] x n less = absurd (omega (arith, less))
get_before (y ∷ ys) x zero less = refl
get_before (y ∷ ys) x (suc n) less = get_before ys x n (omega (arith, less))

-- and the last
get_last : {A : Type 0} (xs : List A) (x : A) → slice_get (xs ++ x ∷ []) (length xs) ≡ Some x
get_last [] x = refl
get_last (y ∷ ys) x = get_last ys x

-- a place, if there is one, is in the list
abbrev pub IsIn : {A : Type 0} → Option ℕ → List A → Type 0
IsIn None xs = Unit {0}
IsIn (Some n) xs = n < length xs

longer : {A : Type 0} (xs : List A) (x : A) (o : Option ℕ) → IsIn o xs → IsIn o (xs ++ x ∷ [])
longer xs x None in_it = tt
longer xs x (Some n) in_it = let l = length_push xs x in omega (arith, in_it, l)

-- what the entry at the place gives
abbrev pub given_at : {B : Type 0} → (Entry → Option B) → List Entry → Option ℕ → Option B
given_at give log place = option_and_then (λ n. option_and_then give (slice_get log n)) place

-- it is what was last given, and the place is in the list
abbrev pub IsAt : {B : Type 0} → (Entry → Option B) → (Entry → Bool) → List Entry → Type 0
IsAt give test log = (last_given give log ≡ given_at give log (last_place test log)) × IsIn (last_place test log) log

stays : {B : Type 0} (give : Entry → Option B) (log : List Entry) (e : Entry) (o : Option ℕ) → IsIn o log
    → given_at give (log ++ e ∷ []) o ≡ given_at give log o
stays give log e None in_it = refl
stays give log e (Some n) in_it = ap (option_and_then give) (get_before log e n in_it)

given_by : {B : Type 0} (give : Entry → Option B) (test : Entry → Bool) (log : List Entry) (e : Entry) (o : Option B) → give e ≡ o → IsAt give test log
    → last_of (last_given give log) o ≡ given_at give (log ++ e ∷ []) (if is_some o then Some (length log) else last_place test log)
given_by give test log e None is p = p.0 ∙ sym (stays give log e (last_place test log) p.1)
given_by give test log e (Some b) is p = sym (ap (option_and_then give) (get_last log e) ∙ is)

within_by : (test : Entry → Bool) (log : List Entry) (e : Entry) (b : Bool) → IsIn (last_place test log) log
    → IsIn (if b then Some (length log) else last_place test log) (log ++ e ∷ [])
within_by test log e true p = let l = length_push log e in omega (arith, l)
within_by test log e false p = longer log e (last_place test log) p

more : {B : Type 0} (give : Entry → Option B) (test : Entry → Bool) → ((e : Entry) → test e ≡ is_some (give e)) → (log : List Entry) (e : Entry)
    → IsAt give test log → IsAt give test (log ++ e ∷ [])
more give test same log e p = (
  last_given-snoc give log e ∙ given_by give test log e (give e) refl p
      ∙ ap (λ b. given_at give (log ++ e ∷ []) (if b then Some (length log) else last_place test log)) (sym (same e))
      ∙ ap (given_at give (log ++ e ∷ [])) (sym (last_place-snoc test log e)),
  subst (λ o. IsIn o (log ++ e ∷ [])) (sym (last_place-snoc test log e)) (within_by test log e (test e) p.1),
)

all_at : {B : Type 0} (give : Entry → Option B) (test : Entry → Bool) → ((e : Entry) → test e ≡ is_some (give e)) → (log : List Entry) → IsAt give test log
all_at give test same log = snoc_from (IsAt give test) (more give test same) [] log (refl, tt)

-- what is last given stands at the last place that passes
pub last_at : {B : Type 0} (give : Entry → Option B) (test : Entry → Bool) → ((e : Entry) → test e ≡ is_some (give e)) → (log : List Entry)
    → last_given give log ≡ given_at give log (last_place test log)
last_at give test same log = (all_at give test same log).0

is_some-map : {A B : Type 0} (f : A → B) (o : Option A) → is_some o ≡ is_some (option_map f o)
is_some-map f None = refl
is_some-map f (Some x) = refl

one_if : (b : Bool) → b ≡ is_some {T = ℕ} (if b then Some 0 else None)
one_if true = refl
one_if false = refl

-- the last place that passes is in the list
pub last_in : (test : Entry → Bool) (log : List Entry) → IsIn (last_place test log) log
last_in test log =
    let give : Entry → Option ℕ = λ e. if test e then Some 0 else None in
    (all_at give test (λ e. one_if (test e)) log).1

-- a run that was started later has the parameter text of the entry that last started it
pub params_found : (k : ℕ) (log : List Entry) → (k ≡ 0 → ⊥)
    → option_and_then (λ n. option_and_then (λ e. option_map (λ (start : Start). start.params) (start_of_run k e)) (slice_get log n)) (last_place (starts_run k) log) ≡ params_of k log
params_found zero log some = absurd (some refl)
params_found (suc k) log some =
    sym (last_at (λ e. option_map (λ (start : Start). start.params) (start_of_run (suc k) e)) (starts_run (suc k))
    (λ e. is_some-map (λ (start : Start). start.params) (start_of_run (suc k) e)) log)

-- the source of an image is that of the entry that last made it
pub source_found : (file : List ℕ) (log : List Entry)
    → option_and_then (λ n. option_and_then (λ e. compiled_to file e.call e.reply) (slice_get log n)) (last_place (makes_image file) log) ≡ compiled_from file log
source_found file log = sym (last_at (λ e. compiled_to file e.call e.reply) (makes_image file) (λ e. refl) log)
