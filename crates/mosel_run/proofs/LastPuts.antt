-- When the last puts are done, each name has its last bytes.

use Rattle.std.proofs.Common.{◌≡◌, ℕ, Bool, true, false, List, [], ◌∷◌, ◌++◌, Option, Some, None, refl, sym, ap, ◌∙◌, subst, map}
use Rattle.std.specs.Prelude.{cond, ◌||◌, if◌then◌else◌, is_some, unwrap_or}
use Rattle.std.specs.List.{list_any}
use Rattle.std.specs.FinMap.{get, insert, get-insert}
use Rattle.std.specs.Str.{bytes_eq}
use Rattle.std.proofs.lemmas.List.Folds.{list_any-append}
use Rattle.std.proofs.lemmas.Slice.Eq.{bytes_eq-Decides}
use Rattle.std.proofs.lemmas.Map.Text.{is_eq-slice_cmp}
use Rattle.std.proofs.lemmas.Cmp.{nat_list_cmp_total}
use Rattle.job_calls.specs.Runs.{last_given, last_of}
use Rattle.mos_text.specs.Content.{Files, Holds, known_of, known_by}
use Rattle.mosel_run.specs.declared.answer.Put.{Put}
use Rattle.mosel_run.specs.Laws.{put_all}
use Rattle.mosel_run.specs.Puts.{bytes_under, bytes_of, with_put, names_of, last_puts}

eq_names : (a b : List ℕ) → bytes_eq a b ≡ true → a ≡ b
eq_names a b h = (bytes_eq-Decides a b).0 h

same_name : (a : List ℕ) → bytes_eq a a ≡ true
same_name a = (bytes_eq-Decides a a).1 refl

or_true : (b : Bool) → (b || true) ≡ true
or_true true = refl
or_true false = refl

or_false : (b : Bool) → (b || false) ≡ b
or_false true = refl
or_false false = refl

or_assoc : (a b c : Bool) → ((a || b) || c) ≡ (a || (b || c))
or_assoc true b c = refl
or_assoc false b c = refl

-- the test is the same the other way round
turned_by : (a b : List ℕ) (x y : Bool) → bytes_eq a b ≡ x → bytes_eq b a ≡ y → x ≡ y
turned_by a b true true e f = refl
turned_by a b false false e f = refl
turned_by a b true false e f =
    let same = eq_names a b e in
    let again : bytes_eq b a ≡ true = subst (λ (n : List ℕ). bytes_eq n a ≡ true) same (same_name a) in
    let none : true ≡ false = sym again ∙ f in cc
turned_by a b false true e f =
    let same = eq_names b a f in
    let again : bytes_eq a b ≡ true = subst (λ (n : List ℕ). bytes_eq n b ≡ true) same (same_name b) in
    let none : false ≡ true = sym e ∙ again in cc

turned : (a b : List ℕ) → bytes_eq a b ≡ bytes_eq b a
turned a b = turned_by a b _ _ refl refl

-- one put: its name has its bytes, and any other what it had
put_other : (files : Files) (name n bytes : List ℕ) → bytes_eq name n ≡ false → known_of (Some (insert files n (Some bytes))) name ≡ known_of (Some files) name
put_other files name n bytes apart =
    ap known_by (get-insert nat_list_cmp_total files n (Some bytes) name
    ∙ ap (λ b. cond b (Some (Some bytes)) (get files name)) (is_eq-slice_cmp name n ∙ apart))

put_same : (files : Files) (name n bytes : List ℕ) → bytes_eq name n ≡ true → known_of (Some (insert files n (Some bytes))) name ≡ Holds bytes
put_same files name n bytes same =
    ap known_by (get-insert nat_list_cmp_total files n (Some bytes) name
    ∙ ap (λ b. cond b (Some (Some bytes)) (get files name)) (is_eq-slice_cmp name n ∙ same))

abbrev puts_by : (List ℕ → List ℕ) → List (List ℕ) → List Put
puts_by give names = map (λ n. record { name = n; bytes = give n }) names

first_false : (a b : Bool) → (a || b) ≡ false → (a ≡ false) × (b ≡ false)
first_false false b h = (refl, h)
first_false true b h = absurd cc

keeps : (give : List ℕ → List ℕ) (files : Files) (names : List (List ℕ)) (name : List ℕ) → list_any (bytes_eq name) names ≡ false
    → known_of (put_all (Some files) (puts_by give names)) name ≡ known_of (Some files) name
keeps give files [] name h = refl
keeps give files (n ∷ ns) name h =
    let both = first_false (bytes_eq name n) (list_any (bytes_eq name) ns) h in
    keeps give (insert files n (Some (give n))) ns name both.1 ∙ put_other files name n (give n) both.0

gives : (give : List ℕ → List ℕ) (files : Files) (names : List (List ℕ)) (name : List ℕ) → list_any (bytes_eq name) names ≡ true
    → known_of (put_all (Some files) (puts_by give names)) name ≡ Holds (give name)
gives give files [] name h = absurd cc
gives give files (n ∷ ns) name h = by (list_any (bytes_eq name) ns) refl (λ some. gives give (insert files n (Some (give n))) ns name some)
  where
    by : (later : Bool) → list_any (bytes_eq name) ns ≡ later
        → (list_any (bytes_eq name) ns ≡ true → known_of (put_all (Some (insert files n (Some (give n)))) (puts_by give ns)) name ≡ Holds (give name))
        → known_of (put_all (Some files) (puts_by give (n ∷ ns))) name ≡ Holds (give name)
    by true e again = again e
    by false e again =
        let here : bytes_eq name n ≡ true = sym (or_false (bytes_eq name n)) ∙ ap (λ b. bytes_eq name n || b) (sym e) ∙ h in
        keeps give (insert files n (Some (give n))) ns name e ∙ put_same files name n (give n) here
        ∙ ap (λ (m : List ℕ). Holds (give m)) (sym (eq_names name n here))

-- the names are those of the puts
any_with : (names : List (List ℕ)) (put : Put) (name : List ℕ) → list_any (bytes_eq name) (with_put names put) ≡ (list_any (bytes_eq name) names || bytes_eq put.name name)
any_with names put name = by (list_any (bytes_eq put.name) names) refl
  where
    in_both : (n : Bool) → bytes_eq put.name name ≡ n → list_any (bytes_eq put.name) names ≡ true
        → list_any (bytes_eq name) names ≡ (list_any (bytes_eq name) names || n)
    in_both false e h = sym (or_false _)
    in_both true e h =
        let there : list_any (bytes_eq name) names ≡ true = subst (λ (n : List ℕ). list_any (bytes_eq n) names ≡ true) (eq_names put.name name e) h in
        there ∙ sym (or_true (list_any (bytes_eq name) names))

    by : (known : Bool) → list_any (bytes_eq put.name) names ≡ known
        → list_any (bytes_eq name) (if known then names else names ++ put.name ∷ []) ≡ (list_any (bytes_eq name) names || bytes_eq put.name name)
    by true e = in_both _ refl e
    by false e =
        list_any-append (bytes_eq name) names (put.name ∷ [])
        ∙ ap (λ b. list_any (bytes_eq name) names || b) (or_false (bytes_eq name put.name) ∙ turned name put.name)

some_later : {A : Type 0} (first rest : Option A) → is_some (last_of first rest) ≡ (is_some first || is_some rest)
some_later None None = refl
some_later None (Some x) = refl
some_later (Some y) None = refl
some_later (Some y) (Some x) = refl

some_named_by : (test : Bool) (bytes : List ℕ) → is_some (if test then Some bytes else None) ≡ test
some_named_by true bytes = refl
some_named_by false bytes = refl

pub any_names : (names : List (List ℕ)) (puts : List Put) (name : List ℕ)
    → list_any (bytes_eq name) (names_of names puts) ≡ (list_any (bytes_eq name) names || is_some (last_given (bytes_under name) puts))
any_names names [] name = sym (or_false _)
any_names names (put ∷ puts) name =
    any_names (with_put names put) puts name
    ∙ ap (λ b. b || is_some (last_given (bytes_under name) puts)) (any_with names put name)
    ∙ or_assoc (list_any (bytes_eq name) names) (bytes_eq put.name name) (is_some (last_given (bytes_under name) puts))
    ∙ ap (λ b. list_any (bytes_eq name) names || b)
    (ap (λ b. b || is_some (last_given (bytes_under name) puts)) (sym (some_named_by (bytes_eq put.name name) put.bytes))
    ∙ sym (some_later (bytes_under name put) (last_given (bytes_under name) puts)))

pub last_stays : (files : Files) (puts : List Put) (name bytes : List ℕ) → last_given (bytes_under name) puts ≡ Some bytes
    → known_of (put_all (Some files) (last_puts puts)) name ≡ Holds bytes
last_stays files puts name bytes h =
    gives (bytes_of puts) files (names_of [] puts) name (any_names [] puts name ∙ ap is_some h)
    ∙ ap Holds (ap (λ (given : Option (List ℕ)). unwrap_or given []) h)

pub others_stay : (files : Files) (puts : List Put) (name : List ℕ) → last_given (bytes_under name) puts ≡ None
    → known_of (put_all (Some files) (last_puts puts)) name ≡ known_of (Some files) name
others_stay files puts name h = keeps (bytes_of puts) files (names_of [] puts) name (any_names [] puts name ∙ ap is_some h)
