-- The last entry of a name, once there is one entry more; whether there is one; and where it stands.
use Rattle.std.proofs.Common.{◌≡◌, ◌<◌, ℕ, ◌+◌, Bool, true, false, cond, ◌||◌, List, [], ◌∷◌, ◌++◌, Option, Some, None, refl, sym, ap, ◌∙◌, subst, length, length-append, get_or, is_some, option_copied, Bor, arith}
use Rattle.std.specs.Prelude.{if◌then◌else◌}
use Rattle.std.specs.List.{list_any, slice_get}
use Rattle.std.specs.Str.{bytes_eq}
use Rattle.std.proofs.Math.Seq.{get_or-append_seam}
use Rattle.std.proofs.lemmas.List.{get_or_append_left}
use Rattle.std.proofs.lemmas.Option.{slice_get-get_or}
use Rattle.std.proofs.lemmas.Slice.Eq.{bytes_eq-Decides}
use Rattle.mos_names.specs.NameLists.{Name}
use Rattle.mos_sorts.specs.declared.scope.Entry.{Entry}
use Rattle.mos_sorts.specs.Entries.{latest, StandsAt, AreLatest}

-- the last entry, once there is one more
pub latest-snoc : (n : Name) (found : Option Entry) (es : List Entry) (e : Entry)
    → latest n found (es ++ e ∷ []) ≡ (if bytes_eq n e.name then Some e else latest n found es)
latest-snoc n found [] e = refl
latest-snoc n found (y ∷ ys) e = latest-snoc n (if bytes_eq n y.name then Some y else found) ys e

-- one that is found, or was found before
sooner-found : (b rest : Bool) (y : Entry) (found : Option Entry) → (is_some (if b then Some y else found) || rest) ≡ (is_some found || (b || rest))
sooner-found true rest y None = refl
sooner-found true rest y (Some x) = refl
sooner-found false rest y found = refl

-- there is a last entry where one has the name
pub latest-found : (n : Name) (found : Option Entry) (es : List Entry)
    → is_some (latest n found es) ≡ (is_some found || list_any (λ (e : Entry). bytes_eq n e.name) es)
latest-found n None [] = refl
latest-found n (Some x) [] = refl
latest-found n found (y ∷ ys) =
    latest-found n (if bytes_eq n y.name then Some y else found) ys
    ∙ sooner-found (bytes_eq n y.name) (list_any (λ (e : Entry). bytes_eq n e.name) ys) y found

-- what stands at a place that is known
pub stands-found : (place : ℕ) (o : Option ℕ) (found : Option Entry) (es : List Entry) → o ≡ Some place → StandsAt o found es → found ≡ slice_get es place
stands-found place o found es is at = (subst (λ o. StandsAt o found es) is at).1

-- whether there is something behind a reference, and whether there is a reference
pub copied-some : {X : Type 0} (o : Option (Bor X)) → is_some (option_copied o) ≡ is_some o
copied-some None = refl
copied-some (Some x) = refl

same_truth : (x y : Bool) → (x ≡ true → y ≡ true) → (y ≡ true → x ≡ true) → x ≡ y
same_truth true y f g = sym (f refl)
same_truth false true f g = g refl
same_truth false false f g = refl

-- names are compared either way round
either_way : (a b : Name) → bytes_eq a b ≡ bytes_eq b a
either_way a b =
    same_truth (bytes_eq a b) (bytes_eq b a)
    (λ e. (bytes_eq-Decides b a).1 (sym ((bytes_eq-Decides a b).0 e)))
    (λ e. (bytes_eq-Decides a b).1 (sym ((bytes_eq-Decides b a).0 e)))

-- the last entry stands behind the others
at-last : (place : ℕ) (es : List Entry) (e : Entry) → place ≡ length es → StandsAt (Some place) (Some e) (es ++ e ∷ [])
at-last place es e is =
    let longer = length-append es (e ∷ []) in
    let within : place < length (es ++ e ∷ []) = omega (arith, is, longer) in
    (within, sym (slice_get-get_or (es ++ e ∷ []) place e within ∙ ap (λ p. Some (get_or (es ++ e ∷ []) p e)) is ∙ ap Some (get_or-append_seam es e [] e)))

-- the others stand where they stood
at-earlier : (o : Option ℕ) (found : Option Entry) (es : List Entry) (e : Entry) → StandsAt o found es → StandsAt o found (es ++ e ∷ [])
at-earlier None found es e is = is
at-earlier (Some place) found es e at =
    let longer = length-append es (e ∷ []) in
    let within : place < length (es ++ e ∷ []) = omega (arith, at.0, longer) in
    (within, at.1 ∙ slice_get-get_or es place e at.0 ∙ ap Some (sym (get_or_append_left es (e ∷ []) e place at.0)) ∙ sym (slice_get-get_or (es ++ e ∷ []) place e within))

at-either : (b : Bool) (place : ℕ) (o : Option ℕ) (found : Option Entry) (es : List Entry) (e : Entry) → place ≡ length es → StandsAt o found es
    → StandsAt (cond b (Some place) o) (if b then Some e else found) (es ++ e ∷ [])
at-either true place o found es e is at = at-last place es e is
at-either false place o found es e is at = at-earlier o found es e at

-- places of the last entries, once there is one entry more and its place is put under its name
pub latest-pushed : (old new : Name → Option ℕ) (key : Name) (place : ℕ) (es all : List Entry) (e : Entry) → key ≡ e.name → place ≡ length es → all ≡ es ++ e ∷ []
    → ((q : Name) → new q ≡ cond (bytes_eq key q) (Some place) (old q)) → AreLatest old es → AreLatest new all
latest-pushed old new key place es all e named is grown sets at n =
    let put = sets n ∙ ap (λ k. cond (bytes_eq k n) (Some place) (old n)) named in
    let last = latest-snoc n None es e ∙ ap (λ b. if b then Some e else latest n None es) (either_way n e.name) in
    let here = at-either (bytes_eq e.name n) place (old n) (latest n None es) es e is (at n) in
    subst (λ xs. StandsAt (new n) (latest n None xs) xs) (sym grown)
    (subst (λ o. StandsAt o (latest n None (es ++ e ∷ [])) (es ++ e ∷ [])) (sym put)
    (subst (λ f. StandsAt (cond (bytes_eq e.name n) (Some place) (old n)) f (es ++ e ∷ [])) (sym last) here))
