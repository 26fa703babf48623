-- what is found among the keys that stand for names is found among the names
use Rattle.std.proofs.Common.{◌≡◌, ℕ, ◌+◌, Bool, true, false, not, cond, ◌||◌, List, [], ◌∷◌, ◌++◌, map, length, None, Some, refl, ap, sym, ◌∙◌, if◌then◌else◌, arith}
use Rattle.std.specs.Prelude.{position, nat_lt, unwrap_or}
use Rattle.std.specs.List.{list_any, position_or_len}
use Rattle.std.specs.Str.{bytes_eq}
use Rattle.std.proofs.lemmas.List.{map-append}
use Rattle.std.proofs.lemmas.List.Recursion.{is_position_or_len}
use Rattle.std.proofs.lemmas.List.Sums.{prefix_len-le-length}
use Rattle.mos_names.specs.NameLists.{has_name, with_name}
use Rattle.mos_names.specs.NameLists.{place_of}
use Rattle.indexmap.specs.IndexSet.{insert_key}

module _ {X : Type 0} (p : X → Bool) (xs : List X) where
  -- a place that was found is the first that passes
  first-from_Some : (place : ℕ) → Some place ≡ position p xs → place ≡ position_or_len p xs
  first-from_Some place = by (nat_lt (position_or_len p xs) (length xs))
    where
      by : (within : Bool) → Some place ≡ cond within (Some (position_or_len p xs)) None → place ≡ position_or_len p xs
      by true found = ap (λ o. unwrap_or o 0) found
      by false found = cc

  -- and where there is none, the first would be behind the last
  first-from_None : None ≡ position p xs → length xs ≡ position_or_len p xs
  first-from_None none = grind (arith, prefix_len-le-length (λ x. not (p x)) xs)

-- keys of some kind, and the name that each stands for
module _ {K : Type 0} (said : K → List ℕ) where
  -- a name is found where its key is
  pub has_name-map : (n : List ℕ) (keys : List K) → list_any (λ k. bytes_eq n (said k)) keys ≡ has_name n (map said keys)
  has_name-map n [] = refl
  has_name-map n (k ∷ keys) = ap (λ b. bytes_eq n (said k) || b) (has_name-map n keys)

  -- a key is added where its name is
  pub with_name-map : (keys : List K) (k : K) → map said (insert_key (λ a b. bytes_eq (said a) (said b)) keys k) ≡ with_name (map said keys) (said k)
  with_name-map keys k =
      by (list_any (λ b. bytes_eq (said k) (said b)) keys) ∙ ap (λ b. if b then map said keys else map said keys ++ said k ∷ []) (has_name-map (said k) keys)
    where
      by : (known : Bool) → map said (if known then keys else keys ++ k ∷ []) ≡ (if known then map said keys else map said keys ++ said k ∷ [])
      by true = refl
      by false = map-append said keys (k ∷ [])

  -- the place of a name is that of its key
  place_of-map : (n : List ℕ) (keys : List K) → place_of n (map said keys) ≡ position_or_len (λ k. bytes_eq n (said k)) keys
  place_of-map n = is_position_or_len (λ keys. place_of n (map said keys)) (λ k. bytes_eq n (said k)) refl step
    where
      step : (k : K) (keys : List K) → place_of n (map said (k ∷ keys)) ≡ cond (bytes_eq n (said k)) 0 (1 + place_of n (map said keys))
      step k keys = let e : place_of n (map said keys) + 1 ≡ 1 + place_of n (map said keys) = omega arith in ap (cond (bytes_eq n (said k)) 0) e

  -- a name that was found has the place of its key
  pub place-from_Some : (n : List ℕ) (keys : List K) (place : ℕ) → Some place ≡ position (λ k. bytes_eq n (said k)) keys → place ≡ place_of n (map said keys)
  place-from_Some n keys place found = first-from_Some (λ k. bytes_eq n (said k)) keys place found ∙ sym (place_of-map n keys)

  -- and one that was not has the place behind the last
  pub place-from_None : (n : List ℕ) (keys : List K) → None ≡ position (λ k. bytes_eq n (said k)) keys → length keys ≡ place_of n (map said keys)
  place-from_None n keys none = first-from_None (λ k. bytes_eq n (said k)) keys none ∙ sym (place_of-map n keys)
