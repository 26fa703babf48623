-- what an index says of its items, and of those after one more went behind them
use Rattle.std.proofs.Common.{◌≡◌, ℤ, pos, ◌+ℤ◌, Bool, true, false, ◌||◌, List, [], ◌∷◌, ◌++◌, map, filter, cond, refl, ap, sym, subst, ◌∙◌, arith, if◌then◌else◌}
use Rattle.std.specs.Prelude.{◌≤ℤ◌, ◌↔◌, IsTrue, String, string_bytes}
use Rattle.std.specs.List.{list_any, AllZip}
use Rattle.std.proofs.lemmas.Int.{ints}
use Rattle.std.proofs.lemmas.List.{map-append}
use Rattle.indexmap.specs.IndexSet.{insert_key}
use Rattle.mos_text.specs.declared.scalar.Scalar.{Scalar}
use Rattle.mos_text.specs.declared.scalar.Scalar.TheVariants.{Int, Str}
use Rattle.mos_value.specs.Same.{is_same}
use Rattle.mos_value.specs.Sets.{IsSet, has_member, with_member}
use Rattle.mos_value.specs.Ranges.{range_count, range_members}
use Rattle.mos_value.specs.Indexes.{GrowsBy, texts}
use Rattle.mos_value.proofs.SetLaws.{as_each_other, IsSet-push}
use Rattle.mos_value.proofs.RangeLemmas.{range_members-one, range_members-last}
use Rattle.mos_value.proofs.RangeLaws.{IsSet-integers_from, range_has_just_between}

-- keys of some kind, and the scalar that each stands for
module _ {K : Type 0} (said : K → Scalar) where
  -- a scalar is among the items where a key stands for it
  pub has_member-map : (x : Scalar) (keys : List K) → list_any (λ k. is_same x (said k)) keys ≡ has_member x (map said keys)
  has_member-map x [] = refl
  has_member-map x (k ∷ keys) = ap (λ b. is_same x (said k) || b) (has_member-map x keys)

  -- a key is added where what it stands for is
  pub with_member-map : (keys : List K) (k : K) → map said (insert_key (λ a b. is_same (said a) (said b)) keys k) ≡ with_member (map said keys) (said k)
  with_member-map keys k =
      by (list_any (λ b. is_same (said k) (said b)) keys)
      ∙ ap (λ b. if b then map said keys else map said keys ++ said k ∷ []) (has_member-map (said k) keys)
    where
      by : (known : Bool) → map said (if known then keys else keys ++ k ∷ []) ≡ (if known then map said keys else map said keys ++ said k ∷ [])
      by true = refl
      by false = map-append said keys (k ∷ [])

-- what is kept of the items is what is kept of the keys
pub filter-map : {K : Type 0} (said : K → Scalar) (p : Scalar → Bool) (keys : List K) → map said (filter (λ k. p (said k)) keys) ≡ filter p (map said keys)
filter-map said p [] = refl
filter-map said p (k ∷ keys) = by (p (said k)) (filter-map said p keys)
  where
    by : (is : Bool) → map said (filter (λ y. p (said y)) keys) ≡ filter p (map said keys)
        → map said (cond is (k ∷ filter (λ y. p (said y)) keys) (filter (λ y. p (said y)) keys)) ≡ cond is (said k ∷ filter p (map said keys)) (filter p (map said keys))
    by true same = ap (λ rest. said k ∷ rest) same
    by false same = same

-- what is added to a set that lacks it stands behind
pub grows-with : (before made after : List Scalar) (x : Scalar) → made ≡ with_member before x → GrowsBy before x after → made ≡ after
grows-with before made after x is grows = is ∙ (ap (λ b. if b then before else before ++ x ∷ []) grows.0 ∙ sym grows.1)

-- and the set stays one
pub set-grows : (before after : List Scalar) (x : Scalar) → IsSet before → GrowsBy before x after → IsSet after
set-grows before after x once grows = subst IsSet (sym grows.1) (IsSet-push before x once grows.0)

-- a run is a set
pub run-once : (first last : ℤ) → IsSet (range_members first last)
run-once first last = IsSet-integers_from first (range_count first last)

-- nothing and one integer are a run
pub run-begins : (n : ℤ) (items after : List Scalar) → items ≡ [] → GrowsBy items (Int n) after → (n ≤ℤ n) × (range_members n n ≡ after)
run-begins n items after none grows =
    (omega (arith, ints), range_members-one n ∙ sym (grows.1 ∙ ap (λ before. before ++ Int n ∷ []) none))

-- a run and the integer behind its last one are a run
pub run-grows : (first last n : ℤ) (after : List Scalar) → first ≤ℤ last → n ≡ last +ℤ pos 1
    → GrowsBy (range_members first last) (Int n) after → (first ≤ℤ n) × (range_members first n ≡ after)
run-grows first last n after some is grows =
    (omega (arith, ints, some, is), range_members-last first last n some is ∙ sym grows.1)

-- an integer is in a run where it is neither below the first nor above the last
pub run-tells : (first last x : ℤ) (items : List Scalar) (told : Bool) → (IsTrue told ↔ (first ≤ℤ x) × (x ≤ℤ last))
    → range_members first last ≡ items → told ≡ has_member (Int x) items
run-tells first last x items told between same =
    let law = range_has_just_between first last x in
    as_each_other told (has_member (Int x) (range_members first last)) (λ is. law.1 (between.0 is)) (λ is. between.1 (law.0 is))
    ∙ ap (has_member (Int x)) same

-- copies of texts are the same texts
pub texts-same : {Z : Type 0} (ours theirs : List (String Z)) → AllZip (λ a b. string_bytes b ≡ string_bytes a) ours theirs → texts theirs ≡ texts ours
texts-same [] [] same = refl
texts-same [] (b ∷ theirs) same = absurd same
texts-same (a ∷ ours) [] same = absurd same
texts-same (a ∷ ours) (b ∷ theirs) same = (λ i. Str (same.0 i) ∷ texts-same ours theirs same.1 i)
