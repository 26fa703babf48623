-- the laws of sets
use Rattle.std.proofs.Common.{◌≡◌, Bool, true, false, List, [], ◌∷◌, ◌++◌, filter, refl, ap, sym, ◌∙◌, cond, if◌then◌else◌, append_assoc, true≢false}
use Rattle.std.specs.Prelude.{◌&&◌, ◌||◌, not, IsTrue}
use Rattle.std.specs.List.{list_all}
use Rattle.std.proofs.lemmas.List.{append-nil}
use Rattle.std.proofs.Math.Bool.{or_assoc}
use Rattle.std.proofs.lemmas.List.Folds.{list_any-append}
use Rattle.std.proofs.lemmas.Map.Views.{any-filter_same}
use Rattle.mos_text.specs.declared.scalar.Scalar.{Scalar}
use Rattle.mos_value.specs.Same.{is_same}
use Rattle.mos_value.specs.Sets.{has_member, IsSet, with_member, union, minus, same_members}
use Rattle.mos_value.specs.Laws.{SameIsEqual, UnionHasJustBoth, UnionHasEachOnce, UnionKeepsOrder, InterHasJustCommon, InterHasEachOnce, MinusHasJustRest, MinusHasEachOnce, SetHasEachOnce, SetHasJustItems, SetStays, SameByMembers}
use Rattle.mos_value.proofs.SameScalars.{same_is, same_itself}

or_false : (a : Bool) → a ≡ (a || false)
or_false true = refl
or_false false = refl

and_turned : (a b : Bool) → (a && b) ≡ (b && a)
and_turned true true = refl
and_turned true false = refl
and_turned false true = refl
and_turned false false = refl

neither : (a b : Bool) → (a || b) ≡ false → (a ≡ false) × (b ≡ false)
neither true b h = cc
neither false b h = (refl, h)

both : (a b : Bool) → (a && b) ≡ true → (a ≡ true) × (b ≡ true)
both true b h = (refl, h)
both false b h = cc

pub as_each_other : (a b : Bool) → (a ≡ true → b ≡ true) → (b ≡ true → a ≡ true) → a ≡ b
as_each_other true b f g = sym (f refl)
as_each_other false true f g = g refl
as_each_other false false f g = refl

not_turned : (x y : Scalar) → is_same y x ≡ false → is_same x y ≡ false
not_turned x y h = by (is_same x y) refl
  where
    by : (b : Bool) → is_same x y ≡ b → b ≡ false
    by true e = sym (ap (λ z. is_same z x) (sym (same_is x y e)) ∙ same_itself x) ∙ h
    by false e = refl

-- one more at the end
has-push : (x y : Scalar) (members : List Scalar) → has_member x (members ++ y ∷ []) ≡ (has_member x members || is_same x y)
has-push x y members = list_any-append (is_same x) members (y ∷ []) ∙ ap (λ b. has_member x members || b) (sym (or_false (is_same x y)))

-- what is the same is a member of the same
has-same : (x y : Scalar) (members : List Scalar) → is_same x y ≡ true → has_member x members ≡ has_member y members
has-same x y members e = ap (λ z. has_member z members) (same_is x y e)

has-with_member : (x y : Scalar) (members : List Scalar) → has_member x (with_member members y) ≡ (has_member x members || is_same x y)
has-with_member x y members = by (has_member y members) refl (is_same x y) refl
  where
    by : (there : Bool) → has_member y members ≡ there → (same : Bool) → is_same x y ≡ same
        → has_member x (if there then members else members ++ y ∷ []) ≡ (has_member x members || is_same x y)
    by true is true e =
        let there : has_member x members ≡ true = has-same x y members e ∙ is in
        there ∙ sym (ap (λ b. b || is_same x y) there)
    by true is false e = or_false (has_member x members) ∙ ap (λ b. has_member x members || b) (sym e)
    by false is same e = has-push x y members

pub union_has_just_both : UnionHasJustBoth
union_has_just_both left [] x = or_false (has_member x left)
union_has_just_both left (y ∷ right) x =
    union_has_just_both (with_member left y) right x
    ∙ ap (λ b. b || has_member x right) (has-with_member x y left)
    ∙ or_assoc (has_member x left) (is_same x y) (has_member x right)

pub IsSet-push : (members : List Scalar) (y : Scalar) → IsSet members → has_member y members ≡ false → IsSet (members ++ y ∷ [])
IsSet-push [] y once new = (refl, tt)
IsSet-push (x ∷ members) y once new =
    let apart = neither (is_same y x) (has_member y members) new in
    (has-push x y members ∙ ap (λ b. b || is_same x y) once.0 ∙ not_turned x y apart.0, IsSet-push members y once.1 apart.1)

IsSet-with_member : (members : List Scalar) (y : Scalar) → IsSet members → IsSet (with_member members y)
IsSet-with_member members y once = by (has_member y members) refl
  where
    by : (there : Bool) → has_member y members ≡ there → IsSet (if there then members else members ++ y ∷ [])
    by true is = once
    by false is = IsSet-push members y once is

pub union_has_each_once : UnionHasEachOnce
union_has_each_once left [] once = once
union_has_each_once left (y ∷ right) once = union_has_each_once (with_member left y) right (IsSet-with_member left y once)

-- what a filter keeps
has-filter : (p : Scalar → Bool) (x : Scalar) (members : List Scalar) → has_member x (filter p members) ≡ (has_member x members && p x)
has-filter p x members =
    any-filter_same (is_same x) p (p x) (λ y e. ap p (sym (same_is x y e))) members
    ∙ and_turned (p x) (has_member x members)

pub IsSet-filter : (p : Scalar → Bool) (members : List Scalar) → IsSet members → IsSet (filter p members)
IsSet-filter p [] once = once
IsSet-filter p (x ∷ members) once = by (p x) (IsSet-filter p members once.1)
  where
    by : (kept : Bool) → IsSet (filter p members) → IsSet (cond kept (x ∷ filter p members) (filter p members))
    by true rest = (has-filter p x members ∙ ap (λ b. b && p x) once.0, rest)
    by false rest = rest

pub inter_has_just_common : InterHasJustCommon
inter_has_just_common left right x = has-filter (λ y. has_member y right) x left

pub inter_has_each_once : InterHasEachOnce
inter_has_each_once left right once = IsSet-filter (λ y. has_member y right) left once

pub minus_has_just_rest : MinusHasJustRest
minus_has_just_rest left right x = has-filter (λ y. not (has_member y right)) x left

pub minus_has_each_once : MinusHasEachOnce
minus_has_each_once left right once = IsSet-filter (λ y. not (has_member y right)) left once

-- one member more on the right takes nothing from those that are none of it
minus-apart : (left right : List Scalar) (y : Scalar) → has_member y left ≡ false → minus left (right ++ y ∷ []) ≡ minus left right
minus-apart [] right y apart = refl
minus-apart (x ∷ left) right y apart =
    let parts = neither (is_same y x) (has_member y left) apart in
    let same : has_member x (right ++ y ∷ []) ≡ has_member x right =
    has-push x y right ∙ ap (λ b. has_member x right || b) (not_turned x y parts.0) ∙ sym (or_false (has_member x right)) in
    (λ i. cond (not (same i)) (x ∷ minus-apart left right y parts.1 i) (minus-apart left right y parts.1 i))

pub union_keeps_order : UnionKeepsOrder
union_keeps_order left [] once = sym (append-nil left)
union_keeps_order left (y ∷ right) once =
    by (has_member y left) (union_keeps_order left right once.1) (union_keeps_order (left ++ y ∷ []) right once.1)
  where
    by : (there : Bool)
        → union left right ≡ left ++ minus right left
        → union (left ++ y ∷ []) right ≡ (left ++ y ∷ []) ++ minus right (left ++ y ∷ [])
        → union (if there then left else left ++ y ∷ []) right ≡ left ++ cond (not there) (y ∷ minus right left) (minus right left)
    by true known new = known
    by false known new =
        new
        ∙ ap (λ rest. (left ++ y ∷ []) ++ rest) (minus-apart right left y once.0)
        ∙ append_assoc left (y ∷ []) (minus right left)

pub set_has_each_once : SetHasEachOnce
set_has_each_once items = union_has_each_once [] items tt

pub set_has_just_items : SetHasJustItems
set_has_just_items items x = union_has_just_both [] items x

minus-nothing : (members : List Scalar) → minus members [] ≡ members
minus-nothing [] = refl
minus-nothing (x ∷ members) = ap (λ rest. x ∷ rest) (minus-nothing members)

pub set_stays : SetStays
set_stays members once = union_keeps_order [] members once ∙ minus-nothing members

pub same_is_equal : SameIsEqual
same_is_equal x y = (λ h. same_is x y (h), λ e. ap (λ z. is_same x z) (sym e) ∙ same_itself x)

-- whoever is in the left one, all of which are in the right one, is in that too
in_both : (left right : List Scalar) (x : Scalar) → list_all (λ y. has_member y right) left ≡ true → has_member x left ≡ true → has_member x right ≡ true
in_both [] right x all there = absurd (true≢false (sym there))
in_both (y ∷ left) right x all there =
    by (is_same x y) refl (λ e. in_both left right x split.1 (ap (λ b. b || has_member x left) (sym e) ∙ there))
  where
    split : (has_member y right ≡ true) × (list_all (λ z. has_member z right) left ≡ true)
    split = both (has_member y right) (list_all (λ z. has_member z right) left) all

    by : (same : Bool) → is_same x y ≡ same → (is_same x y ≡ false → has_member x right ≡ true) → has_member x right ≡ true
    by true e rest = has-same x y right e ∙ split.0
    by false e rest = rest e

-- and where whoever is in the left one is in the right one, all of it are
all_in : (right left : List Scalar) → ((x : Scalar) → has_member x left ≡ true → has_member x right ≡ true) → list_all (λ y. has_member y right) left ≡ true
all_in right [] h = refl
all_in right (y ∷ left) h =
    let here : has_member y right ≡ true = h y (ap (λ b. b || has_member y left) (same_itself y)) in
    ap (λ b. b && list_all (λ z. has_member z right) left) here
    ∙ all_in right left (λ x there. h x (ap (λ b. is_same x y || b) there ∙ or_true (is_same x y)))
  where
    or_true : (b : Bool) → (b || true) ≡ true
    or_true true = refl
    or_true false = refl

pub same_by_members : SameByMembers
same_by_members left right = (to, from)
  where
    to : IsTrue (same_members left right) → (x : Scalar) → has_member x left ≡ has_member x right
    to h x =
        let parts = both (list_all (λ y. has_member y right) left) (list_all (λ y. has_member y left) right) h in
        as_each_other (has_member x left) (has_member x right) (in_both left right x parts.0) (in_both right left x parts.1)

    from : ((x : Scalar) → has_member x left ≡ has_member x right) → IsTrue (same_members left right)
    from h =
        ap (λ b. b && list_all (λ y. has_member y left) right) (all_in right left (λ x there. sym (h x) ∙ there))
        ∙ all_in left right (λ x there. h x ∙ there)
