-- An expression in which no rule counts has a whole tree: by induction on the expression.

use Rattle.std.proofs.Common.{◌≡◌, ℕ, ◌+◌, Bool, true, false, not, is_some, ◌&&◌, List, [], ◌∷◌, map, Option, Some, None, option_map, refl, sym, ◌∙◌, subst}
use Rattle.mos_text.specs.declared.kind.Kind.{Kind}
use Rattle.mos_text.specs.declared.kind.Kind.TheVariants.{Return, NoType}
use Rattle.mos_tree.specs.Children.{in_group, in_index}
use Rattle.mos_tree.specs.declared.expr.AggregateOperator.{AggregateOperator}
use Rattle.mos_tree.specs.declared.expr.Group.{Group}
use Rattle.mos_tree.specs.declared.expr.Index.{Index}
use Rattle.mos_tree.specs.declared.expr.Expr.{Expr}
use Rattle.mos_tree.specs.declared.expr.Expr.TheOpen.{Expr-F, Integer, Text, Truth, Name as JustName, Returned, Call, Field, CallField, Set, List as ListOf, If, Convert, Unary, Binary, Aggregate, Count}
use Rattle.mos_tree.specs.declared.expr.Expr.TheFolds.{map-Expr, fold-roll-Expr, ind-Expr}
use Rattle.mos_tree.specs.declared.expr.Expr.TheViews.{roll-Expr}
use Rattle.mos_names.specs.NameLists.{with_name}
use Rattle.mos_sorts.specs.declared.sort.Sort.{Sort}
use Rattle.mos_sorts.specs.declared.sort.Sort.TheVariants.{Boolean}
use Rattle.mos_sorts.specs.declared.scope.Scope.{Scope}
use Rattle.mos_sorts.specs.declared.scope.Bound.{Bound}
use Rattle.mos_sorts.specs.Kinds.{least, breaks}
use Rattle.mos_sorts.specs.Sorts.{may_fit}
use Rattle.mos_sorts.specs.Trees.{sort_of}
use Rattle.mos_sorts.specs.Scopes.{meaning_of, declared_twice, twice_if, all_twice}
use Rattle.mos_sorts.specs.Vocabulary.{conversion}
use Rattle.mos_rules.specs.declared.side.Side.{Side}
use Rattle.mos_rules.specs.declared.side.Side.TheVariants.{Value}
use Rattle.mos_rules.specs.Results.{in_row, Look}
use Rattle.mos_rules.specs.Rows.{Expects, Plain, each, taken_at}
use Rattle.mos_rules.specs.Names.{wrong_name, bare, applied}
use Rattle.mos_rules.specs.Indexes.{index_sort, set_seen, bound_behind, groups_seen, test_tree, test_worst, index_seen}
use Rattle.mos_types.specs.Looks.{returned, named, in_brackets, with_brackets, row_of, look_step, look}
use Rattle.mos_types.specs.Whole.{whole, groups_whole, test_whole, index_whole, TypedTreesAreWhole, TypedRowsAreWhole, TypedIndexesAreWhole}
use Rattle.mos_types.proofs.Nodes.{wholes, whole-Integer, whole-Text, whole-Truth, whole-Returned, whole-Count}
use Rattle.mos_types.proofs.Noted.{never_none, none_before}
use Rattle.mos_types.proofs.Kept.{Kept, Keeps, KeepsRow, noted, taken, library-keeps, bare-keeps, applied-keeps, with_field-keeps, set-keeps, list-keeps, unary-keeps, binary-keeps, chosen-keeps, aggregate-keeps}

-- what is seen by this keeps trees whole
abbrev pub GoodLook : Look → Type 0
GoodLook f = (scope : Scope) (bound : List Bound) (w : Option Kind) → Keeps w (f scope bound w)

abbrev pub Good : Expr → Type 0
Good e = GoodLook (look e)

abbrev WithGood : Type 0
WithGood = (e : Expr) × Good e

-- ---- rows

abbrev pub AllGood : List Look → Type 0
AllGood [] = Unit {0}
AllGood (x ∷ xs) = GoodLook x × AllGood xs

abbrev looks : List WithGood → List Look
looks all = map look (map (λ e. e.0) all)

goods : (all : List WithGood) → AllGood (looks all)
goods [] = tt
goods (e ∷ es) = (e.1, goods es)

both : (a b : Bool) → a ≡ true → b ≡ true → (a && b) ≡ true
both a b h k = rw (h) k

pub each-keeps : (expected : Expects) (at : ℕ) (xs : List Look) → AllGood xs → (scope : Scope) (bound : List Bound) (w : Option Kind)
    → KeepsRow w (each expected at xs scope bound w)
each-keeps expected at [] good scope bound w h = (h, refl)
each-keeps expected at (x ∷ xs) good scope bound w h =
    let one = taken_at expected at (x scope bound w) in
    let later = each-keeps expected (at + 1) xs good.1 scope bound one.worst h in
    let first = taken w expected at (x scope bound w) (good.0 scope bound w) later.0 in
    (first.0, both (whole one.tree) (wholes (each expected (at + 1) xs scope bound one.worst).trees) first.1 later.1)

-- ---- names

pub returned-keeps : (sort : Option Sort) (w : Option Kind) → Keeps w (returned sort w)
returned-keeps (Some sort) w h = (h, whole-Returned sort)
returned-keeps None w h = absurd (never_none w Return h)

pub named-keeps : (on : Side) (n : List ℕ) (field : Option (List ℕ)) (scope : Scope) (bound : List Bound) (w : Option Kind)
    → Keeps w (named on n field scope bound w)
named-keeps on n field scope bound w =
    let meaning = meaning_of n scope bound in
    let ks = wrong_name on false n scope.jobs meaning in
    let seen = bare on scope.jobs meaning n (least w ks) in
    with_field-keeps w scope.records field seen (noted w ks seen (bare-keeps on scope.jobs meaning n (least w ks)))

pub with_brackets-keeps : (on : Side) (n : List ℕ) (all : List Look) → AllGood all → (field : Option (List ℕ)) (scope : Scope) (bound : List Bound) (w : Option Kind)
    → Keeps w (with_brackets on n all field scope bound w)
with_brackets-keeps on n all good field scope bound w =
    let meaning = meaning_of n scope bound in
    let ks = wrong_name on true n scope.jobs meaning in
    let r = in_brackets on n all scope bound w in
    with_field-keeps w scope.records field (applied on scope meaning n r)
    (applied-keeps w on scope meaning n r
    (λ h. let k = each-keeps _ 0 all good scope bound (least w ks) h in (none_before w ks k.0, k.1)))

-- ---- indexes

abbrev GroupsGood : List (Group Look) → Type 0
GroupsGood [] = Unit {0}
GroupsGood (g ∷ gs) = GoodLook g.set × GroupsGood gs

groups_good : (gs : List (Group WithGood)) → GroupsGood (map (in_group look) (map (in_group (λ e. e.0)) gs))
groups_good [] = tt
groups_good (g ∷ gs) = (g.set.1, groups_good gs)

abbrev TestGood : Option Look → Type 0
TestGood None = Unit {0}
TestGood (Some f) = GoodLook f

test_good : (test : Option WithGood) → TestGood (option_map look (option_map (λ e. e.0) test))
test_good None = tt
test_good (Some e) = e.1

twice-before : (b : Bool) (n : List ℕ) (w : Option Kind) → twice_if b n w ≡ None → w ≡ None
twice-before true n w h = absurd (never_none w _ h)
twice-before false n w h = h

names-before : (scope : Scope) (bound : List Bound) (before ns : List (List ℕ)) (w : Option Kind)
    → declared_twice scope bound before ns w ≡ None → w ≡ None
names-before scope bound before [] w h = h
names-before scope bound before (n ∷ ns) w h = twice-before _ n w (names-before scope bound (with_name before n) ns _ h)

set-keeps_whole : (g : Group Look) → GoodLook g.set → (scope : Scope) (bound : List Bound) (w : Option Kind) → Keeps w (set_seen g scope bound w)
set-keeps_whole g good scope bound w h =
    let before = all_twice scope bound g.names w in
    let seen = g.set scope bound before in
    let k = good scope bound before (none_before seen.worst (breaks (not (is_some (index_sort (sort_of seen.tree)))) NoType) h) in
    (names-before scope bound [] g.names w k.0, k.1)

groups-keep : (gs : List (Group Look)) → GroupsGood gs → (scope : Scope) (bound : List Bound) (w : Option Kind)
    → (groups_seen gs scope bound w).worst ≡ None → Kept w (groups_whole (map (in_group whole) (groups_seen gs scope bound w).groups))
groups-keep [] good scope bound w h = (h, refl)
groups-keep (g ∷ gs) good scope bound w h =
    let set = set_seen g scope bound w in
    let later = groups-keep gs good.1 scope (bound_behind g.names set.tree bound) set.worst h in
    let first = set-keeps_whole g good.0 scope bound w later.0 in
    (first.0, both (whole set.tree) (groups_whole (map (in_group whole) (groups_seen gs scope (bound_behind g.names set.tree bound) set.worst).groups)) first.1 later.1)

test-keeps : (test : Option Look) → TestGood test → (scope : Scope) (bound : List Bound) (w : Option Kind)
    → test_worst test scope bound w ≡ None → Kept w (test_whole (option_map whole (test_tree test scope bound w)))
test-keeps None good scope bound w h = (h, refl)
test-keeps (Some f) good scope bound w h =
    good scope bound w (none_before (f scope bound w).worst (breaks (not (may_fit Boolean (sort_of (f scope bound w).tree))) NoType) h)

index-keeps : (index : Index Look) → GroupsGood index.groups → TestGood index.condition → (scope : Scope) (bound : List Bound) (w : Option Kind)
    → (index_seen index scope bound w).worst ≡ None → Kept w (index_whole (in_index whole (index_seen index scope bound w).index))
index-keeps index groups test scope bound w h =
    let seen = groups_seen index.groups scope bound w in
    let later = test-keeps index.condition test scope seen.bound seen.worst h in
    let first = groups-keep index.groups groups scope bound w later.0 in
    (first.0, both (groups_whole (map (in_group whole) seen.groups)) (test_whole (option_map whole (test_tree index.condition scope seen.bound seen.worst))) first.1 later.1)

-- ---- expressions

abbrev Layer : Expr-F Expr → Type 0
Layer z = GoodLook (look_step (map-Expr Expr Look look z))

of-layer : (z : Expr-F Expr) → Layer z → Good (roll-Expr z)
of-layer z h = subst GoodLook (sym (fold-roll-Expr Look look_step z)) h

abbrev over : Index WithGood → Index Look
over index = in_index look (in_index (λ (e : WithGood). e.0) index)

aggregate-layer : (op : AggregateOperator) (index : Index Look) (body : Look) → GroupsGood index.groups → TestGood index.condition → GoodLook body
    → GoodLook (look_step (Aggregate op index body))
aggregate-layer op index body groups test good scope bound w h =
    let seen = index_seen index scope bound w in
    aggregate-keeps w op seen.index (body scope seen.bound seen.worst)
    (λ g.
    let k = good scope seen.bound seen.worst g in
    (index-keeps index groups test scope bound w k.0, k.1))
    h

aggregate-by : (op : AggregateOperator) (groups : List (Group WithGood)) (test : Option WithGood) (body : WithGood)
    → Layer (map-Expr WithGood Expr (λ e. e.0) (Aggregate op (record { groups = groups; condition = test }) body))
aggregate-by op groups None body =
    aggregate-layer op (over (record { groups = groups; condition = None })) (look body.0) (groups_good groups) (test_good None) body.1
aggregate-by op groups (Some test) body =
    aggregate-layer op (over (record { groups = groups; condition = Some test })) (look body.0) (groups_good groups) (test_good (Some test)) body.1

count-layer : (index : Index Look) → GroupsGood index.groups → TestGood index.condition → GoodLook (look_step (Count index))
count-layer index groups test scope bound w h =
    let k = index-keeps index groups test scope bound w h in
    (k.0, whole-Count (index_seen index scope bound w).index ∙ k.1)

count-by : (groups : List (Group WithGood)) (test : Option WithGood)
    → Layer (map-Expr WithGood Expr (λ e. e.0) (Count (record { groups = groups; condition = test })))
count-by groups None = count-layer (over (record { groups = groups; condition = None })) (groups_good groups) (test_good None)
count-by groups (Some test) = count-layer (over (record { groups = groups; condition = Some test })) (groups_good groups) (test_good (Some test))

layer : (y : Expr-F WithGood) → Layer (map-Expr WithGood Expr (λ e. e.0) y)
layer (Integer n) scope bound w h = (h, whole-Integer n)
layer (Text text) scope bound w h = (h, whole-Text text)
layer (Truth b) scope bound w h = (h, whole-Truth b)
layer (JustName n) scope bound w h = named-keeps Value n None scope bound w h
layer Returned scope bound w h = returned-keeps scope.result w h
layer (Call n all) scope bound w h = with_brackets-keeps Value n (looks all) (goods all) None scope bound w h
layer (Field n field) scope bound w h = named-keeps Value n (Some field) scope bound w h
layer (CallField n all field) scope bound w h = with_brackets-keeps Value n (looks all) (goods all) (Some field) scope bound w h
layer (Set all) scope bound w h =
    set-keeps w (row_of (looks all) scope bound w) (each-keeps Plain 0 (looks all) (goods all) scope bound w) h
layer (ListOf all) scope bound w h =
    list-keeps w (row_of (looks all) scope bound w) (each-keeps Plain 0 (looks all) (goods all) scope bound w) h
layer (If c a b) scope bound w h =
    let x = look c.0 scope bound w in
    let y = look a.0 scope bound x.worst in
    chosen-keeps w x y (look b.0 scope bound y.worst) (c.1 scope bound w) (a.1 scope bound x.worst) (b.1 scope bound y.worst) h
layer (Convert to a) scope bound w h =
    let x = look a.0 scope bound w in
    library-keeps w (conversion to) (in_row (x.tree ∷ []) x.worst)
    (λ g. let k = a.1 scope bound w g in (k.0, both (whole x.tree) true k.1 refl)) h
layer (Unary operator a) scope bound w h = unary-keeps w operator (look a.0 scope bound w) (a.1 scope bound w) h
layer (Binary operator a b) scope bound w h =
    let x = look a.0 scope bound w in
    binary-keeps w operator x (look b.0 scope bound x.worst) (a.1 scope bound w) (b.1 scope bound x.worst) h
layer (Aggregate op index body) scope bound w h = aggregate-by op index.groups index.condition body scope bound w h
layer (Count index) scope bound w h = count-by index.groups index.condition scope bound w h

pub good : (e : Expr) → Good e
good = ind-Expr Good (λ x y is. subst (λ z. Good (roll-Expr z)) is (of-layer (map-Expr WithGood Expr (λ e. e.0) y) (layer y)))

pub whole_trees : TypedTreesAreWhole
whole_trees e scope bound worst h = (good e scope bound worst h).1

-- ---- rows and indexes

pub all_good : (all : List Expr) → AllGood (map look all)
all_good [] = tt
all_good (e ∷ es) = (good e, all_good es)

pub whole_rows : TypedRowsAreWhole
whole_rows expected all scope bound worst h = (each-keeps expected 0 (map look all) (all_good all) scope bound worst h).1

groups_all_good : (gs : List (Group Expr)) → GroupsGood (map (in_group look) gs)
groups_all_good [] = tt
groups_all_good (g ∷ gs) = (good g.set, groups_all_good gs)

test_all_good : (test : Option Expr) → TestGood (option_map look test)
test_all_good None = tt
test_all_good (Some e) = good e

pub whole_indexes : TypedIndexesAreWhole
whole_indexes index scope bound worst h =
    (index-keeps (in_index look index) (groups_all_good index.groups) (test_all_good index.condition) scope bound worst h).1
