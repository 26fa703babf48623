-- The rules on parameters: as tests, and as facts.

use Rattle.std.proofs.Common.{◌≡◌, ◌<◌, ◌≤◌, ℕ, ◌+◌, zero, suc, Bool, true, false, List, [], ◌∷◌, ◌++◌, Option, Some, None, refl, sym, ap, ◌∙◌, not, length, map, slice_get, nat_eq, All, subst, cond, arith}
use Rattle.std.specs.Prelude.{◌&&◌, ◌||◌}
use Rattle.std.specs.List.{list_any}
use Rattle.std.specs.Option.{IfSome}
use Rattle.std.specs.Str.{bytes_eq}
use Rattle.std.proofs.lemmas.List.Elements.{All-cons, All-nil, All-head}
use Rattle.std.proofs.lemmas.List.Folds.{list_any-append}
use Rattle.std.proofs.lemmas.Slice.Eq.{bytes_eq-Decides}
use Rattle.std.proofs.lemmas.Bool.Decides.{nat_tests}
use Rattle.mos_names.specs.NameLists.{Name, has_name}
use Rattle.bim_code.specs.declared.image.Image.{Image}
use Rattle.bim_code.specs.declared.image.ImageType.{ImageType}
use Rattle.bim_code.specs.declared.image.ImageType.TheVariants.{Integer, Boolean, Str, Model, Event, Range, Set, List as ListOf, Array, Record}
use Rattle.bim_code.specs.declared.image.Parameter.{Parameter}
use Rattle.bim_code.specs.declared.image.Default.{Default}
use Rattle.bim_code.specs.declared.image.Default.TheVariants.{Number, Truth, Constant}
use Rattle.bim_code.specs.Rules.{HasDefault, HasParameter, IsOfType, type_of_global, AreDistinct}
use Rattle.bim_rules.specs.declared.breach.Rule.TheVariants.{Numbers, Types}
use Rattle.bim_rules.specs.declared.breach.Table.TheVariants as table
use Rattle.bim_rules.specs.Breaches.{mark}
use Rattle.bim_rules.specs.Types.{is_constant}
use Rattle.bim_rules.specs.Tables.{is_global, has_default, has_parameter, is_short, is_of_type, is_new_name, with_found, with_slot, is_parameter, parameter_breaches}
use Rattle.bim_verify.specs.Laws.{HasWordDefault}
use Rattle.bim_verify.proofs.Tests.{first_half, second_half, both_halves, first_none, second_none, unmarked, below, is_below, at_most, is_at_most}

default_holds : (image : Image) (default : Default) → HasWordDefault default → has_default image default ≡ true → HasDefault image default
default_holds image (Number n) w e = w
default_holds image (Truth b) w e = tt
default_holds image (Constant constant) w e = below constant (length image.constants) e

default_told : (image : Image) (default : Default) → HasDefault image default → has_default image default ≡ true
default_told image (Number n) h = refl
default_told image (Truth b) h = refl
default_told image (Constant constant) h = is_below constant (length image.constants) h

parameter_holds : (image : Image) (p : Parameter) → HasWordDefault p.default → has_parameter image p ≡ true → HasParameter image p
parameter_holds image p w e =
    let rest = second_half (is_constant image p.name) (is_global image p.slot && has_default image p.default) e in (
      below p.name (length image.constants) (first_half (is_constant image p.name) (is_global image p.slot && has_default image p.default) e),
      below p.slot (length image.globals) (first_half (is_global image p.slot) (has_default image p.default) rest),
      default_holds image p.default w (second_half (is_global image p.slot) (has_default image p.default) rest),
    )

pub parameter_told : (image : Image) (p : Parameter) → HasParameter image p → has_parameter image p ≡ true
parameter_told image p h =
    both_halves (is_constant image p.name) (is_global image p.slot && has_default image p.default) (is_below p.name (length image.constants) h.0)
    (both_halves (is_global image p.slot) (has_default image p.default) (is_below p.slot (length image.globals) h.1) (default_told image p.default h.2))

short_holds : (constants : List Name) (text : Option Name) → is_short text ≡ true → IfSome text (λ t. length t ≤ 1000000)
short_holds constants None e = cc
short_holds constants (Some t) e = at_most (length t) 1000000 e

of_type_holds : (constants : List Name) (default : Default) (typ : Option ImageType) → is_of_type constants default typ ≡ true → IsOfType constants default typ
of_type_holds constants (Number n) (Some Integer) e = tt
of_type_holds constants (Number n) (Some Boolean) e = cc
of_type_holds constants (Number n) (Some Str) e = cc
of_type_holds constants (Number n) (Some Model) e = cc
of_type_holds constants (Number n) (Some Event) e = cc
of_type_holds constants (Number n) (Some Range) e = cc
of_type_holds constants (Number n) (Some (Set member)) e = cc
of_type_holds constants (Number n) (Some (ListOf member)) e = cc
of_type_holds constants (Number n) (Some (Array dynamic indexes cell)) e = cc
of_type_holds constants (Number n) (Some (Record fields)) e = cc
of_type_holds constants (Number n) None e = cc
of_type_holds constants (Truth b) (Some Integer) e = cc
of_type_holds constants (Truth b) (Some Boolean) e = tt
of_type_holds constants (Truth b) (Some Str) e = cc
of_type_holds constants (Truth b) (Some Model) e = cc
of_type_holds constants (Truth b) (Some Event) e = cc
of_type_holds constants (Truth b) (Some Range) e = cc
of_type_holds constants (Truth b) (Some (Set member)) e = cc
of_type_holds constants (Truth b) (Some (ListOf member)) e = cc
of_type_holds constants (Truth b) (Some (Array dynamic indexes cell)) e = cc
of_type_holds constants (Truth b) (Some (Record fields)) e = cc
of_type_holds constants (Truth b) None e = cc
of_type_holds constants (Constant k) (Some Integer) e = cc
of_type_holds constants (Constant k) (Some Boolean) e = cc
of_type_holds constants (Constant k) (Some Str) e = short_holds constants (slice_get constants k) e
of_type_holds constants (Constant k) (Some Model) e = cc
of_type_holds constants (Constant k) (Some Event) e = cc
of_type_holds constants (Constant k) (Some Range) e = cc
of_type_holds constants (Constant k) (Some (Set member)) e = cc
of_type_holds constants (Constant k) (Some (ListOf member)) e = cc
of_type_holds constants (Constant k) (Some (Array dynamic indexes cell)) e = cc
of_type_holds constants (Constant k) (Some (Record fields)) e = cc
of_type_holds constants (Constant k) None e = cc

never_none : {A : Type 0} (xs : List A) (k : ℕ) → k < length xs → slice_get xs k ≡ None → ⊥
never_none [] k within e = omega (arith, within)
never_none (x ∷ xs) zero within e = cc
never_none (x ∷ xs) (suc k) within e = never_none xs k (omega (arith, within)) e

short_told : (image : Image) (k : ℕ) → k < length image.constants → IfSome (slice_get image.constants k) (λ t. length t ≤ 1000000) → is_short (slice_get image.constants k) ≡ true
short_told image k within h = by (slice_get image.constants k) refl h
  where
    by : (text : Option Name) → slice_get image.constants k ≡ text → IfSome text (λ t. length t ≤ 1000000) → is_short text ≡ true
    by None e few = absurd (never_none image.constants k within e)
    by (Some t) e few = is_at_most (length t) 1000000 few

-- the constant that a default names is there
pub of_type_told : (image : Image) (default : Default) (typ : Option ImageType) → HasDefault image default → IsOfType image.constants default typ → is_of_type image.constants default typ ≡ true
of_type_told image (Number n) (Some Integer) d h = refl
of_type_told image (Number n) (Some Boolean) d h = absurd h
of_type_told image (Number n) (Some Str) d h = absurd h
of_type_told image (Number n) (Some Model) d h = absurd h
of_type_told image (Number n) (Some Event) d h = absurd h
of_type_told image (Number n) (Some Range) d h = absurd h
of_type_told image (Number n) (Some (Set member)) d h = absurd h
of_type_told image (Number n) (Some (ListOf member)) d h = absurd h
of_type_told image (Number n) (Some (Array dynamic indexes cell)) d h = absurd h
of_type_told image (Number n) (Some (Record fields)) d h = absurd h
of_type_told image (Number n) None d h = absurd h
of_type_told image (Truth b) (Some Integer) d h = absurd h
of_type_told image (Truth b) (Some Boolean) d h = refl
of_type_told image (Truth b) (Some Str) d h = absurd h
of_type_told image (Truth b) (Some Model) d h = absurd h
of_type_told image (Truth b) (Some Event) d h = absurd h
of_type_told image (Truth b) (Some Range) d h = absurd h
of_type_told image (Truth b) (Some (Set member)) d h = absurd h
of_type_told image (Truth b) (Some (ListOf member)) d h = absurd h
of_type_told image (Truth b) (Some (Array dynamic indexes cell)) d h = absurd h
of_type_told image (Truth b) (Some (Record fields)) d h = absurd h
of_type_told image (Truth b) None d h = absurd h
of_type_told image (Constant k) (Some Integer) d h = absurd h
of_type_told image (Constant k) (Some Boolean) d h = absurd h
of_type_told image (Constant k) (Some Str) d h = short_told image k d h
of_type_told image (Constant k) (Some Model) d h = absurd h
of_type_told image (Constant k) (Some Event) d h = absurd h
of_type_told image (Constant k) (Some Range) d h = absurd h
of_type_told image (Constant k) (Some (Set member)) d h = absurd h
of_type_told image (Constant k) (Some (ListOf member)) d h = absurd h
of_type_told image (Constant k) (Some (Array dynamic indexes cell)) d h = absurd h
of_type_told image (Constant k) (Some (Record fields)) d h = absurd h
of_type_told image (Constant k) None d h = absurd h

-- Names that differ.

same_text : (n : Name) → bytes_eq n n ≡ true
same_text n = (bytes_eq-Decides n n).1 refl

pub or_false : (s t : Bool) → (s || t) ≡ false → (s ≡ false) × (t ≡ false)
or_false true t e = cc
or_false false t e = (refl, e)

any_append : {A : Type 0} (p : A → Bool) (xs ys : List A) → list_any p (xs ++ ys) ≡ false → list_any p xs ≡ false
any_append p xs ys e = (or_false (list_any p xs) (list_any p ys) (sym (list_any-append p xs ys) ∙ e)).0

-- what is no later name was no earlier one
fewer : (names : List Name) (found : Option Name) (n : Name) → has_name n (with_found names found) ≡ false → has_name n names ≡ false
fewer names None n e = e
fewer names (Some m) n e = by (has_name m names) e
  where
    by : (t : Bool) → has_name n (cond t names (names ++ m ∷ [])) ≡ false → has_name n names ≡ false
    by true h = h
    by false h = any_append (bytes_eq n) names (m ∷ []) h

-- and is not the name that was added
differs : (names : List Name) (m n : Name) → has_name n (with_found names (Some m)) ≡ false → m ≡ n → ⊥
differs names m n e same = by (has_name m names) refl e
  where
    by : (t : Bool) → has_name m names ≡ t → has_name n (cond t names (names ++ m ∷ [])) ≡ false → ⊥
    by true h k = let there : has_name n names ≡ true = subst (λ x. has_name x names ≡ true) same h in cc
    by false h k =
        let cut = or_false (has_name n names) (list_any (bytes_eq n) (m ∷ [])) (sym (list_any-append (bytes_eq n) names (m ∷ [])) ∙ k) in
        let last = or_false (bytes_eq n m) false cut.1 in
        let is : bytes_eq n m ≡ true = subst (λ x. bytes_eq n x ≡ true) (sym same) (same_text n) in cc

map_found : {A B : Type 0} (f : A → B) (xs : List A) (j : ℕ) (y : B) → slice_get (map f xs) j ≡ Some y → (x : A) × (slice_get xs j ≡ Some x) × (f x ≡ y)
map_found f [] j y e = cc
map_found f (x ∷ xs) zero y e = let same : f x ≡ y = cc in (x, refl, same)
map_found f (x ∷ xs) (suc j) y e = map_found f xs j y e

pub found_map : {A B : Type 0} (f : A → B) (xs : List A) (j : ℕ) (x : A) → slice_get xs j ≡ Some x → slice_get (map f xs) j ≡ Some (f x)
found_map f [] j x e = cc
found_map f (y ∷ xs) zero x e = let same : y ≡ x = cc in ap (λ z. Some (f z)) same
found_map f (y ∷ xs) (suc j) x e = found_map f xs j x e

pub within_found : {A : Type 0} (xs : List A) (j : ℕ) → j < length xs → (x : A) × (slice_get xs j ≡ Some x)
within_found [] j l = absurd (omega (arith, l))
within_found (x ∷ xs) zero l = (x, refl)
within_found (x ∷ xs) (suc j) l = within_found xs j (omega (arith, l))

-- Slots that differ.

fewer_slots : (slots : List ℕ) (slot s : ℕ) → list_any (nat_eq s) (with_slot slots slot) ≡ false → list_any (nat_eq s) slots ≡ false
fewer_slots slots slot s e = by (list_any (nat_eq slot) slots) e
  where
    by : (t : Bool) → list_any (nat_eq s) (cond t slots (slots ++ slot ∷ [])) ≡ false → list_any (nat_eq s) slots ≡ false
    by true h = h
    by false h = any_append (nat_eq s) slots (slot ∷ []) h

slot_differs : (slots : List ℕ) (slot s : ℕ) → list_any (nat_eq s) (with_slot slots slot) ≡ false → slot ≡ s → ⊥
slot_differs slots slot s e same = by (list_any (nat_eq slot) slots) refl e
  where
    by : (t : Bool) → list_any (nat_eq slot) slots ≡ t → list_any (nat_eq s) (cond t slots (slots ++ slot ∷ [])) ≡ false → ⊥
    by true h k = let there : list_any (nat_eq s) slots ≡ true = subst (λ x. list_any (nat_eq x) slots ≡ true) same h in cc
    by false h k =
        let cut = or_false (list_any (nat_eq s) slots) (list_any (nat_eq s) (slot ∷ [])) (sym (list_any-append (nat_eq s) slots (slot ∷ [])) ∙ k) in
        let last = or_false (nat_eq s slot) false cut.1 in
        grind (arith, nat_tests, same, last.0)

-- Parameters that break no rule.

-- a parameter has a name and a slot of its own
record Fresh (image : Image) (names : List Name) (slots : List ℕ) (p : Parameter) : Type 0 where
  name : (n : Name) → slice_get image.constants p.name ≡ Some n → has_name n names ≡ false
  slot : list_any (nat_eq p.slot) slots ≡ false

not_true : (t : Bool) → not t ≡ true → t ≡ false
not_true true e = cc
not_true false e = refl

pub is_not : (t : Bool) → t ≡ false → not t ≡ true
is_not true e = cc
is_not false e = refl

new_name : (names : List Name) (found : Option Name) (n : Name) → is_new_name names found ≡ true → found ≡ Some n → has_name n names ≡ false
new_name names None n e f = cc
new_name names (Some m) n e f = let same : m ≡ n = cc in subst (λ x. has_name x names ≡ false) same (not_true (has_name m names) e)

fresh_by : (image : Image) (names : List Name) (slots : List ℕ) (p : Parameter) → is_parameter image names slots p ≡ true → Fresh image names slots p
fresh_by image names slots p e =
    let of_type = is_of_type image.constants p.default (type_of_global image p.slot) in
    let name = is_new_name names (slice_get image.constants p.name) in
    let slot = not (list_any (nat_eq p.slot) slots) in
    let rest : (name && slot) ≡ true = second_half of_type (name && slot) e in
    record {
      name = λ n f. new_name names (slice_get image.constants p.name) n (first_half name slot rest) f;
      slot = not_true (list_any (nat_eq p.slot) slots) (second_half name slot rest);
    }

-- what holds of the first and of the rest
record Unbroken (image : Image) (k : ℕ) (names : List Name) (slots : List ℕ) (p : Parameter) (params : List Parameter) : Type 0 where
  number : has_parameter image p ≡ true
  typ : is_parameter image names slots p ≡ true
  rest : parameter_breaches image (k + 1) (with_found names (slice_get image.constants p.name)) (with_slot slots p.slot) params ≡ []

unbroken_by : (image : Image) (k : ℕ) (names : List Name) (slots : List ℕ) (p : Parameter) (params : List Parameter)
    → parameter_breaches image k names slots (p ∷ params) ≡ [] → Unbroken image k names slots p params
unbroken_by image k names slots p params e =
    let one = mark Numbers table.Parameters k (has_parameter image p) in
    let two = mark Types table.Parameters k (is_parameter image names slots p) in
    let more = parameter_breaches image (k + 1) (with_found names (slice_get image.constants p.name)) (with_slot slots p.slot) params in
    let behind = second_none one (two ++ more) e in
    record {
      number = unmarked Numbers table.Parameters k (has_parameter image p) (first_none one (two ++ more) e);
      typ = unmarked Types table.Parameters k (is_parameter image names slots p) (first_none two more behind);
      rest = second_none two more behind;
    }

all_fresh : (image : Image) (k : ℕ) (names : List Name) (slots : List ℕ) (params : List Parameter) → parameter_breaches image k names slots params ≡ []
    → (j : ℕ) (q : Parameter) → slice_get params j ≡ Some q → Fresh image names slots q
all_fresh image k names slots [] e j q f = cc
all_fresh image k names slots (p ∷ params) e zero q f =
    let u = unbroken_by image k names slots p params e in
    let same : p ≡ q = cc in subst (Fresh image names slots) same (fresh_by image names slots p u.typ)
all_fresh image k names slots (p ∷ params) e (suc j) q f =
    let u = unbroken_by image k names slots p params e in
    let later = all_fresh image (k + 1) _ _ params u.rest j q f in
    record {
      name = λ n g. fewer names (slice_get image.constants p.name) n (later.name n g);
      slot = fewer_slots slots p.slot q.slot later.slot;
    }

pub parameters_hold : (image : Image) (k : ℕ) (names : List Name) (slots : List ℕ) (params : List Parameter)
    → All (λ (p : Parameter). HasWordDefault p.default) params → parameter_breaches image k names slots params ≡ [] → All (HasParameter image) params
parameters_hold image k names slots [] words e = All-nil (HasParameter image)
parameters_hold image k names slots (p ∷ params) words e =
    let u = unbroken_by image k names slots p params e in
    All-cons (HasParameter image) p params (parameter_holds image p (All-head (λ (q : Parameter). HasWordDefault q.default) p params words) u.number)
    (parameters_hold image (k + 1) _ _ params (λ j d within. words (suc j) d (omega (arith, within))) u.rest)

pub defaults_hold : (image : Image) (k : ℕ) (names : List Name) (slots : List ℕ) (params : List Parameter)
    → parameter_breaches image k names slots params ≡ [] → All (λ (p : Parameter). IsOfType image.constants p.default (type_of_global image p.slot)) params
defaults_hold image k names slots [] e = All-nil (λ (p : Parameter). IsOfType image.constants p.default (type_of_global image p.slot))
defaults_hold image k names slots (p ∷ params) e =
    let u = unbroken_by image k names slots p params e in
    let name = is_new_name names (slice_get image.constants p.name) in
    let slot = not (list_any (nat_eq p.slot) slots) in
    All-cons (λ (p : Parameter). IsOfType image.constants p.default (type_of_global image p.slot)) p params
    (of_type_holds image.constants p.default (type_of_global image p.slot) (first_half (is_of_type image.constants p.default (type_of_global image p.slot)) (name && slot) u.typ))
    (defaults_hold image (k + 1) _ _ params u.rest)

constant_there : (image : Image) (p : Parameter) → has_parameter image p ≡ true → (n : Name) × (slice_get image.constants p.name ≡ Some n)
constant_there image p e =
    within_found image.constants p.name (below p.name (length image.constants) (first_half (is_constant image p.name) (is_global image p.slot && has_default image p.default) e))

pub names_differ : (image : Image) (k : ℕ) (names : List Name) (slots : List ℕ) (params : List Parameter)
    → parameter_breaches image k names slots params ≡ [] → AreDistinct (map (λ (p : Parameter). slice_get image.constants p.name) params)
names_differ image k names slots [] e i j l within same = absurd (omega (arith, within))
names_differ image k names slots (p ∷ params) e zero zero l within same = absurd (omega (arith, l))
names_differ image k names slots (p ∷ params) e zero (suc j) l within same =
    let u = unbroken_by image k names slots p params e in
    let c = constant_there image p u.number in
    let q = map_found (λ (r : Parameter). slice_get image.constants r.name) params j (slice_get image.constants p.name) (sym same) in
    let later = all_fresh image (k + 1) _ _ params u.rest j q.0 q.1 in
    let none = later.name c.0 (q.2 ∙ c.1) in
    differs names c.0 c.0 (subst (λ found. has_name c.0 (with_found names found) ≡ false) c.1 none) refl
names_differ image k names slots (p ∷ params) e (suc i) zero l within same = absurd (omega (arith, l))
names_differ image k names slots (p ∷ params) e (suc i) (suc j) l within same =
    let u = unbroken_by image k names slots p params e in
    names_differ image (k + 1) _ _ params u.rest i j (omega (arith, l)) (omega (arith, within)) same

pub slots_differ : (image : Image) (k : ℕ) (names : List Name) (slots : List ℕ) (params : List Parameter)
    → parameter_breaches image k names slots params ≡ [] → AreDistinct (map (λ (p : Parameter). p.slot) params)
slots_differ image k names slots [] e i j l within same = absurd (omega (arith, within))
slots_differ image k names slots (p ∷ params) e zero zero l within same = absurd (omega (arith, l))
slots_differ image k names slots (p ∷ params) e zero (suc j) l within same =
    let u = unbroken_by image k names slots p params e in
    let q = map_found (λ (r : Parameter). r.slot) params j p.slot (sym same) in
    let later = all_fresh image (k + 1) _ _ params u.rest j q.0 q.1 in
    slot_differs slots p.slot q.0.slot later.slot (sym q.2)
slots_differ image k names slots (p ∷ params) e (suc i) zero l within same = absurd (omega (arith, l))
slots_differ image k names slots (p ∷ params) e (suc i) (suc j) l within same =
    let u = unbroken_by image k names slots p params e in
    slots_differ image (k + 1) _ _ params u.rest i j (omega (arith, l)) (omega (arith, within)) same
