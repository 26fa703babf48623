-- An image that keeps the rules breaks none.

use Rattle.std.proofs.Common.{◌≡◌, ◌⊎◌, inl, inr, ◌<◌, ◌≤◌, ℕ, ◌+◌, zero, suc, Bool, true, false, List, [], ◌∷◌, ◌++◌, Option, Some, None, refl, sym, ap, ◌∙◌, not, length, map, take, slice_get, nat_eq, All, subst, cond, append_assoc, length-append, arith}
use Rattle.std.specs.Prelude.{◌&&◌, ◌||◌, if◌then◌else◌}
use Rattle.std.specs.List.{list_all, list_any}
use Rattle.std.specs.Str.{bytes_eq}
use Rattle.std.proofs.lemmas.List.{length-map}
use Rattle.std.proofs.lemmas.List.Elements.{All-head}
use Rattle.std.proofs.lemmas.List.Folds.{list_any-append}
use Rattle.std.proofs.lemmas.Slice.Eq.{bytes_eq-Decides}
use Rattle.std.proofs.lemmas.Bool.Decides.{nat_tests}
use Rattle.mos_names.specs.NameLists.{Name, has_name}
use Rattle.bim_code.specs.declared.image.Image.{Image}
use Rattle.bim_code.specs.declared.image.Parameter.{Parameter}
use Rattle.bim_code.specs.declared.image.Routine.{Routine}
use Rattle.bim_code.specs.declared.image.Point.{Point}
use Rattle.bim_code.specs.declared.image.Operand.{Operand}
use Rattle.bim_code.specs.declared.instruction.Instruction.{Instruction}
use Rattle.bim_code.specs.Code.{instruction_from}
use Rattle.bim_code.specs.Rows.{width}
use Rattle.bim_code.specs.Rules.{HasParameter, HasRoutine, HasPoint, HasNumber, IsOfType, type_of_global, AreDistinct, IsBegun, Ascend, IsFlat, part_of, KeepsRules}
use Rattle.bim_rules.specs.declared.breach.Rule.TheVariants.{Numbers, Types, Addresses, Ends}
use Rattle.bim_rules.specs.declared.breach.Table.TheVariants as table
use Rattle.bim_rules.specs.Breaches.{mark}
use Rattle.bim_rules.specs.Parts.{is_begun, is_above}
use Rattle.bim_rules.specs.Types.{is_type, type_breaches}
use Rattle.bim_rules.specs.Tables.{is_of_type, is_new_name, with_found, with_slot, is_parameter, has_parameter, parameter_breaches, global_breaches, has_routine, is_place, routine_breaches, has_operand, point_breaches}
use Rattle.bim_rules.specs.Code.{code_breaches, has_main, instruction_breaches}
use Rattle.bim_rules.specs.Images.{plain_breaches}
use Rattle.bim_verify.proofs.Tests.{both_halves, both_none, no_mark, all_told, is_below, is_same_number}
use Rattle.bim_verify.proofs.KeptTypes.{types_kept}
use Rattle.bim_verify.proofs.KeptTables.{parameter_told, of_type_told, found_map}
use Rattle.bim_verify.proofs.KeptCode.{begun_told, Right, unbroken_right, operand_stands, routine_told, number_told}

-- Tables.

globals_kept : (image : Image) (k : ℕ) (globals : List ℕ) → All (λ typ. typ < length image.types) globals → global_breaches image k globals ≡ []
globals_kept image k [] h = refl
globals_kept image k (typ ∷ globals) h =
    both_none (mark Numbers table.Globals k (is_type image typ)) _
    (no_mark Numbers table.Globals k (is_type image typ) (is_below typ (length image.types) (All-head (λ t. t < length image.types) typ globals h)))
    (globals_kept image (k + 1) globals (λ j d within. h (suc j) d (omega (arith, within))))

-- an address of an instruction above the one before
place_told : (image : Image) (before : Option ℕ) (address : ℕ) → IsBegun image.code address → is_above before address ≡ true → is_place image before address ≡ true
place_told image before address b a = both_halves (is_begun image address) (is_above before address) (begun_told image address b) a

-- what comes first is above the one before
abbrev Above : Option ℕ → List ℕ → Type 0
Above None all = Unit {0}
Above (Some before) [] = Unit {0}
Above (Some before) (a ∷ all) = before < a

above_told : (before : Option ℕ) (a : ℕ) (all : List ℕ) → Above before (a ∷ all) → is_above before a ≡ true
above_told None a all h = refl
above_told (Some before) a all h = is_below before a h

next_above : (a : ℕ) (all : List ℕ) → Ascend (a ∷ all) → Above (Some a) all
next_above a [] h = tt
next_above a (b ∷ all) h = h 0 1 a b (omega arith) refl refl

later : (a : ℕ) (all : List ℕ) → Ascend (a ∷ all) → Ascend all
later a all h i j n m l e f = h (suc i) (suc j) n m (omega (arith, l)) e f

routines_kept : (image : Image) (k : ℕ) (before : Option ℕ) (routines : List Routine) → All (HasRoutine image) routines
    → All (λ (r : Routine). IsBegun image.code r.address) routines → Above before (map (λ (r : Routine). r.address) routines)
    → Ascend (map (λ (r : Routine). r.address) routines) → routine_breaches image k before routines ≡ []
routines_kept image k before [] h b above rise = refl
routines_kept image k before (r ∷ routines) h b above rise =
    let all = map (λ (q : Routine). q.address) routines in
    both_none (mark Numbers table.Routines k (has_routine image r)) _ (no_mark Numbers table.Routines k (has_routine image r) (routine_told image r (All-head (HasRoutine image) r routines h)))
    (both_none (mark Addresses table.Code r.address (is_place image before r.address)) _
    (no_mark Addresses table.Code r.address (is_place image before r.address)
    (place_told image before r.address (All-head (λ (q : Routine). IsBegun image.code q.address) r routines b) (above_told before r.address all above)))
    (routines_kept image (k + 1) (Some r.address) routines (λ j d within. h (suc j) d (omega (arith, within))) (λ j d within. b (suc j) d (omega (arith, within)))
    (next_above r.address all rise) (later r.address all rise)))

points_kept : (image : Image) (k : ℕ) (before : Option ℕ) (points : List Point) → All (HasPoint image) points
    → All (λ (p : Point). IsBegun image.code p.address) points → Above before (map (λ (p : Point). p.address) points)
    → Ascend (map (λ (p : Point). p.address) points) → point_breaches image k before points ≡ []
points_kept image k before [] h b above rise = refl
points_kept image k before (p ∷ points) h b above rise =
    let all = map (λ (q : Point). q.address) points in
    let test = list_all (has_operand image) p.stack in
    both_none (mark Numbers table.Points k test) _
    (no_mark Numbers table.Points k test (all_told (has_operand image) (λ (operand : Operand). operand.typ < length image.types) (operand_stands image) p.stack (All-head (HasPoint image) p points h)))
    (both_none (mark Addresses table.Code p.address (is_place image before p.address)) _
    (no_mark Addresses table.Code p.address (is_place image before p.address)
    (place_told image before p.address (All-head (λ (q : Point). IsBegun image.code q.address) p points b) (above_told before p.address all above)))
    (points_kept image (k + 1) (Some p.address) points (λ j d within. h (suc j) d (omega (arith, within))) (λ j d within. b (suc j) d (omega (arith, within)))
    (next_above p.address all rise) (later p.address all rise)))

-- Code.

begins_behind : (at : ℕ) (is : List Instruction) (a : ℕ) (i : Instruction) → instruction_from at is a ≡ Some i → at ≤ a
begins_behind at [] a i f = cc
begins_behind at (j ∷ is) a i f = by (nat_eq at a) refl f (begins_behind (at + width j) is a i)
  where
    by : (t : Bool) → nat_eq at a ≡ t → (if t then Some j else instruction_from (at + width j) is a) ≡ Some i
        → (instruction_from (at + width j) is a ≡ Some i → at + width j ≤ a) → at ≤ a
    by true e g later = grind (arith, nat_tests, e)
    by false e g later = let more = later g in omega (arith, more)

code_kept : (image : Image) (at : ℕ) (is : List Instruction)
    → ((a : ℕ) (i : Instruction) → instruction_from at is a ≡ Some i → Right image a i) → code_breaches image at is ≡ []
code_kept image at [] r = refl
code_kept image at (j ∷ is) r =
    both_none (instruction_breaches image at j) _ (unbroken_right image at j (r at j first))
    (code_kept image (at + width j) is (λ a i f. r a i (behind a i f)))
  where
    first : instruction_from at (j ∷ is) at ≡ Some j
    first = let same : nat_eq at at ≡ true = grind (arith, nat_tests) in rw same refl

    behind : (a : ℕ) (i : Instruction) → instruction_from (at + width j) is a ≡ Some i → instruction_from at (j ∷ is) a ≡ Some i
    behind a i f =
        let past : at + width j ≤ a = begins_behind (at + width j) is a i f in
        let apart : nat_eq at a ≡ false = grind (arith, nat_tests, past) in rw apart f

-- Parameters.

-- each of these names is that of a parameter before
abbrev Known : Image → List Name → List Parameter → Type 0
Known image names before = (n : Name) → has_name n names ≡ true → (i : ℕ) × (q : Parameter) × (slice_get before i ≡ Some q) × (slice_get image.constants q.name ≡ Some n)

-- and each of these slots
abbrev KnownSlots : List ℕ → List Parameter → Type 0
KnownSlots slots before = (s : ℕ) → list_any (nat_eq s) slots ≡ true → (i : ℕ) × (q : Parameter) × (slice_get before i ≡ Some q) × (q.slot ≡ s)

slice_left : {A : Type 0} (xs ys : List A) (i : ℕ) (x : A) → slice_get xs i ≡ Some x → (slice_get (xs ++ ys) i ≡ Some x) × (i < length xs)
slice_left [] ys i x e = cc
slice_left (y ∷ xs) ys zero x e = (e, omega arith)
slice_left (y ∷ xs) ys (suc i) x e = let r = slice_left xs ys i x e in (r.0, omega (arith, r.1))

slice_there : {A : Type 0} (xs : List A) (x : A) (ys : List A) → slice_get (xs ++ x ∷ ys) (length xs) ≡ Some x
slice_there [] x ys = refl
slice_there (y ∷ xs) x ys = slice_there xs x ys

or_cases : (s t : Bool) → (s || t) ≡ true → (s ≡ true) ⊎ (t ≡ true)
or_cases true t e = inl refl
or_cases false t e = inr e

same_text : (n m : Name) → bytes_eq n m ≡ true → n ≡ m
same_text n m e = (bytes_eq-Decides n m).0 e

last_one : (s : Bool) → (s || false) ≡ true → s ≡ true
last_one true e = refl
last_one false e = cc

known_more : (image : Image) (names : List Name) (before : List Parameter) (p : Parameter) → Known image names before
    → Known image (with_found names (slice_get image.constants p.name)) (before ++ p ∷ [])
known_more image names before p known n h = by (slice_get image.constants p.name) refl h
  where
    earlier : has_name n names ≡ true → (i : ℕ) × (q : Parameter) × (slice_get (before ++ p ∷ []) i ≡ Some q) × (slice_get image.constants q.name ≡ Some n)
    earlier e = let w = known n e in let l = slice_left before (p ∷ []) w.0 w.1 w.2 in (w.0, w.1, l.0, w.3)

    added : (m : Name) → slice_get image.constants p.name ≡ Some m → (t : Bool) → has_name n (cond t names (names ++ m ∷ [])) ≡ true
        → (i : ℕ) × (q : Parameter) × (slice_get (before ++ p ∷ []) i ≡ Some q) × (slice_get image.constants q.name ≡ Some n)
    added m e true k = earlier k
    added m e false k = elim (or_cases (has_name n names) (bytes_eq n m || false) (sym (list_any-append (bytes_eq n) names (m ∷ [])) ∙ k)) [
      | inl old ↦ earlier old
      | inr new ↦ (length before, p, slice_there before p [], e ∙ ap (λ (x : Name). Some x) (sym (same_text n m (last_one (bytes_eq n m) new))))
    ]

    by : (found : Option Name) → slice_get image.constants p.name ≡ found → has_name n (with_found names found) ≡ true
        → (i : ℕ) × (q : Parameter) × (slice_get (before ++ p ∷ []) i ≡ Some q) × (slice_get image.constants q.name ≡ Some n)
    by None e k = earlier k
    by (Some m) e k = added m e (has_name m names) k

slots_more : (slots : List ℕ) (before : List Parameter) (p : Parameter) → KnownSlots slots before → KnownSlots (with_slot slots p.slot) (before ++ p ∷ [])
slots_more slots before p known s h = by (list_any (nat_eq p.slot) slots) h
  where
    earlier : list_any (nat_eq s) slots ≡ true → (i : ℕ) × (q : Parameter) × (slice_get (before ++ p ∷ []) i ≡ Some q) × (q.slot ≡ s)
    earlier e = let w = known s e in let l = slice_left before (p ∷ []) w.0 w.1 w.2 in (w.0, w.1, l.0, w.3)

    by : (t : Bool) → list_any (nat_eq s) (cond t slots (slots ++ p.slot ∷ [])) ≡ true → (i : ℕ) × (q : Parameter) × (slice_get (before ++ p ∷ []) i ≡ Some q) × (q.slot ≡ s)
    by true k = earlier k
    by false k = elim (or_cases (list_any (nat_eq s) slots) (nat_eq s p.slot || false) (sym (list_any-append (nat_eq s) slots (p.slot ∷ [])) ∙ k)) [
      | inl old ↦ earlier old
      | inr new ↦ (length before, p, slice_there before p [], let same = last_one (nat_eq s p.slot) new in grind (arith, nat_tests, same))
    ]

-- two places of a list with distinct entries
not_twice : {A B : Type 0} (f : A → B) (xs ys : List A) (x q : A) (i : ℕ) → AreDistinct (map f (xs ++ x ∷ ys)) → slice_get xs i ≡ Some q → f q ≡ f x → ⊥
not_twice f xs ys x q i distinct e same =
    let l = slice_left xs (x ∷ ys) i q e in
    let long : length (map f (xs ++ x ∷ ys)) ≡ length (xs ++ x ∷ ys) = length-map (xs ++ x ∷ ys) f in
    let sum : length (xs ++ x ∷ ys) ≡ length xs + length (x ∷ ys) = length-append xs (x ∷ ys) in
    distinct i (length xs) l.1 (omega (arith, long, sum))
    (found_map f (xs ++ x ∷ ys) i q l.0 ∙ ap (λ (b : _). Some b) same ∙ sym (found_map f (xs ++ x ∷ ys) (length xs) x (slice_there xs x ys)))

parameters_kept : (image : Image) (k : ℕ) (names : List Name) (slots : List ℕ) (before params : List Parameter)
    → Known image names before → KnownSlots slots before → All (HasParameter image) params
    → All (λ (p : Parameter). IsOfType image.constants p.default (type_of_global image p.slot)) params
    → AreDistinct (map (λ (p : Parameter). slice_get image.constants p.name) (before ++ params))
    → AreDistinct (map (λ (p : Parameter). p.slot) (before ++ params)) → parameter_breaches image k names slots params ≡ []
parameters_kept image k names slots before [] known known_slots has typed names_differ slots_differ = refl
parameters_kept image k names slots before (p ∷ params) known known_slots has typed names_differ slots_differ =
    let here = All-head (HasParameter image) p params has in
    let typ = of_type_told image p.default (type_of_global image p.slot) here.2 (All-head (λ (q : Parameter). IsOfType image.constants q.default (type_of_global image q.slot)) p params typed) in
    let next : (before ++ p ∷ []) ++ params ≡ before ++ p ∷ params = append_assoc before (p ∷ []) params in
    both_none (mark Numbers table.Parameters k (has_parameter image p)) _ (no_mark Numbers table.Parameters k (has_parameter image p) (parameter_told image p here))
    (both_none (mark Types table.Parameters k (is_parameter image names slots p)) _
    (no_mark Types table.Parameters k (is_parameter image names slots p)
    (both_halves (is_of_type image.constants p.default (type_of_global image p.slot)) (is_new_name names (slice_get image.constants p.name) && not (list_any (nat_eq p.slot) slots)) typ
    (both_halves (is_new_name names (slice_get image.constants p.name)) (not (list_any (nat_eq p.slot) slots)) (fresh_name (slice_get image.constants p.name) refl) (fresh_slot (list_any (nat_eq p.slot) slots) refl))))
    (parameters_kept image (k + 1) _ _ (before ++ p ∷ []) params (known_more image names before p known) (slots_more slots before p known_slots)
    (λ j d within. has (suc j) d (omega (arith, within))) (λ j d within. typed (suc j) d (omega (arith, within)))
    (subst (λ (l : List Parameter). AreDistinct (map (λ (q : Parameter). slice_get image.constants q.name) l)) (sym next) names_differ)
    (subst (λ (l : List Parameter). AreDistinct (map (λ (q : Parameter). q.slot) l)) (sym next) slots_differ)))
  where
    fresh_by : (n : Name) → slice_get image.constants p.name ≡ Some n → (t : Bool) → has_name n names ≡ t → not t ≡ true
    fresh_by n e true h = let w = known n h in absurd (not_twice (λ (q : Parameter). slice_get image.constants q.name) before params p w.1 w.0 names_differ w.2 (w.3 ∙ sym e))
    fresh_by n e false h = refl

    fresh_name : (found : Option Name) → slice_get image.constants p.name ≡ found → is_new_name names found ≡ true
    fresh_name None e = refl
    fresh_name (Some n) e = fresh_by n e (has_name n names) refl

    fresh_slot : (t : Bool) → list_any (nat_eq p.slot) slots ≡ t → not t ≡ true
    fresh_slot true h = let w = known_slots p.slot h in absurd (not_twice (λ (q : Parameter). q.slot) before params p w.1 w.0 slots_differ w.2 w.3)
    fresh_slot false h = refl

-- The whole image.

begun_in : (image : Image) (at : ℕ) (is : List Instruction) → All (HasNumber image) is → (a : ℕ) (i : Instruction) → instruction_from at is a ≡ Some i → HasNumber image i
begun_in image at [] h a i e = cc
begun_in image at (j ∷ is) h a i e = by (nat_eq at a) e (begun_in image (at + width j) is (λ n d within. h (suc n) d (omega (arith, within))) a i)
  where
    by : (t : Bool) → (if t then Some j else instruction_from (at + width j) is a) ≡ Some i → (instruction_from (at + width j) is a ≡ Some i → HasNumber image i) → HasNumber image i
    by true g more = let same : j ≡ i = cc in subst (HasNumber image) same (All-head (HasNumber image) j is h)
    by false g more = more g

above_none : (all : List ℕ) → Above None all
above_none all = tt

pub kept_is_unbroken : (image : Image) → KeepsRules image → plain_breaches image ≡ []
kept_is_unbroken image rules =
    both_none _ _
    (both_none (type_breaches image 0 image.types) _
    (types_kept image 0 image.types rules.numbers.types (λ j typ e. let at : 0 + j ≡ j = omega arith in subst (λ n. IsFlat image.constants (take n image.types) typ) (sym at) (rules.types.flat j typ e)))
    (both_none (parameter_breaches image 0 [] [] image.params) _
    (parameters_kept image 0 [] [] [] image.params (λ n h. cc) (λ s h. cc) rules.numbers.parameters rules.types.defaults rules.types.names rules.types.slots)
    (globals_kept image 0 image.globals rules.numbers.globals)))
    (both_none (routine_breaches image 0 None image.routines) _
    (routines_kept image 0 None image.routines rules.numbers.routines rules.addresses.routines (above_none (map (λ (r : Routine). r.address) image.routines)) rules.addresses.routines_ascend)
    (both_none (point_breaches image 0 None image.points) _
    (points_kept image 0 None image.points rules.numbers.points rules.addresses.points (above_none (map (λ (p : Point). p.address) image.points)) rules.addresses.points_ascend)
    (both_none (mark Ends table.Code 0 (has_main image)) _
    (no_mark Ends table.Code 0 (has_main image)
    (both_halves (is_begun image 0) (nat_eq (part_of image.routines 0) 0) (begun_told image 0 rules.ends.main) (is_same_number (part_of image.routines 0) 0 rules.ends.main_is_first)))
    (code_kept image 0 image.code (λ a i e. record {
      number = number_told image i (begun_in image 0 image.code rules.numbers.code a i e);
      named = rules.addresses.operands a i e;
      on = rules.ends.behind a i e;
      ticks = λ address f back. rules.ticks.back a i address e f back;
    })))))
