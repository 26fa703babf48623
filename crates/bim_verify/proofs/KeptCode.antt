-- The rules on addresses and code: as tests, and as facts.

use Rattle.std.proofs.Common.{◌≡◌, ◌<◌, ◌≤◌, ℕ, ◌+◌, zero, suc, Bool, true, false, List, [], ◌∷◌, ◌++◌, Option, Some, None, refl, ap, length, map, slice_get, nat_eq, nat_lt, nat_le, is_some, All, subst, arith}
use Rattle.std.specs.Prelude.{◌&&◌, ◌||◌, if◌then◌else◌}
use Rattle.std.specs.Option.{IfSome}
use Rattle.std.specs.List.{list_all}
use Rattle.std.proofs.lemmas.Bool.Decides.{nat_tests}
use Rattle.std.proofs.lemmas.List.Elements.{All-cons, All-nil, All-head}
use Rattle.bim_code.specs.declared.image.Image.{Image}
use Rattle.bim_code.specs.declared.image.Routine.{Routine}
use Rattle.bim_code.specs.declared.image.Slot.{Slot}
use Rattle.bim_code.specs.declared.image.Point.{Point}
use Rattle.bim_code.specs.declared.image.Operand.{Operand}
use Rattle.bim_code.specs.declared.instruction.Instruction.{Instruction}
use Rattle.bim_code.specs.declared.instruction.Instruction.TheVariants.{Tick, PushInt, PushBool, PushText, LoadGlobal, StoreGlobal, Swap, Add, Subtract, Compare, Jump, JumpIf, JumpNot, Show, Write, Line, End, Fault}
use Rattle.bim_code.specs.Code.{instruction_at, instruction_from}
use Rattle.bim_code.specs.Rows.{width, named_address}
use Rattle.bim_code.specs.Rules.{HasNumber, HasRoutine, HasPoint, IsBegun, part_of, Ascend, NamesInPart, leaves_part, GoesOn}
use Rattle.bim_rules.specs.declared.breach.Rule.TheVariants.{Numbers, Addresses, Ends, Ticks}
use Rattle.bim_rules.specs.declared.breach.Table.TheVariants as table
use Rattle.bim_rules.specs.Breaches.{mark}
use Rattle.bim_rules.specs.Parts.{is_begun, is_in_part, is_above}
use Rattle.bim_rules.specs.Types.{is_type}
use Rattle.bim_rules.specs.Tables.{global_breaches, has_slot, has_result, has_routine, is_place, routine_breaches, has_operand, point_breaches}
use Rattle.bim_rules.specs.Code.{has_number, names_in_part, goes_on, is_tick, takes_tick, instruction_breaches, code_breaches}
use Rattle.bim_verify.specs.Laws.{HasWord}
use Rattle.bim_verify.proofs.Tests.{first_half, second_half, both_halves, first_none, second_none, both_none, unmarked, no_mark, StandsFor, all_hold, all_told, below, is_below, at_most, is_at_most, same_number, is_same_number}

-- What begins somewhere.

some_is : {A : Type 0} (x : Option A) → is_some x ≡ true → (a : A) × (x ≡ Some a)
some_is None e = cc
some_is (Some a) e = (a, refl)

is_some_by : {A : Type 0} (x : Option A) (a : A) → x ≡ Some a → is_some x ≡ true
is_some_by None a e = cc
is_some_by (Some b) a e = refl

pub begun_holds : (image : Image) (address : ℕ) → is_begun image address ≡ true → IsBegun image.code address
begun_holds image address e = some_is (instruction_at image.code address) e

pub begun_told : (image : Image) (address : ℕ) → IsBegun image.code address → is_begun image address ≡ true
begun_told image address b = is_some_by (instruction_at image.code address) b.0 b.1

part_holds : (image : Image) (at address : ℕ) → is_in_part image at address ≡ true
    → IsBegun image.code address × (part_of image.routines address ≡ part_of image.routines at)
part_holds image at address e =
    let same = nat_eq (part_of image.routines address) (part_of image.routines at) in
    (begun_holds image address (first_half (is_begun image address) same e), same_number _ _ (second_half (is_begun image address) same e))

part_told : (image : Image) (at address : ℕ) → IsBegun image.code address → part_of image.routines address ≡ part_of image.routines at → is_in_part image at address ≡ true
part_told image at address b e =
    both_halves (is_begun image address) (nat_eq (part_of image.routines address) (part_of image.routines at)) (begun_told image address b) (is_same_number _ _ e)

-- Numbers of instructions.

number_holds : (image : Image) (i : Instruction) → HasWord i → has_number image i ≡ true → HasNumber image i
number_holds image (PushInt n) w e = w
number_holds image (PushBool n) w e = below n 2 e
number_holds image (PushText constant) w e = below constant (length image.constants) e
number_holds image (LoadGlobal slot) w e = below slot (length image.globals) e
number_holds image (StoreGlobal slot) w e = below slot (length image.globals) e
number_holds image (Jump address) w e = w
number_holds image (JumpIf address) w e = w
number_holds image (JumpNot address) w e = w
number_holds image (Fault kind) w e =
    (at_most 1 kind (first_half (nat_le 1 kind) (nat_le kind 12) e), at_most kind 12 (second_half (nat_le 1 kind) (nat_le kind 12) e))
number_holds image Tick w e = tt
number_holds image Swap w e = tt
number_holds image Add w e = tt
number_holds image Subtract w e = tt
number_holds image (Compare comparison) w e = tt
number_holds image Show w e = tt
number_holds image Write w e = tt
number_holds image Line w e = tt
number_holds image End w e = tt

pub number_told : (image : Image) (i : Instruction) → HasNumber image i → has_number image i ≡ true
number_told image (PushInt n) h = refl
number_told image (PushBool n) h = is_below n 2 h
number_told image (PushText constant) h = is_below constant (length image.constants) h
number_told image (LoadGlobal slot) h = is_below slot (length image.globals) h
number_told image (StoreGlobal slot) h = is_below slot (length image.globals) h
number_told image (Jump address) h = refl
number_told image (JumpIf address) h = refl
number_told image (JumpNot address) h = refl
number_told image (Fault kind) h = both_halves (nat_le 1 kind) (nat_le kind 12) (is_at_most 1 kind h.0) (is_at_most kind 12 h.1)
number_told image Tick h = refl
number_told image Swap h = refl
number_told image Add h = refl
number_told image Subtract h = refl
number_told image (Compare comparison) h = refl
number_told image Show h = refl
number_told image Write h = refl
number_told image Line h = refl
number_told image End h = refl

-- Addresses that are named.

named_holds : (image : Image) (at : ℕ) (named : Option ℕ) → names_in_part image at named ≡ true
    → IfSome named (λ address. IsBegun image.code address × (part_of image.routines address ≡ part_of image.routines at))
named_holds image at None e = tt
named_holds image at (Some address) e = part_holds image at address e

named_told : (image : Image) (at : ℕ) (named : Option ℕ)
    → IfSome named (λ address. IsBegun image.code address × (part_of image.routines address ≡ part_of image.routines at)) → names_in_part image at named ≡ true
named_told image at None h = refl
named_told image at (Some address) h = part_told image at address h.0 h.1

goes_holds : (image : Image) (at : ℕ) (i : Instruction) → goes_on image at i ≡ true → GoesOn image at i
goes_holds image at i e = by (leaves_part i) e
  where
    by : (t : Bool) → (t || is_in_part image at (at + width i)) ≡ true → t ≡ false
        → IsBegun image.code (at + width i) × (part_of image.routines (at + width i) ≡ part_of image.routines at)
    by true h stays = cc
    by false h stays = part_holds image at (at + width i) h

goes_told : (image : Image) (at : ℕ) (i : Instruction) → GoesOn image at i → goes_on image at i ≡ true
goes_told image at i h = by (leaves_part i) refl
  where
    by : (t : Bool) → leaves_part i ≡ t → (t || is_in_part image at (at + width i)) ≡ true
    by true e = refl
    by false e = let on = h e in part_told image at (at + width i) on.0 on.1

tick_is : (i : Option Instruction) → is_tick i ≡ true → i ≡ Some Tick
tick_is (Some Tick) e = refl
tick_is (Some (PushInt n)) e = cc
tick_is (Some (PushBool n)) e = cc
tick_is (Some (PushText constant)) e = cc
tick_is (Some (LoadGlobal slot)) e = cc
tick_is (Some (StoreGlobal slot)) e = cc
tick_is (Some Swap) e = cc
tick_is (Some Add) e = cc
tick_is (Some Subtract) e = cc
tick_is (Some (Compare comparison)) e = cc
tick_is (Some (Jump address)) e = cc
tick_is (Some (JumpIf address)) e = cc
tick_is (Some (JumpNot address)) e = cc
tick_is (Some Show) e = cc
tick_is (Some Write) e = cc
tick_is (Some Line) e = cc
tick_is (Some End) e = cc
tick_is (Some (Fault kind)) e = cc
tick_is None e = cc

ticks_hold : (image : Image) (at : ℕ) (named : Option ℕ) (address : ℕ) → takes_tick image at named ≡ true → named ≡ Some address → address ≤ at
    → instruction_at image.code address ≡ Some Tick
ticks_hold image at None address e f back = cc
ticks_hold image at (Some a) address e f back =
    let same : a ≡ address = cc in by (nat_lt at a) refl e same
  where
    by : (t : Bool) → nat_lt at a ≡ t → (t || is_tick (instruction_at image.code a)) ≡ true → a ≡ address → instruction_at image.code address ≡ Some Tick
    by true l h same = absurd (grind (arith, nat_tests, l, same, back))
    by false l h same = subst (λ b. instruction_at image.code b ≡ Some Tick) same (tick_is (instruction_at image.code a) h)

ticks_told : (image : Image) (at : ℕ) (named : Option ℕ) → ((address : ℕ) → named ≡ Some address → address ≤ at → instruction_at image.code address ≡ Some Tick)
    → takes_tick image at named ≡ true
ticks_told image at None h = refl
ticks_told image at (Some a) h = by (nat_lt at a) refl
  where
    by : (t : Bool) → nat_lt at a ≡ t → (t || is_tick (instruction_at image.code a)) ≡ true
    by true l = refl
    by false l = let tick = h a refl (grind (arith, nat_tests, l)) in ap is_tick tick

-- One instruction.

pub record Right (image : Image) (at : ℕ) (i : Instruction) : Type 0 where
  pub number : has_number image i ≡ true
  pub named : NamesInPart image at i
  pub on : GoesOn image at i
  pub ticks : (address : ℕ) → named_address i ≡ Some address → address ≤ at → instruction_at image.code address ≡ Some Tick

right_by : (image : Image) (at : ℕ) (i : Instruction) → instruction_breaches image at i ≡ [] → Right image at i
unfolding instruction_breaches
right_by image at i e =
    let one = mark Numbers table.Code at (has_number image i) in
    let two = mark Addresses table.Code at (names_in_part image at (named_address i)) in
    let three = mark Ends table.Code at (goes_on image at i) in
    let four = mark Ticks table.Code at (takes_tick image at (named_address i)) in
    let e2 = second_none one (two ++ (three ++ four)) e in
    let e3 = second_none two (three ++ four) e2 in
    record {
      number = unmarked Numbers table.Code at (has_number image i) (first_none one (two ++ (three ++ four)) e);
      named = named_holds image at (named_address i) (unmarked Addresses table.Code at (names_in_part image at (named_address i)) (first_none two (three ++ four) e2));
      on = goes_holds image at i (unmarked Ends table.Code at (goes_on image at i) (first_none three four e3));
      ticks = λ address f back. ticks_hold image at (named_address i) address (unmarked Ticks table.Code at (takes_tick image at (named_address i)) (second_none three four e3)) f back;
    }

pub unbroken_right : (image : Image) (at : ℕ) (i : Instruction) → Right image at i → instruction_breaches image at i ≡ []
unfolding instruction_breaches
unbroken_right image at i r =
    both_none (mark Numbers table.Code at (has_number image i)) _ (no_mark Numbers table.Code at (has_number image i) r.number)
    (both_none (mark Addresses table.Code at (names_in_part image at (named_address i))) _ (no_mark Addresses table.Code at (names_in_part image at (named_address i)) (named_told image at (named_address i) r.named))
    (both_none (mark Ends table.Code at (goes_on image at i)) _ (no_mark Ends table.Code at (goes_on image at i) (goes_told image at i r.on))
    (no_mark Ticks table.Code at (takes_tick image at (named_address i)) (ticks_told image at (named_address i) r.ticks))))

-- All of the code.

pub right_at : (image : Image) (at : ℕ) (is : List Instruction) → code_breaches image at is ≡ []
    → (a : ℕ) (i : Instruction) → instruction_from at is a ≡ Some i → Right image a i
right_at image at [] e a i f = cc
right_at image at (j ∷ is) e a i f =
    let one = instruction_breaches image at j in
    let more = code_breaches image (at + width j) is in
    by (nat_eq at a) refl f (right_by image at j (first_none one more e)) (right_at image (at + width j) is (second_none one more e) a i)
  where
    by : (t : Bool) → nat_eq at a ≡ t → (if t then Some j else instruction_from (at + width j) is a) ≡ Some i
        → Right image at j → (instruction_from (at + width j) is a ≡ Some i → Right image a i) → Right image a i
    by true same g r later =
        let here : at ≡ a = same_number at a same in
        let it : j ≡ i = cc in
        subst (λ x. Right image a x) it (subst (λ b. Right image b j) here r)
    by false apart g r later = later g

pub numbers_hold : (image : Image) (at : ℕ) (is : List Instruction) → All HasWord is → code_breaches image at is ≡ [] → All (HasNumber image) is
numbers_hold image at [] w e = All-nil (HasNumber image)
numbers_hold image at (j ∷ is) w e =
    let one = instruction_breaches image at j in
    let more = code_breaches image (at + width j) is in
    let r = right_by image at j (first_none one more e) in
    All-cons (HasNumber image) j is (number_holds image j (All-head HasWord j is w) r.number)
    (numbers_hold image (at + width j) is (λ k d within. w (suc k) d (omega (arith, within))) (second_none one more e))

-- Routines and points.

pub slot_stands : (image : Image) → StandsFor (has_slot image) (λ (slot : Slot). slot.typ < length image.types)
slot_stands image = record { holds = λ slot e. below slot.typ (length image.types) e; told = λ slot l. is_below slot.typ (length image.types) l }

pub operand_stands : (image : Image) → StandsFor (has_operand image) (λ (operand : Operand). operand.typ < length image.types)
operand_stands image = record { holds = λ operand e. below operand.typ (length image.types) e; told = λ operand l. is_below operand.typ (length image.types) l }

result_holds : (image : Image) (result : Option ℕ) → has_result image result ≡ true → IfSome result (λ typ. typ < length image.types)
result_holds image None e = tt
result_holds image (Some typ) e = below typ (length image.types) e

result_told : (image : Image) (result : Option ℕ) → IfSome result (λ typ. typ < length image.types) → has_result image result ≡ true
result_told image None h = refl
result_told image (Some typ) h = is_below typ (length image.types) h

routine_holds : (image : Image) (r : Routine) → has_routine image r ≡ true → HasRoutine image r
routine_holds image r e =
    let slots = list_all (has_slot image) r.slots in
    let few = nat_le r.arguments (length r.slots) in
    let rest : (has_result image r.result && few) ≡ true = second_half slots (has_result image r.result && few) e in
    record {
      slots = all_hold (has_slot image) (λ (slot : Slot). slot.typ < length image.types) (slot_stands image) r.slots (first_half slots (has_result image r.result && few) e);
      result = result_holds image r.result (first_half (has_result image r.result) few rest);
      arguments = at_most r.arguments (length r.slots) (second_half (has_result image r.result) few rest);
    }

pub routine_told : (image : Image) (r : Routine) → HasRoutine image r → has_routine image r ≡ true
routine_told image r h =
    both_halves (list_all (has_slot image) r.slots) (has_result image r.result && nat_le r.arguments (length r.slots))
    (all_told (has_slot image) (λ (slot : Slot). slot.typ < length image.types) (slot_stands image) r.slots h.slots)
    (both_halves (has_result image r.result) (nat_le r.arguments (length r.slots)) (result_told image r.result h.result) (is_at_most r.arguments (length r.slots) h.arguments))

-- addresses of instructions, each above the one before
abbrev pub Rise : Image → Option ℕ → List ℕ → Type 0
Rise image before [] = Unit {0}
Rise image before (address ∷ addresses) = (is_place image before address ≡ true) × Rise image (Some address) addresses

pub routines_hold : (image : Image) (k : ℕ) (before : Option ℕ) (routines : List Routine) → routine_breaches image k before routines ≡ []
    → All (HasRoutine image) routines × Rise image before (map (λ (r : Routine). r.address) routines)
routines_hold image k before [] e = (All-nil (HasRoutine image), tt)
routines_hold image k before (r ∷ routines) e =
    let one = mark Numbers table.Routines k (has_routine image r) in
    let two = mark Addresses table.Code r.address (is_place image before r.address) in
    let more = routine_breaches image (k + 1) (Some r.address) routines in
    let behind = second_none one (two ++ more) e in
    let rest = routines_hold image (k + 1) (Some r.address) routines (second_none two more behind) in (
      All-cons (HasRoutine image) r routines (routine_holds image r (unmarked Numbers table.Routines k (has_routine image r) (first_none one (two ++ more) e))) rest.0,
      (unmarked Addresses table.Code r.address (is_place image before r.address) (first_none two more behind), rest.1),
    )

pub points_hold : (image : Image) (k : ℕ) (before : Option ℕ) (points : List Point) → point_breaches image k before points ≡ []
    → All (HasPoint image) points × Rise image before (map (λ (p : Point). p.address) points)
points_hold image k before [] e = (All-nil (HasPoint image), tt)
points_hold image k before (p ∷ points) e =
    let test = list_all (has_operand image) p.stack in
    let one = mark Numbers table.Points k test in
    let two = mark Addresses table.Code p.address (is_place image before p.address) in
    let more = point_breaches image (k + 1) (Some p.address) points in
    let behind = second_none one (two ++ more) e in
    let rest = points_hold image (k + 1) (Some p.address) points (second_none two more behind) in (
      All-cons (HasPoint image) p points (all_hold (has_operand image) (λ (operand : Operand). operand.typ < length image.types) (operand_stands image) p.stack (unmarked Numbers table.Points k test (first_none one (two ++ more) e))) rest.0,
      (unmarked Addresses table.Code p.address (is_place image before p.address) (first_none two more behind), rest.1),
    )

place_begun : (image : Image) (before : Option ℕ) (address : ℕ) → is_place image before address ≡ true → is_begun image address ≡ true
place_begun image before address e = first_half (is_begun image address) (is_above before address) e

place_above : (image : Image) (before : Option ℕ) (address : ℕ) → is_place image before address ≡ true → is_above before address ≡ true
place_above image before address e = second_half (is_begun image address) (is_above before address) e

pub all_begun : {A : Type 0} (image : Image) (address : A → ℕ) (before : Option ℕ) (xs : List A) → Rise image before (map address xs)
    → All (λ (x : A). IsBegun image.code (address x)) xs
all_begun image address before [] h = All-nil (λ x. IsBegun image.code (address x))
all_begun image address before (x ∷ xs) h =
    All-cons (λ x. IsBegun image.code (address x)) x xs (begun_holds image (address x) (place_begun image before (address x) h.0)) (all_begun image address (Some (address x)) xs h.1)

all_above : (image : Image) (before : ℕ) (all : List ℕ) → Rise image (Some before) all → (j m : ℕ) → slice_get all j ≡ Some m → before < m
all_above image before [] h j m e = cc
all_above image before (a ∷ all) h zero m e =
    let same : a ≡ m = cc in let over = below before a (place_above image (Some before) a h.0) in omega (arith, over, same)
all_above image before (a ∷ all) h (suc j) m e =
    let over = below before a (place_above image (Some before) a h.0) in
    let more = all_above image a all h.1 j m e in omega (arith, over, more)

pub ascends : (image : Image) (before : Option ℕ) (all : List ℕ) → Rise image before all → Ascend all
ascends image before [] h i j n m l e f = cc
ascends image before (a ∷ all) h zero zero n m l e f = absurd (omega (arith, l))
ascends image before (a ∷ all) h zero (suc j) n m l e f =
    let same : a ≡ n = cc in let more = all_above image a all h.1 j m f in omega (arith, more, same)
ascends image before (a ∷ all) h (suc i) zero n m l e f = absurd (omega (arith, l))
ascends image before (a ∷ all) h (suc i) (suc j) n m l e f = ascends image (Some a) all h.1 i j n m (omega (arith, l)) e f

pub globals_hold : (image : Image) (k : ℕ) (globals : List ℕ) → global_breaches image k globals ≡ [] → All (λ typ. typ < length image.types) globals
globals_hold image k [] e = All-nil (λ typ. typ < length image.types)
globals_hold image k (typ ∷ globals) e =
    let one = mark Numbers table.Globals k (is_type image typ) in
    let more = global_breaches image (k + 1) globals in
    All-cons (λ t. t < length image.types) typ globals (below typ (length image.types) (unmarked Numbers table.Globals k (is_type image typ) (first_none one more e)))
    (globals_hold image (k + 1) globals (second_none one more e))
