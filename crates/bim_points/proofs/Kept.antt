-- With points of its code an image keeps the rules that it kept before.

use Rattle.std.proofs.Common.{◌≡◌, ◌≤◌, ◌<◌, ◌+◌, ℕ, zero, suc, Bool, true, false, List, [], ◌∷◌, Some, All, refl, ◌∙◌, map, slice_get, nat_eq, arith}
use Rattle.std.specs.Prelude.{if◌then◌else◌}
use Rattle.std.proofs.lemmas.Bool.Decides.{nat_tests}
use Rattle.std.proofs.lemmas.List.Elements.{All-cons, All-nil}
use Rattle.bim_code.specs.declared.image.Image.{Image}
use Rattle.bim_code.specs.declared.image.Point.{Point}
use Rattle.bim_code.specs.declared.instruction.Instruction.{Instruction}
use Rattle.bim_code.specs.Code.{instruction_from}
use Rattle.bim_code.specs.Rows.{width}
use Rattle.bim_code.specs.Rules.{HasPoint, IsBegun, Ascend, KeepsRules}
use Rattle.bim_points.specs.Wanted.{empty_point, empty_points}
use Rattle.bim_points.specs.Laws.{with_points}
use Rattle.bim_points.proofs.Same.{self}

-- they do not lie before the code
not_before : (chosen : ℕ → Bool) (at : ℕ) (code : List Instruction) (k n : ℕ) → slice_get (map (λ (p : Point). p.address) (empty_points chosen at code)) k ≡ Some n
    → at ≤ n
not_before chosen at [] k n e = cc
not_before chosen at (i ∷ is) k n e = by (chosen at) k e (not_before chosen (at + width i) is)
  where
    by : (t : Bool) (k : ℕ)
        → slice_get (map (λ (p : Point). p.address) (if t then empty_point at ∷ empty_points chosen (at + width i) is else empty_points chosen (at + width i) is)) k ≡ Some n
        → ((k m : ℕ) → slice_get (map (λ (p : Point). p.address) (empty_points chosen (at + width i) is)) k ≡ Some m → at + width i ≤ m) → at ≤ n
    by true zero f later = let same : at ≡ n = cc in omega (arith, same)
    by true (suc k) f later = let less = later k n f in omega (arith, less)
    by false k f later = let less = later k n f in omega (arith, less)

ascend : (chosen : ℕ → Bool) (at : ℕ) (code : List Instruction) → Ascend (map (λ (p : Point). p.address) (empty_points chosen at code))
ascend chosen at [] = λ k l n m less e f. cc
ascend chosen at (i ∷ is) = λ k l n m less e f. by (chosen at) k l n m less e f (ascend chosen (at + width i) is)
  where
    by : (t : Bool) (k l n m : ℕ) → k < l
        → slice_get (map (λ (p : Point). p.address) (if t then empty_point at ∷ empty_points chosen (at + width i) is else empty_points chosen (at + width i) is)) k ≡ Some n
        → slice_get (map (λ (p : Point). p.address) (if t then empty_point at ∷ empty_points chosen (at + width i) is else empty_points chosen (at + width i) is)) l ≡ Some m
        → Ascend (map (λ (p : Point). p.address) (empty_points chosen (at + width i) is)) → n < m
    by true k zero n m less e f later = absurd (omega (arith, less))
    by true zero (suc l) n m less e f later =
        let same : at ≡ n = cc in
        let past = not_before chosen (at + width i) is l m f in omega (arith, same, past)
    by true (suc k) (suc l) n m less e f later = later k l n m (omega (arith, less)) e f
    by false k l n m less e f later = later k l n m less e f

begun : (all : List Instruction) (chosen : ℕ → Bool) (at : ℕ) (code : List Instruction)
    → ((a : ℕ) → at ≤ a → instruction_from 0 all a ≡ instruction_from at code a)
    → All (λ (p : Point). IsBegun all p.address) (empty_points chosen at code)
begun all chosen at [] same = All-nil (λ (p : Point). IsBegun all p.address)
begun all chosen at (i ∷ is) same = by (chosen at) (i, found) (begun all chosen (at + width i) is later)
  where
    here : (t : Bool) → t ≡ true → (if t then Some i else instruction_from (at + width i) is at) ≡ Some i
    here true e = refl
    here false e = cc

    found : instruction_from 0 all at ≡ Some i
    found = same at (omega arith) ∙ here (nat_eq at at) (self at)

    behind : (a : ℕ) (t : Bool) → nat_eq at a ≡ t → at + width i ≤ a
        → (if t then Some i else instruction_from (at + width i) is a) ≡ instruction_from (at + width i) is a
    behind a true is_at past = let same_place : at ≡ a = grind (arith, nat_tests, is_at) in absurd (omega (arith, same_place, past))
    behind a false is_at past = refl

    later : (a : ℕ) → at + width i ≤ a → instruction_from 0 all a ≡ instruction_from (at + width i) is a
    later a past = same a (omega (arith, past)) ∙ behind a (nat_eq at a) refl past

    by : (t : Bool) → IsBegun all at → All (λ (p : Point). IsBegun all p.address) (empty_points chosen (at + width i) is)
        → All (λ (p : Point). IsBegun all p.address) (if t then empty_point at ∷ empty_points chosen (at + width i) is else empty_points chosen (at + width i) is)
    by true one rest = All-cons (λ (p : Point). IsBegun all p.address) (empty_point at) (empty_points chosen (at + width i) is) one rest
    by false one rest = rest

numbers : (image : Image) (chosen : ℕ → Bool) (at : ℕ) (code : List Instruction) → All (HasPoint image) (empty_points chosen at code)
numbers image chosen at [] = All-nil (HasPoint image)
numbers image chosen at (i ∷ is) = by (chosen at) (numbers image chosen (at + width i) is)
  where
    by : (t : Bool) → All (HasPoint image) (empty_points chosen (at + width i) is)
        → All (HasPoint image) (if t then empty_point at ∷ empty_points chosen (at + width i) is else empty_points chosen (at + width i) is)
    by true rest = All-cons (HasPoint image) (empty_point at) (empty_points chosen (at + width i) is) (All-nil _) rest
    by false rest = rest

pub points_keep : (chosen : ℕ → Bool) (image : Image) → KeepsRules image → KeepsRules (with_points (empty_points chosen 0 image.code) image)
points_keep chosen image keeps = record {
  numbers = record {
    types = keeps.numbers.types;
    parameters = keeps.numbers.parameters;
    globals = keeps.numbers.globals;
    routines = λ k d less. let h = keeps.numbers.routines k d less in record { slots = h.slots; result = h.result; arguments = h.arguments };
    points = numbers (with_points (empty_points chosen 0 image.code) image) chosen 0 image.code;
    code = keeps.numbers.code;
  };
  types = record { flat = keeps.types.flat; defaults = keeps.types.defaults; names = keeps.types.names; slots = keeps.types.slots };
  addresses = record {
    routines_ascend = keeps.addresses.routines_ascend;
    points_ascend = ascend chosen 0 image.code;
    routines = keeps.addresses.routines;
    points = begun image.code chosen 0 image.code (λ a past. refl);
    operands = keeps.addresses.operands;
  };
  ends = record { main = keeps.ends.main; main_is_first = keeps.ends.main_is_first; behind = keeps.ends.behind };
  ticks = record { some = keeps.ticks.some; back = keeps.ticks.back };
}
