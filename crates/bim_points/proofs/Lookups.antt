-- Where the points of steps stand.

use Rattle.std.proofs.Common.{◌≡◌, ◌<◌, ◌+◌, ℕ, Bool, true, false, List, [], ◌∷◌, Option, Some, None, refl, sym, ap, ◌∙◌, nat_eq, nat_lt, arith}
use Rattle.std.specs.Prelude.{if◌then◌else◌}
use Rattle.std.proofs.lemmas.Bool.Decides.{nat_tests}
use Rattle.bim_code.specs.declared.image.Image.{Image}
use Rattle.bim_code.specs.declared.image.Point.{Point}
use Rattle.bim_code.specs.Code.{code_size}
use Rattle.bim_code.specs.Rows.{width}
use Rattle.bim_verify.specs.Stacks.{first_point, point_at}
use Rattle.bim_points.specs.Annotated.{Step, code_of, point_of, points_from, step_from}

-- the point that a step tells, if it is chosen
abbrev pub told : Bool → ℕ → Option Step → Option Point
told false address found = None
told true address None = None
told true address (Some s) = Some (point_of address s)

told_off : (t : Bool) (address : ℕ) (found : Option Step) → t ≡ false → told t address found ≡ None
told_off true address found e = cc
told_off false address found e = refl

told_none : (t : Bool) (address : ℕ) → None ≡ told t address None
told_none true address = refl
told_none false address = refl

told_on : (t : Bool) (address : ℕ) (s : Step) → t ≡ true → Some (point_of address s) ≡ told t address (Some s)
told_on true address s e = refl
told_on false address s e = cc

-- the first point at an address is that of the step there
pub first_is : (chosen : ℕ → Bool) (at : ℕ) (steps : List Step) (a : ℕ)
    → first_point a (points_from chosen at steps) ≡ told (chosen a) a (step_from at steps a)
first_is chosen at [] a = told_none (chosen a) a
first_is chosen at (s ∷ steps) a = by (first_is chosen (at + width s.instruction) steps a) (chosen at) (nat_eq at a) refl refl
  where
    one : (e : Bool) → nat_eq at a ≡ e → (if e then Some (point_of at s) else first_point a (points_from chosen (at + width s.instruction) steps))
        ≡ told (chosen a) a (if e then Some s else step_from (at + width s.instruction) steps a) → chosen at ≡ true
        → first_point a (point_of at s ∷ points_from chosen (at + width s.instruction) steps)
        ≡ told (chosen a) a (if e then Some s else step_from (at + width s.instruction) steps a)
    one e is h c = rw is h

    by : first_point a (points_from chosen (at + width s.instruction) steps) ≡ told (chosen a) a (step_from (at + width s.instruction) steps a)
        → (t e : Bool) → chosen at ≡ t → nat_eq at a ≡ e
        → first_point a (if t then point_of at s ∷ points_from chosen (at + width s.instruction) steps else points_from chosen (at + width s.instruction) steps)
        ≡ told (chosen a) a (if e then Some s else step_from (at + width s.instruction) steps a)
    by later true true c is =
        let same : at ≡ a = grind (arith, nat_tests, is) in
        one true is (ap (λ (n : ℕ). Some (point_of n s)) same ∙ told_on (chosen a) a s (ap chosen (sym same) ∙ c)) c
    by later true false c is = one false is later c
    by later false true c is =
        let same : at ≡ a = grind (arith, nat_tests, is) in
        let off : chosen a ≡ false = ap chosen (sym same) ∙ c in
        later ∙ told_off (chosen a) a (step_from (at + width s.instruction) steps a) off ∙ sym (told_off (chosen a) a (Some s) off)
    by later false false c is = later

-- a step that is found begins within the code
pub found_within : (at : ℕ) (steps : List Step) (a : ℕ) (s : Step) → step_from at steps a ≡ Some s → a < at + code_size (code_of steps)
found_within at [] a s e = cc
found_within at (x ∷ steps) a s e = by (found_within (at + width x.instruction) steps a s) (nat_eq at a) refl e
  where
    by : (step_from (at + width x.instruction) steps a ≡ Some s → a < (at + width x.instruction) + code_size (code_of steps))
        → (t : Bool) → nat_eq at a ≡ t → (if t then Some x else step_from (at + width x.instruction) steps a) ≡ Some s
        → a < at + (width x.instruction + code_size (code_of steps))
    by later true is f = let same : at ≡ a = grind (arith, nat_tests, is) in omega (arith, same)
    by later false is f = let less = later f in omega (arith, less)

-- so the image has that point there
pub point_is : (image : Image) (chosen : ℕ → Bool) (steps : List Step) → image.code ≡ code_of steps → image.points ≡ points_from chosen 0 steps
    → (a : ℕ) (s : Step) → step_from 0 steps a ≡ Some s → point_at image a ≡ told (chosen a) a (Some s)
point_is image chosen steps code points a s found = by (nat_lt a (code_size image.code)) refl
  where
    within : a < code_size image.code
    within = let less = found_within 0 steps a s found in let same = ap code_size code in omega (arith, less, same)

    by : (t : Bool) → nat_lt a (code_size image.code) ≡ t → (if t then first_point a image.points else None) ≡ told (chosen a) a (Some s)
    by true is = ap (first_point a) points ∙ first_is chosen 0 steps a ∙ ap (told (chosen a) a) found
    by false is = let in_code : nat_lt a (code_size image.code) ≡ true = grind (arith, nat_tests, within) in cc
