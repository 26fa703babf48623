-- Code of one part whose stack is empty wherever a jump leads and behind each instruction that leaves: what is asked of it is
-- local, but for where jumps lead.

use Rattle.std.specs.Prelude.{◌≡◌, ◌≤◌, ℕ, Bool, true, false, List, [], ◌∷◌, Option, Some, None, All, length}
use Rattle.bim_code.specs.declared.image.Image.{Image}
use Rattle.bim_code.specs.Rows.{named_address}
use Rattle.bim_code.specs.Rules.{leaves_part}
use Rattle.bim_verify.specs.declared.kinds.Kind.{Kind}
use Rattle.bim_verify.specs.Shapes.{Shape, Breaks, Flows, Goes, Splits, Closes, shape}
use Rattle.bim_points.specs.Annotated.{Step, code_of, step_from}
use Rattle.bim_points.specs.Wanted.{is_wanted, empty_points}

-- a step begins at the address, if there is one, and its stack is empty
abbrev pub IsEmptyAt : List Step → Option ℕ → Type 0
IsEmptyAt all None = Unit {0}
IsEmptyAt all (Some address) = (s : Step) × (step_from 0 all address ≡ Some s) × (s.stack ≡ [])

-- the next step, if there is one, has this stack
abbrev pub NextHas : List Kind → List Step → Type 0
NextHas stack [] = Unit {0}
NextHas stack (s ∷ steps) = s.stack ≡ stack

-- the steps behind an instruction of this shape, which leaves its part or does not
abbrev pub Follows : Bool → Shape → List Step → Type 0
Follows true (Goes stack) steps = (stack ≡ []) × NextHas [] steps
Follows true Closes steps = NextHas [] steps
Follows true (Breaks rule) steps = ⊥
Follows true (Flows stack) steps = ⊥
Follows true (Splits on jump) steps = ⊥
Follows false (Flows stack) steps = NextHas stack steps
Follows false (Splits on jump) steps = (jump ≡ []) × NextHas on steps
Follows false (Breaks rule) steps = ⊥
Follows false (Goes stack) steps = ⊥
Follows false Closes steps = ⊥

-- each of these steps, among all
abbrev pub AreLocal : Image → List Step → List Step → Type 0
AreLocal image all [] = Unit {0}
AreLocal image all (s ∷ steps) =
    IsEmptyAt all (named_address s.instruction)
    × (length s.stack ≤ 40000)
    × Follows (leaves_part s.instruction) (shape image s.instruction s.stack) steps
    × AreLocal image all steps

-- the image is of one part, and has this code, and points where they are wanted alone
pub record IsPlain (image : Image) (steps : List Step) : Type 0 where
  pub alone : image.routines ≡ []
  pub code : image.code ≡ code_of steps
  pub points : image.points ≡ empty_points (is_wanted image.code) 0 image.code
  pub told : All (λ (s : Step). s.told ≡ []) steps
  pub first : NextHas [] steps
  pub local : AreLocal image steps steps
