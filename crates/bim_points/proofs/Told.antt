-- Steps that tell empty stacks have the points of their code.

use Rattle.std.proofs.Common.{◌≡◌, ◌+◌, ℕ, Bool, true, false, List, [], ◌∷◌, refl, ap, ◌∙◌, All}
use Rattle.std.specs.Prelude.{if◌then◌else◌}
use Rattle.std.proofs.lemmas.List.Elements.{All-head, All-tail}
use Rattle.bim_code.specs.declared.image.Operand.{Operand}
use Rattle.bim_code.specs.declared.image.Point.{Point}
use Rattle.bim_code.specs.Rows.{width}
use Rattle.bim_points.specs.Annotated.{Step, code_of, point_of, points_from}
use Rattle.bim_points.specs.Wanted.{empty_point, empty_points}

abbrev telling : ℕ → List Operand → Point
telling at stack = record { address = at; stack = stack }

pub empty_told : (chosen : ℕ → Bool) (at : ℕ) (steps : List Step) → All (λ (s : Step). s.told ≡ []) steps
    → points_from chosen at steps ≡ empty_points chosen at (code_of steps)
empty_told chosen at [] all = refl
empty_told chosen at (s ∷ steps) all =
    by (chosen at) (All-head (λ (s : Step). s.told ≡ []) s steps all)
    (empty_told chosen (at + width s.instruction) steps (All-tail (λ (s : Step). s.told ≡ []) s steps all))
  where
    by : (t : Bool) → s.told ≡ []
        → points_from chosen (at + width s.instruction) steps ≡ empty_points chosen (at + width s.instruction) (code_of steps)
        → (if t then point_of at s ∷ points_from chosen (at + width s.instruction) steps else points_from chosen (at + width s.instruction) steps)
        ≡ (if t then empty_point at ∷ empty_points chosen (at + width s.instruction) (code_of steps) else empty_points chosen (at + width s.instruction) (code_of steps))
    by true told rest =
        ap (λ (stack : List Operand). telling at stack ∷ points_from chosen (at + width s.instruction) steps) told
        ∙ ap (λ (all : List Point). empty_point at ∷ all) rest
    by false told rest = rest
