-- Code that is sound keeps the rules on stacks.

use Rattle.std.specs.Prelude.{◌≡◌, ℕ, Bool, List, [], All}
use Rattle.bim_code.specs.declared.image.Image.{Image}
use Rattle.bim_code.specs.declared.image.Point.{Point}
use Rattle.bim_code.specs.Rules.{KeepsRules}
use Rattle.bim_verify.specs.Stacks.{Nothing, stack_breaches}
use Rattle.bim_verify.specs.Verified.{KeepsAllRules}
use Rattle.bim_points.specs.Annotated.{Step, IsSound, code_of, points_from}
use Rattle.bim_points.specs.Flowing.{IsFlowing, annotated}
use Rattle.bim_points.specs.Plain.{IsPlain}
use Rattle.bim_points.specs.Wanted.{empty_points, is_wanted}

-- it breaks none of the rules on stacks
abbrev pub SoundIsUnbroken : Type 0
SoundIsUnbroken = (image : Image) (chosen : ℕ → Bool) (steps : List Step) → IsSound image chosen steps → stack_breaches image 0 Nothing image.code ≡ []

-- with the other rules it is verified
abbrev pub SoundIsVerified : Type 0
SoundIsVerified = (image : Image) (chosen : ℕ → Bool) (steps : List Step) → KeepsRules image → IsSound image chosen steps → KeepsAllRules image

-- steps that tell empty stacks have the points of their code
abbrev pub EmptyStacksAreTold : Type 0
EmptyStacksAreTold = (chosen : ℕ → Bool) (at : ℕ) (steps : List Step) → All (λ (s : Step). s.told ≡ []) steps
    → points_from chosen at steps ≡ empty_points chosen at (code_of steps)

-- plain code is sound
abbrev pub PlainIsSound : Type 0
PlainIsSound = (image : Image) (steps : List Step) → IsPlain image steps → IsSound image (is_wanted (code_of steps)) steps

-- an image with other points
abbrev pub with_points : List Point → Image → Image
with_points points image = record {
  constants = image.constants;
  types = image.types;
  params = image.params;
  globals = image.globals;
  routines = image.routines;
  points = points;
  code = image.code;
}

-- an image that keeps the rules but for those on stacks keeps them with points of its code
abbrev pub PointsKeepRules : Type 0
PointsKeepRules = (chosen : ℕ → Bool) (image : Image) → KeepsRules image → KeepsRules (with_points (empty_points chosen 0 image.code) image)

-- flowing code is plain, with the stacks that it makes
abbrev pub FlowingIsPlain : Type 0
FlowingIsPlain = (image : Image) → IsFlowing image → IsPlain image (annotated image [] image.code)
