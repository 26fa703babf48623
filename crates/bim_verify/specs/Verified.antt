-- When an image keeps all ten rules, and which breach comes first where it does not.

use Rattle.std.specs.Prelude.{◌≡◌, List, [], ◌++◌, false, All, ℕ}
use Rattle.std.specs.List.{Contains}
use Rattle.bim_code.specs.declared.image.Image.{Image}
use Rattle.bim_rules.specs.declared.breach.Breach.{Breach}
use Rattle.bim_rules.specs.Breaches.{comes_before, rule_number}
use Rattle.bim_rules.specs.Images.{plain_breaches}
use Rattle.bim_verify.specs.Stacks.{Nothing, stack_breaches}
use Rattle.bim_verify.specs.declared.verifier.VerifyFault.{VerifyFault}
use Rattle.bim_verify.specs.declared.verifier.VerifyFault.TheVariants.{Rejected, NoMemory}

-- all places where an image breaks a rule
abbrev pub breaches : Image → List Breach
breaches image = plain_breaches image ++ stack_breaches image 0 Nothing image.code

-- it breaks none
abbrev pub KeepsAllRules : Image → Type 0
KeepsAllRules image = breaches image ≡ []

-- one of the breaches, and no other comes before it
pub record IsFirstBreach (image : Image) (breach : Breach) : Type 0 where
  pub there : Contains (breaches image) breach
  pub first : All (λ other. comes_before other breach ≡ false) (breaches image)

-- the breach that a fault tells: the least rule that is broken, and its first place
pub record IsToldBy (image : Image) (at rule : ℕ) : Type 0 where
  pub breach : Breach
  pub is_first : IsFirstBreach image breach
  pub at_is : at ≡ breach.at
  pub rule_is : rule ≡ rule_number breach.rule

-- why an image is refused
abbrev pub IsFaultOf : Image → VerifyFault → Type 0
IsFaultOf image (Rejected at rule) = IsToldBy image at rule
IsFaultOf image NoMemory = Unit {0}
