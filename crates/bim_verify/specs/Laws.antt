-- An image that breaks none of the rules on numbers, types, addresses, parts and ticks keeps those of `bim_code`, and the
-- other way round.

use Rattle.std.specs.Prelude.{◌≡◌, ◌<◌, ◌^◌, [], All, FitsSigned}
use Rattle.std.specs.Int.{w32}
use Rattle.bim_code.specs.declared.image.Image.{Image}
use Rattle.bim_code.specs.declared.image.Default.{Default}
use Rattle.bim_code.specs.declared.image.Default.TheVariants.{Number, Truth, Constant}
use Rattle.bim_code.specs.declared.image.Parameter.{Parameter}
use Rattle.bim_code.specs.declared.instruction.Instruction.{Instruction}
use Rattle.bim_code.specs.declared.instruction.Instruction.TheVariants.{PushInt, Jump, JumpIf, JumpNot}
use Rattle.bim_code.specs.Rules.{KeepsRules}
use Rattle.bim_rules.specs.Images.{plain_breaches}

-- integers and addresses have 32 bits
abbrev pub HasWord : Instruction → Type 0
HasWord (PushInt n) = FitsSigned w32 n
HasWord (Jump address) = address < 2 ^ 32
HasWord (JumpIf address) = address < 2 ^ 32
HasWord (JumpNot address) = address < 2 ^ 32
HasWord i = Unit {0}

-- so do the integers of defaults
abbrev pub HasWordDefault : Default → Type 0
HasWordDefault (Number n) = FitsSigned w32 n
HasWordDefault (Truth b) = Unit {0}
HasWordDefault (Constant constant) = Unit {0}

-- all of these
pub record HasWords (image : Image) : Type 0 where
  pub code : All HasWord image.code
  pub defaults : All (λ (p : Parameter). HasWordDefault p.default) image.params

-- an image that breaks none of the rules keeps them
abbrev pub UnbrokenIsKept : Type 0
UnbrokenIsKept = (image : Image) → HasWords image → plain_breaches image ≡ [] → KeepsRules image

-- an image that keeps the rules breaks none
abbrev pub KeptIsUnbroken : Type 0
KeptIsUnbroken = (image : Image) → KeepsRules image → plain_breaches image ≡ []
