-- What bytes are: a verified image, or not, and where and why not.

use Rattle.std.specs.Prelude.{◌≡◌, ◌+◌, ◌-◌, ℕ, List, length, Ok, Err}
use Rattle.bim_code.specs.declared.image.Image.{Image}
use Rattle.bim_read.specs.declared.fault.Bad.{Bad}
use Rattle.bim_read.specs.Images.{image_from, kind_number}
use Rattle.bim_verify.specs.Verified.{KeepsAllRules, IsToldBy}
use Rattle.bim_open.specs.declared.open.OpenFault.{OpenFault}
use Rattle.bim_open.specs.declared.open.OpenFault.TheVariants.{BadInput, NoMemory}

-- the bytes are this image, and it keeps all rules
pub record IsVerified (bytes : List ℕ) (image : Image) : Type 0 where
  pub read : image_from bytes ≡ Ok image
  pub keeps : KeepsAllRules image

-- the place of the first fault of bytes, and its number
pub data IsFaultAt (bytes : List ℕ) (at rule : ℕ) : Type 0 where
  -- they are no image: the first wrong field, and the kind of its fault
  unread : (bad : Bad) → image_from bytes ≡ Err bad → at ≡ length bytes - bad.left → rule ≡ kind_number bad.kind
      → IsFaultAt bytes at rule
  -- the image breaks a rule: 100 more than the least, at its first place
  refused : (image : Image) (number : ℕ) → image_from bytes ≡ Ok image → IsToldBy image at number → rule ≡ 100 + number
      → IsFaultAt bytes at rule

-- why bytes are no verified image, but for want of memory
abbrev pub IsFaultOf : List ℕ → OpenFault → Type 0
IsFaultOf bytes (BadInput at rule) = IsFaultAt bytes at rule
IsFaultOf bytes NoMemory = Unit {0}
