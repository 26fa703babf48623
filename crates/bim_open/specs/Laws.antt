-- Of the same bytes there is one answer.

use Rattle.std.specs.Prelude.{◌≡◌, ℕ, List}
use Rattle.bim_code.specs.declared.image.Image.{Image}
use Rattle.bim_open.specs.Opened.{IsVerified, IsFaultAt}

-- bytes that are a verified image have no fault
abbrev pub VerifiedHasNoFault : Type 0
VerifiedHasNoFault = (bytes : List ℕ) (image : Image) (at rule : ℕ) → IsVerified bytes image → IsFaultAt bytes at rule → ⊥

-- they are one image
abbrev pub OneImage : Type 0
OneImage = (bytes : List ℕ) (image other : Image) → IsVerified bytes image → IsVerified bytes other → image ≡ other

-- others have one fault
abbrev pub OneFault : Type 0
OneFault = (bytes : List ℕ) (at rule place number : ℕ) → IsFaultAt bytes at rule → IsFaultAt bytes place number
    → (at ≡ place) × (rule ≡ number)
