-- What reader and verifier say of bytes is the first fault.

use Rattle.std.proofs.Common.{◌≡◌, ◌+◌, ◌≤◌, ℕ, List, Ok, arith}
use Rattle.bim_code.specs.declared.image.Image.{Image}
use Rattle.bim_read.specs.Images.{IsFaultIn, image_from}
use Rattle.bim_read.specs.declared.read.ImageFault.TheVariants.{BadImage}
use Rattle.bim_rules.specs.declared.breach.Rule.{Rule}
use Rattle.bim_rules.specs.declared.breach.Rule.TheVariants.{Numbers, Types, Addresses, Ends, Stacks, Ticks, Operands, Targets, Returns, Heights}
use Rattle.bim_rules.specs.Breaches.{rule_number}
use Rattle.bim_verify.specs.Verified.{IsToldBy}
use Rattle.bim_open.specs.Opened.{IsFaultAt, unread, refused}

-- there are ten rules
ten : (rule : Rule) → rule_number rule ≤ 10
ten Numbers = omega arith
ten Types = omega arith
ten Addresses = omega arith
ten Ends = omega arith
ten Stacks = omega arith
ten Ticks = omega arith
ten Operands = omega arith
ten Targets = omega arith
ten Returns = omega arith
ten Heights = omega arith

-- by the reader
pub unread_fault : (bytes : List ℕ) (at kind : ℕ) → IsFaultIn bytes (BadImage at kind) (image_from bytes) → IsFaultAt bytes at kind
unread_fault bytes at kind (bad, found, place, number) = unread bad found place number

-- by the verifier
pub refused_fault : (bytes : List ℕ) (image : Image) (at rule number : ℕ) → image_from bytes ≡ Ok image → IsToldBy image at rule
    → (rule ≤ 10 → number ≡ 100 + rule) → IsFaultAt bytes at number
refused_fault bytes image at rule number found told above =
    let small = ten told.breach.rule in
    let e = told.rule_is in
    refused image rule found told (above (omega (arith, small, e)))
