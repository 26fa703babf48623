-- As the code scans: how far a source is cut. No public clause cites this file.

use Rattle.std.specs.Prelude.{◌≡◌, ℕ, ◌+◌, List, length}
use Rattle.mos_scan.specs.Cuts.{Part, Whole, Stops, tokens_from}
use Rattle.mos_scan.specs.declared.token.Token.{Token}
use Rattle.mos_scan.specs.declared.scanner.Cut.{Cut}
use Rattle.mos_scan.specs.declared.scanner.Cut.TheVariants as cut_kind

-- all that is read, cut into parts
pub record IsWholeCut (bytes : List ℕ) (tokens : List Token) (read : ℕ) : Type 0 where
  pub parts : List Part
  pub left : List ℕ
  pub whole : Whole bytes left parts
  pub are : tokens ≡ tokens_from 0 1 parts
  pub reach : read + length left ≡ length bytes

-- how a source is cut
abbrev pub IsCut : List ℕ → Cut → Type 0
IsCut bytes (cut_kind.Whole tokens read) = IsWholeCut bytes tokens.items read
IsCut bytes (cut_kind.Stopped place kind) = Stops bytes place kind
