-- The whole file of an image.

use Rattle.std.specs.Prelude.{◌≡◌, ◌-◌, ℕ, List, Result, Ok, Err, All, length, nat_eq, if◌then◌else◌}
use Rattle.std.specs.Str.{IsUtf8}
use Rattle.bim_code.specs.declared.image.Image.{Image}
use Rattle.bim_code.specs.declared.image.ImageType.{ImageType}
use Rattle.bim_code.specs.declared.image.Parameter.{Parameter}
use Rattle.bim_code.specs.declared.image.Routine.{Routine}
use Rattle.bim_code.specs.declared.image.Point.{Point}
use Rattle.bim_code.specs.declared.instruction.Instruction.{Instruction}
use Rattle.bim_code.specs.Limits.{WithinLimits}
use Rattle.bim_format.specs.Fields.{FitsFields}
use Rattle.bim_read.specs.declared.fault.FaultKind.{FaultKind}
use Rattle.bim_read.specs.declared.fault.FaultKind.TheVariants as kind
use Rattle.bim_read.specs.declared.fault.Bad.{Bad}
use Rattle.bim_read.specs.declared.read.ImageFault.{ImageFault}
use Rattle.bim_read.specs.declared.read.ImageFault.TheVariants.{BadImage, NoMemory}
use Rattle.bim_read.specs.Reading.{Found, ◌>>=◌, wrong, made, both, checked, table}
use Rattle.bim_read.specs.Fields.{half_at, word_at, count_at, text_at}
use Rattle.bim_read.specs.Entries.{type_at, parameter_at, routine_at, point_at}
use Rattle.bim_read.specs.Code.{code_at}

-- the kinds by their numbers
abbrev pub kind_number : FaultKind → ℕ
kind_number kind.Letters = 1
kind_number kind.Version = 2
kind_number kind.Short = 3
kind_number kind.Tag = 4
kind_number kind.NotText = 5
kind_number kind.Limit = 6
kind_number kind.Unknown = 7
kind_number kind.Behind = 8

-- the letters MBIM, as one number
abbrev pub letters_at : List ℕ → Found ℕ
letters_at bytes = checked (λ n. nat_eq n 0x4d42494d) kind.Letters word_at bytes

-- version 1
abbrev pub version_at : List ℕ → Found ℕ
version_at bytes = checked (λ n. nat_eq n 1) kind.Version half_at bytes

-- what stands before the tables
unfoldable pub heading_at : List ℕ → Found ℕ
heading_at bytes = letters_at bytes >>= λ letters. version_at letters.1

-- constants, types, parameters and globals
unfoldable pub variables_at : List ℕ → Found (List (List ℕ) × (List ImageType × (List Parameter × List ℕ)))
variables_at bytes =
    both (table (count_at 65536) text_at) (both (table half_at type_at) (both (table half_at parameter_at) (table (count_at 65536) half_at))) bytes

-- routines, points and code
unfoldable pub routines_at : List ℕ → Found (List Routine × (List Point × List Instruction))
routines_at bytes = both (table half_at routine_at) (both (table word_at point_at) code_at) bytes

-- an image of its parts
abbrev pub image_of : (List (List ℕ) × (List ImageType × (List Parameter × List ℕ))) × (List Routine × (List Point × List Instruction)) → Image
image_of p = record {
  constants = p.0.0;
  types = p.0.1.0;
  params = p.0.1.1.0;
  globals = p.0.1.1.1;
  routines = p.1.0;
  points = p.1.1.0;
  code = p.1.1.1;
}

-- the tables
abbrev pub tables_at : List ℕ → Found Image
tables_at bytes = made image_of (both variables_at routines_at) bytes

-- an image at the front of bytes
unfoldable pub image_at : List ℕ → Found Image
image_at bytes = heading_at bytes >>= λ h. tables_at h.1

-- nothing follows
abbrev pub with_end : Image → List ℕ → Result Image Bad
with_end image rest = if nat_eq (length rest) 0 then Ok image else wrong kind.Behind rest

-- the image that the bytes are, or the first wrong field
unfoldable pub image_from : List ℕ → Result Image Bad
image_from bytes = image_at bytes >>= λ x. with_end x.0 x.1

-- an image that a file can hold: within the limits, each number in its field, each constant a text
pub record IsStorable (image : Image) : Type 0 where
  pub within : WithinLimits image
  pub fits : FitsFields image
  pub texts : All IsUtf8 image.constants

-- what is found in bytes, but for want of memory; a fault tells the number of bytes before the wrong field
abbrev pub IsFaultIn : List ℕ → ImageFault → Result Image Bad → Type 0
IsFaultIn bytes NoMemory found = Unit {0}
IsFaultIn bytes (BadImage at kind) found =
    (bad : Bad) × (found ≡ Err bad) × (at ≡ length bytes - bad.left) × (kind ≡ kind_number bad.kind)

-- an answer
abbrev pub IsFoundIn : List ℕ → Result Image ImageFault → Result Image Bad → Type 0
IsFoundIn bytes (Ok image) found = found ≡ Ok image
IsFoundIn bytes (Err fault) found = IsFaultIn bytes fault found
