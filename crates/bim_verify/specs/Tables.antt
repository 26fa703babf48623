-- As the code goes about it: for each byte of the code the number of the first point there.

use Rattle.std.specs.Prelude.{◌≡◌, ◌+◌, ◌<◌, ℕ, List, [], ◌∷◌, length, Option, Some, None, get_or, slice_set, nat_eq, nat_lt, is_none, ◌&&◌, if◌then◌else◌}
use Rattle.bim_code.specs.declared.image.Image.{Image}
use Rattle.bim_code.specs.declared.image.Point.{Point}
use Rattle.bim_code.specs.Code.{code_size}

-- the number of the first of the points at an address, of points of which the first has this number
abbrev pub first_number : ℕ → ℕ → List Point → Option ℕ
first_number address number [] = None
first_number address number (point ∷ points) =
    if nat_eq point.address address then Some number else first_number address (number + 1) points

-- what the table has there
abbrev pub number_in : List (Option ℕ) → ℕ → Option ℕ
number_in numbers address = get_or numbers address None

-- the table tells the first of the points at each address below its length
abbrev pub Tells : List (Option ℕ) → List Point → Type 0
Tells numbers points = (address : ℕ) → address < length numbers → number_in numbers address ≡ first_number address 0 points

-- a point more, if none is noted there
abbrev pub with_number : List (Option ℕ) → ℕ → ℕ → List (Option ℕ)
with_number numbers number address =
    if nat_lt address (length numbers) && is_none (number_in numbers address) then slice_set numbers address (Some number) else numbers

-- what is found, or else what comes
abbrev pub or_else : Option ℕ → Option ℕ → Option ℕ
or_else None later = later
or_else (Some number) later = Some number

-- what stands beside an image
pub record IsTableOf (image : Image) (numbers : List (Option ℕ)) : Type 0 where
  pub long : length numbers ≡ code_size image.code
  pub tells : Tells numbers image.points
