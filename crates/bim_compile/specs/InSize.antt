-- As the compiler goes about it: models that are in size for an image. Their literals are of 32 bits,
-- their texts are not long, and they are not large.

use Rattle.std.specs.Prelude.{◌<◌, ◌^◌, length, FitsSigned}
use Rattle.std.specs.Int.{w32}
use Rattle.mos_meaning.specs.Syntax.{Expression, number, text, apply, Shown, nothing_shown, shown_then, CoreStatement, assign, change, write, perform, tell_hub, if_, while_, do_, break_, next_, unbuilt_statement, Arms, else_, elif, Block, no_statement, statement_then}
use Rattle.bim_compile.specs.Sizes.{size_of_block}

-- each literal is of 32 bits, and each text shorter than 2 ^ 32
abbrev pub IsSmall : Expression → Type 0
IsSmall (number n) = FitsSigned w32 n
IsSmall (text t) = length t < 2 ^ 32
IsSmall (apply operator a b) = IsSmall a × IsSmall b
IsSmall _ = Unit {0}

-- what is printed
abbrev pub AreSmall : Shown → Type 0
AreSmall nothing_shown = Unit {0}
AreSmall (shown_then e es) = IsSmall e × AreSmall es

abbrev mutual
  -- a statement
  pub IsSmallStatement : CoreStatement → Type 0
  IsSmallStatement (assign line scope n e) = IsSmall e
  IsSmallStatement (change line operator scope n e) = IsSmall e
  IsSmallStatement (write line newline all) = AreSmall all
  IsSmallStatement (if_ line all) = AreSmallArms all
  IsSmallStatement (while_ line e body) = IsSmall e × IsSmallStatement body
  IsSmallStatement (do_ all) = IsSmallBlock all
  IsSmallStatement (perform line routine all) = Unit {0}
  IsSmallStatement (tell_hub line function all) = Unit {0}
  IsSmallStatement (break_ line) = Unit {0}
  IsSmallStatement (next_ line) = Unit {0}
  IsSmallStatement unbuilt_statement = Unit {0}

  -- branches
  pub AreSmallArms : Arms → Type 0
  AreSmallArms (else_ all) = IsSmallBlock all
  AreSmallArms (elif line e all rest) = IsSmall e × IsSmallBlock all × AreSmallArms rest

  -- the statements of a block
  pub IsSmallBlock : Block → Type 0
  IsSmallBlock no_statement = Unit {0}
  IsSmallBlock (statement_then e rest) = IsSmallStatement e × IsSmallBlock rest

-- the size is what the compiler counts
pub record IsInSize (model : Block) : Type 0 where
  pub small : IsSmallBlock model
  pub size : size_of_block model < 2 ^ 24
