-- As the compiler goes about it: what is known where code is made. Code and meaning find a variable by the
-- same names.

use Rattle.std.specs.Prelude.{List, []}
use Rattle.mos_names.specs.NameLists.{Name}
use Rattle.mos_meaning.specs.Syntax.{Block}
use Rattle.mos_meaning.specs.Sources.{variables_of}
use Rattle.mos_meaning.specs.Values.{Names}

-- the names of the variables; the place of one of the model's is its global slot
pub record Context : Type 0 where
  pub names : Names

-- outside of routines, where the model has these variables
abbrev pub outside_of : List Name → Context
outside_of names = record { names = record { own = []; model = names } }

-- of the statements of a model
abbrev pub context_of : Block → Context
context_of model = outside_of (variables_of model)
