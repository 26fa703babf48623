-- What the code answers of a name, as what the name stands for.

use Rattle.mos_sorts.specs.declared.meaning.Meaning.{Meaning}
use Rattle.mos_sorts.specs.declared.meaning.Meaning.TheVariants as m
use Rattle.mos_sorts.specs.Scopes.{Index, Declared, Undeclared, Meaning as Stands}

-- what a name stands for, as it is answered
abbrev pub as_meaning : Meaning → Stands
as_meaning (m.Index sort) = Index sort
as_meaning (m.Declared place role) = Declared place role.now
as_meaning m.Undeclared = Undeclared
