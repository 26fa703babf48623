-- A form is small where its parts are.

use Rattle.std.proofs.Common.{ℕ, Bool, true, false, List, Option, Some, None}
use Rattle.std.specs.Prelude.{if◌then◌else◌}
use Rattle.mos_value.specs.Answers.{Operator}
use Rattle.mos_meaning.specs.Syntax.{Expression, Shown, write, unbuilt_statement}
use Rattle.mos_meaning.specs.Sources.{application, procedure}
use Rattle.bim_compile.specs.InSize.{IsSmall, AreSmall, IsSmallStatement}

pub applied_small : (o : Option Operator) (a b : Expression) → IsSmall a → IsSmall b → IsSmall (application o a b)
applied_small None a b h k = tt
applied_small (Some o) a b h k = (h, k)

by_name : (line : ℕ) (first second : Bool) (all : Shown) → AreSmall all
    → IsSmallStatement (if first then write line true all else (if second then write line false all else unbuilt_statement))
by_name line true second all h = h
by_name line false true all h = h
by_name line false false all h = tt

pub procedure_small : (line : ℕ) (called : List ℕ) (all : Shown) → AreSmall all → IsSmallStatement (procedure line called all)
procedure_small line called all h = by_name line _ _ all h
