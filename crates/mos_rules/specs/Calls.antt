-- Calls of routines and of the library, and cells of arrays, by their arguments or indexes.

use Rattle.std.specs.Prelude.{ℕ, not, ◌==◌, List, Option, Some, None, slice_get, length}
use Rattle.mos_text.specs.declared.kind.Kind.{Kind}
use Rattle.mos_text.specs.declared.kind.Kind.TheVariants.{Args}
use Rattle.mos_names.specs.NameLists.{Name}
use Rattle.mos_sorts.specs.declared.sort.Sort.{Sort}
use Rattle.mos_sorts.specs.declared.sort.Sort.TheVariants as s
use Rattle.mos_sorts.specs.declared.sort.ArraySort.{ArraySort}
use Rattle.mos_sorts.specs.declared.typed.Typed.{Typed}
use Rattle.mos_sorts.specs.declared.typed.Typed.TheVariants as t
use Rattle.mos_sorts.specs.declared.typed.Where.{Where}
use Rattle.mos_sorts.specs.declared.scope.Signature.{Signature}
use Rattle.mos_sorts.specs.declared.function.Function.{Function}
use Rattle.mos_sorts.specs.declared.function.Callable.{Callable}
use Rattle.mos_sorts.specs.Kinds.{least, breaks}
use Rattle.mos_sorts.specs.Library.{sort_given, wrong_call}
use Rattle.mos_rules.specs.Results.{Seen, Row, with_tree, without_type}

-- a wrong number of arguments or indexes
abbrev pub wrong_number : ℕ → List Typed → List Kind
wrong_number wanted all = breaks (not (length all == wanted)) Args

-- the value of a call of a routine; a procedure has none
abbrev pub routine_value : Option Sort → Name → List Typed → Option Kind → Seen
routine_value (Some sort) n all worst = with_tree (t.Routine sort n all) worst
routine_value None n all worst = without_type worst

-- a call of a routine of the source
abbrev pub routine : Signature → Name → Row → Seen
routine signature n row =
    routine_value signature.result n row.trees (least row.worst (wrong_number (length signature.formals) row.trees))

-- the value of a call of the library
abbrev pub library_value : Option Sort → Function → List Typed → Option Kind → Seen
library_value (Some sort) function all worst = with_tree (t.Library sort function all) worst
library_value None function all worst = without_type worst

-- a call of the library
abbrev pub library : Callable → Row → Seen
library callable row =
    library_value
    (sort_given callable.gives row.trees)
    callable.function
    row.trees
    (least row.worst (wrong_call callable.takes row.trees))

-- the array type of this number
abbrev pub array_of : List ArraySort → Sort → Option ArraySort
array_of arrays (s.Array number) = slice_get arrays number
array_of arrays _ = None

-- a cell, where the name is that of an array
abbrev pub cell : Option ArraySort → Where → Name → Row → Seen
cell (Some array) place n row =
    with_tree
    (t.Cell array.cell array.dynamic place n row.trees)
    (least row.worst (wrong_number (length array.indexes) row.trees))
cell None place n row = without_type row.worst
