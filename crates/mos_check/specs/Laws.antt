-- A law of checked sources: a run can carry out each of their models.

use Rattle.std.specs.Prelude.{◌≡◌, None}
use Rattle.mos_tree.specs.declared.source.Tree.{Tree}
use Rattle.mos_meaning.specs.Sources.{statements_of, variables_of}
use Rattle.mos_meaning.specs.Working.{AllWork}
use Rattle.mos_check.specs.NotBuilt.{unbuilt_of}
use Rattle.mos_check.specs.Names.{Names, Knows, check_of}

-- where each piece is of a form that can be run, and the check finds no fault, each statement works
abbrev pub CheckedModelsWork : Type 0
CheckedModelsWork = (tree : Tree) (names : Names) → unbuilt_of tree ≡ None → check_of tree ≡ Knows names
    → AllWork (variables_of (statements_of tree)) (statements_of tree)
