-- What the reader of pieces answers.

use Rattle.std.specs.Prelude.{◌≡◌, ℕ, List, ◌++◌, Option, Result, Ok, Err}
use Rattle.mos_tree.specs.declared.source.Tree.{Tree}
use Rattle.mos_source.specs.declared.fault.PieceFault.{PieceFault}
use Rattle.mos_source.specs.declared.fault.PieceFault.TheVariants.{At, NoMemory}
use Rattle.mos_tree.specs.declared.form.PieceForm.{PieceForm}
use Rattle.mos_source.specs.Sources.{Source, IsSource, tree_of}
use Rattle.mos_source.specs.Faults.{IsFaulty, FaultyOn, line_of_first}
use Rattle.mos_source.specs.Productions.{BreaksAt}

-- the tree of a source that these pieces spell
abbrev pub IsTree : List PieceForm → Tree → Type 0
IsTree pieces tree = (x : Source) × IsSource pieces x × (tree ≡ tree_of x)

-- the call answers with this tree, unless it finds no memory
abbrev pub Gives : Result Tree PieceFault → Tree → Type 0
Gives (Ok x) tree = x ≡ tree
Gives (Err NoMemory) tree = Unit {0}
Gives (Err (At line kind)) tree = ⊥

-- the fault has the line of the faulty piece, and its kind
abbrev pub IsFaultOf : List PieceForm → PieceFault → Type 0
IsFaultOf pieces (At line kind) = FaultyOn pieces line kind
IsFaultOf pieces NoMemory = Unit {0}

-- the piece on this line is the faulty one, and there the productions break
pub record BreaksOn (pieces : List PieceForm) (line : Option ℕ) : Type 0 where
  pub before : List PieceForm
  pub after : List PieceForm
  pub cut : pieces ≡ before ++ after
  pub line_is : line ≡ line_of_first after
  pub faulty : IsFaulty before after
  pub breaks : BreaksAt pieces after

-- the fault has the line of the piece at which the productions break
abbrev pub BreaksBy : List PieceForm → PieceFault → Type 0
BreaksBy pieces (At line kind) = BreaksOn pieces line
BreaksBy pieces NoMemory = Unit {0}
