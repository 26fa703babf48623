-- Laws of sources and faulty pieces.

use Rattle.std.specs.Prelude.{◌≡◌, ◌⊎◌, ℕ, true, List, [], ◌++◌}
use Rattle.mos_tree.specs.declared.form.PieceKind.{PieceKind}
use Rattle.mos_tree.specs.declared.form.PieceForm.{PieceForm}
use Rattle.mos_source.specs.Sources.{Source, IsSource, tree_of}
use Rattle.mos_source.specs.Faults.{IsFaulty}
use Rattle.mos_source.specs.Productions.{Rule, source, statement_is, differ, Reading, took, Reads, BreaksAt}

-- pieces have at most one tree
abbrev pub HaveOneTree : Type 0
HaveOneTree = (pieces : List PieceForm) (x y : Source) → IsSource pieces x → IsSource pieces y → tree_of x ≡ tree_of y

-- pieces have at most one faulty piece
abbrev pub HaveOneFault : Type 0
HaveOneFault = (before after sooner later : List PieceForm) → before ++ after ≡ sooner ++ later → IsFaulty before after → IsFaulty sooner later → before ≡ sooner

-- pieces with a tree have no faulty piece
abbrev pub HaveNotBoth : Type 0
HaveNotBoth = (before after : List PieceForm) (x : Source) → IsSource (before ++ after) x → IsFaulty before after → ⊥

-- one of the pieces is the faulty one, or they end too early
abbrev pub HasFault : List PieceForm → Type 0
HasFault pieces = (before : List PieceForm) × (after : List PieceForm) × (pieces ≡ before ++ after) × IsFaulty before after

-- pieces have a tree or a faulty piece
abbrev pub HaveOneOfBoth : Type 0
HaveOneOfBoth = (pieces : List PieceForm) → ((x : Source) × IsSource pieces x) ⊎ HasFault pieces

-- the productions break at the faulty piece alone
abbrev pub ProductionsBreakThere : Type 0
ProductionsBreakThere = (before after : List PieceForm) → BreaksAt (before ++ after) after → IsFaulty before after

-- the productions break at each faulty piece
abbrev pub ProductionsBreak : Type 0
ProductionsBreak = (before after : List PieceForm) → IsFaulty before after → BreaksAt (before ++ after) after

-- the alternatives of the grammar differ in the forms of their first pieces
abbrev pub AlternativesDiffer : Type 0
AlternativesDiffer = (x : PieceKind) → (differ source x ≡ true) × (differ statement_is x ≡ true)

-- a production reads pieces in one way
abbrev pub ProductionsReadOneWay : Type 0
ProductionsReadOneWay = (rule : Rule) (depth : ℕ) (pieces : List PieceForm) (one other : Reading) → Reads rule depth pieces one → Reads rule depth pieces other → one ≡ other

-- the productions take all pieces of a source
abbrev pub ProductionsTakeSources : Type 0
ProductionsTakeSources = (pieces : List PieceForm) (x : Source) → IsSource pieces x → Reads source 0 pieces (took [])

-- pieces all of which the productions take are a source
abbrev pub ProductionsTakeNothingElse : Type 0
ProductionsTakeNothingElse = (pieces : List PieceForm) → Reads source 0 pieces (took []) → (x : Source) × IsSource pieces x
