-- Which sources are accepted, and why and where the others are refused.

use Rattle.std.specs.Prelude.{◌≡◌, ℕ, List, Some, None}
use Rattle.mos_text.specs.declared.kind.Kind.{Kind}
use Rattle.mos_tree.specs.declared.source.Tree.{Tree}
use Rattle.mos_parse.specs.Parsed.{IsParsed, IsSyntaxFault}
use Rattle.mos_check.specs.NotBuilt.{unbuilt_of}
use Rattle.mos_check.specs.Names.{Names, Wrong, Knows, check_of}

-- each name has a value before it is used, and loops are left and continued inside alone
pub record IsChecked (tree : Tree) : Type 0 where
  pub names : Names
  pub known : check_of tree ≡ Knows names

-- each piece of the tree can be run, and the tree is checked
pub record IsSound (tree : Tree) : Type 0 where
  pub built : unbuilt_of tree ≡ None
  pub checked : IsChecked tree

-- what is wrong with a tree: a piece that cannot be run, or else what the check finds
pub data IsWrongAt : Tree → ℕ → Kind → Type 0 where
  not_built : (tree : Tree) (line : ℕ) (kind : Kind) → unbuilt_of tree ≡ Some (line, kind) → IsWrongAt tree line kind
  found : (tree : Tree) (line : ℕ) (kind : Kind) → unbuilt_of tree ≡ None → check_of tree ≡ Wrong line kind → IsWrongAt tree line kind

-- the source has this tree, which is sound
pub record IsAccepted (source : List ℕ) (tree : Tree) : Type 0 where
  pub parsed : IsParsed source tree
  pub sound : IsSound tree

-- the line where a source is refused, and the kind: a fault of tokens or grammar, or else what is wrong with its tree
pub data IsRefusedAt : List ℕ → ℕ → Kind → Type 0 where
  unparsed : (source : List ℕ) (line : ℕ) (kind : Kind) → IsSyntaxFault source line kind → IsRefusedAt source line kind
  wrong : (source : List ℕ) (line : ℕ) (kind : Kind) (tree : Tree) → IsParsed source tree → IsWrongAt tree line kind → IsRefusedAt source line kind

-- the code of a source that is refused: 1 for a fault of tokens or grammar and for a piece that cannot be
-- run, 2 for what the check finds
pub data HasCode : List ℕ → ℕ → Type 0 where
  no_sentence : (source : List ℕ) (line : ℕ) (kind : Kind) → IsSyntaxFault source line kind → HasCode source 1
  not_runnable : (source : List ℕ) (tree : Tree) (line : ℕ) (kind : Kind) → IsParsed source tree → unbuilt_of tree ≡ Some (line, kind) → HasCode source 1
  not_checked : (source : List ℕ) (tree : Tree) (line : ℕ) (kind : Kind) → IsParsed source tree → unbuilt_of tree ≡ None → check_of tree ≡ Wrong line kind → HasCode source 2

-- the source has one tree, and no fault
pub record IsOnlyTree (source : List ℕ) (tree : Tree) : Type 0 where
  pub one : (other : Tree) → IsAccepted source other → tree ≡ other
  pub never : (line : ℕ) (kind : Kind) → IsRefusedAt source line kind → ⊥

-- the source has one fault, and no tree
pub record IsOnlyRefusal (source : List ℕ) (line : ℕ) (kind : Kind) : Type 0 where
  pub one : (at : ℕ) (what : Kind) → IsRefusedAt source at what → (line ≡ at) × (kind ≡ what)
  pub never : (tree : Tree) → IsAccepted source tree → ⊥
