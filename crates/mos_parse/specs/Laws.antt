-- Laws of sources: one has one tree or one fault, never both, never neither.

use Rattle.std.specs.Prelude.{◌≡◌, ℕ, List}
use Rattle.mos_text.specs.declared.kind.Kind.{Kind}
use Rattle.mos_tree.specs.declared.source.Tree.{Tree}
use Rattle.mos_tree.specs.declared.form.PieceForm.{PieceForm}
use Rattle.mos_parse.specs.Parsed.{HasForms, IsParsed, IsSyntaxFault}

-- there is no source without a tree and without a fault of tokens or grammar
abbrev pub NoSourceHasNeither : Type 0
NoSourceHasNeither = (source : List ℕ) → ((tree : Tree) → IsParsed source tree → ⊥)
    → ((line : ℕ) (kind : Kind) → IsSyntaxFault source line kind → ⊥) → ⊥

-- there is no source with a tree and a fault
abbrev pub NoSourceHasBoth : Type 0
NoSourceHasBoth = (source : List ℕ) (tree : Tree) (line : ℕ) (kind : Kind) → IsParsed source tree
    → IsSyntaxFault source line kind → ⊥

-- a source has at most one tree
abbrev pub SourcesHaveOneTree : Type 0
SourcesHaveOneTree = (source : List ℕ) (one other : Tree) → IsParsed source one → IsParsed source other
    → one ≡ other

-- a source has at most one fault
abbrev pub SourcesHaveOneFault : Type 0
SourcesHaveOneFault = (source : List ℕ) (line at : ℕ) (kind what : Kind) → IsSyntaxFault source line kind
    → IsSyntaxFault source at what → (line ≡ at) × (kind ≡ what)

-- the pieces of a source have at most one list of forms
abbrev pub SourcesHaveOneListOfForms : Type 0
SourcesHaveOneListOfForms = (source : List ℕ) (xs ys : List PieceForm) → HasForms source xs → HasForms source ys → xs ≡ ys
