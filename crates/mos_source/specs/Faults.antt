-- The faulty piece: behind the longest run of pieces with which some source begins. And its kind.

use Rattle.std.specs.Prelude.{◌≡◌, ℕ, List, [], ◌∷◌, ◌++◌, Option, Some, None}
use Rattle.mos_text.specs.declared.kind.Kind.{Kind}
use Rattle.mos_text.specs.declared.kind.Kind.TheVariants as error_kind
use Rattle.mos_tree.specs.declared.form.PieceKind.{PieceKind}
use Rattle.mos_tree.specs.declared.form.PieceForm.{PieceForm}
use Rattle.mos_tree.specs.Forms.{piece_kind_of}
use Rattle.mos_source.specs.Limits.{broken_kind}
use Rattle.mos_source.specs.Sources.{Source, spell_source, IsWithin, limit}

-- a source within the limits begins with these pieces
pub record Begins (pieces : List PieceForm) : Type 0 where
  pub source : Source
  pub within : IsWithin limit source
  pub rest : List PieceForm
  pub exact : spell_source source ≡ pieces ++ rest

-- no source begins with these pieces and the next one, or, where there is none, they are no source
abbrev pub IsStuck : List PieceForm → List PieceForm → Type 0
IsStuck before [] = (source : Source) → IsWithin limit source → spell_source source ≡ before → ⊥
IsStuck before (x ∷ after) = Begins (before ++ x ∷ []) → ⊥

-- the first of the pieces behind `before` is the faulty one; where there is none, the pieces end too early
pub record IsFaulty (before after : List PieceForm) : Type 0 where
  pub begun : Begins before
  pub stuck : IsStuck before after

-- another piece of this kind could stand behind these, however deep the blocks
pub record CouldStand (before : List PieceForm) (piece_kind : PieceKind) : Type 0 where
  pub other : PieceForm
  pub alike : piece_kind_of other.form ≡ piece_kind
  pub source : Source
  pub deep : ℕ
  pub within : IsWithin deep source
  pub rest : List PieceForm
  pub exact : spell_source source ≡ before ++ other ∷ rest

-- the kind of the fault: the limit that the piece breaks where it could stand but for this limit
pub data IsKind (before : List PieceForm) : List PieceForm → Kind → Type 0 where
  too_early : IsKind before [] error_kind.Syntax
  beyond : (x : PieceForm) (after : List PieceForm) → CouldStand before (piece_kind_of x.form) → IsKind before (x ∷ after) (broken_kind x.form)
  misplaced : (x : PieceForm) (after : List PieceForm) → (CouldStand before (piece_kind_of x.form) → ⊥) → IsKind before (x ∷ after) error_kind.Syntax

-- the line of the first of these pieces; where there is none, there is no line
abbrev pub line_of_first : List PieceForm → Option ℕ
line_of_first [] = None
line_of_first (x ∷ after) = Some x.line

-- the faulty one of these pieces is on this line, and its fault of this kind
pub record FaultyOn (pieces : List PieceForm) (line : Option ℕ) (kind : Kind) : Type 0 where
  pub before : List PieceForm
  pub after : List PieceForm
  pub cut : pieces ≡ before ++ after
  pub line_is : line ≡ line_of_first after
  pub faulty : IsFaulty before after
  pub named : IsKind before after kind
