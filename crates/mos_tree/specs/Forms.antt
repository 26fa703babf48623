-- What the grammar sees of a piece: its kind, by its form.

use Rattle.std.specs.Prelude.{ℕ, Option, Some, None}
use Rattle.mos_tree.specs.declared.declaration.BaseType.{BaseType}
use Rattle.mos_tree.specs.declared.form.Form.{Form}
use Rattle.mos_tree.specs.declared.form.Form.TheVariants as form_kind
use Rattle.mos_tree.specs.declared.form.ConditionKeyword.TheVariants as condition
use Rattle.mos_tree.specs.declared.form.Keyword.TheVariants as keyword
use Rattle.mos_tree.specs.declared.form.Keyword.{Keyword}
use Rattle.mos_tree.specs.declared.form.ConditionKeyword.{ConditionKeyword}
use Rattle.mos_tree.specs.declared.form.PieceKind.{PieceKind}
use Rattle.mos_tree.specs.declared.form.PieceKind.TheVariants as piece_kind
use Rattle.mos_tree.specs.declared.form.PieceForm.{PieceForm}

-- a heading with a result is that of a function
abbrev pub routine_kind : Option BaseType → PieceKind
routine_kind None = piece_kind.Procedure
routine_kind (Some typ) = piece_kind.Function

-- a reserved word is a piece of its own kind
abbrev pub keyword_kind : Keyword → PieceKind
keyword_kind keyword.EndModel = piece_kind.EndModel
keyword_kind keyword.Parameters = piece_kind.Parameters
keyword_kind keyword.EndParameters = piece_kind.EndParameters
keyword_kind keyword.Declarations = piece_kind.Declarations
keyword_kind keyword.EndDeclarations = piece_kind.EndDeclarations
keyword_kind keyword.EndRecord = piece_kind.EndRecord
keyword_kind keyword.EndProcedure = piece_kind.EndProcedure
keyword_kind keyword.EndFunction = piece_kind.EndFunction
keyword_kind keyword.Else = piece_kind.Else
keyword_kind keyword.EndIf = piece_kind.EndIf
keyword_kind keyword.EndCase = piece_kind.EndCase
keyword_kind keyword.Repeat = piece_kind.Repeat
keyword_kind keyword.Do = piece_kind.Do
keyword_kind keyword.EndDo = piece_kind.EndDo
keyword_kind keyword.EndInitializations = piece_kind.EndInitializations

-- a word with a condition is so too
abbrev pub condition_kind : ConditionKeyword → PieceKind
condition_kind condition.If = piece_kind.If
condition_kind condition.Elif = piece_kind.Elif
condition_kind condition.Case = piece_kind.Case
condition_kind condition.While = piece_kind.While
condition_kind condition.Until = piece_kind.Until

-- the kind of a piece of this form
abbrev pub piece_kind_of : Form → PieceKind
piece_kind_of form_kind.Unknown = piece_kind.Unknown
piece_kind_of (form_kind.TooHigh kind) = kind
piece_kind_of (form_kind.Keyword word) = keyword_kind word
piece_kind_of (form_kind.Model name) = piece_kind.Model
piece_kind_of (form_kind.Uses modules) = piece_kind.Uses
piece_kind_of (form_kind.Options name) = piece_kind.Options
piece_kind_of (form_kind.Definition name value) = piece_kind.Definition
piece_kind_of (form_kind.Typed names typ) = piece_kind.Typed
piece_kind_of (form_kind.RecordOf name) = piece_kind.RecordOf
piece_kind_of (form_kind.Routine name formals result) = routine_kind result
piece_kind_of (form_kind.Forward name formals result) = piece_kind.Forward
piece_kind_of (form_kind.Simple simple) = piece_kind.Simple
piece_kind_of (form_kind.Bare name) = piece_kind.Bare
piece_kind_of (form_kind.Guarded word x) = condition_kind word
piece_kind_of (form_kind.Alternative labels) = piece_kind.Alternative
piece_kind_of (form_kind.Forall index) = piece_kind.Forall
piece_kind_of (form_kind.Initializations direction name) = piece_kind.Initializations
piece_kind_of (form_kind.Labels labels) = piece_kind.Labels

-- a piece of this form that begins on this line
abbrev pub piece : ℕ → Form → PieceForm
piece line form = record { line = line; form = form }
