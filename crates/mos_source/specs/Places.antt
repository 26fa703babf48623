-- As the code decides which pieces may stand where, and what they do there. No public clause cites it.

use Rattle.std.specs.Prelude.{Bool, true, false, if◌then◌else◌, Option, Some, None}
use Rattle.mos_tree.specs.declared.form.PieceKind.{PieceKind}
use Rattle.mos_tree.specs.declared.form.PieceKind.TheVariants as m
use Rattle.mos_source.specs.declared.place.Place.{Place}
use Rattle.mos_source.specs.declared.place.Place.TheVariants as place_kind
use Rattle.mos_source.specs.declared.place.Role.{Role}
use Rattle.mos_source.specs.declared.place.Role.TheVariants.{Opens, Continues, StandsAlone, Closes}

-- a statement may begin at the place
abbrev pub takes_statements : Place → Bool
takes_statements place_kind.Start = false
takes_statements place_kind.Parameters = false
takes_statements place_kind.Declarations = false
takes_statements place_kind.Record = false
takes_statements place_kind.Case = false
takes_statements place_kind.Initializations = false
takes_statements place_kind.End = false
takes_statements _ = true

-- what the first piece of a statement does
abbrev pub begins : PieceKind → Option Role
begins m.Simple = Some StandsAlone
begins m.Bare = Some StandsAlone
begins m.If = Some Opens
begins m.Case = Some Opens
begins m.Forall = Some Opens
begins m.While = Some Opens
begins m.Repeat = Some Opens
begins m.Do = Some Opens
begins m.Initializations = Some Opens
begins _ = None

-- at the top of a model
abbrev pub top_role : PieceKind → Option Role
top_role m.Parameters = Some Opens
top_role m.Declarations = Some Opens
top_role m.Procedure = Some Opens
top_role m.Function = Some Opens
top_role m.Forward = Some StandsAlone
top_role m.EndModel = Some Closes
top_role _ = None

-- what a piece does at the place, statements aside
abbrev pub own_role : Place → PieceKind → Option Role
own_role place_kind.Start m.Model = Some Opens
own_role place_kind.Heads m.Uses = Some Continues
own_role place_kind.Heads m.Options = Some Continues
own_role place_kind.Heads piece_kind = top_role piece_kind
own_role place_kind.Tops piece_kind = top_role piece_kind
own_role place_kind.Parameters m.Definition = Some Continues
own_role place_kind.Parameters m.EndParameters = Some Closes
own_role place_kind.Declarations m.Definition = Some Continues
own_role place_kind.Declarations m.Typed = Some Continues
own_role place_kind.Declarations m.RecordOf = Some Opens
own_role place_kind.Declarations m.EndDeclarations = Some Closes
own_role place_kind.Record m.Typed = Some Continues
own_role place_kind.Record m.EndRecord = Some Closes
own_role place_kind.Procedure m.Declarations = Some Opens
own_role place_kind.Procedure m.EndProcedure = Some Closes
own_role place_kind.Function m.Declarations = Some Opens
own_role place_kind.Function m.EndFunction = Some Closes
own_role place_kind.IfArm m.Elif = Some Continues
own_role place_kind.IfArm m.Else = Some Continues
own_role place_kind.IfArm m.EndIf = Some Closes
own_role place_kind.IfElse m.EndIf = Some Closes
own_role place_kind.Case m.Alternative = Some Continues
own_role place_kind.Case m.Else = Some Continues
own_role place_kind.Case m.EndCase = Some Closes
own_role place_kind.CaseElse m.EndCase = Some Closes
own_role place_kind.Repeat m.Until = Some Closes
own_role place_kind.Do m.EndDo = Some Closes
own_role place_kind.Initializations m.Bare = Some Continues
own_role place_kind.Initializations m.Labels = Some Continues
own_role place_kind.Initializations m.EndInitializations = Some Closes
own_role _ _ = None

-- what a statement does comes first
abbrev pub or_own : Option Role → Option Role → Option Role
or_own (Some role) own = Some role
or_own None own = own

-- what a piece does at the place, if it may stand there
unfoldable pub role_at : Place → PieceKind → Option Role
role_at place piece_kind = if takes_statements place then or_own (begins piece_kind) (own_role place piece_kind) else own_role place piece_kind
