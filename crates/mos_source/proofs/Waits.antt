-- What is still to be read of the innermost open block, at each place.

use Rattle.std.proofs.Common.{◌≡◌, Bool, true, false, Option, Some, None, refl}
use Rattle.std.specs.Prelude.{is_some}
use Rattle.mos_tree.specs.declared.form.PieceKind.{PieceKind}
use Rattle.mos_tree.specs.declared.form.PieceKind.TheVariants as piece_kind
use Rattle.mos_source.specs.declared.place.Place.{Place}
use Rattle.mos_source.specs.declared.place.Place.TheVariants as place_kind
use Rattle.mos_source.specs.declared.place.Role.{Role}
use Rattle.mos_source.specs.declared.place.Role.TheVariants.{Opens, Continues, StandsAlone, Closes}
use Rattle.mos_source.specs.Places.{role_at}
use Rattle.mos_source.specs.Productions.{Rule, one, ◌~◌, many, statement, source, heads, tops, parameters_block, declarations_block, record_block, procedure_block, function_block, if_block, case_block, repeat_block, do_block, initializations_block}
use Rattle.mos_source.proofs.Behind.{Left, refused, whole, rest, within, within_then, joined, chain, behind, may_begin, is_firm}

abbrev pub waits : Place → Rule
waits place_kind.Start = source
waits place_kind.Heads = heads
waits place_kind.Tops = tops
waits place_kind.Parameters = parameters_block
waits place_kind.Declarations = declarations_block
waits place_kind.Record = record_block
waits place_kind.Procedure = procedure_block
waits place_kind.Function = function_block
waits place_kind.IfArm = if_block
waits place_kind.IfElse = many statement ~ one piece_kind.EndIf
waits place_kind.Case = case_block
waits place_kind.CaseArm = statement ~ case_block
waits place_kind.CaseElse = many statement ~ one piece_kind.EndCase
waits place_kind.LoopBody = statement
waits place_kind.Repeat = repeat_block
waits place_kind.Do = do_block
waits place_kind.Initializations = initializations_block
waits place_kind.End = one piece_kind.Unknown

-- the place in the block that a piece opens
abbrev pub opened_place : PieceKind → Place
opened_place piece_kind.Model = place_kind.Heads
opened_place piece_kind.Parameters = place_kind.Parameters
opened_place piece_kind.Declarations = place_kind.Declarations
opened_place piece_kind.RecordOf = place_kind.Record
opened_place piece_kind.Procedure = place_kind.Procedure
opened_place piece_kind.Function = place_kind.Function
opened_place piece_kind.If = place_kind.IfArm
opened_place piece_kind.Case = place_kind.Case
opened_place piece_kind.Forall = place_kind.LoopBody
opened_place piece_kind.While = place_kind.LoopBody
opened_place piece_kind.Repeat = place_kind.Repeat
opened_place piece_kind.Do = place_kind.Do
opened_place piece_kind.Initializations = place_kind.Initializations
opened_place _ = place_kind.End

-- the place behind a piece that goes on with the block
abbrev pub gone_place : Place → PieceKind → Place
gone_place place_kind.IfArm piece_kind.Else = place_kind.IfElse
gone_place place_kind.Case piece_kind.Alternative = place_kind.CaseArm
gone_place place_kind.Case piece_kind.Else = place_kind.CaseElse
gone_place place _ = place

-- the place behind a part of the block
abbrev pub place_after : Place → Place
place_after place_kind.Heads = place_kind.Tops
place_after place_kind.CaseArm = place_kind.Case
place_after place = place

-- what is left behind a piece that opens a block
abbrev pub left_opened : Place → Place → Left
left_opened place_kind.Start inner = rest (waits inner)
left_opened place_kind.LoopBody inner = within (waits inner)
left_opened place inner = within_then (waits inner) (waits (place_after place))

-- what is left behind a whole part
abbrev pub left_after : Place → Left
left_after place_kind.LoopBody = whole
left_after place = rest (waits (place_after place))

abbrev pub left_at : Option Role → Place → PieceKind → Left
left_at None place x = refused
left_at (Some Opens) place x = left_opened place (opened_place x)
left_at (Some Continues) place x = rest (waits (gone_place place x))
left_at (Some StandsAlone) place x = left_after place
left_at (Some Closes) place x = whole

abbrev pub is_end : Place → Bool
is_end place_kind.End = true
is_end _ = false

pub waits-firm : (place : Place) → is_firm (waits place) ≡ true
waits-firm place_kind.Start = refl
waits-firm _ = refl

-- what is left of a block behind a piece is what the piece does there
pub left-is : (place : Place) (x : PieceKind) → is_end place ≡ false → behind (waits place) x ≡ left_at (role_at place x) place x
unfolding role_at chain joined
left-is place_kind.End x h = let no : ⊥ = cc in absurd no
left-is _ piece_kind.Unknown h = refl
left-is _ _ h = refl

-- a piece may begin the rest of a block where it may stand there
pub begins-is : (place : Place) (x : PieceKind) → is_end place ≡ false → may_begin (waits place) x ≡ is_some (role_at place x)
unfolding role_at
begins-is place_kind.End x h = let no : ⊥ = cc in absurd no
begins-is _ piece_kind.Unknown h = refl
begins-is _ _ h = refl
