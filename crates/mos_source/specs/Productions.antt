-- The grammar of a source over the forms of its pieces, and the first piece that a production cannot take.

use Rattle.std.specs.Prelude.{◌≡◌, ◌≢◌, ℕ, suc, Bool, true, false, ◌||◌, ◌&&◌, not, nat_eq, nat_le, if◌then◌else◌, ◌⊎◌, List, [], ◌∷◌, is_some}
use Rattle.mos_tree.specs.declared.form.PieceKind.{PieceKind}
use Rattle.mos_tree.specs.declared.form.PieceKind.TheVariants as piece_kind
use Rattle.mos_tree.specs.declared.form.PieceForm.{PieceForm}
use Rattle.mos_tree.specs.Forms.{piece_kind_of}
use Rattle.mos_source.specs.Limits.{own_limit}
use Rattle.mos_source.specs.Sources.{limit}

infixr 30 ◌~◌
infixr 20 ◌or◌
-- ---- the grammar

-- parts of a production: `a ~ b` is a sequence, `a or b` a choice
pub data Rule : Type 0 where
  one : PieceKind → Rule  -- one piece of this form
  block : PieceKind → Rule → Rule  -- a piece that opens a block, and what stands behind it in the block
  ◌~◌ : Rule → Rule → Rule
  ◌or◌ : Rule → Rule → Rule
  optional : Rule → Rule
  many : Rule → Rule
  statement : Rule  -- a statement, by its name

-- heads of a model
abbrev pub head : Rule
head = one piece_kind.Uses or one piece_kind.Options

-- behind `parameters`
abbrev pub parameters_block : Rule
parameters_block = many (one piece_kind.Definition) ~ one piece_kind.EndParameters

-- behind `NAME = record`
abbrev pub record_block : Rule
record_block = many (one piece_kind.Typed) ~ one piece_kind.EndRecord

-- in `declarations`
abbrev pub item : Rule
item = one piece_kind.Definition or one piece_kind.Typed or block piece_kind.RecordOf record_block

-- behind `declarations`
abbrev pub declarations_block : Rule
declarations_block = many item ~ one piece_kind.EndDeclarations

-- a block of `declarations`
abbrev pub declarations : Rule
declarations = block piece_kind.Declarations declarations_block

-- behind the heading of a procedure
abbrev pub procedure_block : Rule
procedure_block = many (declarations or statement) ~ one piece_kind.EndProcedure

-- behind the heading of a function
abbrev pub function_block : Rule
function_block = many (declarations or statement) ~ one piece_kind.EndFunction

-- a procedure or a function
abbrev pub routine : Rule
routine = block piece_kind.Procedure procedure_block or block piece_kind.Function function_block

-- what stands in a model behind its heads
abbrev pub top : Rule
top = block piece_kind.Parameters parameters_block or declarations or routine or one piece_kind.Forward or statement

-- behind the heads of a model
abbrev pub tops : Rule
tops = many top ~ one piece_kind.EndModel

-- behind `model`
abbrev pub heads : Rule
heads = many head ~ tops

-- a whole source
abbrev pub source : Rule
source = one piece_kind.Model ~ heads

-- `else` with what stands under it
abbrev pub otherwise : Rule
otherwise = one piece_kind.Else ~ many statement

-- behind `if .. then`
abbrev pub if_block : Rule
if_block = many statement ~ many (one piece_kind.Elif ~ many statement) ~ optional otherwise ~ one piece_kind.EndIf

-- behind `case .. of`
abbrev pub case_block : Rule
case_block = many (one piece_kind.Alternative ~ statement) ~ optional otherwise ~ one piece_kind.EndCase

-- behind `repeat`
abbrev pub repeat_block : Rule
repeat_block = many statement ~ one piece_kind.Until

-- behind `do`
abbrev pub do_block : Rule
do_block = many statement ~ one piece_kind.EndDo

-- behind `initializations`; a name alone is a row of one label
abbrev pub initializations_block : Rule
initializations_block = many (one piece_kind.Bare or one piece_kind.Labels) ~ one piece_kind.EndInitializations

-- what a statement is; one piece is an assignment, a list that is filled, a call, `break` or `next`
abbrev pub statement_is : Rule
statement_is =
    one piece_kind.Simple or one piece_kind.Bare or block piece_kind.If if_block or block piece_kind.Case case_block or
    block piece_kind.Forall statement or block piece_kind.While statement or block piece_kind.Repeat repeat_block or
    block piece_kind.Do do_block or block piece_kind.Initializations initializations_block

-- ---- forms

-- each form has a number of its own
abbrev pub number_of : PieceKind → ℕ
number_of piece_kind.Unknown = 0
number_of piece_kind.Model = 1
number_of piece_kind.Uses = 2
number_of piece_kind.Options = 3
number_of piece_kind.EndModel = 4
number_of piece_kind.Parameters = 5
number_of piece_kind.EndParameters = 6
number_of piece_kind.Declarations = 7
number_of piece_kind.EndDeclarations = 8
number_of piece_kind.Definition = 9
number_of piece_kind.Typed = 10
number_of piece_kind.RecordOf = 11
number_of piece_kind.EndRecord = 12
number_of piece_kind.Procedure = 13
number_of piece_kind.Function = 14
number_of piece_kind.EndProcedure = 15
number_of piece_kind.EndFunction = 16
number_of piece_kind.Forward = 17
number_of piece_kind.Simple = 18
number_of piece_kind.Bare = 19
number_of piece_kind.If = 20
number_of piece_kind.Elif = 21
number_of piece_kind.Else = 22
number_of piece_kind.EndIf = 23
number_of piece_kind.Case = 24
number_of piece_kind.Alternative = 25
number_of piece_kind.EndCase = 26
number_of piece_kind.Forall = 27
number_of piece_kind.While = 28
number_of piece_kind.Repeat = 29
number_of piece_kind.Until = 30
number_of piece_kind.Do = 31
number_of piece_kind.EndDo = 32
number_of piece_kind.Initializations = 33
number_of piece_kind.Labels = 34
number_of piece_kind.EndInitializations = 35

-- one form twice
abbrev pub same : PieceKind → PieceKind → Bool
same a b = nat_eq (number_of a) (number_of b)

-- the pieces that open a block
abbrev pub opens_block : PieceKind → Bool
opens_block piece_kind.Parameters = true
opens_block piece_kind.Declarations = true
opens_block piece_kind.RecordOf = true
opens_block piece_kind.Procedure = true
opens_block piece_kind.Function = true
opens_block piece_kind.If = true
opens_block piece_kind.Case = true
opens_block piece_kind.Forall = true
opens_block piece_kind.While = true
opens_block piece_kind.Repeat = true
opens_block piece_kind.Do = true
opens_block piece_kind.Initializations = true
opens_block _ = false

-- whether a piece inside so many open blocks breaks a limit
abbrev pub breaks_limit : ℕ → PieceForm → Bool
breaks_limit depth x = is_some (own_limit x.form) || (opens_block (piece_kind_of x.form) && nat_le limit depth)

-- the form that counts inside so many open blocks: a piece that breaks a limit has none
unfoldable pub form_at : ℕ → PieceForm → PieceKind
form_at depth x = if breaks_limit depth x then piece_kind.Unknown else piece_kind_of x.form

-- the form of the first piece; where there is no piece, there is no form
abbrev pub front : ℕ → List PieceForm → PieceKind
front depth [] = piece_kind.Unknown
front depth (x ∷ xs) = form_at depth x

-- whether a part begins with a piece of this form, where it is known of statements (`named`). No part
-- that is chosen or entered begins with one that may be missing
abbrev pub begins_if : Bool → Rule → PieceKind → Bool
begins_if named (one form) x = same form x
begins_if named (block form rest) x = same form x
begins_if named (a ~ b) x = begins_if named a x
begins_if named (a or b) x = begins_if named a x || begins_if named b x
begins_if named (optional a) x = begins_if named a x
begins_if named (many a) x = begins_if named a x
begins_if named statement x = named

-- whether a part begins with a piece of this form; no form of statement begins with a statement
abbrev pub begins : Rule → PieceKind → Bool
begins rule x = begins_if (begins_if false statement_is x) rule x

-- whether of the alternatives of each choice in a part at most one begins with a piece of this form
abbrev pub differ : Rule → PieceKind → Bool
differ (block form rest) x = differ rest x
differ (a ~ b) x = differ a x && differ b x
differ (a or b) x = not (begins a x && begins b x) && (differ a x && differ b x)
differ (optional a) x = differ a x
differ (many a) x = differ a x
differ _ x = true

-- ---- what a production takes

-- a production took pieces, and these are left; or it broke, and these are left from the faulty one on
pub data Reading : Type 0 where
  took : List PieceForm → Reading
  broke : List PieceForm → Reading

-- so a production that stands inside `depth` open blocks reads pieces
pub data Reads : Rule → ℕ → List PieceForm → Reading → Type 0 where
  -- one piece is taken where it has its form, and breaks where it is not there or has another form
  takes : (form : PieceKind) (depth : ℕ) (x : PieceForm) (xs : List PieceForm) → same form (form_at depth x) ≡ true → Reads (one form) depth (x ∷ xs) (took xs)
  breaks : (form : PieceKind) (depth : ℕ) (pieces : List PieceForm) → same form (front depth pieces) ≡ false → Reads (one form) depth pieces (broke pieces)
  -- behind the piece that opens a block the depth is one more
  opens : (form : PieceKind) (rest : Rule) (depth : ℕ) (x : PieceForm) (xs : List PieceForm) (end : Reading) → same form (form_at depth x) ≡ true → Reads rest (suc depth) xs end → Reads (block form rest) depth (x ∷ xs) end
  opens_not : (form : PieceKind) (rest : Rule) (depth : ℕ) (pieces : List PieceForm) → same form (front depth pieces) ≡ false → Reads (block form rest) depth pieces (broke pieces)
  -- a sequence breaks where its first part does
  breaks_first : (a b : Rule) (depth : ℕ) (pieces left : List PieceForm) → Reads a depth pieces (broke left) → Reads (a ~ b) depth pieces (broke left)
  -- a sequence whose first part takes pieces reads on behind these
  goes_on : (a b : Rule) (depth : ℕ) (pieces between : List PieceForm) (end : Reading) → Reads a depth pieces (took between) → Reads b depth between end → Reads (a ~ b) depth pieces end
  -- a choice reads as that alternative does which begins with the first piece, and breaks there where
  -- there is none; the alternatives of the grammar differ in the forms of their first pieces
  as_first : (a b : Rule) (depth : ℕ) (pieces : List PieceForm) (end : Reading) → begins a (front depth pieces) ≡ true → Reads a depth pieces end → Reads (a or b) depth pieces end
  as_second : (a b : Rule) (depth : ℕ) (pieces : List PieceForm) (end : Reading) → begins a (front depth pieces) ≡ false → begins b (front depth pieces) ≡ true → Reads b depth pieces end → Reads (a or b) depth pieces end
  as_none : (a b : Rule) (depth : ℕ) (pieces : List PieceForm) → begins a (front depth pieces) ≡ false → begins b (front depth pieces) ≡ false → Reads (a or b) depth pieces (broke pieces)
  -- an optional or repeated part is entered exactly where the next piece has the form of its first piece
  entered : (a : Rule) (depth : ℕ) (pieces : List PieceForm) (end : Reading) → begins a (front depth pieces) ≡ true → Reads a depth pieces end → Reads (optional a) depth pieces end
  missing : (a : Rule) (depth : ℕ) (pieces : List PieceForm) → begins a (front depth pieces) ≡ false → Reads (optional a) depth pieces (took pieces)
  again : (a : Rule) (depth : ℕ) (pieces : List PieceForm) (end : Reading) → begins a (front depth pieces) ≡ true → Reads (a ~ many a) depth pieces end → Reads (many a) depth pieces end
  no_more : (a : Rule) (depth : ℕ) (pieces : List PieceForm) → begins a (front depth pieces) ≡ false → Reads (many a) depth pieces (took pieces)
  by_name : (depth : ℕ) (pieces : List PieceForm) (end : Reading) → Reads statement_is depth pieces end → Reads statement depth pieces end

-- the first of the pieces behind is the one at which a source breaks, or one that stands behind a whole
-- source. The tokens of a text end with the first `end-model`, so there is none of these in a text
abbrev pub BreaksAt : List PieceForm → List PieceForm → Type 0
BreaksAt pieces after = Reads source 0 pieces (broke after) ⊎ (Reads source 0 pieces (took after) × (after ≢ []))
