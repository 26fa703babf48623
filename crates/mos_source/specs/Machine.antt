-- As the code reads pieces: a machine on the open blocks, the innermost first. No public clause cites it.

use Rattle.std.specs.Prelude.{ℕ, Bool, true, false, if◌then◌else◌, nat_lt, List, [], ◌∷◌, ◌++◌, length, reverse, Option, Some, None, Result, Ok, Err}
use Rattle.mos_text.specs.declared.kind.Kind.{Kind}
use Rattle.mos_text.specs.declared.kind.Kind.TheVariants as wrong
use Rattle.mos_tree.specs.declared.expr.Expr.{Expr}
use Rattle.mos_tree.specs.declared.declaration.BaseType.{BaseType}
use Rattle.mos_tree.specs.declared.declaration.Parameter.{Parameter}
use Rattle.mos_tree.specs.declared.declaration.FieldGroup.{FieldGroup}
use Rattle.mos_tree.specs.declared.declaration.Item.{Item}
use Rattle.mos_tree.specs.declared.declaration.Item.TheVariants as item_kind
use Rattle.mos_tree.specs.declared.declaration.Heading.{Heading}
use Rattle.mos_tree.specs.declared.statement.Statement.{Statement}
use Rattle.mos_tree.specs.declared.statement.Statement.TheVariants as statement_kind
use Rattle.mos_tree.specs.declared.statement.Arm.{Arm}
use Rattle.mos_tree.specs.declared.statement.Alternative.{Alternative}
use Rattle.mos_tree.specs.declared.statement.Label.{Label}
use Rattle.mos_tree.specs.declared.statement.LabelGroup.{LabelGroup}
use Rattle.mos_tree.specs.declared.source.ModelName.{ModelName}
use Rattle.mos_tree.specs.declared.source.Head.{Head}
use Rattle.mos_tree.specs.declared.source.Head.TheVariants as head_kind
use Rattle.mos_tree.specs.declared.source.Declared.{Declared}
use Rattle.mos_tree.specs.declared.source.RoutinePart.{RoutinePart}
use Rattle.mos_tree.specs.declared.source.RoutinePart.TheVariants as routine_part
use Rattle.mos_tree.specs.declared.source.Top.{Top}
use Rattle.mos_tree.specs.declared.source.Top.TheVariants as top
use Rattle.mos_tree.specs.declared.source.Tree.{Tree}
use Rattle.mos_tree.specs.declared.form.Form.{Form}
use Rattle.mos_tree.specs.declared.form.Form.TheVariants as form_kind
use Rattle.mos_tree.specs.declared.form.ConditionKeyword.TheVariants as conditional
use Rattle.mos_tree.specs.declared.form.Keyword.TheVariants as keyword
use Rattle.mos_tree.specs.declared.form.Keyword.{Keyword}
use Rattle.mos_tree.specs.declared.form.ConditionKeyword.{ConditionKeyword}
use Rattle.mos_tree.specs.declared.form.PieceForm.{PieceForm}
use Rattle.mos_source.specs.declared.frame.Frame.{Frame}
use Rattle.mos_source.specs.declared.frame.Frame.TheVariants as frame_kind
use Rattle.mos_source.specs.declared.frame.Part.{Part}
use Rattle.mos_source.specs.declared.frame.Part.TheVariants as part
use Rattle.mos_source.specs.declared.place.Place.{Place}
use Rattle.mos_source.specs.declared.place.Place.TheVariants as place_kind
use Rattle.mos_source.specs.declared.place.Role.{Role}
use Rattle.mos_source.specs.declared.place.Role.TheVariants.{Opens, Continues, StandsAlone, Closes}
use Rattle.mos_tree.specs.Forms.{piece_kind_of}
use Rattle.mos_source.specs.Limits.{own_limit}
use Rattle.mos_source.specs.Places.{role_at}
use Rattle.mos_source.specs.Statements as written

-- the open blocks, the innermost first
abbrev pub Stack : Type 0
Stack = List Frame

-- the code has the innermost block last
abbrev pub stack_of : List Frame → Stack
stack_of frames = reverse frames

-- one more block is open, where there is one
abbrev pub push_frame : Option Frame → Stack → Stack
push_frame None k = k
push_frame (Some frame) k = frame ∷ k

-- ---- places

-- a heading with a result is that of a function
abbrev pub routine_place : Option BaseType → Place
routine_place None = place_kind.Procedure
routine_place (Some typ) = place_kind.Function

-- the place in this block
abbrev pub frame_place : Frame → Place
frame_place (frame_kind.Heads line name heads) = place_kind.Heads
frame_place (frame_kind.Tops line name heads tops) = place_kind.Tops
frame_place (frame_kind.Parameters line parameters) = place_kind.Parameters
frame_place (frame_kind.Declarations line items) = place_kind.Declarations
frame_place (frame_kind.Record line name fields) = place_kind.Record
frame_place (frame_kind.Routine heading parts) = routine_place heading.result
frame_place (frame_kind.IfArm first arms line condition body) = place_kind.IfArm
frame_place (frame_kind.IfElse first arms body) = place_kind.IfElse
frame_place (frame_kind.Case line value alternatives) = place_kind.Case
frame_place (frame_kind.CaseArm line value alternatives at labels) = place_kind.CaseArm
frame_place (frame_kind.CaseElse line value alternatives body) = place_kind.CaseElse
frame_place (frame_kind.Forall line index) = place_kind.LoopBody
frame_place (frame_kind.While line condition) = place_kind.LoopBody
frame_place (frame_kind.Repeat line body) = place_kind.Repeat
frame_place (frame_kind.Do line body) = place_kind.Do
frame_place (frame_kind.Initializations line direction name rows) = place_kind.Initializations
frame_place (frame_kind.End tree) = place_kind.End

-- the place behind what is read
abbrev pub place_of : Stack → Place
place_of [] = place_kind.Start
place_of (frame ∷ k) = frame_place frame

-- ---- pieces that open

-- the block that a word with a condition opens
abbrev pub opened_by_condition : ℕ → ConditionKeyword → Expr → Option Frame
opened_by_condition line conditional.If x = Some (frame_kind.IfArm line [] line x [])
opened_by_condition line conditional.Case x = Some (frame_kind.Case line x [])
opened_by_condition line conditional.While x = Some (frame_kind.While line x)
opened_by_condition line _ x = None

-- the block that a word opens
abbrev pub opened_by_word : ℕ → Keyword → Option Frame
opened_by_word line keyword.Parameters = Some (frame_kind.Parameters line [])
opened_by_word line keyword.Declarations = Some (frame_kind.Declarations line [])
opened_by_word line keyword.Repeat = Some (frame_kind.Repeat line [])
opened_by_word line keyword.Do = Some (frame_kind.Do line [])
opened_by_word line _ = None

-- the block that the piece opens
abbrev pub opened_by : ℕ → Form → Option Frame
opened_by line (form_kind.Keyword word) = opened_by_word line word
opened_by line (form_kind.Model name) = Some (frame_kind.Heads line name [])
opened_by line (form_kind.RecordOf name) = Some (frame_kind.Record line name [])
opened_by line (form_kind.Routine name formals result) = Some (frame_kind.Routine (record { line = line; name = name; formals = formals; result = result }) [])
opened_by line (form_kind.Guarded word x) = opened_by_condition line word x
opened_by line (form_kind.Forall index) = Some (frame_kind.Forall line index)
opened_by line (form_kind.Initializations direction name) = Some (frame_kind.Initializations line direction name [])
opened_by line _ = None

-- ---- pieces that stand alone

-- what the piece is by itself
abbrev pub stands_alone : ℕ → Form → Option Part
stands_alone line (form_kind.Simple simple) = Some (part.Statement (written.statement_of line simple))
stands_alone line (form_kind.Bare name) = Some (part.Statement (statement_kind.Call line name []))
stands_alone line (form_kind.Forward name formals result) = Some (part.Top (top.Forward (record { line = line; name = name; formals = formals; result = result })))
stands_alone line _ = None

-- ---- pieces that go on with a block

-- the piece as a head of a model
abbrev pub head_of : ℕ → Form → Option Head
head_of line (form_kind.Uses modules) = Some (head_kind.Uses line modules)
head_of line (form_kind.Options name) = Some (head_kind.NoImplicit line)
head_of line _ = None

-- the piece as a parameter
abbrev pub parameter_of : ℕ → Form → Option Parameter
parameter_of line (form_kind.Definition name value) = Some (record { line = line; name = name; default = value })
parameter_of line _ = None

-- the piece as an item of `declarations`
abbrev pub item_of : ℕ → Form → Option Item
item_of line (form_kind.Definition name value) = Some (item_kind.Constant line name value)
item_of line (form_kind.Typed names typ) = Some (item_kind.Variables line names typ)
item_of line _ = None

-- the piece as fields of a record
abbrev pub field_of : ℕ → Form → Option FieldGroup
field_of line (form_kind.Typed names typ) = Some (record { line = line; names = names; typ = typ })
field_of line _ = None

-- a name alone is one label
abbrev pub labels_of : List ℕ → List Label
labels_of name = written.label_of name ∷ []

-- the piece as a row of labels
abbrev pub row_of : ℕ → Form → Option LabelGroup
row_of line (form_kind.Bare name) = Some (record { line = line; labels = labels_of name })
row_of line (form_kind.Labels labels) = Some (record { line = line; labels = labels })
row_of line _ = None

-- the items with one behind them, where there is one
abbrev pub more : {T : Type 0} → List T → Option T → List T
more items None = items
more items (Some x) = items ++ x ∷ []

-- behind these arms: another one where the piece has a condition, or `else`
abbrev pub arm_or_else : ℕ → Form → ℕ → List (Arm Statement) → Frame
arm_or_else line (form_kind.Guarded word condition) first arms = frame_kind.IfArm first arms line condition []
arm_or_else line _ first arms = frame_kind.IfElse first arms []

-- behind the arm that is read: another one, or `else`
abbrev pub next_arm : ℕ → Form → ℕ → List (Arm Statement) → Arm Statement → Frame
next_arm line form first arms last = arm_or_else line form first (arms ++ last ∷ [])

-- behind an alternative: another one where the piece has labels, or `else`
abbrev pub next_alternative : ℕ → Form → ℕ → Expr → List (Alternative Statement) → Frame
next_alternative at (form_kind.Alternative labels) line value xs = frame_kind.CaseArm line value xs at labels
next_alternative at _ line value xs = frame_kind.CaseElse line value xs []

-- the statement with the piece as a row of it, or parted by it
abbrev pub continued_statement : ℕ → Form → Frame → Frame
continued_statement line form (frame_kind.IfArm first arms at condition body) = next_arm line form first arms (written.arm_of at condition body)
continued_statement line form (frame_kind.Case at value xs) = next_alternative line form at value xs
continued_statement line form (frame_kind.Initializations at direction name rows) = frame_kind.Initializations at direction name (more rows (row_of line form))
continued_statement line form frame = frame

-- the block with the piece as a row of it, or parted by it
abbrev pub continued_by : ℕ → Form → Frame → Frame
continued_by line form (frame_kind.Heads at name heads) = frame_kind.Heads at name (more heads (head_of line form))
continued_by line form (frame_kind.Parameters at xs) = frame_kind.Parameters at (more xs (parameter_of line form))
continued_by line form (frame_kind.Declarations at xs) = frame_kind.Declarations at (more xs (item_of line form))
continued_by line form (frame_kind.Record at name xs) = frame_kind.Record at name (more xs (field_of line form))
continued_by line form frame = continued_statement line form frame

-- the innermost block goes on with the piece
abbrev pub continue_block : ℕ → Form → Stack → Stack
continue_block line form [] = []
continue_block line form (frame ∷ k) = continued_by line form frame ∷ k

-- ---- the block that is closed

-- `repeat` with its condition
abbrev pub until : ℕ → Form → ℕ → List Statement → Option Part
until line (form_kind.Guarded word condition) at body = Some (part.Statement (statement_kind.Repeat at body line condition))
until line _ at body = None

-- `if` with its arms and without `else`
abbrev pub whole_if : ℕ → List (Arm Statement) → Arm Statement → Part
whole_if first arms last = part.Statement (statement_kind.If first (arms ++ last ∷ []) [])

-- the `case` that is closed
abbrev pub closed_case : Frame → Option Part
closed_case (frame_kind.Case at value xs) = Some (part.Statement (statement_kind.Case at value xs []))
closed_case (frame_kind.CaseElse at value xs body) = Some (part.Statement (statement_kind.Case at value xs body))
closed_case _ = None

-- the block of statements or of data that is closed, or the `case`
abbrev pub closed_block : ℕ → Form → Frame → Option Part
closed_block line form (frame_kind.Repeat at body) = until line form at body
closed_block line form (frame_kind.Do at body) = Some (part.Statement (statement_kind.Do at body))
closed_block line form (frame_kind.Initializations at direction name rows) = Some (part.Statement (statement_kind.Initializations at direction name rows))
closed_block line form frame = closed_case frame

-- the statement that is closed
abbrev pub closed_statement : ℕ → Form → Frame → Option Part
closed_statement line form (frame_kind.IfArm first arms at condition body) = Some (whole_if first arms (written.arm_of at condition body))
closed_statement line form (frame_kind.IfElse first arms body) = Some (part.Statement (statement_kind.If first arms body))
closed_statement line form frame = closed_block line form frame

-- the block of rows that is closed, or the statement
abbrev pub closed_rows : ℕ → Form → Frame → Option Part
closed_rows line form (frame_kind.Parameters at xs) = Some (part.Top (top.Parameters at xs))
closed_rows line form (frame_kind.Declarations at xs) = Some (part.Declared (record { line = at; items = xs }))
closed_rows line form (frame_kind.Record at name xs) = Some (part.Record (item_kind.Record at name xs))
closed_rows line form frame = closed_statement line form frame

-- the model that is closed
abbrev pub closed_model : ℕ → ModelName → List Head → List Top → Part
closed_model line name heads tops = part.Source (record { line = line; name = name; heads = heads; tops = tops })

-- what the block is that the piece closes
abbrev pub closed_by : ℕ → Form → Frame → Option Part
closed_by line form (frame_kind.Heads at name heads) = Some (closed_model at name heads [])
closed_by line form (frame_kind.Tops at name heads tops) = Some (closed_model at name heads tops)
closed_by line form (frame_kind.Routine heading xs) = Some (part.Top (top.Routine (record { heading = heading; parts = xs })))
closed_by line form frame = closed_rows line form frame

-- ---- the block round it

-- a first part behind the heads of a model
abbrev pub first_top : ℕ → ModelName → List Head → Top → Frame
first_top line name heads x = frame_kind.Tops line name heads (x ∷ [])

-- one part more behind them
abbrev pub next_top : ℕ → ModelName → List Head → List Top → Top → Frame
next_top line name heads xs x = frame_kind.Tops line name heads (xs ++ x ∷ [])

-- a routine with one part more
abbrev pub next_part : Heading → List RoutinePart → RoutinePart → Frame
next_part heading xs x = frame_kind.Routine heading (xs ++ x ∷ [])

-- a model with one part more
abbrev pub with_top : Top → Frame → Frame
with_top x (frame_kind.Heads line name heads) = first_top line name heads x
with_top x (frame_kind.Tops line name heads xs) = next_top line name heads xs x
with_top x frame = frame

-- a model or a routine with one block of `declarations` more
abbrev pub with_declared : Declared → Frame → Frame
with_declared x (frame_kind.Routine heading xs) = next_part heading xs (routine_part.Declarations x)
with_declared x frame = with_top (top.Declarations x) frame

-- `declarations` with one record more
abbrev pub with_record : Item → Frame → Frame
with_record x (frame_kind.Declarations line xs) = frame_kind.Declarations line (xs ++ x ∷ [])
with_record x frame = frame

-- an alternative of `case` with its statement
abbrev pub case_with : ℕ → Expr → List (Alternative Statement) → Alternative Statement → Frame
case_with line value xs x = frame_kind.Case line value (xs ++ x ∷ [])

-- an arm of `if` with one statement more
abbrev pub if_arm_with : ℕ → List (Arm Statement) → Arm Statement → Statement → Frame
if_arm_with first arms arm x = frame_kind.IfArm first arms arm.line arm.condition (arm.body ++ x ∷ [])

-- the `else` of a `case` with one statement more
abbrev pub case_else_with : ℕ → Expr → List (Alternative Statement) → List Statement → Statement → Frame
case_else_with line value xs body x = frame_kind.CaseElse line value xs (body ++ x ∷ [])

-- a block of statements with one statement more
abbrev pub with_block_statement : Statement → Frame → Frame
with_block_statement x (frame_kind.IfElse first arms body) = frame_kind.IfElse first arms (body ++ x ∷ [])
with_block_statement x (frame_kind.CaseElse line value xs body) = case_else_with line value xs body x
with_block_statement x (frame_kind.Repeat line body) = frame_kind.Repeat line (body ++ x ∷ [])
with_block_statement x (frame_kind.Do line body) = frame_kind.Do line (body ++ x ∷ [])
with_block_statement x frame = with_top (top.Statement x) frame

-- the block with one statement more, where it takes one without being ended by it
abbrev pub with_statement : Statement → Frame → Frame
with_statement x (frame_kind.Routine heading xs) = next_part heading xs (routine_part.Statement x)
with_statement x (frame_kind.IfArm first arms line condition body) = if_arm_with first arms (written.arm_of line condition body) x
with_statement x (frame_kind.CaseArm line value xs at labels) = case_with line value xs (written.alternative_of at labels x)
with_statement x frame = with_block_statement x frame

-- one statement ends the block
abbrev pub is_loop : Frame → Bool
is_loop (frame_kind.Forall line index) = true
is_loop (frame_kind.While line condition) = true
is_loop _ = false

-- one statement ends the innermost block
abbrev pub top_is_loop : Stack → Bool
top_is_loop [] = false
top_is_loop (frame ∷ k) = is_loop frame

-- the loop with its body
abbrev pub loop_with_body : Statement → Frame → Statement
loop_with_body x (frame_kind.Forall line index) = statement_kind.Forall line index x
loop_with_body x (frame_kind.While line condition) = statement_kind.While line condition x
loop_with_body x frame = x

-- the innermost block, which is no loop, takes the statement
abbrev pub give_statement : Statement → Stack → Stack
give_statement x [] = []
give_statement x (frame ∷ k) = with_statement x frame ∷ k

-- the innermost block that is no loop takes the statement, with the loops round it
abbrev pub add_statement : Statement → Stack → Stack
add_statement x [] = []
add_statement x (frame ∷ k) = if is_loop frame then add_statement (loop_with_body x frame) k else with_statement x frame ∷ k

-- the block with one part more that is no statement
abbrev pub with_part : Part → Frame → Frame
with_part (part.Declared x) frame = with_declared x frame
with_part (part.Top x) frame = with_top x frame
with_part (part.Record x) frame = with_record x frame
with_part _ frame = frame

-- the innermost block takes a part that is no statement
abbrev pub add_other : Part → Stack → Stack
add_other x [] = []
add_other x (frame ∷ k) = with_part x frame ∷ k

-- the blocks that are open take the part
abbrev pub add_part : Part → Stack → Stack
add_part (part.Statement x) k = add_statement x k
add_part (part.Source x) k = frame_kind.End x ∷ k
add_part x k = add_other x k

-- they take the part, where there is one
abbrev pub add : Option Part → Stack → Stack
add None k = k
add (Some x) k = add_part x k

-- the piece closes the innermost block
abbrev pub close : ℕ → Form → Stack → Stack
close line form [] = []
close line form (frame ∷ k) = add (closed_by line form frame) k

-- ---- a piece

-- what the piece does in its role
abbrev pub enter : Role → ℕ → Form → Stack → Stack
enter Opens line form k = push_frame (opened_by line form) k
enter Continues line form k = continue_block line form k
enter StandsAlone line form k = add (stands_alone line form) k
enter Closes line form k = close line form k

-- one block more, where so many and the model are open
abbrev pub block_limit : ℕ → Role → ℕ → Option Kind
block_limit deep Opens blocks = if nat_lt deep blocks then Some wrong.Deep else None
block_limit deep _ blocks = None

-- the limit that the piece breaks by itself comes first
abbrev pub or_block : Option Kind → Option Kind → Option Kind
or_block (Some kind) other = Some kind
or_block None other = other

-- the limit that the piece breaks, where so many blocks and the model are open
abbrev pub broken_limit : ℕ → Role → ℕ → Form → Option Kind
broken_limit deep role blocks form = or_block (own_limit form) (block_limit deep role blocks)

-- the stack, or what is wrong
abbrev pub outcome : Option Kind → Stack → Result Stack Kind
outcome None k = Ok k
outcome (Some kind) k = Err kind

-- what follows the piece in its role, unless it breaks a limit
unfoldable pub step_as : ℕ → Role → ℕ → Form → Stack → Result Stack Kind
step_as deep role line form k = outcome (broken_limit deep role (length k) form) (enter role line form k)

-- a piece without a role may not stand there
abbrev pub step_in : ℕ → Option Role → ℕ → Form → Stack → Result Stack Kind
step_in deep None line form k = Err wrong.Syntax
step_in deep (Some role) line form k = step_as deep role line form k

-- the blocks that are open behind the piece, or what is wrong with it
unfoldable pub step : ℕ → Stack → PieceForm → Result Stack Kind
step deep k x = step_in deep (role_at (place_of k) (piece_kind_of x.form)) x.line x.form k

-- ---- all pieces

-- a tree, or what is wrong with the first of the pieces that are left
pub data Outcome : Type 0 where
  done : Tree → Outcome
  stopped : Kind → List PieceForm → Outcome

-- the tree, where the stack is that of a whole source
abbrev pub finished_tree : Stack → Option Tree
finished_tree [] = None
finished_tree (frame_kind.End tree ∷ k) = Some tree
finished_tree (_ ∷ k) = None

-- the pieces end: with a tree, or too early
abbrev pub at_end : Option Tree → Outcome
at_end None = stopped wrong.Syntax []
at_end (Some tree) = done tree

-- what follows where the piece was taken
abbrev pub behind : Result Stack Kind → (Stack → Outcome) → List PieceForm → Outcome
behind (Ok next) go left = go next
behind (Err kind) go left = stopped kind left

-- what becomes of the pieces
abbrev pub run : ℕ → Stack → List PieceForm → Outcome
run deep k [] = at_end (finished_tree k)
run deep k (x ∷ xs) = behind (step deep k x) (λ next. run deep next xs) (x ∷ xs)
