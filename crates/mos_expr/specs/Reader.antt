-- As the code reads, apart from what the public clauses say: what each word does, and what all of them come to.

use Rattle.std.specs.Prelude.{ℕ, true, false, List, [], ◌∷◌, ◌++◌, Option, Some, None, Result, Ok, Err}
use Rattle.mos_tree.specs.declared.expr.Expr.{Expr}
use Rattle.mos_tree.specs.declared.expr.Index.{Index}
use Rattle.mos_tree.specs.declared.expr.Expr.TheVariants as expr_kind
use Rattle.mos_tree.specs.declared.expr.UnaryOperator.TheVariants as unary_operator
use Rattle.mos_tree.specs.declared.expr.AggregateOperator.TheVariants as aggregate_operator
use Rattle.mos_tree.specs.declared.expr.Conversion.TheVariants as conversion
use Rattle.mos_scan.specs.declared.token.TokenKind.{TokenKind}
use Rattle.mos_scan.specs.declared.token.TokenKind.TheVariants as token_kind
use Rattle.mos_scan.specs.declared.grammar_word.Word.{Word}
use Rattle.mos_scan.specs.declared.grammar_word.Word.TheVariants as word_kind
use Rattle.mos_expr.specs.Operands as operands
use Rattle.mos_expr.specs.Machine.{State, state_of, FoldResult, and_then, want_with, fold_frames, after_key, list_closed}
use Rattle.mos_expr.specs.declared.fault.ExprFault.{ExprFault}
use Rattle.mos_expr.specs.declared.fault.ExprFault.TheVariants as expr_fault
use Rattle.mos_expr.specs.declared.operand.Operand.{Operand}
use Rattle.mos_expr.specs.declared.operand.Parts.{Parts}
use Rattle.mos_expr.specs.declared.operand.Groups.{Groups}
use Rattle.mos_expr.specs.declared.operand.WholeIndex.{WholeIndex}
use Rattle.mos_expr.specs.declared.frame.IndexKind.{IndexKind}
use Rattle.mos_expr.specs.declared.frame.IndexKind.TheVariants as index_kind
use Rattle.mos_expr.specs.declared.frame.ListKind.TheVariants as list_kind
use Rattle.mos_expr.specs.declared.frame.Frame.{Frame}
use Rattle.mos_expr.specs.declared.frame.Frame.TheVariants as frame_kind
use Rattle.mos_expr.specs.declared.frame.Mode.{Mode}
use Rattle.mos_expr.specs.declared.frame.Mode.TheVariants as mode_kind

-- ---- where an operand is wanted

-- an operand without parts was read
abbrev pub leaf_at : Expr → List Frame → State
leaf_at x fs = Some (mode_kind.After (operands.leaf_of x), fs)

-- the words that begin an aggregate
unfoldable pub aggregate_key : TokenKind → Option IndexKind
aggregate_key token_kind.Sum = Some (index_kind.Aggregate aggregate_operator.Sum)
aggregate_key token_kind.Prod = Some (index_kind.Aggregate aggregate_operator.Prod)
aggregate_key token_kind.Min = Some (index_kind.Aggregate aggregate_operator.Min)
aggregate_key token_kind.Max = Some (index_kind.Aggregate aggregate_operator.Max)
aggregate_key token_kind.Union = Some (index_kind.Aggregate aggregate_operator.Union)
aggregate_key token_kind.And = Some (index_kind.Aggregate aggregate_operator.And)
aggregate_key token_kind.Or = Some (index_kind.Aggregate aggregate_operator.Or)
aggregate_key token_kind.Count = Some index_kind.Count
aggregate_key _ = None

-- an index comes next, where one was begun
abbrev pub index_wanted : Option IndexKind → List Frame → State
index_wanted None fs = None
index_wanted (Some kind) fs = Some (mode_kind.WantIndex kind, fs)

-- a token
unfoldable pub want_key : TokenKind → List Frame → State
want_key token_kind.True fs = leaf_at (expr_kind.Truth true) fs
want_key token_kind.False fs = leaf_at (expr_kind.Truth false) fs
want_key token_kind.Returned fs = leaf_at expr_kind.Returned fs
want_key token_kind.OpenRound fs = want_with frame_kind.Bracket fs
want_key token_kind.OpenCurly fs = Some (mode_kind.WantFirst, frame_kind.InList list_kind.Set operands.no_parts ∷ fs)
want_key token_kind.OpenSquare fs = Some (mode_kind.WantFirst, frame_kind.InList list_kind.List operands.no_parts ∷ fs)
want_key token_kind.If fs = Some (mode_kind.WantOpen, frame_kind.IfExpr ∷ fs)
want_key token_kind.Integer fs = Some (mode_kind.WantOpen, frame_kind.Convert conversion.Integer ∷ fs)
want_key token_kind.StringWord fs = Some (mode_kind.WantOpen, frame_kind.Convert conversion.Text ∷ fs)
want_key token_kind.Minus fs = want_with (frame_kind.Before unary_operator.Minus) fs
want_key token_kind.Plus fs = want_with (frame_kind.Before unary_operator.Plus) fs
want_key token_kind.Not fs = want_with (frame_kind.Before unary_operator.Not) fs
want_key k fs = index_wanted (aggregate_key k) fs

-- any word
abbrev pub want : Word → List Frame → State
want (word_kind.Number n) fs = leaf_at (expr_kind.Integer n) fs
want (word_kind.Text x) fs = leaf_at (expr_kind.Text x) fs
want (word_kind.Name n) fs = Some (mode_kind.Named n, fs)
want (word_kind.Key k) fs = want_key k fs

-- a bracket that closes what has no parts
abbrev pub close_empty : TokenKind → List Frame → State
close_empty k [] = None
close_empty k (frame_kind.InList list ps ∷ fs) = state_of (list_closed k list ps) fs
close_empty k (_ ∷ fs) = None

-- a token behind an opening bracket
abbrev pub first_key : TokenKind → List Frame → State
first_key token_kind.CloseRound fs = close_empty token_kind.CloseRound fs
first_key token_kind.CloseCurly fs = close_empty token_kind.CloseCurly fs
first_key token_kind.CloseSquare fs = close_empty token_kind.CloseSquare fs
first_key k fs = want_key k fs

-- any word behind an opening bracket
abbrev pub want_first : Word → List Frame → State
want_first (word_kind.Key k) fs = first_key k fs
want_first word fs = want word fs

-- ---- where one word is wanted

-- an opening bracket
abbrev pub want_open : Word → List Frame → State
want_open (word_kind.Key token_kind.OpenRound) fs = Some (mode_kind.Want, fs)
want_open _ fs = None

-- the opening bracket of an index
abbrev pub open_index : IndexKind → Word → List Frame → State
open_index kind (word_kind.Key token_kind.OpenRound) fs = Some (mode_kind.WantName kind operands.no_groups [], fs)
open_index kind _ fs = None

-- `in`, behind `not`
abbrev pub want_in : Word → List Frame → State
want_in (word_kind.Key token_kind.In) fs = Some (mode_kind.Want, fs)
want_in _ fs = None

-- a name of an index
abbrev pub want_name : IndexKind → Groups → List (List ℕ) → Word → List Frame → State
want_name kind groups names (word_kind.Name n) fs = Some (mode_kind.AfterName kind groups (names ++ n ∷ []), fs)
want_name kind groups names _ fs = None

-- a comma or `in`, behind a name of an index
abbrev pub after_name : IndexKind → Groups → List (List ℕ) → Word → List Frame → State
after_name kind groups names (word_kind.Key token_kind.Comma) fs = Some (mode_kind.WantName kind groups names, fs)
after_name kind groups names (word_kind.Key token_kind.In) fs = want_with (frame_kind.IndexSet kind groups names) fs
after_name kind groups names _ fs = None

-- a field behind a name and a dot
abbrev pub after_dot : List ℕ → Word → List Frame → State
after_dot n (word_kind.Name field) fs = leaf_at (expr_kind.Field n field) fs
after_dot n _ fs = None

-- a field behind a call and a dot
abbrev pub after_dot_of_call : List ℕ → Parts → Word → List Frame → State
after_dot_of_call n ps (word_kind.Name field) fs = Some (mode_kind.After (operands.call_field_of n ps field), fs)
after_dot_of_call n ps _ fs = None

-- ---- behind an operand

-- any word
abbrev pub after : Operand → Word → List Frame → State
after x (word_kind.Key k) fs = after_key k x fs
after x _ fs = None

-- a word behind a name: a bracket, a dot, or what may follow an operand
abbrev pub after_named : List ℕ → Word → List Frame → State
after_named n (word_kind.Key token_kind.OpenRound) fs = Some (mode_kind.WantFirst, frame_kind.InList (list_kind.Call n) operands.no_parts ∷ fs)
after_named n (word_kind.Key token_kind.Dot) fs = Some (mode_kind.Dotted n, fs)
after_named n word fs = after (operands.leaf_of (expr_kind.Name n)) word fs

-- a word behind a call: a dot, or what may follow an operand
abbrev pub after_called : List ℕ → Parts → Word → List Frame → State
after_called n ps (word_kind.Key token_kind.Dot) fs = Some (mode_kind.DottedCall n ps, fs)
after_called n ps word fs = after (operands.call_of n ps) word fs

-- ---- all words

-- what one word does
unfoldable pub step : Mode → Word → List Frame → State
step mode_kind.Want word fs = want word fs
step mode_kind.WantFirst word fs = want_first word fs
step mode_kind.WantOpen word fs = want_open word fs
step (mode_kind.WantIndex kind) word fs = open_index kind word fs
step (mode_kind.Named n) word fs = after_named n word fs
step (mode_kind.Called n ps) word fs = after_called n ps word fs
step (mode_kind.Dotted n) word fs = after_dot n word fs
step (mode_kind.DottedCall n ps) word fs = after_dot_of_call n ps word fs
step (mode_kind.After x) word fs = after x word fs
step mode_kind.WantIn word fs = want_in word fs
step (mode_kind.WantName kind groups names) word fs = want_name kind groups names word fs
step (mode_kind.AfterName kind groups names) word fs = after_name kind groups names word fs

-- the operand that ends with the last word
abbrev pub operand_at_end : Mode → Option Operand
operand_at_end (mode_kind.After x) = Some x
operand_at_end (mode_kind.Named n) = Some (operands.leaf_of (expr_kind.Name n))
operand_at_end (mode_kind.Called n ps) = Some (operands.call_of n ps)
operand_at_end _ = None

-- what the last word leaves
abbrev pub at_end : Mode → List Frame → FoldResult
at_end mode fs = and_then (operand_at_end mode) (λ x. fold_frames x fs)

-- what all words come to
abbrev pub read : Mode → List Frame → List Word → FoldResult
read mode fs [] = at_end mode fs
read mode fs (word ∷ words) = and_then (step mode word fs) (λ next. read next.0 next.1 words)

-- ---- what is read of a whole list of words

-- an operand in no frame
abbrev pub alone : Operand → List Frame → Option Operand
alone x [] = Some x
alone x (g ∷ fs) = None

-- the operand that the words are
abbrev pub operand_of : List Word → Option Operand
operand_of words = and_then (read mode_kind.Want [] words) (λ y. alone y.0 y.1)

-- the one frame that is open
abbrev pub only_of : Frame → List Frame → Option Frame
only_of g [] = Some g
only_of g (h ∷ fs) = None

-- the one frame that is open, if it is one
abbrev pub only_frame : List Frame → Option Frame
only_frame [] = None
only_frame (g ∷ fs) = only_of g fs

-- the last of expressions with commas between them
abbrev pub last_of_list : Operand → Frame → Option Parts
last_of_list x (frame_kind.InList list_kind.Bare ps) = Some (operands.parts_with ps x)
last_of_list x _ = None

-- the expressions that an operand ends
abbrev pub list_at_end : Operand → List Frame → Option Parts
list_at_end x fs = and_then (only_frame fs) (λ g. last_of_list x g)

-- the frame of expressions with no bracket round them
abbrev pub open_list : List Frame
open_list = frame_kind.InList list_kind.Bare operands.no_parts ∷ []

-- the expressions that some words are
abbrev pub some_parts_of : List Word → Option Parts
some_parts_of words = and_then (read mode_kind.Want open_list words) (λ y. list_at_end y.0 y.1)

-- the expressions that the words are, perhaps none
abbrev pub parts_of : List Word → Option Parts
parts_of [] = Some operands.no_parts
parts_of (word ∷ words) = some_parts_of (word ∷ words)

-- the index of a loop, of which an operand is the last set or the condition
abbrev pub last_of_index : Operand → Frame → Option WholeIndex
last_of_index x (frame_kind.IndexSet index_kind.Loop groups names) = operands.map1 operands.whole_index_of (operands.set_read groups names x)
last_of_index x (frame_kind.IndexCondition index_kind.Loop groups) = Some (operands.conditioned_index_of groups x)
last_of_index x _ = None

-- the index that an operand ends
abbrev pub index_at_end : Operand → List Frame → Option WholeIndex
index_at_end x fs = and_then (only_frame fs) (λ g. last_of_index x g)

-- the index that the words are
abbrev pub whole_index_of_words : List Word → Option WholeIndex
whole_index_of_words words = and_then (read (mode_kind.WantName index_kind.Loop operands.no_groups []) [] words) (λ y. index_at_end y.0 y.1)

-- ---- what is said of it

-- a tree that was left out is too high
abbrev pub made_or_deep : {A : Type 0} → Option A → Result A ExprFault
made_or_deep None = Err expr_fault.Deep
made_or_deep (Some made) = Ok made

-- of an expression
abbrev pub outcome : Option Operand → Result Expr ExprFault
outcome None = Err expr_fault.NoExpr
outcome (Some operand) = made_or_deep operand.expr

-- of expressions with commas between them
abbrev pub outcome_of_parts : Option Parts → Result (List Expr) ExprFault
outcome_of_parts None = Err expr_fault.NoExpr
outcome_of_parts (Some parts) = made_or_deep parts.items

-- of an index
abbrev pub outcome_of_index : Option WholeIndex → Result (Index Expr) ExprFault
outcome_of_index None = Err expr_fault.NoExpr
outcome_of_index (Some ready) = made_or_deep ready.index
