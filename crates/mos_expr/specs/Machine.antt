-- As the code reads, apart from what the public clauses say: which open frames an operand ends, and what the frame that is
-- then innermost makes of it. The innermost frame stands first.

use Rattle.std.specs.Prelude.{◌≡◌, ℕ, Bool, true, false, ◌&&◌, if◌then◌else◌, nat_le, List, [], ◌∷◌, reverse, Option, Some, None, MatchOption}
use Rattle.mos_tree.specs.declared.expr.BinaryOperator.{BinaryOperator}
use Rattle.mos_tree.specs.declared.expr.BinaryOperator.TheVariants as binary_operator
use Rattle.mos_scan.specs.declared.token.TokenKind.{TokenKind}
use Rattle.mos_scan.specs.declared.token.TokenKind.TheVariants as token_kind
use Rattle.mos_expr.specs.Grammar.{binds, left_of, right_of, level_before, level_body}
use Rattle.mos_expr.specs.Operands as operands
use Rattle.mos_expr.specs.declared.operand.Operand.{Operand}
use Rattle.mos_expr.specs.declared.operand.Parts.{Parts}
use Rattle.mos_expr.specs.declared.operand.Groups.{Groups}
use Rattle.mos_expr.specs.declared.operand.WholeIndex.{WholeIndex}
use Rattle.mos_expr.specs.declared.frame.IndexKind.{IndexKind}
use Rattle.mos_expr.specs.declared.frame.IndexKind.TheVariants as index_kind
use Rattle.mos_expr.specs.declared.frame.ListKind.{ListKind}
use Rattle.mos_expr.specs.declared.frame.ListKind.TheVariants as list_kind
use Rattle.mos_expr.specs.declared.frame.Frame.{Frame}
use Rattle.mos_expr.specs.declared.frame.Frame.TheVariants as frame_kind
use Rattle.mos_expr.specs.declared.frame.Mode.{Mode}
use Rattle.mos_expr.specs.declared.frame.Mode.TheVariants as mode_kind

-- the frames of the code, whose innermost stands last
abbrev pub stack_of : List Frame → List Frame
stack_of frames = reverse frames

-- the frame that is taken off a stack
abbrev pub IsPopped : List Frame → List Frame → Option Frame → Type 0
IsPopped old new popped =
    MatchOption popped ((stack_of old ≡ []) × (stack_of new ≡ [])) (λ frame. stack_of old ≡ frame ∷ stack_of new)

-- what comes next, in which frames; none where the words so far begin nothing
abbrev pub State : Type 0
State = Option (Mode × List Frame)

-- what comes next, with the frames that are open
abbrev pub state_of : Option Mode → List Frame → State
state_of None fs = None
state_of (Some mode) fs = Some (mode, fs)

-- the stacks before and after a step, and what comes next, are those of this step on lists
abbrev pub IsStep : (List Frame → State) → List Frame → List Frame → Option Mode → Type 0
IsStep step old new next = step (stack_of old) ≡ state_of next (stack_of new)

-- a step that leaves the frames as they are, whichever they are
abbrev pub IsStepAnywhere : (List Frame → State) → Option Mode → Type 0
IsStepAnywhere step next = (frames : List Frame) → step frames ≡ state_of next frames

-- an operand, in which frames
abbrev pub FoldResult : Type 0
FoldResult = Option (Operand × List Frame)

-- an operand, with the frames that are open
abbrev pub fold_result_of : Option Operand → List Frame → FoldResult
fold_result_of None fs = None
fold_result_of (Some x) fs = Some (x, fs)

-- the frames, where the test holds
abbrev pub frames_if : Bool → List Frame → Option (List Frame)
frames_if true fs = Some fs
frames_if false fs = None

-- what is done with what there is
abbrev pub and_then : {A B : Type 0} → Option A → (A → Option B) → Option B
and_then None go = None
and_then (Some x) go = go x

-- ---- folding

-- a frame that an operand ends
abbrev pub folds : Frame → Bool
folds (frame_kind.Before op) = true
folds (frame_kind.Between op a) = true
folds (frame_kind.Body op index) = true
folds _ = false

-- whether an operand ends the innermost frame
abbrev pub top_folds : List Frame → Bool
top_folds [] = false
top_folds (g ∷ fs) = folds g

-- the loosest operand that the frame takes
abbrev pub room : Frame → ℕ
room (frame_kind.Before op) = level_before op
room (frame_kind.Between op a) = right_of op
room (frame_kind.Body op index) = level_body op
room (frame_kind.IndexSet kind groups names) = 5
room _ = 9

-- what the frame makes of an operand that ends it
abbrev pub frame_result : Frame → Operand → Option Operand
frame_result (frame_kind.Before op) x = Some (operands.before_of op x)
frame_result (frame_kind.Between op a) x = Some (operands.between_of op a x)
frame_result (frame_kind.Body op index) x = Some (operands.aggregate_of op index x)
frame_result _ x = None

-- the same, where the operand is tight enough
abbrev pub fold : Frame → Operand → Option Operand
fold g x = if nat_le x.level (room g) then frame_result g x else None

-- the operator stays within the innermost frame, with an operand of this level at its left
abbrev pub stays : BinaryOperator → ℕ → List Frame → Bool
stays op level [] = nat_le level (left_of op)
stays op level (g ∷ fs) = nat_le (binds op) (room g) && nat_le level (left_of op)

-- the operand with all that it ends
abbrev pub fold_frames : Operand → List Frame → FoldResult
fold_frames x [] = Some (x, [])
fold_frames x (g ∷ fs) = if folds g then and_then (fold g x) (λ y. fold_frames y fs) else Some (x, g ∷ fs)

-- the frames behind an operator
abbrev pub place_operator : BinaryOperator → Operand → List Frame → Option (List Frame)
place_operator op x [] = if stays op x.level [] then Some (frame_kind.Between op x ∷ []) else None
place_operator op x (g ∷ fs) =
    if stays op x.level (g ∷ fs) then Some (frame_kind.Between op x ∷ g ∷ fs)
    else (if folds g then and_then (fold g x) (λ y. place_operator op y fs) else None)

-- ---- the innermost frame takes the operand at a bracket, a comma or a bar

-- an operand comes next, in one more frame
abbrev pub want_with : Frame → List Frame → State
want_with g fs = Some (mode_kind.Want, g ∷ fs)

-- a whole index, behind its closing bracket
abbrev pub index_read : IndexKind → WholeIndex → List Frame → State
index_read (index_kind.Aggregate op) ready fs = want_with (frame_kind.Body op ready) fs
index_read index_kind.Count ready fs = Some (mode_kind.After (operands.counted_of ready), fs)
index_read index_kind.Loop ready fs = None

-- the last set of an index, at the closing bracket
abbrev pub set_at_round : IndexKind → Groups → List (List ℕ) → Operand → List Frame → State
set_at_round kind groups names x fs = and_then (operands.set_read groups names x) (λ gs. index_read kind (operands.whole_index_of gs) fs)

-- the last set of an index, at the bar before its condition
abbrev pub set_at_bar : IndexKind → Groups → List (List ℕ) → Operand → List Frame → State
set_at_bar kind groups names x fs = and_then (operands.set_read groups names x) (λ gs. want_with (frame_kind.IndexCondition kind gs) fs)

-- a set of an index, at the comma before more names
abbrev pub set_at_comma : IndexKind → Groups → List (List ℕ) → Operand → List Frame → State
set_at_comma kind groups names x fs = and_then (operands.set_read groups names x) (λ gs. Some (mode_kind.WantName kind gs [], fs))

-- the bracket closes such expressions
abbrev pub closes : TokenKind → ListKind → Bool
closes token_kind.CloseRound (list_kind.Call n) = true
closes token_kind.CloseCurly list_kind.Set = true
closes token_kind.CloseSquare list_kind.List = true
closes _ _ = false

-- what expressions are, behind their bracket
abbrev pub closed_list : ListKind → Parts → Option Mode
closed_list (list_kind.Call n) ps = Some (mode_kind.Called n ps)
closed_list list_kind.Set ps = Some (mode_kind.After (operands.set_of ps))
closed_list list_kind.List ps = Some (mode_kind.After (operands.list_of ps))
closed_list list_kind.Bare ps = None

-- the bracket behind all of the expressions
abbrev pub list_closed : TokenKind → ListKind → Parts → Option Mode
list_closed k list ps = if closes k list then closed_list list ps else None

-- a closing bracket behind the last of some expressions
abbrev pub at_bracket : TokenKind → Frame → Operand → List Frame → State
at_bracket k (frame_kind.InList list ps) x fs = state_of (list_closed k list (operands.parts_with ps x)) fs
at_bracket k _ x fs = None

-- at a closing round bracket
abbrev pub at_round : Frame → Operand → List Frame → State
at_round frame_kind.Bracket x fs = Some (mode_kind.After (operands.bracket_of x), fs)
at_round (frame_kind.IfSecond p q) x fs = Some (mode_kind.After (operands.if_expr_of p q x), fs)
at_round (frame_kind.Convert to) x fs = Some (mode_kind.After (operands.convert_of to x), fs)
at_round (frame_kind.IndexSet kind groups names) x fs = set_at_round kind groups names x fs
at_round (frame_kind.IndexCondition kind groups) x fs = index_read kind (operands.conditioned_index_of groups x) fs
at_round g x fs = at_bracket token_kind.CloseRound g x fs

-- at a comma
abbrev pub at_comma : Frame → Operand → List Frame → State
at_comma (frame_kind.InList list ps) x fs = want_with (frame_kind.InList list (operands.parts_with ps x)) fs
at_comma frame_kind.IfExpr x fs = want_with (frame_kind.IfFirst x) fs
at_comma (frame_kind.IfFirst p) x fs = want_with (frame_kind.IfSecond p x) fs
at_comma (frame_kind.IndexSet kind groups names) x fs = set_at_comma kind groups names x fs
at_comma _ x fs = None

-- at the bar of an index
abbrev pub at_bar : Frame → Operand → List Frame → State
at_bar (frame_kind.IndexSet kind groups names) x fs = set_at_bar kind groups names x fs
at_bar _ x fs = None

-- at any of these
abbrev pub at_frame : TokenKind → Operand → List Frame → State
at_frame k x [] = None
at_frame token_kind.CloseRound x (g ∷ fs) = at_round g x fs
at_frame token_kind.CloseCurly x (g ∷ fs) = at_bracket token_kind.CloseCurly g x fs
at_frame token_kind.CloseSquare x (g ∷ fs) = at_bracket token_kind.CloseSquare g x fs
at_frame token_kind.Comma x (g ∷ fs) = at_comma g x fs
at_frame token_kind.Bar x (g ∷ fs) = at_bar g x fs
at_frame _ x (g ∷ fs) = None

-- ---- what may follow an operand

-- the operator that begins with this token
abbrev pub operator_of : TokenKind → Option BinaryOperator
operator_of token_kind.Times = Some binary_operator.Times
operator_of token_kind.Div = Some binary_operator.Div
operator_of token_kind.Mod = Some binary_operator.Mod
operator_of token_kind.Inter = Some binary_operator.Inter
operator_of token_kind.Plus = Some binary_operator.Plus
operator_of token_kind.Minus = Some binary_operator.Minus
operator_of token_kind.Union = Some binary_operator.Union
operator_of token_kind.DotDot = Some binary_operator.Range
operator_of token_kind.Equal = Some binary_operator.Equal
operator_of token_kind.NotEqual = Some binary_operator.NotEqual
operator_of token_kind.Less = Some binary_operator.Less
operator_of token_kind.AtMost = Some binary_operator.AtMost
operator_of token_kind.Greater = Some binary_operator.Greater
operator_of token_kind.AtLeast = Some binary_operator.AtLeast
operator_of token_kind.In = Some binary_operator.In
operator_of token_kind.Not = Some binary_operator.NotIn
operator_of token_kind.And = Some binary_operator.And
operator_of token_kind.Or = Some binary_operator.Or
operator_of _ = None

-- behind `not` between two operands comes `in`
abbrev pub mode_behind : BinaryOperator → Mode
mode_behind binary_operator.NotIn = mode_kind.WantIn
mode_behind _ = mode_kind.Want

-- a bracket, a comma or a bar behind an operand
abbrev pub close : TokenKind → Operand → List Frame → State
close k x fs = and_then (fold_frames x fs) (λ y. at_frame k y.0 y.1)

-- an operator behind an operand
abbrev pub infix_at : BinaryOperator → Operand → List Frame → State
infix_at op x fs = and_then (place_operator op x fs) (λ gs. Some (mode_behind op, gs))

-- what a token behind an operand does, by the operator that it begins
abbrev pub by_operator : Option BinaryOperator → TokenKind → Operand → List Frame → State
by_operator None k x fs = close k x fs
by_operator (Some op) k x fs = infix_at op x fs

-- what a token behind an operand does
unfoldable pub after_key : TokenKind → Operand → List Frame → State
after_key k x fs = by_operator (operator_of k) k x fs
