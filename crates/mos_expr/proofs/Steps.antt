-- What the reader does behind an operand, step by step.

use Rattle.std.proofs.Common.{◌≡◌, ℕ, ◌≤◌, Bool, true, false, nat_le, ◌&&◌, ◌||◌, List, [], ◌∷◌, ◌++◌, Option, Some, None, refl, sym, ◌∙◌, ap, subst, arith}
use Rattle.std.proofs.lemmas.Bool.{le-leb, or_parts}
use Rattle.mos_tree.specs.declared.expr.UnaryOperator.{UnaryOperator}
use Rattle.mos_tree.specs.declared.expr.UnaryOperator.TheVariants as unary_operator
use Rattle.mos_tree.specs.declared.expr.BinaryOperator.{BinaryOperator}
use Rattle.mos_tree.specs.declared.expr.BinaryOperator.TheVariants as binary_operator
use Rattle.mos_tree.specs.declared.expr.AggregateOperator.{AggregateOperator}
use Rattle.mos_tree.specs.declared.expr.Expr.TheVariants as expr_kind
use Rattle.mos_scan.specs.declared.token.TokenKind.{TokenKind}
use Rattle.mos_scan.specs.declared.token.TokenKind.TheVariants as token_kind
use Rattle.mos_scan.specs.declared.grammar_word.Word.{Word}
use Rattle.mos_scan.specs.declared.grammar_word.Word.TheVariants as word_kind
use Rattle.mos_expr.specs.Grammar.{Syntax, before, between, aggregate, IndexSyntax, level, level_before, level_body, binds, left_of, right_of, takes, height_index, spell_between, index_of}
use Rattle.mos_expr.specs.Machine.{State, FoldResult, and_then, folds, room, fold, frame_result, stays, fold_frames, place_operator, by_operator, at_frame, mode_behind, operator_of, after_key}
use Rattle.mos_expr.specs.Reader.{step, read}
use Rattle.mos_expr.specs.Operands as operands
use Rattle.mos_expr.specs.declared.operand.Operand.{Operand}
use Rattle.mos_expr.specs.declared.operand.Parts.{Parts}
use Rattle.mos_expr.specs.declared.frame.Frame.{Frame}
use Rattle.mos_expr.specs.declared.frame.Frame.TheVariants as frame_kind
use Rattle.mos_expr.specs.declared.frame.Mode.TheVariants as mode_kind
use Rattle.mos_expr.proofs.Values.{whole, index_at, before-whole, between-whole, aggregate-whole}

-- ---- what may follow

-- behind a name or a call, this goes on with it
abbrev pub goes_on : TokenKind → Bool
goes_on token_kind.OpenRound = true
goes_on token_kind.Dot = true
goes_on _ = false

-- a token that takes no part of the expression
abbrev pub MayEnd : Syntax → TokenKind → Type 0
MayEnd s k = (goes_on k ≡ false) × ((op : BinaryOperator) → operator_of k ≡ Some op → takes s op ≡ false)

abbrev pub Follows : Syntax → List Word → Type 0
Follows s [] = Unit {0}
Follows s (word_kind.Key k ∷ ws) = MayEnd s k
Follows s (_ ∷ ws) = ⊥

pub follows-part : (s part : Syntax) (rest : List Word) → ((op : BinaryOperator) → takes s op ≡ false → takes part op ≡ false) → Follows s rest → Follows part rest
follows-part s part [] p h = tt
follows-part s part (word_kind.Key k ∷ ws) p h = (h.0, λ op e. p op (h.1 op e))
follows-part s part (word ∷ ws) p h = h

-- the operator in hand is the one asked for
same : (a : Syntax) (op : BinaryOperator) → takes a op ≡ false → (q : BinaryOperator) → Some op ≡ Some q → takes a q ≡ false
same a op h q e = let p : op ≡ q = cc in subst (λ x. takes a x ≡ false) p h

pub follows-operator : (a : Syntax) (op : BinaryOperator) (ws : List Word) → takes a op ≡ false → Follows a (spell_between op ++ ws)
follows-operator a binary_operator.NotIn ws h = (refl, same a binary_operator.NotIn h)
follows-operator a op ws h = (refl, same a op h)

-- ---- levels

pub binds-9 : (op : BinaryOperator) → binds op ≤ 9
binds-9 binary_operator.Or = omega arith
binds-9 op = omega arith

pub level-9 : (s : Syntax) → level s ≤ 9
level-9 (before unary_operator.Not s) = omega arith
level-9 (before unary_operator.Minus s) = omega arith
level-9 (before unary_operator.Plus s) = omega arith
level-9 (between op x y) = binds-9 op
level-9 s = omega arith

pub left-binds : (op : BinaryOperator) → left_of op ≤ binds op
left-binds binary_operator.Or = omega arith
left-binds op = omega arith

abbrev pub IsWithinRoom : ℕ → List Frame → Type 0
IsWithinRoom l [] = Unit {0}
IsWithinRoom l (g ∷ fs) = l ≤ room g

pub within-less : (k l : ℕ) (fs : List Frame) → k ≤ l → IsWithinRoom l fs → IsWithinRoom k fs
within-less k l [] h f = tt
within-less k l (g ∷ fs) h f = omega arith

-- ---- a frame that the operand ends

settles : (g : Frame) (x y : Operand) (fs : List Frame) → folds g ≡ true → fold g x ≡ Some y → fold_frames x (g ∷ fs) ≡ fold_frames y fs
settles g x y fs f e = rw (f, e) refl

places : (op : BinaryOperator) (g : Frame) (x y : Operand) (fs : List Frame) → folds g ≡ true → fold g x ≡ Some y → stays op x.level (g ∷ fs) ≡ false → place_operator op x (g ∷ fs) ≡ place_operator op y fs
places op g x y fs f e n = rw (n, f, e) refl

ends_at : (q : Option BinaryOperator) (k : TokenKind) (g : Frame) (x y : Operand) (fs : List Frame) → folds g ≡ true → fold g x ≡ Some y → ((op : BinaryOperator) → q ≡ Some op → stays op x.level (g ∷ fs) ≡ false) → by_operator q k x (g ∷ fs) ≡ by_operator q k y fs
ends_at None k g x y fs f e n = ap (λ (z : FoldResult). and_then z (λ y. at_frame k y.0 y.1)) (settles g x y fs f e)
ends_at (Some op) k g x y fs f e n = ap (λ (z : Option (List Frame)). and_then z (λ gs. Some (mode_behind op, gs))) (places op g x y fs f e (n op refl))

-- no operator that comes next stays within the frame
abbrev pub NotWithin : Frame → ℕ → List Word → Type 0
NotWithin g l [] = Unit {0}
NotWithin g l (word_kind.Key k ∷ ws) = (op : BinaryOperator) → operator_of k ≡ Some op → (nat_le (binds op) (room g) && nat_le l (left_of op)) ≡ false
NotWithin g l (_ ∷ ws) = Unit {0}

abbrev pub next_words : List Word → State → FoldResult
next_words ws z = and_then z (λ next. read next.0 next.1 ws)

pub pops : (g : Frame) (x y : Operand) (fs : List Frame) (rest : List Word) → folds g ≡ true → fold g x ≡ Some y → NotWithin g x.level rest → read (mode_kind.After x) (g ∷ fs) rest ≡ read (mode_kind.After y) fs rest
unfolding step after_key
pops g x y fs [] f e n = settles g x y fs f e
pops g x y fs (word_kind.Key k ∷ ws) f e n = ap (next_words ws) (ends_at (operator_of k) k g x y fs f e n)
pops g x y fs (word ∷ ws) f e n = refl

-- an expression that takes what its right part takes, or what stays within the frame round that part
not_within : (g : Frame) (s part : Syntax) (rest : List Word) → ((op : BinaryOperator) → takes s op ≡ ((nat_le (binds op) (room g) && nat_le (level part) (left_of op)) || takes part op)) → Follows s rest → NotWithin g (level part) rest
not_within g s part [] t h = tt
not_within g s part (word_kind.Key k ∷ ws) t h = λ op e. (or_parts (nat_le (binds op) (room g) && nat_le (level part) (left_of op)) (takes part op) (sym (t op) ∙ h.1 op e)).0
not_within g s part (word ∷ ws) t h = tt

fold-tight : (g : Frame) (s : Syntax) (y : Operand) → level s ≤ room g → frame_result g (whole s) ≡ Some y → fold g (whole s) ≡ Some y
fold-tight g s y l e = let t : nat_le (level s) (room g) ≡ true = le-leb (level s) (room g) l in rw (t, e) refl

pub pops-before : (p : UnaryOperator) (s : Syntax) (fs : List Frame) (rest : List Word) → level s ≤ level_before p → Follows (before p s) rest → read (mode_kind.After (whole s)) (frame_kind.Before p ∷ fs) rest ≡ read (mode_kind.After (whole (before p s))) fs rest
pops-before p s fs rest l h =
    pops (frame_kind.Before p) (whole s) (whole (before p s)) fs rest refl
    (fold-tight (frame_kind.Before p) s (whole (before p s)) l (ap (λ z. Some z) (before-whole p s)))
    (not_within (frame_kind.Before p) (before p s) s rest (λ op. refl) h)

pub pops-between : (op : BinaryOperator) (a s : Syntax) (fs : List Frame) (rest : List Word) → level s ≤ right_of op → Follows (between op a s) rest → read (mode_kind.After (whole s)) (frame_kind.Between op (whole a) ∷ fs) rest ≡ read (mode_kind.After (whole (between op a s))) fs rest
pops-between op a s fs rest l h =
    pops (frame_kind.Between op (whole a)) (whole s) (whole (between op a s)) fs rest refl
    (fold-tight (frame_kind.Between op (whole a)) s (whole (between op a s)) l (ap (λ z. Some z) (between-whole op a s)))
    (not_within (frame_kind.Between op (whole a)) (between op a s) s rest (λ q. refl) h)

pub pops-body : (g : AggregateOperator) (i : IndexSyntax) (s : Syntax) (fs : List Frame) (rest : List Word) → level s ≤ level_body g → Follows (aggregate g i s) rest → read (mode_kind.After (whole s)) (frame_kind.Body g (index_at (height_index i) (index_of i)) ∷ fs) rest ≡ read (mode_kind.After (whole (aggregate g i s))) fs rest
pops-body g i s fs rest l h =
    pops (frame_kind.Body g (index_at (height_index i) (index_of i))) (whole s) (whole (aggregate g i s)) fs rest refl
    (fold-tight (frame_kind.Body g (index_at (height_index i) (index_of i))) s (whole (aggregate g i s)) l (ap (λ z. Some z) (aggregate-whole g (height_index i) (index_of i) s)))
    (not_within (frame_kind.Body g (index_at (height_index i) (index_of i))) (aggregate g i s) s rest (λ op. refl) h)

-- ---- an operator that stays within the innermost frame

placed-stays : (op : BinaryOperator) (x : Operand) (fs : List Frame) → stays op x.level fs ≡ true → place_operator op x fs ≡ Some (frame_kind.Between op x ∷ fs)
placed-stays op x [] e = rw e refl
placed-stays op x (g ∷ fs) e = rw e refl

pub stays-within : (op : BinaryOperator) (l : ℕ) (fs : List Frame) → l ≤ left_of op → IsWithinRoom (binds op) fs → stays op l fs ≡ true
stays-within op l [] h f = le-leb l (left_of op) h
stays-within op l (g ∷ fs) h f =
    let p : nat_le (binds op) (room g) ≡ true = le-leb (binds op) (room g) f in
    let q : nat_le l (left_of op) ≡ true = le-leb l (left_of op) h in
    rw (p, q) refl

abbrev operator_words : BinaryOperator → List Word → Option (List Frame) → FoldResult
operator_words op ws z = next_words ws (and_then z (λ gs. Some (mode_behind op, gs)))

pub reads-operator : (op : BinaryOperator) (x : Operand) (fs : List Frame) (ws : List Word) → stays op x.level fs ≡ true → read (mode_kind.After x) fs (spell_between op ++ ws) ≡ read mode_kind.Want (frame_kind.Between op x ∷ fs) ws
unfolding step after_key
reads-operator binary_operator.NotIn x fs ws e = ap (operator_words binary_operator.NotIn (word_kind.Key token_kind.In ∷ ws)) (placed-stays binary_operator.NotIn x fs e)
reads-operator op x fs ws e = ap (operator_words op ws) (placed-stays op x fs e)

-- ---- behind a name and behind a call

name_at : (n : List ℕ) (k : TokenKind) (fs : List Frame) → goes_on k ≡ false → step (mode_kind.Named n) (word_kind.Key k) fs ≡ step (mode_kind.After (operands.leaf_of (expr_kind.Name n))) (word_kind.Key k) fs
unfolding step
name_at n token_kind.OpenRound fs h = cc
name_at n token_kind.Dot fs h = cc
name_at n k fs h = refl

pub name-ends : (n : List ℕ) (s : Syntax) (fs : List Frame) (rest : List Word) → Follows s rest → read (mode_kind.Named n) fs rest ≡ read (mode_kind.After (operands.leaf_of (expr_kind.Name n))) fs rest
name-ends n s fs [] h = refl
name-ends n s fs (word_kind.Key k ∷ ws) h = ap (next_words ws) (name_at n k fs h.0)
name-ends n s fs (word ∷ ws) h = absurd h

call_at : (n : List ℕ) (ps : Parts) (k : TokenKind) (fs : List Frame) → goes_on k ≡ false → step (mode_kind.Called n ps) (word_kind.Key k) fs ≡ step (mode_kind.After (operands.call_of n ps)) (word_kind.Key k) fs
unfolding step
call_at n ps token_kind.Dot fs h = cc
call_at n ps k fs h = refl

pub call-ends : (n : List ℕ) (ps : Parts) (s : Syntax) (fs : List Frame) (rest : List Word) → Follows s rest → read (mode_kind.Called n ps) fs rest ≡ read (mode_kind.After (operands.call_of n ps)) fs rest
call-ends n ps s fs [] h = refl
call-ends n ps s fs (word_kind.Key k ∷ ws) h = ap (next_words ws) (call_at n ps k fs h.0)
call-ends n ps s fs (word ∷ ws) h = absurd h
