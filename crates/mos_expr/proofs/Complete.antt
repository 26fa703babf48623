-- What the words of an expression come to: the expression read whole, in the same frames.

use Rattle.std.proofs.Common.{◌≡◌, ℕ, ◌+◌, ◌≤◌, max, true, false, nat_le, List, [], ◌∷◌, ◌++◌, Option, Some, None, refl, sym, ◌∙◌, ap, subst, arith, append_assoc}
use Rattle.std.proofs.lemmas.List.{append-nil}
use Rattle.std.proofs.lemmas.Bool.{le-leb, or_parts}
use Rattle.mos_tree.specs.declared.expr.Expr.{Expr}
use Rattle.mos_tree.specs.declared.expr.Group.{Group}
use Rattle.mos_tree.specs.declared.expr.UnaryOperator.{UnaryOperator}
use Rattle.mos_tree.specs.declared.expr.UnaryOperator.TheVariants as unary_operator
use Rattle.mos_tree.specs.declared.expr.AggregateOperator.{AggregateOperator}
use Rattle.mos_tree.specs.declared.expr.AggregateOperator.TheVariants as aggregate_operator
use Rattle.mos_tree.specs.declared.expr.Conversion.{Conversion}
use Rattle.mos_tree.specs.declared.expr.Conversion.TheVariants as conversion
use Rattle.mos_scan.specs.declared.token.TokenKind.{TokenKind}
use Rattle.mos_scan.specs.declared.token.TokenKind.TheVariants as token_kind
use Rattle.mos_scan.specs.declared.grammar_word.Word.{Word}
use Rattle.mos_scan.specs.declared.grammar_word.Word.TheVariants as word_kind
use Rattle.mos_expr.specs.Grammar.{Leaf, number, text, truth, name, returned, field, Names, one_name, and_name, Syntax, leaf, call, call_field, set, list, bracket, if_expr, convert, before, between, aggregate, counted, SyntaxList, no_syntax, syntax_then, IndexSyntax, last_set, such_that, another, level, binds, takes, tree, trees, height, heights, height_index, groups_of, condition_of, IsGrouped, AreGrouped, IsGroupedIndex, key, spell, spell_leaf, spell_before, spell_between, spell_aggregate, spell_conversion, spell_names, spell_list, spell_rest, spell_index, list_of_names, index_of}
use Rattle.mos_expr.specs.Machine.{FoldResult, and_then, folds, fold_frames, at_frame, operator_of, after_key, index_read, at_round}
use Rattle.mos_expr.specs.Reader.{step, read, want_key, aggregate_key, last_of_index}
use Rattle.mos_expr.specs.Operands as operands
use Rattle.mos_expr.specs.declared.operand.Operand.{Operand}
use Rattle.mos_expr.specs.declared.operand.Parts.{Parts}
use Rattle.mos_expr.specs.declared.operand.Groups.{Groups}
use Rattle.mos_expr.specs.declared.operand.WholeIndex.{WholeIndex}
use Rattle.mos_expr.specs.declared.frame.IndexKind.{IndexKind}
use Rattle.mos_expr.specs.declared.frame.IndexKind.TheVariants as index_kind
use Rattle.mos_expr.specs.declared.frame.ListKind.{ListKind}
use Rattle.mos_expr.specs.declared.frame.ListKind.TheVariants as list_kind
use Rattle.mos_expr.specs.declared.frame.Frame.{Frame}
use Rattle.mos_expr.specs.declared.frame.Frame.TheVariants as frame_kind
use Rattle.mos_expr.specs.declared.frame.Mode.{Mode}
use Rattle.mos_expr.specs.declared.frame.Mode.TheVariants as mode_kind
use Rattle.mos_expr.proofs.Values.{whole, parts_at, groups_at, index_at, group_of, bracketed-whole, convert-whole, if_expr-whole, counted-whole, parts-whole, call-whole, call_field-whole, set-whole, list-whole, groups-whole, index-whole, conditioned-whole}
use Rattle.mos_expr.proofs.Steps.{goes_on, next_words, Follows, follows-part, follows-operator, level-9, left-binds, IsWithinRoom, within-less, pops-before, pops-between, pops-body, stays-within, reads-operator, name-ends, call-ends}

-- nothing that takes part in an expression comes next
abbrev pub Closes : List Word → Type 0
Closes rest = (s : Syntax) → Follows s rest

pub closes-key : (k : TokenKind) → goes_on k ≡ false → operator_of k ≡ None → (ws : List Word) → Closes (word_kind.Key k ∷ ws)
closes-key k goes none ws s = (goes, λ op e. let h : None ≡ Some op = sym none ∙ e in cc)

pub closes-end : Closes []
closes-end s = tt

-- ---- the first word of an expression closes no bracket

pub record Begins (s : Syntax) : Type 0 where
  pub word : Word
  pub words : List Word
  pub spelled : spell s ≡ word ∷ words
  pub opens : (fs : List Frame) → step mode_kind.WantFirst word fs ≡ step mode_kind.Want word fs

begins-leaf : (x : Leaf) → Begins (leaf x)
unfolding step
begins-leaf (number n) = record { word = word_kind.Number n; words = []; spelled = refl; opens = λ fs. refl }
begins-leaf (text x) = record { word = word_kind.Text x; words = []; spelled = refl; opens = λ fs. refl }
begins-leaf (truth true) = record { word = word_kind.Key token_kind.True; words = []; spelled = refl; opens = λ fs. refl }
begins-leaf (truth false) = record { word = word_kind.Key token_kind.False; words = []; spelled = refl; opens = λ fs. refl }
begins-leaf (name n) = record { word = word_kind.Name n; words = []; spelled = refl; opens = λ fs. refl }
begins-leaf returned = record { word = word_kind.Key token_kind.Returned; words = []; spelled = refl; opens = λ fs. refl }
begins-leaf (field n x) = record { word = word_kind.Name n; words = word_kind.Key token_kind.Dot ∷ word_kind.Name x ∷ []; spelled = refl; opens = λ fs. refl }

opens-conversion : (to : Conversion) (fs : List Frame) → step mode_kind.WantFirst (spell_conversion to) fs ≡ step mode_kind.Want (spell_conversion to) fs
unfolding step
opens-conversion conversion.Integer fs = refl
opens-conversion conversion.Text fs = refl

opens-before : (p : UnaryOperator) (fs : List Frame) → step mode_kind.WantFirst (spell_before p) fs ≡ step mode_kind.Want (spell_before p) fs
unfolding step
opens-before unary_operator.Minus fs = refl
opens-before unary_operator.Plus fs = refl
opens-before unary_operator.Not fs = refl

opens-aggregate : (p : AggregateOperator) (fs : List Frame) → step mode_kind.WantFirst (spell_aggregate p) fs ≡ step mode_kind.Want (spell_aggregate p) fs
unfolding step
opens-aggregate aggregate_operator.Sum fs = refl
opens-aggregate p fs = refl

pub begins : (s : Syntax) → Begins s
unfolding step
begins (leaf x) = begins-leaf x
begins (call n xs) = record { word = word_kind.Name n; words = _; spelled = refl; opens = λ fs. refl }
begins (call_field n xs x) = record { word = word_kind.Name n; words = _; spelled = refl; opens = λ fs. refl }
begins (set xs) = record { word = word_kind.Key token_kind.OpenCurly; words = _; spelled = refl; opens = λ fs. refl }
begins (list xs) = record { word = word_kind.Key token_kind.OpenSquare; words = _; spelled = refl; opens = λ fs. refl }
begins (bracket s) = record { word = word_kind.Key token_kind.OpenRound; words = _; spelled = refl; opens = λ fs. refl }
begins (if_expr x y z) = record { word = word_kind.Key token_kind.If; words = _; spelled = refl; opens = λ fs. refl }
begins (convert to s) = record { word = spell_conversion to; words = _; spelled = refl; opens = opens-conversion to }
begins (before p s) = record { word = spell_before p; words = _; spelled = refl; opens = opens-before p }
begins (between op x y) =
    let first : Begins x = begins x in
    record { word = first.word; words = first.words ++ (spell_between op ++ spell y); spelled = ap (λ ws. ws ++ (spell_between op ++ spell y)) first.spelled; opens = first.opens }
begins (aggregate p i s) = record { word = spell_aggregate p; words = _; spelled = refl; opens = opens-aggregate p }
begins (counted i) = record { word = word_kind.Key token_kind.Count; words = _; spelled = refl; opens = λ fs. refl }

pub first-operand : (s : Syntax) (fs : List Frame) (rest : List Word) → read mode_kind.WantFirst fs (spell s ++ rest) ≡ read mode_kind.Want fs (spell s ++ rest)
first-operand s fs rest =
    let first : Begins s = begins s in
    let e : spell s ++ rest ≡ first.word ∷ (first.words ++ rest) = ap (λ ws. ws ++ rest) first.spelled in
    ap (read mode_kind.WantFirst fs) e ∙ ap (next_words (first.words ++ rest)) (first.opens fs) ∙ sym (ap (read mode_kind.Want fs) e)

-- ---- lists of parts

list-comma : (form : ListKind) (ps : Parts) (x : Operand) (fs : List Frame) (ws : List Word) → read (mode_kind.After x) (frame_kind.InList form ps ∷ fs) (word_kind.Key token_kind.Comma ∷ ws) ≡ read mode_kind.Want (frame_kind.InList form (operands.parts_with ps x) ∷ fs) ws
unfolding step after_key
list-comma form ps x fs ws = refl

-- behind the last of some expressions, which is not yet among the parts
pub record ListRead (form : ListKind) (h : ℕ) (xs : List Expr) (s : Syntax) (ss : SyntaxList) (fs : List Frame) (rest : List Word) : Type 0 where
  pub last : Operand
  pub parts : Parts
  pub reads_to : read (mode_kind.After (whole s)) (frame_kind.InList form (parts_at h xs) ∷ fs) (spell_rest ss ++ rest) ≡ read (mode_kind.After last) (frame_kind.InList form parts ∷ fs) rest
  pub all : operands.parts_with parts last ≡ parts_at (max (max h (height s)) (heights ss)) (xs ++ tree s ∷ [] ++ trees ss)

-- the same from the first of them on
pub record WholeListRead (mode : Mode) (form : ListKind) (ss : SyntaxList) (fs : List Frame) (words rest : List Word) : Type 0 where
  pub last : Operand
  pub parts : Parts
  pub reads_to : read mode (frame_kind.InList form operands.no_parts ∷ fs) words ≡ read (mode_kind.After last) (frame_kind.InList form parts ∷ fs) rest
  pub all : operands.parts_with parts last ≡ parts_at (heights ss) (trees ss)

whole-list : (form : ListKind) (s : Syntax) (ss : SyntaxList) (fs : List Frame) (rest : List Word) → read mode_kind.Want (frame_kind.InList form operands.no_parts ∷ fs) (spell s ++ (spell_rest ss ++ rest)) ≡ read (mode_kind.After (whole s)) (frame_kind.InList form operands.no_parts ∷ fs) (spell_rest ss ++ rest) → ListRead form 0 [] s ss fs rest
    → WholeListRead mode_kind.Want form (syntax_then s ss) fs (spell s ++ (spell_rest ss ++ rest)) rest
whole-list form s ss fs rest first r =
    let low : max (max 0 (height s)) (heights ss) ≡ max (height s) (heights ss) = omega arith in
    record {
      last = r.last;
      parts = r.parts;
      reads_to = first ∙ r.reads_to;
      all = r.all ∙ ap (λ h. parts_at h (tree s ∷ trees ss)) low;
    }

-- the same behind an opening bracket, up to the closing one
first-list : (form : ListKind) (s : Syntax) (ss : SyntaxList) (fs : List Frame) (k : TokenKind) (tail rest : List Word) → WholeListRead mode_kind.Want form (syntax_then s ss) fs (spell s ++ (spell_rest ss ++ word_kind.Key k ∷ (tail ++ rest))) (word_kind.Key k ∷ (tail ++ rest))
    → WholeListRead mode_kind.WantFirst form (syntax_then s ss) fs ((spell_list (syntax_then s ss) ++ word_kind.Key k ∷ tail) ++ rest) (word_kind.Key k ∷ (tail ++ rest))
first-list form s ss fs k tail rest r = record {
  last = r.last;
  parts = r.parts;
  reads_to =
      ap (read mode_kind.WantFirst (frame_kind.InList form operands.no_parts ∷ fs)) (append_assoc (spell s ++ spell_rest ss) (word_kind.Key k ∷ tail) rest ∙ append_assoc (spell s) (spell_rest ss) (word_kind.Key k ∷ (tail ++ rest)))
      ∙ first-operand s (frame_kind.InList form operands.no_parts ∷ fs) (spell_rest ss ++ word_kind.Key k ∷ (tail ++ rest))
      ∙ r.reads_to;
  all = r.all;
}

zero-high : (n : ℕ) → n ≡ max n 0
zero-high n = omega arith

follows-rest : (s : Syntax) (ss : SyntaxList) (rest : List Word) → Closes rest → Follows s (spell_rest ss ++ rest)
follows-rest s no_syntax rest c = c s
follows-rest s (syntax_then x xs) rest c = closes-key token_kind.Comma refl refl ((spell x ++ spell_rest xs) ++ rest) s

-- ---- indexes

pub record IndexEnds (kind : IndexKind) (top : Frame) (x : Operand) (ready : WholeIndex) : Type 0 where
  pub open_still : folds top ≡ false
  pub rounds : (fs : List Frame) → at_round top x fs ≡ index_read kind ready fs
  pub loops : kind ≡ index_kind.Loop → last_of_index x top ≡ Some ready

-- behind the last expression of an index
pub record IndexRead (kind : IndexKind) (h : ℕ) (gs : List (Group Expr)) (over : IndexSyntax) (fs : List Frame) (rest : List Word) : Type 0 where
  pub last : Operand
  pub top : Frame
  pub reads_to : read (mode_kind.WantName kind (groups_at h gs) []) fs (spell_index over ++ rest) ≡ read (mode_kind.After last) (top ∷ fs) rest
  pub ends : IndexEnds kind top last (index_at (max h (height_index over)) (record { groups = gs ++ groups_of over; condition = condition_of over }))

reads-names : (kind : IndexKind) (groups : Groups) (ns : Names) (before_names : List (List ℕ)) (fs : List Frame) (ws : List Word) → read (mode_kind.WantName kind groups before_names) fs (spell_names ns ++ word_kind.Key token_kind.In ∷ ws) ≡ read mode_kind.Want (frame_kind.IndexSet kind groups (before_names ++ list_of_names ns) ∷ fs) ws
unfolding step
reads-names kind groups (one_name n) before_names fs ws = refl
reads-names kind groups (and_name n ns) before_names fs ws =
    reads-names kind groups ns (before_names ++ n ∷ []) fs ws ∙ ap (λ l. read mode_kind.Want (frame_kind.IndexSet kind groups l ∷ fs) ws) (append_assoc before_names (n ∷ []) (list_of_names ns))

aggregate-begins : (p : AggregateOperator) (fs : List Frame) (ws : List Word) → read mode_kind.Want fs (spell_aggregate p ∷ word_kind.Key token_kind.OpenRound ∷ ws) ≡ read (mode_kind.WantName (index_kind.Aggregate p) operands.no_groups []) fs ws
unfolding step want_key aggregate_key
aggregate-begins aggregate_operator.Sum fs ws = refl
aggregate-begins p fs ws = refl

count-begins : (fs : List Frame) (ws : List Word) → read mode_kind.Want fs (word_kind.Key token_kind.Count ∷ word_kind.Key token_kind.OpenRound ∷ ws) ≡ read (mode_kind.WantName index_kind.Count operands.no_groups []) fs ws
unfolding step want_key aggregate_key
count-begins fs ws = refl

index-closes : (kind : IndexKind) (top : Frame) (x : Operand) (ready : WholeIndex) (fs : List Frame) (ws : List Word) → IndexEnds kind top x ready → read (mode_kind.After x) (top ∷ fs) (word_kind.Key token_kind.CloseRound ∷ ws) ≡ next_words ws (index_read kind ready fs)
unfolding step after_key
index-closes kind top x ready fs ws ends =
    let s : fold_frames x (top ∷ fs) ≡ Some (x, top ∷ fs) = rw (ends.open_still) refl in
    ap (λ (z : FoldResult). next_words ws (and_then z (λ y. at_frame token_kind.CloseRound y.0 y.1))) s ∙ ap (next_words ws) (ends.rounds fs)

-- the last set of an index
set_ends : (kind : IndexKind) (h : ℕ) (gs : List (Group Expr)) (names : List (List ℕ)) (s : Syntax) → level s ≤ 5 → IndexEnds kind (frame_kind.IndexSet kind (groups_at h gs) names) (whole s) (index_at (max h (height s + 1)) (record { groups = gs ++ group_of names s ∷ []; condition = None }))
set_ends kind h gs names s l =
    let t : nat_le (level s) 5 ≡ true = le-leb (level s) 5 l in
    let made : operands.whole_index_of (operands.groups_with (groups_at h gs) names (whole s)) ≡ index_at (max h (height s + 1)) (record { groups = gs ++ group_of names s ∷ []; condition = None }) = ap operands.whole_index_of (groups-whole h gs names s) ∙ index-whole (max h (height s + 1)) (gs ++ group_of names s ∷ []) in
    record {
      open_still = refl;
      rounds = λ fs. rw t (ap (λ r. index_read kind r fs) made);
      loops = λ is. subst (λ k. last_of_index (whole s) (frame_kind.IndexSet k (groups_at h gs) names) ≡ Some (index_at (max h (height s + 1)) (record { groups = gs ++ group_of names s ∷ []; condition = None }))) (sym is) (rw t (ap (λ r. Some r) made));
    }

-- the condition of an index
condition_ends : (kind : IndexKind) (h : ℕ) (gs : List (Group Expr)) (s : Syntax) → IndexEnds kind (frame_kind.IndexCondition kind (groups_at h gs)) (whole s) (index_at (max h (height s)) (record { groups = gs; condition = Some (tree s) }))
condition_ends kind h gs s = record {
  open_still = refl;
  rounds = λ fs. ap (λ r. index_read kind r fs) (conditioned-whole h gs s);
  loops = λ is. subst (λ k. last_of_index (whole s) (frame_kind.IndexCondition k (groups_at h gs)) ≡ Some (index_at (max h (height s)) (record { groups = gs; condition = Some (tree s) }))) (sym is) (ap (λ r. Some r) (conditioned-whole h gs s));
}

-- a bar behind a set
reads-bar : (kind : IndexKind) (h : ℕ) (gs : List (Group Expr)) (names : List (List ℕ)) (s : Syntax) (fs : List Frame) (ws : List Word) → level s ≤ 5 → read (mode_kind.After (whole s)) (frame_kind.IndexSet kind (groups_at h gs) names ∷ fs) (word_kind.Key token_kind.Bar ∷ ws) ≡ read mode_kind.Want (frame_kind.IndexCondition kind (groups_at (max h (height s + 1)) (gs ++ group_of names s ∷ [])) ∷ fs) ws
unfolding step after_key
reads-bar kind h gs names s fs ws l =
    let t : nat_le (level s) 5 ≡ true = le-leb (level s) 5 l in
    rw t (ap (λ q. read mode_kind.Want (frame_kind.IndexCondition kind q ∷ fs) ws) (groups-whole h gs names s))

-- a comma behind a set
reads-comma : (kind : IndexKind) (h : ℕ) (gs : List (Group Expr)) (names : List (List ℕ)) (s : Syntax) (fs : List Frame) (ws : List Word) → level s ≤ 5 → read (mode_kind.After (whole s)) (frame_kind.IndexSet kind (groups_at h gs) names ∷ fs) (word_kind.Key token_kind.Comma ∷ ws) ≡ read (mode_kind.WantName kind (groups_at (max h (height s + 1)) (gs ++ group_of names s ∷ [])) []) fs ws
unfolding step after_key
reads-comma kind h gs names s fs ws l =
    let t : nat_le (level s) 5 ≡ true = le-leb (level s) 5 l in
    rw t (ap (λ q. read (mode_kind.WantName kind q []) fs ws) (groups-whole h gs names s))

-- more groups, of which the first is already among those before
more_ends : (kind : IndexKind) (top : Frame) (x : Operand) (h k n : ℕ) (gs more : List (Group Expr)) (one : Group Expr) (condition : Option Expr) → IndexEnds kind top x (index_at (max (max h k) n) (record { groups = gs ++ one ∷ [] ++ more; condition = condition })) → IndexEnds kind top x (index_at (max h (max k n)) (record { groups = gs ++ one ∷ more; condition = condition }))
more_ends kind top x h k n gs more one condition ends =
    let p : max (max h k) n ≡ max h (max k n) = omega arith in
    let q : gs ++ one ∷ [] ++ more ≡ gs ++ one ∷ more = append_assoc gs (one ∷ []) more in
    subst (λ a. IndexEnds kind top x (index_at a (record { groups = gs ++ one ∷ more; condition = condition }))) p
    (subst (λ b. IndexEnds kind top x (index_at (max (max h k) n) (record { groups = b; condition = condition }))) q ends)

-- ---- expressions without parts

reads-leaf : (x : Leaf) (fs : List Frame) (rest : List Word) → Follows (leaf x) rest → read mode_kind.Want fs (spell_leaf x ++ rest) ≡ read (mode_kind.After (whole (leaf x))) fs rest
unfolding step want_key
reads-leaf (number n) fs rest h = refl
reads-leaf (text x) fs rest h = refl
reads-leaf (truth true) fs rest h = refl
reads-leaf (truth false) fs rest h = refl
reads-leaf (name n) fs rest h = name-ends n (leaf (name n)) fs rest h
reads-leaf returned fs rest h = refl
reads-leaf (field n x) fs rest h = refl

-- ---- regrouping of words

pub three-parts : (x y z : List Word) (rest : List Word) → (x ++ word_kind.Key token_kind.Comma ∷ (y ++ word_kind.Key token_kind.Comma ∷ (z ++ key token_kind.CloseRound))) ++ rest ≡ x ++ word_kind.Key token_kind.Comma ∷ (y ++ word_kind.Key token_kind.Comma ∷ (z ++ word_kind.Key token_kind.CloseRound ∷ rest))
three-parts x y z rest = simp append_assoc

-- ---- all expressions

conversion-begins : (to : Conversion) (fs : List Frame) (ws : List Word) → read mode_kind.Want fs (spell_conversion to ∷ word_kind.Key token_kind.OpenRound ∷ ws) ≡ read mode_kind.Want (frame_kind.Convert to ∷ fs) ws
unfolding step want_key
conversion-begins conversion.Integer fs ws = refl
conversion-begins conversion.Text fs ws = refl

prefix-begins : (p : UnaryOperator) (fs : List Frame) (ws : List Word) → read mode_kind.Want fs (spell_before p ∷ ws) ≡ read mode_kind.Want (frame_kind.Before p ∷ fs) ws
unfolding step want_key
prefix-begins unary_operator.Minus fs ws = refl
prefix-begins unary_operator.Plus fs ws = refl
prefix-begins unary_operator.Not fs ws = refl

mutual
  unfolding step want_key after_key

  pub reads : (s : Syntax) (fs : List Frame) (rest : List Word) → IsGrouped s → IsWithinRoom (level s) fs → Follows s rest → read mode_kind.Want fs (spell s ++ rest) ≡ read (mode_kind.After (whole s)) fs rest
  reads (leaf x) fs rest g l h = reads-leaf x fs rest h
  reads (call n no_syntax) fs rest g l h = call-ends n operands.no_parts (call n no_syntax) fs rest h
  reads (call n (syntax_then s ss)) fs rest g l h =
      let r : WholeListRead mode_kind.WantFirst (list_kind.Call n) (syntax_then s ss) fs ((spell_list (syntax_then s ss) ++ word_kind.Key token_kind.CloseRound ∷ []) ++ rest) (word_kind.Key token_kind.CloseRound ∷ rest) =
      first-list (list_kind.Call n) s ss fs token_kind.CloseRound [] rest (whole-list (list_kind.Call n) s ss fs (word_kind.Key token_kind.CloseRound ∷ rest) (reads s (frame_kind.InList (list_kind.Call n) operands.no_parts ∷ fs) (spell_rest ss ++ word_kind.Key token_kind.CloseRound ∷ rest) g.0 (level-9 s) (follows-rest s ss (word_kind.Key token_kind.CloseRound ∷ rest) (closes-key token_kind.CloseRound refl refl rest))) (reads_rest (list_kind.Call n) 0 [] s ss fs (word_kind.Key token_kind.CloseRound ∷ rest) g.1 (closes-key token_kind.CloseRound refl refl rest))) in
      r.reads_to
      ∙ ap (λ ps. read (mode_kind.Called n ps) fs rest) r.all
      ∙ call-ends n (parts_at (heights (syntax_then s ss)) (trees (syntax_then s ss))) (call n (syntax_then s ss)) fs rest h
      ∙ ap (λ x. read (mode_kind.After x) fs rest) (call-whole n (heights (syntax_then s ss)) (trees (syntax_then s ss)))
  reads (call_field n no_syntax x) fs rest g l h = refl
  reads (call_field n (syntax_then s ss) x) fs rest g l h =
      let r : WholeListRead mode_kind.WantFirst (list_kind.Call n) (syntax_then s ss) fs ((spell_list (syntax_then s ss) ++ word_kind.Key token_kind.CloseRound ∷ (word_kind.Key token_kind.Dot ∷ word_kind.Name x ∷ [])) ++ rest) (word_kind.Key token_kind.CloseRound ∷ word_kind.Key token_kind.Dot ∷ word_kind.Name x ∷ rest) =
      first-list (list_kind.Call n) s ss fs token_kind.CloseRound (word_kind.Key token_kind.Dot ∷ word_kind.Name x ∷ []) rest (whole-list (list_kind.Call n) s ss fs (word_kind.Key token_kind.CloseRound ∷ word_kind.Key token_kind.Dot ∷ word_kind.Name x ∷ rest) (reads s (frame_kind.InList (list_kind.Call n) operands.no_parts ∷ fs) (spell_rest ss ++ word_kind.Key token_kind.CloseRound ∷ word_kind.Key token_kind.Dot ∷ word_kind.Name x ∷ rest) g.0 (level-9 s) (follows-rest s ss (word_kind.Key token_kind.CloseRound ∷ word_kind.Key token_kind.Dot ∷ word_kind.Name x ∷ rest) (closes-key token_kind.CloseRound refl refl (word_kind.Key token_kind.Dot ∷ word_kind.Name x ∷ rest)))) (reads_rest (list_kind.Call n) 0 [] s ss fs (word_kind.Key token_kind.CloseRound ∷ word_kind.Key token_kind.Dot ∷ word_kind.Name x ∷ rest) g.1 (closes-key token_kind.CloseRound refl refl (word_kind.Key token_kind.Dot ∷ word_kind.Name x ∷ rest)))) in
      r.reads_to
      ∙ ap (λ ps. read (mode_kind.After (operands.call_field_of n ps x)) fs rest) r.all
      ∙ ap (λ y. read (mode_kind.After y) fs rest) (call_field-whole n (heights (syntax_then s ss)) (trees (syntax_then s ss)) x)
  reads (set no_syntax) fs rest g l h = refl
  reads (set (syntax_then s ss)) fs rest g l h =
      let r : WholeListRead mode_kind.WantFirst list_kind.Set (syntax_then s ss) fs ((spell_list (syntax_then s ss) ++ word_kind.Key token_kind.CloseCurly ∷ []) ++ rest) (word_kind.Key token_kind.CloseCurly ∷ rest) =
      first-list list_kind.Set s ss fs token_kind.CloseCurly [] rest (whole-list list_kind.Set s ss fs (word_kind.Key token_kind.CloseCurly ∷ rest) (reads s (frame_kind.InList list_kind.Set operands.no_parts ∷ fs) (spell_rest ss ++ word_kind.Key token_kind.CloseCurly ∷ rest) g.0 (level-9 s) (follows-rest s ss (word_kind.Key token_kind.CloseCurly ∷ rest) (closes-key token_kind.CloseCurly refl refl rest))) (reads_rest list_kind.Set 0 [] s ss fs (word_kind.Key token_kind.CloseCurly ∷ rest) g.1 (closes-key token_kind.CloseCurly refl refl rest))) in
      r.reads_to
      ∙ ap (λ ps. read (mode_kind.After (operands.set_of ps)) fs rest) r.all
      ∙ ap (λ y. read (mode_kind.After y) fs rest) (set-whole (heights (syntax_then s ss)) (trees (syntax_then s ss)))
  reads (list no_syntax) fs rest g l h = refl
  reads (list (syntax_then s ss)) fs rest g l h =
      let r : WholeListRead mode_kind.WantFirst list_kind.List (syntax_then s ss) fs ((spell_list (syntax_then s ss) ++ word_kind.Key token_kind.CloseSquare ∷ []) ++ rest) (word_kind.Key token_kind.CloseSquare ∷ rest) =
      first-list list_kind.List s ss fs token_kind.CloseSquare [] rest (whole-list list_kind.List s ss fs (word_kind.Key token_kind.CloseSquare ∷ rest) (reads s (frame_kind.InList list_kind.List operands.no_parts ∷ fs) (spell_rest ss ++ word_kind.Key token_kind.CloseSquare ∷ rest) g.0 (level-9 s) (follows-rest s ss (word_kind.Key token_kind.CloseSquare ∷ rest) (closes-key token_kind.CloseSquare refl refl rest))) (reads_rest list_kind.List 0 [] s ss fs (word_kind.Key token_kind.CloseSquare ∷ rest) g.1 (closes-key token_kind.CloseSquare refl refl rest))) in
      r.reads_to
      ∙ ap (λ ps. read (mode_kind.After (operands.list_of ps)) fs rest) r.all
      ∙ ap (λ y. read (mode_kind.After y) fs rest) (list-whole (heights (syntax_then s ss)) (trees (syntax_then s ss)))
  reads (bracket s) fs rest g l h =
      ap (read mode_kind.Want (frame_kind.Bracket ∷ fs)) (append_assoc (spell s) (key token_kind.CloseRound) rest)
      ∙ reads s (frame_kind.Bracket ∷ fs) (word_kind.Key token_kind.CloseRound ∷ rest) g (level-9 s) (closes-key token_kind.CloseRound refl refl rest s)
      ∙ ap (λ y. read (mode_kind.After y) fs rest) (bracketed-whole s)
  reads (if_expr x y z) fs rest g l h =
      ap (read mode_kind.Want (frame_kind.IfExpr ∷ fs)) (three-parts (spell x) (spell y) (spell z) rest)
      ∙ reads x (frame_kind.IfExpr ∷ fs) (word_kind.Key token_kind.Comma ∷ (spell y ++ word_kind.Key token_kind.Comma ∷ (spell z ++ word_kind.Key token_kind.CloseRound ∷ rest))) g.0 (level-9 x) (closes-key token_kind.Comma refl refl (spell y ++ word_kind.Key token_kind.Comma ∷ (spell z ++ word_kind.Key token_kind.CloseRound ∷ rest)) x)
      ∙ reads y (frame_kind.IfFirst (whole x) ∷ fs) (word_kind.Key token_kind.Comma ∷ (spell z ++ word_kind.Key token_kind.CloseRound ∷ rest)) g.1 (level-9 y) (closes-key token_kind.Comma refl refl (spell z ++ word_kind.Key token_kind.CloseRound ∷ rest) y)
      ∙ reads z (frame_kind.IfSecond (whole x) (whole y) ∷ fs) (word_kind.Key token_kind.CloseRound ∷ rest) g.2 (level-9 z) (closes-key token_kind.CloseRound refl refl rest z)
      ∙ ap (λ v. read (mode_kind.After v) fs rest) (if_expr-whole x y z)
  reads (convert to s) fs rest g l h =
      conversion-begins to fs ((spell s ++ key token_kind.CloseRound) ++ rest)
      ∙ ap (read mode_kind.Want (frame_kind.Convert to ∷ fs)) (append_assoc (spell s) (key token_kind.CloseRound) rest)
      ∙ reads s (frame_kind.Convert to ∷ fs) (word_kind.Key token_kind.CloseRound ∷ rest) g (level-9 s) (closes-key token_kind.CloseRound refl refl rest s)
      ∙ ap (λ y. read (mode_kind.After y) fs rest) (convert-whole to s)
  reads (before p s) fs rest g l h =
      prefix-begins p fs (spell s ++ rest)
      ∙ reads s (frame_kind.Before p ∷ fs) rest g.1 g.0 (follows-part (before p s) s rest (λ op e. (or_parts _ (takes s op) e).1) h)
      ∙ pops-before p s fs rest g.0 h
  reads (between op x y) fs rest g l h =
      ap (read mode_kind.Want fs) (append_assoc (spell x) (spell_between op ++ spell y) rest ∙ ap (λ ws. spell x ++ ws) (append_assoc (spell_between op) (spell y) rest))
      ∙ reads x fs (spell_between op ++ (spell y ++ rest)) g.2 (within-less (level x) (binds op) fs (omega (arith, g.0, left-binds op)) l) (follows-operator x op (spell y ++ rest) g.4)
      ∙ reads-operator op (whole x) fs (spell y ++ rest) (stays-within op (level x) fs g.0 l)
      ∙ reads y (frame_kind.Between op (whole x) ∷ fs) rest g.3 g.1 (follows-part (between op x y) y rest (λ q e. (or_parts _ (takes y q) e).1) h)
      ∙ pops-between op x y fs rest g.1 h
  reads (aggregate p over s) fs rest g l h =
      let r : IndexRead (index_kind.Aggregate p) 0 [] over fs (word_kind.Key token_kind.CloseRound ∷ (spell s ++ rest)) = reads_over (index_kind.Aggregate p) 0 [] over fs (word_kind.Key token_kind.CloseRound ∷ (spell s ++ rest)) g.1 (closes-key token_kind.CloseRound refl refl (spell s ++ rest)) in
      let zero : max 0 (height_index over) ≡ height_index over = omega arith in
      aggregate-begins p fs ((spell_index over ++ word_kind.Key token_kind.CloseRound ∷ spell s) ++ rest)
      ∙ ap (read (mode_kind.WantName (index_kind.Aggregate p) operands.no_groups []) fs) (append_assoc (spell_index over) (word_kind.Key token_kind.CloseRound ∷ spell s) rest)
      ∙ r.reads_to
      ∙ index-closes (index_kind.Aggregate p) r.top r.last (index_at (max 0 (height_index over)) (index_of over)) fs (spell s ++ rest) r.ends
      ∙ ap (λ k. read mode_kind.Want (frame_kind.Body p (index_at k (index_of over)) ∷ fs) (spell s ++ rest)) zero
      ∙ reads s (frame_kind.Body p (index_at (height_index over) (index_of over)) ∷ fs) rest g.2 g.0 (follows-part (aggregate p over s) s rest (λ op e. (or_parts _ (takes s op) e).1) h)
      ∙ pops-body p over s fs rest g.0 h
  reads (counted over) fs rest g l h =
      let r : IndexRead index_kind.Count 0 [] over fs (word_kind.Key token_kind.CloseRound ∷ rest) = reads_over index_kind.Count 0 [] over fs (word_kind.Key token_kind.CloseRound ∷ rest) g (closes-key token_kind.CloseRound refl refl rest) in
      let zero : max 0 (height_index over) ≡ height_index over = omega arith in
      count-begins fs ((spell_index over ++ key token_kind.CloseRound) ++ rest)
      ∙ ap (read (mode_kind.WantName index_kind.Count operands.no_groups []) fs) (append_assoc (spell_index over) (key token_kind.CloseRound) rest)
      ∙ r.reads_to
      ∙ index-closes index_kind.Count r.top r.last (index_at (max 0 (height_index over)) (index_of over)) fs rest r.ends
      ∙ ap (λ k. read (mode_kind.After (operands.counted_of (index_at k (index_of over)))) fs rest) zero
      ∙ ap (λ y. read (mode_kind.After y) fs rest) (counted-whole (height_index over) (index_of over))

  reads_rest : (form : ListKind) (h : ℕ) (xs : List Expr) (s : Syntax) (ss : SyntaxList) (fs : List Frame) (rest : List Word) → AreGrouped ss → Closes rest → ListRead form h xs s ss fs rest
  reads_rest form h xs s no_syntax fs rest g c = record {
    last = whole s;
    parts = parts_at h xs;
    reads_to = refl;
    all = parts-whole h xs s ∙ ap (λ k. parts_at k (xs ++ tree s ∷ [])) (zero-high (max h (height s))) ∙ ap (parts_at (max (max h (height s)) 0)) (sym (append-nil (xs ++ tree s ∷ [])));
  }
  reads_rest form h xs s (syntax_then y ys) fs rest g c =
      let r : ListRead form (max h (height s)) (xs ++ tree s ∷ []) y ys fs rest = reads_rest form (max h (height s)) (xs ++ tree s ∷ []) y ys fs rest g.1 c in
      let high : max (max (max h (height s)) (height y)) (heights ys) ≡ max (max h (height s)) (max (height y) (heights ys)) = omega arith in
      record {
        last = r.last;
        parts = r.parts;
        reads_to =
            list-comma form (parts_at h xs) (whole s) fs ((spell y ++ spell_rest ys) ++ rest)
            ∙ ap (λ ps. read mode_kind.Want (frame_kind.InList form ps ∷ fs) ((spell y ++ spell_rest ys) ++ rest)) (parts-whole h xs s)
            ∙ ap (read mode_kind.Want (frame_kind.InList form (parts_at (max h (height s)) (xs ++ tree s ∷ [])) ∷ fs)) (append_assoc (spell y) (spell_rest ys) rest)
            ∙ reads y (frame_kind.InList form (parts_at (max h (height s)) (xs ++ tree s ∷ [])) ∷ fs) (spell_rest ys ++ rest) g.0 (level-9 y) (follows-rest y ys rest c)
            ∙ r.reads_to;
        all = r.all ∙ ap (λ q. parts_at q (xs ++ tree s ∷ [] ++ tree y ∷ [] ++ trees ys)) high ∙ ap (λ q. parts_at (max (max h (height s)) (max (height y) (heights ys))) q) (append_assoc (xs ++ tree s ∷ []) (tree y ∷ []) (trees ys));
      }

  pub reads_over : (kind : IndexKind) (h : ℕ) (gs : List (Group Expr)) (over : IndexSyntax) (fs : List Frame) (rest : List Word) → IsGroupedIndex over → Closes rest → IndexRead kind h gs over fs rest
  reads_over kind h gs (last_set ns s) fs rest g c = record {
    last = whole s;
    top = frame_kind.IndexSet kind (groups_at h gs) (list_of_names ns);
    reads_to =
        ap (read (mode_kind.WantName kind (groups_at h gs) []) fs) (append_assoc (spell_names ns) (word_kind.Key token_kind.In ∷ spell s) rest)
        ∙ reads-names kind (groups_at h gs) ns [] fs (spell s ++ rest)
        ∙ reads s (frame_kind.IndexSet kind (groups_at h gs) (list_of_names ns) ∷ fs) rest g.1 g.0 (c s);
    ends = set_ends kind h gs (list_of_names ns) s g.0;
  }
  reads_over kind h gs (such_that ns s x) fs rest g c = record {
    last = whole x;
    top = frame_kind.IndexCondition kind (groups_at (max h (height s + 1)) (gs ++ group_of (list_of_names ns) s ∷ []));
    reads_to =
        ap (read (mode_kind.WantName kind (groups_at h gs) []) fs) (append_assoc (spell_names ns) (word_kind.Key token_kind.In ∷ (spell s ++ word_kind.Key token_kind.Bar ∷ spell x)) rest)
        ∙ reads-names kind (groups_at h gs) ns [] fs ((spell s ++ word_kind.Key token_kind.Bar ∷ spell x) ++ rest)
        ∙ ap (read mode_kind.Want (frame_kind.IndexSet kind (groups_at h gs) (list_of_names ns) ∷ fs)) (append_assoc (spell s) (word_kind.Key token_kind.Bar ∷ spell x) rest)
        ∙ reads s (frame_kind.IndexSet kind (groups_at h gs) (list_of_names ns) ∷ fs) (word_kind.Key token_kind.Bar ∷ (spell x ++ rest)) g.1 g.0 (closes-key token_kind.Bar refl refl (spell x ++ rest) s)
        ∙ reads-bar kind h gs (list_of_names ns) s fs (spell x ++ rest) g.0
        ∙ reads x (frame_kind.IndexCondition kind (groups_at (max h (height s + 1)) (gs ++ group_of (list_of_names ns) s ∷ [])) ∷ fs) rest g.2 (level-9 x) (c x);
    ends =
        let p : max (max h (height s + 1)) (height x) ≡ max h (max (height s + 1) (height x)) = omega arith in
        subst (λ q. IndexEnds kind (frame_kind.IndexCondition kind (groups_at (max h (height s + 1)) (gs ++ group_of (list_of_names ns) s ∷ []))) (whole x) (index_at q (record { groups = gs ++ group_of (list_of_names ns) s ∷ []; condition = Some (tree x) }))) p (condition_ends kind (max h (height s + 1)) (gs ++ group_of (list_of_names ns) s ∷ []) x);
  }
  reads_over kind h gs (another ns s over) fs rest g c =
      let r : IndexRead kind (max h (height s + 1)) (gs ++ group_of (list_of_names ns) s ∷ []) over fs rest = reads_over kind (max h (height s + 1)) (gs ++ group_of (list_of_names ns) s ∷ []) over fs rest g.2 c in
      record {
        last = r.last;
        top = r.top;
        reads_to =
            ap (read (mode_kind.WantName kind (groups_at h gs) []) fs) (append_assoc (spell_names ns) (word_kind.Key token_kind.In ∷ (spell s ++ word_kind.Key token_kind.Comma ∷ spell_index over)) rest)
            ∙ reads-names kind (groups_at h gs) ns [] fs ((spell s ++ word_kind.Key token_kind.Comma ∷ spell_index over) ++ rest)
            ∙ ap (read mode_kind.Want (frame_kind.IndexSet kind (groups_at h gs) (list_of_names ns) ∷ fs)) (append_assoc (spell s) (word_kind.Key token_kind.Comma ∷ spell_index over) rest)
            ∙ reads s (frame_kind.IndexSet kind (groups_at h gs) (list_of_names ns) ∷ fs) (word_kind.Key token_kind.Comma ∷ (spell_index over ++ rest)) g.1 g.0 (closes-key token_kind.Comma refl refl (spell_index over ++ rest) s)
            ∙ reads-comma kind h gs (list_of_names ns) s fs (spell_index over ++ rest) g.0
            ∙ r.reads_to;
        ends = more_ends kind r.top r.last h (height s + 1) (height_index over) gs (groups_of over) (group_of (list_of_names ns) s) (condition_of over) r.ends;
      }

pub reads_list : (form : ListKind) (s : Syntax) (ss : SyntaxList) (fs : List Frame) (rest : List Word) → IsGrouped s × AreGrouped ss → Closes rest → WholeListRead mode_kind.Want form (syntax_then s ss) fs (spell s ++ (spell_rest ss ++ rest)) rest
reads_list form s ss fs rest g c =
    whole-list form s ss fs rest (reads s (frame_kind.InList form operands.no_parts ∷ fs) (spell_rest ss ++ rest) g.0 (level-9 s) (follows-rest s ss rest c)) (reads_rest form 0 [] s ss fs rest g.1 c)
