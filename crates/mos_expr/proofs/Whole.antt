-- What the public calls say, from what all words come to.

use Rattle.std.proofs.Common.{◌≡◌, ℕ, ◌<◌, ◌≤◌, max, nat_le, length, List, [], ◌∷◌, ◌++◌, Option, Some, None, Result, Ok, Err, IfOk, refl, sym, ◌∙◌, ap, subst, arith}
use Rattle.std.proofs.lemmas.Bool.{leb-true}
use Rattle.std.proofs.lemmas.List.{append-nil}
use Rattle.mos_tree.specs.declared.expr.Expr.{Expr}
use Rattle.mos_tree.specs.declared.expr.Index.{Index}
use Rattle.mos_scan.specs.declared.token.TokenKind.TheVariants as token_kind
use Rattle.mos_scan.specs.declared.grammar_word.Word.{Word}
use Rattle.mos_scan.specs.declared.grammar_word.Word.TheVariants as word_kind
use Rattle.mos_expr.specs.Grammar.{Names, list_of_names, spell_names, spell_rest, level, Syntax, SyntaxList, no_syntax, syntax_then, IndexSyntax, last_set, such_that, height, heights, height_index, limit, tree, trees, index_of, IsGrouped, AreGrouped, IsGroupedIndex, IsSpelled, AreSpelled, IsIndexSpelled, spell, spell_list, spell_index}
use Rattle.mos_expr.specs.Said.{Spelled, Says, IsExpression, AreExpressions, AreSomeGrouped, AreSomeExpressions, IsIndex}
use Rattle.mos_expr.specs.Laws.{answer_at}
use Rattle.mos_expr.specs.Machine.{FoldResult, and_then, fold_frames}
use Rattle.mos_expr.specs.Reader.{read, alone, operand_of, only_frame, last_of_list, some_parts_of, parts_of, last_of_index, whole_index_of_words, made_or_deep, outcome, outcome_of_parts, outcome_of_index}
use Rattle.mos_expr.specs.Operands as operands
use Rattle.mos_expr.specs.declared.fault.ExprFault.{ExprFault}
use Rattle.mos_expr.specs.declared.fault.ExprFault.TheVariants as expr_fault
use Rattle.mos_expr.specs.declared.operand.Operand.{Operand}
use Rattle.mos_expr.specs.declared.operand.Parts.{Parts}
use Rattle.mos_expr.specs.declared.operand.Groups.{Groups}
use Rattle.mos_expr.specs.declared.operand.WholeIndex.{WholeIndex}
use Rattle.mos_expr.specs.declared.frame.IndexKind.TheVariants as index_kind
use Rattle.mos_expr.specs.declared.frame.ListKind.TheVariants as list_kind
use Rattle.mos_expr.specs.declared.frame.Frame.TheVariants as frame_kind
use Rattle.mos_expr.specs.declared.frame.Mode.TheVariants as mode_kind
use Rattle.mos_expr.proofs.Values.{on_bool, whole, parts_at, index_at, tree_at, low, high, by_height}
use Rattle.mos_expr.proofs.Complete.{reads, Begins, begins, reads_list, reads_over, IndexRead, WholeListRead, closes-end}
use Rattle.mos_expr.proofs.Holds.{Whole, SetsBefore, LastSet, WholeParts, SpelledIndex, GoodOperand, no_parts_before, no_sets_before, no_names_before}
use Rattle.mos_expr.proofs.Ending.{parts_done, parts_words, set_done, set_words, condition_done, condition_words}
use Rattle.mos_expr.proofs.Sound.{reads_good}

abbrev ok_of : {T : Type 0} → T → Result T ExprFault
ok_of made = Ok made

abbrev err_of : (T : Type 0) → ExprFault → Result T ExprFault
err_of T fault = Err fault

-- ---- what was kept at a height

kept_ok : {A : Type 0} (h : ℕ) (made : A) (r : Result A ExprFault) → r ≡ made_or_deep (tree_at h made) → IfOk r (λ y. (h ≤ 500) × (y ≡ made))
kept_ok h made r e = by_height h
    (λ less. subst (λ z. IfOk z (λ y. (h ≤ 500) × (y ≡ made))) (sym (e ∙ ap made_or_deep (low h made less))) (less, refl))
    (λ more. subst (λ z. IfOk z (λ y. (h ≤ 500) × (y ≡ made))) (sym (e ∙ ap made_or_deep (high h made more))) tt)

kept_deep : {A : Type 0} (h : ℕ) (made : A) → err_of A expr_fault.Deep ≡ made_or_deep (tree_at h made) → 500 < h
kept_deep {A = A} h made e = by_height h
    (λ less. let p : ok_of made ≡ err_of A expr_fault.Deep = sym (e ∙ ap made_or_deep (low h made less)) in cc)
    (λ more. more)

-- ---- what was read of words, and what they spell

module _ {S T : Type 0} (Grouped : S → Type 0) (words_of : S → List Word) (tree_of : S → T) (height_of : S → ℕ) where
  -- what is said of something as high as it was written
  abbrev answer_to : S → Result T ExprFault
  answer_to s = made_or_deep (tree_at (height_of s) (tree_of s))

  says_tree : (words : List Word) (s : S) → Grouped s → words ≡ words_of s → height_of s ≤ 500 → ((t : S) → Grouped t → words ≡ words_of t → ok_of (tree_of s) ≡ answer_to t) → Says (Spelled Grouped words_of tree_of height_of words) (Ok (tree_of s))
  unfolding Says
  says_tree words s g e less only = record {
    high = height_of s;
    is = record { written = s; grouped = g; exact = e; is = refl; high_is = refl };
    low = less;
    only = λ t h k.
        let q : (height_of k.written ≤ 500) × (tree_of s ≡ tree_of k.written) = kept_ok (height_of k.written) (tree_of k.written) (ok_of (tree_of s)) (only k.written k.grouped k.exact) in
        (k.is ∙ sym q.1, subst (λ z. z ≤ limit) (sym k.high_is) q.0);
  }

  says_deep : (words : List Word) (s : S) → Grouped s → words ≡ words_of s → 500 < height_of s → ((t : S) → Grouped t → words ≡ words_of t → err_of T expr_fault.Deep ≡ answer_to t) → Says (Spelled Grouped words_of tree_of height_of words) (err_of T expr_fault.Deep)
  unfolding Says
  says_deep words s g e more only = record {
    made = tree_of s;
    high = height_of s;
    is = record { written = s; grouped = g; exact = e; is = refl; high_is = refl };
    above = more;
    only = λ t h k. subst (λ z. limit < z) (sym k.high_is) (kept_deep (height_of k.written) (tree_of k.written) (only k.written k.grouped k.exact));
  }

  says_none : (words : List Word) → ((t : S) → Grouped t → words ≡ words_of t → ⊥) → Says (Spelled Grouped words_of tree_of height_of words) (err_of T expr_fault.NoExpr)
  unfolding Says
  says_none words none = record { none = λ t h k. none k.written k.grouped k.exact }

  -- from one thing that the words spell, and what all such things have in common
  says_kept : (words : List Word) (r : Result T ExprFault) (s : S) → Grouped s → words ≡ words_of s → r ≡ answer_to s → ((t : S) → Grouped t → words ≡ words_of t → r ≡ answer_to t) → Says (Spelled Grouped words_of tree_of height_of words) r
  says_kept words r s g e same only = by_height (height_of s)
      (λ less.
      let p : r ≡ ok_of (tree_of s) = same ∙ ap made_or_deep (low (height_of s) (tree_of s) less) in
      subst (Says (Spelled Grouped words_of tree_of height_of words)) (sym p) (says_tree words s g e less (λ t h k. sym p ∙ only t h k)))
      (λ more.
      let p : r ≡ err_of T expr_fault.Deep = same ∙ ap made_or_deep (high (height_of s) (tree_of s) more) in
      subst (Says (Spelled Grouped words_of tree_of height_of words)) (sym p) (says_deep words s g e more (λ t h k. sym p ∙ only t h k)))

-- ---- an expression

operand_good : (words : List Word) → (st : FoldResult) → GoodOperand st [] words → (y : Operand) → and_then st (λ z. alone z.0 z.1) ≡ Some y → (a : Whole y) × (words ≡ spell a.syntax)
operand_good words None h y e = cc
operand_good words (Some (v, [])) h y e =
    let p : v ≡ y = cc in
    subst (λ z. (a : Whole z) × (words ≡ spell a.syntax)) p (h.0, h.1 ∙ append-nil (spell h.0.syntax))
operand_good words (Some (v, q ∷ fs)) h y e = cc

operand_whole : (words : List Word) (y : Operand) → operand_of words ≡ Some y → (a : Whole y) × (words ≡ spell a.syntax)
operand_whole words y e = operand_good words (read mode_kind.Want [] words) (reads_good words mode_kind.Want [] words refl) y e

operand_read : (words : List Word) (s : Syntax) → IsSpelled words s → operand_of words ≡ Some (whole s)
operand_read words s k =
    let e : read mode_kind.Want [] words ≡ Some (whole s, []) = ap (read mode_kind.Want []) (k.exact ∙ sym (append-nil (spell s))) ∙ reads s [] [] k.grouped tt tt in
    ap (λ (st : FoldResult). and_then st (λ z. alone z.0 z.1)) e

pub says_expression : (words : List Word) (q : Option Operand) (r : Result Expr ExprFault) → operand_of words ≡ q → r ≡ outcome q → Says (IsExpression words) r
says_expression words None r e d =
    subst (Says (IsExpression words)) (sym d)
    (says_none IsGrouped spell tree height words (λ s g k. let p : None ≡ Some (whole s) = sym e ∙ operand_read words s (record { grouped = g; exact = k }) in cc))
says_expression words (Some y) r e d =
    let a : (a : Whole y) × (words ≡ spell a.syntax) = operand_whole words y e in
    says_kept IsGrouped spell tree height words r a.0.syntax a.0.grouped a.1 (d ∙ ap (λ v. outcome (Some v)) a.0.is)
    (λ s g k. d ∙ ap outcome (sym e ∙ operand_read words s (record { grouped = g; exact = k })))

-- ---- expressions with commas between them

abbrev ends_listed : FoldResult → Option Parts
ends_listed st = and_then st (λ z. and_then (only_frame z.1) (λ g. last_of_list z.0 g))

parts_good : (words : List Word) (st : FoldResult) → GoodOperand st [] words → (ps : Parts) → ends_listed st ≡ Some ps → (a : WholeParts ps) × (words ≡ spell_list a.written)
parts_good words None h ps e = cc
parts_good words (Some (v, [])) h ps e = cc
parts_good words (Some (v, frame_kind.InList list_kind.Bare q ∷ [])) h ps e =
    let p : operands.parts_with q v ≡ ps = cc in
    let d : WholeParts (operands.parts_with q (whole h.0.syntax)) = parts_done q h.1.0 h.0.syntax h.0.grouped in
    subst (λ z. (a : WholeParts z) × (words ≡ spell_list a.written)) (sym (ap (operands.parts_with q) h.0.is) ∙ p)
    (d, h.1.1 ∙ parts_words q h.1.0 h.0.syntax [] ∙ append-nil (spell_list d.written))
parts_good words (Some (v, frame_kind.InList (list_kind.Call n) q ∷ [])) h ps e = cc
parts_good words (Some (v, frame_kind.InList list_kind.Set q ∷ [])) h ps e = cc
parts_good words (Some (v, frame_kind.InList list_kind.List q ∷ [])) h ps e = cc
parts_good words (Some (v, q ∷ [])) h ps e = cc
parts_good words (Some (v, q ∷ r ∷ fs)) h ps e = cc

parts_are_whole : (words : List Word) (ps : Parts) → parts_of words ≡ Some ps → (a : WholeParts ps) × (words ≡ spell_list a.written)
parts_are_whole [] ps e =
    let p : operands.no_parts ≡ ps = cc in
    subst (λ z. (a : WholeParts z) × ([] ≡ spell_list a.written)) p (record { written = no_syntax; grouped = tt; is = refl }, refl)
parts_are_whole (word ∷ words) ps e = parts_good (word ∷ words) (read mode_kind.Want (frame_kind.InList list_kind.Bare operands.no_parts ∷ []) (word ∷ words)) (reads_good (word ∷ words) mode_kind.Want (frame_kind.InList list_kind.Bare operands.no_parts ∷ []) (word ∷ words) (no_parts_before, refl)) ps e

parts_some : (words : List Word) (word : Word) (rest : List Word) → words ≡ word ∷ rest → parts_of words ≡ some_parts_of words
parts_some words word rest e = ap parts_of e ∙ sym (ap some_parts_of e)

parts_read : (words : List Word) (ss : SyntaxList) → AreSpelled words ss → parts_of words ≡ Some (parts_at (heights ss) (trees ss))
parts_read words no_syntax k = ap parts_of k.exact
parts_read words (syntax_then s ss) k =
    let b : Begins s = begins s in
    let r : WholeListRead mode_kind.Want list_kind.Bare (syntax_then s ss) [] (spell s ++ (spell_rest ss ++ [])) [] = reads_list list_kind.Bare s ss [] [] k.grouped closes-end in
    parts_some words b.word (b.words ++ spell_rest ss) (k.exact ∙ ap (λ z. z ++ spell_rest ss) b.spelled)
    ∙ ap ends_listed (ap (read mode_kind.Want (frame_kind.InList list_kind.Bare operands.no_parts ∷ [])) (k.exact ∙ ap (λ z. spell s ++ z) (sym (append-nil (spell_rest ss)))) ∙ r.reads_to)
    ∙ ap (λ z. Some z) r.all

pub says_expressions : (words : List Word) (q : Option Parts) (r : Result (List Expr) ExprFault) → parts_of words ≡ q → r ≡ outcome_of_parts q → Says (AreExpressions words) r
says_expressions words None r e d =
    subst (Says (AreExpressions words)) (sym d)
    (says_none AreGrouped spell_list trees heights words (λ ss g k. let p : None ≡ Some (parts_at (heights ss) (trees ss)) = sym e ∙ parts_read words ss (record { grouped = g; exact = k }) in cc))
says_expressions words (Some y) r e d =
    let a : (a : WholeParts y) × (words ≡ spell_list a.written) = parts_are_whole words y e in
    says_kept AreGrouped spell_list trees heights words r a.0.written a.0.grouped a.1 (d ∙ ap (λ v. outcome_of_parts (Some v)) a.0.is)
    (λ ss g k. d ∙ ap outcome_of_parts (sym e ∙ parts_read words ss (record { grouped = g; exact = k })))

pub no_words : (words : List Word) → length words < 1 → words ≡ []
no_words [] less = refl
no_words (word ∷ words) less = absurd (omega (arith, less))

pub some_words : (words : List Word) → 1 ≤ length words → words ≡ [] → ⊥
some_words [] more e = omega (arith, more)
some_words (word ∷ words) more e = cc

-- no words spell at least one expression
none_spelled : (ss : SyntaxList) → AreSomeGrouped ss → [] ≡ spell_list ss → ⊥
none_spelled no_syntax g e = g
none_spelled (syntax_then s ss) g e =
    let b : Begins s = begins s in
    let p : [] ≡ b.word ∷ (b.words ++ spell_rest ss) = e ∙ ap (λ z. z ++ spell_rest ss) b.spelled in
    cc

pub says_no_expressions : (words : List Word) → words ≡ [] → Says (AreSomeExpressions words) (err_of (List Expr) expr_fault.NoExpr)
says_no_expressions words e = says_none AreSomeGrouped spell_list trees heights words (λ ss g k. none_spelled ss g (sym e ∙ k))

some_grouped : (words : List Word) (ss : SyntaxList) → (words ≡ [] → ⊥) → AreGrouped ss → words ≡ spell_list ss → AreSomeGrouped ss
some_grouped words no_syntax full g e = full e
some_grouped words (syntax_then s ss) full g e = g

all_grouped : (ss : SyntaxList) → AreSomeGrouped ss → AreGrouped ss
all_grouped no_syntax g = absurd g
all_grouped (syntax_then s ss) g = g

into_some : (words : List Word) → (words ≡ [] → ⊥) → (made : List Expr) (high : ℕ) → AreExpressions words made high → AreSomeExpressions words made high
into_some words full made high k = record { written = k.written; grouped = some_grouped words k.written full k.grouped k.exact; exact = k.exact; is = k.is; high_is = k.high_is }

from_some : (words : List Word) (made : List Expr) (high : ℕ) → AreSomeExpressions words made high → AreExpressions words made high
from_some words made high k = record { written = k.written; grouped = all_grouped k.written k.grouped; exact = k.exact; is = k.is; high_is = k.high_is }

-- words that are there and spell expressions spell at least one
pub says_some_expressions : (words : List Word) (r : Result (List Expr) ExprFault) → (words ≡ [] → ⊥) → Says (AreExpressions words) r → Says (AreSomeExpressions words) r
unfolding Says
says_some_expressions words (Ok made) full k = record { high = k.high; is = into_some words full made k.high k.is; low = k.low; only = λ t h q. k.only t h (from_some words t h q) }
says_some_expressions words (Err expr_fault.Deep) full k = record { made = k.made; high = k.high; is = into_some words full k.made k.high k.is; above = k.above; only = λ t h q. k.only t h (from_some words t h q) }
says_some_expressions words (Err expr_fault.NoExpr) full k = record { none = λ t h q. k.none t h (from_some words t h q) }
says_some_expressions words (Err expr_fault.NoMemory) full k = tt

-- ---- the index of a loop

abbrev ends_index : FoldResult → Option WholeIndex
ends_index st = and_then st (λ z. and_then (only_frame z.1) (λ g. last_of_index z.0 g))

abbrev IsSpelledIndex : List Word → WholeIndex → Type 0
IsSpelledIndex words ready = (a : SpelledIndex ready) × (words ≡ spell_index a.over)

set_good : (words : List Word) (groups : Groups) (names : List (List ℕ)) (s : Syntax) (sets : SetsBefore groups) (ns : Names) → names ≡ list_of_names ns → IsGrouped s → words ≡ sets.words (spell_names ns ++ word_kind.Key token_kind.In ∷ (spell s ++ [])) → (ready : WholeIndex) → last_of_index (whole s) (frame_kind.IndexSet index_kind.Loop groups names) ≡ Some ready → IsSpelledIndex words ready
set_good words groups names s sets ns n g h ready e = on_bool (nat_le (level s) 5)
    (λ l.
    let p : Some (operands.whole_index_of (operands.groups_with groups names (whole s))) ≡ Some ready = rw l at e in
    let q : operands.whole_index_of (operands.groups_with groups names (whole s)) ≡ ready = cc in
    let d : SpelledIndex (operands.whole_index_of (operands.groups_with groups (list_of_names ns) (whole s))) = set_done groups sets ns s (leb-true (level s) 5 l) g in
    subst (IsSpelledIndex words) (ap (λ k. operands.whole_index_of (operands.groups_with groups k (whole s))) (sym n) ∙ q)
    (d, h ∙ ap sets.words (set_words ns s []) ∙ sym (sets.spelled (last_set ns s) []) ∙ append-nil (spell_index d.over)))
    (λ l. let p : None ≡ Some ready = rw l at e in cc)

condition_good : (words : List Word) (groups : Groups) (s : Syntax) (last : LastSet groups) → IsGrouped s → words ≡ last.sets.words (spell_names last.names ++ word_kind.Key token_kind.In ∷ (spell last.syntax ++ word_kind.Key token_kind.Bar ∷ (spell s ++ []))) → IsSpelledIndex words (operands.conditioned_index_of groups (whole s))
condition_good words groups s last g h =
    let d : SpelledIndex (operands.conditioned_index_of groups (whole s)) = condition_done groups last s g in
    (d, h ∙ ap last.sets.words (condition_words last.names last.syntax s []) ∙ sym (last.sets.spelled (such_that last.names last.syntax s) []) ∙ append-nil (spell_index d.over))

index_good : (words : List Word) (st : FoldResult) → GoodOperand st [] words → (ready : WholeIndex) → ends_index st ≡ Some ready → IsSpelledIndex words ready
index_good words None h ready e = cc
index_good words (Some (v, [])) h ready e = cc
index_good words (Some (v, frame_kind.IndexSet index_kind.Loop groups names ∷ [])) h ready e =
    set_good words groups names h.0.syntax h.1.0 h.1.1 h.1.2 h.0.grouped h.1.3 ready (subst (λ z. last_of_index z (frame_kind.IndexSet index_kind.Loop groups names) ≡ Some ready) h.0.is e)
index_good words (Some (v, frame_kind.IndexSet (index_kind.Aggregate op) groups names ∷ [])) h ready e = cc
index_good words (Some (v, frame_kind.IndexSet index_kind.Count groups names ∷ [])) h ready e = cc
index_good words (Some (v, frame_kind.IndexCondition index_kind.Loop groups ∷ [])) h ready e =
    let p : operands.conditioned_index_of groups v ≡ ready = cc in
    subst (IsSpelledIndex words) (sym (ap (operands.conditioned_index_of groups) h.0.is) ∙ p) (condition_good words groups h.0.syntax h.1.0 h.0.grouped h.1.1)
index_good words (Some (v, frame_kind.IndexCondition (index_kind.Aggregate op) groups ∷ [])) h ready e = cc
index_good words (Some (v, frame_kind.IndexCondition index_kind.Count groups ∷ [])) h ready e = cc
index_good words (Some (v, q ∷ [])) h ready e = cc
index_good words (Some (v, q ∷ r ∷ fs)) h ready e = cc

index_is_whole : (words : List Word) (ready : WholeIndex) → whole_index_of_words words ≡ Some ready → IsSpelledIndex words ready
index_is_whole words ready e =
    index_good words (read (mode_kind.WantName index_kind.Loop operands.no_groups []) [] words) (reads_good words (mode_kind.WantName index_kind.Loop operands.no_groups []) [] words (no_sets_before, no_names_before, refl)) ready e

index_read : (words : List Word) (over : IndexSyntax) → IsIndexSpelled words over → whole_index_of_words words ≡ Some (index_at (height_index over) (index_of over))
index_read words over k =
    let r : IndexRead index_kind.Loop 0 [] over [] [] = reads_over index_kind.Loop 0 [] over [] [] k.grouped closes-end in
    let open_still : fold_frames r.last (r.top ∷ []) ≡ Some (r.last, r.top ∷ []) = rw (r.ends.open_still) refl in
    let zero : max 0 (height_index over) ≡ height_index over = omega arith in
    ap ends_index (ap (read (mode_kind.WantName index_kind.Loop operands.no_groups []) []) (k.exact ∙ sym (append-nil (spell_index over))) ∙ r.reads_to ∙ open_still)
    ∙ r.ends.loops refl
    ∙ ap (λ z. Some (index_at z (index_of over))) zero

pub says_index : (words : List Word) (q : Option WholeIndex) (r : Result (Index Expr) ExprFault) → whole_index_of_words words ≡ q → r ≡ outcome_of_index q → Says (IsIndex words) r
says_index words None r e d =
    subst (Says (IsIndex words)) (sym d)
    (says_none IsGroupedIndex spell_index index_of height_index words (λ over g k. let p : None ≡ Some (index_at (height_index over) (index_of over)) = sym e ∙ index_read words over (record { grouped = g; exact = k }) in cc))
says_index words (Some y) r e d =
    let a : IsSpelledIndex words y = index_is_whole words y e in
    says_kept IsGroupedIndex spell_index index_of height_index words r a.0.over a.0.grouped a.1 (d ∙ ap (λ v. outcome_of_index (Some v)) a.0.is)
    (λ over g k. d ∙ ap outcome_of_index (sym e ∙ index_read words over (record { grouped = g; exact = k })))

-- ---- words have one answer

kept_answer : {A : Type 0} (made : A) (h : ℕ) → made_or_deep (tree_at h made) ≡ answer_at made h
kept_answer made h = on_bool (nat_le h 500) (λ e. rw e refl) (λ e. rw e refl)

expression_read : (words : List Word) (s : Syntax) → IsSpelled words s → outcome (operand_of words) ≡ answer_at (tree s) (height s)
expression_read words s k = ap outcome (operand_read words s k) ∙ kept_answer (tree s) (height s)

pub one_expression : (words : List Word) (s t : Syntax) → IsSpelled words s → IsSpelled words t → answer_at (tree s) (height s) ≡ answer_at (tree t) (height t)
one_expression words s t k l = sym (expression_read words s k) ∙ expression_read words t l

list_read : (words : List Word) (ss : SyntaxList) → AreSpelled words ss → outcome_of_parts (parts_of words) ≡ answer_at (trees ss) (heights ss)
list_read words ss k = ap outcome_of_parts (parts_read words ss k) ∙ kept_answer (trees ss) (heights ss)

pub one_list : (words : List Word) (ss ts : SyntaxList) → AreSpelled words ss → AreSpelled words ts → answer_at (trees ss) (heights ss) ≡ answer_at (trees ts) (heights ts)
one_list words ss ts k l = sym (list_read words ss k) ∙ list_read words ts l

over_read : (words : List Word) (i : IndexSyntax) → IsIndexSpelled words i → outcome_of_index (whole_index_of_words words) ≡ answer_at (index_of i) (height_index i)
over_read words i k = ap outcome_of_index (index_read words i k) ∙ kept_answer (index_of i) (height_index i)

pub one_index : (words : List Word) (i j : IndexSyntax) → IsIndexSpelled words i → IsIndexSpelled words j → answer_at (index_of i) (height_index i) ≡ answer_at (index_of j) (height_index j)
one_index words i j k l = sym (over_read words i k) ∙ over_read words j l
