-- What the reader accepts is spelled as the grammar says.

use Rattle.std.proofs.Common.{◌≡◌, ℕ, ◌≤◌, Bool, true, false, nat_le, ◌&&◌, ◌||◌, List, [], ◌∷◌, ◌++◌, Option, Some, None, refl, sym, ◌∙◌, ap, subst, append_assoc}
use Rattle.std.proofs.lemmas.Bool.{leb-true, and_parts}
use Rattle.mos_tree.specs.declared.expr.Expr.TheVariants as expr_kind
use Rattle.mos_tree.specs.declared.expr.BinaryOperator.{BinaryOperator}
use Rattle.mos_tree.specs.declared.expr.BinaryOperator.TheVariants as binary_operator
use Rattle.mos_tree.specs.declared.expr.AggregateOperator.{AggregateOperator}
use Rattle.mos_scan.specs.declared.token.TokenKind.{TokenKind}
use Rattle.mos_scan.specs.declared.token.TokenKind.TheVariants as token_kind
use Rattle.mos_scan.specs.declared.grammar_word.Word.{Word}
use Rattle.mos_scan.specs.declared.grammar_word.Word.TheVariants as word_kind
use Rattle.mos_expr.specs.Grammar.{Leaf, number, text, truth, name, returned, field, Names, one_name, Syntax, leaf, call, call_field, set, list, bracket, if_expr, convert, before, between, aggregate, counted, IndexSyntax, last_set, such_that, level, level_before, level_body, binds, left_of, right_of, takes, trees, heights, height_index, index_of, IsGrouped, key, spell, spell_between, spell_aggregate, spell_conversion, spell_names, spell_list, spell_index, list_of_names}
use Rattle.mos_expr.specs.Machine.{State, FoldResult, and_then, folds, room, fold_frames, place_operator, at_frame, after_key, mode_behind, index_read, at_round, list_closed, at_bracket, at_comma, at_bar, close, infix_at, state_of}
use Rattle.mos_expr.specs.Reader.{step, read, want, want_key, aggregate_key, want_first, close_empty, first_key, want_open, open_index, want_in, want_name, after_name, after_dot, after_dot_of_call, after, after_named, after_called, at_end}
use Rattle.mos_expr.specs.Operands as operands
use Rattle.mos_expr.specs.declared.operand.Operand.{Operand}
use Rattle.mos_expr.specs.declared.operand.Parts.{Parts}
use Rattle.mos_expr.specs.declared.operand.Groups.{Groups}
use Rattle.mos_expr.specs.declared.operand.WholeIndex.{WholeIndex}
use Rattle.mos_expr.specs.declared.frame.IndexKind.{IndexKind}
use Rattle.mos_expr.specs.declared.frame.IndexKind.TheVariants as index_kind
use Rattle.mos_expr.specs.declared.frame.ListKind.{ListKind}
use Rattle.mos_expr.specs.declared.frame.ListKind.TheVariants as list_kind
use Rattle.mos_expr.specs.declared.frame.Frame.{Frame}
use Rattle.mos_expr.specs.declared.frame.Frame.TheVariants as frame_kind
use Rattle.mos_expr.specs.declared.frame.Mode.{Mode}
use Rattle.mos_expr.specs.declared.frame.Mode.TheVariants as mode_kind
use Rattle.mos_expr.proofs.Values.{on_bool, whole, bracketed-whole, convert-whole, if_expr-whole, before-whole, between-whole, aggregate-whole, counted-whole, call-whole, call_field-whole, set-whole, list-whole}
use Rattle.mos_expr.proofs.Complete.{three-parts}
use Rattle.mos_expr.proofs.Ending.{parts_done, parts_words, no_parts_done, set_done, set_before_condition, condition_done, set_words, condition_words}
use Rattle.mos_expr.proofs.Holds.{Whole, SetsBefore, SpelledIndex, WholeParts, no_parts_before, part_before, no_names_before, name_before, no_sets_before, set_before, begin_list, begin_index, Holds, HoldsFirst, Stands, Good, GoodOperand}

-- all words stand as they did, with what is left written otherwise
moved : (fs : List Frame) (x y all : List Word) → x ≡ y → Holds fs x all → Holds fs y all
moved fs x y all e h = subst (λ ws. Holds fs ws all) e h

-- ---- what is whole, in an operand

abbrev whole_of : (s : Syntax) (x : Operand) → IsGrouped s → x ≡ whole s → Whole x
whole_of s x g e = record { syntax = s; grouped = g; is = e }

-- an operand that nothing behind it can take part in
abbrev Shut : Syntax → Type 0
Shut s = (op : BinaryOperator) → takes s op ≡ false

after_stands : (s : Syntax) (x : Operand) (fs : List Frame) (rest all : List Word) → IsGrouped s → x ≡ whole s → Shut s → Holds fs (spell s ++ rest) all → Stands (mode_kind.After x) fs rest all
after_stands s x fs rest all g e q h = (whole_of s x g e, q, h)

-- ---- folding

between_words : (op : BinaryOperator) (x y : Syntax) (rest : List Word) → spell x ++ (spell_between op ++ (spell y ++ rest)) ≡ spell (between op x y) ++ rest
between_words op x y rest = simp append_assoc

body_words : (over : IndexSyntax) (s : Syntax) (rest : List Word) → spell_index over ++ word_kind.Key token_kind.CloseRound ∷ (spell s ++ rest) ≡ (spell_index over ++ word_kind.Key token_kind.CloseRound ∷ spell s) ++ rest
body_words over s rest = sym (append_assoc (spell_index over) (word_kind.Key token_kind.CloseRound ∷ spell s) rest)

body_whole : (p : AggregateOperator) (ready : WholeIndex) (index : SpelledIndex ready) (s : Syntax) → operands.aggregate_of p ready (whole s) ≡ whole (aggregate p index.over s)
body_whole p ready index s = ap (λ r. operands.aggregate_of p r (whole s)) index.is ∙ aggregate-whole p (height_index index.over) (index_of index.over) s

-- the operand that a frame makes ends what it ends
settles_made : (fs : List Frame) (s : Syntax) (x : Operand) (rest all : List Word) → x ≡ whole s → GoodOperand (fold_frames (whole s) fs) rest all → GoodOperand (fold_frames x fs) rest all
settles_made fs s x rest all e h = subst (λ y. GoodOperand (fold_frames y fs) rest all) (sym e) h

stays_whole : (fs : List Frame) (s : Syntax) (rest all : List Word) → IsGrouped s → Holds fs (spell s ++ rest) all → GoodOperand (Some (whole s, fs)) rest all
stays_whole fs s rest all g h = (whole_of s (whole s) g refl, h)

-- an operand ends what it ends
settles : (fs : List Frame) (s : Syntax) (rest all : List Word) → IsGrouped s → Holds fs (spell s ++ rest) all → GoodOperand (fold_frames (whole s) fs) rest all
settles [] s rest all g h = stays_whole [] s rest all g h
settles (frame_kind.Before p ∷ fs) s rest all g h =
    on_bool (nat_le (level s) (level_before p))
    (λ e. rw e (settles_made fs (before p s) (operands.before_of p (whole s)) rest all (before-whole p s) (settles fs (before p s) rest all (leb-true (level s) (level_before p) e, g) h)))
    (λ e. rw e tt)
settles (frame_kind.Between op a ∷ fs) s rest all g h =
    on_bool (nat_le (level s) (right_of op))
    (λ e. rw e (settles_made fs (between op h.0.syntax s) (operands.between_of op a (whole s)) rest all (ap (λ y. operands.between_of op y (whole s)) h.0.is ∙ between-whole op h.0.syntax s) (settles fs (between op h.0.syntax s) rest all (h.1, leb-true (level s) (right_of op) e, h.0.grouped, g, h.2) (moved fs _ _ all (between_words op h.0.syntax s rest) h.3))))
    (λ e. rw e tt)
settles (frame_kind.Body p ready ∷ fs) s rest all g h =
    on_bool (nat_le (level s) (level_body p))
    (λ e. rw e (settles_made fs (aggregate p h.0.over s) (operands.aggregate_of p ready (whole s)) rest all (body_whole p ready h.0 s) (settles fs (aggregate p h.0.over s) rest all (leb-true (level s) (level_body p) e, h.0.grouped, g) (moved fs _ _ all (ap (λ z. spell_aggregate p ∷ word_kind.Key token_kind.OpenRound ∷ z) (body_words h.0.over s rest)) h.1))))
    (λ e. rw e tt)
settles (q ∷ fs) s rest all g h = stays_whole (q ∷ fs) s rest all g h

-- ---- an operator

abbrev GoodFrames : Option (List Frame) → List Word → List Word → Type 0
GoodFrames None rest all = Unit {0}
GoodFrames (Some fs) rest all = Holds fs rest all

placed_made : (op : BinaryOperator) (fs : List Frame) (s : Syntax) (x : Operand) (rest all : List Word) → x ≡ whole s → GoodFrames (place_operator op (whole s) fs) rest all → GoodFrames (place_operator op x fs) rest all
placed_made op fs s x rest all e h = subst (λ y. GoodFrames (place_operator op y fs) rest all) (sym e) h

between_holds : (op : BinaryOperator) (fs : List Frame) (s : Syntax) (rest all : List Word) → IsGrouped s → takes s op ≡ false → nat_le (level s) (left_of op) ≡ true → Holds fs (spell s ++ (spell_between op ++ rest)) all → Holds (frame_kind.Between op (whole s) ∷ fs) rest all
between_holds op fs s rest all g n l h = (whole_of s (whole s) g refl, leb-true (level s) (left_of op) l, n, h)

-- behind a frame that an operand does not end
placed_here : (op : BinaryOperator) (q : Frame) (fs : List Frame) (s : Syntax) (rest all : List Word) → folds q ≡ false → IsGrouped s → takes s op ≡ false → Holds (q ∷ fs) (spell s ++ (spell_between op ++ rest)) all → GoodFrames (place_operator op (whole s) (q ∷ fs)) rest all
placed_here op q fs s rest all d g n h =
    on_bool (nat_le (binds op) (room q) && nat_le (level s) (left_of op))
    (λ e. rw e (between_holds op (q ∷ fs) s rest all g n (and_parts (nat_le (binds op) (room q)) (nat_le (level s) (left_of op)) e).1 h))
    (λ e. rw (e, d) tt)

none_taken : (x y : Bool) → x ≡ false → y ≡ false → (x || y) ≡ false
none_taken x y e d = rw (e, d) refl

places : (op : BinaryOperator) (fs : List Frame) (s : Syntax) (rest all : List Word) → IsGrouped s → takes s op ≡ false → Holds fs (spell s ++ (spell_between op ++ rest)) all → GoodFrames (place_operator op (whole s) fs) rest all
places op [] s rest all g n h =
    on_bool (nat_le (level s) (left_of op))
    (λ e. rw e (between_holds op [] s rest all g n e h))
    (λ e. rw e tt)
places op (frame_kind.Before p ∷ fs) s rest all g n h =
    on_bool (nat_le (binds op) (level_before p) && nat_le (level s) (left_of op))
    (λ e. rw e (between_holds op (frame_kind.Before p ∷ fs) s rest all g n (and_parts (nat_le (binds op) (level_before p)) (nat_le (level s) (left_of op)) e).1 h))
    (λ e. on_bool (nat_le (level s) (level_before p))
    (λ d. rw (e, d) (placed_made op fs (before p s) (operands.before_of p (whole s)) rest all (before-whole p s) (places op fs (before p s) rest all (leb-true (level s) (level_before p) d, g) (none_taken _ _ e n) h)))
    (λ d. rw (e, d) tt))
places op (frame_kind.Between q a ∷ fs) s rest all g n h =
    on_bool (nat_le (binds op) (right_of q) && nat_le (level s) (left_of op))
    (λ e. rw e (between_holds op (frame_kind.Between q a ∷ fs) s rest all g n (and_parts (nat_le (binds op) (right_of q)) (nat_le (level s) (left_of op)) e).1 h))
    (λ e. on_bool (nat_le (level s) (right_of q))
    (λ d. rw (e, d) (placed_made op fs (between q h.0.syntax s) (operands.between_of q a (whole s)) rest all (ap (λ y. operands.between_of q y (whole s)) h.0.is ∙ between-whole q h.0.syntax s) (places op fs (between q h.0.syntax s) rest all (h.1, leb-true (level s) (right_of q) d, h.0.grouped, g, h.2) (none_taken _ _ e n) (moved fs _ _ all (between_words q h.0.syntax s (spell_between op ++ rest)) h.3))))
    (λ d. rw (e, d) tt))
places op (frame_kind.Body p ready ∷ fs) s rest all g n h =
    on_bool (nat_le (binds op) (level_body p) && nat_le (level s) (left_of op))
    (λ e. rw e (between_holds op (frame_kind.Body p ready ∷ fs) s rest all g n (and_parts (nat_le (binds op) (level_body p)) (nat_le (level s) (left_of op)) e).1 h))
    (λ e. on_bool (nat_le (level s) (level_body p))
    (λ d. rw (e, d) (placed_made op fs (aggregate p h.0.over s) (operands.aggregate_of p ready (whole s)) rest all (body_whole p ready h.0 s) (places op fs (aggregate p h.0.over s) rest all (leb-true (level s) (level_body p) d, h.0.grouped, g) (none_taken _ _ e n) (moved fs _ _ all (ap (λ z. spell_aggregate p ∷ word_kind.Key token_kind.OpenRound ∷ z) (body_words h.0.over s (spell_between op ++ rest))) h.1))))
    (λ d. rw (e, d) tt))
places op (q ∷ fs) s rest all g n h = placed_here op q fs s rest all refl g n h

plain_state : (op : BinaryOperator) (st : Option (List Frame)) (rest all : List Word) → mode_behind op ≡ mode_kind.Want → GoodFrames st rest all → Good (and_then st (λ gs. Some (mode_behind op, gs))) rest all
plain_state op None rest all e h = tt
plain_state op (Some gs) rest all e h = subst (λ mode. Stands mode gs rest all) (sym e) h

-- an operator of one word
plain : (op : BinaryOperator) (s : Syntax) (fs : List Frame) (rest all : List Word) → mode_behind op ≡ mode_kind.Want → IsGrouped s → takes s op ≡ false → Holds fs (spell s ++ (spell_between op ++ rest)) all → Good (infix_at op (whole s) fs) rest all
plain op s fs rest all e g n h = plain_state op (place_operator op (whole s) fs) rest all e (places op fs s rest all g n h)

-- `not`, behind which `in` must come
not_in_state : (st : Option (List Frame)) (rest all : List Word) → ((after : List Word) → rest ≡ word_kind.Key token_kind.In ∷ after → GoodFrames st after all) → Good (and_then st (λ gs. Some (mode_kind.WantIn, gs))) rest all
not_in_state None rest all h = tt
not_in_state (Some gs) rest all h = h

not_in : (s : Syntax) (fs : List Frame) (rest all : List Word) → IsGrouped s → takes s binary_operator.NotIn ≡ false → Holds fs (spell s ++ word_kind.Key token_kind.Not ∷ rest) all → Good (infix_at binary_operator.NotIn (whole s) fs) rest all
not_in s fs rest all g n h =
    not_in_state (place_operator binary_operator.NotIn (whole s) fs) rest all
    (λ after e. places binary_operator.NotIn fs s after all g n (moved fs _ _ all (ap (λ z. spell s ++ word_kind.Key token_kind.Not ∷ z) e) h))

-- ---- a bracket, a comma or a bar

index_reads : (kind : IndexKind) (ready : WholeIndex) (fs : List Frame) (rest all : List Word) (x : SpelledIndex ready) → Holds fs (begin_index kind (spell_index x.over ++ word_kind.Key token_kind.CloseRound ∷ rest)) all → Good (index_read kind ready fs) rest all
index_reads (index_kind.Aggregate op) ready fs rest all x h = (x, h)
index_reads index_kind.Count ready fs rest all x h =
    after_stands (counted x.over) (operands.counted_of ready) fs rest all x.grouped (ap operands.counted_of x.is ∙ counted-whole (height_index x.over) (index_of x.over)) (λ op. refl)
    (moved fs _ _ all (ap (λ z. word_kind.Key token_kind.Count ∷ word_kind.Key token_kind.OpenRound ∷ z) (sym (append_assoc (spell_index x.over) (key token_kind.CloseRound) rest))) h)
index_reads index_kind.Loop ready fs rest all x h = tt

-- the last set, behind names that were read
rounds_set : (kind : IndexKind) (groups : Groups) (sets : SetsBefore groups) (ns : Names) (fs : List Frame) (s : Syntax) (rest all : List Word) → level s ≤ 5 → IsGrouped s → Holds fs (begin_index kind (sets.words (spell_names ns ++ word_kind.Key token_kind.In ∷ (spell s ++ word_kind.Key token_kind.CloseRound ∷ rest)))) all → Good (index_read kind (operands.whole_index_of (operands.groups_with groups (list_of_names ns) (whole s))) fs) rest all
rounds_set kind groups sets ns fs s rest all l g h =
    index_reads kind (operands.whole_index_of (operands.groups_with groups (list_of_names ns) (whole s))) fs rest all (set_done groups sets ns s l g)
    (moved fs _ _ all (ap (begin_index kind) (ap sets.words (set_words ns s (word_kind.Key token_kind.CloseRound ∷ rest)) ∙ sym (sets.spelled (last_set ns s) (word_kind.Key token_kind.CloseRound ∷ rest)))) h)

-- expressions behind their bracket
lists : (k : TokenKind) (form : ListKind) (ps : Parts) (d : WholeParts ps) (fs : List Frame) (rest all : List Word) → Holds fs (begin_list form (spell_list d.written ++ word_kind.Key k ∷ rest)) all → Good (state_of (list_closed k form ps) fs) rest all
lists token_kind.CloseRound (list_kind.Call n) ps d fs rest all h = (d, h)
lists token_kind.CloseCurly list_kind.Set ps d fs rest all h =
    after_stands (set d.written) (operands.set_of ps) fs rest all d.grouped (ap operands.set_of d.is ∙ set-whole (heights d.written) (trees d.written)) (λ op. refl)
    (moved fs _ _ all (ap (λ z. word_kind.Key token_kind.OpenCurly ∷ z) (sym (append_assoc (spell_list d.written) (key token_kind.CloseCurly) rest))) h)
lists token_kind.CloseSquare list_kind.List ps d fs rest all h =
    after_stands (list d.written) (operands.list_of ps) fs rest all d.grouped (ap operands.list_of d.is ∙ list-whole (heights d.written) (trees d.written)) (λ op. refl)
    (moved fs _ _ all (ap (λ z. word_kind.Key token_kind.OpenSquare ∷ z) (sym (append_assoc (spell_list d.written) (key token_kind.CloseSquare) rest))) h)
lists k kind ps d fs rest all h = tt

brackets : (k : TokenKind) (q : Frame) (fs : List Frame) (s : Syntax) (rest all : List Word) → IsGrouped s → Holds (q ∷ fs) (spell s ++ word_kind.Key k ∷ rest) all → Good (at_bracket k q (whole s) fs) rest all
brackets k (frame_kind.InList form ps) fs s rest all g h =
    lists k form (operands.parts_with ps (whole s)) (parts_done ps h.0 s g) fs rest all (moved fs _ _ all (ap (begin_list form) (parts_words ps h.0 s (word_kind.Key k ∷ rest))) h.1)
brackets k q fs s rest all g h = tt

rounds : (q : Frame) (fs : List Frame) (s : Syntax) (rest all : List Word) → IsGrouped s → Holds (q ∷ fs) (spell s ++ word_kind.Key token_kind.CloseRound ∷ rest) all → Good (at_round q (whole s) fs) rest all
rounds frame_kind.Bracket fs s rest all g h =
    after_stands (bracket s) (operands.bracket_of (whole s)) fs rest all g (bracketed-whole s) (λ op. refl)
    (moved fs _ _ all (ap (λ z. word_kind.Key token_kind.OpenRound ∷ z) (sym (append_assoc (spell s) (key token_kind.CloseRound) rest))) h)
rounds (frame_kind.IfSecond a c) fs s rest all g h =
    after_stands (if_expr h.0.syntax h.1.syntax s) (operands.if_expr_of a c (whole s)) fs rest all (h.0.grouped, h.1.grouped, g)
    (ap (λ x. operands.if_expr_of x c (whole s)) h.0.is ∙ ap (λ x. operands.if_expr_of (whole h.0.syntax) x (whole s)) h.1.is ∙ if_expr-whole h.0.syntax h.1.syntax s) (λ op. refl)
    (moved fs _ _ all (ap (λ z. word_kind.Key token_kind.If ∷ word_kind.Key token_kind.OpenRound ∷ z) (sym (three-parts (spell h.0.syntax) (spell h.1.syntax) (spell s) rest))) h.2)
rounds (frame_kind.Convert to) fs s rest all g h =
    after_stands (convert to s) (operands.convert_of to (whole s)) fs rest all g (convert-whole to s) (λ op. refl)
    (moved fs _ _ all (ap (λ z. spell_conversion to ∷ word_kind.Key token_kind.OpenRound ∷ z) (sym (append_assoc (spell s) (key token_kind.CloseRound) rest))) h)
rounds (frame_kind.IndexSet kind groups names) fs s rest all g h =
    on_bool (nat_le (level s) 5)
    (λ e. rw e (subst (λ l. Good (index_read kind (operands.whole_index_of (operands.groups_with groups l (whole s))) fs) rest all) (sym h.2) (rounds_set kind groups h.0 h.1 fs s rest all (leb-true (level s) 5 e) g h.3)))
    (λ e. rw e tt)
rounds (frame_kind.IndexCondition kind groups) fs s rest all g h =
    index_reads kind (operands.conditioned_index_of groups (whole s)) fs rest all (condition_done groups h.0 s g)
    (moved fs _ _ all (ap (begin_index kind) (ap h.0.sets.words (condition_words h.0.names h.0.syntax s (word_kind.Key token_kind.CloseRound ∷ rest)) ∙ sym (h.0.sets.spelled (such_that h.0.names h.0.syntax s) (word_kind.Key token_kind.CloseRound ∷ rest)))) h.1)
rounds q fs s rest all g h = brackets token_kind.CloseRound q fs s rest all g h

commas : (q : Frame) (fs : List Frame) (s : Syntax) (rest all : List Word) → IsGrouped s → Holds (q ∷ fs) (spell s ++ word_kind.Key token_kind.Comma ∷ rest) all → Good (at_comma q (whole s) fs) rest all
commas (frame_kind.InList form ps) fs s rest all g h = (part_before ps h.0 s g, h.1)
commas frame_kind.IfExpr fs s rest all g h = (whole_of s (whole s) g refl, h)
commas (frame_kind.IfFirst a) fs s rest all g h = (h.0, whole_of s (whole s) g refl, h.1)
commas (frame_kind.IndexSet kind groups names) fs s rest all g h =
    on_bool (nat_le (level s) 5)
    (λ e. rw e (subst (λ l. Stands (mode_kind.WantName kind (operands.groups_with groups l (whole s)) []) fs rest all) (sym h.2) (set_before groups h.0 h.1 s (leb-true (level s) 5 e) g, no_names_before, h.3)))
    (λ e. rw e tt)
commas q fs s rest all g h = tt

bars : (q : Frame) (fs : List Frame) (s : Syntax) (rest all : List Word) → IsGrouped s → Holds (q ∷ fs) (spell s ++ word_kind.Key token_kind.Bar ∷ rest) all → Good (at_bar q (whole s) fs) rest all
bars (frame_kind.IndexSet kind groups names) fs s rest all g h =
    on_bool (nat_le (level s) 5)
    (λ e. rw e (subst (λ l. Stands mode_kind.Want (frame_kind.IndexCondition kind (operands.groups_with groups l (whole s)) ∷ fs) rest all) (sym h.2) (set_before_condition groups h.0 h.1 s (leb-true (level s) 5 e) g, h.3)))
    (λ e. rw e tt)
bars q fs s rest all g h = tt

at_frames : (k : TokenKind) (fs : List Frame) (s : Syntax) (rest all : List Word) → IsGrouped s → Holds fs (spell s ++ word_kind.Key k ∷ rest) all → Good (at_frame k (whole s) fs) rest all
at_frames k [] s rest all g h = tt
at_frames token_kind.CloseRound (q ∷ fs) s rest all g h = rounds q fs s rest all g h
at_frames token_kind.CloseCurly (q ∷ fs) s rest all g h = brackets token_kind.CloseCurly q fs s rest all g h
at_frames token_kind.CloseSquare (q ∷ fs) s rest all g h = brackets token_kind.CloseSquare q fs s rest all g h
at_frames token_kind.Comma (q ∷ fs) s rest all g h = commas q fs s rest all g h
at_frames token_kind.Bar (q ∷ fs) s rest all g h = bars q fs s rest all g h
at_frames k (q ∷ fs) s rest all g h = tt

close_state : (k : TokenKind) (st : FoldResult) (rest all : List Word) → GoodOperand st (word_kind.Key k ∷ rest) all → Good (and_then st (λ y. at_frame k y.0 y.1)) rest all
close_state k None rest all h = tt
close_state k (Some y) rest all h = subst (λ x. Good (at_frame k x y.1) rest all) (sym h.0.is) (at_frames k y.1 h.0.syntax rest all h.0.grouped h.1)

closes : (k : TokenKind) (fs : List Frame) (s : Syntax) (rest all : List Word) → IsGrouped s → Holds fs (spell s ++ word_kind.Key k ∷ rest) all → Good (close k (whole s) fs) rest all
closes k fs s rest all g h = close_state k (fold_frames (whole s) fs) rest all (settles fs s (word_kind.Key k ∷ rest) all g h)

-- ---- a word behind an operand

keys : (k : TokenKind) (fs : List Frame) (s : Syntax) (rest all : List Word) → IsGrouped s → Shut s → Holds fs (spell s ++ word_kind.Key k ∷ rest) all → Good (after_key k (whole s) fs) rest all
unfolding after_key
keys token_kind.Times fs s rest all g q h = plain binary_operator.Times s fs rest all refl g (q binary_operator.Times) h
keys token_kind.Div fs s rest all g q h = plain binary_operator.Div s fs rest all refl g (q binary_operator.Div) h
keys token_kind.Mod fs s rest all g q h = plain binary_operator.Mod s fs rest all refl g (q binary_operator.Mod) h
keys token_kind.Inter fs s rest all g q h = plain binary_operator.Inter s fs rest all refl g (q binary_operator.Inter) h
keys token_kind.Plus fs s rest all g q h = plain binary_operator.Plus s fs rest all refl g (q binary_operator.Plus) h
keys token_kind.Minus fs s rest all g q h = plain binary_operator.Minus s fs rest all refl g (q binary_operator.Minus) h
keys token_kind.Union fs s rest all g q h = plain binary_operator.Union s fs rest all refl g (q binary_operator.Union) h
keys token_kind.DotDot fs s rest all g q h = plain binary_operator.Range s fs rest all refl g (q binary_operator.Range) h
keys token_kind.Equal fs s rest all g q h = plain binary_operator.Equal s fs rest all refl g (q binary_operator.Equal) h
keys token_kind.NotEqual fs s rest all g q h = plain binary_operator.NotEqual s fs rest all refl g (q binary_operator.NotEqual) h
keys token_kind.Less fs s rest all g q h = plain binary_operator.Less s fs rest all refl g (q binary_operator.Less) h
keys token_kind.AtMost fs s rest all g q h = plain binary_operator.AtMost s fs rest all refl g (q binary_operator.AtMost) h
keys token_kind.Greater fs s rest all g q h = plain binary_operator.Greater s fs rest all refl g (q binary_operator.Greater) h
keys token_kind.AtLeast fs s rest all g q h = plain binary_operator.AtLeast s fs rest all refl g (q binary_operator.AtLeast) h
keys token_kind.In fs s rest all g q h = plain binary_operator.In s fs rest all refl g (q binary_operator.In) h
keys token_kind.And fs s rest all g q h = plain binary_operator.And s fs rest all refl g (q binary_operator.And) h
keys token_kind.Or fs s rest all g q h = plain binary_operator.Or s fs rest all refl g (q binary_operator.Or) h
keys token_kind.Not fs s rest all g q h = not_in s fs rest all g (q binary_operator.NotIn) h
keys k fs s rest all g q h = closes k fs s rest all g h

afters : (x : Operand) (word : Word) (fs : List Frame) (rest all : List Word) → Stands (mode_kind.After x) fs (word ∷ rest) all → Good (after x word fs) rest all
afters x (word_kind.Key k) fs rest all h = subst (λ y. Good (after_key k y fs) rest all) (sym h.0.is) (keys k fs h.0.syntax rest all h.0.grouped h.1 h.2)
afters x word fs rest all h = tt

leaf_stands : (x : Leaf) (fs : List Frame) (rest all : List Word) → Holds fs (spell (leaf x) ++ rest) all → Stands (mode_kind.After (whole (leaf x))) fs rest all
leaf_stands x fs rest all h = after_stands (leaf x) (whole (leaf x)) fs rest all tt refl (λ op. refl) h

nameds : (n : List ℕ) (word : Word) (fs : List Frame) (rest all : List Word) → Stands (mode_kind.Named n) fs (word ∷ rest) all → Good (after_named n word fs) rest all
nameds n (word_kind.Key token_kind.OpenRound) fs rest all h = (refl, h)
nameds n (word_kind.Key token_kind.Dot) fs rest all h = h
nameds n (word_kind.Key k) fs rest all h = afters (operands.leaf_of (expr_kind.Name n)) (word_kind.Key k) fs rest all (leaf_stands (name n) fs (word_kind.Key k ∷ rest) all h)
nameds n word fs rest all h = tt

call_stands : (n : List ℕ) (ps : Parts) (fs : List Frame) (rest all : List Word) → Stands (mode_kind.Called n ps) fs rest all → Stands (mode_kind.After (operands.call_of n ps)) fs rest all
call_stands n ps fs rest all h =
    after_stands (call n h.0.written) (operands.call_of n ps) fs rest all h.0.grouped (ap (operands.call_of n) h.0.is ∙ call-whole n (heights h.0.written) (trees h.0.written)) (λ op. refl)
    (moved fs _ _ all (ap (λ z. word_kind.Name n ∷ word_kind.Key token_kind.OpenRound ∷ z) (sym (append_assoc (spell_list h.0.written) (key token_kind.CloseRound) rest))) h.1)

calleds : (n : List ℕ) (ps : Parts) (word : Word) (fs : List Frame) (rest all : List Word) → Stands (mode_kind.Called n ps) fs (word ∷ rest) all → Good (after_called n ps word fs) rest all
calleds n ps (word_kind.Key token_kind.Dot) fs rest all h = h
calleds n ps (word_kind.Key k) fs rest all h = afters (operands.call_of n ps) (word_kind.Key k) fs rest all (call_stands n ps fs (word_kind.Key k ∷ rest) all h)
calleds n ps word fs rest all h = tt

dotteds : (n : List ℕ) (word : Word) (fs : List Frame) (rest all : List Word) → Stands (mode_kind.Dotted n) fs (word ∷ rest) all → Good (after_dot n word fs) rest all
dotteds n (word_kind.Name x) fs rest all h = leaf_stands (field n x) fs rest all h
dotteds n word fs rest all h = tt

dotted_calls : (n : List ℕ) (ps : Parts) (word : Word) (fs : List Frame) (rest all : List Word) → Stands (mode_kind.DottedCall n ps) fs (word ∷ rest) all → Good (after_dot_of_call n ps word fs) rest all
dotted_calls n ps (word_kind.Name x) fs rest all h =
    after_stands (call_field n h.0.written x) (operands.call_field_of n ps x) fs rest all h.0.grouped (ap (λ q. operands.call_field_of n q x) h.0.is ∙ call_field-whole n (heights h.0.written) (trees h.0.written) x) (λ op. refl)
    (moved fs _ _ all (ap (λ z. word_kind.Name n ∷ word_kind.Key token_kind.OpenRound ∷ z) (sym (append_assoc (spell_list h.0.written) (word_kind.Key token_kind.CloseRound ∷ word_kind.Key token_kind.Dot ∷ word_kind.Name x ∷ []) rest))) h.1)
dotted_calls n ps word fs rest all h = tt

-- ---- a word where an operand is wanted

-- what begins with this word, once an opening bracket has come
opens : (word : Word) (fs : List Frame) (rest all : List Word) → Holds fs (word ∷ rest) all → (after : List Word) → rest ≡ word_kind.Key token_kind.OpenRound ∷ after → Holds fs (word ∷ word_kind.Key token_kind.OpenRound ∷ after) all
opens word fs rest all h after e = moved fs (word ∷ rest) (word ∷ word_kind.Key token_kind.OpenRound ∷ after) all (ap (λ z. word ∷ z) e) h

want_keys : (k : TokenKind) (fs : List Frame) (rest all : List Word) → Holds fs (word_kind.Key k ∷ rest) all → Good (want_key k fs) rest all
unfolding want_key aggregate_key
want_keys token_kind.True fs rest all h = leaf_stands (truth true) fs rest all h
want_keys token_kind.False fs rest all h = leaf_stands (truth false) fs rest all h
want_keys token_kind.Returned fs rest all h = leaf_stands returned fs rest all h
want_keys token_kind.OpenRound fs rest all h = h
want_keys token_kind.OpenCurly fs rest all h = (refl, h)
want_keys token_kind.OpenSquare fs rest all h = (refl, h)
want_keys token_kind.If fs rest all h = opens (word_kind.Key token_kind.If) fs rest all h
want_keys token_kind.Integer fs rest all h = opens (word_kind.Key token_kind.Integer) fs rest all h
want_keys token_kind.StringWord fs rest all h = opens (word_kind.Key token_kind.StringWord) fs rest all h
want_keys token_kind.Minus fs rest all h = h
want_keys token_kind.Plus fs rest all h = h
want_keys token_kind.Not fs rest all h = h
want_keys token_kind.Sum fs rest all h = opens (word_kind.Key token_kind.Sum) fs rest all h
want_keys token_kind.Prod fs rest all h = opens (word_kind.Key token_kind.Prod) fs rest all h
want_keys token_kind.Min fs rest all h = opens (word_kind.Key token_kind.Min) fs rest all h
want_keys token_kind.Max fs rest all h = opens (word_kind.Key token_kind.Max) fs rest all h
want_keys token_kind.Union fs rest all h = opens (word_kind.Key token_kind.Union) fs rest all h
want_keys token_kind.And fs rest all h = opens (word_kind.Key token_kind.And) fs rest all h
want_keys token_kind.Or fs rest all h = opens (word_kind.Key token_kind.Or) fs rest all h
want_keys token_kind.Count fs rest all h = opens (word_kind.Key token_kind.Count) fs rest all h
want_keys k fs rest all h = tt

wants : (word : Word) (fs : List Frame) (rest all : List Word) → Holds fs (word ∷ rest) all → Good (want word fs) rest all
wants (word_kind.Number n) fs rest all h = leaf_stands (number n) fs rest all h
wants (word_kind.Text x) fs rest all h = leaf_stands (text x) fs rest all h
wants (word_kind.Name n) fs rest all h = h
wants (word_kind.Key k) fs rest all h = want_keys k fs rest all h

first_holds : (fs : List Frame) (rest all : List Word) → HoldsFirst fs rest all → Holds fs rest all
first_holds (frame_kind.InList form ps ∷ fs) rest all h = subst (λ q. Holds (frame_kind.InList form q ∷ fs) rest all) (sym h.0) (no_parts_before, h.1)
first_holds [] rest all h = absurd h
first_holds (q ∷ fs) rest all h = absurd h

empties : (k : TokenKind) (fs : List Frame) (rest all : List Word) → HoldsFirst fs (word_kind.Key k ∷ rest) all → Good (close_empty k fs) rest all
empties k [] rest all h = tt
empties k (frame_kind.InList form ps ∷ fs) rest all h = subst (λ q. Good (state_of (list_closed k form q) fs) rest all) (sym h.0) (lists k form operands.no_parts no_parts_done fs rest all h.1)
empties k (q ∷ fs) rest all h = tt

first_keys : (k : TokenKind) (fs : List Frame) (rest all : List Word) → HoldsFirst fs (word_kind.Key k ∷ rest) all → Good (first_key k fs) rest all
first_keys token_kind.CloseRound fs rest all h = empties token_kind.CloseRound fs rest all h
first_keys token_kind.CloseCurly fs rest all h = empties token_kind.CloseCurly fs rest all h
first_keys token_kind.CloseSquare fs rest all h = empties token_kind.CloseSquare fs rest all h
first_keys k fs rest all h = want_keys k fs rest all (first_holds fs (word_kind.Key k ∷ rest) all h)

want_firsts : (word : Word) (fs : List Frame) (rest all : List Word) → HoldsFirst fs (word ∷ rest) all → Good (want_first word fs) rest all
want_firsts (word_kind.Key k) fs rest all h = first_keys k fs rest all h
want_firsts (word_kind.Number n) fs rest all h = wants (word_kind.Number n) fs rest all (first_holds fs (word_kind.Number n ∷ rest) all h)
want_firsts (word_kind.Text x) fs rest all h = wants (word_kind.Text x) fs rest all (first_holds fs (word_kind.Text x ∷ rest) all h)
want_firsts (word_kind.Name n) fs rest all h = wants (word_kind.Name n) fs rest all (first_holds fs (word_kind.Name n ∷ rest) all h)

-- ---- where one word is wanted

want_opens : (word : Word) (fs : List Frame) (rest all : List Word) → Stands mode_kind.WantOpen fs (word ∷ rest) all → Good (want_open word fs) rest all
want_opens (word_kind.Key token_kind.OpenRound) fs rest all h = h rest refl
want_opens word fs rest all h = tt

open_indexes : (kind : IndexKind) (word : Word) (fs : List Frame) (rest all : List Word) → Stands (mode_kind.WantIndex kind) fs (word ∷ rest) all → Good (open_index kind word fs) rest all
open_indexes kind (word_kind.Key token_kind.OpenRound) fs rest all h = (no_sets_before, no_names_before, h rest refl)
open_indexes kind word fs rest all h = tt

want_ins : (word : Word) (fs : List Frame) (rest all : List Word) → Stands mode_kind.WantIn fs (word ∷ rest) all → Good (want_in word fs) rest all
want_ins (word_kind.Key token_kind.In) fs rest all h = h rest refl
want_ins word fs rest all h = tt

want_names : (kind : IndexKind) (groups : Groups) (names : List (List ℕ)) (word : Word) (fs : List Frame) (rest all : List Word) → Stands (mode_kind.WantName kind groups names) fs (word ∷ rest) all → Good (want_name kind groups names word fs) rest all
want_names kind groups names (word_kind.Name n) fs rest all h = (h.0, names, h.1, n, refl, h.2)
want_names kind groups names word fs rest all h = tt

after_names : (kind : IndexKind) (groups : Groups) (names : List (List ℕ)) (word : Word) (fs : List Frame) (rest all : List Word) → Stands (mode_kind.AfterName kind groups names) fs (word ∷ rest) all → Good (after_name kind groups names word fs) rest all
after_names kind groups names (word_kind.Key token_kind.Comma) fs rest all h = subst (λ l. Stands (mode_kind.WantName kind groups l) fs rest all) (sym h.4) (h.0, name_before h.1 h.2 h.3, h.5)
after_names kind groups names (word_kind.Key token_kind.In) fs rest all h =
    (h.0, h.2.with_more (one_name h.3), h.4 ∙ sym (h.2.made (one_name h.3)), moved fs _ _ all (ap (λ z. begin_index kind (h.0.words z)) (sym (h.2.spelled (one_name h.3) (word_kind.Key token_kind.In ∷ rest)))) h.5)
after_names kind groups names word fs rest all h = tt

-- ---- all words

steps : (mode : Mode) (word : Word) (fs : List Frame) (rest all : List Word) → Stands mode fs (word ∷ rest) all → Good (step mode word fs) rest all
unfolding step
steps mode_kind.Want word fs rest all h = wants word fs rest all h
steps mode_kind.WantFirst word fs rest all h = want_firsts word fs rest all h
steps mode_kind.WantOpen word fs rest all h = want_opens word fs rest all h
steps (mode_kind.WantIndex kind) word fs rest all h = open_indexes kind word fs rest all h
steps (mode_kind.Named n) word fs rest all h = nameds n word fs rest all h
steps (mode_kind.Called n ps) word fs rest all h = calleds n ps word fs rest all h
steps (mode_kind.Dotted n) word fs rest all h = dotteds n word fs rest all h
steps (mode_kind.DottedCall n ps) word fs rest all h = dotted_calls n ps word fs rest all h
steps (mode_kind.After x) word fs rest all h = afters x word fs rest all h
steps mode_kind.WantIn word fs rest all h = want_ins word fs rest all h
steps (mode_kind.WantName kind groups names) word fs rest all h = want_names kind groups names word fs rest all h
steps (mode_kind.AfterName kind groups names) word fs rest all h = after_names kind groups names word fs rest all h

settled_whole : (x : Operand) (fs : List Frame) (all : List Word) → Stands (mode_kind.After x) fs [] all → GoodOperand (fold_frames x fs) [] all
settled_whole x fs all h = subst (λ y. GoodOperand (fold_frames y fs) [] all) (sym h.0.is) (settles fs h.0.syntax [] all h.0.grouped h.2)

ends : (mode : Mode) (fs : List Frame) (all : List Word) → Stands mode fs [] all → GoodOperand (at_end mode fs) [] all
ends (mode_kind.After x) fs all h = settled_whole x fs all h
ends (mode_kind.Named n) fs all h = settled_whole (operands.leaf_of (expr_kind.Name n)) fs all (leaf_stands (name n) fs [] all h)
ends (mode_kind.Called n ps) fs all h = settled_whole (operands.call_of n ps) fs all (call_stands n ps fs [] all h)
ends mode fs all h = tt

goes_on : (st : State) (rest all : List Word) → ((mode : Mode) (fs : List Frame) → Stands mode fs rest all → GoodOperand (read mode fs rest) [] all) → Good st rest all → GoodOperand (and_then st (λ next. read next.0 next.1 rest)) [] all
goes_on None rest all go h = tt
goes_on (Some next) rest all go h = go next.0 next.1 h

pub reads_good : (words : List Word) (mode : Mode) (fs : List Frame) (all : List Word) → Stands mode fs words all → GoodOperand (read mode fs words) [] all
reads_good [] mode fs all h = ends mode fs all h
reads_good (word ∷ words) mode fs all h = goes_on (step mode word fs) words all (λ next gs k. reads_good words next gs all k) (steps mode word fs words all h)
