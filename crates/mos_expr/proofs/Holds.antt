-- What the open frames hold: the words that were read, and what they spell so far.

use Rattle.std.proofs.Common.{◌≡◌, ℕ, ◌+◌, ◌≤◌, max, false, List, [], ◌∷◌, ◌++◌, Some, None, refl, sym, ◌∙◌, ap, arith, append_assoc}
use Rattle.mos_tree.specs.declared.expr.Expr.{Expr}
use Rattle.mos_tree.specs.declared.expr.Group.{Group}
use Rattle.mos_tree.specs.declared.expr.BinaryOperator.{BinaryOperator}
use Rattle.mos_scan.specs.declared.token.TokenKind.TheVariants as token_kind
use Rattle.mos_scan.specs.declared.grammar_word.Word.{Word}
use Rattle.mos_scan.specs.declared.grammar_word.Word.TheVariants as word_kind
use Rattle.mos_expr.specs.Grammar.{Names, and_name, Syntax, SyntaxList, syntax_then, IndexSyntax, another, level, left_of, takes, tree, trees, height, heights, height_index, groups_of, condition_of, index_of, IsGrouped, AreGrouped, IsGroupedIndex, spell, spell_before, spell_between, spell_aggregate, spell_conversion, spell_names, spell_list, spell_rest, spell_index, list_of_names}
use Rattle.mos_expr.specs.Machine.{State, FoldResult}
use Rattle.mos_expr.specs.Operands as operands
use Rattle.mos_expr.specs.declared.operand.Operand.{Operand}
use Rattle.mos_expr.specs.declared.operand.Parts.{Parts}
use Rattle.mos_expr.specs.declared.operand.Groups.{Groups}
use Rattle.mos_expr.specs.declared.operand.WholeIndex.{WholeIndex}
use Rattle.mos_expr.specs.declared.frame.IndexKind.{IndexKind}
use Rattle.mos_expr.specs.declared.frame.IndexKind.TheVariants as index_kind
use Rattle.mos_expr.specs.declared.frame.ListKind.{ListKind}
use Rattle.mos_expr.specs.declared.frame.ListKind.TheVariants as list_kind
use Rattle.mos_expr.specs.declared.frame.Frame.{Frame}
use Rattle.mos_expr.specs.declared.frame.Frame.TheVariants as frame_kind
use Rattle.mos_expr.specs.declared.frame.Mode.{Mode}
use Rattle.mos_expr.specs.declared.frame.Mode.TheVariants as mode_kind
use Rattle.mos_expr.proofs.Values.{whole, parts_at, groups_at, index_at, group_of, parts-whole, groups-whole}

-- ---- what is begun

-- an expression that was read whole
pub record Whole (x : Operand) : Type 0 where
  pub syntax : Syntax
  pub grouped : IsGrouped syntax
  pub is : x ≡ whole syntax

-- expressions that were read before another one, each with its comma
pub record PartsBefore (parts : Parts) : Type 0 where
  pub with_more : SyntaxList → SyntaxList
  pub words : List Word → List Word
  pub h : ℕ
  pub xs : List Expr
  pub is : parts ≡ parts_at h xs
  pub grouped : (ss : SyntaxList) → AreGrouped ss → AreGrouped (with_more ss)
  pub spelled : (s : Syntax) (ss : SyntaxList) (rest : List Word) → spell_list (with_more (syntax_then s ss)) ++ rest ≡ words (spell s ++ (spell_rest ss ++ rest))
  pub high : (ss : SyntaxList) → heights (with_more ss) ≡ max h (heights ss)
  pub made : (ss : SyntaxList) → trees (with_more ss) ≡ xs ++ trees ss

-- names that were read before another one, each with its comma
pub record NamesBefore (names : List (List ℕ)) : Type 0 where
  pub with_more : Names → Names
  pub words : List Word → List Word
  pub spelled : (ns : Names) (rest : List Word) → spell_names (with_more ns) ++ rest ≡ words (spell_names ns ++ rest)
  pub made : (ns : Names) → list_of_names (with_more ns) ≡ names ++ list_of_names ns

-- sets of an index that were read before another one, each with its names and its comma
pub record SetsBefore (groups : Groups) : Type 0 where
  pub with_more : IndexSyntax → IndexSyntax
  pub words : List Word → List Word
  pub h : ℕ
  pub gs : List (Group Expr)
  pub is : groups ≡ groups_at h gs
  pub grouped : (over : IndexSyntax) → IsGroupedIndex over → IsGroupedIndex (with_more over)
  pub spelled : (over : IndexSyntax) (rest : List Word) → spell_index (with_more over) ++ rest ≡ words (spell_index over ++ rest)
  pub high : (over : IndexSyntax) → height_index (with_more over) ≡ max h (height_index over)
  pub made : (over : IndexSyntax) → groups_of (with_more over) ≡ gs ++ groups_of over
  pub condition : (over : IndexSyntax) → condition_of (with_more over) ≡ condition_of over

-- ---- nothing before, and one more

abbrev pub no_parts_before : PartsBefore operands.no_parts
no_parts_before = record {
  with_more = λ ss. ss;
  words = λ ws. ws;
  h = 0;
  xs = [];
  is = refl;
  grouped = λ ss g. g;
  spelled = λ s ss rest. append_assoc (spell s) (spell_rest ss) rest;
  high = λ ss. omega arith;
  made = λ ss. refl;
}

abbrev pub part_before : (parts : Parts) (p : PartsBefore parts) (s : Syntax) → IsGrouped s → PartsBefore (operands.parts_with parts (whole s))
part_before parts p s g = record {
  with_more = λ ss. p.with_more (syntax_then s ss);
  words = λ ws. p.words (spell s ++ word_kind.Key token_kind.Comma ∷ ws);
  h = max p.h (height s);
  xs = p.xs ++ tree s ∷ [];
  is = ap (λ q. operands.parts_with q (whole s)) p.is ∙ parts-whole p.h p.xs s;
  grouped = λ ss gs. p.grouped (syntax_then s ss) (g, gs);
  spelled = λ x xs rest. p.spelled s (syntax_then x xs) rest ∙ ap (λ z. p.words (spell s ++ word_kind.Key token_kind.Comma ∷ z)) (append_assoc (spell x) (spell_rest xs) rest);
  high = λ ss. p.high (syntax_then s ss) ∙ (let e : max p.h (max (height s) (heights ss)) ≡ max (max p.h (height s)) (heights ss) = omega arith in e);
  made = λ ss. p.made (syntax_then s ss) ∙ sym (append_assoc p.xs (tree s ∷ []) (trees ss));
}

abbrev pub no_names_before : NamesBefore []
no_names_before = record {
  with_more = λ ns. ns;
  words = λ ws. ws;
  spelled = λ ns rest. refl;
  made = λ ns. refl;
}

abbrev pub name_before : (names : List (List ℕ)) → NamesBefore names → (n : List ℕ) → NamesBefore (names ++ n ∷ [])
name_before names p n = record {
  with_more = λ ns. p.with_more (and_name n ns);
  words = λ ws. p.words (word_kind.Name n ∷ word_kind.Key token_kind.Comma ∷ ws);
  spelled = λ ns rest. p.spelled (and_name n ns) rest;
  made = λ ns. p.made (and_name n ns) ∙ sym (append_assoc names (n ∷ []) (list_of_names ns));
}

abbrev pub no_sets_before : SetsBefore operands.no_groups
no_sets_before = record {
  with_more = λ over. over;
  words = λ ws. ws;
  h = 0;
  gs = [];
  is = refl;
  grouped = λ over g. g;
  spelled = λ over rest. refl;
  high = λ over. omega arith;
  made = λ over. refl;
  condition = λ over. refl;
}

abbrev pub set_before : (groups : Groups) (p : SetsBefore groups) (ns : Names) (s : Syntax) → level s ≤ 5 → IsGrouped s → SetsBefore (operands.groups_with groups (list_of_names ns) (whole s))
set_before groups p ns s l g = record {
  with_more = λ over. p.with_more (another ns s over);
  words = λ ws. p.words (spell_names ns ++ word_kind.Key token_kind.In ∷ (spell s ++ word_kind.Key token_kind.Comma ∷ ws));
  h = max p.h (height s + 1);
  gs = p.gs ++ group_of (list_of_names ns) s ∷ [];
  is = ap (λ q. operands.groups_with q (list_of_names ns) (whole s)) p.is ∙ groups-whole p.h p.gs (list_of_names ns) s;
  grouped = λ over gs. p.grouped (another ns s over) (l, g, gs);
  spelled = λ over rest. p.spelled (another ns s over) rest ∙ ap p.words (append_assoc (spell_names ns) (word_kind.Key token_kind.In ∷ (spell s ++ word_kind.Key token_kind.Comma ∷ spell_index over)) rest ∙ ap (λ z. spell_names ns ++ word_kind.Key token_kind.In ∷ z) (append_assoc (spell s) (word_kind.Key token_kind.Comma ∷ spell_index over) rest));
  high = λ over. p.high (another ns s over) ∙ (let e : max p.h (max (height s + 1) (height_index over)) ≡ max (max p.h (height s + 1)) (height_index over) = omega arith in e);
  made = λ over. p.made (another ns s over) ∙ sym (append_assoc p.gs (group_of (list_of_names ns) s ∷ []) (groups_of over));
  condition = λ over. p.condition (another ns s over);
}

-- the last set of an index, with what was read before it
pub record LastSet (groups : Groups) : Type 0 where
  pub earlier : Groups
  pub sets : SetsBefore earlier
  pub names : Names
  pub syntax : Syntax
  pub tight : level syntax ≤ 5
  pub grouped : IsGrouped syntax
  pub is : groups ≡ groups_at (max sets.h (height syntax + 1)) (sets.gs ++ group_of (list_of_names names) syntax ∷ [])

-- a whole index
pub record SpelledIndex (ready : WholeIndex) : Type 0 where
  pub over : IndexSyntax
  pub grouped : IsGroupedIndex over
  pub is : ready ≡ index_at (height_index over) (index_of over)

-- expressions between brackets
pub record WholeParts (parts : Parts) : Type 0 where
  pub written : SyntaxList
  pub grouped : AreGrouped written
  pub is : parts ≡ parts_at (heights written) (trees written)

-- ---- the open frames

-- the words that begin expressions with commas between them
abbrev pub begin_list : ListKind → List Word → List Word
begin_list (list_kind.Call n) ws = word_kind.Name n ∷ word_kind.Key token_kind.OpenRound ∷ ws
begin_list list_kind.Set ws = word_kind.Key token_kind.OpenCurly ∷ ws
begin_list list_kind.List ws = word_kind.Key token_kind.OpenSquare ∷ ws
begin_list list_kind.Bare ws = ws

-- the words that begin an index
abbrev pub begin_index : IndexKind → List Word → List Word
begin_index (index_kind.Aggregate op) ws = spell_aggregate op ∷ word_kind.Key token_kind.OpenRound ∷ ws
begin_index index_kind.Count ws = word_kind.Key token_kind.Count ∷ word_kind.Key token_kind.OpenRound ∷ ws
begin_index index_kind.Loop ws = ws

-- all words are what the frames have read, and then these
abbrev pub Holds : List Frame → List Word → List Word → Type 0
Holds [] rest all = all ≡ rest
Holds (frame_kind.Bracket ∷ fs) rest all = Holds fs (word_kind.Key token_kind.OpenRound ∷ rest) all
Holds (frame_kind.InList list parts ∷ fs) rest all = (p : PartsBefore parts) × Holds fs (begin_list list (p.words rest)) all
Holds (frame_kind.IfExpr ∷ fs) rest all = Holds fs (word_kind.Key token_kind.If ∷ word_kind.Key token_kind.OpenRound ∷ rest) all
Holds (frame_kind.IfFirst a ∷ fs) rest all = (x : Whole a) × Holds fs (word_kind.Key token_kind.If ∷ word_kind.Key token_kind.OpenRound ∷ (spell x.syntax ++ word_kind.Key token_kind.Comma ∷ rest)) all
Holds (frame_kind.IfSecond a b ∷ fs) rest all = (x : Whole a) × (y : Whole b) × Holds fs (word_kind.Key token_kind.If ∷ word_kind.Key token_kind.OpenRound ∷ (spell x.syntax ++ word_kind.Key token_kind.Comma ∷ (spell y.syntax ++ word_kind.Key token_kind.Comma ∷ rest))) all
Holds (frame_kind.Convert to ∷ fs) rest all = Holds fs (spell_conversion to ∷ word_kind.Key token_kind.OpenRound ∷ rest) all
Holds (frame_kind.Before op ∷ fs) rest all = Holds fs (spell_before op ∷ rest) all
Holds (frame_kind.Between op a ∷ fs) rest all = (x : Whole a) × (level x.syntax ≤ left_of op) × (takes x.syntax op ≡ false) × Holds fs (spell x.syntax ++ (spell_between op ++ rest)) all
Holds (frame_kind.IndexSet kind groups names ∷ fs) rest all = (sets : SetsBefore groups) × (ns : Names) × (names ≡ list_of_names ns) × Holds fs (begin_index kind (sets.words (spell_names ns ++ word_kind.Key token_kind.In ∷ rest))) all
Holds (frame_kind.IndexCondition kind groups ∷ fs) rest all = (last : LastSet groups) × Holds fs (begin_index kind (last.sets.words (spell_names last.names ++ word_kind.Key token_kind.In ∷ (spell last.syntax ++ word_kind.Key token_kind.Bar ∷ rest)))) all
Holds (frame_kind.Body op ready ∷ fs) rest all = (x : SpelledIndex ready) × Holds fs (spell_aggregate op ∷ word_kind.Key token_kind.OpenRound ∷ (spell_index x.over ++ word_kind.Key token_kind.CloseRound ∷ rest)) all

-- a bracket that was just opened
abbrev pub HoldsFirst : List Frame → List Word → List Word → Type 0
HoldsFirst (frame_kind.InList list parts ∷ fs) rest all = (parts ≡ operands.no_parts) × Holds fs (begin_list list rest) all
HoldsFirst _ rest all = ⊥

-- the words that are left, and before them what the frames and the mode have read
abbrev pub Stands : Mode → List Frame → List Word → List Word → Type 0
Stands mode_kind.Want fs rest all = Holds fs rest all
Stands mode_kind.WantFirst fs rest all = HoldsFirst fs rest all
Stands mode_kind.WantOpen fs rest all = (after : List Word) → rest ≡ word_kind.Key token_kind.OpenRound ∷ after → Holds fs after all
Stands (mode_kind.WantIndex kind) fs rest all = (after : List Word) → rest ≡ word_kind.Key token_kind.OpenRound ∷ after → Holds fs (begin_index kind after) all
Stands (mode_kind.Named n) fs rest all = Holds fs (word_kind.Name n ∷ rest) all
Stands (mode_kind.Called n parts) fs rest all = (p : WholeParts parts) × Holds fs (word_kind.Name n ∷ word_kind.Key token_kind.OpenRound ∷ (spell_list p.written ++ word_kind.Key token_kind.CloseRound ∷ rest)) all
Stands (mode_kind.Dotted n) fs rest all = Holds fs (word_kind.Name n ∷ word_kind.Key token_kind.Dot ∷ rest) all
Stands (mode_kind.DottedCall n parts) fs rest all = (p : WholeParts parts) × Holds fs (word_kind.Name n ∷ word_kind.Key token_kind.OpenRound ∷ (spell_list p.written ++ word_kind.Key token_kind.CloseRound ∷ word_kind.Key token_kind.Dot ∷ rest)) all
Stands (mode_kind.After x) fs rest all = (a : Whole x) × ((op : BinaryOperator) → takes a.syntax op ≡ false) × Holds fs (spell a.syntax ++ rest) all
Stands mode_kind.WantIn fs rest all = (after : List Word) → rest ≡ word_kind.Key token_kind.In ∷ after → Holds fs after all
Stands (mode_kind.WantName kind groups names) fs rest all = (sets : SetsBefore groups) × (ns : NamesBefore names) × Holds fs (begin_index kind (sets.words (ns.words rest))) all
Stands (mode_kind.AfterName kind groups names) fs rest all = (sets : SetsBefore groups) × (earlier : List (List ℕ)) × (ns : NamesBefore earlier) × (n : List ℕ) × (names ≡ earlier ++ n ∷ []) × Holds fs (begin_index kind (sets.words (ns.words (word_kind.Name n ∷ rest)))) all

-- the next state stands
abbrev pub Good : State → List Word → List Word → Type 0
Good None rest all = Unit {0}
Good (Some next) rest all = Stands next.0 next.1 rest all

-- an operand with what it has ended stands before these words
abbrev pub GoodOperand : FoldResult → List Word → List Word → Type 0
GoodOperand None rest all = Unit {0}
GoodOperand (Some y) rest all = (a : Whole y.0) × Holds y.1 (spell a.syntax ++ rest) all
