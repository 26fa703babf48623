-- Expressions as they are written: which ones there are, how they are grouped, how they are spelled, how high they are,
-- and what tree each one has.

use Rattle.std.specs.Prelude.{◌≡◌, ℕ, ℤ, ◌+◌, ◌-◌, ◌≤◌, max, Bool, true, false, ◌&&◌, ◌||◌, if◌then◌else◌, ◌==◌, nat_le, List, [], ◌∷◌, ◌++◌, Option, Some, None}
use Rattle.mos_tree.specs.declared.expr.Expr.{Expr}
use Rattle.mos_tree.specs.declared.expr.Expr.TheVariants as expr_kind
use Rattle.mos_tree.specs.declared.expr.Group.{Group}
use Rattle.mos_tree.specs.declared.expr.Index.{Index}
use Rattle.mos_tree.specs.declared.expr.UnaryOperator.{UnaryOperator}
use Rattle.mos_tree.specs.declared.expr.UnaryOperator.TheVariants as unary_operator
use Rattle.mos_tree.specs.declared.expr.BinaryOperator.{BinaryOperator}
use Rattle.mos_tree.specs.declared.expr.BinaryOperator.TheVariants as binary_operator
use Rattle.mos_tree.specs.declared.expr.AggregateOperator.{AggregateOperator}
use Rattle.mos_tree.specs.declared.expr.AggregateOperator.TheVariants as aggregate_operator
use Rattle.mos_tree.specs.declared.expr.Conversion.{Conversion}
use Rattle.mos_tree.specs.declared.expr.Conversion.TheVariants as conversion
use Rattle.mos_scan.specs.declared.token.TokenKind.{TokenKind}
use Rattle.mos_scan.specs.declared.token.TokenKind.TheVariants as token_kind
use Rattle.mos_scan.specs.declared.grammar_word.Word.{Word}
use Rattle.mos_scan.specs.declared.grammar_word.Word.TheVariants as word_kind

-- ---- what is written

-- an expression without parts
pub data Leaf : Type 0 where
  number : ℤ → Leaf
  text : List ℕ → Leaf
  truth : Bool → Leaf
  name : List ℕ → Leaf
  returned : Leaf
  field : List ℕ → List ℕ → Leaf

-- names that share a set
pub data Names : Type 0 where
  one_name : List ℕ → Names
  and_name : List ℕ → Names → Names

mutual
  -- an expression as it is written, with its brackets
  pub data Syntax : Type 0 where
    leaf : Leaf → Syntax
    call : List ℕ → SyntaxList → Syntax
    call_field : List ℕ → SyntaxList → List ℕ → Syntax
    set : SyntaxList → Syntax
    list : SyntaxList → Syntax
    bracket : Syntax → Syntax
    if_expr : Syntax → Syntax → Syntax → Syntax
    convert : Conversion → Syntax → Syntax
    before : UnaryOperator → Syntax → Syntax
    between : BinaryOperator → Syntax → Syntax → Syntax
    aggregate : AggregateOperator → IndexSyntax → Syntax → Syntax
    counted : IndexSyntax → Syntax

  -- expressions with commas between them
  pub data SyntaxList : Type 0 where
    no_syntax : SyntaxList
    syntax_then : Syntax → SyntaxList → SyntaxList

  -- an index: names with their sets, perhaps a condition
  pub data IndexSyntax : Type 0 where
    last_set : Names → Syntax → IndexSyntax
    such_that : Names → Syntax → Syntax → IndexSyntax
    another : Names → Syntax → IndexSyntax → IndexSyntax

-- ---- levels: the smaller binds tighter

-- the level of an operator; all others are relations
abbrev pub binds : BinaryOperator → ℕ
binds binary_operator.Times = 3
binds binary_operator.Div = 3
binds binary_operator.Mod = 3
binds binary_operator.Inter = 3
binds binary_operator.Plus = 4
binds binary_operator.Minus = 4
binds binary_operator.Union = 4
binds binary_operator.Range = 5
binds binary_operator.And = 8
binds binary_operator.Or = 9
binds _ = 6

-- the levels at which at most one operator stands: ranges and relations
abbrev pub is_single : ℕ → Bool
is_single n = n == 5 || n == 6

-- the loosest left operand: of its own level, since operators group to the left, or tighter where there is at most one
abbrev pub left_of : BinaryOperator → ℕ
left_of op = if is_single (binds op) then binds op - 1 else binds op

-- the loosest right operand
abbrev pub right_of : BinaryOperator → ℕ
right_of op = binds op - 1

-- the level of a prefix operator, and of the loosest operand that it takes
abbrev pub level_before : UnaryOperator → ℕ
level_before unary_operator.Minus = 2
level_before unary_operator.Plus = 2
level_before unary_operator.Not = 7

-- the loosest body of an aggregate
abbrev pub level_body : AggregateOperator → ℕ
level_body aggregate_operator.And = 6
level_body aggregate_operator.Or = 6
level_body _ = 3

-- the level of an expression; all that is not an operator with its operands binds tightest
abbrev pub level : Syntax → ℕ
level (before op s) = level_before op
level (between op s x) = binds op
level _ = 1

-- whether what stands at the right end would take the operator that comes next: an operand or a body takes all that it can
abbrev mutual
  pub takes : Syntax → BinaryOperator → Bool
  takes (before p s) op = (nat_le (binds op) (level_before p) && nat_le (level s) (left_of op)) || takes s op
  takes (between o a s) op = (nat_le (binds op) (right_of o) && nat_le (level s) (left_of op)) || takes s op
  takes (aggregate g i s) op = (nat_le (binds op) (level_body g) && nat_le (level s) (left_of op)) || takes s op
  takes _ op = false

-- each operand is tight enough, and none leaves an operator that it would take
abbrev mutual
  -- an expression
  pub IsGrouped : Syntax → Type 0
  IsGrouped (leaf x) = Unit {0}
  IsGrouped (call n xs) = AreGrouped xs
  IsGrouped (call_field n xs f) = AreGrouped xs
  IsGrouped (set xs) = AreGrouped xs
  IsGrouped (list xs) = AreGrouped xs
  IsGrouped (bracket s) = IsGrouped s
  IsGrouped (if_expr a b c) = IsGrouped a × IsGrouped b × IsGrouped c
  IsGrouped (convert c s) = IsGrouped s
  IsGrouped (before p s) = (level s ≤ level_before p) × IsGrouped s
  IsGrouped (between op a b) = (level a ≤ left_of op) × (level b ≤ right_of op) × IsGrouped a × IsGrouped b × (takes a op ≡ false)
  IsGrouped (aggregate g i s) = (level s ≤ level_body g) × IsGroupedIndex i × IsGrouped s
  IsGrouped (counted i) = IsGroupedIndex i

  -- expressions with commas between them
  pub AreGrouped : SyntaxList → Type 0
  AreGrouped no_syntax = Unit {0}
  AreGrouped (syntax_then s ss) = IsGrouped s × AreGrouped ss

  -- an index, whose sets are tighter than a relation
  pub IsGroupedIndex : IndexSyntax → Type 0
  IsGroupedIndex (last_set ns s) = (level s ≤ 5) × IsGrouped s
  IsGroupedIndex (such_that ns s c) = (level s ≤ 5) × IsGrouped s × IsGrouped c
  IsGroupedIndex (another ns s i) = (level s ≤ 5) × IsGrouped s × IsGroupedIndex i

-- ---- how it is spelled

-- one token
abbrev pub key : TokenKind → List Word
key k = word_kind.Key k ∷ []

-- the words of an expression without parts
abbrev pub spell_leaf : Leaf → List Word
spell_leaf (number n) = word_kind.Number n ∷ []
spell_leaf (text x) = word_kind.Text x ∷ []
spell_leaf (truth true) = key token_kind.True
spell_leaf (truth false) = key token_kind.False
spell_leaf (name n) = word_kind.Name n ∷ []
spell_leaf returned = key token_kind.Returned
spell_leaf (field n f) = word_kind.Name n ∷ word_kind.Key token_kind.Dot ∷ word_kind.Name f ∷ []

-- the word of a prefix operator
abbrev pub spell_before : UnaryOperator → Word
spell_before unary_operator.Minus = word_kind.Key token_kind.Minus
spell_before unary_operator.Plus = word_kind.Key token_kind.Plus
spell_before unary_operator.Not = word_kind.Key token_kind.Not

-- the words of an operator between two operands
abbrev pub spell_between : BinaryOperator → List Word
spell_between binary_operator.Times = key token_kind.Times
spell_between binary_operator.Div = key token_kind.Div
spell_between binary_operator.Mod = key token_kind.Mod
spell_between binary_operator.Inter = key token_kind.Inter
spell_between binary_operator.Plus = key token_kind.Plus
spell_between binary_operator.Minus = key token_kind.Minus
spell_between binary_operator.Union = key token_kind.Union
spell_between binary_operator.Range = key token_kind.DotDot
spell_between binary_operator.Equal = key token_kind.Equal
spell_between binary_operator.NotEqual = key token_kind.NotEqual
spell_between binary_operator.Less = key token_kind.Less
spell_between binary_operator.AtMost = key token_kind.AtMost
spell_between binary_operator.Greater = key token_kind.Greater
spell_between binary_operator.AtLeast = key token_kind.AtLeast
spell_between binary_operator.In = key token_kind.In
spell_between binary_operator.NotIn = word_kind.Key token_kind.Not ∷ word_kind.Key token_kind.In ∷ []
spell_between binary_operator.And = key token_kind.And
spell_between binary_operator.Or = key token_kind.Or

-- the word of an aggregate
abbrev pub spell_aggregate : AggregateOperator → Word
spell_aggregate aggregate_operator.Sum = word_kind.Key token_kind.Sum
spell_aggregate aggregate_operator.Prod = word_kind.Key token_kind.Prod
spell_aggregate aggregate_operator.Min = word_kind.Key token_kind.Min
spell_aggregate aggregate_operator.Max = word_kind.Key token_kind.Max
spell_aggregate aggregate_operator.Union = word_kind.Key token_kind.Union
spell_aggregate aggregate_operator.And = word_kind.Key token_kind.And
spell_aggregate aggregate_operator.Or = word_kind.Key token_kind.Or

-- the word of a conversion
abbrev pub spell_conversion : Conversion → Word
spell_conversion conversion.Integer = word_kind.Key token_kind.Integer
spell_conversion conversion.Text = word_kind.Key token_kind.StringWord

-- names with commas between them
abbrev pub spell_names : Names → List Word
spell_names (one_name n) = word_kind.Name n ∷ []
spell_names (and_name n ns) = word_kind.Name n ∷ word_kind.Key token_kind.Comma ∷ spell_names ns

abbrev mutual
  -- the words of an expression
  pub spell : Syntax → List Word
  spell (leaf x) = spell_leaf x
  spell (call n xs) = word_kind.Name n ∷ word_kind.Key token_kind.OpenRound ∷ (spell_list xs ++ key token_kind.CloseRound)
  spell (call_field n xs f) = word_kind.Name n ∷ word_kind.Key token_kind.OpenRound ∷ (spell_list xs ++ word_kind.Key token_kind.CloseRound ∷ word_kind.Key token_kind.Dot ∷ word_kind.Name f ∷ [])
  spell (set xs) = word_kind.Key token_kind.OpenCurly ∷ (spell_list xs ++ key token_kind.CloseCurly)
  spell (list xs) = word_kind.Key token_kind.OpenSquare ∷ (spell_list xs ++ key token_kind.CloseSquare)
  spell (bracket s) = word_kind.Key token_kind.OpenRound ∷ (spell s ++ key token_kind.CloseRound)
  spell (if_expr x y z) = word_kind.Key token_kind.If ∷ word_kind.Key token_kind.OpenRound ∷ (spell x ++ word_kind.Key token_kind.Comma ∷ (spell y ++ word_kind.Key token_kind.Comma ∷ (spell z ++ key token_kind.CloseRound)))
  spell (convert c s) = spell_conversion c ∷ word_kind.Key token_kind.OpenRound ∷ (spell s ++ key token_kind.CloseRound)
  spell (before p s) = spell_before p ∷ spell s
  spell (between op x y) = spell x ++ (spell_between op ++ spell y)
  spell (aggregate g i s) = spell_aggregate g ∷ word_kind.Key token_kind.OpenRound ∷ (spell_index i ++ word_kind.Key token_kind.CloseRound ∷ spell s)
  spell (counted i) = word_kind.Key token_kind.Count ∷ word_kind.Key token_kind.OpenRound ∷ (spell_index i ++ key token_kind.CloseRound)

  -- expressions with commas between them
  pub spell_list : SyntaxList → List Word
  spell_list no_syntax = []
  spell_list (syntax_then s ss) = spell s ++ spell_rest ss

  -- the other expressions
  pub spell_rest : SyntaxList → List Word
  spell_rest no_syntax = []
  spell_rest (syntax_then s ss) = word_kind.Key token_kind.Comma ∷ (spell s ++ spell_rest ss)

  -- names in a set, and what else an index has
  pub spell_index : IndexSyntax → List Word
  spell_index (last_set ns s) = spell_names ns ++ word_kind.Key token_kind.In ∷ spell s
  spell_index (such_that ns s c) = spell_names ns ++ word_kind.Key token_kind.In ∷ (spell s ++ word_kind.Key token_kind.Bar ∷ spell c)
  spell_index (another ns s i) = spell_names ns ++ word_kind.Key token_kind.In ∷ (spell s ++ word_kind.Key token_kind.Comma ∷ spell_index i)

-- the words spell this expression
pub record IsSpelled (words : List Word) (s : Syntax) : Type 0 where
  pub grouped : IsGrouped s
  pub exact : words ≡ spell s

-- the words spell these expressions, with commas between them
pub record AreSpelled (words : List Word) (ss : SyntaxList) : Type 0 where
  pub grouped : AreGrouped ss
  pub exact : words ≡ spell_list ss

-- the words spell this index
pub record IsIndexSpelled (words : List Word) (i : IndexSyntax) : Type 0 where
  pub grouped : IsGroupedIndex i
  pub exact : words ≡ spell_index i

-- ---- how high it is: a node is one more than its highest part, and so is a pair of brackets

abbrev mutual
  -- the height of an expression
  pub height : Syntax → ℕ
  height (leaf x) = 1
  height (call n xs) = heights xs + 1
  height (call_field n xs f) = heights xs + 1
  height (set xs) = heights xs + 1
  height (list xs) = heights xs + 1
  height (bracket s) = height s + 1
  height (if_expr x y z) = max (height x) (max (height y) (height z)) + 1
  height (convert c s) = height s + 1
  height (before p s) = height s + 1
  height (between op x y) = max (height x) (height y) + 1
  height (aggregate g i s) = max (height_index i) (height s) + 1
  height (counted i) = height_index i + 1

  -- the height of the highest of several
  pub heights : SyntaxList → ℕ
  heights no_syntax = 0
  heights (syntax_then s ss) = max (height s) (heights ss)

  -- names with their set are one node
  pub height_index : IndexSyntax → ℕ
  height_index (last_set ns s) = height s + 1
  height_index (such_that ns s c) = max (height s + 1) (height c)
  height_index (another ns s i) = max (height s + 1) (height_index i)

-- the greatest height of a tree
abbrev pub limit : ℕ
limit = 500

-- ---- its tree

-- the tree of an expression without parts
abbrev pub tree_of_leaf : Leaf → Expr
tree_of_leaf (number n) = expr_kind.Integer n
tree_of_leaf (text x) = expr_kind.Text x
tree_of_leaf (truth b) = expr_kind.Truth b
tree_of_leaf (name n) = expr_kind.Name n
tree_of_leaf returned = expr_kind.Returned
tree_of_leaf (field n f) = expr_kind.Field n f

-- the names, in order
abbrev pub list_of_names : Names → List (List ℕ)
list_of_names (one_name n) = n ∷ []
list_of_names (and_name n ns) = n ∷ list_of_names ns

abbrev mutual
  -- the tree of an expression: its brackets are gone
  pub tree : Syntax → Expr
  tree (leaf x) = tree_of_leaf x
  tree (call n xs) = expr_kind.Call n (trees xs)
  tree (call_field n xs f) = expr_kind.CallField n (trees xs) f
  tree (set xs) = expr_kind.Set (trees xs)
  tree (list xs) = expr_kind.List (trees xs)
  tree (bracket s) = tree s
  tree (if_expr x y z) = expr_kind.If (tree x) (tree y) (tree z)
  tree (convert c s) = expr_kind.Convert c (tree s)
  tree (before p s) = expr_kind.Unary p (tree s)
  tree (between op x y) = expr_kind.Binary op (tree x) (tree y)
  tree (aggregate g i s) = expr_kind.Aggregate g (record { groups = groups_of i; condition = condition_of i }) (tree s)
  tree (counted i) = expr_kind.Count (record { groups = groups_of i; condition = condition_of i })

  -- the trees of several, in order
  pub trees : SyntaxList → List Expr
  trees no_syntax = []
  trees (syntax_then s ss) = tree s ∷ trees ss

  -- the sets of an index, each with its names
  pub groups_of : IndexSyntax → List (Group Expr)
  groups_of (last_set ns s) = record { names = list_of_names ns; set = tree s } ∷ []
  groups_of (such_that ns s c) = record { names = list_of_names ns; set = tree s } ∷ []
  groups_of (another ns s i) = record { names = list_of_names ns; set = tree s } ∷ groups_of i

  -- the condition of an index, where it has one
  pub condition_of : IndexSyntax → Option Expr
  condition_of (last_set ns s) = None
  condition_of (such_that ns s c) = Some (tree c)
  condition_of (another ns s i) = condition_of i

-- the index as the tree has it
abbrev pub index_of : IndexSyntax → Index Expr
index_of i = record { groups = groups_of i; condition = condition_of i }
