-- A tree has no more nodes than its words are many.

use Rattle.std.proofs.Common.{◌≡◌, ℕ, ◌+◌, ◌≤◌, true, false, List, [], ◌∷◌, ◌++◌, length, refl, ap, arith, length-append}
use Rattle.std.specs.Prelude.{option_map}
use Rattle.mos_tree.specs.declared.expr.BinaryOperator.{BinaryOperator}
use Rattle.mos_tree.specs.declared.expr.BinaryOperator.TheVariants as binary_operator
use Rattle.mos_tree.specs.Nodes.{nodes, nodes_in, nodes_in_groups, nodes_in_index, nodes_of_condition}
use Rattle.mos_scan.specs.declared.token.TokenKind.{TokenKind}
use Rattle.mos_scan.specs.declared.token.TokenKind.TheVariants as token_kind
use Rattle.mos_scan.specs.declared.grammar_word.Word.{Word}
use Rattle.mos_scan.specs.declared.grammar_word.Word.TheVariants as word_kind
use Rattle.mos_tree.specs.declared.expr.Expr.TheVariants as expr_kind
use Rattle.mos_tree.specs.declared.expr.Expr.TheOpen as open_expr
use Rattle.mos_expr.proofs.Nodes as form
use Rattle.mos_expr.specs.Grammar.{Leaf, number, text, truth, name, returned, field, Names, Syntax, leaf, call, call_field, set, list, bracket, if_expr, convert, before, between, aggregate, counted, SyntaxList, no_syntax, syntax_then, IndexSyntax, last_set, such_that, another, spell_leaf, spell_between, spell_names, spell, spell_list, spell_rest, spell_index, tree_of_leaf, list_of_names, tree, trees, index_of, groups_of, condition_of}
use Rattle.mos_expr.specs.Sizes.{ExpressionIsSmall, ExpressionsAreSmall, IndexIsSmall}

-- a number below another, from what both are
within : (a c d e : ℕ) → a ≡ c → d ≡ e → c ≤ e → a ≤ d
within a c d e p q h = omega (arith, p, q, h)

-- words behind one another
joined : (xs ys : List Word) (a b : ℕ) → a ≤ length xs → b ≤ length ys → a + b ≤ length (xs ++ ys)
joined xs ys a b h k = omega (arith, length-append xs ys, h, k)

-- words with one more behind them
closed : (xs : List Word) (k : TokenKind) (a : ℕ) → a ≤ length xs → a + 1 ≤ length (xs ++ word_kind.Key k ∷ [])
closed xs k a h = joined xs (word_kind.Key k ∷ []) a 1 h (omega arith)

leaf_small : (x : Leaf) → nodes (tree_of_leaf x) ≤ length (spell_leaf x)
leaf_small (number n) = within (nodes (tree_of_leaf (number n))) 1 1 1 (form.layer (open_expr.Integer n) (expr_kind.rolls-Integer n)) refl (omega arith)
leaf_small (text x) = within (nodes (tree_of_leaf (text x))) 1 1 1 (form.layer (open_expr.Text x) (expr_kind.rolls-Text x)) refl (omega arith)
leaf_small (truth true) = within (nodes (tree_of_leaf (truth true))) 1 1 1 (form.layer (open_expr.Truth true) (expr_kind.rolls-Truth true)) refl (omega arith)
leaf_small (truth false) = within (nodes (tree_of_leaf (truth false))) 1 1 1 (form.layer (open_expr.Truth false) (expr_kind.rolls-Truth false)) refl (omega arith)
leaf_small (name n) = within (nodes (tree_of_leaf (name n))) 1 1 1 (form.layer (open_expr.Name n) (expr_kind.rolls-Name n)) refl (omega arith)
leaf_small returned = within (nodes (tree_of_leaf returned)) 1 1 1 (form.layer open_expr.Returned expr_kind.rolls-Returned) refl (omega arith)
leaf_small (field n f) = within (nodes (tree_of_leaf (field n f))) 1 3 3 (form.layer (open_expr.Field n f) (expr_kind.rolls-Field n f)) refl (omega arith)

-- an operator is one word, or two
operator_word : (p : BinaryOperator) → 1 ≤ length (spell_between p)
operator_word binary_operator.Or = omega arith
operator_word p = omega arith

-- a set with the names before it
named_set : (a : ℕ) (ns : Names) (xs : List Word) → a ≤ length xs → a + 1 ≤ length (spell_names ns ++ word_kind.Key token_kind.In ∷ xs)
named_set a ns xs h = let l : 0 + (a + 1) ≤ length (spell_names ns ++ word_kind.Key token_kind.In ∷ xs) = joined (spell_names ns) (word_kind.Key token_kind.In ∷ xs) 0 (a + 1) (omega arith) (omega (arith, h)) in omega (arith, l)

mutual
  small : (s : Syntax) → nodes (tree s) ≤ length (spell s)
  small (leaf x) = leaf_small x
  small (call n xs) =
      let h : nodes_in (trees xs) + 1 ≤ length (spell_list xs ++ word_kind.Key token_kind.CloseRound ∷ []) = closed (spell_list xs) token_kind.CloseRound (nodes_in (trees xs)) (smalls xs) in
      within (nodes (tree (call n xs))) (nodes_in (trees xs) + 1) (length (spell (call n xs))) (length (spell_list xs ++ word_kind.Key token_kind.CloseRound ∷ []) + 2) (form.layer (open_expr.Call n (trees xs)) (expr_kind.rolls-Call n (trees xs))) (omega arith) (omega (arith, h))
  small (call_field n xs f) =
      let h : nodes_in (trees xs) + 3 ≤ length (spell_list xs ++ word_kind.Key token_kind.CloseRound ∷ word_kind.Key token_kind.Dot ∷ word_kind.Name f ∷ []) = joined (spell_list xs) (word_kind.Key token_kind.CloseRound ∷ word_kind.Key token_kind.Dot ∷ word_kind.Name f ∷ []) (nodes_in (trees xs)) 3 (smalls xs) (omega arith) in
      within (nodes (tree (call_field n xs f))) (nodes_in (trees xs) + 1) (length (spell (call_field n xs f))) (length (spell_list xs ++ word_kind.Key token_kind.CloseRound ∷ word_kind.Key token_kind.Dot ∷ word_kind.Name f ∷ []) + 2) (form.layer (open_expr.CallField n (trees xs) f) (expr_kind.rolls-CallField n (trees xs) f)) (omega arith) (omega (arith, h))
  small (set xs) =
      let h : nodes_in (trees xs) + 1 ≤ length (spell_list xs ++ word_kind.Key token_kind.CloseCurly ∷ []) = closed (spell_list xs) token_kind.CloseCurly (nodes_in (trees xs)) (smalls xs) in
      within (nodes (tree (set xs))) (nodes_in (trees xs) + 1) (length (spell (set xs))) (length (spell_list xs ++ word_kind.Key token_kind.CloseCurly ∷ []) + 1) (form.layer (open_expr.Set (trees xs)) (expr_kind.rolls-Set (trees xs))) (omega arith) (omega (arith, h))
  small (list xs) =
      let h : nodes_in (trees xs) + 1 ≤ length (spell_list xs ++ word_kind.Key token_kind.CloseSquare ∷ []) = closed (spell_list xs) token_kind.CloseSquare (nodes_in (trees xs)) (smalls xs) in
      within (nodes (tree (list xs))) (nodes_in (trees xs) + 1) (length (spell (list xs))) (length (spell_list xs ++ word_kind.Key token_kind.CloseSquare ∷ []) + 1) (form.layer (open_expr.List (trees xs)) (expr_kind.rolls-List (trees xs))) (omega arith) (omega (arith, h))
  small (bracket s) =
      let h : nodes (tree s) + 1 ≤ length (spell s ++ word_kind.Key token_kind.CloseRound ∷ []) = closed (spell s) token_kind.CloseRound (nodes (tree s)) (small s) in
      within (nodes (tree (bracket s))) (nodes (tree s)) (length (spell (bracket s))) (length (spell s ++ word_kind.Key token_kind.CloseRound ∷ []) + 1) refl (omega arith) (omega (arith, h))
  small (if_expr x y z) =
      let hz : nodes (tree z) + 1 ≤ length (spell z ++ word_kind.Key token_kind.CloseRound ∷ []) = closed (spell z) token_kind.CloseRound (nodes (tree z)) (small z) in
      let hy : nodes (tree y) + (nodes (tree z) + 2) ≤ length (spell y ++ word_kind.Key token_kind.Comma ∷ (spell z ++ word_kind.Key token_kind.CloseRound ∷ [])) = joined (spell y) (word_kind.Key token_kind.Comma ∷ (spell z ++ word_kind.Key token_kind.CloseRound ∷ [])) (nodes (tree y)) (nodes (tree z) + 2) (small y) (omega (arith, hz)) in
      let hx : nodes (tree x) + (nodes (tree y) + (nodes (tree z) + 3)) ≤ length (spell x ++ word_kind.Key token_kind.Comma ∷ (spell y ++ word_kind.Key token_kind.Comma ∷ (spell z ++ word_kind.Key token_kind.CloseRound ∷ []))) = joined (spell x) (word_kind.Key token_kind.Comma ∷ (spell y ++ word_kind.Key token_kind.Comma ∷ (spell z ++ word_kind.Key token_kind.CloseRound ∷ []))) (nodes (tree x)) (nodes (tree y) + (nodes (tree z) + 3)) (small x) (omega (arith, hy)) in
      within (nodes (tree (if_expr x y z))) (nodes (tree x) + nodes (tree y) + nodes (tree z) + 1) (length (spell (if_expr x y z))) (length (spell x ++ word_kind.Key token_kind.Comma ∷ (spell y ++ word_kind.Key token_kind.Comma ∷ (spell z ++ word_kind.Key token_kind.CloseRound ∷ []))) + 2) (form.layer (open_expr.If (tree x) (tree y) (tree z)) (expr_kind.rolls-If (tree x) (tree y) (tree z))) (omega arith) (omega (arith, hx))
  small (convert c s) =
      let h : nodes (tree s) + 1 ≤ length (spell s ++ word_kind.Key token_kind.CloseRound ∷ []) = closed (spell s) token_kind.CloseRound (nodes (tree s)) (small s) in
      within (nodes (tree (convert c s))) (nodes (tree s) + 1) (length (spell (convert c s))) (length (spell s ++ word_kind.Key token_kind.CloseRound ∷ []) + 2) (form.layer (open_expr.Convert c (tree s)) (expr_kind.rolls-Convert c (tree s))) (omega arith) (omega (arith, h))
  small (before p s) =
      within (nodes (tree (before p s))) (nodes (tree s) + 1) (length (spell (before p s))) (length (spell s) + 1) (form.layer (open_expr.Unary p (tree s)) (expr_kind.rolls-Unary p (tree s))) (omega arith) (omega (arith, small s))
  small (between p x y) =
      let hy : 1 + nodes (tree y) ≤ length (spell_between p ++ spell y) = joined (spell_between p) (spell y) 1 (nodes (tree y)) (operator_word p) (small y) in
      let hx : nodes (tree x) + (1 + nodes (tree y)) ≤ length (spell x ++ (spell_between p ++ spell y)) = joined (spell x) (spell_between p ++ spell y) (nodes (tree x)) (1 + nodes (tree y)) (small x) hy in
      within (nodes (tree (between p x y))) (nodes (tree x) + nodes (tree y) + 1) (length (spell (between p x y))) (length (spell x ++ (spell_between p ++ spell y))) (form.layer (open_expr.Binary p (tree x) (tree y)) (expr_kind.rolls-Binary p (tree x) (tree y))) refl (omega (arith, hx))
  small (aggregate p i s) =
      let h : nodes_in_index (index_of i) + (nodes (tree s) + 1) ≤ length (spell_index i ++ word_kind.Key token_kind.CloseRound ∷ spell s) = joined (spell_index i) (word_kind.Key token_kind.CloseRound ∷ spell s) (nodes_in_index (index_of i)) (nodes (tree s) + 1) (small_over i) (omega (arith, small s)) in
      within (nodes (tree (aggregate p i s))) (nodes_in_index (index_of i) + nodes (tree s) + 1) (length (spell (aggregate p i s))) (length (spell_index i ++ word_kind.Key token_kind.CloseRound ∷ spell s) + 2) (form.nodes_of_aggregate p (index_of i) (tree s)) (omega arith) (omega (arith, h))
  small (counted i) =
      let h : nodes_in_index (index_of i) + 1 ≤ length (spell_index i ++ word_kind.Key token_kind.CloseRound ∷ []) = closed (spell_index i) token_kind.CloseRound (nodes_in_index (index_of i)) (small_over i) in
      within (nodes (tree (counted i))) (nodes_in_index (index_of i) + 1) (length (spell (counted i))) (length (spell_index i ++ word_kind.Key token_kind.CloseRound ∷ []) + 2) (form.nodes_of_counted (index_of i)) (omega arith) (omega (arith, h))

  -- expressions with commas between them
  smalls : (ss : SyntaxList) → nodes_in (trees ss) ≤ length (spell_list ss)
  smalls no_syntax = omega arith
  smalls (syntax_then s ss) =
      within (nodes_in (trees (syntax_then s ss))) (nodes (tree s) + nodes_in (trees ss)) (length (spell s ++ spell_rest ss)) (length (spell s ++ spell_rest ss)) (form.nodes_in_more (tree s) (trees ss)) refl
      (joined (spell s) (spell_rest ss) (nodes (tree s)) (nodes_in (trees ss)) (small s) (small_rest ss))

  small_rest : (ss : SyntaxList) → nodes_in (trees ss) ≤ length (spell_rest ss)
  small_rest no_syntax = omega arith
  small_rest (syntax_then s ss) =
      let h : nodes (tree s) + nodes_in (trees ss) ≤ length (spell s ++ spell_rest ss) = joined (spell s) (spell_rest ss) (nodes (tree s)) (nodes_in (trees ss)) (small s) (small_rest ss) in
      within (nodes_in (trees (syntax_then s ss))) (nodes (tree s) + nodes_in (trees ss)) (length (spell_rest (syntax_then s ss))) (length (spell s ++ spell_rest ss) + 1) (form.nodes_in_more (tree s) (trees ss)) (omega arith) (omega (arith, h))

  -- names with their sets
  small_over : (i : IndexSyntax) → nodes_in_index (index_of i) ≤ length (spell_index i)
  small_over (last_set ns s) =
      let g : nodes_in_groups (groups_of (last_set ns s)) ≡ (nodes (tree s) + 1) + 0 = form.nodes_in_more_groups (record { names = list_of_names ns; set = tree s }) [] in
      let h : nodes (tree s) + 1 ≤ length (spell_index (last_set ns s)) = named_set (nodes (tree s)) ns (spell s) (small s) in
      within (nodes_in_index (index_of (last_set ns s))) (nodes_in_groups (groups_of (last_set ns s)) + 0) (length (spell_index (last_set ns s))) (length (spell_index (last_set ns s))) refl refl (omega (arith, g, h))
  small_over (such_that ns s c) =
      let g : nodes_in_groups (groups_of (such_that ns s c)) ≡ (nodes (tree s) + 1) + 0 = form.nodes_in_more_groups (record { names = list_of_names ns; set = tree s }) [] in
      let k : nodes (tree s) + (nodes (tree c) + 1) ≤ length (spell s ++ word_kind.Key token_kind.Bar ∷ spell c) = joined (spell s) (word_kind.Key token_kind.Bar ∷ spell c) (nodes (tree s)) (nodes (tree c) + 1) (small s) (omega (arith, small c)) in
      let h : (nodes (tree s) + (nodes (tree c) + 1)) + 1 ≤ length (spell_index (such_that ns s c)) = named_set (nodes (tree s) + (nodes (tree c) + 1)) ns (spell s ++ word_kind.Key token_kind.Bar ∷ spell c) k in
      within (nodes_in_index (index_of (such_that ns s c))) (nodes_in_groups (groups_of (such_that ns s c)) + nodes (tree c)) (length (spell_index (such_that ns s c))) (length (spell_index (such_that ns s c))) refl refl (omega (arith, g, h))
  small_over (another ns s i) =
      let g : nodes_in_groups (groups_of (another ns s i)) ≡ (nodes (tree s) + 1) + nodes_in_groups (groups_of i) = form.nodes_in_more_groups (record { names = list_of_names ns; set = tree s }) (groups_of i) in
      let r : nodes_in_groups (groups_of i) + nodes_of_condition (option_map nodes (condition_of i)) ≤ length (spell_index i) = small_over i in
      let k : nodes (tree s) + (nodes_in_groups (groups_of i) + nodes_of_condition (option_map nodes (condition_of i)) + 1) ≤ length (spell s ++ word_kind.Key token_kind.Comma ∷ spell_index i) = joined (spell s) (word_kind.Key token_kind.Comma ∷ spell_index i) (nodes (tree s)) (nodes_in_groups (groups_of i) + nodes_of_condition (option_map nodes (condition_of i)) + 1) (small s) (omega (arith, r)) in
      let h : (nodes (tree s) + (nodes_in_groups (groups_of i) + nodes_of_condition (option_map nodes (condition_of i)) + 1)) + 1 ≤ length (spell_index (another ns s i)) = named_set (nodes (tree s) + (nodes_in_groups (groups_of i) + nodes_of_condition (option_map nodes (condition_of i)) + 1)) ns (spell s ++ word_kind.Key token_kind.Comma ∷ spell_index i) k in
      within (nodes_in_index (index_of (another ns s i))) (nodes_in_groups (groups_of (another ns s i)) + nodes_of_condition (option_map nodes (condition_of i))) (length (spell_index (another ns s i))) (length (spell_index (another ns s i))) refl refl (omega (arith, g, h))

pub expression_is_small : ExpressionIsSmall
expression_is_small words made high k = within (nodes made) (nodes (tree k.written)) (length words) (length (spell k.written)) (ap nodes k.is) (ap length k.exact) (small k.written)

pub expressions_are_small : ExpressionsAreSmall
expressions_are_small words made high k = within (nodes_in made) (nodes_in (trees k.written)) (length words) (length (spell_list k.written)) (ap nodes_in k.is) (ap length k.exact) (smalls k.written)

pub index_is_small : IndexIsSmall
index_is_small words made high k = within (nodes_in_index made) (nodes_in_index (index_of k.written)) (length words) (length (spell_index k.written)) (ap nodes_in_index k.is) (ap length k.exact) (small_over k.written)
