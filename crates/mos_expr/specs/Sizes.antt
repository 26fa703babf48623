-- A tree has no more nodes than its words are many.

use Rattle.std.specs.Prelude.{ℕ, ◌≤◌, List, length}
use Rattle.mos_tree.specs.declared.expr.Expr.{Expr}
use Rattle.mos_tree.specs.declared.expr.Index.{Index}
use Rattle.mos_tree.specs.Nodes.{nodes, nodes_in, nodes_in_index}
use Rattle.mos_scan.specs.declared.grammar_word.Word.{Word}
use Rattle.mos_expr.specs.Said.{IsExpression, AreExpressions, IsIndex}

-- an expression
abbrev pub ExpressionIsSmall : Type 0
ExpressionIsSmall = (words : List Word) (made : Expr) (high : ℕ) → IsExpression words made high → nodes made ≤ length words

-- expressions with commas between them
abbrev pub ExpressionsAreSmall : Type 0
ExpressionsAreSmall = (words : List Word) (made : List Expr) (high : ℕ) → AreExpressions words made high → nodes_in made ≤ length words

-- names with their sets, perhaps with a condition
abbrev pub IndexIsSmall : Type 0
IndexIsSmall = (words : List Word) (made : Index Expr) (high : ℕ) → IsIndex words made high → nodes_in_index made ≤ length words
