-- What a tree means, layer by layer.

use Rattle.std.proofs.Common.{◌≡◌, ℕ, true, List, [], ◌∷◌, sym, ap, ◌∙◌, map, codes}
use Rattle.mos_tree.specs.declared.expr.Expr.{Expr}
use Rattle.mos_tree.specs.declared.expr.Expr.TheVariants as expr
use Rattle.mos_tree.specs.declared.expr.Expr.TheOpen as open_expr
use Rattle.mos_tree.specs.declared.expr.Expr.TheFolds.{fold-roll-Expr}
use Rattle.mos_tree.specs.declared.statement.Statement.TheVariants as statement
use Rattle.mos_tree.specs.declared.statement.Statement.TheOpen as open_statement
use Rattle.mos_tree.specs.declared.statement.Statement.TheFolds.{fold-roll-Statement}
use Rattle.mos_meaning.specs.Syntax.{Expression, text, nothing_shown, shown_then, CoreStatement, write}
use Rattle.mos_meaning.specs.Sources.{expression, expression_step, shown_of, procedure, core_of, core_step}

pub expression_of_text : (t : List ℕ) → expression (expr.Text t) ≡ text t
expression_of_text t = ap expression (sym (expr.rolls-Text t)) ∙ fold-roll-Expr Expression expression_step (open_expr.Text t)

effect_of_call : (line : ℕ) (called : List ℕ) (all : List Expr) → core_of (statement.Call line called all) ≡ procedure line called (shown_of (map expression all))
effect_of_call line called all = ap core_of (sym (statement.rolls-Call line called all)) ∙ fold-roll-Statement CoreStatement core_step (open_statement.Call line called all)

pub effect_of_writeln : (line : ℕ) (value : Expr) → core_of (statement.Call line (codes "writeln") (value ∷ [])) ≡ write line true (shown_then (expression value) nothing_shown)
effect_of_writeln line value = effect_of_call line (codes "writeln") (value ∷ [])
