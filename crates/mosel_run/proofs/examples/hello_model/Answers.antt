-- by computing
use Rattle.std.proofs.Common.{true, refl, ◌∙◌, ap}
use Rattle.std.specs.Prelude.{codes}
use Rattle.bim_code.specs.Bytes.{u16_bytes, u32_bytes}
use Rattle.bim_code.specs.Code.{code_bytes}
use Rattle.bim_code.specs.Tables.{constant_bytes, heading_bytes, image_bytes}
use Rattle.mos_tree.specs.declared.expr.Expr.TheVariants as expr
use Rattle.mos_meaning.specs.Syntax.{CoreStatement, Expression, statement_then, no_statement, write, shown_then, nothing_shown}
use Rattle.mosel_run.proofs.Layers.{effect_of_writeln, expression_of_text}
use Rattle.mosel_run.proofs.examples.hello_model.Goals as goal

pub returns-clause-statements : goal.returns-clause-statements
returns-clause-statements c =
    ap (λ (e : CoreStatement). statement_then e no_statement) (effect_of_writeln 2 (expr.Text (codes "hello")))
    ∙ ap (λ (e : Expression). statement_then (write 2 true (shown_then e nothing_shown)) no_statement) (expression_of_text (codes "hello"))

pub returns-clause-bytes : goal.returns-clause-bytes
unfolding image_bytes heading_bytes constant_bytes code_bytes u16_bytes u32_bytes
returns-clause-bytes c = refl
