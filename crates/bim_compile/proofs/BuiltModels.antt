-- A model whose statements work has forms alone that the compiler takes apart.

use Rattle.mos_names.specs.NameLists.{Name}
use Rattle.std.specs.Prelude.{List}
use Rattle.mos_value.specs.Answers.{sum, difference, compare}
use Rattle.mos_meaning.specs.Syntax.{Own, Model, Scope, Expression, number, text, truth, variable, index, apply, range_of, sum_over, invoke, ask_hub, unbuilt, Shown, nothing_shown, shown_then, CoreStatement, assign, change, write, perform, tell_hub, if_, while_, do_, break_, next_, unbuilt_statement, Arms, else_, elif, Block, no_statement, statement_then}
use Rattle.mos_meaning.specs.Working.{IsVariable, IsNumeric, IsShown, IsCondition, AreShown, Works, ArmsWork, AllWork}
use Rattle.bim_compile.specs.Built.{IsModels, IsBuilt, AreBuilt, IsBuiltStatement, AreBuiltArms, IsBuiltBlock}

models-built : (names : List Name) (scope : Scope) (n : Name) → IsVariable names scope n → IsModels scope
models-built names Model n h = tt
models-built names Own n h = absurd h

numeric-built : (names : List Name) (e : Expression) → IsNumeric names e → IsBuilt e
numeric-built names (number n) h = tt
numeric-built names (variable scope n) h = models-built names scope n h
numeric-built names (apply operator a b) h = (numeric-built names a h.1, numeric-built names b h.2)
numeric-built names (text t) h = absurd h
numeric-built names (truth b) h = absurd h
numeric-built names (index n) h = absurd h
numeric-built names (range_of a b) h = absurd h
numeric-built names (sum_over i set condition body) h = absurd h
numeric-built names (invoke routine all) h = absurd h
numeric-built names (ask_hub function all) h = absurd h
numeric-built names unbuilt h = absurd h

condition-built : (names : List Name) (e : Expression) → IsCondition names e → IsBuilt e
condition-built names (truth b) h = tt
condition-built names (apply (compare how) a b) h = (numeric-built names a h.0, numeric-built names b h.1)
condition-built names (apply sum a b) h = absurd h
condition-built names (apply difference a b) h = absurd h
condition-built names (number n) h = absurd h
condition-built names (text t) h = absurd h
condition-built names (variable scope n) h = absurd h
condition-built names (index n) h = absurd h
condition-built names (range_of a b) h = absurd h
condition-built names (sum_over i set condition body) h = absurd h
condition-built names (invoke routine all) h = absurd h
condition-built names (ask_hub function all) h = absurd h
condition-built names unbuilt h = absurd h

shown-built : (names : List Name) (e : Expression) → IsShown names e → IsBuilt e
shown-built names (text t) h = tt
shown-built names (number n) h = tt
shown-built names (variable scope n) h = models-built names scope n h
shown-built names (apply operator a b) h = numeric-built names (apply operator a b) h
shown-built names (truth b) h = absurd h
shown-built names (index n) h = absurd h
shown-built names (range_of a b) h = absurd h
shown-built names (sum_over i set condition body) h = absurd h
shown-built names (invoke routine all) h = absurd h
shown-built names (ask_hub function all) h = absurd h
shown-built names unbuilt h = absurd h

all-built : (names : List Name) (all : Shown) → AreShown names all → AreBuilt all
all-built names nothing_shown h = tt
all-built names (shown_then e es) h = (shown-built names e h.0, all-built names es h.1)

mutual
  statement-built : (names : List Name) (e : CoreStatement) → Works names e → IsBuiltStatement e
  statement-built names (assign line scope n e) h = (models-built names scope n h.0, numeric-built names e h.1)
  statement-built names (change line operator scope n e) h = (models-built names scope n h.1, numeric-built names e h.2)
  statement-built names (write line newline all) h = all-built names all h
  statement-built names (perform line routine all) h = absurd h
  statement-built names (tell_hub line function all) h = absurd h
  statement-built names (if_ line all) h = arms-built names all h
  statement-built names (while_ line e body) h = (condition-built names e h.0, statement-built names body h.1)
  statement-built names (do_ all) h = block-built names all h
  statement-built names (break_ line) h = tt
  statement-built names (next_ line) h = tt
  statement-built names unbuilt_statement h = absurd h

  arms-built : (names : List Name) (all : Arms) → ArmsWork names all → AreBuiltArms all
  arms-built names (else_ all) h = block-built names all h
  arms-built names (elif line e all rest) h = (condition-built names e h.0, block-built names all h.1, arms-built names rest h.2)

  pub block-built : (names : List Name) (all : Block) → AllWork names all → IsBuiltBlock all
  block-built names no_statement h = tt
  block-built names (statement_then e rest) h = (statement-built names e h.0, block-built names rest h.1)
