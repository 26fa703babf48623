-- As the compiler goes about it: the forms that it takes apart.

use Rattle.mos_meaning.specs.Syntax.{Scope, Own, Model, Expression, number, text, truth, variable, index, apply, range_of, sum_over, invoke, ask_hub, unbuilt, Shown, nothing_shown, shown_then, CoreStatement, assign, change, write, perform, tell_hub, if_, while_, do_, break_, next_, unbuilt_statement, Arms, else_, elif, Block, no_statement, statement_then}

-- a variable of the model
abbrev pub IsModels : Scope → Type 0
IsModels Model = Unit {0}
IsModels Own = ⊥

-- an expression
abbrev pub IsBuilt : Expression → Type 0
IsBuilt (number n) = Unit {0}
IsBuilt (text t) = Unit {0}
IsBuilt (truth b) = Unit {0}
IsBuilt (variable scope n) = IsModels scope
IsBuilt (apply operator a b) = IsBuilt a × IsBuilt b
IsBuilt (index n) = ⊥
IsBuilt (range_of a b) = ⊥
IsBuilt (sum_over i set condition body) = ⊥
IsBuilt (invoke routine all) = ⊥
IsBuilt (ask_hub function all) = ⊥
IsBuilt unbuilt = ⊥

-- what is printed
abbrev pub AreBuilt : Shown → Type 0
AreBuilt nothing_shown = Unit {0}
AreBuilt (shown_then e es) = IsBuilt e × AreBuilt es

abbrev mutual
  -- a statement
  pub IsBuiltStatement : CoreStatement → Type 0
  IsBuiltStatement (assign line scope n e) = IsModels scope × IsBuilt e
  IsBuiltStatement (change line operator scope n e) = IsModels scope × IsBuilt e
  IsBuiltStatement (write line newline all) = AreBuilt all
  IsBuiltStatement (if_ line all) = AreBuiltArms all
  IsBuiltStatement (while_ line e body) = IsBuilt e × IsBuiltStatement body
  IsBuiltStatement (do_ all) = IsBuiltBlock all
  IsBuiltStatement (break_ line) = Unit {0}
  IsBuiltStatement (next_ line) = Unit {0}
  IsBuiltStatement (perform line routine all) = ⊥
  IsBuiltStatement (tell_hub line function all) = ⊥
  IsBuiltStatement unbuilt_statement = ⊥

  -- branches
  pub AreBuiltArms : Arms → Type 0
  AreBuiltArms (else_ all) = IsBuiltBlock all
  AreBuiltArms (elif line e all rest) = IsBuilt e × IsBuiltBlock all × AreBuiltArms rest

  -- the statements of a block
  pub IsBuiltBlock : Block → Type 0
  IsBuiltBlock no_statement = Unit {0}
  IsBuiltBlock (statement_then e rest) = IsBuiltStatement e × IsBuiltBlock rest

-- an `if`
abbrev pub IsIf : CoreStatement → Type 0
IsIf (if_ line all) = Unit {0}
IsIf _ = ⊥

-- its branches
abbrev pub arms_in : CoreStatement → Arms
arms_in (if_ line all) = all
arms_in _ = else_ no_statement

-- a `while`
abbrev pub IsLoop : CoreStatement → Type 0
IsLoop (while_ line e body) = Unit {0}
IsLoop _ = ⊥
