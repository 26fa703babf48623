-- How large a model is: one for each node of an expression, for each statement and for each branch.

use Rattle.std.specs.Prelude.{ℕ, ◌+◌}
use Rattle.mos_meaning.specs.Syntax.{Expression, apply, Shown, nothing_shown, shown_then, CoreStatement, assign, change, write, perform, tell_hub, if_, while_, do_, break_, next_, unbuilt_statement, Arms, else_, elif, Block, no_statement, statement_then}

-- an expression
abbrev pub size_of : Expression → ℕ
size_of (apply operator a b) = size_of a + size_of b + 1
size_of _ = 1

-- what is printed
abbrev pub size_of_all : Shown → ℕ
size_of_all nothing_shown = 0
size_of_all (shown_then e es) = size_of e + size_of_all es

abbrev mutual
  -- a statement
  pub size_of_core : CoreStatement → ℕ
  size_of_core (assign line scope n e) = size_of e + 1
  size_of_core (change line operator scope n e) = size_of e + 1
  size_of_core (write line newline all) = size_of_all all + 1
  size_of_core (if_ line all) = size_of_arms all + 1
  size_of_core (while_ line e body) = size_of e + size_of_core body + 1
  size_of_core (do_ all) = size_of_block all + 1
  size_of_core (perform line routine all) = 1
  size_of_core (tell_hub line function all) = 1
  size_of_core (break_ line) = 1
  size_of_core (next_ line) = 1
  size_of_core unbuilt_statement = 1

  -- branches
  pub size_of_arms : Arms → ℕ
  size_of_arms (else_ all) = size_of_block all
  size_of_arms (elif line e all rest) = size_of e + size_of_block all + size_of_arms rest + 1

  -- the statements of a block
  pub size_of_block : Block → ℕ
  size_of_block no_statement = 0
  size_of_block (statement_then e rest) = size_of_core e + size_of_block rest
