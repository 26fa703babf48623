-- How many statements a statement is, with those that stand in it.

use Rattle.std.specs.Prelude.{ℕ, ◌+◌, List, sum, map}
use Rattle.mos_tree.specs.declared.statement.Statement.{Statement}
use Rattle.mos_tree.specs.declared.statement.Arm.{Arm}
use Rattle.mos_tree.specs.declared.statement.Alternative.{Alternative}
use Rattle.mos_tree.specs.declared.statement.Statement.TheOpen.{Statement-F, Assign, Fill, Call, If, Case, Forall, While, Repeat, Do, Break, Next, Initializations}
use Rattle.mos_tree.specs.declared.statement.Statement.TheFolds.{fold-Statement}

-- a statement and all that stand in it
abbrev pub statements_step : Statement-F ℕ → ℕ
statements_step (Assign line target operator value) = 1
statements_step (Fill line name values) = 1
statements_step (Call line name arguments) = 1
statements_step (If line arms otherwise) = sum (map (λ arm. sum arm.body) arms) + sum otherwise + 1
statements_step (Case line value alternatives otherwise) = sum (map (λ one. one.body) alternatives) + sum otherwise + 1
statements_step (Forall line index body) = body + 1
statements_step (While line condition body) = body + 1
statements_step (Repeat line body until_line condition) = sum body + 1
statements_step (Do line body) = sum body + 1
statements_step (Break line) = 1
statements_step (Next line) = 1
statements_step (Initializations line direction name labels) = 1

-- the statements of one
abbrev pub statements : Statement → ℕ
statements = fold-Statement ℕ statements_step

-- the statements of several
abbrev pub statements_in : List Statement → ℕ
statements_in all = sum (map statements all)

-- the statements of the arms of `if`
abbrev pub statements_in_arms : List (Arm Statement) → ℕ
statements_in_arms arms = sum (map (λ arm. statements_in arm.body) arms)

-- the statements of the alternatives of `case`
abbrev pub statements_in_alternatives : List (Alternative Statement) → ℕ
statements_in_alternatives all = sum (map (λ one. statements one.body) all)
