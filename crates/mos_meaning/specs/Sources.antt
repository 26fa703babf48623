-- The model that the tree of a source is, as far as its forms can be run today.

use Rattle.std.specs.Prelude.{ℕ, pos, true, false, List, [], ◌∷◌, Option, Some, None, codes, map, length, replicate, if◌then◌else◌}
use Rattle.std.specs.Str.{bytes_eq}
use Rattle.mos_text.specs.declared.scalar.Scalar.TheVariants.{Int}
use Rattle.mos_tree.specs.declared.expr.Expr.{Expr}
use Rattle.mos_tree.specs.declared.expr.BinaryOperator.{BinaryOperator}
use Rattle.mos_tree.specs.declared.expr.BinaryOperator.TheVariants.{Times, Div, Mod, Inter, Plus, Minus, Union, Range, Equal, NotEqual, Less, AtMost, Greater, AtLeast, In, NotIn, And, Or}
use Rattle.mos_tree.specs.declared.expr.Expr.TheOpen.{Expr-F}
use Rattle.mos_tree.specs.declared.expr.Expr.TheOpen as expr
use Rattle.mos_tree.specs.declared.expr.Expr.TheFolds.{fold-Expr}
use Rattle.mos_tree.specs.declared.statement.Reference.{Reference}
use Rattle.mos_tree.specs.declared.statement.Reference.TheVariants as target
use Rattle.mos_tree.specs.declared.statement.Assignment.{Assignment}
use Rattle.mos_tree.specs.declared.statement.Assignment.TheVariants as how
use Rattle.mos_tree.specs.declared.statement.Arm.{Arm}
use Rattle.mos_tree.specs.declared.statement.Statement.{Statement}
use Rattle.mos_tree.specs.declared.statement.Statement.TheOpen.{Statement-F, Assign, Fill, Call, If, Case, Forall, While, Repeat, Do, Break, Next, Initializations}
use Rattle.mos_tree.specs.declared.statement.Statement.TheFolds.{fold-Statement}
use Rattle.mos_tree.specs.declared.source.Top.{Top}
use Rattle.mos_tree.specs.declared.source.Top.TheVariants as top
use Rattle.mos_tree.specs.declared.source.Tree.{Tree}
use Rattle.mos_names.specs.NameLists.{Name, with_name}
use Rattle.mos_value.specs.Values.{Value, One}
use Rattle.mos_value.specs.Answers.{Operator, sum, difference, compare, equal, not_equal, less, at_most, greater, at_least}
use Rattle.mos_meaning.specs.Syntax.{Model, Expression, number, text, truth, variable, apply, unbuilt, Shown, nothing_shown, shown_then, CoreStatement, assign, change, write, perform, tell_hub, if_, while_, do_, break_, next_, unbuilt_statement, Arms, else_, elif, Block, no_statement, statement_then, Program}

-- Expressions.

-- the operator that stands between two expressions
abbrev pub operator_of : BinaryOperator → Option Operator
operator_of Plus = Some sum
operator_of Minus = Some difference
operator_of Equal = Some (compare equal)
operator_of NotEqual = Some (compare not_equal)
operator_of Less = Some (compare less)
operator_of AtMost = Some (compare at_most)
operator_of Greater = Some (compare greater)
operator_of AtLeast = Some (compare at_least)
operator_of Times = None
operator_of Div = None
operator_of Mod = None
operator_of Inter = None
operator_of Union = None
operator_of Range = None
operator_of In = None
operator_of NotIn = None
operator_of And = None
operator_of Or = None

-- an operator that can be run, on two expressions
abbrev pub application : Option Operator → Expression → Expression → Expression
application None a b = unbuilt
application (Some operator) a b = apply operator a b

-- each name is the model's: there are no routines
abbrev pub expression_step : Expr-F Expression → Expression
expression_step (expr.Integer n) = number n
expression_step (expr.Text t) = text t
expression_step (expr.Truth b) = truth b
expression_step (expr.Name n) = variable Model n
expression_step expr.Returned = unbuilt
expression_step (expr.Call n all) = unbuilt
expression_step (expr.Field n field) = unbuilt
expression_step (expr.CallField n all field) = unbuilt
expression_step (expr.Set all) = unbuilt
expression_step (expr.List all) = unbuilt
expression_step (expr.If a b c) = unbuilt
expression_step (expr.Convert to a) = unbuilt
expression_step (expr.Unary operator a) = unbuilt
expression_step (expr.Binary operator a b) = application (operator_of operator) a b
expression_step (expr.Aggregate operator over a) = unbuilt
expression_step (expr.Count over) = unbuilt

-- of the tree of an expression
abbrev pub expression : Expr → Expression
expression = fold-Expr Expression expression_step

-- as what is printed
abbrev pub shown_of : List Expression → Shown
shown_of [] = nothing_shown
shown_of (e ∷ es) = shown_then e (shown_of es)

-- Statements.

-- the library procedures that can be called
abbrev pub procedure : ℕ → Name → Shown → CoreStatement
procedure line called all =
    if bytes_eq (codes "writeln") called then write line true all
    else (if bytes_eq (codes "write") called then write line false all else unbuilt_statement)

-- `:=`, `+=` and `-=` to a variable
abbrev pub assignment : ℕ → Reference → Assignment → Expression → CoreStatement
assignment line (target.Name n) how.Set e = assign line Model n e
assignment line (target.Name n) how.Add e = change line sum Model n e
assignment line (target.Name n) how.Take e = change line difference Model n e
assignment line (target.Cell n all) by e = unbuilt_statement
assignment line (target.Field n field) by e = unbuilt_statement
assignment line (target.CellField n all field) by e = unbuilt_statement
assignment line target.Returned by e = unbuilt_statement

-- statements one after the other
abbrev pub block : List CoreStatement → Block
block [] = no_statement
block (e ∷ es) = statement_then e (block es)

-- `if` and each `elif`, then `else`
abbrev pub core_arms : List (Arm CoreStatement) → List CoreStatement → Arms
core_arms [] last = else_ (block last)
core_arms (arm ∷ arms) last = elif arm.line (expression arm.condition) (block arm.body) (core_arms arms last)

-- of one statement, given what stands in it
abbrev pub core_step : Statement-F CoreStatement → CoreStatement
core_step (Assign line to op value) = assignment line to op (expression value)
core_step (Call line called all) = procedure line called (shown_of (map expression all))
core_step (If line arms last) = if_ line (core_arms arms last)
core_step (While line condition body) = while_ line (expression condition) body
core_step (Do line body) = do_ (block body)
core_step (Break line) = break_ line
core_step (Next line) = next_ line
core_step (Fill line name values) = unbuilt_statement
core_step (Case line value alternatives last) = unbuilt_statement
core_step (Forall line over body) = unbuilt_statement
core_step (Repeat line body until_line condition) = unbuilt_statement
core_step (Initializations line direction name labels) = unbuilt_statement

-- of the tree of a statement
abbrev pub core_of : Statement → CoreStatement
core_of = fold-Statement CoreStatement core_step

-- of the trees of statements
abbrev pub block_of : List Statement → Block
block_of all = block (map core_of all)

-- a branch with what is said of its statements in their place
abbrev pub in_arm : {A : Type 0} → (Statement → A) → Arm Statement → Arm A
in_arm f arm = record { line = arm.line; condition = arm.condition; body = map f arm.body }

-- of the trees of branches
abbrev pub arms_of : List (Arm Statement) → List Statement → Arms
arms_of arms last = core_arms (map (in_arm core_of) arms) (map core_of last)

-- of a piece of a model
abbrev pub core_of_top : Top → CoreStatement
core_of_top (top.Statement s) = core_of s
core_of_top (top.Parameters line parameters) = unbuilt_statement
core_of_top (top.Declarations declared) = unbuilt_statement
core_of_top (top.Routine routine) = unbuilt_statement
core_of_top (top.Forward heading) = unbuilt_statement

-- the statements of a model
abbrev pub statements_of : Tree → Block
statements_of tree = block (map core_of_top tree.tops)

-- Names.

-- the names so far, and those that are assigned to in a form, in the order of the text
abbrev mutual
  -- behind a statement
  pub names_after : List Name → CoreStatement → List Name
  names_after names (assign line scope n e) = with_name names n
  names_after names (if_ line all) = names_in_arms names all
  names_after names (while_ line e body) = names_after names body
  names_after names (do_ all) = names_from names all
  names_after names (change line operator scope n e) = names
  names_after names (write line newline all) = names
  names_after names (perform line routine all) = names
  names_after names (tell_hub line function all) = names
  names_after names (break_ line) = names
  names_after names (next_ line) = names
  names_after names unbuilt_statement = names

  -- behind branches
  pub names_in_arms : List Name → Arms → List Name
  names_in_arms names (else_ all) = names_from names all
  names_in_arms names (elif line e all rest) = names_in_arms (names_from names all) rest

  -- behind the statements of a block
  pub names_from : List Name → Block → List Name
  names_from names no_statement = names
  names_from names (statement_then e rest) = names_from (names_after names e) rest

-- the variables of a model, in the order of their first assignments in the text
abbrev pub variables_of : Block → List Name
variables_of all = names_from [] all

-- The model.

-- before its first assignment a variable is 0: each is an integer
abbrev pub zeros : List Name → List Value
zeros names = replicate (length names) (One (Int (pos 0)))

-- statements as a model, whose variables are those that they assign to
abbrev pub program_of : Block → Program
program_of statements = record {
  names = variables_of statements;
  declared = length (variables_of statements);
  defaults = zeros (variables_of statements);
  params = [];
  bodies = [];
  block = statements;
}

-- the model of a source
abbrev pub model_of : Tree → Program
model_of tree = program_of (statements_of tree)
