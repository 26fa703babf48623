-- Models as their meaning is defined on them: each name says where it is bound, and each piece has its
-- line. A form that a run cannot carry out yet is `unbuilt`: it has no value and no effect.

use Rattle.std.specs.Prelude.{ℕ, ℤ, Bool, List, Option}
use Rattle.mos_names.specs.NameLists.{Name}
use Rattle.mos_value.specs.Values.{Value}
use Rattle.mos_value.specs.Answers.{Operator}
use Rattle.run_state.specs.HubFunctions.{HubFunction}
use Rattle.run_state.specs.Parameters.{Parameter}

-- whose name a variable is
pub data Scope : Type 0 where
  Own : Scope  -- the routine's that runs
  Model : Scope

mutual
  -- an expression
  pub data Expression : Type 0 where
    number : ℤ → Expression
    text : List ℕ → Expression
    truth : Bool → Expression
    variable : Scope → Name → Expression
    index : Name → Expression  -- a name that a `sum` binds
    apply : Operator → Expression → Expression → Expression
    range_of : (first last : Expression) → Expression  -- `first..last`
    sum_over : (index : Name) (set condition body : Expression) → Expression  -- `sum(index in set | condition) body`
    invoke : (routine : ℕ) → Arguments → Expression
    ask_hub : HubFunction → Arguments → Expression  -- a function of the hub
    unbuilt : Expression

  -- what a routine or function is given, in order: values, variables that are shared, and values that are
  -- fresh: each of these goes to a variable of its own, which nothing else names, and that one is shared
  pub data Arguments : Type 0 where
    no_argument : Arguments
    by_value : Expression → Arguments → Arguments
    by_place : Scope → Name → Arguments → Arguments
    by_fresh : Scope → Name → Expression → Arguments → Arguments

-- expressions in their order, as `write` prints them
pub data Shown : Type 0 where
  nothing_shown : Shown
  shown_then : Expression → Shown → Shown

mutual
  -- a statement, with the line of its first piece
  pub data CoreStatement : Type 0 where
    assign : (line : ℕ) → Scope → Name → Expression → CoreStatement
    change : (line : ℕ) → Operator → Scope → Name → Expression → CoreStatement  -- `+=` and `-=`
    write : (line : ℕ) (newline : Bool) → Shown → CoreStatement
    perform : (line routine : ℕ) → Arguments → CoreStatement  -- a procedure
    tell_hub : (line : ℕ) → HubFunction → Arguments → CoreStatement  -- a procedure of the hub
    if_ : (line : ℕ) → Arms → CoreStatement
    while_ : (line : ℕ) → Expression → CoreStatement → CoreStatement
    do_ : Block → CoreStatement
    break_ : (line : ℕ) → CoreStatement
    next_ : (line : ℕ) → CoreStatement
    unbuilt_statement : CoreStatement

  -- `if` and each `elif`, with its line and with what it guards, then what stands under `else`
  pub data Arms : Type 0 where
    else_ : Block → Arms
    elif : (line : ℕ) → Expression → Block → Arms → Arms

  -- statements one after the other
  pub data Block : Type 0 where
    no_statement : Block
    statement_then : CoreStatement → Block → Block

-- a formal of a routine: whether it is shared with the caller, and the default of its type, which says its
-- type as that of a variable does
pub record Formal : Type 0 where
  pub shared : Bool
  pub default : Value

-- a routine: its formals and then its variables by name, its formals, the defaults of its variables, the
-- variable that holds its result if it is a function, and its statements
pub record Body : Type 0 where
  pub own : List Name
  pub formals : List Formal
  pub defaults : List Value
  pub result : Option Name
  pub block : Block

-- a model: its variables in order, each with the value that it has before its first assignment; how many of
-- them its source declares, behind which stand those for fresh values; its parameters, which are variables
-- too; its routines by number; and its statements
pub record Program : Type 0 where
  pub names : List Name
  pub declared : ℕ
  pub defaults : List Value
  pub params : List Parameter
  pub bodies : List Body
  pub block : Block
