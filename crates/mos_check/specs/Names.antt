-- Names that are used before a statement gives them a value, and `break` and `next` outside loops: the
-- first piece of a source that does one of these.

use Rattle.std.specs.Prelude.{◌≡◌, ℕ, Bool, true, false, if◌then◌else◌, List, [], ◌∷◌, Option, Some, None}
use Rattle.mos_text.specs.declared.kind.Kind.{Kind}
use Rattle.mos_text.specs.declared.kind.Kind.TheVariants.{Unknown, Loop}
use Rattle.mos_tree.specs.declared.expr.Expr.{Expr}
use Rattle.mos_tree.specs.declared.expr.Expr.TheOpen.{Expr-F}
use Rattle.mos_tree.specs.declared.expr.Expr.TheOpen as expr
use Rattle.mos_tree.specs.declared.expr.Expr.TheFolds.{fold-Expr}
use Rattle.mos_tree.specs.declared.statement.Assignment.{Assignment}
use Rattle.mos_tree.specs.declared.statement.Assignment.TheVariants.{Set}
use Rattle.mos_tree.specs.declared.statement.Reference.{Reference}
use Rattle.mos_tree.specs.declared.statement.Reference.TheVariants as target
use Rattle.mos_tree.specs.declared.statement.Arm.{Arm}
use Rattle.mos_tree.specs.declared.statement.Statement.{Statement}
use Rattle.mos_tree.specs.declared.statement.Statement.TheOpen.{Statement-F, Assign, Fill, Call, If, Case, Forall, While, Repeat, Do, Break, Next, Initializations}
use Rattle.mos_tree.specs.declared.statement.Statement.TheFolds.{fold-Statement}
use Rattle.mos_tree.specs.declared.source.Top.{Top}
use Rattle.mos_tree.specs.declared.source.Top.TheVariants as top
use Rattle.mos_tree.specs.declared.source.Tree.{Tree}
use Rattle.mos_names.specs.NameLists.{has_name, with_name}
use Rattle.mos_check.specs.declared.names.CheckFault.{CheckFault}
use Rattle.mos_check.specs.declared.names.CheckFault.TheVariants.{Refused, NoMemory}

-- names, in the order in which they were given values
abbrev pub Names : Type 0
Names = List (List ℕ)

-- what is found of pieces: a wrong one, or the names that are known behind them
pub data Found : Type 0 where
  Wrong : (line : ℕ) (kind : Kind) → Found
  Knows : (names : Names) → Found

-- what is found behind pieces of which this is found
abbrev pub and_then : Found → (Names → Found) → Found
and_then (Wrong line kind) go = Wrong line kind
and_then (Knows names) go = go names

-- the first of the two names, or the second where there is no first
abbrev pub or_other : Option (List ℕ) → Option (List ℕ) → Option (List ℕ)
or_other None other = other
or_other (Some one) other = Some one

-- the name, unless it is known
abbrev pub unless_known : Names → List ℕ → Option (List ℕ)
unless_known known n = if has_name n known then None else Some n

-- the first name of an expression, from the left, that is none of these
abbrev pub unknown_step : Expr-F (Names → Option (List ℕ)) → Names → Option (List ℕ)
unknown_step (expr.Integer n) known = None
unknown_step (expr.Text t) known = None
unknown_step (expr.Truth b) known = None
unknown_step (expr.Name n) known = unless_known known n
unknown_step expr.Returned known = None
unknown_step (expr.Call n all) known = None
unknown_step (expr.Field n field) known = None
unknown_step (expr.CallField n all field) known = None
unknown_step (expr.Set all) known = None
unknown_step (expr.List all) known = None
unknown_step (expr.If a b c) known = None
unknown_step (expr.Convert to a) known = None
unknown_step (expr.Unary operator a) known = None
unknown_step (expr.Binary operator a b) known = or_other (a known) (b known)
unknown_step (expr.Aggregate operator over a) known = None
unknown_step (expr.Count over) known = None

-- that of an expression
abbrev pub unknown_in : Expr → Names → Option (List ℕ)
unknown_in = fold-Expr (Names → Option (List ℕ)) unknown_step

-- that of several expressions
abbrev pub unknown_in_all : List Expr → Names → Option (List ℕ)
unknown_in_all [] known = None
unknown_in_all (e ∷ es) known = or_other (unknown_in e known) (unknown_in_all es known)

-- `+=` and `-=` use the variable, `:=` gives it its value
abbrev pub unknown_target : Reference → Assignment → Names → Option (List ℕ)
unknown_target (target.Name n) Set known = None
unknown_target (target.Name n) operator known = unless_known known n
unknown_target (target.Cell n all) operator known = None
unknown_target (target.Field n field) operator known = None
unknown_target (target.CellField n all field) operator known = None
unknown_target target.Returned operator known = None

-- the names behind an assignment
abbrev pub with_target : Reference → Assignment → Names → Names
with_target (target.Name n) Set known = with_name known n
with_target (target.Name n) operator known = known
with_target (target.Cell n all) operator known = known
with_target (target.Field n field) operator known = known
with_target (target.CellField n all field) operator known = known
with_target target.Returned operator known = known

-- a piece on this line that uses a name which is not known, or none
abbrev pub uses : ℕ → Names → Option (List ℕ) → Found
uses line known None = Knows known
uses line known (Some n) = Wrong line (Unknown n)

-- what is found of a statement, by whether it stands in a loop and which names are known before it
abbrev pub Checks : Type 0
Checks = Bool → Names → Found

-- statements one behind the other
abbrev pub check_all : List Checks → Checks
check_all [] inside known = Knows known
check_all (c ∷ cs) inside known = and_then (c inside known) (check_all cs inside)

-- the arms of `if`, one behind the other
abbrev pub check_arms : List (Arm Checks) → Checks
check_arms [] inside known = Knows known
check_arms (arm ∷ arms) inside known =
    and_then (uses arm.line known (unknown_in arm.condition known)) (λ k. and_then (check_all arm.body inside k) (check_arms arms inside))

-- `break` or `next`
abbrev pub in_loop : Bool → ℕ → Names → Found
in_loop true line known = Knows known
in_loop false line known = Wrong line Loop

-- one statement, by what is found of those in it
abbrev pub check_step : Statement-F Checks → Checks
check_step (Assign line to operator value) inside known =
    and_then (uses line known (or_other (unknown_target to operator known) (unknown_in value known))) (λ k. Knows (with_target to operator k))
check_step (Call line called all) inside known = uses line known (unknown_in_all all known)
check_step (If line arms last) inside known = and_then (check_arms arms inside known) (check_all last inside)
check_step (While line condition body) inside known = and_then (uses line known (unknown_in condition known)) (body true)
check_step (Do line body) inside known = check_all body inside known
check_step (Break line) inside known = in_loop inside line known
check_step (Next line) inside known = in_loop inside line known
check_step (Fill line name values) inside known = Knows known
check_step (Case line value alternatives last) inside known = Knows known
check_step (Forall line over body) inside known = Knows known
check_step (Repeat line body until_line condition) inside known = Knows known
check_step (Initializations line direction name labels) inside known = Knows known

-- what is found of a statement
abbrev pub check_statement : Statement → Checks
check_statement = fold-Statement Checks check_step

-- what is found of a part of a model
abbrev pub check_top : Top → Names → Found
check_top (top.Statement statement) known = check_statement statement false known
check_top (top.Parameters line parameters) known = Knows known
check_top (top.Declarations declared) known = Knows known
check_top (top.Routine routine) known = Knows known
check_top (top.Forward heading) known = Knows known

-- what is found of the parts of a model
abbrev pub check_tops : List Top → Names → Found
check_tops [] known = Knows known
check_tops (t ∷ tops) known = and_then (check_top t known) (check_tops tops)

-- what is found of a source
abbrev pub check_of : Tree → Found
check_of tree = check_tops tree.tops []

-- a fault that says what was found; want of memory says nothing
abbrev pub Says : Found → CheckFault → Type 0
Says found (Refused refusal) = found ≡ Wrong refusal.line refusal.kind
Says found NoMemory = Unit {0}

-- the fault of a piece on this line
abbrev pub fault_at : ℕ → Kind → CheckFault
fault_at line kind = Refused record { line = line; kind = kind }
