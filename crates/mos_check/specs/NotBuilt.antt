-- Which pieces of a source are of a form that can be run, and which is the first that is not.

use Rattle.std.specs.Prelude.{ℕ, Bool, true, false, ◌&&◌, ◌||◌, List, [], ◌∷◌, Option, Some, None, map, codes, option_map}
use Rattle.std.specs.Str.{bytes_eq}
use Rattle.mos_text.specs.declared.kind.Kind.{Kind}
use Rattle.mos_text.specs.declared.kind.Kind.TheVariants.{Syntax, Module}
use Rattle.mos_tree.specs.declared.expr.Expr.{Expr}
use Rattle.mos_tree.specs.declared.statement.Reference.{Reference}
use Rattle.mos_tree.specs.declared.statement.Reference.TheVariants as target
use Rattle.mos_tree.specs.declared.statement.Arm.{Arm}
use Rattle.mos_tree.specs.declared.statement.Statement.{Statement}
use Rattle.mos_tree.specs.declared.statement.Statement.TheOpen.{Statement-F, Assign, Fill, Call, If, Case, Forall, While, Repeat, Do, Break, Next, Initializations}
use Rattle.mos_tree.specs.declared.statement.Statement.TheFolds.{fold-Statement}
use Rattle.mos_tree.specs.declared.source.Head.{Head}
use Rattle.mos_tree.specs.declared.source.Head.TheVariants as head
use Rattle.mos_tree.specs.declared.source.Top.{Top}
use Rattle.mos_tree.specs.declared.source.Top.TheVariants as top
use Rattle.mos_tree.specs.declared.source.Tree.{Tree}
use Rattle.mos_check.specs.Forms.{form_of, is_sum, is_condition, is_shown}

-- the line of a piece that is not of such a form
abbrev pub unless : Bool → ℕ → Option ℕ
unless true line = None
unless false line = Some line

-- the first line, or the later one where there is no first
abbrev pub or_later : Option ℕ → Option ℕ → Option ℕ
or_later None later = later
or_later (Some line) later = Some line

-- the first line of several
abbrev pub first_of : List (Option ℕ) → Option ℕ
first_of [] = None
first_of (found ∷ more) = or_later found (first_of more)

-- a name alone on the left side
abbrev pub is_variable : Reference → Bool
is_variable (target.Name n) = true
is_variable _ = false

-- `write` and `writeln`, of one thing that can be printed
abbrev pub is_write : List ℕ → Bool
is_write called = bytes_eq called (codes "writeln") || bytes_eq called (codes "write")

-- one argument, which can be printed
abbrev pub shows_one : List Expr → Bool
shows_one (e ∷ []) = is_shown (form_of e)
shows_one _ = false

-- that of an arm of `if`
abbrev pub unbuilt_arm : Arm (Option ℕ) → Option ℕ
unbuilt_arm arm = or_later (unless (is_condition (form_of arm.condition)) arm.line) (first_of arm.body)

-- that of a statement, by those in it
abbrev pub unbuilt_step : Statement-F (Option ℕ) → Option ℕ
unbuilt_step (Assign line to operator value) = unless (is_variable to && is_sum (form_of value)) line
unbuilt_step (Call line called all) = unless (is_write called && shows_one all) line
unbuilt_step (If line arms last) = or_later (first_of (map unbuilt_arm arms)) (first_of last)
unbuilt_step (While line condition body) = or_later (unless (is_condition (form_of condition)) line) body
unbuilt_step (Do line body) = first_of body
unbuilt_step (Break line) = None
unbuilt_step (Next line) = None
unbuilt_step (Fill line name values) = Some line
unbuilt_step (Case line value alternatives last) = Some line
unbuilt_step (Forall line index body) = Some line
unbuilt_step (Repeat line body until_line condition) = Some line
unbuilt_step (Initializations line direction name labels) = Some line

-- the line of the first such piece of a statement
abbrev pub unbuilt_in : Statement → Option ℕ
unbuilt_in = fold-Statement (Option ℕ) unbuilt_step

-- that of several statements
abbrev pub unbuilt_in_all : List Statement → Option ℕ
unbuilt_in_all all = first_of (map unbuilt_in all)

-- that of a part of a model
abbrev pub unbuilt_in_top : Top → Option ℕ
unbuilt_in_top (top.Parameters line parameters) = Some line
unbuilt_in_top (top.Declarations declared) = Some declared.line
unbuilt_in_top (top.Routine routine) = Some routine.heading.line
unbuilt_in_top (top.Forward heading) = Some heading.line
unbuilt_in_top (top.Statement statement) = unbuilt_in statement

-- a piece on this line, of the kind `SYNTAX`
abbrev pub at_syntax : ℕ → ℕ × Kind
at_syntax line = (line, Syntax)

-- a use of the module of jobs has a kind of its own
abbrev pub unbuilt_head : Head → ℕ × Kind
unbuilt_head (head.Uses line modules) = (line, Module (codes "mmjobs"))
unbuilt_head (head.NoImplicit line) = at_syntax line

-- the line of the first such piece of a source, and its kind
abbrev pub unbuilt_behind : List Head → List Top → Option (ℕ × Kind)
unbuilt_behind [] tops = option_map at_syntax (first_of (map unbuilt_in_top tops))
unbuilt_behind (h ∷ heads) tops = Some (unbuilt_head h)

-- that of a whole source
abbrev pub unbuilt_of : Tree → Option (ℕ × Kind)
unbuilt_of tree = unbuilt_behind tree.heads tree.tops
