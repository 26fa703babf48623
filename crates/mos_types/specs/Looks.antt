-- Expressions: what is seen of one, of several, of a name with what stands behind it, and of an index, in one walk from left to
-- right.

use Rattle.std.specs.Prelude.{true, false, List, [], ◌∷◌, Option, Some, None, map, length}
use Rattle.mos_text.specs.declared.kind.Kind.{Kind}
use Rattle.mos_text.specs.declared.kind.Kind.TheVariants.{Return}
use Rattle.mos_names.specs.NameLists.{Name}
use Rattle.mos_tree.specs.Children.{in_group, in_index}
use Rattle.mos_tree.specs.declared.expr.Conversion.{Conversion}
use Rattle.mos_tree.specs.declared.expr.BinaryOperator.{BinaryOperator}
use Rattle.mos_tree.specs.declared.expr.Group.{Group}
use Rattle.mos_tree.specs.declared.expr.Index.{Index}
use Rattle.mos_tree.specs.declared.expr.Expr.{Expr}
use Rattle.mos_tree.specs.declared.expr.Expr.TheOpen.{Expr-F, Integer, Text, Truth, Name as JustName, Returned, Call, Field, CallField, Set, List as ListOf, If, Convert, Unary, Binary, Aggregate, Count}
use Rattle.mos_tree.specs.declared.expr.Expr.TheFolds.{fold-Expr}
use Rattle.mos_sorts.specs.declared.sort.Sort.{Sort}
use Rattle.mos_sorts.specs.declared.scope.Scope.{Scope}
use Rattle.mos_sorts.specs.declared.scope.Bound.{Bound}
use Rattle.mos_sorts.specs.declared.typed.Typed.TheVariants as t
use Rattle.mos_sorts.specs.Kinds.{least, sooner}
use Rattle.mos_sorts.specs.Scopes.{meaning_of}
use Rattle.mos_sorts.specs.Vocabulary.{conversion}
use Rattle.mos_rules.specs.declared.side.Side.{Side}
use Rattle.mos_rules.specs.declared.side.Side.TheVariants.{Value}
use Rattle.mos_rules.specs.Results.{Seen, Row, in_row, Look, with_tree}
use Rattle.mos_rules.specs.Rows.{Expects, Plain, each}
use Rattle.mos_rules.specs.Calls.{library}
use Rattle.mos_rules.specs.Names.{wrong_name, bare, applied, expected_by}
use Rattle.mos_rules.specs.Fields.{with_field}
use Rattle.mos_rules.specs.Forms.{set_of, list_of, unary, binary, chosen}
use Rattle.mos_rules.specs.Indexes.{GroupsSeen, IndexSeen, groups_seen, index_seen, aggregate_over, count_over}

-- `returned` stands in functions alone
abbrev pub returned : Option Sort → Option Kind → Seen
returned (Some sort) worst = with_tree (t.Returned sort) worst
returned None worst = record { tree = t.Wrong; worst = sooner worst Return }

-- a name without brackets, and perhaps a field behind it
abbrev pub named : Side → Name → Option Name → Look
named on n field scope bound worst =
    with_field scope.records field
    (bare on scope.jobs (meaning_of n scope bound) n
    (least worst (wrong_name on false n scope.jobs (meaning_of n scope bound))))

-- what stands in the brackets behind a name
abbrev pub in_brackets : Side → Name → List Look → Scope → List Bound → Option Kind → Row
in_brackets on n all scope bound worst =
    each
    (expected_by on scope (meaning_of n scope bound) n (length all))
    0
    all
    scope
    bound
    (least worst (wrong_name on true n scope.jobs (meaning_of n scope bound)))

-- a name with brackets, and perhaps a field behind them
abbrev pub with_brackets : Side → Name → List Look → Option Name → Look
with_brackets on n all field scope bound worst =
    with_field scope.records field
    (applied on scope (meaning_of n scope bound) n (in_brackets on n all scope bound worst))

-- values in a row of which nothing is expected
abbrev pub row_of : List Look → Scope → List Bound → Option Kind → Row
row_of all scope bound worst = each Plain 0 all scope bound worst

-- `{a, b}`
abbrev pub set_literal : Row → Seen
set_literal row = set_of row.trees row.worst

-- `[a, b]`
abbrev pub list_literal : Row → Seen
list_literal row = list_of row.trees row.worst

-- `integer(a)` and `string(a)`
abbrev pub converted_to : Conversion → Seen → Seen
converted_to to a = library (conversion to) (in_row (a.tree ∷ []) a.worst)

-- two values, one behind the other
abbrev pub pair : BinaryOperator → Seen → Look → Scope → List Bound → Seen
pair operator a b scope bound = binary operator a.tree (b scope bound a.worst)

-- the values of `if` behind its condition
abbrev pub choice : Seen → Look → Look → Scope → List Bound → Seen
choice c a b scope bound =
    chosen c.tree (a scope bound c.worst).tree (b scope bound (a scope bound c.worst).worst)

-- what is seen of an expression, by what is seen of those in it
abbrev pub look_step : Expr-F Look → Look
look_step (Integer n) scope bound worst = with_tree (t.Integer n) worst
look_step (Text text) scope bound worst = with_tree (t.Text text) worst
look_step (Truth b) scope bound worst = with_tree (t.Truth b) worst
look_step (JustName n) scope bound worst = named Value n None scope bound worst
look_step Returned scope bound worst = returned scope.result worst
look_step (Call n all) scope bound worst = with_brackets Value n all None scope bound worst
look_step (Field n field) scope bound worst = named Value n (Some field) scope bound worst
look_step (CallField n all field) scope bound worst = with_brackets Value n all (Some field) scope bound worst
look_step (Set all) scope bound worst = set_literal (row_of all scope bound worst)
look_step (ListOf all) scope bound worst = list_literal (row_of all scope bound worst)
look_step (If c a b) scope bound worst = choice (c scope bound worst) a b scope bound
look_step (Convert to a) scope bound worst = converted_to to (a scope bound worst)
look_step (Unary operator a) scope bound worst = unary operator (a scope bound worst)
look_step (Binary operator a b) scope bound worst = pair operator (a scope bound worst) b scope bound
look_step (Aggregate op index body) scope bound worst = aggregate_over op (index_seen index scope bound worst) body scope
look_step (Count index) scope bound worst = count_over (index_seen index scope bound worst)

-- what is seen of an expression
abbrev pub look : Expr → Look
look = fold-Expr Look look_step

-- what is seen of expressions in a row
abbrev pub look_all : Expects → List Expr → Scope → List Bound → Option Kind → Row
look_all expected all scope bound worst = each expected 0 (map look all) scope bound worst

-- what is seen of groups of index names
abbrev pub look_groups : List (Group Expr) → Scope → List Bound → Option Kind → GroupsSeen
look_groups groups scope bound worst = groups_seen (map (in_group look) groups) scope bound worst

-- what is seen of an index
abbrev pub look_index : Index Expr → Scope → List Bound → Option Kind → IndexSeen
look_index index scope bound worst = index_seen (in_index look index) scope bound worst
