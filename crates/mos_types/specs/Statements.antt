-- Expressions that stand in statements: where a type is wanted of them, conditions, labels, names of blocks of data, cells that
-- are filled, and calls.

use Rattle.std.specs.Prelude.{ℕ, Bool, true, false, not, List, ◌++◌, Option, Some, None, is_some, length}
use Rattle.mos_text.specs.declared.kind.Kind.{Kind}
use Rattle.mos_text.specs.declared.kind.Kind.TheVariants.{NoType}
use Rattle.mos_names.specs.NameLists.{Name}
use Rattle.mos_tree.specs.declared.expr.Expr.{Expr}
use Rattle.mos_sorts.specs.declared.sort.Sort.{Sort}
use Rattle.mos_sorts.specs.declared.sort.Sort.TheVariants as s
use Rattle.mos_sorts.specs.declared.sort.ArraySort.{ArraySort}
use Rattle.mos_sorts.specs.declared.scope.Role.{Role}
use Rattle.mos_sorts.specs.declared.scope.Role.TheVariants as role
use Rattle.mos_sorts.specs.declared.scope.Scope.{Scope}
use Rattle.mos_sorts.specs.declared.scope.Bound.{Bound}
use Rattle.mos_sorts.specs.declared.scope.Signature.{Signature}
use Rattle.mos_sorts.specs.declared.typed.Typed.{Typed}
use Rattle.mos_sorts.specs.declared.typed.Typed.TheViews.{out-Typed}
use Rattle.mos_sorts.specs.declared.function.Callable.{Callable}
use Rattle.mos_sorts.specs.declared.function.Undeclared.{Undeclared}
use Rattle.mos_sorts.specs.declared.function.Undeclared.TheVariants as u
use Rattle.mos_sorts.specs.Kinds.{sooner, least, breaks}
use Rattle.mos_sorts.specs.Sorts.{may_fit}
use Rattle.mos_sorts.specs.Scopes.{Meaning, Index, Declared, meaning_of}
use Rattle.mos_sorts.specs.Scopes.{Undeclared as NotDeclared}
use Rattle.mos_sorts.specs.Vocabulary.{undeclared_meaning}
use Rattle.mos_sorts.specs.Trees.{sort_of, as_wanted}
use Rattle.mos_sorts.specs.Library.{wrong_call, wrong_prefix, is_procedure}
use Rattle.mos_rules.specs.declared.side.Side.TheVariants.{Value, Filled as OfFill}
use Rattle.mos_types.specs.declared.called.Called.{Called}
use Rattle.mos_types.specs.declared.called.Called.TheVariants as c
use Rattle.mos_rules.specs.Results.{Seen, Row, Look}
use Rattle.mos_rules.specs.Rows.{Expects, Plain, Formals, Cells, Labels}
use Rattle.mos_rules.specs.Calls.{wrong_number, array_of}
use Rattle.mos_rules.specs.Names.{wrong_name, of_library}
use Rattle.mos_rules.specs.Indexes.{condition}
use Rattle.mos_types.specs.Looks.{look, look_all, named}

-- ---- where a type is wanted

-- a value where this type is wanted
abbrev pub wanted : Sort → Seen → Seen
wanted sort a =
    record { tree = as_wanted sort a.tree; worst = least a.worst (breaks (not (may_fit sort (sort_of a.tree))) NoType) }

-- an expression where this type is wanted
abbrev pub look_as : Sort → Expr → Look
look_as sort expr scope bound worst = wanted sort (look expr scope bound worst)

-- an expression that is a condition
abbrev pub look_condition : Expr → Look
look_condition expr scope bound worst = condition (look expr scope bound worst)

-- the labels of an alternative of `case` on a value of this type
abbrev pub look_labels : Sort → List Expr → Scope → List Bound → Option Kind → Row
look_labels value labels scope bound worst = look_all (Labels value) labels scope bound worst

-- the name of a block of data: a text, without a prefix but those of data if it is a literal
abbrev pub block_name : Seen → Seen
block_name a =
    record { tree = a.tree; worst = least a.worst (wrong_prefix true (out-Typed a.tree) ++ breaks (not (may_fit s.Text (sort_of a.tree))) NoType) }

-- an expression that names a block of data
abbrev pub look_block : Expr → Look
look_block expr scope bound worst = block_name (look expr scope bound worst)

-- ---- cells that are filled

-- what is seen of `name :: [a, b]`
pub record FillSeen : Type 0 where
  pub target : Typed
  pub values : List Typed
  pub worst : Option Kind

-- the type of the cells of an array that is no dynamic one
abbrev pub dense_sort : Bool → Sort → Option Sort
dense_sort true cell = None
dense_sort false cell = Some cell

-- the type of the cells of a dense array
abbrev pub dense_cell : Option ArraySort → Option Sort
dense_cell None = None
dense_cell (Some array) = dense_sort array.dynamic array.cell

-- the type of the cells of what has this type, where it is a dense array
abbrev pub filled_cell : List ArraySort → Option Sort → Option Sort
filled_cell arrays None = None
filled_cell arrays (Some sort) = dense_cell (array_of arrays sort)

-- what is expected of the values of cells of this type
abbrev pub of_cells : Option Sort → Expects
of_cells None = Plain
of_cells (Some sort) = Cells sort

-- the values that a target is filled with
abbrev pub filled_with : Typed → Row → FillSeen
filled_with target row = record { target = target; values = row.trees; worst = row.worst }

-- what is filled is a dense array
abbrev pub filled : List ArraySort → Seen → Seen
filled arrays target =
    record { tree = target.tree; worst = least target.worst (breaks (not (is_some (filled_cell arrays (sort_of target.tree)))) NoType) }

-- a target and its values
abbrev pub fill_of : Seen → List Expr → Scope → List Bound → FillSeen
fill_of target values scope bound =
    filled_with target.tree (look_all (of_cells (filled_cell scope.arrays (sort_of target.tree))) values scope bound target.worst)

-- `name :: [a, b]`
abbrev pub look_fill : Name → List Expr → Scope → List Bound → Option Kind → FillSeen
look_fill n values scope bound worst = fill_of (filled scope.arrays (named OfFill n None scope bound worst)) values scope bound

-- ---- calls as statements

-- what is seen of a call
pub record CallSeen : Type 0 where
  pub call : Called
  pub worst : Option Kind

-- a call of a routine: it is no function
abbrev pub routine_called : Signature → Name → Row → CallSeen
routine_called signature n row =
    record {
      call = c.Routine n row.trees;
      worst = least row.worst (wrong_number (length signature.formals) row.trees ++ breaks (is_some signature.result) NoType);
    }

-- a call of the library: it is no function
abbrev pub library_called : Callable → Row → CallSeen
library_called callable row =
    record {
      call = c.Library callable.function row.trees;
      worst = least row.worst (wrong_call callable.takes row.trees ++ breaks (not (is_procedure callable.gives)) NoType);
    }

-- what cannot be called
abbrev pub not_called : Option Kind → CallSeen
not_called worst = record { call = c.Wrong; worst = sooner worst NoType }

-- a call of a declared name
abbrev pub role_called : Role → Name → Row → CallSeen
role_called (role.Routine signature) n row = routine_called signature n row
role_called _ n row = not_called row.worst

-- a call of a name that is not declared
abbrev pub undeclared_called : Undeclared → Row → CallSeen
undeclared_called (u.Function callable) row = library_called callable row
undeclared_called _ row = not_called row.worst

-- a call of a name
abbrev pub call_of : Bool → Meaning → Name → Row → CallSeen
call_of jobs (Index sort) n row = not_called row.worst
call_of jobs (Declared place found) n row = role_called found n row
call_of jobs NotDeclared n row = undeclared_called (undeclared_meaning jobs n) row

-- what is expected of the arguments of a call of a declared name
abbrev pub arguments_of_role : Role → Expects
arguments_of_role (role.Routine signature) = Formals signature.formals
arguments_of_role _ = Plain

-- what is expected of the arguments of a call of what is not declared
abbrev pub arguments_of_undeclared : Undeclared → ℕ → Expects
arguments_of_undeclared (u.Function callable) count = of_library callable.function count
arguments_of_undeclared _ count = Plain

-- what is expected of the arguments of a call
abbrev pub arguments_of : Bool → Meaning → Name → ℕ → Expects
arguments_of jobs (Index sort) n count = Plain
arguments_of jobs (Declared place found) n count = arguments_of_role found
arguments_of jobs NotDeclared n count = arguments_of_undeclared (undeclared_meaning jobs n) count

-- the arguments of a call
abbrev pub arguments : Name → List Expr → Scope → List Bound → Option Kind → Row
arguments n all scope bound worst =
    look_all
    (arguments_of scope.jobs (meaning_of n scope bound) n (length all))
    all
    scope
    bound
    (least worst (wrong_name Value true n scope.jobs (meaning_of n scope bound)))

-- `name(a, b)`, `name()` or `name` as a statement
abbrev pub look_call : Name → List Expr → Scope → List Bound → Option Kind → CallSeen
look_call n all scope bound worst = call_of scope.jobs (meaning_of n scope bound) n (arguments n all scope bound worst)
