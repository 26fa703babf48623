-- What stands in statements is whole where no rule counts.

use Rattle.std.proofs.Common.{◌≡◌, ℕ, Bool, true, not, is_some, List, ◌++◌, map, Option, Some, None, length, refl, ◌∙◌}
use Rattle.mos_text.specs.declared.kind.Kind.{Kind}
use Rattle.mos_text.specs.declared.kind.Kind.TheVariants.{NoType}
use Rattle.mos_tree.specs.declared.expr.Expr.{Expr}
use Rattle.mos_tree.specs.declared.statement.Assignment.{Assignment}
use Rattle.mos_tree.specs.declared.statement.Reference.{Reference}
use Rattle.mos_tree.specs.declared.statement.Reference.TheVariants as reference
use Rattle.mos_sorts.specs.declared.sort.Sort.{Sort}
use Rattle.mos_sorts.specs.declared.sort.Sort.TheVariants.{Boolean, Text as TextSort}
use Rattle.mos_sorts.specs.declared.scope.Scope.{Scope}
use Rattle.mos_sorts.specs.declared.scope.Signature.{Signature}
use Rattle.mos_sorts.specs.declared.scope.Bound.{Bound}
use Rattle.mos_sorts.specs.declared.scope.Role.{Role}
use Rattle.mos_sorts.specs.declared.scope.Role.TheVariants as role
use Rattle.mos_sorts.specs.declared.function.Callable.{Callable}
use Rattle.mos_sorts.specs.declared.function.Undeclared.{Undeclared}
use Rattle.mos_sorts.specs.declared.function.Undeclared.TheVariants as u
use Rattle.mos_sorts.specs.declared.typed.Where.{Where}
use Rattle.mos_sorts.specs.declared.typed.Operation.{Operation}
use Rattle.mos_sorts.specs.declared.typed.Typed.{Typed}
use Rattle.mos_sorts.specs.declared.typed.Typed.TheViews.{out-Typed}
use Rattle.mos_sorts.specs.Scopes.{Meaning, Index as IsIndex, Declared, Undeclared as NotDeclared, meaning_of}
use Rattle.mos_sorts.specs.Vocabulary.{undeclared_meaning}
use Rattle.mos_sorts.specs.Kinds.{breaks, least}
use Rattle.mos_sorts.specs.Sorts.{may_fit}
use Rattle.mos_sorts.specs.Library.{wrong_call, wrong_prefix, is_procedure}
use Rattle.mos_sorts.specs.Trees.{sort_of}
use Rattle.mos_rules.specs.declared.side.Side.TheVariants.{Value, Target, Filled}
use Rattle.mos_rules.specs.Results.{Seen, Row}
use Rattle.mos_rules.specs.Calls.{wrong_number}
use Rattle.mos_rules.specs.Names.{wrong_name}
use Rattle.mos_types.specs.Looks.{look, named}
use Rattle.mos_types.specs.Statements.{CallSeen, routine_called, library_called, role_called, undeclared_called, call_of, arguments_of, arguments, filled_cell, of_cells, filled}
use Rattle.mos_types.specs.Assignments.{AssignmentSeen, look_target, done_with, value_for, assigned_by, assigned_to, variable_sort, declared_where, declared_by, new_name, look_sides}
use Rattle.mos_types.specs.Whole.{whole, call_whole, TypedAssignmentsAreWhole, TypedCallsAreWhole, TypedFillsAreWhole, TypedValuesAreWhole}
use Rattle.mos_types.proofs.Nodes.{wholes, whole-Name}
use Rattle.mos_types.proofs.Noted.{never_none, none_before}
use Rattle.mos_types.proofs.Kept.{Keeps, wanted-whole, operand-whole}
use Rattle.mos_types.proofs.Trees.{good, all_good, each-keeps, returned-keeps, named-keeps, with_brackets-keeps}

-- ---- assignments

target-keeps : (target : Reference) (scope : Scope) (bound : List Bound) (w : Option Kind) → Keeps w (look_target target scope bound w)
target-keeps (reference.Name n) scope bound w = named-keeps Target n None scope bound w
target-keeps (reference.Cell n all) scope bound w = with_brackets-keeps Target n (map look all) (all_good all) None scope bound w
target-keeps (reference.Field n field) scope bound w = named-keeps Target n (Some field) scope bound w
target-keeps (reference.CellField n all field) scope bound w = with_brackets-keeps Target n (map look all) (all_good all) (Some field) scope bound w
target-keeps reference.Returned scope bound w = returned-keeps scope.result w

-- both sides are whole
abbrev BothWhole : AssignmentSeen → Type 0
BothWhole seen = seen.worst ≡ None → (whole seen.target ≡ true) × (whole seen.value ≡ true)

value_for-whole : (operation : Option Operation) (target : Option Sort) (value : Typed) → whole (value_for operation target value) ≡ whole value
value_for-whole None (Some target) value = wanted-whole target value
value_for-whole None None value = refl
value_for-whole (Some operation) target value = operand-whole operation None value

assigned_by-whole : (does : Option (Option Operation)) (target : Typed) (value : Seen)
    → (value.worst ≡ None → (whole target ≡ true) × (whole value.tree ≡ true)) → BothWhole (assigned_by does target value)
assigned_by-whole (Some operation) target value keeps h =
    let k = keeps h in (k.0, value_for-whole operation (sort_of target) value.tree ∙ k.1)
assigned_by-whole None target value keeps h = absurd (never_none value.worst NoType h)

assigned-whole : (operator : Assignment) (target : Seen) (value : Expr) (scope : Scope) (bound : List Bound) (w : Option Kind)
    → Keeps w target → BothWhole (assigned_to operator target.tree (look value scope bound target.worst))
assigned-whole operator target value scope bound w keeps =
    let seen = look value scope bound target.worst in
    assigned_by-whole (done_with operator (sort_of target.tree) (sort_of seen.tree)) target.tree seen
    (λ h. let k = good value scope bound target.worst h in ((keeps k.0).1, k.1))

declared_by-whole : (sort : Option Sort) (place : Where) (n : List ℕ) (value : Seen)
    → (value.worst ≡ None → whole value.tree ≡ true) → BothWhole (declared_by sort place n value)
declared_by-whole (Some sort) place n value keeps h = (whole-Name sort place n, keeps h)
declared_by-whole None place n value keeps h = absurd (never_none value.worst NoType h)

sides-whole : (new : Option (List ℕ)) (target : Reference) (operator : Assignment) (value : Expr) (scope : Scope) (bound : List Bound) (w : Option Kind)
    → BothWhole (look_sides new target operator value scope bound w)
sides-whole (Some n) target operator value scope bound w =
    let seen = look value scope bound w in
    declared_by-whole (variable_sort (sort_of seen.tree)) (declared_where scope.inside) n seen (λ h. (good value scope bound w h).1)
sides-whole None target operator value scope bound w =
    assigned-whole operator (look_target target scope bound w) value scope bound w (target-keeps target scope bound w)

pub whole_assignments : TypedAssignmentsAreWhole
whole_assignments target operator value scope bound w h = sides-whole (new_name scope bound operator target) target operator value scope bound w h

-- ---- calls

abbrev CallWhole : CallSeen → Type 0
CallWhole seen = seen.worst ≡ None → call_whole seen.call ≡ true

abbrev RowWhole : Row → Type 0
RowWhole r = r.worst ≡ None → wholes r.trees ≡ true

routine_called-whole : (signature : Signature) (n : List ℕ) (r : Row) → RowWhole r → CallWhole (routine_called signature n r)
routine_called-whole signature n r keeps h =
    keeps (none_before r.worst (wrong_number (length signature.formals) r.trees ++ breaks (is_some signature.result) NoType) h)

library_called-whole : (callable : Callable) (r : Row) → RowWhole r → CallWhole (library_called callable r)
library_called-whole callable r keeps h =
    keeps (none_before r.worst (wrong_call callable.takes r.trees ++ breaks (not (is_procedure callable.gives)) NoType) h)

role_called-whole : (found : Role) (n : List ℕ) (r : Row) → RowWhole r → CallWhole (role_called found n r)
role_called-whole (role.Routine signature) n r keeps = routine_called-whole signature n r keeps
role_called-whole _ n r keeps = λ h. absurd (never_none r.worst NoType h)

undeclared_called-whole : (found : Undeclared) (r : Row) → RowWhole r → CallWhole (undeclared_called found r)
undeclared_called-whole (u.Function callable) r keeps = library_called-whole callable r keeps
undeclared_called-whole _ r keeps = λ h. absurd (never_none r.worst NoType h)

call_of-whole : (jobs : Bool) (meaning : Meaning) (n : List ℕ) (r : Row) → RowWhole r → CallWhole (call_of jobs meaning n r)
call_of-whole jobs (IsIndex sort) n r keeps = λ h. absurd (never_none r.worst NoType h)
call_of-whole jobs (Declared place found) n r keeps = role_called-whole found n r keeps
call_of-whole jobs NotDeclared n r keeps = undeclared_called-whole (undeclared_meaning jobs n) r keeps

pub whole_calls : TypedCallsAreWhole
whole_calls n all scope bound w h =
    let meaning = meaning_of n scope bound in
    let expected = arguments_of scope.jobs meaning n (length all) in
    let before = wrong_name Value true n scope.jobs meaning in
    call_of-whole scope.jobs meaning n (arguments n all scope bound w)
    (λ g. (each-keeps expected 0 (map look all) (all_good all) scope bound _ g).1) h

-- ---- cells that are filled

pub whole_fills : TypedFillsAreWhole
whole_fills n values scope bound w h =
    let target = filled scope.arrays (named Filled n None scope bound w) in
    let expected = of_cells (filled_cell scope.arrays (sort_of target.tree)) in
    let k = each-keeps expected 0 (map look values) (all_good values) scope bound target.worst h in (
      (named-keeps Filled n None scope bound w
          (none_before (named Filled n None scope bound w).worst
          (breaks (not (is_some (filled_cell scope.arrays (sort_of (named Filled n None scope bound w).tree)))) NoType) k.0)).1,
      k.1,
    )

-- ---- values

pub whole_values : TypedValuesAreWhole
whole_values expr scope bound w =
    let seen = look expr scope bound w in
    let of_sort = λ (wanted : Sort). breaks (not (may_fit wanted (sort_of seen.tree))) NoType in
    let whole_before = λ (kinds : List Kind) (h : least seen.worst kinds ≡ None). (good expr scope bound w (none_before seen.worst kinds h)).1 in (
      λ h. whole_before (of_sort Boolean) h,
      λ h. whole_before (wrong_prefix true (out-Typed seen.tree) ++ of_sort TextSort) h,
      λ wanted h. wanted-whole wanted seen.tree ∙ whole_before (of_sort wanted) h,
    )
