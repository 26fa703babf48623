-- Where nothing counts of what was seen, nothing counted before, and the tree is whole: form by form.

use Rattle.std.proofs.Common.{◌≡◌, ℕ, Bool, true, false, ◌&&◌, List, [], Option, Some, None, slice_get, length, refl, ◌∙◌}
use Rattle.std.specs.Prelude.{if◌then◌else◌}
use Rattle.mos_text.specs.declared.kind.Kind.{Kind}
use Rattle.mos_text.specs.declared.kind.Kind.TheVariants.{NoType, Unknown}
use Rattle.mos_tree.specs.declared.expr.UnaryOperator.{UnaryOperator}
use Rattle.mos_tree.specs.declared.expr.BinaryOperator.{BinaryOperator}
use Rattle.mos_tree.specs.declared.expr.AggregateOperator.{AggregateOperator}
use Rattle.mos_tree.specs.declared.expr.AggregateOperator.TheVariants as aggregate_operator
use Rattle.mos_tree.specs.declared.expr.Index.{Index}
use Rattle.mos_tree.specs.Children.{in_index}
use Rattle.mos_sorts.specs.declared.sort.Sort.{Sort}
use Rattle.mos_sorts.specs.declared.sort.Sort.TheVariants as s
use Rattle.mos_sorts.specs.declared.sort.ArraySort.{ArraySort}
use Rattle.mos_sorts.specs.declared.sort.RecordSort.{RecordSort}
use Rattle.mos_sorts.specs.declared.function.Function.{Function}
use Rattle.mos_sorts.specs.declared.function.Callable.{Callable}
use Rattle.mos_sorts.specs.declared.function.Undeclared.{Undeclared}
use Rattle.mos_sorts.specs.declared.function.Undeclared.TheVariants as u
use Rattle.mos_sorts.specs.declared.scope.Scope.{Scope}
use Rattle.mos_sorts.specs.declared.scope.Signature.{Signature}
use Rattle.mos_sorts.specs.declared.scope.Role.{Role}
use Rattle.mos_sorts.specs.declared.scope.Role.TheVariants as role
use Rattle.mos_sorts.specs.declared.typed.Where.{Where}
use Rattle.mos_sorts.specs.declared.typed.Where.TheVariants as where_
use Rattle.mos_sorts.specs.declared.typed.Operation.{Operation}
use Rattle.mos_sorts.specs.declared.typed.Operation.TheVariants as o
use Rattle.mos_sorts.specs.declared.typed.Typed.{Typed}
use Rattle.mos_sorts.specs.declared.typed.Typed.TheVariants as v
use Rattle.mos_sorts.specs.Kinds.{least}
use Rattle.mos_sorts.specs.Operators.{Answer, has_unary}
use Rattle.mos_sorts.specs.Library.{sort_given, wrong_call}
use Rattle.mos_sorts.specs.Vocabulary.{undeclared_meaning}
use Rattle.mos_sorts.specs.Scopes.{Meaning, Index as IsIndex, Declared, Undeclared as NotDeclared}
use Rattle.mos_sorts.specs.Trees.{set_if, as_set_tree, sort_of, printed_if, as_printed, as_wanted}
use Rattle.mos_rules.specs.declared.side.Side.{Side}
use Rattle.mos_rules.specs.declared.side.Side.TheVariants as side
use Rattle.mos_rules.specs.Results.{Seen, Row, in_row, with_tree, without_type}
use Rattle.mos_rules.specs.Rows.{Expects, Plain, Printed, AsSets, Files, Formals, Indexes, Cells, Labels, beside, wanted_at, given_at, converted, wrong_at, taken_at}
use Rattle.mos_rules.specs.Calls.{wrong_number, routine_value, routine, library_value, library, array_of, cell}
use Rattle.mos_rules.specs.Names.{routine_on, undeclared_on, index_name, declared_name, bare, declared_with, applied}
use Rattle.mos_rules.specs.Fields.{record_of, field_value, field_in, field_of, with_field}
use Rattle.mos_rules.specs.Forms.{set_sort, set_value, set_of, list_sort, list_value, list_of, unary_value, unary, answer_of, operand, binary_value, binary, if_sort, if_value, chosen}
use Rattle.mos_rules.specs.Indexes.{body_of, aggregate_sort, aggregate_value, aggregate}
use Rattle.mos_types.specs.Whole.{whole, index_whole}
use Rattle.mos_types.proofs.Nodes.{wholes, whole-Constant, whole-Name, whole-Cell, whole-Field, whole-Routine, whole-Library, whole-Set, whole-List, whole-If, whole-Unary, whole-Binary, whole-AsSet, whole-Show, whole-Aggregate}
use Rattle.mos_types.proofs.Noted.{never_none, none_before}

-- nothing counted before, and this is whole
abbrev pub Kept : Option Kind → Bool → Type 0
Kept before whole = (before ≡ None) × (whole ≡ true)

-- where nothing counts now
abbrev pub Keeps : Option Kind → Seen → Type 0
Keeps before seen = seen.worst ≡ None → Kept before (whole seen.tree)

abbrev pub KeepsRow : Option Kind → Row → Type 0
KeepsRow before row = row.worst ≡ None → Kept before (wholes row.trees)

pub no_type : (w worst : Option Kind) → Keeps w (without_type worst)
no_type w worst h = absurd (never_none worst NoType h)

pub noted : (w : Option Kind) (ks : _) (seen : Seen) → Keeps (least w ks) seen → Keeps w seen
noted w ks seen keeps h = let k = keeps h in (none_before w ks k.0, k.1)

-- ---- conversions

set_if-whole : (sort : Option Sort) (a : Typed) → whole (set_if sort a) ≡ whole a
set_if-whole (Some s.Range) a = whole-AsSet a
set_if-whole _ a = refl

pub as_set-whole : (a : Typed) → whole (as_set_tree a) ≡ whole a
as_set-whole a = set_if-whole (sort_of a) a

printed_if-whole : (sort : Option Sort) (a : Typed) → whole (printed_if sort a) ≡ whole a
printed_if-whole (Some s.Text) a = refl
printed_if-whole _ a = whole-Show a

printed-whole : (a : Typed) → whole (as_printed a) ≡ whole a
printed-whole a = printed_if-whole (sort_of a) a

pub wanted-whole : (sort : Sort) (a : Typed) → whole (as_wanted sort a) ≡ whole a
wanted-whole (s.Set member) a = as_set-whole a
wanted-whole _ a = refl

beside-whole : (other : Option Sort) (a : Typed) → whole (beside other a) ≡ whole a
beside-whole (Some (s.Set member)) a = as_set-whole a
beside-whole (Some s.EmptySet) a = as_set-whole a
beside-whole _ a = refl

given_at-whole : (wanted : Option Sort) (a : Typed) → whole (given_at wanted a) ≡ whole a
given_at-whole None a = refl
given_at-whole (Some sort) a = wanted-whole sort a

converted-whole : (expected : Expects) (at : ℕ) (a : Typed) → whole (converted expected at a) ≡ whole a
converted-whole Plain at a = refl
converted-whole Printed at a = printed-whole a
converted-whole AsSets at a = as_set-whole a
converted-whole Files at a = refl
converted-whole (Formals sorts) at a = given_at-whole (slice_get sorts at) a
converted-whole (Indexes members) at a = given_at-whole (wanted_at (Indexes members) at) a
converted-whole (Cells sort) at a = wanted-whole sort a
converted-whole (Labels value) at a = beside-whole (Some value) a

pub taken : (w : Option Kind) (expected : Expects) (at : ℕ) (seen : Seen) → Keeps w seen → Keeps w (taken_at expected at seen)
taken w expected at seen keeps h =
    let k = keeps (none_before seen.worst (wrong_at expected at seen.tree) h) in
    (k.0, converted-whole expected at seen.tree ∙ k.1)

-- ---- calls and cells

routine_value-keeps : (w : Option Kind) (sort : Option Sort) (n : List ℕ) (all : List Typed) (worst : Option Kind)
    → (worst ≡ None → Kept w (wholes all)) → Keeps w (routine_value sort n all worst)
routine_value-keeps w (Some sort) n all worst keeps h = let k = keeps h in (k.0, whole-Routine sort n all ∙ k.1)
routine_value-keeps w None n all worst keeps h = no_type w worst h

pub routine-keeps : (w : Option Kind) (signature : Signature) (n : List ℕ) (r : Row) → KeepsRow w r → Keeps w (routine signature n r)
routine-keeps w signature n r keeps =
    let ks = wrong_number (length signature.formals) r.trees in
    routine_value-keeps w signature.result n r.trees (least r.worst ks) (λ h. keeps (none_before r.worst ks h))

library_value-keeps : (w : Option Kind) (sort : Option Sort) (function : Function) (all : List Typed) (worst : Option Kind)
    → (worst ≡ None → Kept w (wholes all)) → Keeps w (library_value sort function all worst)
library_value-keeps w (Some sort) function all worst keeps h = let k = keeps h in (k.0, whole-Library sort function all ∙ k.1)
library_value-keeps w None function all worst keeps h = no_type w worst h

pub library-keeps : (w : Option Kind) (callable : Callable) (r : Row) → KeepsRow w r → Keeps w (library callable r)
library-keeps w callable r keeps =
    let ks = wrong_call callable.takes r.trees in
    library_value-keeps w (sort_given callable.gives r.trees) callable.function r.trees (least r.worst ks) (λ h. keeps (none_before r.worst ks h))

cell-keeps : (w : Option Kind) (array : Option ArraySort) (place : Where) (n : List ℕ) (r : Row) → KeepsRow w r → Keeps w (cell array place n r)
cell-keeps w (Some array) place n r keeps h =
    let k = keeps (none_before r.worst (wrong_number (length array.indexes) r.trees) h) in
    (k.0, whole-Cell array.cell array.dynamic place n r.trees ∙ k.1)
cell-keeps w None place n r keeps h = no_type w r.worst h

-- ---- names

routine_on-keeps : (w : Option Kind) (on : Side) (signature : Signature) (n : List ℕ) (r : Row) → KeepsRow w r → Keeps w (routine_on on signature n r)
routine_on-keeps w side.Value signature n r keeps = routine-keeps w signature n r keeps
routine_on-keeps w _ signature n r keeps = no_type w r.worst

undeclared_on-keeps : (w : Option Kind) (on : Side) (found : Undeclared) (r : Row) → KeepsRow w r → Keeps w (undeclared_on on found r)
undeclared_on-keeps w side.Value (u.Function callable) r keeps = library-keeps w callable r keeps
undeclared_on-keeps w _ _ r keeps = no_type w r.worst

no_row : (w : Option Kind) → KeepsRow w (in_row [] w)
no_row w h = (h, refl)

index_name-keeps : (sort : Option Sort) (n : List ℕ) (w : Option Kind) → Keeps w (index_name sort n w)
index_name-keeps (Some sort) n w h = (h, whole-Name sort where_.Index n)
index_name-keeps None n w h = no_type w w h

declared_name-keeps : (on : Side) (r : Role) (place : Where) (n : List ℕ) (w : Option Kind) → Keeps w (declared_name on r place n w)
declared_name-keeps on (role.Constant sort value) place n w h = (h, whole-Constant sort place n)
declared_name-keeps on (role.Parameter sort) place n w h = (h, whole-Name sort place n)
declared_name-keeps on (role.Variable sort) place n w h = (h, whole-Name sort place n)
declared_name-keeps on (role.Formal sort) place n w h = (h, whole-Name sort place n)
declared_name-keeps on (role.Record sort) place n w h = no_type w w h
declared_name-keeps on (role.Routine signature) place n w h = routine_on-keeps w on signature n (in_row [] w) (no_row w) h

pub bare-keeps : (on : Side) (jobs : Bool) (meaning : Meaning) (n : List ℕ) (w : Option Kind) → Keeps w (bare on jobs meaning n w)
bare-keeps on jobs (IsIndex sort) n w = index_name-keeps sort n w
bare-keeps on jobs (Declared place r) n w = declared_name-keeps on r place n w
bare-keeps on jobs NotDeclared n w = undeclared_on-keeps w on (undeclared_meaning jobs n) (in_row [] w) (no_row w)

declared_with-keeps : (w : Option Kind) (on : Side) (arrays : List ArraySort) (given : Role) (place : Where) (n : List ℕ) (r : Row)
    → KeepsRow w r → Keeps w (declared_with on arrays given place n r)
declared_with-keeps w on arrays (role.Variable sort) place n r keeps = cell-keeps w (array_of arrays sort) place n r keeps
declared_with-keeps w on arrays (role.Formal sort) place n r keeps = cell-keeps w (array_of arrays sort) place n r keeps
declared_with-keeps w on arrays (role.Routine signature) place n r keeps = routine_on-keeps w on signature n r keeps
declared_with-keeps w on arrays _ place n r keeps = no_type w r.worst

pub applied-keeps : (w : Option Kind) (on : Side) (scope : Scope) (meaning : Meaning) (n : List ℕ) (r : Row)
    → KeepsRow w r → Keeps w (applied on scope meaning n r)
applied-keeps w on scope (IsIndex sort) n r keeps = no_type w r.worst
applied-keeps w on scope (Declared place found) n r keeps = declared_with-keeps w on scope.arrays found place n r keeps
applied-keeps w on scope NotDeclared n r keeps = undeclared_on-keeps w on (undeclared_meaning scope.jobs n) r keeps

-- ---- fields

field_value-keeps : (w : Option Kind) (sort : Option Sort) (number : ℕ) (field : List ℕ) (seen : Seen)
    → Keeps w seen → Keeps w (field_value sort number field seen)
field_value-keeps w (Some sort) number field seen keeps h = let k = keeps h in (k.0, whole-Field sort seen.tree number ∙ k.1)
field_value-keeps w None number field seen keeps h = absurd (never_none seen.worst (Unknown field) h)

field_in-keeps : (w : Option Kind) (found : Option RecordSort) (field : List ℕ) (seen : Seen) → Keeps w seen → Keeps w (field_in found field seen)
field_in-keeps w (Some found) field seen keeps = field_value-keeps w _ _ field seen keeps
field_in-keeps w None field seen keeps = field_value-keeps w None 0 field seen keeps

field_of-keeps : (w : Option Kind) (records : List RecordSort) (sort : Option Sort) (field : List ℕ) (seen : Seen)
    → Keeps w seen → Keeps w (field_of records sort field seen)
field_of-keeps w records None field seen keeps h = no_type w seen.worst h
field_of-keeps w records (Some sort) field seen keeps h = field_in-keeps w (record_of records sort) field seen keeps h

pub with_field-keeps : (w : Option Kind) (records : List RecordSort) (field : Option (List ℕ)) (seen : Seen)
    → Keeps w seen → Keeps w (with_field records field seen)
with_field-keeps w records None seen keeps = keeps
with_field-keeps w records (Some field) seen keeps = field_of-keeps w records (sort_of seen.tree) field seen keeps

-- ---- literals, operators and `if`

set_value-keeps : (w : Option Kind) (sort : Option Sort) (r : Row) → KeepsRow w r → Keeps w (set_value sort r.trees r.worst)
set_value-keeps w (Some sort) r keeps h = let k = keeps h in (k.0, whole-Set sort r.trees ∙ k.1)
set_value-keeps w None r keeps h = no_type w r.worst h

pub set-keeps : (w : Option Kind) (r : Row) → KeepsRow w r → Keeps w (set_of r.trees r.worst)
set-keeps w r keeps = set_value-keeps w (set_sort r.trees) r keeps

list_value-keeps : (w : Option Kind) (sort : Option Sort) (r : Row) → KeepsRow w r → Keeps w (list_value sort r.trees r.worst)
list_value-keeps w (Some sort) r keeps h = let k = keeps h in (k.0, whole-List sort r.trees ∙ k.1)
list_value-keeps w None r keeps h = no_type w r.worst h

pub list-keeps : (w : Option Kind) (r : Row) → KeepsRow w r → Keeps w (list_of r.trees r.worst)
list-keeps w r keeps = list_value-keeps w (list_sort r.trees) r keeps

unary_if-keeps : (w : Option Kind) (has : Bool) (operator : UnaryOperator) (a : Seen)
    → Keeps w a → Keeps w (if has then with_tree (v.Unary operator a.tree) a.worst else without_type a.worst)
unary_if-keeps w true operator a keeps h = let k = keeps h in (k.0, whole-Unary operator a.tree ∙ k.1)
unary_if-keeps w false operator a keeps h = no_type w a.worst h

unary_value-keeps : (w : Option Kind) (operator : UnaryOperator) (sort : Option Sort) (a : Seen) → Keeps w a → Keeps w (unary_value operator sort a)
unary_value-keeps w operator (Some sort) a keeps = unary_if-keeps w (has_unary operator sort) operator a keeps
unary_value-keeps w operator None a keeps = no_type w a.worst

pub unary-keeps : (w : Option Kind) (operator : UnaryOperator) (a : Seen) → Keeps w a → Keeps w (unary operator a)
unary-keeps w operator a keeps = unary_value-keeps w operator (sort_of a.tree) a keeps

pub operand-whole : (operation : Operation) (other : Option Sort) (a : Typed) → whole (operand operation other a) ≡ whole a
operand-whole o.Unite other a = as_set-whole a
operand-whole o.Meet other a = as_set-whole a
operand-whole o.Without other a = as_set-whole a
operand-whole o.Join other a = printed-whole a
operand-whole o.Equal other a = beside-whole other a
operand-whole o.NotEqual other a = beside-whole other a
operand-whole _ other a = refl

-- both are whole
both : (a b : Bool) → a ≡ true → b ≡ true → (a && b) ≡ true
both a b h k = rw (h) k

binary_value-keeps : (w : Option Kind) (answer : Answer) (a b : Typed) (worst : Option Kind)
    → (worst ≡ None → Kept w (whole a) × (whole b ≡ true)) → Keeps w (binary_value answer a b worst)
binary_value-keeps w (Some (operation, sort)) a b worst keeps h =
    let k = keeps h in
    let x = operand operation (sort_of b) a in
    let y = operand operation (sort_of a) b in
    (k.0.0, whole-Binary sort operation x y ∙ both (whole x) (whole y) (operand-whole operation (sort_of b) a ∙ k.0.1) (operand-whole operation (sort_of a) b ∙ k.1))
binary_value-keeps w None a b worst keeps h = no_type w worst h

pub binary-keeps : (w : Option Kind) (operator : BinaryOperator) (a b : Seen) → Keeps w a → Keeps a.worst b → Keeps w (binary operator a.tree b)
binary-keeps w operator a b first second =
    binary_value-keeps w (answer_of operator (sort_of a.tree) (sort_of b.tree)) a.tree b.tree b.worst
    (λ h. let k = second h in (first k.0, k.1))

if_value-keeps : (w : Option Kind) (sort : Option Sort) (c a b : Typed) (worst : Option Kind)
    → (worst ≡ None → Kept w (whole c) × (whole a ≡ true) × (whole b ≡ true)) → Keeps w (if_value sort c a b worst)
if_value-keeps w (Some sort) c a b worst keeps h =
    let k = keeps h in
    let x = beside (sort_of b) a in
    let y = beside (sort_of a) b in (
      k.0.0,
      whole-If sort c x y
          ∙ both (whole c) (whole x && whole y) k.0.1
          (both (whole x) (whole y) (beside-whole (sort_of b) a ∙ k.1) (beside-whole (sort_of a) b ∙ k.2)),
    )
if_value-keeps w None c a b worst keeps h = no_type w worst h

pub chosen-keeps : (w : Option Kind) (c a b : Seen) → Keeps w c → Keeps c.worst a → Keeps a.worst b → Keeps w (chosen c.tree a.tree b)
chosen-keeps w c a b first second third =
    if_value-keeps w (if_sort (sort_of c.tree) (sort_of a.tree) (sort_of b.tree)) c.tree a.tree b.tree b.worst
    (λ h. let k = third h in let j = second k.0 in (first j.0, j.1, k.1))

-- ---- aggregates

body-whole : (op : AggregateOperator) (body : Typed) → whole (body_of op body) ≡ whole body
body-whole aggregate_operator.Union body = as_set-whole body
body-whole _ body = refl

aggregate_value-keeps : (w : Option Kind) (op : AggregateOperator) (sort : Option Sort) (index : Index Typed) (body : Typed) (worst : Option Kind)
    → (worst ≡ None → Kept w (index_whole (in_index whole index)) × (whole body ≡ true)) → Keeps w (aggregate_value op sort index body worst)
aggregate_value-keeps w op (Some sort) index body worst keeps h =
    let k = keeps h in
    let x = body_of op body in
    (k.0.0, whole-Aggregate sort op index x ∙ both (index_whole (in_index whole index)) (whole x) k.0.1 (body-whole op body ∙ k.1))
aggregate_value-keeps w op None index body worst keeps h = no_type w worst h

pub aggregate-keeps : (w : Option Kind) (op : AggregateOperator) (index : Index Typed) (body : Seen)
    → (body.worst ≡ None → Kept w (index_whole (in_index whole index)) × (whole body.tree ≡ true)) → Keeps w (aggregate op index body)
aggregate-keeps w op index body keeps = aggregate_value-keeps w op (aggregate_sort op (sort_of body.tree)) index body.tree body.worst keeps
