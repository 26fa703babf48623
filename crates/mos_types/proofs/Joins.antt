-- What is seen of a name behind several steps, each of which is known by its tree and by what counts.

use Rattle.std.proofs.Common.{◌≡◌, Bool, true, false, not, List, [], ◌∷◌, ◌++◌, map, Option, Some, None, length, refl, sym, ap, ◌∙◌}
use Rattle.std.proofs.lemmas.List.{length-map}
use Rattle.mos_text.specs.declared.kind.Kind.{Kind}
use Rattle.mos_text.specs.declared.kind.Kind.TheVariants.{NoType}
use Rattle.mos_names.specs.NameLists.{Name}
use Rattle.mos_tree.specs.declared.expr.Expr.{Expr}
use Rattle.mos_tree.specs.declared.statement.Assignment.{Assignment}
use Rattle.mos_tree.specs.declared.statement.Reference.{Reference}
use Rattle.mos_sorts.specs.declared.sort.RecordSort.{RecordSort}
use Rattle.mos_sorts.specs.declared.scope.Scope.{Scope}
use Rattle.mos_sorts.specs.declared.scope.Bound.{Bound}
use Rattle.mos_sorts.specs.declared.typed.Typed.{Typed}
use Rattle.mos_sorts.specs.declared.function.Callable.{Callable}
use Rattle.mos_sorts.specs.Kinds.{least, sooner, breaks}
use Rattle.mos_sorts.specs.Library.{wrong_call, is_procedure}
use Rattle.mos_sorts.specs.Scopes.{Meaning, meaning_of}
use Rattle.mos_rules.specs.declared.side.Side.{Side}
use Rattle.mos_rules.specs.declared.side.Side.TheVariants.{Value}
use Rattle.mos_rules.specs.Results.{Seen, Row, with_tree, in_row}
use Rattle.mos_rules.specs.Rows.{Expects}
use Rattle.mos_rules.specs.Names.{wrong_name, bare, applied, expected_by}
use Rattle.mos_rules.specs.Fields.{with_field}
use Rattle.mos_types.specs.Looks.{look, look_all, named, with_brackets}
use Rattle.mos_types.specs.Statements.{arguments_of, call_of, look_call}
use Rattle.mos_types.specs.Assignments.{look_target, assigned_to, declaring, new_name, look_sides, look_assignment}

seen_of : (seen : Seen) (tree : Typed) (w : Option Kind) → tree ≡ seen.tree → w ≡ seen.worst → with_tree tree w ≡ seen
seen_of seen tree w e f = ap (λ t. with_tree t w) e ∙ ap (with_tree seen.tree) f

row_of : (row : Row) (trees : List Typed) (w : Option Kind) → trees ≡ row.trees → w ≡ row.worst → in_row trees w ≡ row
row_of row trees w e f = ap (λ ts. in_row ts w) e ∙ ap (in_row row.trees) f

-- a name without brackets
pub named-by : (on : Side) (n : Name) (field : Option Name) (scope : Scope) (bound : List Bound) (w : Option Kind)
    → (records : List RecordSort) (meaning : Meaning) (noted : Option Kind) (tree : Typed) (later : Option Kind) → records ≡ scope.records
    → meaning ≡ meaning_of n scope bound → noted ≡ least w (wrong_name on false n scope.jobs meaning) → tree ≡ (bare on scope.jobs meaning n noted).tree
    → later ≡ (bare on scope.jobs meaning n noted).worst
    → with_field records field (with_tree tree later) ≡ named on n field scope bound w
named-by on n field scope bound w records meaning noted tree later is_records is_meaning is_noted is_tree is_later =
    ap (λ r. with_field r field (with_tree tree later)) is_records
    ∙ ap (with_field scope.records field)
    (seen_of (bare on scope.jobs meaning n noted) tree later is_tree is_later
    ∙ ap (bare on scope.jobs meaning n) is_noted
    ∙ ap (λ m. bare on scope.jobs m n (least w (wrong_name on false n scope.jobs m))) is_meaning)

-- a name with brackets
pub with_brackets-by : (on : Side) (n : Name) (all : List Expr) (field : Option Name) (scope : Scope) (bound : List Bound) (w : Option Kind)
    → (records : List RecordSort) (meaning : Meaning) (noted : Option Kind) (expected : Expects) (trees : List Typed) (taken : Option Kind) (tree : Typed)
    → (later : Option Kind) → records ≡ scope.records → meaning ≡ meaning_of n scope bound → noted ≡ least w (wrong_name on true n scope.jobs meaning)
    → expected ≡ expected_by on scope meaning n (length all) → trees ≡ (look_all expected all scope bound noted).trees
    → taken ≡ (look_all expected all scope bound noted).worst → tree ≡ (applied on scope meaning n (in_row trees taken)).tree
    → later ≡ (applied on scope meaning n (in_row trees taken)).worst
    → with_field records field (with_tree tree later) ≡ with_brackets on n (map look all) field scope bound w
with_brackets-by on n all field scope bound w records meaning noted expected trees taken tree later is_records is_meaning is_noted is_expected is_trees is_taken is_tree is_later =
    ap (λ r. with_field r field (with_tree tree later)) is_records
    ∙ ap (with_field scope.records field)
    (seen_of (applied on scope meaning n (in_row trees taken)) tree later is_tree is_later
    ∙ ap (applied on scope meaning n) (row_of (look_all expected all scope bound noted) trees taken is_trees is_taken)
    ∙ ap (λ e. applied on scope meaning n (look_all e all scope bound noted)) is_expected
    ∙ ap (λ k. applied on scope meaning n (look_all (expected_by on scope meaning n (length all)) all scope bound k)) is_noted
    ∙ ap
    (λ m.
    applied on scope m n
    (look_all (expected_by on scope m n (length all)) all scope bound (least w (wrong_name on true n scope.jobs m))))
    is_meaning
    ∙ ap
    (λ count.
    applied on scope (meaning_of n scope bound) n
    (look_all (expected_by on scope (meaning_of n scope bound) n count) all scope bound
    (least w (wrong_name on true n scope.jobs (meaning_of n scope bound)))))
    (sym (length-map all look)))

-- a call
pub look_call-by : (n : Name) (all : List Expr) (scope : Scope) (bound : List Bound) (w : Option Kind)
    → (meaning : Meaning) (noted : Option Kind) (expected : Expects) (trees : List Typed) (taken : Option Kind)
    → meaning ≡ meaning_of n scope bound → noted ≡ least w (wrong_name Value true n scope.jobs meaning)
    → expected ≡ arguments_of scope.jobs meaning n (length all) → trees ≡ (look_all expected all scope bound noted).trees
    → taken ≡ (look_all expected all scope bound noted).worst
    → call_of scope.jobs meaning n (in_row trees taken) ≡ look_call n all scope bound w
look_call-by n all scope bound w meaning noted expected trees taken is_meaning is_noted is_expected is_trees is_taken =
    ap (call_of scope.jobs meaning n) (row_of (look_all expected all scope bound noted) trees taken is_trees is_taken)
    ∙ ap (λ e. call_of scope.jobs meaning n (look_all e all scope bound noted)) is_expected
    ∙ ap (λ k. call_of scope.jobs meaning n (look_all (arguments_of scope.jobs meaning n (length all)) all scope bound k)) is_noted
    ∙ ap
    (λ m.
    call_of scope.jobs m n
    (look_all (arguments_of scope.jobs m n (length all)) all scope bound (least w (wrong_name Value true n scope.jobs m))))
    is_meaning

least_append : (worst : Option Kind) (before after : List Kind) → least (least worst before) after ≡ least worst (before ++ after)
least_append worst [] after = refl
least_append worst (k ∷ ks) after = least_append (sooner worst k) ks after

-- a call of the library
pub library_called-by : (w noted later : Option Kind) (callable : Callable) (all seen : List Typed) (procedure : Bool) → seen ≡ all
    → noted ≡ least w (wrong_call callable.takes seen) → procedure ≡ is_procedure callable.gives
    → later ≡ least noted (breaks (not procedure) NoType)
    → later ≡ least w (wrong_call callable.takes all ++ breaks (not (is_procedure callable.gives)) NoType)
library_called-by w noted later callable all seen procedure is_seen is_noted is_procedure_of is_later =
    is_later
    ∙ ap (λ k. least k (breaks (not procedure) NoType)) is_noted
    ∙ ap (λ ts. least (least w (wrong_call callable.takes ts)) (breaks (not procedure) NoType)) is_seen
    ∙ ap (λ b. least (least w (wrong_call callable.takes all)) (breaks (not b) NoType)) is_procedure_of
    ∙ least_append w (wrong_call callable.takes all) (breaks (not (is_procedure callable.gives)) NoType)

-- an assignment that declares a variable
pub declaring-by : (target : Reference) (operator : Assignment) (value : Expr) (scope : Scope) (bound : List Bound) (w : Option Kind)
    → (n : Name) (tree : Typed) (later : Option Kind) → Some n ≡ new_name scope bound operator target
    → tree ≡ (look value scope bound w).tree → later ≡ (look value scope bound w).worst
    → declaring scope.inside n (with_tree tree later) ≡ look_assignment target operator value scope bound w
declaring-by target operator value scope bound w n tree later is_new is_tree is_later =
    ap (declaring scope.inside n) (seen_of (look value scope bound w) tree later is_tree is_later)
    ∙ ap (λ found. look_sides found target operator value scope bound w) is_new

-- an assignment to what is there
pub assigned_to-by : (target : Reference) (operator : Assignment) (value : Expr) (scope : Scope) (bound : List Bound) (w : Option Kind)
    → (left : Typed) (between : Option Kind) (tree : Typed) (later : Option Kind) → None ≡ new_name scope bound operator target
    → left ≡ (look_target target scope bound w).tree → between ≡ (look_target target scope bound w).worst
    → tree ≡ (look value scope bound between).tree → later ≡ (look value scope bound between).worst
    → assigned_to operator left (with_tree tree later) ≡ look_assignment target operator value scope bound w
assigned_to-by target operator value scope bound w left between tree later is_none is_left is_between is_tree is_later =
    ap (assigned_to operator left) (seen_of (look value scope bound between) tree later is_tree is_later)
    ∙ ap (λ x. assigned_to operator x (look value scope bound between)) is_left
    ∙ ap (λ k. assigned_to operator (look_target target scope bound w).tree (look value scope bound k)) is_between
    ∙ ap (λ found. look_sides found target operator value scope bound w) is_none
