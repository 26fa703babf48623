-- Assignments: the left side, then the right side, what the assignment does, and whether it declares a variable.

use Rattle.std.specs.Prelude.{◌≡◌, Bool, true, false, ◌&&◌, List, Option, Some, None, option_map, map}
use Rattle.mos_text.specs.declared.kind.Kind.{Kind}
use Rattle.mos_text.specs.declared.kind.Kind.TheVariants.{NoType}
use Rattle.mos_names.specs.NameLists.{Name}
use Rattle.mos_tree.specs.declared.expr.Expr.{Expr}
use Rattle.mos_tree.specs.declared.statement.Assignment.{Assignment}
use Rattle.mos_tree.specs.declared.statement.Assignment.TheVariants as assign
use Rattle.mos_tree.specs.declared.statement.Reference.{Reference}
use Rattle.mos_tree.specs.declared.statement.Reference.TheVariants as reference
use Rattle.mos_sorts.specs.declared.sort.Sort.{Sort}
use Rattle.mos_sorts.specs.declared.sort.Sort.TheVariants as s
use Rattle.mos_sorts.specs.declared.scope.Scope.{Scope}
use Rattle.mos_sorts.specs.declared.scope.Bound.{Bound}
use Rattle.mos_sorts.specs.declared.typed.Typed.{Typed}
use Rattle.mos_sorts.specs.declared.typed.Typed.TheVariants as t
use Rattle.mos_sorts.specs.declared.typed.Where.{Where}
use Rattle.mos_sorts.specs.declared.typed.Where.TheVariants as where_
use Rattle.mos_sorts.specs.declared.typed.Operation.{Operation}
use Rattle.mos_sorts.specs.declared.function.Undeclared.{Undeclared}
use Rattle.mos_sorts.specs.declared.function.Undeclared.TheVariants as u
use Rattle.mos_sorts.specs.Kinds.{sooner}
use Rattle.mos_sorts.specs.Sorts.{when, fits}
use Rattle.mos_sorts.specs.Operators.{plus_into, minus_from}
use Rattle.mos_sorts.specs.Scopes.{Meaning, meaning_of}
use Rattle.mos_sorts.specs.Scopes.{Undeclared as NotDeclared}
use Rattle.mos_sorts.specs.Vocabulary.{undeclared_meaning}
use Rattle.mos_sorts.specs.Trees.{sort_of, as_wanted}
use Rattle.mos_rules.specs.declared.side.Side.TheVariants.{Target}
use Rattle.mos_types.specs.declared.assignment.Assigned.{Assigned}
use Rattle.mos_rules.specs.Results.{Seen, Look}
use Rattle.mos_rules.specs.Forms.{operand}
use Rattle.mos_types.specs.Looks.{look, named, with_brackets, returned}

-- what is seen of an assignment
pub record AssignmentSeen : Type 0 where
  pub target : Typed
  pub value : Typed
  -- what `+=` and `-=` do with the old value and this one
  pub operation : Option Operation
  -- the type of the variable that the assignment declares, where it does
  pub declares : Option Sort
  pub worst : Option Kind

-- the assignment as it is answered
pub record Is (answer : Assigned) (seen : AssignmentSeen) : Type 0 where
  pub target : answer.target ≡ seen.target
  pub value : answer.value ≡ seen.value
  pub operation : answer.operation ≡ seen.operation
  pub declares : answer.declares ≡ seen.declares

-- ---- the left side

-- the left side of an assignment
abbrev pub look_target : Reference → Look
look_target (reference.Name n) scope bound worst = named Target n None scope bound worst
look_target (reference.Cell n all) scope bound worst = with_brackets Target n (map look all) None scope bound worst
look_target (reference.Field n field) scope bound worst = named Target n (Some field) scope bound worst
look_target (reference.CellField n all field) scope bound worst = with_brackets Target n (map look all) (Some field) scope bound worst
look_target reference.Returned scope bound worst = returned scope.result worst

-- ---- what an assignment does

-- `:=` takes a value that fits
abbrev pub set_to : Sort → Sort → Option (Option Operation)
set_to target value = when (fits target value) None

-- `+=` takes a value with which it gives the variable's type
abbrev pub added_to : Sort → Sort → Option (Option Operation)
added_to target value = option_map (λ answer. Some answer.0) (plus_into target value)

-- and so does `-=`
abbrev pub taken_from : Sort → Sort → Option (Option Operation)
taken_from target value = option_map (λ answer. Some answer.0) (minus_from target value)

-- what an assignment does, if it can; with the operation of `+=` and `-=`
abbrev pub done : Assignment → Sort → Sort → Option (Option Operation)
done assign.Set target value = set_to target value
done assign.Add target value = added_to target value
done assign.Take target value = taken_from target value

-- what is done, where both sides have types
abbrev pub done_with : Assignment → Option Sort → Option Sort → Option (Option Operation)
done_with operator (Some target) (Some value) = done operator target value
done_with operator _ _ = None

-- the value, converted for what is done with it
abbrev pub value_for : Option Operation → Option Sort → Typed → Typed
value_for None (Some target) value = as_wanted target value
value_for None None value = value
value_for (Some operation) target value = operand operation None value

-- an assignment that can be done
abbrev pub assigned_by : Option (Option Operation) → Typed → Seen → AssignmentSeen
assigned_by (Some operation) target value =
    record {
      target = target;
      value = value_for operation (sort_of target) value.tree;
      operation = operation;
      declares = None;
      worst = value.worst;
    }
assigned_by None target value =
    record { target = target; value = value.tree; operation = None; declares = None; worst = sooner value.worst NoType }

-- an assignment to what is there, the value of which was seen behind the target
abbrev pub assigned_to : Assignment → Typed → Seen → AssignmentSeen
assigned_to operator target value = assigned_by (done_with operator (sort_of target) (sort_of value.tree)) target value

-- ---- variables that are declared by their first assignment

-- a name that is not declared: any but those of a module that is not used
abbrev pub is_free : Undeclared → Bool
is_free u.Jobs = false
is_free _ = true

-- an assignment may declare a name of this meaning
abbrev pub may_declare : Scope → Name → Meaning → Bool
may_declare scope n NotDeclared = scope.implicit && is_free (undeclared_meaning scope.jobs n)
may_declare scope n _ = false

-- the name that an assignment declares
abbrev pub new_name : Scope → List Bound → Assignment → Reference → Option Name
new_name scope bound assign.Set (reference.Name n) = when (may_declare scope n (meaning_of n scope bound)) n
new_name scope bound _ _ = None

-- the type of a variable that is declared by a value of this type: the members of sets and lists have one
abbrev pub variable_sort : Option Sort → Option Sort
variable_sort (Some s.EmptySet) = None
variable_sort (Some s.EmptyList) = None
variable_sort sort = sort

-- where a variable is declared
abbrev pub declared_where : Bool → Where
declared_where true = where_.Own
declared_where false = where_.Model

-- a variable of this type is declared
abbrev pub declared_by : Option Sort → Where → Name → Seen → AssignmentSeen
declared_by (Some sort) place n value =
    record { target = t.Name sort place n; value = value.tree; operation = None; declares = Some sort; worst = value.worst }
declared_by None place n value =
    record { target = t.Wrong; value = value.tree; operation = None; declares = None; worst = sooner value.worst NoType }

-- an assignment that declares a variable
abbrev pub declaring : Bool → Name → Seen → AssignmentSeen
declaring inside n value = declared_by (variable_sort (sort_of value.tree)) (declared_where inside) n value

-- ---- assignments

-- an assignment to what is there
abbrev pub look_both : Assignment → Seen → Expr → Scope → List Bound → AssignmentSeen
look_both operator target value scope bound = assigned_to operator target.tree (look value scope bound target.worst)

-- an assignment, by the name that it declares
abbrev pub look_sides : Option Name → Reference → Assignment → Expr → Scope → List Bound → Option Kind → AssignmentSeen
look_sides (Some n) target operator value scope bound worst = declaring scope.inside n (look value scope bound worst)
look_sides None target operator value scope bound worst = look_both operator (look_target target scope bound worst) value scope bound

-- an assignment
abbrev pub look_assignment : Reference → Assignment → Expr → Scope → List Bound → Option Kind → AssignmentSeen
look_assignment target operator value scope bound worst =
    look_sides (new_name scope bound operator target) target operator value scope bound worst
