-- What `whole` says of each form of a typed tree.

use Rattle.std.proofs.Common.{◌≡◌, ℕ, ℤ, Bool, true, List, map, Option, Some, None, sym, ap, ◌∙◌, ◌&&◌}
use Rattle.mos_tree.specs.declared.expr.UnaryOperator.{UnaryOperator}
use Rattle.mos_tree.specs.declared.expr.AggregateOperator.{AggregateOperator}
use Rattle.mos_tree.specs.declared.expr.Index.{Index}
use Rattle.mos_tree.specs.Children.{in_index}
use Rattle.mos_sorts.specs.declared.sort.Sort.{Sort}
use Rattle.mos_sorts.specs.declared.function.Function.{Function}
use Rattle.mos_sorts.specs.declared.typed.Where.{Where}
use Rattle.mos_sorts.specs.declared.typed.Operation.{Operation}
use Rattle.mos_sorts.specs.declared.typed.Typed.{Typed}
use Rattle.mos_sorts.specs.declared.typed.Typed.TheVariants as v
use Rattle.mos_sorts.specs.declared.typed.Typed.TheOpen as o
use Rattle.mos_sorts.specs.declared.typed.Typed.TheFolds.{fold-roll-Typed}
use Rattle.mos_types.specs.Whole.{all_whole, index_whole, whole_step, whole}

-- each of these is whole
abbrev pub wholes : List Typed → Bool
wholes all = all_whole (map whole all)

pub whole-Integer : (n : ℤ) → whole (v.Integer n) ≡ true
whole-Integer n = ap whole (sym (v.rolls-Integer n)) ∙ fold-roll-Typed Bool whole_step (o.Integer n)

pub whole-Text : (text : List ℕ) → whole (v.Text text) ≡ true
whole-Text text = ap whole (sym (v.rolls-Text text)) ∙ fold-roll-Typed Bool whole_step (o.Text text)

pub whole-Truth : (b : Bool) → whole (v.Truth b) ≡ true
whole-Truth b = ap whole (sym (v.rolls-Truth b)) ∙ fold-roll-Typed Bool whole_step (o.Truth b)

pub whole-Constant : (sort : Sort) (place : Where) (name : List ℕ) → whole (v.Constant sort place name) ≡ true
whole-Constant sort place name = ap whole (sym (v.rolls-Constant sort place name)) ∙ fold-roll-Typed Bool whole_step (o.Constant sort place name)

pub whole-Name : (sort : Sort) (place : Where) (name : List ℕ) → whole (v.Name sort place name) ≡ true
whole-Name sort place name = ap whole (sym (v.rolls-Name sort place name)) ∙ fold-roll-Typed Bool whole_step (o.Name sort place name)

pub whole-Returned : (sort : Sort) → whole (v.Returned sort) ≡ true
whole-Returned sort = ap whole (sym (v.rolls-Returned sort)) ∙ fold-roll-Typed Bool whole_step (o.Returned sort)

pub whole-Cell : (sort : Sort) (dynamic : Bool) (place : Where) (name : List ℕ) (all : List Typed)
    → whole (v.Cell sort dynamic place name all) ≡ wholes all
whole-Cell sort dynamic place name all =
    ap whole (sym (v.rolls-Cell sort dynamic place name all)) ∙ fold-roll-Typed Bool whole_step (o.Cell sort dynamic place name all)

pub whole-Field : (sort : Sort) (a : Typed) (field : ℕ) → whole (v.Field sort a field) ≡ whole a
whole-Field sort a field = ap whole (sym (v.rolls-Field sort a field)) ∙ fold-roll-Typed Bool whole_step (o.Field sort a field)

pub whole-Routine : (sort : Sort) (name : List ℕ) (all : List Typed) → whole (v.Routine sort name all) ≡ wholes all
whole-Routine sort name all = ap whole (sym (v.rolls-Routine sort name all)) ∙ fold-roll-Typed Bool whole_step (o.Routine sort name all)

pub whole-Library : (sort : Sort) (function : Function) (all : List Typed) → whole (v.Library sort function all) ≡ wholes all
whole-Library sort function all = ap whole (sym (v.rolls-Library sort function all)) ∙ fold-roll-Typed Bool whole_step (o.Library sort function all)

pub whole-Set : (sort : Sort) (all : List Typed) → whole (v.Set sort all) ≡ wholes all
whole-Set sort all = ap whole (sym (v.rolls-Set sort all)) ∙ fold-roll-Typed Bool whole_step (o.Set sort all)

pub whole-List : (sort : Sort) (all : List Typed) → whole (v.List sort all) ≡ wholes all
whole-List sort all = ap whole (sym (v.rolls-List sort all)) ∙ fold-roll-Typed Bool whole_step (o.List sort all)

pub whole-If : (sort : Sort) (c a b : Typed) → whole (v.If sort c a b) ≡ (whole c && (whole a && whole b))
whole-If sort c a b = ap whole (sym (v.rolls-If sort c a b)) ∙ fold-roll-Typed Bool whole_step (o.If sort c a b)

pub whole-Unary : (operator : UnaryOperator) (a : Typed) → whole (v.Unary operator a) ≡ whole a
whole-Unary operator a = ap whole (sym (v.rolls-Unary operator a)) ∙ fold-roll-Typed Bool whole_step (o.Unary operator a)

pub whole-Binary : (sort : Sort) (operation : Operation) (a b : Typed) → whole (v.Binary sort operation a b) ≡ (whole a && whole b)
whole-Binary sort operation a b = ap whole (sym (v.rolls-Binary sort operation a b)) ∙ fold-roll-Typed Bool whole_step (o.Binary sort operation a b)

pub whole-AsSet : (a : Typed) → whole (v.AsSet a) ≡ whole a
whole-AsSet a = ap whole (sym (v.rolls-AsSet a)) ∙ fold-roll-Typed Bool whole_step (o.AsSet a)

pub whole-Show : (a : Typed) → whole (v.Show a) ≡ whole a
whole-Show a = ap whole (sym (v.rolls-Show a)) ∙ fold-roll-Typed Bool whole_step (o.Show a)

pub whole-Aggregate : (sort : Sort) (operator : AggregateOperator) (index : Index Typed) (body : Typed)
    → whole (v.Aggregate sort operator index body) ≡ (index_whole (in_index whole index) && whole body)
whole-Aggregate sort operator index body = by index.condition
  where
    by : (c : Option Typed) → whole (v.Aggregate sort operator (record { groups = index.groups; condition = c }) body)
        ≡ (index_whole (in_index whole (record { groups = index.groups; condition = c })) && whole body)
    by None = let at : Index Typed = record { groups = index.groups; condition = None } in
        ap whole (sym (v.rolls-Aggregate sort operator at body)) ∙ fold-roll-Typed Bool whole_step (o.Aggregate sort operator at body)
    by (Some c) = let at : Index Typed = record { groups = index.groups; condition = Some c } in
        ap whole (sym (v.rolls-Aggregate sort operator at body)) ∙ fold-roll-Typed Bool whole_step (o.Aggregate sort operator at body)

pub whole-Count : (index : Index Typed) → whole (v.Count index) ≡ index_whole (in_index whole index)
whole-Count index = by index.condition
  where
    by : (c : Option Typed) → whole (v.Count (record { groups = index.groups; condition = c }))
        ≡ index_whole (in_index whole (record { groups = index.groups; condition = c }))
    by None = let at : Index Typed = record { groups = index.groups; condition = None } in
        ap whole (sym (v.rolls-Count at)) ∙ fold-roll-Typed Bool whole_step (o.Count at)
    by (Some c) = let at : Index Typed = record { groups = index.groups; condition = Some c } in
        ap whole (sym (v.rolls-Count at)) ∙ fold-roll-Typed Bool whole_step (o.Count at)
