-- A tree is no larger than the pieces that spell it.

use Rattle.std.proofs.Common.{◌≡◌, ℕ, ◌+◌, ◌≤◌, List, [], ◌∷◌, ◌++◌, map, refl, arith}
use Rattle.std.specs.Prelude.{sum, Option, Some, None}
use Rattle.mos_tree.specs.declared.expr.Expr.{Expr}
use Rattle.mos_tree.specs.declared.declaration.BaseType.{BaseType}
use Rattle.mos_tree.specs.declared.declaration.Parameter.{Parameter}
use Rattle.mos_tree.specs.declared.declaration.FieldGroup.{FieldGroup}
use Rattle.mos_tree.specs.declared.declaration.Item.TheVariants as item_kind
use Rattle.mos_tree.specs.declared.source.RoutinePart.TheVariants as routine_part
use Rattle.mos_tree.specs.declared.source.Top.TheVariants as top
use Rattle.mos_tree.specs.declared.form.Form.{Form}
use Rattle.mos_tree.specs.declared.form.Form.TheVariants as form_kind
use Rattle.mos_tree.specs.declared.form.ConditionKeyword.TheVariants as conditional
use Rattle.mos_tree.specs.declared.form.Keyword.{Keyword}
use Rattle.mos_tree.specs.declared.form.Keyword.TheVariants as keyword
use Rattle.mos_tree.specs.declared.form.PieceForm.{PieceForm}
use Rattle.mos_tree.specs.declared.form.Simple.{Simple}
use Rattle.mos_tree.specs.declared.form.Simple.TheVariants as simple
use Rattle.mos_tree.specs.Forms.{piece}
use Rattle.mos_tree.specs.Nodes.{nodes}
use Rattle.mos_tree.specs.Sizes.{size_of_field, size_of_parameter, size_of_item, size_of_declared, size_of_statement, size_of_part, size_of_top, size_of_tree, size_of_simple, size_of_keyword, size_of_form, size_of_pieces}
use Rattle.mos_source.specs.Statements.{WrittenStatement, single, bare, if_, case_, forall_, while_, repeat_, do_, initializations, Block, no_statement, then_one, Arms, no_arm, arm, Last, without, otherwise, Alternatives, no_alternative, alternative, arm_form, spell_rows, spell, spell_block, spell_arms, spell_last, spell_alternatives, statement_of, label_groups, first_line, arm_of, alternative_of, tree, trees, trees_of_arms, trees_of_last, trees_of_alternatives}
use Rattle.mos_source.specs.Sources.{Items, no_item, constant, variables, record_type, Parts, no_part, declares, states, Tops, no_top, sets, declares_top, defines, announces, states_top, Source, spell_parameter, spell_field, spell_items, spell_declarations, spell_parts, heading_form, end_form, spell_tops, spell_head, spell_source, items_of, declaration_block, parts_of, tops_of, tree_of}
use Rattle.mos_source.proofs.Sums.{sum-cons, sum-append, sum-push}
use Rattle.mos_source.proofs.StatementSizes as form
use Rattle.mos_source.proofs.StatementSizes.{size_of_block, size_of_whole_arm, size_of_whole_alternative}

-- ---- pieces

abbrev size_of_piece : PieceForm → ℕ
size_of_piece x = size_of_form x.form

behind : (xs ys : List PieceForm) → size_of_pieces (xs ++ ys) ≡ size_of_pieces xs + size_of_pieces ys
behind xs ys = sum-append size_of_piece xs ys

first : (line : ℕ) (x : Form) (xs : List PieceForm) → size_of_pieces (piece line x ∷ xs) ≡ size_of_form x + size_of_pieces xs
first line x xs = sum-cons size_of_piece (piece line x) xs

last_one : (xs : List PieceForm) (line : ℕ) (x : Form) → size_of_pieces (xs ++ piece line x ∷ []) ≡ size_of_pieces xs + size_of_form x
last_one xs line x = sum-push size_of_piece xs (piece line x)

-- pieces of a block with the piece that opens it and the word that closes it
closed_block : (line : ℕ) (x : Form) (xs : List PieceForm) (end : ℕ) (word : Keyword) → size_of_pieces (piece line x ∷ (xs ++ piece end (form_kind.Keyword word) ∷ [])) ≡ size_of_form x + size_of_pieces xs + size_of_keyword word
closed_block line x xs end word = omega (arith, first line x (xs ++ piece end (form_kind.Keyword word) ∷ []), last_one xs end (form_kind.Keyword word))

-- ---- statements

size_of_single : (line : ℕ) (x : Simple) → size_of_statement (statement_of line x) ≡ size_of_simple x
size_of_single line (simple.Assign target operator value) = form.size_of_assign line target operator value
size_of_single line (simple.Fill name values) = form.size_of_fill line name values
size_of_single line (simple.Call name arguments) = form.size_of_call line name arguments
size_of_single line simple.Break = form.size_of_break line
size_of_single line simple.Next = form.size_of_next line

-- one for the `if` of these arms, where there is one
abbrev opened_in : Arms → ℕ
opened_in no_arm = 0
opened_in (arm before line c b) = 1

size_of_arm_form : (arms : Arms) (c : Expr) → size_of_form (arm_form arms c) + opened_in arms ≡ nodes c + 2
size_of_arm_form no_arm c = omega arith
size_of_arm_form (arm before line d b) c = omega arith

mutual
  size_of_written : (w : WrittenStatement) → size_of_statement (tree w) ≤ size_of_pieces (spell w)
  size_of_written (single line x) = omega (arith, size_of_single line x, first line (form_kind.Simple x) [])
  size_of_written (bare line name) = omega (arith, form.size_of_call line name [], first line (form_kind.Bare name) [])
  size_of_written (if_ arms line c b last end) =
      omega (
        arith,
        form.size_of_if (first_line arms line) (trees_of_arms arms ++ arm_of line c (trees b) ∷ []) (trees_of_last last),
        sum-push size_of_whole_arm (trees_of_arms arms) (arm_of line c (trees b)),
        behind (spell_arms arms) (piece line (arm_form arms c) ∷ (spell_block b ++ (spell_last last ++ piece end (form_kind.Keyword keyword.EndIf) ∷ []))),
        first line (arm_form arms c) (spell_block b ++ (spell_last last ++ piece end (form_kind.Keyword keyword.EndIf) ∷ [])),
        behind (spell_block b) (spell_last last ++ piece end (form_kind.Keyword keyword.EndIf) ∷ []),
        last_one (spell_last last) end (form_kind.Keyword keyword.EndIf),
        size_of_arm_form arms c,
        size_of_arms arms,
        size_of_trees b,
        size_of_otherwise last,
      )
  size_of_written (case_ line value xs last end) =
      omega (
        arith,
        form.size_of_case line value (trees_of_alternatives xs) (trees_of_last last),
        first line (form_kind.Guarded conditional.Case value) (spell_alternatives xs ++ (spell_last last ++ piece end (form_kind.Keyword keyword.EndCase) ∷ [])),
        behind (spell_alternatives xs) (spell_last last ++ piece end (form_kind.Keyword keyword.EndCase) ∷ []),
        last_one (spell_last last) end (form_kind.Keyword keyword.EndCase),
        size_of_alternatives xs,
        size_of_otherwise last,
      )
  size_of_written (forall_ line index body) = omega (arith, form.size_of_forall line index (tree body), first line (form_kind.Forall index) (spell body), size_of_written body)
  size_of_written (while_ line c body) = omega (arith, form.size_of_while line c (tree body), first line (form_kind.Guarded conditional.While c) (spell body), size_of_written body)
  size_of_written (repeat_ line b until c) =
      omega (
        arith,
        form.size_of_repeat line (trees b) until c,
        first line (form_kind.Keyword keyword.Repeat) (spell_block b ++ piece until (form_kind.Guarded conditional.Until c) ∷ []),
        last_one (spell_block b) until (form_kind.Guarded conditional.Until c),
        size_of_trees b,
      )
  size_of_written (do_ line b end) = omega (arith, form.size_of_do line (trees b), closed_block line (form_kind.Keyword keyword.Do) (spell_block b) end keyword.EndDo, size_of_trees b)
  size_of_written (initializations line direction name rows end) =
      omega (arith, form.size_of_initializations line direction name (label_groups rows), closed_block line (form_kind.Initializations direction name) (spell_rows rows) end keyword.EndInitializations)

  size_of_trees : (b : Block) → size_of_block (trees b) ≤ size_of_pieces (spell_block b)
  size_of_trees no_statement = omega arith
  size_of_trees (then_one b w) = omega (arith, sum-push size_of_statement (trees b) (tree w), behind (spell_block b) (spell w), size_of_trees b, size_of_written w)

  size_of_arms : (arms : Arms) → sum (map size_of_whole_arm (trees_of_arms arms)) + opened_in arms ≤ size_of_pieces (spell_arms arms)
  size_of_arms no_arm = omega arith
  size_of_arms (arm before line c b) =
      omega (
        arith,
        sum-push size_of_whole_arm (trees_of_arms before) (arm_of line c (trees b)),
        behind (spell_arms before) (piece line (arm_form before c) ∷ spell_block b),
        first line (arm_form before c) (spell_block b),
        size_of_arm_form before c,
        size_of_arms before,
        size_of_trees b,
      )

  size_of_otherwise : (last : Last) → size_of_block (trees_of_last last) ≤ size_of_pieces (spell_last last)
  size_of_otherwise without = omega arith
  size_of_otherwise (otherwise line b) = omega (arith, first line (form_kind.Keyword keyword.Else) (spell_block b), size_of_trees b)

  size_of_alternatives : (xs : Alternatives) → sum (map size_of_whole_alternative (trees_of_alternatives xs)) ≤ size_of_pieces (spell_alternatives xs)
  size_of_alternatives no_alternative = omega arith
  size_of_alternatives (alternative before line labels w) =
      omega (
        arith,
        sum-push size_of_whole_alternative (trees_of_alternatives before) (alternative_of line labels (tree w)),
        behind (spell_alternatives before) (piece line (form_kind.Alternative labels) ∷ spell w),
        first line (form_kind.Alternative labels) (spell w),
        size_of_alternatives before,
        size_of_written w,
      )

-- ---- declarations

size_of_fields : (fields : List FieldGroup) → sum (map size_of_field fields) ≡ size_of_pieces (map spell_field fields)
size_of_fields [] = refl
size_of_fields (x ∷ xs) = omega (arith, sum-cons size_of_field x xs, first x.line (form_kind.Typed x.names x.typ) (map spell_field xs), size_of_fields xs)

size_of_parameters : (parameters : List Parameter) → sum (map size_of_parameter parameters) ≡ size_of_pieces (map spell_parameter parameters)
size_of_parameters [] = refl
size_of_parameters (x ∷ xs) = omega (arith, sum-cons size_of_parameter x xs, first x.line (form_kind.Definition x.name x.default) (map spell_parameter xs), size_of_parameters xs)

size_of_items : (xs : Items) → sum (map size_of_item (items_of xs)) ≤ size_of_pieces (spell_items xs)
size_of_items no_item = omega arith
size_of_items (constant xs line name value) = omega (arith, sum-push size_of_item (items_of xs) (item_kind.Constant line name value), last_one (spell_items xs) line (form_kind.Definition name value), size_of_items xs)
size_of_items (variables xs line names typ) = omega (arith, sum-push size_of_item (items_of xs) (item_kind.Variables line names typ), last_one (spell_items xs) line (form_kind.Typed names typ), size_of_items xs)
size_of_items (record_type xs line name fields end) =
    omega (
      arith,
      sum-push size_of_item (items_of xs) (item_kind.Record line name fields),
      behind (spell_items xs) (piece line (form_kind.RecordOf name) ∷ (map spell_field fields ++ piece end (form_kind.Keyword keyword.EndRecord) ∷ [])),
      closed_block line (form_kind.RecordOf name) (map spell_field fields) end keyword.EndRecord,
      size_of_fields fields,
      size_of_items xs,
    )

size_of_declarations : (line : ℕ) (items : Items) (end : ℕ) → size_of_declared (declaration_block line items) ≤ size_of_pieces (spell_declarations line items end)
size_of_declarations line items end = omega (arith, closed_block line (form_kind.Keyword keyword.Declarations) (spell_items items) end keyword.EndDeclarations, size_of_items items)

size_of_parts : (xs : Parts) → sum (map size_of_part (parts_of xs)) ≤ size_of_pieces (spell_parts xs)
size_of_parts no_part = omega arith
size_of_parts (declares xs line items end) =
    omega (arith, sum-push size_of_part (parts_of xs) (routine_part.Declarations (declaration_block line items)), behind (spell_parts xs) (spell_declarations line items end), size_of_declarations line items end, size_of_parts xs)
size_of_parts (states xs w) = omega (arith, sum-push size_of_part (parts_of xs) (routine_part.Statement (tree w)), behind (spell_parts xs) (spell w), size_of_written w, size_of_parts xs)

-- ---- sources

nothing_at_the_end : (result : Option BaseType) → size_of_form (end_form result) ≡ 0
nothing_at_the_end None = refl
nothing_at_the_end (Some typ) = refl

size_of_tops : (xs : Tops) → sum (map size_of_top (tops_of xs)) ≤ size_of_pieces (spell_tops xs)
size_of_tops no_top = omega arith
size_of_tops (sets xs line parameters end) =
    omega (
      arith,
      sum-push size_of_top (tops_of xs) (top.Parameters line parameters),
      behind (spell_tops xs) (piece line (form_kind.Keyword keyword.Parameters) ∷ (map spell_parameter parameters ++ piece end (form_kind.Keyword keyword.EndParameters) ∷ [])),
      closed_block line (form_kind.Keyword keyword.Parameters) (map spell_parameter parameters) end keyword.EndParameters,
      size_of_parameters parameters,
      size_of_tops xs,
    )
size_of_tops (declares_top xs line items end) =
    omega (arith, sum-push size_of_top (tops_of xs) (top.Declarations (declaration_block line items)), behind (spell_tops xs) (spell_declarations line items end), size_of_declarations line items end, size_of_tops xs)
size_of_tops (defines xs heading parts end) =
    omega (
      arith,
      sum-push size_of_top (tops_of xs) (top.Routine (record { heading = heading; parts = parts_of parts })),
      behind (spell_tops xs) (piece heading.line (heading_form heading) ∷ (spell_parts parts ++ piece end (end_form heading.result) ∷ [])),
      first heading.line (heading_form heading) (spell_parts parts ++ piece end (end_form heading.result) ∷ []),
      last_one (spell_parts parts) end (end_form heading.result),
      nothing_at_the_end heading.result,
      size_of_parts parts,
      size_of_tops xs,
    )
size_of_tops (announces xs heading) =
    omega (arith, sum-push size_of_top (tops_of xs) (top.Forward heading), last_one (spell_tops xs) heading.line (form_kind.Forward heading.name heading.formals heading.result), size_of_tops xs)
size_of_tops (states_top xs w) = omega (arith, sum-push size_of_top (tops_of xs) (top.Statement (tree w)), behind (spell_tops xs) (spell w), size_of_written w, size_of_tops xs)

pub size_of_source : (x : Source) → size_of_tree (tree_of x) ≤ size_of_pieces (spell_source x)
size_of_source x =
    omega (
      arith,
      first x.line (form_kind.Model x.name) (map spell_head x.heads ++ (spell_tops x.tops ++ piece x.end (form_kind.Keyword keyword.EndModel) ∷ [])),
      behind (map spell_head x.heads) (spell_tops x.tops ++ piece x.end (form_kind.Keyword keyword.EndModel) ∷ []),
      last_one (spell_tops x.tops) x.end (form_kind.Keyword keyword.EndModel),
      size_of_tops x.tops,
    )
