-- Statements as they are written: their pieces, how deep their blocks go, and their trees. A number
-- that stands first is the line of the first piece, one that stands last that of the last piece.

use Rattle.std.specs.Prelude.{ℕ, ◌+◌, max, List, [], ◌∷◌, ◌++◌, None}
use Rattle.mos_tree.specs.declared.expr.Expr.{Expr}
use Rattle.mos_tree.specs.declared.expr.Index.{Index}
use Rattle.mos_tree.specs.declared.statement.Statement.{Statement}
use Rattle.mos_tree.specs.declared.statement.Statement.TheVariants as statement_kind
use Rattle.mos_tree.specs.declared.statement.Arm.{Arm}
use Rattle.mos_tree.specs.declared.statement.Alternative.{Alternative}
use Rattle.mos_tree.specs.declared.statement.Label.{Label}
use Rattle.mos_tree.specs.declared.statement.LabelGroup.{LabelGroup}
use Rattle.mos_tree.specs.declared.statement.Direction.{Direction}
use Rattle.mos_tree.specs.declared.form.Form.TheVariants as form_kind
use Rattle.mos_tree.specs.declared.form.ConditionKeyword.TheVariants as conditional
use Rattle.mos_tree.specs.declared.form.Keyword.TheVariants as keyword
use Rattle.mos_tree.specs.declared.form.Form.{Form}
use Rattle.mos_tree.specs.declared.form.Simple.{Simple}
use Rattle.mos_tree.specs.declared.form.Simple.TheVariants as simple
use Rattle.mos_tree.specs.declared.form.PieceForm.{PieceForm}
use Rattle.mos_tree.specs.Forms.{piece}

-- rows of labels, the last one last; a name alone is a row of one label
pub data Rows : Type 0 where
  no_row : Rows
  named : Rows → ℕ → List ℕ → Rows
  labelled : Rows → ℕ → List Label → Rows

mutual
  -- a statement as it is written
  pub data WrittenStatement : Type 0 where
    single : ℕ → Simple → WrittenStatement  -- a statement of one piece
    bare : ℕ → List ℕ → WrittenStatement  -- a call by a name alone
    if_ : Arms → ℕ → Expr → Block → Last → ℕ → WrittenStatement  -- the arms, of which the last stands apart, and `else`
    case_ : ℕ → Expr → Alternatives → Last → ℕ → WrittenStatement  -- `case`
    forall_ : ℕ → Index Expr → WrittenStatement → WrittenStatement  -- `forall`
    while_ : ℕ → Expr → WrittenStatement → WrittenStatement  -- `while`
    repeat_ : ℕ → Block → ℕ → Expr → WrittenStatement  -- `repeat`, the line of `until` and its condition
    do_ : ℕ → Block → ℕ → WrittenStatement  -- `do`
    initializations : ℕ → Direction → Expr → Rows → ℕ → WrittenStatement  -- `initializations`

  -- statements one after the other, the last one last
  pub data Block : Type 0 where
    no_statement : Block
    then_one : Block → WrittenStatement → Block

  -- arms, the last one last: the first one is `if`, the others are `elif`
  pub data Arms : Type 0 where
    no_arm : Arms
    arm : Arms → ℕ → Expr → Block → Arms

  -- `else`, if it is there
  pub data Last : Type 0 where
    without : Last
    otherwise : ℕ → Block → Last

  -- the alternatives of `case`, the last one last
  pub data Alternatives : Type 0 where
    no_alternative : Alternatives
    alternative : Alternatives → ℕ → List Expr → WrittenStatement → Alternatives

-- ---- pieces

-- the piece that begins an arm behind these arms
abbrev pub arm_form : Arms → Expr → Form
arm_form no_arm condition = form_kind.Guarded conditional.If condition
arm_form (arm before line c b) condition = form_kind.Guarded conditional.Elif condition

-- the pieces of rows
abbrev pub spell_rows : Rows → List PieceForm
spell_rows no_row = []
spell_rows (named rows line name) = spell_rows rows ++ piece line (form_kind.Bare name) ∷ []
spell_rows (labelled rows line labels) = spell_rows rows ++ piece line (form_kind.Labels labels) ∷ []

abbrev mutual
  -- the pieces of a statement
  pub spell : WrittenStatement → List PieceForm
  spell (single line x) = piece line (form_kind.Simple x) ∷ []
  spell (bare line name) = piece line (form_kind.Bare name) ∷ []
  spell (if_ arms line condition b last end) = spell_arms arms ++ piece line (arm_form arms condition) ∷ (spell_block b ++ (spell_last last ++ piece end (form_kind.Keyword keyword.EndIf) ∷ []))
  spell (case_ line value xs last end) = piece line (form_kind.Guarded conditional.Case value) ∷ (spell_alternatives xs ++ (spell_last last ++ piece end (form_kind.Keyword keyword.EndCase) ∷ []))
  spell (forall_ line index body) = piece line (form_kind.Forall index) ∷ spell body
  spell (while_ line condition body) = piece line (form_kind.Guarded conditional.While condition) ∷ spell body
  spell (repeat_ line b until condition) = piece line (form_kind.Keyword keyword.Repeat) ∷ (spell_block b ++ piece until (form_kind.Guarded conditional.Until condition) ∷ [])
  spell (do_ line b end) = piece line (form_kind.Keyword keyword.Do) ∷ (spell_block b ++ piece end (form_kind.Keyword keyword.EndDo) ∷ [])
  spell (initializations line direction name rows end) = piece line (form_kind.Initializations direction name) ∷ (spell_rows rows ++ piece end (form_kind.Keyword keyword.EndInitializations) ∷ [])

  -- the pieces of statements
  pub spell_block : Block → List PieceForm
  spell_block no_statement = []
  spell_block (then_one b w) = spell_block b ++ spell w

  -- the pieces of arms
  pub spell_arms : Arms → List PieceForm
  spell_arms no_arm = []
  spell_arms (arm before line condition b) = spell_arms before ++ piece line (arm_form before condition) ∷ spell_block b

  -- the pieces of `else`
  pub spell_last : Last → List PieceForm
  spell_last without = []
  spell_last (otherwise line b) = piece line (form_kind.Keyword keyword.Else) ∷ spell_block b

  -- the pieces of alternatives
  pub spell_alternatives : Alternatives → List PieceForm
  spell_alternatives no_alternative = []
  spell_alternatives (alternative before line labels w) = spell_alternatives before ++ piece line (form_kind.Alternative labels) ∷ spell w

-- ---- depth

abbrev mutual
  -- how many blocks of a statement stand in one another at most
  pub depth : WrittenStatement → ℕ
  depth (single line x) = 0
  depth (bare line name) = 0
  depth (if_ arms line condition b last end) = 1 + max (depth_arms arms) (max (depth_block b) (depth_last last))
  depth (case_ line value xs last end) = 1 + max (depth_alternatives xs) (depth_last last)
  depth (forall_ line index body) = 1 + depth body
  depth (while_ line condition body) = 1 + depth body
  depth (repeat_ line b until condition) = 1 + depth_block b
  depth (do_ line b end) = 1 + depth_block b
  depth (initializations line direction name rows end) = 1

  -- those of statements
  pub depth_block : Block → ℕ
  depth_block no_statement = 0
  depth_block (then_one b w) = max (depth_block b) (depth w)

  -- those of arms
  pub depth_arms : Arms → ℕ
  depth_arms no_arm = 0
  depth_arms (arm before line condition b) = max (depth_arms before) (depth_block b)

  -- those of `else`
  pub depth_last : Last → ℕ
  depth_last without = 0
  depth_last (otherwise line b) = depth_block b

  -- those of alternatives
  pub depth_alternatives : Alternatives → ℕ
  depth_alternatives no_alternative = 0
  depth_alternatives (alternative before line labels w) = max (depth_alternatives before) (depth w)

-- ---- trees

-- the statement of one piece
abbrev pub statement_of : ℕ → Simple → Statement
statement_of line (simple.Assign target operator value) = statement_kind.Assign line target operator value
statement_of line (simple.Fill name values) = statement_kind.Fill line name values
statement_of line (simple.Call name arguments) = statement_kind.Call line name arguments
statement_of line simple.Break = statement_kind.Break line
statement_of line simple.Next = statement_kind.Next line

-- a label without a text
abbrev pub label_of : List ℕ → Label
label_of name = record { name = name; shown = None }

-- the labels of rows
abbrev pub label_groups : Rows → List LabelGroup
label_groups no_row = []
label_groups (named rows line name) = label_groups rows ++ record { line = line; labels = label_of name ∷ [] } ∷ []
label_groups (labelled rows line labels) = label_groups rows ++ record { line = line; labels = labels } ∷ []

-- the line of the first arm, for one on this line behind these arms
abbrev pub first_line : Arms → ℕ → ℕ
first_line no_arm line = line
first_line (arm before l c b) line = first_line before l

-- an arm of `if`
abbrev pub arm_of : ℕ → Expr → List Statement → Arm Statement
arm_of line condition body = record { line = line; condition = condition; body = body }

-- an alternative of `case`
abbrev pub alternative_of : ℕ → List Expr → Statement → Alternative Statement
alternative_of line labels body = record { line = line; labels = labels; body = body }

abbrev mutual
  -- the tree of a statement
  pub tree : WrittenStatement → Statement
  tree (single line x) = statement_of line x
  tree (bare line name) = statement_kind.Call line name []
  tree (if_ arms line condition b last end) = statement_kind.If (first_line arms line) (trees_of_arms arms ++ arm_of line condition (trees b) ∷ []) (trees_of_last last)
  tree (case_ line value xs last end) = statement_kind.Case line value (trees_of_alternatives xs) (trees_of_last last)
  tree (forall_ line index body) = statement_kind.Forall line index (tree body)
  tree (while_ line condition body) = statement_kind.While line condition (tree body)
  tree (repeat_ line b until condition) = statement_kind.Repeat line (trees b) until condition
  tree (do_ line b end) = statement_kind.Do line (trees b)
  tree (initializations line direction name rows end) = statement_kind.Initializations line direction name (label_groups rows)

  -- the trees of statements
  pub trees : Block → List Statement
  trees no_statement = []
  trees (then_one b w) = trees b ++ tree w ∷ []

  -- those of arms
  pub trees_of_arms : Arms → List (Arm Statement)
  trees_of_arms no_arm = []
  trees_of_arms (arm before line condition b) = trees_of_arms before ++ arm_of line condition (trees b) ∷ []

  -- those under `else`
  pub trees_of_last : Last → List Statement
  trees_of_last without = []
  trees_of_last (otherwise line b) = trees b

  -- those of alternatives
  pub trees_of_alternatives : Alternatives → List (Alternative Statement)
  trees_of_alternatives no_alternative = []
  trees_of_alternatives (alternative before line labels w) = trees_of_alternatives before ++ alternative_of line labels (tree w) ∷ []
