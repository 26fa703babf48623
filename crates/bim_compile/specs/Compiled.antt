-- As the compiler goes about it: what code each form becomes. Instructions stand one behind the other,
-- each with the line of its piece; the constants are the model's texts, in the order in which their code
-- stands.

use Rattle.std.specs.Prelude.{ℕ, ◌+◌, pos, List, [], ◌∷◌, ◌++◌, length, map, replicate}
use Rattle.std.specs.Int.{from_bool}
use Rattle.bim_code.specs.declared.image.Image.{Image}
use Rattle.bim_code.specs.declared.image.ImageType.{ImageType}
use Rattle.bim_code.specs.declared.image.ImageType.TheVariants.{Integer}
use Rattle.bim_code.specs.declared.instruction.Comparison.{Comparison}
use Rattle.bim_code.specs.declared.instruction.Comparison.TheVariants.{Equal, NotEqual, Less, AtMost, Greater, AtLeast}
use Rattle.bim_code.specs.declared.instruction.Instruction.{Instruction}
use Rattle.bim_code.specs.declared.instruction.Instruction.TheVariants.{Tick, PushInt, PushBool, PushText, LoadGlobal, StoreGlobal, Swap, Add, Subtract, Compare, Jump, JumpIf, JumpNot, Show, Write, Line, End}
use Rattle.mos_names.specs.NameLists.{Name, place_of}
use Rattle.mos_value.specs.Answers as how
use Rattle.mos_meaning.specs.Syntax.{Expression, number, text, truth, variable, apply, Shown, nothing_shown, shown_then, CoreStatement, assign, change, write, perform, tell_hub, if_, while_, do_, break_, next_, unbuilt_statement, Arms, else_, elif, Block, no_statement, statement_then}
use Rattle.mos_meaning.specs.Sources.{variables_of}
use Rattle.bim_compile.specs.declared.draft.Labelled.{Labelled}
use Rattle.bim_compile.specs.Contexts.{Context, context_of}

-- an instruction of the piece on this line
abbrev pub at_line : ℕ → Instruction → Labelled
at_line line i = record { line = line; instruction = i }

-- the texts of a form, in their order
abbrev pub texts_in : Expression → List (List ℕ)
texts_in (text t) = t ∷ []
texts_in (apply operator a b) = texts_in a ++ texts_in b
texts_in _ = []

-- of what is printed
abbrev pub texts_in_all : Shown → List (List ℕ)
texts_in_all nothing_shown = []
texts_in_all (shown_then e es) = texts_in e ++ texts_in_all es

abbrev mutual
  -- of a statement
  pub texts_in_statement : CoreStatement → List (List ℕ)
  texts_in_statement (assign line scope n e) = texts_in e
  texts_in_statement (change line operator scope n e) = texts_in e
  texts_in_statement (write line newline all) = texts_in_all all
  texts_in_statement (if_ line all) = texts_in_arms all
  texts_in_statement (while_ line e body) = texts_in_statement body ++ texts_in e
  texts_in_statement (do_ all) = texts_in_block all
  texts_in_statement (perform line routine all) = []
  texts_in_statement (tell_hub line function all) = []
  texts_in_statement (break_ line) = []
  texts_in_statement (next_ line) = []
  texts_in_statement unbuilt_statement = []

  -- of branches
  pub texts_in_arms : Arms → List (List ℕ)
  texts_in_arms (else_ all) = texts_in_block all
  texts_in_arms (elif line e all rest) = texts_in e ++ (texts_in_block all ++ texts_in_arms rest)

  -- of the statements of a block
  pub texts_in_block : Block → List (List ℕ)
  texts_in_block no_statement = []
  texts_in_block (statement_then e rest) = texts_in_statement e ++ texts_in_block rest

-- the comparison of an instruction
abbrev pub comparison_code : how.Comparison → Comparison
comparison_code how.equal = Equal
comparison_code how.not_equal = NotEqual
comparison_code how.less = Less
comparison_code how.at_most = AtMost
comparison_code how.greater = Greater
comparison_code how.at_least = AtLeast

-- the instruction of an operator
abbrev pub operator_code : how.Operator → Instruction
operator_code how.sum = Add
operator_code how.difference = Subtract
operator_code (how.compare comparison) = Compare (comparison_code comparison)

-- the code of a form, where `k` constants stand before those of the form; it leaves the value of an
-- expression on the stack
abbrev pub expression_code : Context → (line k : ℕ) → Expression → List Labelled
expression_code context line k (number n) = at_line line (PushInt n) ∷ []
expression_code context line k (text t) = at_line line (PushText k) ∷ []
expression_code context line k (truth b) = at_line line (PushBool (from_bool b)) ∷ []
expression_code context line k (variable scope n) = at_line line (LoadGlobal (place_of n context.names.model)) ∷ []
expression_code context line k (apply operator a b) =
    expression_code context line k a ++ (expression_code context line (k + length (texts_in a)) b ++ at_line line (operator_code operator) ∷ [])
expression_code context line k _ = []

-- each argument is evaluated, printed and held
abbrev pub arguments_code : Context → (line k : ℕ) → Shown → List Labelled
arguments_code context line k nothing_shown = []
arguments_code context line k (shown_then e es) =
    expression_code context line k e
    ++ (at_line line Show ∷ at_line line Write ∷ arguments_code context line (k + length (texts_in e)) es)

-- the address behind the code of a form that begins at `at`

-- of an expression
abbrev pub expression_end : ℕ → Expression → ℕ
expression_end at (number n) = at + 5
expression_end at (text t) = at + 5
expression_end at (truth b) = at + 5
expression_end at (variable scope n) = at + 5
expression_end at (apply operator a b) = expression_end (expression_end at a) b + 1
expression_end at _ = at

-- of what is printed
abbrev pub arguments_end : ℕ → Shown → ℕ
arguments_end at nothing_shown = at
arguments_end at (shown_then e es) = arguments_end (expression_end at e + 1 + 1) es

abbrev mutual
  -- of a statement
  pub statement_end : ℕ → CoreStatement → ℕ
  statement_end at (assign line scope n e) = expression_end (at + 1) e + 5
  statement_end at (change line operator scope n e) = expression_end (at + 1) e + 5 + 1 + 1 + 5
  statement_end at (write line newline all) = arguments_end (at + 1) all + 5 + 1
  statement_end at (if_ line all) = arms_end (at + 1) all
  statement_end at (while_ line e body) = expression_end (statement_end (at + 1 + 5 + 1) body) e + 5
  statement_end at (do_ all) = block_end at all
  statement_end at (break_ line) = at + 1 + 5
  statement_end at (next_ line) = at + 1 + 5
  statement_end at (perform line routine all) = at
  statement_end at (tell_hub line function all) = at
  statement_end at unbuilt_statement = at

  -- of branches
  pub arms_end : ℕ → Arms → ℕ
  arms_end at (else_ all) = block_end at all
  arms_end at (elif line e all rest) = arms_end (block_end (expression_end at e + 5) all + 5) rest

  -- of the statements of a block
  pub block_end : ℕ → Block → ℕ
  block_end at no_statement = at
  block_end at (statement_then e rest) = block_end (statement_end at e) rest

-- the code of a statement that begins at `at`: `out` and `next` are where `break` and `next` lead. A loop
-- tests behind its body, and each pass begins with the tick to which the test jumps back.
abbrev mutual
  -- of one statement
  pub statement_code : Context → ℕ → (at out next : ℕ) → CoreStatement → List Labelled
  statement_code context k at out next (assign line scope n e) =
      at_line line Tick ∷ (expression_code context line k e ++ at_line line (StoreGlobal (place_of n context.names.model)) ∷ [])
  statement_code context k at out next (change line operator scope n e) =
      at_line line Tick
      ∷ (expression_code context line k e
      ++ at_line line (LoadGlobal (place_of n context.names.model)) ∷ at_line line Swap ∷ at_line line (operator_code operator) ∷ at_line line (StoreGlobal (place_of n context.names.model)) ∷ [])
  statement_code context k at out next (write line newline all) =
      at_line line Tick ∷ (arguments_code context line k all ++ at_line line (PushBool (from_bool newline)) ∷ at_line line Line ∷ [])
  statement_code context k at out next (if_ line all) =
      at_line line Tick ∷ arms_code context k (at + 1) (arms_end (at + 1) all) out next all
  statement_code context k at out next (while_ line e body) =
      let pass : ℕ = at + 1 + 5 in
      let test : ℕ = statement_end (pass + 1) body in
      at_line line Tick ∷ at_line line (Jump test) ∷ at_line line Tick
      ∷ (statement_code context k (pass + 1) (expression_end test e + 5) test body
      ++ (expression_code context line (k + length (texts_in_statement body)) e ++ at_line line (JumpIf pass) ∷ []))
  statement_code context k at out next (do_ all) = block_code context k at out next all
  statement_code context k at out next (break_ line) = at_line line Tick ∷ at_line line (Jump out) ∷ []
  statement_code context k at out next (next_ line) = at_line line Tick ∷ at_line line (Jump next) ∷ []
  statement_code context k at out next (perform line routine all) = []
  statement_code context k at out next (tell_hub line function all) = []
  statement_code context k at out next unbuilt_statement = []

  -- `end` is the address behind the whole `if`
  pub arms_code : Context → ℕ → (at end out next : ℕ) → Arms → List Labelled
  arms_code context k at end out next (else_ all) = block_code context k at out next all
  arms_code context k at end out next (elif line e all rest) =
      let body : ℕ = expression_end at e + 5 in
      let other : ℕ = block_end body all + 5 in
      let l : ℕ = k + length (texts_in e) in
      expression_code context line k e
      ++ at_line line (JumpNot other) ∷ (block_code context l body out next all
      ++ at_line line (Jump end) ∷ arms_code context (l + length (texts_in_block all)) other end out next rest)

  -- of the statements of a block
  pub block_code : Context → ℕ → (at out next : ℕ) → Block → List Labelled
  block_code context k at out next no_statement = []
  block_code context k at out next (statement_then e rest) =
      statement_code context k at out next e ++ block_code context (k + length (texts_in_statement e)) (statement_end at e) out next rest

-- a variable is an integer; without variables no type is needed
abbrev pub types_of : List Name → List ImageType
types_of [] = []
types_of (n ∷ names) = Integer ∷ []

-- the end of the text ends the run with code 0
abbrev pub labelled_of : Block → List Labelled
labelled_of model =
    block_code (context_of model) 0 0 (block_end 0 model) (block_end 0 model) model ++ (at_line 0 (PushInt (pos 0)) ∷ at_line 0 End ∷ [])

-- instructions without their lines
abbrev pub instructions : List Labelled → List Instruction
instructions labelled = map (λ (l : Labelled). l.instruction) labelled

-- an image of code over these variables and texts
abbrev pub image_over : List Name → List (List ℕ) → List Labelled → Image
image_over names texts labelled = record {
  constants = texts;
  types = types_of names;
  params = [];
  globals = replicate (length names) 0;
  routines = [];
  points = [];
  code = instructions labelled;
}

-- the whole image
abbrev pub image_of : Block → Image
image_of model = image_over (variables_of model) (texts_in_block model) (labelled_of model)
