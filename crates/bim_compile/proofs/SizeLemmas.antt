-- Bounds on what is made of a model, by its size.

use Rattle.std.proofs.Common.{◌≡◌, ◌≤◌, ◌<◌, ℕ, ◌+◌, ◌*◌, ◌^◌, zero, suc, pos, Bool, true, false, List, [], ◌∷◌, ◌++◌, length, refl, length-append, get_or, arith}
use Rattle.std.specs.Prelude.{if◌then◌else◌, All}
use Rattle.std.proofs.lemmas.List.{length-replicate, length-map}
use Rattle.std.proofs.lemmas.List.Elements.{All-nil, All-cons, All-append}
use Rattle.bim_compile.specs.InSize.{IsSmall, AreSmall, IsSmallStatement, AreSmallArms, IsSmallBlock}
use Rattle.bim_code.specs.declared.image.ImageType.{ImageType}
use Rattle.bim_code.specs.declared.instruction.Instruction.TheVariants.{PushInt, PushBool, LoadGlobal, StoreGlobal, Swap, Jump, JumpIf, JumpNot, Show, Write, Line, End}
use Rattle.std.specs.Int.{from_bool}
use Rattle.bim_code.specs.declared.image.ImageType.TheVariants.{Integer}
use Rattle.bim_code.specs.Code.{code_size}
use Rattle.bim_code.specs.Rows.{width}
use Rattle.bim_code.specs.Limits.{CountsInRange, TypeInRange}
use Rattle.mos_names.specs.NameLists.{Name, has_name, with_name, place_of}
use Rattle.mos_value.specs.Answers.{Operator}
use Rattle.mos_meaning.specs.Syntax.{Expression, number, text, truth, variable, index, apply, range_of, sum_over, invoke, ask_hub, unbuilt, Shown, nothing_shown, shown_then, CoreStatement, assign, change, write, perform, tell_hub, if_, while_, do_, break_, next_, unbuilt_statement, Arms, else_, elif, Block, no_statement, statement_then}
use Rattle.mos_meaning.specs.Sources.{names_after, names_in_arms, names_from, variables_of}
use Rattle.bim_compile.specs.declared.draft.Labelled.{Labelled}
use Rattle.bim_compile.specs.Contexts.{Context, context_of}
use Rattle.bim_compile.specs.Compiled.{at_line, instructions, labelled_of, expression_code, arguments_code, statement_code, arms_code, operator_code, texts_in, texts_in_all, texts_in_statement, texts_in_arms, texts_in_block, expression_end, arguments_end, statement_end, arms_end, block_code, block_end, types_of, image_of}
use Rattle.bim_compile.proofs.Standing.{after, after-append}
use Rattle.bim_compile.proofs.EndLemmas.{block_after}
use Rattle.bim_compile.specs.Sizes.{size_of, size_of_all, size_of_core, size_of_arms, size_of_block}

pub texts_few : (e : Expression) → length (texts_in e) ≤ size_of e
texts_few (number n) = omega arith
texts_few (text t) = omega arith
texts_few (truth b) = omega arith
texts_few (variable scope n) = omega arith
texts_few (apply operator a b) = omega (arith, length-append (texts_in a) (texts_in b), texts_few a, texts_few b)
texts_few (index n) = omega arith
texts_few (range_of a b) = omega arith
texts_few (sum_over i set condition body) = omega arith
texts_few (invoke routine all) = omega arith
texts_few (ask_hub function all) = omega arith
texts_few unbuilt = omega arith

texts_few_all : (all : Shown) → length (texts_in_all all) ≤ size_of_all all
texts_few_all nothing_shown = omega arith
texts_few_all (shown_then e es) = omega (arith, length-append (texts_in e) (texts_in_all es), texts_few e, texts_few_all es)

mutual
  texts_few_statement : (e : CoreStatement) → length (texts_in_statement e) ≤ size_of_core e
  texts_few_statement (assign line scope n e) = omega (arith, texts_few e)
  texts_few_statement (change line operator scope n e) = omega (arith, texts_few e)
  texts_few_statement (write line newline all) = omega (arith, texts_few_all all)
  texts_few_statement (if_ line all) = omega (arith, texts_few_arms all)
  texts_few_statement (while_ line e body) = omega (arith, length-append (texts_in_statement body) (texts_in e), texts_few e, texts_few_statement body)
  texts_few_statement (do_ all) = omega (arith, texts_few_block all)
  texts_few_statement (break_ line) = omega arith
  texts_few_statement (next_ line) = omega arith
  texts_few_statement unbuilt_statement = omega arith
  texts_few_statement (perform line routine all) = omega arith
  texts_few_statement (tell_hub line function all) = omega arith

  texts_few_arms : (all : Arms) → length (texts_in_arms all) ≤ size_of_arms all
  texts_few_arms (else_ all) = texts_few_block all
  texts_few_arms (elif line e all rest) =
      omega (
        arith,
        length-append (texts_in e) (texts_in_block all ++ texts_in_arms rest),
        length-append (texts_in_block all) (texts_in_arms rest),
        texts_few e,
        texts_few_block all,
        texts_few_arms rest,
      )

  pub texts_few_block : (all : Block) → length (texts_in_block all) ≤ size_of_block all
  texts_few_block no_statement = omega arith
  texts_few_block (statement_then e rest) =
      omega (arith, length-append (texts_in_statement e) (texts_in_block rest), texts_few_statement e, texts_few_block rest)

one_name : (names : List Name) (n : Name) → length (with_name names n) ≤ length names + 1
one_name names n = chosen (has_name n names)
  where
    chosen : (b : Bool) → length (if b then names else names ++ n ∷ []) ≤ length names + 1
    chosen true = omega arith
    chosen false = omega (arith, length-append names (n ∷ []))

mutual
  names_few_statement : (names : List (List ℕ)) (e : CoreStatement) → length (names_after names e) ≤ length names + size_of_core e
  names_few_statement names (assign line scope n e) = omega (arith, one_name names n)
  names_few_statement names (change line operator scope n e) = omega arith
  names_few_statement names (write line newline all) = omega arith
  names_few_statement names (if_ line all) = omega (arith, names_few_arms names all)
  names_few_statement names (while_ line e body) = omega (arith, names_few_statement names body)
  names_few_statement names (do_ all) = omega (arith, names_few names all)
  names_few_statement names (break_ line) = omega arith
  names_few_statement names (next_ line) = omega arith
  names_few_statement names unbuilt_statement = omega arith
  names_few_statement names (perform line routine all) = omega arith
  names_few_statement names (tell_hub line function all) = omega arith

  names_few_arms : (names : List (List ℕ)) (all : Arms) → length (names_in_arms names all) ≤ length names + size_of_arms all
  names_few_arms names (else_ all) = names_few names all
  names_few_arms names (elif line e all rest) = omega (arith, names_few names all, names_few_arms (names_from names all) rest)

  names_few : (names : List (List ℕ)) (all : Block) → length (names_from names all) ≤ length names + size_of_block all
  names_few names no_statement = omega arith
  names_few names (statement_then e rest) = omega (arith, names_few_statement names e, names_few (names_after names e) rest)

pub variables_few : (all : Block) → length (variables_of all) ≤ size_of_block all
variables_few all = let h = names_few [] all in omega (arith, h)

-- what ends behind its code is as long as its code
size_after : (at : ℕ) (is : List Labelled) → after at is ≡ at + code_size (instructions is)
size_after at [] = omega arith
size_after at (i ∷ is) = let h = size_after (at + width i.instruction) is in omega (arith, h)

expression_within : (at : ℕ) (e : Expression) → expression_end at e ≤ at + 5 * size_of e
expression_within at (number n) = omega arith
expression_within at (text t) = omega arith
expression_within at (truth b) = omega arith
expression_within at (variable scope n) = omega arith
expression_within at (apply operator a b) = omega (arith, expression_within at a, expression_within (expression_end at a) b)
expression_within at (index n) = omega arith
expression_within at (range_of a b) = omega arith
expression_within at (sum_over i set condition body) = omega arith
expression_within at (invoke routine all) = omega arith
expression_within at (ask_hub function all) = omega arith
expression_within at unbuilt = omega arith

some_size : (e : Expression) → 1 ≤ size_of e
some_size (number n) = omega arith
some_size (text t) = omega arith
some_size (truth b) = omega arith
some_size (variable scope n) = omega arith
some_size (apply operator a b) = omega arith
some_size (index n) = omega arith
some_size (range_of a b) = omega arith
some_size (sum_over i set condition body) = omega arith
some_size (invoke routine all) = omega arith
some_size (ask_hub function all) = omega arith
some_size unbuilt = omega arith

arguments_within : (at : ℕ) (all : Shown) → arguments_end at all ≤ at + 7 * size_of_all all
arguments_within at nothing_shown = omega arith
arguments_within at (shown_then e es) = omega (arith, expression_within at e, some_size e, arguments_within (expression_end at e + 1 + 1) es)

mutual
  statement_within : (at : ℕ) (e : CoreStatement) → statement_end at e ≤ at + 13 * size_of_core e
  statement_within at (assign line scope n e) = omega (arith, expression_within (at + 1) e)
  statement_within at (change line operator scope n e) = omega (arith, expression_within (at + 1) e)
  statement_within at (write line newline all) = omega (arith, arguments_within (at + 1) all)
  statement_within at (if_ line all) = omega (arith, arms_within (at + 1) all)
  statement_within at (while_ line e body) = omega (arith, statement_within (at + 1 + 5 + 1) body, expression_within (statement_end (at + 1 + 5 + 1) body) e)
  statement_within at (do_ all) = omega (arith, block_within at all)
  statement_within at (break_ line) = omega arith
  statement_within at (next_ line) = omega arith
  statement_within at unbuilt_statement = omega arith
  statement_within at (perform line routine all) = omega arith
  statement_within at (tell_hub line function all) = omega arith

  arms_within : (at : ℕ) (all : Arms) → arms_end at all ≤ at + 13 * size_of_arms all
  arms_within at (else_ all) = block_within at all
  arms_within at (elif line e all rest) =
      omega (
        arith,
        expression_within at e,
        block_within (expression_end at e + 5) all,
        arms_within (block_end (expression_end at e + 5) all + 5) rest,
      )

  pub block_within : (at : ℕ) (all : Block) → block_end at all ≤ at + 13 * size_of_block all
  block_within at no_statement = omega arith
  block_within at (statement_then e rest) = omega (arith, statement_within at e, block_within (statement_end at e) rest)

-- the code of a model ends where the model's end is said to be
pub code_within : (model : Block) → code_size (image_of model).code ≤ 13 * size_of_block model + 6
code_within model =
    let end : ℕ = block_end 0 model in
    let body = block_code (context_of model) 0 0 end end model in
    let last : List Labelled = at_line 0 (PushInt (pos 0)) ∷ at_line 0 End ∷ [] in
    let whole = after-append 0 body last in
    let inner = block_after (context_of model) 0 0 end end model in
    let size = size_after 0 (labelled_of model) in
    let behind = size_after (after 0 body) last in
    let within = block_within 0 model in
    omega (arith, whole, inner, size, behind, within)

types_few : (names : List (List ℕ)) → length (types_of names) ≤ 1
types_few [] = omega arith
types_few (n ∷ names) = omega arith

types_fit : (names : List (List ℕ)) → All TypeInRange (types_of names)
types_fit [] = All-nil TypeInRange
types_fit (n ∷ names) = λ k d less. only k d less
  where
    only : (k : ℕ) (d : ImageType) → k < 1 → TypeInRange (get_or (Integer ∷ []) k d)
    only zero d less = tt
    only (suc k) d less = absurd (omega arith)

-- the image of a model of which no text is long fits the fields of its file
pub fits_fields : (model : Block) → size_of_block model < 2 ^ 24 → All (λ t. length t < 2 ^ 32) (texts_in_block model)
    → CountsInRange (image_of model)
fits_fields model small short = record {
  constants = omega (arith, texts_few_block model);
  texts = short;
  types = omega (arith, types_few (variables_of model));
  parts = types_fit (variables_of model);
  params = omega arith;
  globals = omega (arith, length-replicate {A = ℕ} (length (variables_of model)) 0, variables_few model);
  routines = omega arith;
  slots = All-nil _;
  points = omega arith;
  stacks = All-nil _;
  code = omega (arith, code_within model);
}

-- How many instructions a form has.

operator_length : (line : ℕ) (operator : Operator) → length (at_line line (operator_code operator) ∷ []) ≡ 1
operator_length line operator = refl

expression_length : (context : Context) (line k : ℕ) (e : Expression) → length (expression_code context line k e) ≤ size_of e
expression_length context line k (number n) = omega arith
expression_length context line k (text t) = omega arith
expression_length context line k (truth b) = omega arith
expression_length context line k (variable scope n) = omega arith
expression_length context line k (apply operator a b) =
    let l : ℕ = k + length (texts_in a) in
    omega (
      arith,
      length-append (expression_code context line k a) (expression_code context line l b ++ at_line line (operator_code operator) ∷ []),
      length-append (expression_code context line l b) (at_line line (operator_code operator) ∷ []),
      expression_length context line k a,
      expression_length context line l b,
    )
expression_length context line k (index n) = omega arith
expression_length context line k (range_of a b) = omega arith
expression_length context line k (sum_over i set condition body) = omega arith
expression_length context line k (invoke routine all) = omega arith
expression_length context line k (ask_hub function all) = omega arith
expression_length context line k unbuilt = omega arith

arguments_length : (context : Context) (line k : ℕ) (all : Shown) → length (arguments_code context line k all) ≤ 3 * size_of_all all
arguments_length context line k nothing_shown = omega arith
arguments_length context line k (shown_then e es) =
    let l : ℕ = k + length (texts_in e) in
    omega (
      arith,
      length-append (expression_code context line k e) (at_line line Show ∷ at_line line Write ∷ arguments_code context line l es),
      expression_length context line k e,
      some_size e,
      arguments_length context line l es,
    )

mutual
  statement_length : (context : Context) (k at out next : ℕ) (e : CoreStatement) → length (statement_code context k at out next e) ≤ 5 * size_of_core e
  statement_length context k at out next (assign line scope n e) =
      omega (
        arith,
        length-append (expression_code context line k e) (at_line line (StoreGlobal (place_of n context.names.model)) ∷ []),
        expression_length context line k e,
      )
  statement_length context k at out next (change line operator scope n e) =
      omega (
        arith,
        length-append (expression_code context line k e) (at_line line (LoadGlobal (place_of n context.names.model)) ∷ at_line line Swap ∷ at_line line (operator_code operator) ∷ at_line line (StoreGlobal (place_of n context.names.model)) ∷ []),
        expression_length context line k e,
      )
  statement_length context k at out next (write line newline all) =
      omega (
        arith,
        length-append (arguments_code context line k all) (at_line line (PushBool (from_bool newline)) ∷ at_line line Line ∷ []),
        arguments_length context line k all,
      )
  statement_length context k at out next (if_ line all) = omega (arith, arms_length context k (at + 1) (arms_end (at + 1) all) out next all)
  statement_length context k at out next (while_ line e body) =
      let pass : ℕ = at + 1 + 5 in
      let test : ℕ = statement_end (pass + 1) body in
      let l : ℕ = k + length (texts_in_statement body) in
      omega (
        arith,
        length-append (statement_code context k (pass + 1) (expression_end test e + 5) test body) (expression_code context line l e ++ at_line line (JumpIf pass) ∷ []),
        length-append (expression_code context line l e) (at_line line (JumpIf pass) ∷ []),
        statement_length context k (pass + 1) (expression_end test e + 5) test body,
        expression_length context line l e,
      )
  statement_length context k at out next (do_ all) = omega (arith, block_length context k at out next all)
  statement_length context k at out next (break_ line) = omega arith
  statement_length context k at out next (next_ line) = omega arith
  statement_length context k at out next (perform line routine all) = omega arith
  statement_length context k at out next (tell_hub line function all) = omega arith
  statement_length context k at out next unbuilt_statement = omega arith

  arms_length : (context : Context) (k at end out next : ℕ) (all : Arms) → length (arms_code context k at end out next all) ≤ 5 * size_of_arms all
  arms_length context k at end out next (else_ all) = block_length context k at out next all
  arms_length context k at end out next (elif line e all rest) =
      let body : ℕ = expression_end at e + 5 in
      let other : ℕ = block_end body all + 5 in
      let l : ℕ = k + length (texts_in e) in
      let m : ℕ = l + length (texts_in_block all) in
      let others = at_line line (Jump end) ∷ arms_code context m other end out next rest in
      omega (
        arith,
        length-append (expression_code context line k e) (at_line line (JumpNot other) ∷ (block_code context l body out next all ++ others)),
        length-append (block_code context l body out next all) others,
        expression_length context line k e,
        block_length context l body out next all,
        arms_length context m other end out next rest,
      )

  block_length : (context : Context) (k at out next : ℕ) (all : Block) → length (block_code context k at out next all) ≤ 5 * size_of_block all
  block_length context k at out next no_statement = omega arith
  block_length context k at out next (statement_then e rest) =
      let l : ℕ = k + length (texts_in_statement e) in
      omega (
        arith,
        length-append (statement_code context k at out next e) (block_code context l (statement_end at e) out next rest),
        statement_length context k at out next e,
        block_length context l (statement_end at e) out next rest,
      )

-- the instructions of a model's image
pub few_instructions : (model : Block) → length (image_of model).code ≤ 5 * size_of_block model + 2
few_instructions model =
    let end : ℕ = block_end 0 model in
    let body = block_code (context_of model) 0 0 end end model in
    let last : List Labelled = at_line 0 (PushInt (pos 0)) ∷ at_line 0 End ∷ [] in
    let same : length (instructions (body ++ last)) ≡ length (body ++ last) = length-map (body ++ last) (λ (l : Labelled). l.instruction) in
    omega (arith, same, length-append body last, block_length (context_of model) 0 0 end end model)

-- the texts of a small model are short
texts_short : (e : Expression) → IsSmall e → All (λ t. length t < 2 ^ 32) (texts_in e)
texts_short (text t) h = All-cons (λ u. length u < 2 ^ 32) t [] h (All-nil _)
texts_short (apply operator a b) h = All-append (λ u. length u < 2 ^ 32) (texts_in a) (texts_in b) (texts_short a h.0) (texts_short b h.1)
texts_short (number n) h = All-nil _
texts_short (truth b) h = All-nil _
texts_short (variable scope n) h = All-nil _
texts_short (index n) h = All-nil _
texts_short (range_of a b) h = All-nil _
texts_short (sum_over i set condition body) h = All-nil _
texts_short (invoke routine all) h = All-nil _
texts_short (ask_hub function all) h = All-nil _
texts_short unbuilt h = All-nil _

texts_short_all : (all : Shown) → AreSmall all → All (λ t. length t < 2 ^ 32) (texts_in_all all)
texts_short_all nothing_shown h = All-nil _
texts_short_all (shown_then e es) h = All-append (λ u. length u < 2 ^ 32) (texts_in e) (texts_in_all es) (texts_short e h.0) (texts_short_all es h.1)

mutual
  texts_short_statement : (e : CoreStatement) → IsSmallStatement e → All (λ t. length t < 2 ^ 32) (texts_in_statement e)
  texts_short_statement (assign line scope n e) h = texts_short e h
  texts_short_statement (change line operator scope n e) h = texts_short e h
  texts_short_statement (write line newline all) h = texts_short_all all h
  texts_short_statement (if_ line all) h = texts_short_arms all h
  texts_short_statement (while_ line e body) h = All-append (λ u. length u < 2 ^ 32) (texts_in_statement body) (texts_in e) (texts_short_statement body h.1) (texts_short e h.0)
  texts_short_statement (do_ all) h = texts_short_block all h
  texts_short_statement (perform line routine all) h = All-nil _
  texts_short_statement (tell_hub line function all) h = All-nil _
  texts_short_statement (break_ line) h = All-nil _
  texts_short_statement (next_ line) h = All-nil _
  texts_short_statement unbuilt_statement h = All-nil _

  texts_short_arms : (all : Arms) → AreSmallArms all → All (λ t. length t < 2 ^ 32) (texts_in_arms all)
  texts_short_arms (else_ all) h = texts_short_block all h
  texts_short_arms (elif line e all rest) h =
      All-append (λ u. length u < 2 ^ 32) (texts_in e) (texts_in_block all ++ texts_in_arms rest) (texts_short e h.0)
      (All-append (λ u. length u < 2 ^ 32) (texts_in_block all) (texts_in_arms rest) (texts_short_block all h.1) (texts_short_arms rest h.2))

  pub texts_short_block : (all : Block) → IsSmallBlock all → All (λ t. length t < 2 ^ 32) (texts_in_block all)
  texts_short_block no_statement h = All-nil _
  texts_short_block (statement_then e rest) h = All-append (λ u. length u < 2 ^ 32) (texts_in_statement e) (texts_in_block rest) (texts_short_statement e h.0) (texts_short_block rest h.1)
