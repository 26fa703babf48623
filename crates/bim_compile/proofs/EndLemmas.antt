-- The code of a form ends where the form's end is said to be.

use Rattle.std.proofs.Common.{◌≡◌, ℕ, ◌+◌, List, [], ◌∷◌, ◌++◌, length, refl, ap, ◌∙◌}
use Rattle.std.specs.Int.{from_bool}
use Rattle.bim_code.specs.declared.instruction.Instruction.TheVariants.{PushBool, LoadGlobal, StoreGlobal, Swap, Jump, JumpIf, JumpNot, Show, Write, Line}
use Rattle.mos_names.specs.NameLists.{place_of}
use Rattle.mos_value.specs.Answers.{Operator, sum, difference, compare}
use Rattle.mos_meaning.specs.Syntax.{Expression, number, text, truth, variable, index, apply, range_of, sum_over, invoke, ask_hub, unbuilt, Shown, nothing_shown, shown_then, CoreStatement, assign, change, write, perform, tell_hub, if_, while_, do_, break_, next_, unbuilt_statement, Arms, else_, elif, Block, no_statement, statement_then}
use Rattle.bim_compile.specs.declared.draft.Labelled.{Labelled}
use Rattle.bim_compile.specs.Contexts.{Context}
use Rattle.bim_compile.specs.Compiled.{at_line, texts_in, texts_in_statement, texts_in_block, expression_code, expression_end, arguments_code, arguments_end, operator_code, statement_code, statement_end, arms_code, arms_end, block_code, block_end}
use Rattle.bim_compile.proofs.Standing.{after, after-append}

-- a form, and what follows it
behind : (at end : ℕ) (is js : List Labelled) → after at is ≡ end → after at (is ++ js) ≡ after end js
behind at end is js p = after-append at is js ∙ ap (λ x. after x js) p

operator_after : (at line : ℕ) (operator : Operator) → after at (at_line line (operator_code operator) ∷ []) ≡ at + 1
operator_after at line sum = refl
operator_after at line difference = refl
operator_after at line (compare how) = refl

pub expression_after : (context : Context) (line k at : ℕ) (e : Expression) → after at (expression_code context line k e) ≡ expression_end at e
expression_after context line k at (number n) = refl
expression_after context line k at (text t) = refl
expression_after context line k at (truth b) = refl
expression_after context line k at (variable scope n) = refl
expression_after context line k at (apply operator a b) =
    let l : ℕ = k + length (texts_in a) in
    let middle : ℕ = expression_end at a in
    behind at middle (expression_code context line k a) (expression_code context line l b ++ at_line line (operator_code operator) ∷ []) (expression_after context line k at a)
    ∙ behind middle (expression_end middle b) (expression_code context line l b) (at_line line (operator_code operator) ∷ []) (expression_after context line l middle b)
    ∙ operator_after (expression_end middle b) line operator
expression_after context line k at (index n) = refl
expression_after context line k at (range_of a b) = refl
expression_after context line k at (sum_over i set condition body) = refl
expression_after context line k at (invoke routine all) = refl
expression_after context line k at (ask_hub function all) = refl
expression_after context line k at unbuilt = refl

pub arguments_after : (context : Context) (line k at : ℕ) (all : Shown) → after at (arguments_code context line k all) ≡ arguments_end at all
arguments_after context line k at nothing_shown = refl
arguments_after context line k at (shown_then e es) =
    behind at (expression_end at e) (expression_code context line k e)
    (at_line line Show ∷ at_line line Write ∷ arguments_code context line (k + length (texts_in e)) es) (expression_after context line k at e)
    ∙ arguments_after context line (k + length (texts_in e)) (expression_end at e + 1 + 1) es

changed_after : (at line place : ℕ) (operator : Operator)
    → after at (at_line line (LoadGlobal place) ∷ at_line line Swap ∷ at_line line (operator_code operator) ∷ at_line line (StoreGlobal place) ∷ []) ≡ at + 5 + 1 + 1 + 5
changed_after at line place sum = refl
changed_after at line place difference = refl
changed_after at line place (compare how) = refl

mutual
  pub statement_after : (context : Context) (k at out next : ℕ) (e : CoreStatement) → after at (statement_code context k at out next e) ≡ statement_end at e
  statement_after context k at out next (assign line scope n e) =
      behind (at + 1) (expression_end (at + 1) e) (expression_code context line k e) (at_line line (StoreGlobal (place_of n context.names.model)) ∷ []) (expression_after context line k (at + 1) e)
  statement_after context k at out next (change line operator scope n e) =
      behind (at + 1) (expression_end (at + 1) e) (expression_code context line k e)
      (at_line line (LoadGlobal (place_of n context.names.model)) ∷ at_line line Swap ∷ at_line line (operator_code operator) ∷ at_line line (StoreGlobal (place_of n context.names.model)) ∷ [])
      (expression_after context line k (at + 1) e)
      ∙ changed_after (expression_end (at + 1) e) line (place_of n context.names.model) operator
  statement_after context k at out next (write line newline all) =
      behind (at + 1) (arguments_end (at + 1) all) (arguments_code context line k all)
      (at_line line (PushBool (from_bool newline)) ∷ at_line line Line ∷ []) (arguments_after context line k (at + 1) all)
  statement_after context k at out next (if_ line all) = arms_after context k (at + 1) (arms_end (at + 1) all) out next all
  statement_after context k at out next (while_ line e body) =
      let pass : ℕ = at + 1 + 5 in
      let test : ℕ = statement_end (pass + 1) body in
      let l : ℕ = k + length (texts_in_statement body) in
      behind (pass + 1) test (statement_code context k (pass + 1) (expression_end test e + 5) test body) (expression_code context line l e ++ at_line line (JumpIf pass) ∷ [])
      (statement_after context k (pass + 1) (expression_end test e + 5) test body)
      ∙ behind test (expression_end test e) (expression_code context line l e) (at_line line (JumpIf pass) ∷ []) (expression_after context line l test e)
  statement_after context k at out next (do_ all) = block_after context k at out next all
  statement_after context k at out next (break_ line) = refl
  statement_after context k at out next (next_ line) = refl
  statement_after context k at out next (perform line routine all) = refl
  statement_after context k at out next (tell_hub line function all) = refl
  statement_after context k at out next unbuilt_statement = refl

  pub arms_after : (context : Context) (k at end out next : ℕ) (all : Arms) → after at (arms_code context k at end out next all) ≡ arms_end at all
  arms_after context k at end out next (else_ all) = block_after context k at out next all
  arms_after context k at end out next (elif line e all rest) =
      let body : ℕ = expression_end at e + 5 in
      let other : ℕ = block_end body all + 5 in
      let l : ℕ = k + length (texts_in e) in
      let m : ℕ = l + length (texts_in_block all) in
      let later = at_line line (Jump end) ∷ arms_code context m other end out next rest in
      behind at (expression_end at e) (expression_code context line k e) (at_line line (JumpNot other) ∷ (block_code context l body out next all ++ later)) (expression_after context line k at e)
      ∙ behind body (block_end body all) (block_code context l body out next all) later (block_after context l body out next all)
      ∙ arms_after context m other end out next rest

  pub block_after : (context : Context) (k at out next : ℕ) (all : Block) → after at (block_code context k at out next all) ≡ block_end at all
  block_after context k at out next no_statement = refl
  block_after context k at out next (statement_then e rest) =
      behind at (statement_end at e) (statement_code context k at out next e) (block_code context (k + length (texts_in_statement e)) (statement_end at e) out next rest)
      (statement_after context k at out next e)
      ∙ block_after context (k + length (texts_in_statement e)) (statement_end at e) out next rest
