-- Each instruction of a model's code keeps the rules: its operand is in its table, and an address that it
-- names is that of an instruction, of a tick where it does not lie ahead.

use Rattle.std.proofs.Common.{◌≡◌, ◌≤◌, ◌<◌, ◌^◌, ◌+◌, ℕ, Bool, true, false, List, [], ◌∷◌, ◌++◌, length, Some, refl, sym, ap, ◌∙◌, subst, cond, nat_eq, arith, length-append}
use Rattle.std.specs.Prelude.{if◌then◌else◌, ◌||◌}
use Rattle.std.specs.Str.{bytes_eq}
use Rattle.std.specs.Int.{from_bool}
use Rattle.std.specs.Option.{IfSome}
use Rattle.std.proofs.lemmas.Bool.Decides.{nat_tests}
use Rattle.bim_code.specs.declared.image.Image.{Image}
use Rattle.bim_code.specs.declared.instruction.Instruction.{Instruction}
use Rattle.bim_code.specs.declared.instruction.Instruction.TheVariants.{Tick, PushBool, LoadGlobal, StoreGlobal, Swap, Jump, JumpIf, JumpNot, Show, Write, Line}
use Rattle.bim_code.specs.Rows.{width, named_address}
use Rattle.bim_code.specs.Code.{instruction_at, instruction_from}
use Rattle.bim_code.specs.Rules.{HasNumber, IsBegun}
use Rattle.mos_names.specs.NameLists.{Name, has_name, place_of}
use Rattle.mos_value.specs.Answers.{Operator, sum, difference, compare}
use Rattle.mos_meaning.specs.Syntax.{Own, Model, Scope, Expression, number, text, truth, variable, index, apply, range_of, sum_over, invoke, ask_hub, unbuilt, Shown, nothing_shown, shown_then, CoreStatement, assign, change, write, perform, tell_hub, if_, while_, do_, break_, next_, unbuilt_statement, Arms, else_, elif, Block, no_statement, statement_then}
use Rattle.mos_meaning.specs.Working.{IsVariable, IsNumeric, IsShown, IsCondition, AreShown, Works, ArmsWork, AllWork}
use Rattle.bim_compile.specs.declared.draft.Labelled.{Labelled}
use Rattle.bim_compile.specs.InSize.{IsSmall, AreSmall, IsSmallStatement, AreSmallArms, IsSmallBlock}
use Rattle.bim_compile.specs.Contexts.{Context}
use Rattle.bim_compile.specs.Compiled.{at_line, instructions, texts_in, texts_in_all, texts_in_statement, texts_in_arms, texts_in_block, operator_code, expression_code, expression_end, arguments_code, arguments_end, statement_code, statement_end, arms_code, arms_end, block_code, block_end}
use Rattle.bim_compile.proofs.Standing.{HasAt, after, cut}
use Rattle.bim_compile.proofs.EndLemmas.{expression_after, arguments_after, statement_after, block_after, arms_after}

-- an address that is named from another one
abbrev pub NamesWell : List Instruction → ℕ → ℕ → Type 0
NamesWell code at address = IsBegun code address × (address ≤ at → instruction_at code address ≡ Some Tick)

abbrev pub IsRight : Image → ℕ → Instruction → Type 0
IsRight image at i = HasNumber image i × IfSome (named_address i) (NamesWell image.code at)

abbrev pub AreRight : Image → ℕ → List Labelled → Type 0
AreRight image at [] = Unit {0}
AreRight image at (l ∷ ls) = IsRight image at l.instruction × AreRight image (at + width l.instruction) ls

pub right_append : (image : Image) (at end : ℕ) (is js : List Labelled) → after at is ≡ end → AreRight image at is → AreRight image end js → AreRight image at (is ++ js)
right_append image at end [] js e h k = subst (λ x. AreRight image x js) (sym e) k
right_append image at end (i ∷ is) js e h k = (h.0, right_append image (at + width i.instruction) end is js e h.1 k)

-- where the code of a form begins, an instruction does, if one does where the form ends
starts : (code : List Instruction) (at end : ℕ) (is : List Labelled) → HasAt code at is → after at is ≡ end → IsBegun code end → IsBegun code at
starts code at end [] h e b = subst (λ x. IsBegun code x) (sym e) b
starts code at end (i ∷ is) h e b = (i.instruction, h.0)

-- a jump ahead
ahead : (code : List Instruction) (at address : ℕ) → IsBegun code address → at < address → NamesWell code at address
ahead code at address b further = (b, λ h. absurd (omega (arith, h, further)))

-- Ends do not lie before beginnings.

pub expression_above : (at : ℕ) (e : Expression) → at ≤ expression_end at e
expression_above at (number n) = omega arith
expression_above at (text t) = omega arith
expression_above at (truth b) = omega arith
expression_above at (variable scope n) = omega arith
expression_above at (apply operator a b) = omega (arith, expression_above at a, expression_above (expression_end at a) b)
expression_above at (index n) = omega arith
expression_above at (range_of a b) = omega arith
expression_above at (sum_over i set condition body) = omega arith
expression_above at (invoke routine all) = omega arith
expression_above at (ask_hub function all) = omega arith
expression_above at unbuilt = omega arith

arguments_above : (at : ℕ) (all : Shown) → at ≤ arguments_end at all
arguments_above at nothing_shown = omega arith
arguments_above at (shown_then e es) = omega (arith, expression_above at e, arguments_above (expression_end at e + 1 + 1) es)

mutual
  statement_above : (at : ℕ) (e : CoreStatement) → at ≤ statement_end at e
  statement_above at (assign line scope n e) = omega (arith, expression_above (at + 1) e)
  statement_above at (change line operator scope n e) = omega (arith, expression_above (at + 1) e)
  statement_above at (write line newline all) = omega (arith, arguments_above (at + 1) all)
  statement_above at (if_ line all) = omega (arith, arms_above (at + 1) all)
  statement_above at (while_ line e body) = omega (arith, statement_above (at + 1 + 5 + 1) body, expression_above (statement_end (at + 1 + 5 + 1) body) e)
  statement_above at (do_ all) = block_above at all
  statement_above at (break_ line) = omega arith
  statement_above at (next_ line) = omega arith
  statement_above at (perform line routine all) = omega arith
  statement_above at (tell_hub line function all) = omega arith
  statement_above at unbuilt_statement = omega arith

  arms_above : (at : ℕ) (all : Arms) → at ≤ arms_end at all
  arms_above at (else_ all) = block_above at all
  arms_above at (elif line e all rest) =
      omega (arith, expression_above at e, block_above (expression_end at e + 5) all, arms_above (block_end (expression_end at e + 5) all + 5) rest)

  block_above : (at : ℕ) (all : Block) → at ≤ block_end at all
  block_above at no_statement = omega arith
  block_above at (statement_then e rest) = omega (arith, statement_above at e, block_above (statement_end at e) rest)

-- The place of a variable is among the global slots.

place_within : (n : Name) (names : List Name) → has_name n names ≡ true → place_of n names < length names
place_within n [] h = cc
place_within n (m ∷ names) h = by_test (bytes_eq n m) refl (place_within n names)
  where
    by_test : (test : Bool) → bytes_eq n m ≡ test → (has_name n names ≡ true → place_of n names < length names) → cond test 0 (place_of n names + 1) < length (m ∷ names)
    by_test true e more = omega arith
    by_test false e more = let rest = more (sym (ap (λ b. b || has_name n names) e) ∙ h) in omega arith

slot_within : (names : List Name) (scope : Scope) (n : Name) (many : ℕ) → IsVariable names scope n → length names ≤ many → place_of n names < many
slot_within names Model n many h wide = let within = place_within n names h in omega (arith, within, wide)
slot_within names Own n many h wide = absurd h

truth_within : (b : Bool) → from_bool b < 2
truth_within true = omega arith
truth_within false = omega arith

operator_right : (image : Image) (at line : ℕ) (operator : Operator) → AreRight image at (at_line line (operator_code operator) ∷ [])
operator_right image at line sum = ((tt, tt), tt)
operator_right image at line difference = ((tt, tt), tt)
operator_right image at line (compare how) = ((tt, tt), tt)

-- what the tables of the image hold
pub record Tables (image : Image) (names : List Name) : Type 0 where
  pub slots : length names ≤ length image.globals
  pub texts : length image.constants < 2 ^ 32

applied_right : (image : Image) (context : Context) (line k at : ℕ) (operator : Operator) (a b : Expression)
    → AreRight image at (expression_code context line k a) → AreRight image (expression_end at a) (expression_code context line (k + length (texts_in a)) b)
    → AreRight image at (expression_code context line k (apply operator a b))
applied_right image context line k at operator a b h l =
    let m : ℕ = k + length (texts_in a) in
    let middle : ℕ = expression_end at a in
    right_append image at middle (expression_code context line k a) (expression_code context line m b ++ at_line line (operator_code operator) ∷ []) (expression_after context line k at a) h
    (right_append image middle (expression_end middle b) (expression_code context line m b) (at_line line (operator_code operator) ∷ []) (expression_after context line m middle b) l
    (operator_right image (expression_end middle b) line operator))

numeric_right : (image : Image) (context : Context) (line k at : ℕ) (e : Expression) → Tables image context.names.model → IsNumeric context.names.model e → IsSmall e → AreRight image at (expression_code context line k e)
numeric_right image context line k at (number n) tables h small = ((small, tt), tt)
numeric_right image context line k at (variable scope n) tables h small = ((slot_within context.names.model scope n _ h tables.slots, tt), tt)
numeric_right image context line k at (apply operator a b) tables h small =
    applied_right image context line k at operator a b (numeric_right image context line k at a tables h.1 small.0) (numeric_right image context line (k + length (texts_in a)) (expression_end at a) b tables h.2 small.1)
numeric_right image context line k at (text t) tables h small = absurd h
numeric_right image context line k at (truth b) tables h small = absurd h
numeric_right image context line k at (index n) tables h small = absurd h
numeric_right image context line k at (range_of a b) tables h small = absurd h
numeric_right image context line k at (sum_over i set condition body) tables h small = absurd h
numeric_right image context line k at (invoke routine all) tables h small = absurd h
numeric_right image context line k at (ask_hub function all) tables h small = absurd h
numeric_right image context line k at unbuilt tables h small = absurd h

condition_right : (image : Image) (context : Context) (line k at : ℕ) (e : Expression) → Tables image context.names.model → IsCondition context.names.model e → IsSmall e → AreRight image at (expression_code context line k e)
condition_right image context line k at (truth b) tables h small = ((truth_within b, tt), tt)
condition_right image context line k at (apply (compare how) a b) tables h small =
    applied_right image context line k at (compare how) a b (numeric_right image context line k at a tables h.0 small.0) (numeric_right image context line (k + length (texts_in a)) (expression_end at a) b tables h.1 small.1)
condition_right image context line k at (apply sum a b) tables h small = absurd h
condition_right image context line k at (apply difference a b) tables h small = absurd h
condition_right image context line k at (number n) tables h small = absurd h
condition_right image context line k at (variable scope n) tables h small = absurd h
condition_right image context line k at (text t) tables h small = absurd h
condition_right image context line k at (index n) tables h small = absurd h
condition_right image context line k at (range_of a b) tables h small = absurd h
condition_right image context line k at (sum_over i set condition body) tables h small = absurd h
condition_right image context line k at (invoke routine all) tables h small = absurd h
condition_right image context line k at (ask_hub function all) tables h small = absurd h
condition_right image context line k at unbuilt tables h small = absurd h

shown_right : (image : Image) (context : Context) (line k at : ℕ) (e : Expression) → Tables image context.names.model → IsShown context.names.model e → IsSmall e → k + length (texts_in e) ≤ length image.constants
    → AreRight image at (expression_code context line k e)
shown_right image context line k at (text t) tables h small few = ((omega (arith, few), tt), tt)
shown_right image context line k at (number n) tables h small few = numeric_right image context line k at (number n) tables h small
shown_right image context line k at (variable scope n) tables h small few = numeric_right image context line k at (variable scope n) tables h small
shown_right image context line k at (apply operator a b) tables h small few = numeric_right image context line k at (apply operator a b) tables h small
shown_right image context line k at (truth b) tables h small few = absurd h
shown_right image context line k at (index n) tables h small few = absurd h
shown_right image context line k at (range_of a b) tables h small few = absurd h
shown_right image context line k at (sum_over i set condition body) tables h small few = absurd h
shown_right image context line k at (invoke routine all) tables h small few = absurd h
shown_right image context line k at (ask_hub function all) tables h small few = absurd h
shown_right image context line k at unbuilt tables h small few = absurd h

arguments_right : (image : Image) (context : Context) (line k at : ℕ) (all : Shown) → Tables image context.names.model → AreShown context.names.model all → AreSmall all → k + length (texts_in_all all) ≤ length image.constants
    → AreRight image at (arguments_code context line k all)
arguments_right image context line k at nothing_shown tables h small few = tt
arguments_right image context line k at (shown_then e es) tables h small few =
    let l = length-append (texts_in e) (texts_in_all es) in
    let middle : ℕ = expression_end at e in
    right_append image at middle (expression_code context line k e) (at_line line Show ∷ at_line line Write ∷ arguments_code context line (k + length (texts_in e)) es) (expression_after context line k at e)
    (shown_right image context line k at e tables h.0 small.0 (omega (arith, few, l)))
    ((tt, tt), ((tt, tt), arguments_right image context line (k + length (texts_in e)) (middle + 1 + 1) es tables h.1 small.1 (omega (arith, few, l))))

change_right : (image : Image) (at line slot : ℕ) (operator : Operator) → slot < length image.globals
    → AreRight image at (at_line line (LoadGlobal slot) ∷ at_line line Swap ∷ at_line line (operator_code operator) ∷ at_line line (StoreGlobal slot) ∷ [])
change_right image at line slot sum within = ((within, tt), ((tt, tt), ((tt, tt), ((within, tt), tt))))
change_right image at line slot difference within = ((within, tt), ((tt, tt), ((tt, tt), ((within, tt), tt))))
change_right image at line slot (compare how) within = ((within, tt), ((tt, tt), ((tt, tt), ((within, tt), tt))))

-- where `break`, `next` and the end of a form lead
pub record TargetsBegin (image : Image) (end out next : ℕ) : Type 0 where
  pub end_begun : IsBegun image.code end
  pub out_begun : IsBegun image.code out
  pub next_begun : IsBegun image.code next
  pub out_ahead : end ≤ out
  pub next_ahead : end ≤ next
  pub out_fits : out < 2 ^ 32
  pub next_fits : next < 2 ^ 32

mutual
  statement_right : (image : Image) (context : Context) (k at out next : ℕ) (e : CoreStatement) → Tables image context.names.model → Works context.names.model e → IsSmallStatement e
      → k + length (texts_in_statement e) ≤ length image.constants → HasAt image.code at (statement_code context k at out next e) → TargetsBegin image (statement_end at e) out next
      → AreRight image at (statement_code context k at out next e)
  statement_right image context k at out next (assign line scope n e) tables works small few h x = (
    (tt, tt),
    right_append image (at + 1) (expression_end (at + 1) e) (expression_code context line k e) (at_line line (StoreGlobal (place_of n context.names.model)) ∷ [])
        (expression_after context line k (at + 1) e) (numeric_right image context line k (at + 1) e tables works.1 small)
        ((slot_within context.names.model scope n _ works.0 tables.slots, tt), tt),
  )
  statement_right image context k at out next (change line operator scope n e) tables works small few h x = (
    (tt, tt),
    right_append image (at + 1) (expression_end (at + 1) e) (expression_code context line k e)
        (at_line line (LoadGlobal (place_of n context.names.model)) ∷ at_line line Swap ∷ at_line line (operator_code operator) ∷ at_line line (StoreGlobal (place_of n context.names.model)) ∷ [])
        (expression_after context line k (at + 1) e) (numeric_right image context line k (at + 1) e tables works.2 small)
        (change_right image (expression_end (at + 1) e) line (place_of n context.names.model) operator (slot_within context.names.model scope n _ works.1 tables.slots)),
  )
  statement_right image context k at out next (write line newline all) tables works small few h x = (
    (tt, tt),
    right_append image (at + 1) (arguments_end (at + 1) all) (arguments_code context line k all) (at_line line (PushBool (from_bool newline)) ∷ at_line line Line ∷ [])
        (arguments_after context line k (at + 1) all) (arguments_right image context line k (at + 1) all tables works small few)
        ((truth_within newline, tt), ((tt, tt), tt)),
  )
  statement_right image context k at out next (perform line routine all) tables works small few h x = absurd works
  statement_right image context k at out next (tell_hub line function all) tables works small few h x = absurd works
  statement_right image context k at out next (if_ line all) tables works small few h x =
      ((tt, tt), arms_right image context k (at + 1) out next all tables works small few h.1 x)
  statement_right image context k at out next (while_ line e body) tables works small few h x =
      let pass : ℕ = at + 1 + 5 in
      let test : ℕ = statement_end (pass + 1) body in
      let last : ℕ = expression_end test e in
      let l : ℕ = k + length (texts_in_statement body) in
      let inner = statement_code context k (pass + 1) (last + 5) test body in
      let behind = expression_code context line l e ++ at_line line (JumpIf pass) ∷ [] in
      let cuts = cut image.code (pass + 1) test inner behind (statement_after context k (pass + 1) (last + 5) test body) h.1.1.1 in
      let ends = cut image.code test last (expression_code context line l e) (at_line line (JumpIf pass) ∷ []) (expression_after context line l test e) cuts.1 in
      let both = length-append (texts_in_statement body) (texts_in e) in
      let above = statement_above (pass + 1) body in
      let later = expression_above test e in
      let out_ahead = x.out_ahead in
      let out_fits = x.out_fits in
      let test_begun : IsBegun image.code test = starts image.code test last (expression_code context line l e) ends.0 (expression_after context line l test e) (JumpIf pass, ends.1.0) in (
        (tt, tt),
        (
          (omega (arith, later, out_ahead, out_fits), ahead image.code (at + 1) test test_begun (omega (arith, above))),
          (
            (tt, tt),
            right_append image (pass + 1) test inner behind (statement_after context k (pass + 1) (last + 5) test body)
                (statement_right image context k (pass + 1) (last + 5) test body tables works.1 small.1 (omega (arith, few, both)) cuts.0 (record {
                  end_begun = test_begun;
                  out_begun = x.end_begun;
                  next_begun = test_begun;
                  out_ahead = omega (arith, later);
                  next_ahead = omega arith;
                  out_fits = omega (arith, out_ahead, out_fits);
                  next_fits = omega (arith, later, out_ahead, out_fits);
                }))
                (right_append image test last (expression_code context line l e) (at_line line (JumpIf pass) ∷ []) (expression_after context line l test e)
                (condition_right image context line l test e tables works.0 small.0)
                ((omega (arith, above, later, out_ahead, out_fits), ((Tick, h.1.1.0), λ t. h.1.1.0)), tt)),
          ),
        ),
      )
  statement_right image context k at out next (do_ all) tables works small few h x = block_right image context k at out next all tables works small few h x
  statement_right image context k at out next (break_ line) tables works small few h x =
      let further = x.out_ahead in ((tt, tt), ((x.out_fits, ahead image.code (at + 1) out x.out_begun (omega (arith, further))), tt))
  statement_right image context k at out next (next_ line) tables works small few h x =
      let further = x.next_ahead in ((tt, tt), ((x.next_fits, ahead image.code (at + 1) next x.next_begun (omega (arith, further))), tt))
  statement_right image context k at out next unbuilt_statement tables works small few h x = absurd works

  arms_right : (image : Image) (context : Context) (k at out next : ℕ) (all : Arms) → Tables image context.names.model → ArmsWork context.names.model all → AreSmallArms all
      → k + length (texts_in_arms all) ≤ length image.constants → HasAt image.code at (arms_code context k at (arms_end at all) out next all) → TargetsBegin image (arms_end at all) out next
      → AreRight image at (arms_code context k at (arms_end at all) out next all)
  arms_right image context k at out next (else_ all) tables works small few h x = block_right image context k at out next all tables works small few h x
  arms_right image context k at out next (elif line e all rest) tables works small few h x =
      let middle : ℕ = expression_end at e in
      let body : ℕ = middle + 5 in
      let jump : ℕ = block_end body all in
      let other : ℕ = jump + 5 in
      let end : ℕ = arms_end other rest in
      let l : ℕ = k + length (texts_in e) in
      let m : ℕ = l + length (texts_in_block all) in
      let others = arms_code context m other end out next rest in
      let inner = block_code context l body out next all in
      let cuts = cut image.code at middle (expression_code context line k e) (at_line line (JumpNot other) ∷ (inner ++ at_line line (Jump end) ∷ others)) (expression_after context line k at e) h in
      let ends = cut image.code body jump inner (at_line line (Jump end) ∷ others) (block_after context l body out next all) cuts.1.1 in
      let above = block_above body all in
      let more = arms_above other rest in
      let one_way = length-append (texts_in e) (texts_in_block all ++ texts_in_arms rest) in
      let other_way = length-append (texts_in_block all) (texts_in_arms rest) in
      let out_ahead = x.out_ahead in
      let next_ahead = x.next_ahead in
      let out_fits = x.out_fits in
      let other_begun : IsBegun image.code other = starts image.code other end others ends.1.1 (arms_after context m other end out next rest) x.end_begun in
      right_append image at middle (expression_code context line k e) (at_line line (JumpNot other) ∷ (inner ++ at_line line (Jump end) ∷ others)) (expression_after context line k at e)
      (condition_right image context line k at e tables works.0 small.0) (
        (omega (arith, more, out_ahead, out_fits), ahead image.code middle other other_begun (omega (arith, above))),
        right_append image body jump inner (at_line line (Jump end) ∷ others) (block_after context l body out next all)
            (block_right image context l body out next all tables works.1 small.1 (omega (arith, few, one_way, other_way)) ends.0 (record {
              end_begun = (Jump end, ends.1.0);
              out_begun = x.out_begun;
              next_begun = x.next_begun;
              out_ahead = omega (arith, more, out_ahead);
              next_ahead = omega (arith, more, next_ahead);
              out_fits = x.out_fits;
              next_fits = x.next_fits;
            })) (
              (omega (arith, out_ahead, out_fits), ahead image.code jump end x.end_begun (omega (arith, more))),
              arms_right image context m other out next rest tables works.2 small.2 (omega (arith, few, one_way, other_way)) ends.1.1 x,
            ),
      )

  pub block_right : (image : Image) (context : Context) (k at out next : ℕ) (all : Block) → Tables image context.names.model → AllWork context.names.model all → IsSmallBlock all
      → k + length (texts_in_block all) ≤ length image.constants → HasAt image.code at (block_code context k at out next all) → TargetsBegin image (block_end at all) out next
      → AreRight image at (block_code context k at out next all)
  block_right image context k at out next no_statement tables works small few h x = tt
  block_right image context k at out next (statement_then e rest) tables works small few h x =
      let l : ℕ = k + length (texts_in_statement e) in
      let middle : ℕ = statement_end at e in
      let rest_code = block_code context l middle out next rest in
      let cuts = cut image.code at middle (statement_code context k at out next e) rest_code (statement_after context k at out next e) h in
      let above = block_above middle rest in
      let both = length-append (texts_in_statement e) (texts_in_block rest) in
      let out_ahead = x.out_ahead in
      let next_ahead = x.next_ahead in
      right_append image at middle (statement_code context k at out next e) rest_code (statement_after context k at out next e)
      (statement_right image context k at out next e tables works.0 small.0 (omega (arith, few, both)) cuts.0 (record {
        end_begun = starts image.code middle (block_end middle rest) rest_code cuts.1 (block_after context l middle out next rest) x.end_begun;
        out_begun = x.out_begun;
        next_begun = x.next_begun;
        out_ahead = omega (arith, above, out_ahead);
        next_ahead = omega (arith, above, next_ahead);
        out_fits = x.out_fits;
        next_fits = x.next_fits;
      }))
      (block_right image context l middle out next rest tables works.1 small.1 (omega (arith, few, both)) cuts.1 x)

-- what is found in right code is right
pub right_found : (image : Image) (at : ℕ) (is : List Labelled) → AreRight image at is → (address : ℕ) (i : Instruction)
    → instruction_from at (instructions is) address ≡ Some i → IsRight image address i
right_found image at [] h address i found = cc
right_found image at (j ∷ is) h address i found = tested (nat_eq at address) refl found (right_found image (at + width j.instruction) is h.1 address i)
  where
    tested : (b : Bool) → nat_eq at address ≡ b → (if b then Some j.instruction else instruction_from (at + width j.instruction) (instructions is) address) ≡ Some i
        → (instruction_from (at + width j.instruction) (instructions is) address ≡ Some i → IsRight image address i) → IsRight image address i
    tested true e k later =
        let here : at ≡ address = grind (arith, nat_tests, e) in
        let same : j.instruction ≡ i = cc in
        subst (λ (x : ℕ). IsRight image x i) here (subst (λ (x : Instruction). IsRight image at x) same h.0)
    tested false e k later = later k
