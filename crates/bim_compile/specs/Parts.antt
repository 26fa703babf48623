-- As the compiler goes about it: the parts of a model, and what a draft becomes by one.

use Rattle.std.specs.Prelude.{◌≡◌, ◌≤◌, ◌<◌, ◌++◌, ◌+◌, ◌*◌, ◌^◌, ℕ, List, [], ◌∷◌, length}
use Rattle.bim_code.specs.declared.instruction.Instruction.TheVariants.{JumpIf}
use Rattle.mos_meaning.specs.Syntax.{Expression, Shown, CoreStatement, Arms, Block}
use Rattle.bim_compile.specs.declared.draft.Draft.{Draft}
use Rattle.bim_compile.specs.declared.draft.JumpTargets.{JumpTargets}
use Rattle.bim_compile.specs.declared.draft.Labelled.{Labelled}
use Rattle.bim_compile.specs.Contexts.{Context}
use Rattle.bim_compile.specs.Compiled.{at_line, texts_in, texts_in_all, texts_in_statement, texts_in_arms, texts_in_block, expression_code, arguments_code, statement_code, arms_code, block_code, expression_end, arguments_end, statement_end, arms_end, block_end}
use Rattle.bim_compile.specs.Sizes.{size_of, size_of_all, size_of_core, size_of_arms, size_of_block}

-- a part of a model: its code where `k` constants stand before it and it begins at `at`, its texts, the address
-- behind it, and the most bytes that its code takes
pub record Part : Type 0 where
  pub code : (k at : ℕ) → List Labelled
  pub texts : List (List ℕ)
  pub end : ℕ → ℕ
  pub most : ℕ

-- an expression, of the piece on this line
abbrev pub expression_part : Context → (line : ℕ) → Expression → Part
expression_part context line e = record {
  code = λ k at. expression_code context line k e;
  texts = texts_in e;
  end = λ at. expression_end at e;
  most = 5 * size_of e;
}

-- the test of a loop, which leads back to the tick of a pass
abbrev pub test_part : Context → (line pass : ℕ) → Expression → Part
test_part context line pass e = record {
  code = λ k at. expression_code context line k e ++ at_line line (JumpIf pass) ∷ [];
  texts = texts_in e;
  end = λ at. expression_end at e + 5;
  most = 5 * size_of e + 5;
}

-- what is printed
abbrev pub arguments_part : Context → (line : ℕ) → Shown → Part
arguments_part context line all = record {
  code = λ k at. arguments_code context line k all;
  texts = texts_in_all all;
  end = λ at. arguments_end at all;
  most = 7 * size_of_all all;
}

-- a statement
abbrev pub statement_part : Context → JumpTargets → CoreStatement → Part
statement_part context targets e = record {
  code = λ k at. statement_code context k at targets.break_ targets.next_ e;
  texts = texts_in_statement e;
  end = λ at. statement_end at e;
  most = 13 * size_of_core e;
}

-- a statement out of which no `break` and no `next` leads
abbrev pub closed_part : Context → CoreStatement → Part
closed_part context e = statement_part context (record { break_ = 0; next_ = 0 }) e

-- the branches of an `if`, which ends at `end`
abbrev pub arms_part : Context → (end : ℕ) → JumpTargets → Arms → Part
arms_part context end targets all = record {
  code = λ k at. arms_code context k at end targets.break_ targets.next_ all;
  texts = texts_in_arms all;
  end = λ at. arms_end at all;
  most = 13 * size_of_arms all;
}

-- the statements of a block
abbrev pub block_part : Context → JumpTargets → Block → Part
block_part context targets all = record {
  code = λ k at. block_code context k at targets.break_ targets.next_ all;
  texts = texts_in_block all;
  end = λ at. block_end at all;
  most = 13 * size_of_block all;
}

-- each variable, each text and each address of a part has a number of 32 bits, behind this draft
pub record HasRoom (context : Context) (part : Part) (draft : Draft) : Type 0 where
  pub few_names : length context.names.model < 2 ^ 31
  pub few_texts : length draft.constants + length part.texts < 2 ^ 32
  pub room : draft.at + part.most + 13 < 2 ^ 32

-- the part stands behind what was made before, its code and its texts
pub record Emits (part : Part) (before behind : Draft) : Type 0 where
  pub code : behind.code ≡ before.code ++ part.code (length before.constants) before.at
  pub constants : behind.constants ≡ before.constants ++ part.texts
  pub at : behind.at ≡ part.end before.at
  pub within : behind.at ≤ before.at + part.most
