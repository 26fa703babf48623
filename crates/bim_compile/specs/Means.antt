-- An image means a model: it does what the model means, for all parameter texts, replies and budgets.

use Rattle.std.specs.Prelude.{◌≡◌, ◌≢◌, ◌<◌, ◌^◌, ℕ, List, []}
use Rattle.job_calls.specs.declared.reply.Reply.{Reply}
use Rattle.bim_code.specs.declared.image.Image.{Image}
use Rattle.run_state.specs.Stops.{Stuck, Lost}
use Rattle.bim_machine.specs.Courses.{course_of, globals_of}
use Rattle.bim_machine.specs.Laws.{IsPrefix}
use Rattle.mos_tree.specs.declared.source.Tree.{Tree}
use Rattle.mos_meaning.specs.Syntax.{Program}
use Rattle.mos_meaning.specs.Sources.{statements_of, variables_of}
use Rattle.mos_meaning.specs.Meaning.{meaning_of}
use Rattle.mos_meaning.specs.Meaning as meant
use Rattle.mos_meaning.specs.Working.{AllWork, TookFitting}
use Rattle.bim_compile.specs.Sizes.{size_of_block}

-- both have the same outcome
abbrev pub Means : Program → Image → Type 0
Means program image = (text : List ℕ) (replies : List Reply) (budget : ℕ)
    → (course_of image text replies budget).outcome ≡ meaning_of program text replies budget

-- where ticks are spent, the variables that the model declares are the first globals of the image, and have the
-- same values
abbrev pub KeepsGlobals : Program → Image → Type 0
KeepsGlobals program image = (text : List ℕ) (replies : List Reply) (budget : ℕ)
    → IsPrefix (meant.globals_of program text replies budget) (globals_of image text replies budget)

-- no course of the image is stuck that is answered what fits its calls, and so none without replies; none is
-- lost. Of images alone the last says little, since no instruction loses its way: it is the model that is never
-- lost
pub record NeverFails (image : Image) : Type 0 where
  pub stuck : (text : List ℕ) (replies : List Reply) (budget : ℕ)
      → TookFitting replies (course_of image text replies budget).outcome → (course_of image text replies budget).outcome.stop ≢ Stuck
  pub alone : (text : List ℕ) (budget : ℕ) → (course_of image text [] budget).outcome.stop ≢ Stuck
  pub lost : (text : List ℕ) (replies : List Reply) (budget : ℕ) → (course_of image text replies budget).outcome.stop ≢ Lost

-- the source can be compiled: each statement works, and the model is not large
pub record CanCompile (tree : Tree) : Type 0 where
  pub works : AllWork (variables_of (statements_of tree)) (statements_of tree)
  pub not_large : size_of_block (statements_of tree) < 2 ^ 24
