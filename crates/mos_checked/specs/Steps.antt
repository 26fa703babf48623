-- The lines of statements.

use Rattle.std.specs.Prelude.{ℕ}
use Rattle.mos_checked.specs.declared.step.Step.{Step}
use Rattle.mos_checked.specs.declared.step.Step.TheViews.{out-Step}
use Rattle.mos_checked.specs.declared.step.Step.TheOpen.{Step-F, Assign, Change, Fill, Routine, Library, If, Case, Forall, While, Repeat, Do, Break, Next, Initializations, Arrays}

-- the line that stands in a statement
abbrev pub line_at : Step-F Step → ℕ
line_at (Assign line target value) = line
line_at (Change line target operation value) = line
line_at (Fill line target values) = line
line_at (Routine line name arguments) = line
line_at (Library line function arguments) = line
line_at (If line arms otherwise) = line
line_at (Case line value alternatives otherwise) = line
line_at (Forall line index body) = line
line_at (While line condition body) = line
line_at (Repeat line body until_line condition) = line
line_at (Do line body) = line
line_at (Break line) = line
line_at (Next line) = line
line_at (Initializations line direction name labels) = line
line_at (Arrays line place names sort sets) = line

-- the line of a statement's first piece
abbrev pub line_of : Step → ℕ
line_of step = line_at (out-Step step)
