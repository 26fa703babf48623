-- As the code reads pieces one after the other. No public clause cites it.

use Rattle.std.specs.Prelude.{◌≡◌, ℕ, List, Option, Some, Result, Ok, Err}
use Rattle.mos_text.specs.declared.kind.Kind.{Kind}
use Rattle.mos_tree.specs.declared.source.Tree.{Tree}
use Rattle.mos_tree.specs.declared.form.PieceForm.{PieceForm}
use Rattle.mos_source.specs.declared.fault.PieceFault.{PieceFault}
use Rattle.mos_source.specs.declared.fault.PieceFault.TheVariants as piece_fault
use Rattle.mos_source.specs.Faults.{line_of_first}
use Rattle.mos_source.specs.Machine.{Stack, step, Outcome, done, stopped, finished_tree, at_end, run}
use Rattle.mos_source.specs.Sources.{limit}

-- the call answers so
abbrev pub Answers : Outcome → Result Tree PieceFault → Type 0
Answers (done tree) (Ok x) = x ≡ tree
Answers (stopped kind xs) (Err (piece_fault.At line found)) = (line ≡ line_of_first xs) × (found ≡ kind)
Answers outcome (Err piece_fault.NoMemory) = Unit {0}
Answers outcome _ = ⊥

-- one piece is taken, or is wrong on its line
abbrev pub TakesOne : Stack → PieceForm → Stack → Result (Unit {0}) PieceFault → Type 0
TakesOne k x next (Ok done_) = step limit k x ≡ Ok next
TakesOne k x next (Err (piece_fault.At line kind)) = (step limit k x ≡ Err kind) × (line ≡ Some x.line)
TakesOne k x next (Err piece_fault.NoMemory) = Unit {0}

-- the run stops at pieces of which the first is on this line
pub record Stops (k : Stack) (xs : List PieceForm) (line : Option ℕ) (kind : Kind) : Type 0 where
  pub left : List PieceForm
  pub run_is : run limit k xs ≡ stopped kind left
  pub line_is : line ≡ line_of_first left

-- all pieces are taken, or one is wrong
abbrev pub TakesAll : Stack → List PieceForm → Stack → Result (Unit {0}) PieceFault → Type 0
TakesAll k xs next (Ok done_) = run limit k xs ≡ at_end (finished_tree next)
TakesAll k xs next (Err (piece_fault.At line kind)) = Stops k xs line kind
TakesAll k xs next (Err piece_fault.NoMemory) = Unit {0}
