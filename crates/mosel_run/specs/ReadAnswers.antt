-- What the reader of sources answers.

use Rattle.std.specs.Prelude.{◌≡◌, ℕ, List, Result, Ok, Err}
use Rattle.mos_text.specs.declared.kind.Kind.{Kind}
use Rattle.mos_tree.specs.declared.source.Tree.{Tree}
use Rattle.mos_parse.specs.declared.fault.SyntaxFault.{SyntaxFault}
use Rattle.mos_parse.specs.declared.fault.SyntaxFault.TheVariants as syntax
use Rattle.mos_check.specs.declared.names.CheckFault.{CheckFault}
use Rattle.mos_check.specs.declared.names.CheckFault.TheVariants as check
use Rattle.mosel_run.specs.declared.reader.fault.ReadFault.{ReadFault}
use Rattle.mosel_run.specs.declared.reader.fault.ReadFault.TheVariants.{Refused, NoMemory}
use Rattle.mosel_run.specs.Accepted.{IsWrongAt, IsRefusedAt}

-- a fault of the reader that is true of the source
abbrev pub IsRefusal : List ℕ → ReadFault → Type 0
IsRefusal source (Refused refusal) = IsRefusedAt source refusal.line refusal.kind
IsRefusal source NoMemory = Unit {0}

-- a fault that is true of the tree
abbrev pub IsJudged : Tree → ReadFault → Type 0
IsJudged tree (Refused refusal) = IsWrongAt tree refusal.line refusal.kind
IsJudged tree NoMemory = Unit {0}

-- the answer is this tree, but for want of memory
abbrev pub GivesTree : Result Tree ReadFault → Tree → Type 0
GivesTree (Ok x) tree = x ≡ tree
GivesTree (Err NoMemory) tree = Unit {0}
GivesTree (Err (Refused refusal)) tree = ⊥

-- the answer is this refusal, but for want of memory
abbrev pub GivesRefusal : Result Tree ReadFault → ℕ → Kind → Type 0
GivesRefusal (Ok x) line kind = ⊥
GivesRefusal (Err NoMemory) line kind = Unit {0}
GivesRefusal (Err (Refused refusal)) line kind = (refusal.line ≡ line) × (refusal.kind ≡ kind)

-- a fault of a part of the reader
abbrev pub of_syntax : SyntaxFault → ReadFault
of_syntax (syntax.Refused refusal) = Refused refusal
of_syntax syntax.NoMemory = NoMemory

-- and a fault of the check
abbrev pub of_check : CheckFault → ReadFault
of_check (check.Refused refusal) = Refused refusal
of_check check.NoMemory = NoMemory
