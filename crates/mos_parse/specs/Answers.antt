-- What `parse` answers.

use Rattle.std.specs.Prelude.{◌≡◌, ℕ, List, Result, Ok, Err}
use Rattle.mos_text.specs.declared.kind.Kind.{Kind}
use Rattle.mos_tree.specs.declared.source.Tree.{Tree}
use Rattle.mos_tree.specs.declared.form.PieceForm.{PieceForm}
use Rattle.mos_parse.specs.declared.fault.SyntaxFault.{SyntaxFault}
use Rattle.mos_parse.specs.declared.fault.SyntaxFault.TheVariants.{Refused, NoMemory}
use Rattle.mos_parse.specs.Parsed.{HasForms, BreaksOnLine, IsSyntaxFault}

-- the call answers with this tree, unless it finds no memory
abbrev pub GivesTree : Result Tree SyntaxFault → Tree → Type 0
GivesTree (Ok x) tree = x ≡ tree
GivesTree (Err NoMemory) tree = Unit {0}
GivesTree (Err (Refused refusal)) tree = ⊥

-- the call answers with this fault, unless it finds no memory
abbrev pub GivesFault : Result Tree SyntaxFault → ℕ → Kind → Type 0
GivesFault (Ok x) line kind = ⊥
GivesFault (Err NoMemory) line kind = Unit {0}
GivesFault (Err (Refused refusal)) line kind = (refusal.line ≡ line) × (refusal.kind ≡ kind)

-- the fault is true of the source
abbrev pub IsFaultOf : List ℕ → SyntaxFault → Type 0
IsFaultOf source (Refused refusal) = IsSyntaxFault source refusal.line refusal.kind
IsFaultOf source NoMemory = Unit {0}

-- where the source has pieces, the fault is on the line of the one at which the productions break
abbrev pub BreaksBy : List ℕ → SyntaxFault → Type 0
BreaksBy source (Refused refusal) = (forms : List PieceForm) → HasForms source forms → BreaksOnLine source forms refusal.line
BreaksBy source NoMemory = Unit {0}
