-- What `scan` answers where a source has a lexical fault.

use Rattle.std.specs.Prelude.{◌≡◌, ℕ, List, Result, Ok, Err}
use Rattle.mos_scan.specs.Cuts.{IsLexicalFault, line_of, column_of}
use Rattle.mos_text.specs.declared.kind.Kind.{Kind}
use Rattle.mos_scan.specs.declared.fault.LexFault.{LexFault}
use Rattle.mos_scan.specs.declared.fault.LexFault.TheVariants as lex_fault

-- a fault says the line, the column and the kind of the lexical fault
pub record IsFaultAt (bytes : List ℕ) (line column : ℕ) (kind : Kind) : Type 0 where
  pub place : ℕ
  pub fault : IsLexicalFault bytes place kind
  pub line_is : line ≡ line_of bytes place
  pub column_is : column ≡ column_of bytes place

-- the answer is the lexical fault, or that memory was wanting
abbrev pub IsFaultOf : List ℕ → LexFault → Type 0
IsFaultOf bytes (lex_fault.At line column kind) = IsFaultAt bytes line column kind
IsFaultOf bytes lex_fault.NoMemory = Unit {0}

-- memory was wanting
abbrev pub IsNoMemory : LexFault → Type 0
IsNoMemory (lex_fault.At line column kind) = ⊥
IsNoMemory lex_fault.NoMemory = Unit {0}

-- the fault names this place and kind, unless memory was wanting
abbrev pub Names : LexFault → List ℕ → ℕ → Kind → Type 0
Names (lex_fault.At line column k) bytes place kind = (line ≡ line_of bytes place) × (column ≡ column_of bytes place) × (k ≡ kind)
Names lex_fault.NoMemory bytes place kind = Unit {0}

-- the call answers with the fault of this place and kind, unless it finds no memory
abbrev pub GivesFault : {V : Type 0} → Result V LexFault → List ℕ → ℕ → Kind → Type 0
GivesFault (Ok v) bytes place kind = ⊥
GivesFault (Err fault) bytes place kind = Names fault bytes place kind
