-- A source has one token list or one lexical fault, and tokens have one list of pieces.

use Rattle.std.specs.Prelude.{◌≡◌, ◌⊎◌, ℕ, List}
use Rattle.mos_text.specs.declared.kind.Kind.{Kind}
use Rattle.mos_scan.specs.declared.token.Token.{Token}
use Rattle.mos_scan.specs.declared.piece.Piece.{Piece}
use Rattle.mos_scan.specs.Cuts.{IsTokenList, IsLexicalFault}
use Rattle.mos_scan.specs.Pieces.{ArePieces}

-- there are no two token lists
abbrev pub OneTokenList : Type 0
OneTokenList = (bytes : List ℕ) (tokens others : List Token) → IsTokenList bytes tokens → IsTokenList bytes others → tokens ≡ others

-- there are no two lexical faults
abbrev pub OneLexicalFault : Type 0
OneLexicalFault = (bytes : List ℕ) (p q : ℕ) (k l : Kind) → IsLexicalFault bytes p k → IsLexicalFault bytes q l → (p ≡ q) × (k ≡ l)

-- there is no token list beside a lexical fault
abbrev pub ListOrFault : Type 0
ListOrFault = (bytes : List ℕ) (tokens : List Token) (place : ℕ) (kind : Kind) → IsTokenList bytes tokens → IsLexicalFault bytes place kind → ⊥

-- there is a token list or a lexical fault
abbrev pub SomeListOrFault : Type 0
SomeListOrFault = (bytes : List ℕ) → ((tokens : List Token) × IsTokenList bytes tokens) ⊎ ((place : ℕ) × (kind : Kind) × IsLexicalFault bytes place kind)

-- there are no two lists of pieces
abbrev pub OneListOfPieces : Type 0
OneListOfPieces = (tokens : List Token) (ps qs : List Piece) → ArePieces tokens ps → ArePieces tokens qs → ps ≡ qs

-- there is a list of pieces
abbrev pub SomeListOfPieces : Type 0
SomeListOfPieces = (tokens : List Token) → (ps : List Piece) × ArePieces tokens ps
