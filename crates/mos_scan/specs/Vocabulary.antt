-- The words and symbols of the language: the tables of src/vocabulary.rt.

use Rattle.std.specs.Prelude.{ℕ, List, map}
use Rattle.mos_scan.specs.declared.token.TokenKind.{TokenKind}
use Rattle.mos_scan.specs.declared.vocabulary.TheConstants.{RESERVED, ENDS, SYMBOLS}

-- texts, each with its kind
abbrev pub Table : Type 0
Table = List (List ℕ × TokenKind)

-- the reserved words but those that begin with `end-`
abbrev pub reserved_words : Table
reserved_words = map (λ k. (k.0.now, k.1)) RESERVED

-- what may follow `end-`, which is then one token with it
abbrev pub ends : Table
ends = map (λ k. (k.0.now, k.1)) ENDS

-- the symbols, the newline among them
abbrev pub symbols : Table
symbols = map (λ k. (k.0.now, k.1)) SYMBOLS
