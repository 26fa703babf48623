-- How texts, bytes and numbers are written in a report.
use Rattle.std.specs.Prelude.{ℕ, ◌+◌, ◌/◌, ◌%◌, List, [], ◌∷◌, ◌++◌, nat_eq, nat_lt, if◌then◌else◌, flat_map, codes, decimal}

-- a character inside quotes: newline, tab, backslash and quote are written by a backslash and a character
abbrev pub escape : ℕ → List ℕ
escape c =
    if nat_eq c 10 then codes "\\n" else
    (if nat_eq c 9 then codes "\\t" else
    (if nat_eq c 92 then codes "\\\\" else
    (if nat_eq c 34 then codes "\\\"" else c ∷ [])))

-- a text in quotes
unfoldable pub in_quotes : List ℕ → List ℕ
in_quotes text = codes "\"" ++ flat_map escape text ++ codes "\""

-- a digit of base 16, in lower case
abbrev pub hex_digit : ℕ → ℕ
hex_digit n = if nat_lt n 10 then 48 + n else 87 + n

-- a byte in two such digits
abbrev pub hex_pair : ℕ → List ℕ
hex_pair byte = hex_digit (byte / 16) ∷ hex_digit (byte % 16) ∷ []

-- bytes: an x, and two digits each
unfoldable pub hex_text : List ℕ → List ℕ
hex_text bytes = codes "x" ++ flat_map hex_pair bytes

-- a word, and after a space a number, a in_quotes text, or both
unfoldable pub with_number : List ℕ → ℕ → List ℕ
with_number word n = word ++ codes " " ++ decimal n

-- a word, and after a space a text in quotes
unfoldable pub with_quotes : List ℕ → List ℕ → List ℕ
with_quotes word text = word ++ codes " " ++ in_quotes text
