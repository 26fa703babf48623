-- Classes of bytes.

use Rattle.std.specs.Prelude.{ℕ, Bool, ◌||◌, ◌==◌, not}
use Rattle.std.specs.Char.{is_ascii_alphabetic, is_ascii_digit}

-- space, tab, carriage return
abbrev pub is_blank : ℕ → Bool
is_blank b = b == 32 || b == 9 || b == 13

-- a letter or `_`
abbrev pub begins_name : ℕ → Bool
begins_name b = is_ascii_alphabetic b || b == 95

-- a letter, a digit or `_`
abbrev pub is_word : ℕ → Bool
is_word b = begins_name b || is_ascii_digit b

-- either quote
abbrev pub is_quote : ℕ → Bool
is_quote b = b == 34 || b == 39

-- anything but a newline
abbrev pub is_inside : ℕ → Bool
is_inside b = not (b == 10)

-- what may follow a backslash: n, t, a backslash, a double quote
abbrev pub is_escape : ℕ → Bool
is_escape b = b == 110 || b == 116 || b == 92 || b == 34
