-- The limits that several layers share.

use Rattle.std.specs.Prelude.{ℕ}

-- the longest source, in bytes, and so the longest text that stands in one
abbrev pub source_limit : ℕ
source_limit = 1048576

-- the longest text that a run makes, in bytes
abbrev pub text_limit : ℕ
text_limit = 1000000

-- the longest output of a run, in bytes
abbrev pub output_limit : ℕ
output_limit = 1048576
