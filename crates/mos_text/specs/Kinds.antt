-- The printed text of each kind of verdict.

use Rattle.std.specs.Prelude.{ℕ, List, ◌++◌, Option, Some, None, codes}
use Rattle.mos_text.specs.declared.kind.Kind.{Kind}
use Rattle.mos_text.specs.declared.kind.Kind.TheVariants.{None as NoKind, Utf8, Char, Number, Real, Str, Comment, Out, Syntax, Deep, Module, Jobs, Unknown, Twice, Forward, Loop, Return, Const, Flat, Prefix, Args, NoType, Size}

-- The word of an error line.
abbrev pub kind_word : Kind → List ℕ
kind_word NoKind = codes "NONE"
kind_word Utf8 = codes "UTF8"
kind_word Char = codes "CHAR"
kind_word Number = codes "NUMBER"
kind_word Real = codes "REAL"
kind_word Str = codes "STRING"
kind_word Comment = codes "COMMENT"
kind_word (Out name) = codes "OUT"
kind_word Syntax = codes "SYNTAX"
kind_word Deep = codes "DEEP"
kind_word (Module name) = codes "MODULE"
kind_word Jobs = codes "JOBS"
kind_word (Unknown name) = codes "UNKNOWN"
kind_word (Twice name) = codes "TWICE"
kind_word Forward = codes "FORWARD"
kind_word Loop = codes "LOOP"
kind_word Return = codes "RETURN"
kind_word Const = codes "CONST"
kind_word Flat = codes "FLAT"
kind_word (Prefix name) = codes "PREFIX"
kind_word Args = codes "ARGS"
kind_word NoType = codes "TYPE"
kind_word Size = codes "SIZE"

-- The name that a kind speaks of, where it has one.
abbrev pub kind_name : Kind → Option (List ℕ)
kind_name NoKind = None
kind_name Utf8 = None
kind_name Char = None
kind_name Number = None
kind_name Real = None
kind_name Str = None
kind_name Comment = None
kind_name (Out name) = Some name
kind_name Syntax = None
kind_name Deep = None
kind_name (Module name) = Some name
kind_name Jobs = None
kind_name (Unknown name) = Some name
kind_name (Twice name) = Some name
kind_name Forward = None
kind_name Loop = None
kind_name Return = None
kind_name Const = None
kind_name Flat = None
kind_name (Prefix name) = Some name
kind_name Args = None
kind_name NoType = None
kind_name Size = None

-- A word, and after a space the name, where there is one.
abbrev pub word_and_name : List ℕ → Option (List ℕ) → List ℕ
word_and_name word None = word
word_and_name word (Some name) = word ++ codes " " ++ name

-- The text of a kind on an error line.
abbrev pub kind_text : Kind → List ℕ
kind_text kind = word_and_name (kind_word kind) (kind_name kind)
