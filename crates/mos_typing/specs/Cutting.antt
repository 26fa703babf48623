-- As the code reads, apart from what the public clauses say: where words are cut outside brackets:
-- at a comma or at a colon.

use Rattle.std.specs.Prelude.{◌≡◌, ℕ, ◌+◌, ◌-◌, Bool, true, false, ◌&&◌, if◌then◌else◌, nat_eq, List, [], ◌∷◌, ◌++◌, Option, Some, None}
use Rattle.mos_scan.specs.declared.token.TokenKind.{TokenKind}
use Rattle.mos_scan.specs.declared.token.TokenKind.TheVariants as token_kind
use Rattle.mos_scan.specs.declared.grammar_word.Word.{Word}
use Rattle.mos_scan.specs.declared.grammar_word.Word.TheVariants as word_kind
use Rattle.mos_typing.specs.declared.cut.Mark.{Mark}
use Rattle.mos_typing.specs.declared.cut.Mark.TheVariants as marks

-- the token that words are cut at
abbrev pub token_at : Mark → TokenKind
token_at marks.Comma = token_kind.Comma
token_at marks.Colon = token_kind.Colon

-- the word is that token
abbrev pub is_mark : Mark → Word → Bool
is_mark marks.Comma (word_kind.Key token_kind.Comma) = true
is_mark marks.Colon (word_kind.Key token_kind.Colon) = true
is_mark _ _ = false

-- how many brackets are open behind the word
abbrev pub depth_behind : Word → ℕ → ℕ
depth_behind (word_kind.Key token_kind.OpenRound) depth = depth + 1
depth_behind (word_kind.Key token_kind.OpenSquare) depth = depth + 1
depth_behind (word_kind.Key token_kind.OpenCurly) depth = depth + 1
depth_behind (word_kind.Key token_kind.CloseRound) depth = depth - 1
depth_behind (word_kind.Key token_kind.CloseSquare) depth = depth - 1
depth_behind (word_kind.Key token_kind.CloseCurly) depth = depth - 1
depth_behind _ depth = depth

-- the words before a cut, and those behind it; None where there is none
abbrev pub Halves : Type 0
Halves = Option (List Word × List Word)

-- the words, before what is cut
abbrev pub ahead : List Word → Halves → Halves
ahead words None = None
ahead words (Some halves) = Some (words ++ halves.0, halves.1)

-- the cut at the first such token outside brackets, of which so many are open
abbrev pub halves_at : Mark → ℕ → List Word → Halves
halves_at mark depth [] = None
halves_at mark depth (x ∷ xs) = if nat_eq depth 0 && is_mark mark x then Some ([], xs) else ahead (x ∷ []) (halves_at mark (depth_behind x depth) xs)

-- these are the words before the first such token outside brackets, and behind it
abbrev pub IsCut : Mark → List Word → List Word → List Word → Type 0
IsCut mark words front behind = halves_at mark 0 words ≡ Some (front, behind)

-- names, a type, and what stands behind the comma behind it
abbrev pub Group : Type 0
Group = List Word × List Word × List Word

-- the names, and what is cut behind the colon
abbrev pub group_cut : List Word → Halves → Option Group
group_cut names None = None
group_cut names (Some halves) = Some (names, halves.0, halves.1)

-- what is cut at a colon, with what stands behind it cut at a comma
abbrev pub typed_cut : Halves → Option Group
typed_cut None = None
typed_cut (Some halves) = group_cut halves.0 (halves_at marks.Comma 0 halves.1)

-- the first group of formals, None where no other stands behind it
abbrev pub first_group : List Word → Option Group
first_group words = typed_cut (halves_at marks.Colon 0 words)

-- these are the names of the first group, its type, and what stands behind it
abbrev pub IsFirstGroup : List Word → List Word → List Word → List Word → Type 0
IsFirstGroup words names typ behind = first_group words ≡ Some (names, typ, behind)
