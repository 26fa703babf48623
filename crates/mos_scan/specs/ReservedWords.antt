-- Which words are reserved, left out, or names.

use Rattle.std.specs.Prelude.{ℕ, Bool, not, ◌&&◌, ◌||◌, if◌then◌else◌, ◌==◌, List, [], ◌∷◌, Option, Some, None, unwrap_or, codes}
use Rattle.std.specs.List.{list_any}
use Rattle.std.specs.Char.{is_ascii_lowercase, is_ascii_uppercase}
use Rattle.std.specs.Str.{str_eq_ignore_ascii_case}
use Rattle.mos_scan.specs.declared.token.TokenKind.{TokenKind}
use Rattle.mos_scan.specs.declared.token.TokenKind.TheVariants.{Name}
use Rattle.mos_scan.specs.declared.vocabulary.TheConstants.{REFUSED}
use Rattle.mos_scan.specs.Vocabulary.{Table, reserved_words, ends}

-- the same word but for the case of letters
unfoldable pub same_word : List ℕ → List ℕ → Bool
same_word a b = str_eq_ignore_ascii_case a b

-- all letters are small, or all are capital
abbrev pub in_one_case : List ℕ → Bool
in_one_case text = not (list_any is_ascii_uppercase text) || not (list_any is_ascii_lowercase text)

-- what stands beside the word in the table, in whatever case
abbrev pub look_up : Table → List ℕ → Option TokenKind
look_up [] word = None
look_up (k ∷ ks) word = if same_word k.0 word then Some k.1 else look_up ks word

-- a word that is left out, in one case
unfoldable pub is_refused : List ℕ → Bool
is_refused word = in_one_case word && list_any (λ k. same_word k.now word) REFUSED

-- a word without `end-`: a reserved word in one case, or a name
unfoldable pub plain_word : List ℕ → TokenKind
plain_word word = if in_one_case word then unwrap_or (look_up reserved_words word) Name else Name

-- the `end-` word that a text is, as a whole: `end-` and a word of the table, in one case
unfoldable pub end_word : List ℕ → Option TokenKind
end_word (e ∷ n ∷ d ∷ dash ∷ tail) =
    if dash == 45 && same_word (e ∷ n ∷ d ∷ []) (codes "end") && in_one_case (e ∷ n ∷ d ∷ dash ∷ tail) then look_up ends tail else None
end_word _ = None
