-- Words are names exactly where names are spelled by them.

use Rattle.std.proofs.Common.{◌≡◌, ℕ, List, [], ◌∷◌, Option, Some, None, refl, sym, ◌∙◌, ap}
use Rattle.std.specs.Prelude.{Result, Ok, Err, IfOk}
use Rattle.mos_scan.specs.declared.token.TokenKind.TheVariants as token_kind
use Rattle.mos_scan.specs.declared.grammar_word.Word.{Word}
use Rattle.mos_scan.specs.declared.grammar_word.Word.TheVariants as word_kind
use Rattle.mos_expr.specs.Grammar.{Names, one_name, and_name, spell_names, list_of_names}
use Rattle.mos_typing.specs.Reader.{names_of, onto}
use Rattle.mos_typing.specs.Spellings.{FindsNames}

-- these names are spelled by the words
pub record AreNames (words : List Word) (all : List (List ℕ)) : Type 0 where
  pub written : Names
  pub exact : words ≡ spell_names written
  pub is : all ≡ list_of_names written

more_names : (n : List ℕ) (rest : List Word) (q : Option (List (List ℕ))) (all : List (List ℕ)) → ((more : List (List ℕ)) → q ≡ Some more → AreNames rest more) → onto (n ∷ []) q ≡ Some all → AreNames (word_kind.Name n ∷ word_kind.Key token_kind.Comma ∷ rest) all
more_names n rest None all known e = cc
more_names n rest (Some more) all known e =
    let p : n ∷ more ≡ all = cc in
    let k : AreNames rest more = known more refl in
    record {
      written = and_name n k.written;
      exact = ap (λ z. word_kind.Name n ∷ word_kind.Key token_kind.Comma ∷ z) k.exact;
      is = sym p ∙ ap (λ z. n ∷ z) k.is;
    }

pub names_known : (words : List Word) (all : List (List ℕ)) → names_of words ≡ Some all → AreNames words all
names_known (word_kind.Name n ∷ []) all e = let p : n ∷ [] ≡ all = cc in record { written = one_name n; exact = refl; is = sym p }
names_known (word_kind.Name n ∷ word_kind.Key token_kind.Comma ∷ rest) all e = more_names n rest (names_of rest) all (names_known rest) e
names_known _ all e = cc

pub names_read : (ns : Names) → names_of (spell_names ns) ≡ Some (list_of_names ns)
names_read (one_name n) = refl
names_read (and_name n ns) = ap (onto (n ∷ [])) (names_read ns)

pub names_found : (words : List Word) (found : Option (List (List ℕ))) → found ≡ names_of words → FindsNames words found
names_found words None e = λ ns h. let p : None ≡ Some (list_of_names ns) = e ∙ ap names_of h ∙ names_read ns in cc
names_found words (Some all) e = let k : AreNames words all = names_known words all (sym e) in (k.written, k.exact, k.is)

pub names_answer : {E : Type 0} (words : List Word) (r : Result (Option (List (List ℕ))) E) → IfOk r (λ found. found ≡ names_of words) → IfOk r (FindsNames words)
names_answer words (Ok found) e = names_found words found e
names_answer words (Err x) e = tt
