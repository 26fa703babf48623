-- Names that are known stay known.

use Rattle.std.proofs.Common.{◌≡◌, Bool, true, false, List, [], ◌∷◌, ◌++◌, Option, Some, None, refl, ap, ◌∙◌, cond, ℕ}
use Rattle.std.specs.Prelude.{◌||◌}
use Rattle.std.specs.List.{list_any}
use Rattle.std.specs.Str.{bytes_eq}
use Rattle.std.proofs.lemmas.List.Folds.{list_any-append}
use Rattle.std.proofs.lemmas.Slice.Eq.{bytes_eq-Decides}
use Rattle.mos_names.specs.NameLists.{has_name, with_name}
use Rattle.mos_check.specs.Names.{Names, or_other, unless_known}

-- each of the first names is one of the others
abbrev pub Within : Names → Names → Type 0
Within known names = (n : List ℕ) → has_name n known ≡ true → has_name n names ≡ true

with_name-keeps-by : (known : Names) (m n : List ℕ) (test : Bool) → has_name n known ≡ true → has_name n (cond test known (known ++ m ∷ [])) ≡ true
with_name-keeps-by known m n true h = h
with_name-keeps-by known m n false h = list_any-append (bytes_eq n) known (m ∷ []) ∙ ap (λ b. b || list_any (bytes_eq n) (m ∷ [])) h

pub with_name-keeps : (known : Names) (m : List ℕ) → Within known (with_name known m)
with_name-keeps known m n h = with_name-keeps-by known m n (has_name m known) h

or_true : (b : Bool) → (b || true) ≡ true
or_true true = refl
or_true false = refl

with_name-has-by : (known : Names) (n : List ℕ) (test : Bool) → has_name n known ≡ test → has_name n (cond test known (known ++ n ∷ [])) ≡ true
with_name-has-by known n true e = e
with_name-has-by known n false e =
    let same : bytes_eq n n ≡ true = (bytes_eq-Decides n n).1 refl in
    list_any-append (bytes_eq n) known (n ∷ []) ∙ ap (λ b. list_any (bytes_eq n) known || (b || false)) same ∙ or_true (list_any (bytes_eq n) known)

pub with_name-has : (known : Names) (n : List ℕ) → has_name n (with_name known n) ≡ true
with_name-has known n = with_name-has-by known n _ refl

pub none-both : (first second : Option (List ℕ)) → or_other first second ≡ None → (first ≡ None) × (second ≡ None)
none-both None second e = (refl, e)
none-both (Some one) second e = cc

known-by : (known : Names) (n : List ℕ) (test : Bool) → has_name n known ≡ test → cond test None (Some n) ≡ None → has_name n known ≡ true
known-by known n true is e = is
known-by known n false is e = cc

pub known-is : (known : Names) (n : List ℕ) → unless_known known n ≡ None → has_name n known ≡ true
known-is known n none = known-by known n _ refl none
