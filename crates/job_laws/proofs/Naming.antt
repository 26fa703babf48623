-- Files whose names are apart.

use Rattle.std.proofs.Common.{◌≡◌, ◌≢◌, ℕ, false, List, [], ◌∷◌, sym, ◌∙◌}
use Rattle.std.specs.Prelude.{All}
use Rattle.std.specs.List.{list_any}
use Rattle.std.specs.Str.{bytes_eq}
use Rattle.std.proofs.lemmas.List.Elements.{All-nil, All-cons}
use Rattle.std.proofs.lemmas.Slice.Eq.{bytes_eq-Decides}
use Rattle.job_calls.specs.declared.entry.Listed.{Listed}
use Rattle.job_laws.proofs.Outcomes.{false_true}
use Rattle.job_laws.proofs.Entering.{or_false}

-- no file has this name
pub all_apart : (name : List ℕ) (files : List Listed) → list_any (λ file. bytes_eq file.name name) files ≡ false → All (λ file. file.name ≢ name) files
all_apart name [] e = All-nil _
all_apart name (x ∷ xs) e =
    let both = or_false (bytes_eq x.name name) (list_any (λ file. bytes_eq file.name name) xs) e in
    All-cons (λ (file : Listed). file.name ≢ name) x xs (λ same. false_true (sym both.0 ∙ (bytes_eq-Decides x.name name).1 same)) (all_apart name xs both.1)
