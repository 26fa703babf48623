-- Looking up names in the content of a folder.

use Rattle.std.proofs.Common.{◌≡◌, ℕ, true, false, cond, List, [], ◌∷◌, Option, Some, None, map, refl, ap, ◌∙◌}
use Rattle.std.specs.Prelude.{option_map}
use Rattle.std.specs.Ordering.{eq_by_cmp, nat_cmp}
use Rattle.std.specs.Cmp.Lexicographic.{slice_cmp}
use Rattle.std.proofs.lemmas.Cmp.{nat_list_cmp_total}
use Rattle.std.specs.FinMap.{find, get, insert, get-insert, get-from_entries}
use Rattle.mos_text.specs.Content.{Files, Known, laid_over, known_in_order, known_of, known_by, known_bytes, held_of, files_of, SameElsewhere}
use Rattle.mos_text.proofs.EntryLemmas.{tie-apart}

-- an entry of one name leaves the other names
pub same-insert : (files : Files) (name : List ℕ) (bytes : Option (List ℕ)) → SameElsewhere name (Some files) (Some (insert files name bytes))
same-insert files name bytes other apart =
    ap known_by (get-insert nat_list_cmp_total files name bytes other ∙ ap (λ b. cond b (Some bytes) (get files other)) (tie-apart other name apart))

find-map : (name : List ℕ) (files : List (List ℕ × List ℕ)) → find (slice_cmp nat_cmp) name (map (λ file. (file.0, Some file.1)) files) ≡ option_map (λ bytes. Some bytes) (find (slice_cmp nat_cmp) name files)
find-map name [] = refl
find-map name (file ∷ files) =
    elim (eq_by_cmp (slice_cmp nat_cmp) name file.0) as (λ b. cond b (Some (Some file.1)) (find (slice_cmp nat_cmp) name (map (λ file. (file.0, Some file.1)) files)) ≡ option_map (λ bytes. Some bytes) (cond b (Some file.1) (find (slice_cmp nat_cmp) name files))) [
      | true ↦ refl
      | false ↦ find-map name files
    ]

known_by-Some : (found : Option (List ℕ)) → known_by (option_map (λ bytes. Some bytes) found) ≡ held_of found
known_by-Some None = refl
known_by-Some (Some bytes) = refl

-- the first file of the name is what is known of it
pub known-files_of : (files : List (List ℕ × List ℕ)) (name : List ℕ) → known_of (Some (files_of files)) name ≡ held_of (find (slice_cmp nat_cmp) name files)
known-files_of files name =
    ap known_by (get-from_entries nat_list_cmp_total (map (λ file. (file.0, Some file.1)) files) name ∙ find-map name files)
    ∙ known_by-Some (find (slice_cmp nat_cmp) name files)

-- the known bytes of what is held
pub known_bytes-held_of : (found : Option (List ℕ)) → known_bytes (held_of found) ≡ found
known_bytes-held_of None = refl
known_bytes-held_of (Some bytes) = refl

-- what an entry says, or else what is known below the entries
known_above : Option (Option (List ℕ)) → Known → Known
known_above (Some entry) below = known_by (Some entry)
known_above None below = below

known-laid_over : (entries : List (List ℕ × Option (List ℕ))) (files : Files) (name : List ℕ) → known_of (Some (laid_over entries files)) name ≡ known_above (find (slice_cmp nat_cmp) name entries) (known_of (Some files) name)
unfolding known_above
known-laid_over [] files name = refl
known-laid_over (entry ∷ entries) files name =
    ap known_by (get-insert nat_list_cmp_total (laid_over entries files) entry.0 entry.1 name)
    ∙ elim (eq_by_cmp (slice_cmp nat_cmp) name entry.0) as (λ b. known_by (cond b (Some entry.1) (get (laid_over entries files) name)) ≡ known_above (cond b (Some entry.1) (find (slice_cmp nat_cmp) name entries)) (known_of (Some files) name)) [
      | true ↦ refl
      | false ↦ known-laid_over entries files name
    ]

above_held : (entry : Option (Option (List ℕ))) (file : Option (List ℕ)) → known_above entry (held_of file) ≡ known_in_order entry file
unfolding known_above
above_held (Some (Some bytes)) file = refl
above_held (Some None) file = refl
above_held None file = refl

-- entries over given files
pub known-in_order : (entries : List (List ℕ × Option (List ℕ))) (files : List (List ℕ × List ℕ)) (name : List ℕ) → known_of (Some (laid_over entries (files_of files))) name ≡ known_in_order (find (slice_cmp nat_cmp) name entries) (find (slice_cmp nat_cmp) name files)
known-in_order entries files name =
    known-laid_over entries (files_of files) name
    ∙ ap (known_above (find (slice_cmp nat_cmp) name entries)) (known-files_of files name)
    ∙ above_held (find (slice_cmp nat_cmp) name entries) (find (slice_cmp nat_cmp) name files)
