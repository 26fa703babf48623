-- The name of a block in memory is no file's: a colon is in no file name.

use Rattle.std.proofs.Common.{◌≡◌, ℕ, Bool, true, false, ◌&&◌, List, [], ◌∷◌, ◌++◌, Option, Some, None, refl, sym, ap, ◌∙◌, codes, length}
use Rattle.std.specs.Prelude.{not, nat_eq, nat_lt, nat_le, find, option_map, if◌then◌else◌}
use Rattle.std.specs.Option.{option_map_or}
use Rattle.std.specs.List.{list_all, slice_split, onto_first}
use Rattle.std.specs.Str.{bytes_eq}
use Rattle.std.proofs.lemmas.Slice.Eq.{bytes_eq-Decides}
use Rattle.mos_text.specs.FileName.{is_file_name, is_file_name_part, is_file_name_byte}
use Rattle.job_calls.specs.declared.entry.Entry.{Entry}
use Rattle.job_calls.specs.declared.entry.Listed.{Listed}
use Rattle.job_calls.specs.Runs.{Opening, opening_of}
use Rattle.job_calls.specs.Files.{is_data, data_of}
use Rattle.job_calls.specs.Legal.{IsLegal, OpensSo}
use Rattle.job_laws.proofs.Outcomes.{false_true}
use Rattle.job_laws.proofs.Entering.{and_true}

and_no : (a b : Bool) → b ≡ false → (a && b) ≡ false
and_no true b e = e
and_no false b e = refl

-- a part that begins so has a byte that no file name has
bad_part : (part : List ℕ) → is_file_name_part (115 ∷ 104 ∷ 109 ∷ 101 ∷ 109 ∷ 58 ∷ part) ≡ false
bad_part part =
    and_no (nat_lt 0 (length (115 ∷ 104 ∷ 109 ∷ 101 ∷ 109 ∷ 58 ∷ part)) && not (nat_eq 115 46) && not (nat_eq 115 45))
    (list_all is_file_name_byte (115 ∷ 104 ∷ 109 ∷ 101 ∷ 109 ∷ 58 ∷ part)) refl

parts_fail : (parts : List (List ℕ))
    → list_all is_file_name_part (onto_first 115 (onto_first 104 (onto_first 109 (onto_first 101 (onto_first 109 (onto_first 58 parts)))))) ≡ false
parts_fail [] = refl
parts_fail (part ∷ parts) = ap (λ b. b && list_all is_file_name_part parts) (bad_part part)

no_file : (name : List ℕ) → is_file_name (codes "shmem:" ++ name) ≡ false
unfolding is_file_name
no_file name =
    and_no (nat_le (length (codes "shmem:" ++ name)) 255) (list_all is_file_name_part (slice_split (λ byte. nat_eq byte 47) (codes "shmem:" ++ name)))
    (parts_fail (slice_split (λ byte. nat_eq byte 47) name))

find_by : (name : List ℕ) (file : Listed) (files : List Listed) → is_file_name name ≡ false → is_file_name file.name ≡ true
    → (b : Bool) → bytes_eq file.name name ≡ b
    → find (λ f. bytes_eq f.name name && is_data f.name) files ≡ None
    → (if b && is_data file.name then Some file else find (λ f. bytes_eq f.name name && is_data f.name) files) ≡ None
find_by name file files other is true same rest =
    absurd (false_true (sym other ∙ ap is_file_name (sym ((bytes_eq-Decides file.name name).0 same)) ∙ is))
find_by name file files other is false same rest = rest

-- no file with a file name is found under another name
none_found : (name : List ℕ) (files : List Listed) → is_file_name name ≡ false → list_all (λ file. is_file_name file.name) files ≡ true
    → find (λ file. bytes_eq file.name name && is_data file.name) files ≡ None
none_found name [] other all = refl
none_found name (file ∷ files) other all =
    let both = and_true (is_file_name file.name) (list_all (λ f. is_file_name f.name) files) all in
    find_by name file files other both.0 (bytes_eq file.name name) refl (none_found name files other both.1)

opened_none : (name : List ℕ) (o : Option Opening) → OpensSo o → is_file_name name ≡ false
    → find (λ file. bytes_eq file.name name && is_data file.name) (option_map_or (λ (p : Opening). p.files) o []) ≡ None
opened_none name None h other = absurd h
opened_none name (Some o) h other = none_found name o.files other h.names

pub blocks_unlisted : (journal : List Entry) → IsLegal journal → (name : List ℕ) → data_of (codes "shmem:" ++ name) journal ≡ None
blocks_unlisted [] h name = absurd h
blocks_unlisted (e ∷ es) h name =
    let o = h.0 in
    ap (option_map (λ (file : Listed). file.bytes)) (opened_none (codes "shmem:" ++ name) (opening_of e.call) o.opened (no_file name))
