-- The last writes of a journal with one more entry, and an index that has noted it.

use Rattle.std.proofs.Common.{◌≡◌, ◌<◌, ◌^◌, ℕ, List, [], ◌∷◌, ◌++◌, Some, sym, ap, ◌∙◌, length, length-append, arith}
use Rattle.std.specs.Prelude.{if◌then◌else◌}
use Rattle.std.specs.Str.{bytes_eq}
use Rattle.job_calls.specs.declared.entry.Entry.{Entry}
use Rattle.job_calls.specs.Blocks.{writes, last_write}
use Rattle.shmem_block.specs.declared.places.Places.{Places}
use Rattle.shmem_block.specs.Names.{place_under, IsPut}
use Rattle.growing_lists.specs.Growing.{last_place-snoc}
use Rattle.shmem_block.specs.Index.{WritesUnder, WritesNothing}

-- places that stand for the last writes of a journal
abbrev pub AreLast : Places → List Entry → Type 0
AreLast places journal = (name : List ℕ) → place_under name places ≡ last_write name journal

-- once a write was put, after an entry that is one
pub put_noted : (old new : Places) (written : List ℕ) (place : ℕ) (journal : List Entry) (e : Entry) → IsPut old new written place → WritesUnder written e
    → place ≡ length journal → AreLast old journal → AreLast new (journal ++ e ∷ [])
put_noted old new written place journal e put under here last name =
    put name
    ∙ ap (λ n. if bytes_eq written name then Some n else place_under name old) here
    ∙ ap (λ o. if bytes_eq written name then Some (length journal) else o) (last name)
    ∙ ap (λ b. if b then Some (length journal) else last_write name journal) (sym (under name))
    ∙ sym (last_place-snoc (λ e. writes name e.call e.reply) journal e)

-- after an entry that writes nothing
pub none_noted : (places : Places) (journal : List Entry) (e : Entry) → WritesNothing e → AreLast places journal → AreLast places (journal ++ e ∷ [])
none_noted places journal e none last name =
    last name
    ∙ ap (λ b. if b then Some (length journal) else last_write name journal) (sym (none name))
    ∙ sym (last_place-snoc (λ e. writes name e.call e.reply) journal e)

-- a place for one entry more fits 32 bits
pub still_few : (journal : List Entry) (e : Entry) → length journal < 2 ^ 31 → length (journal ++ e ∷ []) < 2 ^ 32
still_few journal e few = let longer = length-append journal (e ∷ []) in omega (arith, few, longer)
