use Rattle.std.proofs.Common.{◌≡◌, ℕ, List, true, false, sym, ap, ◌∙◌, is_some, string_bytes}
use Rattle.std.specs.Option.{option_flatten}
use Rattle.std.specs.Str.{bytes_eq}
use Rattle.std.proofs.lemmas.Map.Text.{hash_map_updates_text}
use Rattle.std.proofs.lemmas.Result.{IfOk-at_ok}
use Rattle.std.proofs.lemmas.Slice.Eq.{bytes_eq-Decides}
use Rattle.indexmap.specs.IndexMap.{get_by_text}
use Rattle.shmem_block.proofs.Names.{clash, nothing_more}
use Rattle.shmem_block.proofs.places.Places.know.Goals as goal

pub returns-in_err-key-clause-sure : goal.returns-in_err-key-clause-sure
returns-in_err-key-clause-sure c =
    λ known. absurd (clash c.contains_key.result (λ n. is_some (get_by_text c.args.self.now.places n)) _ _ c.if-contains_key.false c.contains_key.ensures c.as_str.ensures.value known)

pub returns-in_err-insert-clause-sure : goal.returns-in_err-insert-clause-sure
returns-in_err-insert-clause-sure c =
    λ known. absurd (clash c.contains_key.result (λ n. is_some (get_by_text c.args.self.now.places n)) _ _ c.if-contains_key.false c.contains_key.ensures c.as_str.ensures.value known)

-- the name was missing, and nothing stands under it now
pub returns-clause-places : goal.returns-clause-places
returns-clause-places c = λ q.
    let find : List ℕ → _ = λ n. is_some (get_by_text c.args.self.now.places n) in
    let key_is : string_bytes c.in_ok-key.key ≡ c.as_str-2.result.now = IfOk-at_ok (λ s. string_bytes s ≡ c.as_str-2.result.now) c.in_ok-key.was c.from_str.ensures.ok in
    let sets = hash_map_updates_text (string_bytes c.in_ok-key.key) c.args.self.now.places c.insert.new.self _ c.in_ok-insert.ensures.updates in
    let missing : bytes_eq (string_bytes c.in_ok-key.key) q ≡ true → find q ≡ false
    = λ same. ap find (sym ((bytes_eq-Decides (string_bytes c.in_ok-key.key) q).0 same) ∙ key_is ∙ c.as_str-2.ensures.value ∙ sym c.as_str.ensures.value) ∙ sym c.contains_key.ensures ∙ c.if-contains_key.false in
    ap option_flatten (sets q) ∙ nothing_more (bytes_eq (string_bytes c.in_ok-key.key) q) (get_by_text c.args.self.now.places q) missing
