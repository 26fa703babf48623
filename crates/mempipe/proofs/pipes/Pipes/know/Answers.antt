use Rattle.std.proofs.Common.{◌≡◌, ℕ, List, true, false, sym, ap, ◌∙◌, is_some, string_bytes}
use Rattle.std.specs.Str.{bytes_eq}
use Rattle.std.proofs.lemmas.Map.Text.{hash_map_updates_text}
use Rattle.std.proofs.lemmas.Result.{IfOk-at_ok}
use Rattle.std.proofs.lemmas.Slice.Eq.{bytes_eq-Decides}
use Rattle.indexmap.specs.IndexMap.{get_by_text}
use Rattle.mempipe.specs.declared.untaken.Untaken.TheVariants.{Counted}
use Rattle.mempipe.specs.declared.state.State.{State}
use Rattle.mempipe.specs.States.{no_ends}
use Rattle.mempipe.proofs.Changes.{clash, nothing_more, all_same}
use Rattle.std.specs.Option.{option_map_or}
use Rattle.mempipe.proofs.pipes.Pipes.know.Goals as goal

pub returns-in_err-key-clause-sure : goal.returns-in_err-key-clause-sure
returns-in_err-key-clause-sure c =
    λ known. absurd (clash c.contains_key.result (λ n. is_some (get_by_text c.args.self.now.pipes n)) _ _ c.if-contains_key.false c.contains_key.ensures c.as_str.ensures.value known)

pub returns-in_err-insert-clause-sure : goal.returns-in_err-insert-clause-sure
returns-in_err-insert-clause-sure c =
    λ known. absurd (clash c.contains_key.result (λ n. is_some (get_by_text c.args.self.now.pipes n)) _ _ c.if-contains_key.false c.contains_key.ensures c.as_str.ensures.value known)

-- the name was missing, and there is nothing to say of it now
pub returns-clause-same : goal.returns-clause-same
returns-clause-same c =
    let find : List ℕ → _ = λ n. is_some (get_by_text c.args.self.now.pipes n) in
    let fresh : State = record { ends = no_ends; untaken = Counted 0 } in
    let key_is : string_bytes c.in_ok-key.key ≡ c.as_str-2.result.now = IfOk-at_ok (λ s. string_bytes s ≡ c.as_str-2.result.now) c.in_ok-key.was c.from_str.ensures.ok in
    let sets = hash_map_updates_text (string_bytes c.in_ok-key.key) c.args.self.now.pipes c.insert.new.self _ c.in_ok-insert.ensures.updates in
    let missing : (q : List ℕ) → bytes_eq (string_bytes c.in_ok-key.key) q ≡ true → find q ≡ false
    = λ q same. ap find (sym ((bytes_eq-Decides (string_bytes c.in_ok-key.key) q).0 same) ∙ key_is ∙ c.as_str-2.ensures.value ∙ sym c.as_str.ensures.value) ∙ sym c.contains_key.ensures ∙ c.if-contains_key.false in
    all_same c.args.self.now (record { pipes = c.insert.new.self })
    (λ q. ap (λ o. option_map_or (λ (s : State). s.ends) o no_ends) (sets q)
    ∙ nothing_more (λ (s : State). s.ends) fresh (bytes_eq (string_bytes c.in_ok-key.key) q) (get_by_text c.args.self.now.pipes q) (missing q))
    (λ q. ap (λ o. option_map_or (λ (s : State). s.untaken) o (Counted 0)) (sets q)
    ∙ nothing_more (λ (s : State). s.untaken) fresh (bytes_eq (string_bytes c.in_ok-key.key) q) (get_by_text c.args.self.now.pipes q) (missing q))
