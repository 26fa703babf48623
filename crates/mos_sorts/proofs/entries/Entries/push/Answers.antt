use Rattle.std.proofs.Common.{◌≡◌, ◌∙◌, string_bytes}
use Rattle.std.proofs.lemmas.Map.Text.{hash_map_updates_text}
use Rattle.std.proofs.lemmas.Result.{IfOk-at_ok}
use Rattle.indexmap.specs.IndexMap.{get_by_text}
use Rattle.mos_sorts.proofs.Latest.{latest-pushed}
use Rattle.mos_sorts.proofs.entries.Entries.push.Goals as goal

pub invariant_of-self-in-Ok : goal.invariant_of-self-in-Ok
invariant_of-self-in-Ok c =
    let key = string_bytes c.in_ok-name.name in
    let named : key ≡ c.args.entry.name = IfOk-at_ok (λ s. string_bytes s ≡ c.as_str.result.now) c.in_ok-name.was c.from_str.ensures.ok ∙ c.as_str.ensures in
    latest-pushed (get_by_text c.self.inside.places) (get_by_text c.insert.new.self) key c.len-place.result c.self.inside.all c.push.new.self c.args.entry named c.len-place.ensures
    c.in_ok-push.ensures.ok (hash_map_updates_text key c.self.inside.places c.insert.new.self _ c.in-Ok.ensures.updates) c.self.invariant
