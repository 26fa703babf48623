use Rattle.std.proofs.Common.{ap, ◌∙◌, Some, is_some}
use Rattle.std.specs.Prelude.{if◌then◌else◌}
use Rattle.std.specs.Option.{option_flatten}
use Rattle.std.specs.Str.{bytes_eq}
use Rattle.std.proofs.lemmas.Map.Text.{hash_map_updates_text}
use Rattle.indexmap.specs.IndexMap.{get_by_text}
use Rattle.shmem_block.proofs.Names.{place_put}
use Rattle.shmem_block.proofs.places.Places.put.Goals as goal

pub returns-in-Some : goal.returns-in-Some
returns-in-Some c = λ name.
    let known = ap (λ n. is_some (get_by_text c.args.self.now.places n)) c.as_str.ensures.value ∙ c.requires in
    let sets = hash_map_updates_text c.as_str.result.now c.args.self.now.places (c.get_mut.follows.lender (Some c.args.place)) _ ((c.get_mut.follows.holds (Some c.args.place)).3 known) in
    ap option_flatten (sets name)
    ∙ place_put (bytes_eq c.as_str.result.now name) c.args.place (get_by_text c.args.self.now.places name)
    ∙ ap (λ n. if bytes_eq n name then Some c.args.place else option_flatten (get_by_text c.args.self.now.places name)) c.as_str.ensures.value
