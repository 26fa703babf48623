use Rattle.std.proofs.Common.{subst, sym, ap, ◌∙◌, Some, is_some, true≢false}
use Rattle.std.proofs.lemmas.Map.Text.{hash_map_updates_text}
use Rattle.indexmap.specs.IndexMap.{get_by_text}
use Rattle.mempipe.proofs.Changes.{IsTold, one_told, none_told}
use Rattle.mempipe.proofs.pipes.Pipes.tell.Goals as goal

pub returns-in_default : goal.returns-in_default
returns-in_default c = none_told c.args.self.now c.args.entry.now c.args.place (sym c.in_default.ensures)

pub returns-in-Some-get_mut : goal.returns-in-Some-get_mut
returns-in-Some-get_mut c =
    let named = sym c.in-Some.ensures in
    let known = ap (λ n. is_some (get_by_text c.args.self.now.pipes n)) c.as_str.ensures.value ∙ c.requires.known c.in-Some.name.now named in
    let sets = hash_map_updates_text c.as_str.result.now c.args.self.now.pipes (c.get_mut.follows.lender c.tell.new.self) _ ((c.get_mut.follows.holds c.tell.new.self).3 known) in
    let told : IsTold c.in-Some.name.now c.in-Some-get_mut.state.now c.tell.new.self c.args.entry.now c.args.place
    = record { ends = c.tell.ensures.ends; bytes = c.tell.ensures.bytes; here = c.tell.ensures.here } in
    one_told c.args.self.now (record { pipes = c.get_mut.follows.lender c.tell.new.self }) c.args.entry.now c.args.place c.as_str.result.now c.in-Some-get_mut.state.now c.tell.new.self
    (record { was = sym c.in-Some-get_mut.ensures.value; is = sets })
    (subst (λ n. IsTold n c.in-Some-get_mut.state.now c.tell.new.self c.args.entry.now c.args.place) (sym c.as_str.ensures.value) told)
    c.requires (named ∙ ap Some (sym c.as_str.ensures.value))

pub returns-in_default-get_mut : goal.returns-in_default-get_mut
returns-in_default-get_mut c =
    let named = sym c.in-Some.ensures in
    let known = ap (λ n. is_some (get_by_text c.args.self.now.pipes n)) c.as_str.ensures.value ∙ c.requires.known c.in-Some.name.now named in
    absurd (true≢false (sym known ∙ ap is_some (sym c.in_default-get_mut.ensures.value)))
