use Rattle.std.proofs.Common.{subst, sym, ap, ◌∙◌}
use Rattle.indexmap.specs.IndexMap.{get_by_text}
use Rattle.mempipe.specs.Bytes.{IsUntaken}
use Rattle.mempipe.proofs.Changes.{untaken_known, untaken_unknown}
use Rattle.mempipe.proofs.pipes.Pipes.untaken.Goals as goal

pub returns-in-Some : goal.returns-in-Some
returns-in-Some c = λ bytes is.
    let at = ap (get_by_text c.args.self.now.pipes) (sym c.as_str.ensures.value) ∙ sym c.in-Some.ensures.value in
    c.count.ensures bytes (subst (λ u. IsUntaken u bytes) (untaken_known c.args.self.now c.args.name.now c.in-Some.state.now at) is)

pub returns-in-None : goal.returns-in-None
returns-in-None c = λ bytes is.
    let at = ap (get_by_text c.args.self.now.pipes) (sym c.as_str.ensures.value) ∙ sym c.in-None.ensures.value in
    subst (λ u. IsUntaken u bytes) (untaken_unknown c.args.self.now c.args.name.now at) is
