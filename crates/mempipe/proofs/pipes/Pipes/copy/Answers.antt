use Rattle.std.proofs.Common.{subst, sym, ap, ◌∙◌}
use Rattle.indexmap.specs.IndexMap.{get_by_text}
use Rattle.mempipe.specs.Bytes.{IsUntaken, IsHere}
use Rattle.mempipe.proofs.Changes.{untaken_known, untaken_unknown, no_bytes}
use Rattle.mempipe.proofs.pipes.Pipes.copy.Goals as goal

pub returns-in-Some-clause-bytes : goal.returns-in-Some-clause-bytes
returns-in-Some-clause-bytes c = λ bytes is.
    let at = ap (get_by_text c.args.self.now.pipes) (sym c.as_str.ensures.value) ∙ sym c.in-Some.ensures.value in
    c.copy.ensures.bytes bytes (subst (λ u. IsUntaken u bytes) (untaken_known c.args.self.now c.args.name.now c.in-Some.state.now at) is)

pub returns-in-Some-clause-here : goal.returns-in-Some-clause-here
returns-in-Some-clause-here c = λ is.
    let at = ap (get_by_text c.args.self.now.pipes) (sym c.as_str.ensures.value) ∙ sym c.in-Some.ensures.value in
    c.copy.ensures.here (subst IsHere (untaken_known c.args.self.now c.args.name.now c.in-Some.state.now at) is)

pub returns-in-None-clause-bytes : goal.returns-in-None-clause-bytes
returns-in-None-clause-bytes c = λ bytes is.
    let at = ap (get_by_text c.args.self.now.pipes) (sym c.as_str.ensures.value) ∙ sym c.in-None.ensures.value in
    c.new.ensures.items ∙ no_bytes bytes (subst (λ u. IsUntaken u bytes) (untaken_unknown c.args.self.now c.args.name.now at) is)
