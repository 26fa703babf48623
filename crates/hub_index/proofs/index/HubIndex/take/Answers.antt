use Rattle.std.proofs.Common.{◌++◌, ◌∷◌, [], ◌∙◌}
use Rattle.hub_index.proofs.Noted.{ok_of, less_on, short}
use Rattle.hub_index.proofs.index.HubIndex.take.Goals as goal

pub returns : goal.returns
returns c = λ journal stands legal.
    let e = c.args.entry.now in
    let few = c.few_entries.ensures (journal ++ e ∷ []) legal in
    record {
      models = ok_of _ (c.note.ensures.sure c.requires.models) c.note.ensures.noted journal stands.models (short journal e few);
      events = ok_of _ (c.note-2.ensures.sure c.requires.events) c.note-2.ensures.noted journal stands.events legal;
      blocks = ok_of _ (c.note-3.ensures.sure c.requires.blocks) c.note-3.ensures.noted journal stands.blocks (short journal e few);
      pipes = ok_of _ (c.note-4.ensures.sure c.requires.pipes) c.note-4.ensures.noted journal stands.pipes legal;
      left = c.less_call-self.ensures ∙ less_on journal e _ stands.left;
    }
