-- item by item
use Rattle.run_state.specs.Parameters.{Parameter, items_of}
use Rattle.std.specs.Prelude.{map}
use Rattle.run_state.proofs.RefusedItems.{refused_behind}
use Rattle.run_state.proofs.laws.refused_texts.Goals as goal

pub returns : goal.returns
returns c = λ params text. refused_behind params (map (λ (p : Parameter). p.default) params) (items_of text)
