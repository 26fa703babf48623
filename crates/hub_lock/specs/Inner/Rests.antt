-- As the code goes about it: what holds of a seat between two calls.
use Rattle.std.specs.Prelude.{◌≡◌, ℕ, ◌<◌, [], length, Option}
use Rattle.atomic_table.specs.Table.{Me}
use Rattle.hub_lock.specs.declared.rule.Stage.TheVariants.{Idle}
use Rattle.hub_lock.specs.declared.rule.View.{View}
use Rattle.hub_lock.specs.LaneEntries.{HasNoneFrom}

-- The seat has neither ticket nor turn, nor a slot. It has seen an entry, but lane 0's none of a lane whose seat is not made
pub record IsAtRest {S E : Type 0} (lane_of : E → ℕ) (lane made : ℕ) (me : Me (Option S) (View E)) : Type 0 where
  pub idle : me.0.stage ≡ Idle
  pub empty : me.1 ≡ []
  pub lane_is : me.0.lane ≡ lane
  pub made_is : me.0.made ≡ made
  pub begun : 0 < length me.0.seen
  pub alone : me.0.joined ≡ []
  pub unmade : lane ≡ 0 → (0 < made) × HasNoneFrom lane_of made me.0.seen
