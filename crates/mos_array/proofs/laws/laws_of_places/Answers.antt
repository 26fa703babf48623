-- each law is proved as a lemma
use Rattle.mos_array.proofs.PlaceLaws.{order_stays, dense_stays, range_is_outside, range_is_outside_too, last_is_fastest}
use Rattle.mos_array.proofs.laws.laws_of_places.Goals as goal

pub returns : goal.returns
returns c = record {
  order_stays = order_stays;
  dense_stays = dense_stays;
  range_is_outside = range_is_outside;
  range_is_outside_too = range_is_outside_too;
  last_is_fastest = last_is_fastest;
}
