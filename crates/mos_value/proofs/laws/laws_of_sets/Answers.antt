-- each law is proved as a lemma
use Rattle.mos_value.proofs.SetLaws.{same_is_equal, union_has_just_both, union_has_each_once, union_keeps_order, inter_has_just_common, inter_has_each_once, minus_has_just_rest, minus_has_each_once, set_has_each_once, set_has_just_items, set_stays, same_by_members}
use Rattle.mos_value.proofs.laws.laws_of_sets.Goals as goal

pub returns : goal.returns
returns c = record {
  same_is_equal = same_is_equal;
  union_has_just_both = union_has_just_both;
  union_has_each_once = union_has_each_once;
  union_keeps_order = union_keeps_order;
  inter_has_just_common = inter_has_just_common;
  inter_has_each_once = inter_has_each_once;
  minus_has_just_rest = minus_has_just_rest;
  minus_has_each_once = minus_has_each_once;
  set_has_each_once = set_has_each_once;
  set_has_just_items = set_has_just_items;
  set_stays = set_stays;
  same_by_members = same_by_members;
}
