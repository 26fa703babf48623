-- each law is proved as a lemma, from the law that equal scalars are the same
use Rattle.mos_array.proofs.WritingLaws.{written_is_read, others_stay}
use Rattle.mos_array.proofs.laws.laws_of_writing.Goals as goal

pub returns : goal.returns
returns c = record {
  written_is_read = written_is_read c.laws_of_sets.ensures.same_is_equal;
  others_stay = others_stay c.laws_of_sets.ensures.same_is_equal;
}
