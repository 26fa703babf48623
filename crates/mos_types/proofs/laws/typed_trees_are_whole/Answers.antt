-- each by its lemma
use Rattle.mos_types.proofs.Trees.{whole_trees, whole_rows, whole_indexes}
use Rattle.mos_types.proofs.Sides.{whole_assignments, whole_calls, whole_fills, whole_values}
use Rattle.mos_types.proofs.laws.typed_trees_are_whole.Goals as goal

pub returns-clause-expressions : goal.returns-clause-expressions
returns-clause-expressions c = whole_trees

pub returns-clause-rows : goal.returns-clause-rows
returns-clause-rows c = whole_rows

pub returns-clause-indexes : goal.returns-clause-indexes
returns-clause-indexes c = whole_indexes

pub returns-clause-assignments : goal.returns-clause-assignments
returns-clause-assignments c = whole_assignments

pub returns-clause-calls : goal.returns-clause-calls
returns-clause-calls c = whole_calls

pub returns-clause-fills : goal.returns-clause-fills
returns-clause-fills c = whole_fills

pub returns-clause-values : goal.returns-clause-values
returns-clause-values c = whole_values
