-- Fields of records.

use Rattle.std.specs.Prelude.{ℕ, List, Option, Some, None, slice_get}
use Rattle.mos_text.specs.declared.kind.Kind.TheVariants.{Unknown}
use Rattle.mos_names.specs.NameLists.{Name, place_of}
use Rattle.mos_sorts.specs.declared.sort.Sort.{Sort}
use Rattle.mos_sorts.specs.declared.sort.Sort.TheVariants as s
use Rattle.mos_sorts.specs.declared.sort.RecordSort.{RecordSort}
use Rattle.mos_sorts.specs.declared.typed.Typed.TheVariants as t
use Rattle.mos_sorts.specs.Kinds.{sooner}
use Rattle.mos_sorts.specs.Trees.{sort_of}
use Rattle.mos_rules.specs.Results.{Seen, with_tree, without_type}

-- the record type of this number
abbrev pub record_of : List RecordSort → Sort → Option RecordSort
record_of records (s.Record number) = slice_get records number
record_of records _ = None

-- a field with its number
abbrev pub field_value : Option Sort → ℕ → Name → Seen → Seen
field_value (Some sort) number field seen = with_tree (t.Field sort seen.tree number) seen.worst
field_value None number field seen = record { tree = t.Wrong; worst = sooner seen.worst (Unknown field) }

-- a field of a record of this type; of what is no record there is none
abbrev pub field_in : Option RecordSort → Name → Seen → Seen
field_in (Some record_type) field seen =
    field_value (slice_get record_type.sorts (place_of field record_type.names)) (place_of field record_type.names) field seen
field_in None field seen = field_value None 0 field seen

-- a field of what has this type
abbrev pub field_of : List RecordSort → Option Sort → Name → Seen → Seen
field_of records None field seen = without_type seen.worst
field_of records (Some sort) field seen = field_in (record_of records sort) field seen

-- what stands behind a name, where a field does
abbrev pub with_field : List RecordSort → Option Name → Seen → Seen
with_field records None seen = seen
with_field records (Some field) seen = field_of records (sort_of seen.tree) field seen
