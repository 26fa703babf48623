-- The fields of a record type as they are written, group by group.

use Rattle.std.specs.Prelude.{◌||◌, List, [], ◌∷◌, ◌++◌, Option}
use Rattle.mos_names.specs.NameLists.{Name, has_name, with_name}
use Rattle.mos_text.specs.declared.kind.Kind.{Kind}
use Rattle.mos_sorts.specs.declared.sort.Sort.{Sort}
use Rattle.mos_sorts.specs.declared.sort.RecordSort.{RecordSort}
use Rattle.mos_sorts.specs.Scopes.{twice_if}

-- what counts of names behind those before: a name that is one of the fields, or one of those before, is declared twice
abbrev pub fields_twice : List Name → List Name → List Name → Option Kind → Option Kind
fields_twice fields before [] worst = worst
fields_twice fields before (n ∷ ns) worst =
    fields_twice fields (with_name before n) ns (twice_if (has_name n fields || has_name n before) n worst)

-- what counts of the names of a group behind these fields
abbrev pub group_twice : List Name → List Name → Option Kind → Option Kind
group_twice fields names worst = fields_twice fields [] names worst

-- fields, and behind them these names with this type
abbrev pub with_fields : List Name → Sort → RecordSort → RecordSort
with_fields [] sort fields = fields
with_fields (n ∷ ns) sort fields = with_fields ns sort (record { names = fields.names ++ n ∷ []; sorts = fields.sorts ++ sort ∷ [] })
