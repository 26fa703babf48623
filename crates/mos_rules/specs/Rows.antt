-- Values in a row, as arguments, indexes, cells and labels: what is expected of each, and how it is converted.

use Rattle.std.specs.Prelude.{ℕ, ◌+◌, ◌==◌, Bool, true, false, not, List, [], ◌∷◌, Option, Some, None, option_map, slice_get}
use Rattle.mos_text.specs.declared.kind.Kind.{Kind}
use Rattle.mos_text.specs.declared.kind.Kind.TheVariants.{Args, NoType}
use Rattle.mos_value.specs.declared.member.MemberType.{MemberType}
use Rattle.mos_sorts.specs.declared.sort.Sort.{Sort}
use Rattle.mos_sorts.specs.declared.sort.Sort.TheVariants as s
use Rattle.mos_sorts.specs.declared.typed.Typed.{Typed}
use Rattle.mos_sorts.specs.declared.typed.Typed.TheViews.{out-Typed}
use Rattle.mos_sorts.specs.declared.scope.Scope.{Scope}
use Rattle.mos_sorts.specs.declared.scope.Bound.{Bound}
use Rattle.mos_sorts.specs.Kinds.{least, breaks}
use Rattle.mos_sorts.specs.Sorts.{fits, may_fit, sort_of_member}
use Rattle.mos_sorts.specs.Trees.{sort_of, as_set_tree, as_wanted, as_printed}
use Rattle.mos_sorts.specs.Library.{is_set, is_list, may_be, wrong_prefix}
use Rattle.mos_rules.specs.declared.expected.Expected.{Expected}
use Rattle.mos_rules.specs.declared.expected.Expected.TheVariants as e
use Rattle.mos_rules.specs.Results.{Seen, Row, Look}

-- what is expected of values in a row
pub data Expects : Type 0 where
  Plain : Expects
  Printed : Expects
  AsSets : Expects
  Files : Expects
  Formals : (sorts : List Sort) → Expects
  Indexes : (members : List MemberType) → Expects
  Cells : (sort : Sort) → Expects
  Labels : (value : Sort) → Expects

-- what is expected, as the code says it
abbrev pub expects : Expected → Expects
expects e.Plain = Plain
expects e.Printed = Printed
expects e.AsSets = AsSets
expects e.Files = Files
expects (e.Formals sorts) = Formals sorts.now
expects (e.Indexes members) = Indexes members.now
expects (e.Cells sort) = Cells sort
expects (e.Labels value) = Labels value

-- a range beside a value of this type, with which it is compared or from which it is chosen, is made into a set if that is one
abbrev pub beside : Option Sort → Typed → Typed
beside (Some (s.Set member)) a = as_set_tree a
beside (Some s.EmptySet) a = as_set_tree a
beside other a = a

-- a label of `case` on a value of this type: one of that type, or a range for an integer
abbrev pub can_be_label : Sort → Sort → Bool
can_be_label (s.Array number) label = false
can_be_label s.Integer s.Range = true
can_be_label s.EmptySet label = is_set label
can_be_label s.EmptyList label = is_list label
can_be_label value label = fits value label

-- the type that is wanted at a place, where one is
abbrev pub wanted_at : Expects → ℕ → Option Sort
wanted_at (Formals sorts) at = slice_get sorts at
wanted_at (Indexes members) at = option_map sort_of_member (slice_get members at)
wanted_at (Cells sort) at = Some sort
wanted_at _ at = None

-- the value, where this type is wanted
abbrev pub given_at : Option Sort → Typed → Typed
given_at None a = a
given_at (Some sort) a = as_wanted sort a

-- the value at a place, converted
abbrev pub converted : Expects → ℕ → Typed → Typed
converted Printed at a = as_printed a
converted AsSets at a = as_set_tree a
converted (Labels value) at a = beside (Some value) a
converted expected at a = given_at (wanted_at expected at) a

-- the value has no type, or one that fits, or no type is wanted
abbrev pub fits_at : Option Sort → Typed → Bool
fits_at None a = true
fits_at (Some sort) a = may_fit sort (sort_of a)

-- the second of a row of options, source and image is the name of a file
abbrev pub wrong_source : Bool → Typed → List Kind
wrong_source true a = wrong_prefix false (out-Typed a)
wrong_source false a = []

-- what is wrong with the value at a place
abbrev pub wrong_at : Expects → ℕ → Typed → List Kind
wrong_at Files at a = wrong_source (at == 1) a
wrong_at (Formals sorts) at a = breaks (not (fits_at (wanted_at (Formals sorts) at) a)) Args
wrong_at (Indexes members) at a = breaks (not (fits_at (wanted_at (Indexes members) at) a)) Args
wrong_at (Cells sort) at a = breaks (not (may_fit sort (sort_of a))) NoType
wrong_at (Labels value) at a = breaks (not (may_be (can_be_label value) (sort_of a))) NoType
wrong_at _ at a = []

-- the value at a place, as it is taken there
abbrev pub taken_at : Expects → ℕ → Seen → Seen
taken_at expected at seen = record { tree = converted expected at seen.tree; worst = least seen.worst (wrong_at expected at seen.tree) }

-- one more value before others
abbrev pub before : Seen → Row → Row
before seen row = record { trees = seen.tree ∷ row.trees; worst = row.worst }

-- the values from a place on, from left to right
abbrev pub each : Expects → ℕ → List Look → Scope → List Bound → Option Kind → Row
each expected at [] scope bound worst = record { trees = []; worst = worst }
each expected at (x ∷ xs) scope bound worst =
    before
    (taken_at expected at (x scope bound worst))
    (each expected (at + 1) xs scope bound (taken_at expected at (x scope bound worst)).worst)
