-- What counts of several rules that one piece breaks: the first kind of the table, and of one kind the name that stands
-- first in the text.

use Rattle.std.specs.Prelude.{ℕ, Bool, true, false, List, [], ◌∷◌, Option, Some, None, if◌then◌else◌, nat_lt}
use Rattle.mos_text.specs.declared.kind.Kind.{Kind}
use Rattle.mos_text.specs.declared.kind.Kind.TheVariants as error_kind

-- the place of a kind in the table of rules; kinds that no rule has come behind it
abbrev pub rank : Kind → ℕ
rank (error_kind.Out name) = 1
rank error_kind.Jobs = 2
rank (error_kind.Unknown name) = 3
rank (error_kind.Twice name) = 4
rank error_kind.Forward = 5
rank error_kind.Loop = 6
rank error_kind.Return = 7
rank error_kind.Const = 8
rank error_kind.Flat = 9
rank (error_kind.Prefix word) = 10
rank error_kind.Args = 11
rank error_kind.NoType = 12
rank _ = 13

-- a rule that is broken later in the text counts only if its kind stands before that of the rule that was broken before
abbrev pub counts : Option Kind → Kind → Bool
counts None kind = true
counts (Some worst) kind = nat_lt (rank kind) (rank worst)

-- what counts of a rule that was broken before and one that is broken later in the text
abbrev pub sooner : Option Kind → Kind → Option Kind
sooner worst kind = if counts worst kind then Some kind else worst

-- what counts of rules in the order of the text
abbrev pub least : Option Kind → List Kind → Option Kind
least worst [] = worst
least worst (kind ∷ kinds) = least (sooner worst kind) kinds

-- what counts of what counted before and what counts of a later part
abbrev pub and_later : Option Kind → Option Kind → Option Kind
and_later worst None = worst
and_later worst (Some kind) = sooner worst kind

-- a rule that is broken where this holds
abbrev pub breaks : Bool → Kind → List Kind
breaks true kind = kind ∷ []
breaks false kind = []
