-- What counts once a rule is broken: something, and nothing only where nothing counted before.

use Rattle.std.proofs.Common.{◌≡◌, Bool, true, false, List, [], ◌∷◌, Option, Some, None, if◌then◌else◌, nat_lt}
use Rattle.mos_text.specs.declared.kind.Kind.{Kind}
use Rattle.mos_sorts.specs.Kinds.{rank, sooner, least}

some_of : (b : Bool) (k x : Kind) → (if b then Some k else Some x) ≡ None → ⊥
some_of true k x h = cc
some_of false k x h = cc

-- a rule that is broken counts, or another does
pub never_none : (worst : Option Kind) (k : Kind) → sooner worst k ≡ None → ⊥
never_none None k h = cc
never_none (Some x) k h = some_of (nat_lt (rank k) (rank x)) k x h

-- where nothing counts of more rules, nothing counted before
pub none_before : (worst : Option Kind) (ks : List Kind) → least worst ks ≡ None → worst ≡ None
none_before worst [] h = h
none_before worst (k ∷ ks) h = absurd (never_none worst k (none_before (sooner worst k) ks h))
