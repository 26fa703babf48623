-- What an index beside the items of a collection says of them.

use Rattle.std.specs.Prelude.{◌≡◌, false, not, if◌then◌else◌, filter, ℤ, ◌≤ℤ◌, List, [], ◌∷◌, ◌++◌, Bool, Option, IfSome, ⊤, map, String, string_bytes}
use Rattle.mos_text.specs.declared.scalar.Scalar.{Scalar}
use Rattle.mos_text.specs.declared.scalar.Scalar.TheVariants.{Int, Str}
use Rattle.mos_value.specs.Ranges.{range_members}
use Rattle.mos_value.specs.Sets.{has_member}
use Rattle.mos_value.specs.declared.index.Index.{Index}
use Rattle.mos_value.specs.declared.index.Index.TheVariants.{Empty, Run, Integers, Texts, Searched}

-- integers as scalars
abbrev pub integers : List ℤ → List Scalar
integers numbers = map (λ n. Int n) numbers

-- texts as scalars
abbrev pub texts : {Z : Type 0} → List (String Z) → List Scalar
texts strings = map (λ s. Str (string_bytes s)) strings

-- the items are those of the index, in their order
abbrev pub IsIndexOf : Index → List Scalar → Type 0
IsIndexOf Empty items = items ≡ []
IsIndexOf (Run first last) items = (first ≤ℤ last) × (range_members first last ≡ items)
IsIndexOf (Integers numbers) items = integers numbers.value.keys ≡ items
IsIndexOf (Texts strings) items = texts strings.value.keys ≡ items
IsIndexOf Searched items = ⊤

-- behind the items stands one more, which is none of them
abbrev pub GrowsBy : (before : List Scalar) → Scalar → (after : List Scalar) → Type 0
GrowsBy before x after = (has_member x before ≡ false) × (after ≡ before ++ x ∷ [])

-- whatever the items are, what is told of the scalar is whether it is one of them
abbrev pub Tells : Index → Scalar → Option Bool → Type 0
Tells index x told = (items : List Scalar) → IsIndexOf index items → IfSome told (λ is. is ≡ has_member x items)

-- the index before goes over into one of these items, where the scalar is the one more behind those before
abbrev pub Follows : Index → Scalar → (more : List Scalar) → Index → Type 0
Follows before x more after = (items : List Scalar) → IsIndexOf before items → GrowsBy items x more → IsIndexOf after more

-- the items that the others have, or those that they lack
abbrev pub kept : Bool → (others : List Scalar) → List Scalar → List Scalar
kept are others items = filter (λ x. if are then has_member x others else not (has_member x others)) items
