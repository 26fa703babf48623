-- Laws of expressions.

use Rattle.std.specs.Prelude.{◌≡◌, ℕ, if◌then◌else◌, nat_le, List, Result, Ok, Err}
use Rattle.mos_scan.specs.declared.grammar_word.Word.{Word}
use Rattle.mos_expr.specs.Grammar.{Syntax, SyntaxList, IndexSyntax, IsSpelled, AreSpelled, IsIndexSpelled, tree, trees, index_of, height, heights, height_index, limit}
use Rattle.mos_expr.specs.declared.fault.ExprFault.{ExprFault}
use Rattle.mos_expr.specs.declared.fault.ExprFault.TheVariants as fault

-- what is said of a tree that is so high
abbrev pub answer_at : {T : Type 0} → T → ℕ → Result T ExprFault
answer_at made high = if nat_le high limit then Ok made else Err fault.Deep

-- words have at most one tree, or are too high in each way that they are spelled
abbrev pub HaveOneTree : Type 0
HaveOneTree = (words : List Word) (s t : Syntax) → IsSpelled words s → IsSpelled words t
    → answer_at (tree s) (height s) ≡ answer_at (tree t) (height t)

-- words have at most one list of trees
abbrev pub HaveOneList : Type 0
HaveOneList = (words : List Word) (ss ts : SyntaxList) → AreSpelled words ss → AreSpelled words ts
    → answer_at (trees ss) (heights ss) ≡ answer_at (trees ts) (heights ts)

-- words have at most one index
abbrev pub HaveOneIndex : Type 0
HaveOneIndex = (words : List Word) (i j : IndexSyntax) → IsIndexSpelled words i → IsIndexSpelled words j
    → answer_at (index_of i) (height_index i) ≡ answer_at (index_of j) (height_index j)
