-- What is said of words: the one thing that they spell and how high it is, that it is too high, or that they spell nothing.

use Rattle.std.specs.Prelude.{◌≡◌, ℕ, ◌<◌, ◌≤◌, List, Result, Ok, Err}
use Rattle.mos_tree.specs.declared.expr.Expr.{Expr}
use Rattle.mos_tree.specs.declared.expr.Index.{Index}
use Rattle.mos_scan.specs.declared.grammar_word.Word.{Word}
use Rattle.mos_expr.specs.Grammar.{SyntaxList, no_syntax, syntax_then, IsGrouped, AreGrouped, IsGroupedIndex, spell, spell_list, spell_index, tree, trees, index_of, height, heights, height_index, limit}
use Rattle.mos_expr.specs.declared.fault.ExprFault.{ExprFault}
use Rattle.mos_expr.specs.declared.fault.ExprFault.TheVariants as fault

-- ---- what words spell

-- the words spell what has this tree and is so high
pub record Spelled {S T : Type 0} (Grouped : S → Type 0) (words_of : S → List Word) (tree_of : S → T) (height_of : S → ℕ)
    (words : List Word) (made : T) (high : ℕ) : Type 0 where
  pub written : S
  pub grouped : Grouped written
  pub exact : words ≡ words_of written
  pub is : made ≡ tree_of written
  pub high_is : high ≡ height_of written

-- one expression
abbrev pub IsExpression : List Word → Expr → ℕ → Type 0
IsExpression = Spelled IsGrouped spell tree height

-- expressions with commas between them, perhaps none
abbrev pub AreExpressions : List Word → List Expr → ℕ → Type 0
AreExpressions = Spelled AreGrouped spell_list trees heights

-- at least one expression
abbrev pub AreSomeGrouped : SyntaxList → Type 0
AreSomeGrouped no_syntax = ⊥
AreSomeGrouped (syntax_then first rest) = AreGrouped (syntax_then first rest)

-- expressions with commas between them, at least one
abbrev pub AreSomeExpressions : List Word → List Expr → ℕ → Type 0
AreSomeExpressions = Spelled AreSomeGrouped spell_list trees heights

-- names with their sets, perhaps with a condition
abbrev pub IsIndex : List Word → Index Expr → ℕ → Type 0
IsIndex = Spelled IsGroupedIndex spell_index index_of height_index

-- ---- what is said of it

-- this, which is not too high, and nothing else
pub record Made {T : Type 0} (Is : T → ℕ → Type 0) (made : T) : Type 0 where
  pub high : ℕ
  pub is : Is made high
  pub low : high ≤ limit
  pub only : (other : T) (so_high : ℕ) → Is other so_high → (other ≡ made) × (so_high ≤ limit)

-- something too high, and nothing else
pub record TooHigh {T : Type 0} (Is : T → ℕ → Type 0) : Type 0 where
  pub made : T
  pub high : ℕ
  pub is : Is made high
  pub above : limit < high
  pub only : (other : T) (so_high : ℕ) → Is other so_high → limit < so_high

-- nothing
pub record Nothing {T : Type 0} (Is : T → ℕ → Type 0) : Type 0 where
  pub none : (other : T) (so_high : ℕ) → Is other so_high → ⊥

-- what a result says, where `Is` says what the words spell and how high it is
unfoldable pub Says : {T : Type 0} → (T → ℕ → Type 0) → Result T ExprFault → Type 0
Says Is (Ok made) = Made Is made
Says Is (Err fault.Deep) = TooHigh Is
Says Is (Err fault.NoExpr) = Nothing Is
Says Is (Err fault.NoMemory) = Unit {0}

-- the result is this one, but for want of memory
abbrev pub Gives : {A : Type 0} → Result A ExprFault → Result A ExprFault → Type 0
Gives (Err fault.NoMemory) given = Unit {0}
Gives (Err fault.NoExpr) given = Err fault.NoExpr ≡ given
Gives (Err fault.Deep) given = Err fault.Deep ≡ given
Gives (Ok made) given = Ok made ≡ given
