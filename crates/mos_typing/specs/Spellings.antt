-- What words spell here: types, formals, names and indexes, each with its tree and its height.

use Rattle.std.specs.Prelude.{◌≡◌, ℕ, max, List, [], ◌∷◌, Option, Some, None}
use Rattle.mos_tree.specs.declared.declaration.BaseType.{BaseType}
use Rattle.mos_tree.specs.declared.declaration.TypeForm.{TypeForm}
use Rattle.mos_tree.specs.declared.declaration.FormalGroup.{FormalGroup}
use Rattle.mos_scan.specs.declared.grammar_word.Word.{Word}
use Rattle.mos_expr.specs.Grammar.{Names, spell_names, list_of_names}
use Rattle.mos_expr.specs.Said.{Spelled, IsExpression, AreSomeExpressions}
use Rattle.mos_tree.specs.declared.expr.Expr.{Expr}
use Rattle.mos_typing.specs.Typing

-- a type
abbrev pub IsTypeForm : List Word → TypeForm → ℕ → Type 0
IsTypeForm = Spelled Typing.TypeIsGrouped Typing.typing_words Typing.type_of Typing.tallest_type

-- formals with their brackets, or none
abbrev pub AreFormalGroups : List Word → List FormalGroup → ℕ → Type 0
AreFormalGroups = Spelled Typing.FormalsAreGrouped Typing.formal_words Typing.formals_of Typing.tallest_formals

-- what two lists of words spell, side by side
pub record AreBoth {A B : Type 0} (First : A → ℕ → Type 0) (Rest : B → ℕ → Type 0) (made : A × B) (high : ℕ) : Type 0 where
  pub first_high : ℕ
  pub rest_high : ℕ
  pub first_is : First made.0 first_high
  pub rest_is : Rest made.1 rest_high
  pub high_is : high ≡ max first_high rest_high

-- indexes, at least one, and a value
abbrev pub AreIndexesAndValue : List Word → List Word → List Expr × Expr → ℕ → Type 0
AreIndexesAndValue indexes value = AreBoth (AreSomeExpressions indexes) (IsExpression value)

-- the names that the words are, with commas between them, or that they are none
abbrev pub FindsNames : List Word → Option (List (List ℕ)) → Type 0
FindsNames words None = (ns : Names) → words ≡ spell_names ns → ⊥
FindsNames words (Some all) = (ns : Names) × (words ≡ spell_names ns) × (all ≡ list_of_names ns)

-- the type that the word is alone, or that it is none
abbrev pub FindsBase : Word → Option BaseType → Type 0
FindsBase word None = (b : BaseType) → Typing.base_words b ≡ word ∷ [] → ⊥
FindsBase word (Some b) = Typing.base_words b ≡ word ∷ []
