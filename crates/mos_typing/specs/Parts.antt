-- As the code reads, apart from what the public clauses say: what words spell that are parts of types and of formals.

use Rattle.std.specs.Prelude.{◌≡◌, ℕ, List, [], ◌∷◌}
use Rattle.mos_tree.specs.declared.declaration.Dimension.{Dimension}
use Rattle.mos_tree.specs.declared.declaration.FormalGroup.{FormalGroup}
use Rattle.mos_scan.specs.declared.grammar_word.Word.{Word}
use Rattle.mos_expr.specs.Grammar.{Names, spell_names, list_of_names}
use Rattle.mos_expr.specs.Said.{Spelled}
use Rattle.mos_typing.specs.Typing

-- one index of an array
abbrev pub IsDimension : List Word → Dimension → ℕ → Type 0
IsDimension = Spelled Typing.DimIsGrouped Typing.dim_words Typing.dimension_of Typing.tallest_dim

-- the indexes of an array, with commas between them
abbrev pub AreDimensions : List Word → List Dimension → ℕ → Type 0
AreDimensions = Spelled Typing.DimsAreGrouped Typing.dims_words Typing.dimensions_of Typing.tallest_dims

-- groups of formals, without brackets
abbrev pub AreGroups : List Word → List FormalGroup → ℕ → Type 0
AreGroups = Spelled Typing.GroupsAreGrouped Typing.group_words Typing.groups_of Typing.tallest_groups

-- names and a type make one group
pub record IsGroup (names typ : List Word) (made : FormalGroup) (high : ℕ) : Type 0 where
  pub listed : Names
  pub typing : Typing.Typing
  pub grouped : Typing.TypeIsGrouped typing
  pub names_exact : names ≡ spell_names listed
  pub exact : typ ≡ Typing.typing_words typing
  pub is : made ≡ record { names = list_of_names listed; typ = Typing.type_of typing }
  pub high_is : high ≡ Typing.tallest_type typing

-- the last group of formals
abbrev pub IsOnlyGroup : List Word → FormalGroup → ℕ → Type 0
IsOnlyGroup words made high = AreGroups words (made ∷ []) high
