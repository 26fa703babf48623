-- Types and formals as they are written: their words, their trees, and how high their expressions are.

use Rattle.std.specs.Prelude.{◌≡◌, ℕ, max, Bool, true, false, List, [], ◌∷◌, ◌++◌}
use Rattle.mos_tree.specs.declared.declaration.BaseType.{BaseType}
use Rattle.mos_tree.specs.declared.declaration.BaseType.TheVariants as base
use Rattle.mos_tree.specs.declared.declaration.Dimension.{Dimension}
use Rattle.mos_tree.specs.declared.declaration.Dimension.TheVariants as dimension
use Rattle.mos_tree.specs.declared.declaration.TypeForm.{TypeForm}
use Rattle.mos_tree.specs.declared.declaration.TypeForm.TheVariants as typ
use Rattle.mos_tree.specs.declared.declaration.FormalGroup.{FormalGroup}
use Rattle.mos_scan.specs.declared.token.TokenKind.{TokenKind}
use Rattle.mos_scan.specs.declared.token.TokenKind.TheVariants as token_kind
use Rattle.mos_scan.specs.declared.grammar_word.Word.{Word}
use Rattle.mos_scan.specs.declared.grammar_word.Word.TheVariants as word_kind
use Rattle.mos_expr.specs.Grammar.{Syntax, Names, spell, spell_names, list_of_names, IsGrouped, height, tree}

-- ---- what is written

-- what stands for one index of an array
pub data Dim : Type 0 where
  any_range : Dim
  any_set : BaseType → Dim
  within : Syntax → Dim

-- the indexes of an array, at least one
pub data Dims : Type 0 where
  last_dim : Dim → Dims
  and_dim : Dim → Dims → Dims

-- a type
pub data Typing : Type 0 where
  of_base : BaseType → Typing
  a_range : Typing
  a_set : BaseType → Typing
  a_list : BaseType → Typing
  an_array : Bool → Dims → BaseType → Typing  -- whether it is dynamic, its indexes, its cells

-- formals, each group of names with its type
pub data Groups : Type 0 where
  last_group : Names → Typing → Groups
  and_group : Names → Typing → Groups → Groups

-- what stands behind the name of a routine
pub data Formals : Type 0 where
  no_brackets : Formals
  empty_brackets : Formals
  formals : Groups → Formals

-- ---- words

-- one token
abbrev pub key : TokenKind → List Word
key kind = word_kind.Key kind ∷ []

-- words in round brackets
abbrev pub in_brackets : List Word → List Word
in_brackets words = word_kind.Key token_kind.OpenRound ∷ (words ++ key token_kind.CloseRound)

-- the word of a type of one word
abbrev pub base_word : BaseType → Word
base_word base.Integer = word_kind.Key token_kind.Integer
base_word base.Boolean = word_kind.Key token_kind.Boolean
base_word base.Text = word_kind.Key token_kind.StringWord
base_word (base.Named n) = word_kind.Name n

-- that word alone
abbrev pub base_words : BaseType → List Word
base_words b = base_word b ∷ []

-- the word `dynamic`, where it stands
abbrev pub dynamic_words : Bool → List Word
dynamic_words true = key token_kind.Dynamic
dynamic_words false = []

-- the words of one index
abbrev pub dim_words : Dim → List Word
dim_words any_range = key token_kind.Range
dim_words (any_set b) = word_kind.Key token_kind.Set ∷ word_kind.Key token_kind.Of ∷ base_words b
dim_words (within s) = spell s

-- the words of indexes, with commas between them
abbrev pub dims_words : Dims → List Word
dims_words (last_dim d) = dim_words d
dims_words (and_dim d ds) = dim_words d ++ word_kind.Key token_kind.Comma ∷ dims_words ds

-- the words of a type
abbrev pub typing_words : Typing → List Word
typing_words (of_base b) = base_words b
typing_words a_range = key token_kind.Range
typing_words (a_set b) = word_kind.Key token_kind.Set ∷ word_kind.Key token_kind.Of ∷ base_words b
typing_words (a_list b) = word_kind.Key token_kind.List ∷ word_kind.Key token_kind.Of ∷ base_words b
typing_words (an_array dynamic ds b) = dynamic_words dynamic ++ word_kind.Key token_kind.Array ∷ (in_brackets (dims_words ds) ++ word_kind.Key token_kind.Of ∷ base_words b)

-- the words of groups of formals, with commas between them
abbrev pub group_words : Groups → List Word
group_words (last_group ns x) = spell_names ns ++ word_kind.Key token_kind.Colon ∷ typing_words x
group_words (and_group ns x rest) = spell_names ns ++ word_kind.Key token_kind.Colon ∷ (typing_words x ++ word_kind.Key token_kind.Comma ∷ group_words rest)

-- the words of formals, with their brackets
abbrev pub formal_words : Formals → List Word
formal_words no_brackets = []
formal_words empty_brackets = in_brackets []
formal_words (formals xs) = in_brackets (group_words xs)

-- ---- trees

-- one index
abbrev pub dimension_of : Dim → Dimension
dimension_of any_range = dimension.Range
dimension_of (any_set b) = dimension.Set b
dimension_of (within s) = dimension.IndexSet (tree s)

-- the indexes of an array
abbrev pub dimensions_of : Dims → List Dimension
dimensions_of (last_dim d) = dimension_of d ∷ []
dimensions_of (and_dim d ds) = dimension_of d ∷ dimensions_of ds

-- a type
abbrev pub type_of : Typing → TypeForm
type_of (of_base b) = typ.Base b
type_of a_range = typ.Range
type_of (a_set b) = typ.Set b
type_of (a_list b) = typ.List b
type_of (an_array dynamic ds b) = typ.Array dynamic (dimensions_of ds) b

-- groups of formals
abbrev pub groups_of : Groups → List FormalGroup
groups_of (last_group ns x) = record { names = list_of_names ns; typ = type_of x } ∷ []
groups_of (and_group ns x rest) = record { names = list_of_names ns; typ = type_of x } ∷ groups_of rest

-- formals
abbrev pub formals_of : Formals → List FormalGroup
formals_of (formals xs) = groups_of xs
formals_of _ = []

-- ---- how high

-- the height of the expression of an index, 0 where it has none
abbrev pub tallest_dim : Dim → ℕ
tallest_dim (within s) = height s
tallest_dim _ = 0

-- the height of the highest of several
abbrev pub tallest_dims : Dims → ℕ
tallest_dims (last_dim d) = tallest_dim d
tallest_dims (and_dim d ds) = max (tallest_dim d) (tallest_dims ds)

-- the height of the highest expression in a type, 0 where there is none
abbrev pub tallest_type : Typing → ℕ
tallest_type (an_array dynamic ds b) = tallest_dims ds
tallest_type _ = 0

-- the height of the highest expression in groups of formals
abbrev pub tallest_groups : Groups → ℕ
tallest_groups (last_group ns x) = tallest_type x
tallest_groups (and_group ns x rest) = max (tallest_type x) (tallest_groups rest)

-- the height of the highest expression in formals
abbrev pub tallest_formals : Formals → ℕ
tallest_formals (formals xs) = tallest_groups xs
tallest_formals _ = 0

-- ---- each expression in them is grouped by its operators

-- that of an index
abbrev pub DimIsGrouped : Dim → Type 0
DimIsGrouped (within s) = IsGrouped s
DimIsGrouped _ = Unit {0}

-- those of several indexes
abbrev pub DimsAreGrouped : Dims → Type 0
DimsAreGrouped (last_dim d) = DimIsGrouped d
DimsAreGrouped (and_dim d ds) = DimIsGrouped d × DimsAreGrouped ds

-- those of a type
abbrev pub TypeIsGrouped : Typing → Type 0
TypeIsGrouped (an_array dynamic ds b) = DimsAreGrouped ds
TypeIsGrouped _ = Unit {0}

-- those of groups of formals
abbrev pub GroupsAreGrouped : Groups → Type 0
GroupsAreGrouped (last_group ns x) = TypeIsGrouped x
GroupsAreGrouped (and_group ns x rest) = TypeIsGrouped x × GroupsAreGrouped rest

-- those of formals
abbrev pub FormalsAreGrouped : Formals → Type 0
FormalsAreGrouped (formals xs) = GroupsAreGrouped xs
FormalsAreGrouped _ = Unit {0}

-- ---- what words spell

-- the words are this type
pub record IsTyping (words : List Word) (x : Typing) : Type 0 where
  pub grouped : TypeIsGrouped x
  pub exact : words ≡ typing_words x

-- the words are these formals
pub record AreFormals (words : List Word) (xs : Formals) : Type 0 where
  pub grouped : FormalsAreGrouped xs
  pub exact : words ≡ formal_words xs
