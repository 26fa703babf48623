-- What one piece is as it is written: its words, its form, and how high its expressions are.

use Rattle.std.specs.Prelude.{◌≡◌, ℕ, max, if◌then◌else◌, nat_le, List, [], ◌∷◌, ◌++◌, Option, Some, None}
use Rattle.mos_tree.specs.declared.declaration.BaseType.{BaseType}
use Rattle.mos_tree.specs.declared.source.ModelName.{ModelName}
use Rattle.mos_tree.specs.declared.source.ModelName.TheVariants as called
use Rattle.mos_tree.specs.declared.statement.Assignment.{Assignment}
use Rattle.mos_tree.specs.declared.statement.Assignment.TheVariants as assignment
use Rattle.mos_tree.specs.declared.statement.Direction.{Direction}
use Rattle.mos_tree.specs.declared.statement.Direction.TheVariants as direction
use Rattle.mos_tree.specs.declared.statement.Label.{Label}
use Rattle.mos_tree.specs.declared.statement.Reference.{Reference}
use Rattle.mos_tree.specs.declared.statement.Reference.TheVariants as reference
use Rattle.mos_scan.specs.declared.token.TokenKind.{TokenKind}
use Rattle.mos_scan.specs.declared.token.TokenKind.TheVariants as token_kind
use Rattle.mos_scan.specs.declared.grammar_word.Word.{Word}
use Rattle.mos_scan.specs.declared.grammar_word.Word.TheVariants as word_kind
use Rattle.mos_expr.specs.Grammar.{Syntax, SyntaxList, IndexSyntax, Names, one_name, and_name, spell, spell_list, spell_index, spell_names, list_of_names, IsGrouped, AreGrouped, IsGroupedIndex, height, heights, height_index, limit, tree, trees, index_of}
use Rattle.mos_typing.specs.Typing.{Typing, Formals, key, in_brackets, base_words, typing_words, formal_words, type_of, formals_of, tallest_type, tallest_formals, TypeIsGrouped, FormalsAreGrouped}
use Rattle.mos_tree.specs.declared.form.Form.{Form}
use Rattle.mos_tree.specs.declared.form.Form.TheVariants as form_kind
use Rattle.mos_tree.specs.declared.form.ConditionKeyword.{ConditionKeyword}
use Rattle.mos_tree.specs.declared.form.ConditionKeyword.TheVariants as condition
use Rattle.mos_tree.specs.declared.form.Keyword.TheVariants as keyword
use Rattle.mos_tree.specs.declared.form.Keyword.{Keyword}
use Rattle.mos_tree.specs.declared.form.Simple.TheVariants as simple
use Rattle.mos_expr.specs.Said.{AreSomeGrouped}
use Rattle.mos_tree.specs.Forms.{piece_kind_of}

-- ---- what is written

-- the left side of an assignment
pub data Target : Type 0 where
  to_name : List ℕ → Target
  to_cell : List ℕ → SyntaxList → Target
  to_field : List ℕ → List ℕ → Target
  to_cell_field : List ℕ → SyntaxList → List ℕ → Target
  to_result : Target

-- labels of `initializations`, each perhaps with a text behind `as`
pub data Labels : Type 0 where
  last_label : List ℕ → Option (List ℕ) → Labels
  and_label : List ℕ → Option (List ℕ) → Labels → Labels

-- one piece
pub data Phrase : Type 0 where
  word : Keyword → Phrase  -- one reserved word
  break_word : Phrase
  next_word : Phrase
  model : ModelName → Phrase
  uses_modules : Names → Phrase
  options_name : List ℕ → Phrase
  definition : List ℕ → Syntax → Phrase
  typed : Names → Typing → Phrase
  record_of : List ℕ → Phrase
  procedure : List ℕ → Formals → Phrase
  function : List ℕ → Formals → BaseType → Phrase
  forward_procedure : List ℕ → Formals → Phrase
  forward_function : List ℕ → Formals → BaseType → Phrase
  assign : Target → Assignment → Syntax → Phrase
  fill : List ℕ → SyntaxList → Phrase
  call : List ℕ → SyntaxList → Phrase
  bare : List ℕ → Phrase
  guarded : ConditionKeyword → Syntax → Phrase  -- a keyword with its condition
  alternative : SyntaxList → Phrase
  forall_in : IndexSyntax → Phrase
  initializations : Direction → Syntax → Phrase
  labels : Labels → Phrase

-- ---- words

-- the token of a piece that is one reserved word
abbrev pub token_of : Keyword → TokenKind
token_of keyword.EndModel = token_kind.EndModel
token_of keyword.Parameters = token_kind.Parameters
token_of keyword.EndParameters = token_kind.EndParameters
token_of keyword.Declarations = token_kind.Declarations
token_of keyword.EndDeclarations = token_kind.EndDeclarations
token_of keyword.EndRecord = token_kind.EndRecord
token_of keyword.EndProcedure = token_kind.EndProcedure
token_of keyword.EndFunction = token_kind.EndFunction
token_of keyword.Else = token_kind.Else
token_of keyword.EndIf = token_kind.EndIf
token_of keyword.EndCase = token_kind.EndCase
token_of keyword.Repeat = token_kind.Repeat
token_of keyword.Do = token_kind.Do
token_of keyword.EndDo = token_kind.EndDo
token_of keyword.EndInitializations = token_kind.EndInitializations

-- texts with commas between them
abbrev pub text_words : Names → List Word
text_words (one_name n) = word_kind.Text n ∷ []
text_words (and_name n ns) = word_kind.Text n ∷ word_kind.Key token_kind.Comma ∷ text_words ns

-- the word of an assignment
abbrev pub operator_word : Assignment → Word
operator_word assignment.Set = word_kind.Key token_kind.Assign
operator_word assignment.Add = word_kind.Key token_kind.AddAssign
operator_word assignment.Take = word_kind.Key token_kind.TakeAssign

-- the word of a direction
abbrev pub direction_word : Direction → Word
direction_word direction.From = word_kind.Key token_kind.From
direction_word direction.To = word_kind.Key token_kind.To

-- `as` and a text, where they stand
abbrev pub shown_words : Option (List ℕ) → List Word
shown_words None = []
shown_words (Some x) = word_kind.Key token_kind.As ∷ word_kind.Text x ∷ []

-- labels with commas between them
abbrev pub label_words : Labels → List Word
label_words (last_label n shown) = word_kind.Name n ∷ shown_words shown
label_words (and_label n shown rest) = word_kind.Name n ∷ (shown_words shown ++ word_kind.Key token_kind.Comma ∷ label_words rest)

-- the left side of an assignment
abbrev pub target_words : Target → List Word
target_words (to_name n) = word_kind.Name n ∷ []
target_words (to_cell n xs) = word_kind.Name n ∷ in_brackets (spell_list xs)
target_words (to_field n x) = word_kind.Name n ∷ word_kind.Key token_kind.Dot ∷ word_kind.Name x ∷ []
target_words (to_cell_field n xs x) = word_kind.Name n ∷ (in_brackets (spell_list xs) ++ word_kind.Key token_kind.Dot ∷ word_kind.Name x ∷ [])
target_words to_result = key token_kind.Returned

-- the name of a model
abbrev pub model_word : ModelName → Word
model_word (called.Quoted n) = word_kind.Text n
model_word (called.Named n) = word_kind.Name n

-- the token of a keyword with a condition
abbrev pub condition_word : ConditionKeyword → TokenKind
condition_word condition.If = token_kind.If
condition_word condition.Elif = token_kind.Elif
condition_word condition.Case = token_kind.Case
condition_word condition.While = token_kind.While
condition_word condition.Until = token_kind.Until

-- the words behind a keyword with these words in its condition
abbrev pub around : ConditionKeyword → List Word → List Word
around condition.Case inside = inside ++ key token_kind.Of
around condition.While inside = in_brackets inside
around condition.Until inside = inside
around _ inside = inside ++ key token_kind.Then

-- the words of a piece
abbrev pub words_of : Phrase → List Word
words_of (word x) = key (token_of x)
words_of break_word = key token_kind.Break
words_of next_word = key token_kind.Next
words_of (model n) = word_kind.Key token_kind.Model ∷ model_word n ∷ []
words_of (uses_modules ns) = word_kind.Key token_kind.Uses ∷ text_words ns
words_of (options_name n) = word_kind.Key token_kind.Options ∷ word_kind.Name n ∷ []
words_of (definition n s) = word_kind.Name n ∷ word_kind.Key token_kind.Equal ∷ spell s
words_of (typed ns x) = spell_names ns ++ word_kind.Key token_kind.Colon ∷ typing_words x
words_of (record_of n) = word_kind.Name n ∷ word_kind.Key token_kind.Equal ∷ key token_kind.Record
words_of (procedure n xs) = word_kind.Key token_kind.Procedure ∷ word_kind.Name n ∷ formal_words xs
words_of (function n xs b) = word_kind.Key token_kind.Function ∷ word_kind.Name n ∷ (formal_words xs ++ word_kind.Key token_kind.Colon ∷ base_words b)
words_of (forward_procedure n xs) = word_kind.Key token_kind.Forward ∷ word_kind.Key token_kind.Procedure ∷ word_kind.Name n ∷ formal_words xs
words_of (forward_function n xs b) = word_kind.Key token_kind.Forward ∷ word_kind.Key token_kind.Function ∷ word_kind.Name n ∷ (formal_words xs ++ word_kind.Key token_kind.Colon ∷ base_words b)
words_of (assign x operator s) = target_words x ++ operator_word operator ∷ spell s
words_of (fill n xs) = word_kind.Name n ∷ word_kind.Key token_kind.Fill ∷ word_kind.Key token_kind.OpenSquare ∷ (spell_list xs ++ key token_kind.CloseSquare)
words_of (call n xs) = word_kind.Name n ∷ in_brackets (spell_list xs)
words_of (bare n) = word_kind.Name n ∷ []
words_of (guarded g s) = word_kind.Key (condition_word g) ∷ around g (spell s)
words_of (alternative xs) = spell_list xs ++ key token_kind.Colon
words_of (forall_in i) = word_kind.Key token_kind.Forall ∷ in_brackets (spell_index i)
words_of (initializations d s) = word_kind.Key token_kind.Initializations ∷ direction_word d ∷ spell s
words_of (labels xs) = label_words xs

-- ---- forms

-- the left side of an assignment
abbrev pub reference_of : Target → Reference
reference_of (to_name n) = reference.Name n
reference_of (to_cell n xs) = reference.Cell n (trees xs)
reference_of (to_field n x) = reference.Field n x
reference_of (to_cell_field n xs x) = reference.CellField n (trees xs) x
reference_of to_result = reference.Returned

-- labels, in order
abbrev pub labels_of : Labels → List Label
labels_of (last_label n shown) = record { name = n; shown = shown } ∷ []
labels_of (and_label n shown rest) = record { name = n; shown = shown } ∷ labels_of rest

-- the form of a piece
abbrev pub form_of : Phrase → Form
form_of (word x) = form_kind.Keyword x
form_of break_word = form_kind.Simple simple.Break
form_of next_word = form_kind.Simple simple.Next
form_of (model n) = form_kind.Model n
form_of (uses_modules ns) = form_kind.Uses (list_of_names ns)
form_of (options_name n) = form_kind.Options n
form_of (definition n s) = form_kind.Definition n (tree s)
form_of (typed ns x) = form_kind.Typed (list_of_names ns) (type_of x)
form_of (record_of n) = form_kind.RecordOf n
form_of (procedure n xs) = form_kind.Routine n (formals_of xs) None
form_of (function n xs b) = form_kind.Routine n (formals_of xs) (Some b)
form_of (forward_procedure n xs) = form_kind.Forward n (formals_of xs) None
form_of (forward_function n xs b) = form_kind.Forward n (formals_of xs) (Some b)
form_of (assign x operator s) = form_kind.Simple (simple.Assign (reference_of x) operator (tree s))
form_of (fill n xs) = form_kind.Simple (simple.Fill n (trees xs))
form_of (call n xs) = form_kind.Simple (simple.Call n (trees xs))
form_of (bare n) = form_kind.Bare n
form_of (guarded g s) = form_kind.Guarded g (tree s)
form_of (alternative xs) = form_kind.Alternative (trees xs)
form_of (forall_in i) = form_kind.Forall (index_of i)
form_of (initializations d s) = form_kind.Initializations d (tree s)
form_of (labels xs) = form_kind.Labels (labels_of xs)

-- ---- how high

-- the height of the highest index, 0 where there is none
abbrev pub tallest_target : Target → ℕ
tallest_target (to_cell n xs) = heights xs
tallest_target (to_cell_field n xs x) = heights xs
tallest_target _ = 0

-- the height of the highest expression tree in a piece, 0 where there is none
abbrev pub tallest : Phrase → ℕ
tallest (definition n s) = height s
tallest (typed ns x) = tallest_type x
tallest (procedure n xs) = tallest_formals xs
tallest (function n xs b) = tallest_formals xs
tallest (forward_procedure n xs) = tallest_formals xs
tallest (forward_function n xs b) = tallest_formals xs
tallest (assign x operator s) = max (tallest_target x) (height s)
tallest (fill n xs) = heights xs
tallest (call n xs) = heights xs
tallest (guarded g s) = height s
tallest (alternative xs) = heights xs
tallest (forall_in i) = height_index i
tallest (initializations d s) = height s
tallest _ = 0

-- ---- what each part must be

-- a cell has at least one index
abbrev pub TargetIs : Target → Type 0
TargetIs (to_cell n xs) = AreSomeGrouped xs
TargetIs (to_cell_field n xs x) = AreSomeGrouped xs
TargetIs _ = Unit {0}

-- one label without a text behind it is a name alone
abbrev pub LabelsAre : Labels → Type 0
LabelsAre (last_label n None) = ⊥
LabelsAre _ = Unit {0}

-- each expression is grouped rightly, an alternative has a label, a cell an index
abbrev pub IsWell : Phrase → Type 0
IsWell (definition n s) = IsGrouped s
IsWell (typed ns x) = TypeIsGrouped x
IsWell (procedure n xs) = FormalsAreGrouped xs
IsWell (function n xs b) = FormalsAreGrouped xs
IsWell (forward_procedure n xs) = FormalsAreGrouped xs
IsWell (forward_function n xs b) = FormalsAreGrouped xs
IsWell (assign x operator s) = TargetIs x × IsGrouped s
IsWell (fill n xs) = AreGrouped xs
IsWell (call n xs) = AreGrouped xs
IsWell (guarded g s) = IsGrouped s
IsWell (alternative xs) = AreSomeGrouped xs
IsWell (forall_in i) = IsGroupedIndex i
IsWell (initializations d s) = IsGrouped s
IsWell (labels xs) = LabelsAre xs
IsWell _ = Unit {0}

-- ---- what words are

-- the words are this piece
pub record IsPhrase (words : List Word) (p : Phrase) : Type 0 where
  pub well : IsWell p
  pub exact : words ≡ words_of p

-- the form of a piece, or that an expression in it is too high
abbrev pub answer : Phrase → Form
answer p = if nat_le (tallest p) limit then form_of p else form_kind.TooHigh (piece_kind_of (form_of p))

-- the form of words: that of the piece that they are, or that they are none
pub data IsFormOf (words : List Word) : Form → Type 0 where
  is_phrase : (p : Phrase) → IsPhrase words p → IsFormOf words (answer p)
  no_phrase : ((p : Phrase) → IsPhrase words p → ⊥) → IsFormOf words form_kind.Unknown
