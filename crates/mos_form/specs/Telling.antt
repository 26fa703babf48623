-- As the code reads, apart from what the public clauses say: what is told of words that may be one
-- of many things, of which only one fits.

use Rattle.std.specs.Prelude.{◌≡◌, ℕ, if◌then◌else◌, nat_le, List, ◌∷◌, ◌++◌, Option, Some, None}
use Rattle.mos_tree.specs.declared.expr.Expr.{Expr}
use Rattle.mos_tree.specs.declared.expr.Index.{Index}
use Rattle.mos_tree.specs.declared.declaration.TypeForm.{TypeForm}
use Rattle.mos_tree.specs.declared.declaration.FormalGroup.{FormalGroup}
use Rattle.mos_tree.specs.declared.statement.Assignment.{Assignment}
use Rattle.mos_tree.specs.declared.statement.Reference.{Reference}
use Rattle.mos_scan.specs.declared.grammar_word.Word.{Word}
use Rattle.mos_expr.specs.Grammar.{Names, spell_names, list_of_names, height, heights, height_index, limit, tree, trees, index_of, IsGrouped, AreGrouped, IsGroupedIndex, spell, spell_list, spell_index}
use Rattle.mos_expr.specs.declared.fault.ExprFault.{ExprFault}
use Rattle.mos_expr.specs.declared.fault.ExprFault.TheVariants as fault
use Rattle.mos_typing.specs.Typing.{Typing, tallest_type, tallest_formals, type_of, formals_of, TypeIsGrouped, FormalsAreGrouped, typing_words, formal_words}
use Rattle.mos_tree.specs.declared.form.Form.{Form}
use Rattle.mos_tree.specs.declared.form.Form.TheVariants as form_kind
use Rattle.mos_tree.specs.declared.form.PieceKind.{PieceKind}
use Rattle.mos_tree.specs.declared.form.Simple.TheVariants as simple
use Rattle.mos_tree.specs.Forms.{piece_kind_of}
use Rattle.mos_form.specs.Phrases.{Phrase, alternative, call, typed, labels, assign, operator_word, target_words, IsPhrase, answer}
use Rattle.mos_scan.specs.declared.token.TokenKind.TheVariants as token_kind
use Rattle.mos_expr.specs.Said.{AreSomeGrouped}
use Rattle.mos_scan.specs.declared.grammar_word.Word.TheVariants as word_kind

-- the form of the one thing that fits, or that none fits
pub data Tells (A : Type 0) (Is : A → Type 0) (answer : A → Form) : Form → Type 0 where
  tells_form : (x : A) → Is x → ((y : A) → Is y → answer y ≡ answer x) → Tells A Is answer (answer x)
  tells_none : ((x : A) → Is x → ⊥) → Tells A Is answer form_kind.Unknown

-- a form with expressions of this height
abbrev pub by_height : ℕ → Form → Form
by_height h form = if nat_le h limit then form else form_kind.TooHigh (piece_kind_of form)

-- what a piece of a kind is whose expressions have no trees
abbrev pub refusal : PieceKind → ExprFault → Option Form
refusal kind fault.NoExpr = Some form_kind.Unknown
refusal kind fault.Deep = Some (form_kind.TooHigh kind)
refusal kind fault.NoMemory = None

-- what is written is grouped rightly and has these words
pub record Writes {S : Type 0} (Grouped : S → Type 0) (words_of : S → List Word) (words : List Word) (written : S) : Type 0 where
  pub grouped : Grouped written
  pub exact : words ≡ words_of written

-- a form with what the words spell
abbrev pub TellsOf : {S T : Type 0} → (S → Type 0) → (S → List Word) → (S → T) → (S → ℕ) → (T → Form) → List Word → Form → Type 0
TellsOf {S = S} Grouped words_of tree_of height_of make words = Tells S (Writes Grouped words_of words) (λ s. by_height (height_of s) (make (tree_of s)))

-- a form with one expression
abbrev pub TellsOne : (Expr → Form) → List Word → Form → Type 0
TellsOne = TellsOf IsGrouped spell tree height

-- a form with expressions
abbrev pub TellsAll : (List Expr → Form) → List Word → Form → Type 0
TellsAll = TellsOf AreGrouped spell_list trees heights

-- a form with at least one expression
abbrev pub TellsSome : (List Expr → Form) → List Word → Form → Type 0
TellsSome = TellsOf AreSomeGrouped spell_list trees heights

-- a form with an index
abbrev pub TellsIndex : (Index Expr → Form) → List Word → Form → Type 0
TellsIndex = TellsOf IsGroupedIndex spell_index index_of height_index

-- a form with a type
abbrev pub TellsType : (TypeForm → Form) → List Word → Form → Type 0
TellsType = TellsOf TypeIsGrouped typing_words type_of tallest_type

-- a form with formals
abbrev pub TellsFormals : (List FormalGroup → Form) → List Word → Form → Type 0
TellsFormals = TellsOf FormalsAreGrouped formal_words formals_of tallest_formals

-- an assignment
abbrev pub assign_form : Reference → Assignment → Expr → Form
assign_form target operator value = form_kind.Simple (simple.Assign target operator value)

-- a call
abbrev pub call_form : List ℕ → List Expr → Form
call_form name arguments = form_kind.Simple (simple.Call name arguments)

-- cells that are filled
abbrev pub fill_form : List ℕ → List Expr → Form
fill_form name values = form_kind.Simple (simple.Fill name values)

-- the labels of `case`, which alone end in a colon
abbrev pub IsAlternative : Phrase → Type 0
IsAlternative (alternative xs) = Unit {0}
IsAlternative _ = ⊥

-- a piece that is no alternative
abbrev pub IsOther : List Word → Phrase → Type 0
IsOther words p = IsPhrase words p × (IsAlternative p → ⊥)

-- what words are that are no alternative
abbrev pub TellsPiece : List Word → Form → Type 0
TellsPiece words = Tells Phrase (IsOther words) answer

-- a call
abbrev pub IsCall : Phrase → Type 0
IsCall (call n xs) = Unit {0}
IsCall _ = ⊥

-- what a call is
abbrev pub TellsCall : List ℕ → List Word → Form → Type 0
TellsCall name behind = Tells Phrase (λ p. IsPhrase (word_kind.Name name ∷ word_kind.Key token_kind.OpenRound ∷ behind) p × IsCall p) answer

-- an assignment whose target has these words behind its bracket
abbrev pub TargetIs : List Word → Phrase → Type 0
TargetIs words (assign x operator s) = target_words x ≡ words
TargetIs words _ = ⊥

-- what an assignment to a cell is
abbrev pub TellsCellSet : List ℕ → List Word → Assignment → List Word → Form → Type 0
TellsCellSet name target operator value =
    Tells Phrase (λ p. IsPhrase (word_kind.Name name ∷ word_kind.Key token_kind.OpenRound ∷ (target ++ operator_word operator ∷ value)) p × TargetIs (word_kind.Name name ∷ word_kind.Key token_kind.OpenRound ∷ target) p) answer

-- names with a type, or labels
abbrev pub IsListed : Phrase → Type 0
IsListed (typed ns x) = Unit {0}
IsListed (labels xs) = Unit {0}
IsListed _ = ⊥

-- what a list of names is
abbrev pub TellsList : List Word → Form → Type 0
TellsList words = Tells Phrase (λ p. IsPhrase words p × IsListed p) answer

-- names with a type, cut at their colon
abbrev pub AreTyped : List Word → List Word → Names × Typing → Type 0
AreTyped before behind p = (before ≡ spell_names p.0) × Writes TypeIsGrouped typing_words behind p.1

-- what names with a type are
abbrev pub TellsTyped : List Word → List Word → Form → Type 0
TellsTyped before behind = Tells (Names × Typing) (AreTyped before behind) (λ p. by_height (tallest_type p.1) (form_kind.Typed (list_of_names p.0) (type_of p.1)))

-- more than one word
abbrev pub HasMore : List Word → Type 0
HasMore (x ∷ y ∷ rest) = Unit {0}
HasMore _ = ⊥
