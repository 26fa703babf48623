-- As the code reads, apart from what the public clauses say: lists with commas between their parts,
-- read from the front.

use Rattle.std.specs.Prelude.{ℕ, List, [], ◌∷◌, ◌++◌, Option, Some, None}
use Rattle.mos_tree.specs.declared.statement.Label.{Label}
use Rattle.mos_scan.specs.declared.token.TokenKind.TheVariants as token_kind
use Rattle.mos_scan.specs.declared.grammar_word.Word.{Word}
use Rattle.mos_scan.specs.declared.grammar_word.Word.TheVariants as word_kind
use Rattle.mos_typing.specs.Reader.{onto}
use Rattle.mos_tree.specs.declared.form.Form.{Form}
use Rattle.mos_tree.specs.declared.form.Form.TheVariants as form_kind

-- ---- texts

-- the texts that the words are, with commas between them
abbrev pub texts_of : List Word → Option (List (List ℕ))
texts_of (word_kind.Text n ∷ []) = Some (n ∷ [])
texts_of (word_kind.Text n ∷ word_kind.Key token_kind.Comma ∷ rest) = onto (n ∷ []) (texts_of rest)
texts_of _ = None

-- the form of these modules
abbrev pub uses_of : Option (List (List ℕ)) → Form
uses_of None = form_kind.Unknown
uses_of (Some found) = form_kind.Uses found

-- what stands behind `uses`
abbrev pub uses : List Word → Form
uses words = uses_of (texts_of words)

-- ---- labels

-- one more label
abbrev pub add : List Label → List ℕ → Option (List ℕ) → List Label
add found name shown = found ++ record { name = name; shown = shown } ∷ []

-- `as`, a text, and what stands behind it
abbrev pub as_text : List ℕ → List Word → List Word
as_text shown rest = word_kind.Key token_kind.As ∷ word_kind.Text shown ∷ rest

-- the labels found, and those that the words are
abbrev pub read_labels : List Label → List Word → Option (List Label)
read_labels found (word_kind.Name n ∷ []) = Some (add found n None)
read_labels found (word_kind.Name n ∷ word_kind.Key token_kind.Comma ∷ rest) = read_labels (add found n None) rest
read_labels found (word_kind.Name n ∷ word_kind.Key token_kind.As ∷ word_kind.Text shown ∷ []) = Some (add found n (Some shown))
read_labels found (word_kind.Name n ∷ word_kind.Key token_kind.As ∷ word_kind.Text shown ∷ word_kind.Key token_kind.Comma ∷ rest) = read_labels (add found n (Some shown)) rest
read_labels found _ = None

-- the same, behind a label
abbrev pub behind_label : List Label → List Word → Option (List Label)
behind_label found [] = Some found
behind_label found (word_kind.Key token_kind.Comma ∷ rest) = read_labels found rest
behind_label found _ = None

-- the form of these labels
abbrev pub labels_of : Option (List Label) → Form
labels_of None = form_kind.Unknown
labels_of (Some found) = form_kind.Labels found

-- what labels of `initializations` are
abbrev pub labels : List Word → Form
labels words = labels_of (read_labels [] words)
