-- Pieces without expressions.

use Rattle.std.proofs.Common.{◌≡◌, ℕ, nat_le, List, [], ◌∷◌, ◌++◌, Option, Some, None, Result, Ok, Err, IfOk, refl, sym, ◌∙◌, ap, subst}
use Rattle.std.proofs.lemmas.List.{append_assoc}
use Rattle.mos_tree.specs.declared.statement.Label.{Label}
use Rattle.mos_scan.specs.declared.token.TokenKind.{TokenKind}
use Rattle.mos_scan.specs.declared.token.TokenKind.TheVariants as token_kind
use Rattle.mos_scan.specs.declared.grammar_word.Word.{Word}
use Rattle.mos_scan.specs.declared.grammar_word.Word.TheVariants as word_kind
use Rattle.mos_expr.specs.Grammar.{Names, one_name, and_name, list_of_names}
use Rattle.mos_tree.specs.declared.form.Form.{Form}
use Rattle.mos_tree.specs.declared.form.Form.TheVariants as form_kind
use Rattle.mos_tree.specs.declared.source.ModelName.TheVariants as called
use Rattle.mos_tree.specs.declared.form.Keyword.{Keyword}
use Rattle.mos_tree.specs.declared.form.Keyword.TheVariants as keyword
use Rattle.mos_form.specs.declared.head.Head.TheVariants as head_kind
use Rattle.mos_typing.specs.Shapes.{AreNoPair}
use Rattle.mos_form.specs.Fixed as fixed
use Rattle.mos_tree.specs.Forms.{piece_kind_of}
use Rattle.mos_form.specs.Heads.{head_of}
use Rattle.mos_form.specs.Lists.{texts_of, read_labels, uses, uses_of}
use Rattle.mos_typing.specs.Reader.{onto}
use Rattle.mos_form.specs.Lists as lists
use Rattle.mos_form.specs.Phrases.{to_result, Labels, last_label, and_label, Phrase, word, break_word, next_word, model, uses_modules, options_name, assign, labels, token_of, text_words, label_words, labels_of, words_of, form_of, tallest, answer}
use Rattle.mos_form.specs.Telling.{Tells, tells_none, IsOther, TellsPiece}
use Rattle.mos_form.proofs.Telling.{on_bool, tell_as}
use Rattle.mos_form.proofs.Opening.{head_is, key_head}
use Rattle.mos_form.proofs.Keyed.{tail_same}

-- ---- the form of a piece is never that of none

form_known : (p : Phrase) → form_of p ≡ form_kind.Unknown → ⊥
form_known (word a) e = cc
form_known _ e = cc

pub known : (p : Phrase) → answer p ≡ form_kind.Unknown → ⊥
known p e = on_bool (nat_le (tallest p) 500)
    (λ b. let q : form_of p ≡ form_kind.Unknown = sym (rw b refl) ∙ e in form_known p q)
    (λ b. let q : form_kind.TooHigh (piece_kind_of (form_of p)) ≡ form_kind.Unknown = sym (rw b refl) ∙ e in cc)

-- a piece with this form, or the form of none
pub data Exists (Is : Phrase → Type 0) (form : Form) : Type 0 where
  exists : (p : Phrase) → Is p → answer p ≡ form → Exists Is form
  lacks : form ≡ form_kind.Unknown → Exists Is form

-- the form that every piece of the words has
pub fixed_form : (Is : Phrase → Type 0) (form : Form) → ((p : Phrase) → Is p → answer p ≡ form) → Exists Is form → Tells Phrase Is answer form
fixed_form Is form only (exists p k e) = tell_as Is answer form p k e only
fixed_form Is form only (lacks e) = subst (Tells Phrase Is answer) (sym e) (tells_none (λ p k. known p (only p k ∙ e)))

pub ok_form : {E : Type 0} (r : Result Form E) (form : Form) (P : Form → Type 0) → IfOk r (λ z. z ≡ form) → P form → IfOk r P
ok_form (Ok z) form P e k = subst P (sym e) k
ok_form (Err z) form P e k = tt

-- ---- `model`, `options`

model_answer : (rest : List Word) (p : Phrase) → word_kind.Key token_kind.Model ∷ rest ≡ words_of p → head_is p ≡ Some head_kind.Model → answer p ≡ fixed.model rest
model_answer rest (model (called.Quoted n)) e k = ap fixed.model (sym (tail_same (word_kind.Key token_kind.Model) (word_kind.Key token_kind.Model) rest (word_kind.Text n ∷ []) e))
model_answer rest (model (called.Named n)) e k = ap fixed.model (sym (tail_same (word_kind.Key token_kind.Model) (word_kind.Key token_kind.Model) rest (word_kind.Name n ∷ []) e))
model_answer rest (assign to_result op s) e k = absurd cc
model_answer rest _ e k = absurd cc

model_exists : (rest : List Word) → Exists (IsOther (word_kind.Key token_kind.Model ∷ rest)) (fixed.model rest)
model_exists (word_kind.Text n ∷ []) = exists (model (called.Quoted n)) (record { well = tt; exact = refl }, λ z. z) refl
model_exists (word_kind.Name n ∷ []) = exists (model (called.Named n)) (record { well = tt; exact = refl }, λ z. z) refl
model_exists _ = lacks refl

pub model_piece : (rest : List Word) → TellsPiece (word_kind.Key token_kind.Model ∷ rest) (fixed.model rest)
model_piece rest = fixed_form (IsOther (word_kind.Key token_kind.Model ∷ rest)) (fixed.model rest) (λ p m. model_answer rest p m.0.exact (key_head token_kind.Model rest p m.1 m.0.exact)) (model_exists rest)

options_answer : (rest : List Word) (p : Phrase) → word_kind.Key token_kind.Options ∷ rest ≡ words_of p → head_is p ≡ Some head_kind.Options → answer p ≡ fixed.options rest
options_answer rest (options_name n) e k = ap fixed.options (sym (tail_same (word_kind.Key token_kind.Options) (word_kind.Key token_kind.Options) rest (word_kind.Name n ∷ []) e))
options_answer rest (assign to_result op s) e k = absurd cc
options_answer rest _ e k = absurd cc

options_exists : (rest : List Word) → Exists (IsOther (word_kind.Key token_kind.Options ∷ rest)) (fixed.options rest)
options_exists (word_kind.Name n ∷ []) = exists (options_name n) (record { well = tt; exact = refl }, λ z. z) refl
options_exists _ = lacks refl

pub options_piece : (rest : List Word) → TellsPiece (word_kind.Key token_kind.Options ∷ rest) (fixed.options rest)
options_piece rest = fixed_form (IsOther (word_kind.Key token_kind.Options ∷ rest)) (fixed.options rest) (λ p m. options_answer rest p m.0.exact (key_head token_kind.Options rest p m.1 m.0.exact)) (options_exists rest)

-- ---- one token

keyword_single : (x : Keyword) → form_kind.Keyword x ≡ fixed.single (token_of x) []
keyword_single keyword.EndModel = refl
keyword_single _ = refl

single_answer : (kind : TokenKind) (rest : List Word) (p : Phrase) → word_kind.Key kind ∷ rest ≡ words_of p → head_is p ≡ Some head_kind.Single → answer p ≡ fixed.single kind rest
single_answer kind rest (word x) e k =
    let q : kind ≡ token_of x = cc in
    let r : rest ≡ [] = cc in
    keyword_single x ∙ ap (λ z. fixed.single z []) (sym q) ∙ ap (fixed.single kind) (sym r)
single_answer kind rest break_word e k =
    let q : kind ≡ token_kind.Break = cc in
    let r : rest ≡ [] = cc in
    ap (λ z. fixed.single z []) (sym q) ∙ ap (fixed.single kind) (sym r)
single_answer kind rest next_word e k =
    let q : kind ≡ token_kind.Next = cc in
    let r : rest ≡ [] = cc in
    ap (λ z. fixed.single z []) (sym q) ∙ ap (fixed.single kind) (sym r)
single_answer kind rest (assign to_result op s) e k = absurd cc
single_answer kind rest _ e k = absurd cc

single_exists : (kind : TokenKind) (rest : List Word) → Exists (IsOther (word_kind.Key kind ∷ rest)) (fixed.single kind rest)
single_exists kind (y ∷ rest) = lacks refl
single_exists token_kind.EndModel [] = exists (word keyword.EndModel) (record { well = tt; exact = refl }, λ z. z) refl
single_exists token_kind.Parameters [] = exists (word keyword.Parameters) (record { well = tt; exact = refl }, λ z. z) refl
single_exists token_kind.EndParameters [] = exists (word keyword.EndParameters) (record { well = tt; exact = refl }, λ z. z) refl
single_exists token_kind.Declarations [] = exists (word keyword.Declarations) (record { well = tt; exact = refl }, λ z. z) refl
single_exists token_kind.EndDeclarations [] = exists (word keyword.EndDeclarations) (record { well = tt; exact = refl }, λ z. z) refl
single_exists token_kind.EndRecord [] = exists (word keyword.EndRecord) (record { well = tt; exact = refl }, λ z. z) refl
single_exists token_kind.EndProcedure [] = exists (word keyword.EndProcedure) (record { well = tt; exact = refl }, λ z. z) refl
single_exists token_kind.EndFunction [] = exists (word keyword.EndFunction) (record { well = tt; exact = refl }, λ z. z) refl
single_exists token_kind.Else [] = exists (word keyword.Else) (record { well = tt; exact = refl }, λ z. z) refl
single_exists token_kind.EndIf [] = exists (word keyword.EndIf) (record { well = tt; exact = refl }, λ z. z) refl
single_exists token_kind.EndCase [] = exists (word keyword.EndCase) (record { well = tt; exact = refl }, λ z. z) refl
single_exists token_kind.Repeat [] = exists (word keyword.Repeat) (record { well = tt; exact = refl }, λ z. z) refl
single_exists token_kind.Do [] = exists (word keyword.Do) (record { well = tt; exact = refl }, λ z. z) refl
single_exists token_kind.EndDo [] = exists (word keyword.EndDo) (record { well = tt; exact = refl }, λ z. z) refl
single_exists token_kind.EndInitializations [] = exists (word keyword.EndInitializations) (record { well = tt; exact = refl }, λ z. z) refl
single_exists token_kind.Break [] = exists break_word (record { well = tt; exact = refl }, λ z. z) refl
single_exists token_kind.Next [] = exists next_word (record { well = tt; exact = refl }, λ z. z) refl
single_exists _ [] = lacks refl

pub single_piece : (kind : TokenKind) (rest : List Word) → head_of kind ≡ head_kind.Single → TellsPiece (word_kind.Key kind ∷ rest) (fixed.single kind rest)
single_piece kind rest e = fixed_form (IsOther (word_kind.Key kind ∷ rest)) (fixed.single kind rest)
    (λ p m. single_answer kind rest p m.0.exact (key_head kind rest p m.1 m.0.exact ∙ ap (λ z. Some z) e)) (single_exists kind rest)

-- ---- `uses`

abbrev some_texts : List (List ℕ) → Option (List (List ℕ))
some_texts found = Some found

texts_read : (ns : Names) → texts_of (text_words ns) ≡ some_texts (list_of_names ns)
texts_read (one_name n) = refl
texts_read (and_name n ns) = ap (onto (n ∷ [])) (texts_read ns)

abbrev AreTexts : List Word → List (List ℕ) → Type 0
AreTexts words all = (ns : Names) × (words ≡ text_words ns) × (all ≡ list_of_names ns)

more_texts : (n : List ℕ) (rest : List Word) (found : Option (List (List ℕ))) (all : List (List ℕ)) → ((more : List (List ℕ)) → found ≡ some_texts more → AreTexts rest more) → onto (n ∷ []) found ≡ some_texts all
    → AreTexts (word_kind.Text n ∷ word_kind.Key token_kind.Comma ∷ rest) all
more_texts n rest None all known e = absurd cc
more_texts n rest (Some more) all known e =
    let q = known more refl in
    let whole : n ∷ more ≡ all = cc in
    (and_name n q.0, ap (λ z. word_kind.Text n ∷ word_kind.Key token_kind.Comma ∷ z) q.1, sym whole ∙ ap (λ z. n ∷ z) q.2)

texts_known : (words : List Word) (all : List (List ℕ)) → texts_of words ≡ some_texts all → AreTexts words all
texts_known (word_kind.Text n ∷ []) all e = (one_name n, refl, cc)
texts_known (word_kind.Text n ∷ word_kind.Key token_kind.Comma ∷ rest) all e = more_texts n rest (texts_of rest) all (texts_known rest) e
texts_known _ all e = absurd cc

uses_answer : (rest : List Word) (p : Phrase) → word_kind.Key token_kind.Uses ∷ rest ≡ words_of p → head_is p ≡ Some head_kind.Uses → answer p ≡ uses rest
uses_answer rest (uses_modules ns) e k =
    sym (ap uses (tail_same (word_kind.Key token_kind.Uses) (word_kind.Key token_kind.Uses) rest (text_words ns) e) ∙ ap uses_of (texts_read ns))
uses_answer rest (assign to_result op s) e k = absurd cc
uses_answer rest _ e k = absurd cc

uses_found : (rest : List Word) (read : Option (List (List ℕ))) → texts_of rest ≡ read → Exists (IsOther (word_kind.Key token_kind.Uses ∷ rest)) (uses_of read)
uses_found rest None e = lacks refl
uses_found rest (Some all) e =
    let q = texts_known rest all e in
    exists (uses_modules q.0) (record { well = tt; exact = ap (λ z. word_kind.Key token_kind.Uses ∷ z) q.1 }, λ z. z) (ap form_kind.Uses (sym q.2))

pub uses_piece : (rest : List Word) → TellsPiece (word_kind.Key token_kind.Uses ∷ rest) (uses rest)
uses_piece rest = fixed_form (IsOther (word_kind.Key token_kind.Uses ∷ rest)) (uses rest) (λ p m. uses_answer rest p m.0.exact (key_head token_kind.Uses rest p m.1 m.0.exact)) (uses_found rest (texts_of rest) refl)

-- ---- labels

abbrev some_labels : List Label → Option (List Label)
some_labels found = Some found

pub labels_read : (xs : Labels) (found : List Label) → read_labels found (label_words xs) ≡ some_labels (found ++ labels_of xs)
labels_read (last_label n None) found = refl
labels_read (last_label n (Some y)) found = refl
labels_read (and_label n None xs) found = labels_read xs (lists.add found n None) ∙ ap some_labels (append_assoc found (record { name = n; shown = None } ∷ []) (labels_of xs))
labels_read (and_label n (Some y) xs) found = labels_read xs (lists.add found n (Some y)) ∙ ap some_labels (append_assoc found (record { name = n; shown = Some y } ∷ []) (labels_of xs))

abbrev pub AreLabels : List Word → List Label → List Label → Type 0
AreLabels words found all = (xs : Labels) × (words ≡ label_words xs) × (all ≡ found ++ labels_of xs)

pub labels_known : (words : List Word) (found all : List Label) → read_labels found words ≡ some_labels all → AreLabels words found all
labels_known (word_kind.Name n ∷ []) found all e = (last_label n None, refl, cc)
labels_known (word_kind.Name n ∷ word_kind.Key token_kind.As ∷ word_kind.Text y ∷ []) found all e = (last_label n (Some y), refl, cc)
labels_known (word_kind.Name n ∷ word_kind.Key token_kind.Comma ∷ rest) found all e =
    let q = labels_known rest (lists.add found n None) all e in
    (and_label n None q.0, ap (λ z. word_kind.Name n ∷ word_kind.Key token_kind.Comma ∷ z) q.1, q.2 ∙ append_assoc found (record { name = n; shown = None } ∷ []) (labels_of q.0))
labels_known (word_kind.Name n ∷ word_kind.Key token_kind.As ∷ word_kind.Text y ∷ word_kind.Key token_kind.Comma ∷ rest) found all e =
    let q = labels_known rest (lists.add found n (Some y)) all e in
    (and_label n (Some y) q.0, ap (λ z. word_kind.Name n ∷ word_kind.Key token_kind.As ∷ word_kind.Text y ∷ word_kind.Key token_kind.Comma ∷ z) q.1, q.2 ∙ append_assoc found (record { name = n; shown = Some y } ∷ []) (labels_of q.0))
labels_known _ found all e = absurd cc

-- one label, and what stands behind it
pub label_shown : (found : List Label) (n shown : List ℕ) (behind : List Word) → read_labels found (word_kind.Name n ∷ lists.as_text shown behind) ≡ lists.behind_label (lists.add found n (Some shown)) behind
label_shown found n shown [] = refl
label_shown found n shown (word_kind.Key token_kind.Comma ∷ rest) = refl
label_shown found n shown _ = refl

pub label_alone : (found : List Label) (n : List ℕ) (after : List Word) → AreNoPair lists.as_text after → read_labels found (word_kind.Name n ∷ after) ≡ lists.behind_label (lists.add found n None) after
label_alone found n [] none = refl
label_alone found n (word_kind.Key token_kind.Comma ∷ rest) none = refl
label_alone found n (word_kind.Key token_kind.As ∷ word_kind.Text shown ∷ rest) none = absurd (none shown rest refl)
label_alone found n _ none = refl

pub head_model : (kind : TokenKind) → head_kind.Model ≡ head_of kind → kind ≡ token_kind.Model
head_model token_kind.Model e = refl
head_model _ e = absurd cc

pub head_uses : (kind : TokenKind) → head_kind.Uses ≡ head_of kind → kind ≡ token_kind.Uses
head_uses token_kind.Uses e = refl
head_uses _ e = absurd cc

pub head_options : (kind : TokenKind) → head_kind.Options ≡ head_of kind → kind ≡ token_kind.Options
head_options token_kind.Options e = refl
head_options _ e = absurd cc
