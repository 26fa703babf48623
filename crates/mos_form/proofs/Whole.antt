-- Alternatives, which alone end in a colon, and all other pieces.

use Rattle.std.proofs.Common.{◌≡◌, ℕ, Bool, true, false, List, [], ◌∷◌, ◌++◌, Some, None, Result, Ok, Err, IfOk, refl, sym, ◌∙◌, ap, subst}
use Rattle.std.proofs.lemmas.List.{append_cancel_right}
use Rattle.mos_tree.specs.declared.statement.Assignment.{Assignment}
use Rattle.mos_tree.specs.declared.statement.Assignment.TheVariants as assignment
use Rattle.mos_scan.specs.declared.token.TokenKind.{TokenKind}
use Rattle.mos_scan.specs.declared.token.TokenKind.TheVariants as token_kind
use Rattle.mos_scan.specs.declared.grammar_word.Word.{Word}
use Rattle.mos_scan.specs.declared.grammar_word.Word.TheVariants as word_kind
use Rattle.mos_expr.specs.Grammar.{Names, one_name, and_name, spell_names, SyntaxList, spell, spell_list, heights, trees}
use Rattle.mos_typing.specs.Typing.{Typing, key, typing_words}
use Rattle.mos_typing.specs.PhraseWords.{is_plain, ArePlain, SyntaxIsPlain}
use Rattle.mos_tree.specs.declared.form.Form.{Form}
use Rattle.mos_tree.specs.declared.form.Form.TheVariants as form_kind
use Rattle.mos_form.specs.Phrases.{Labels, last_label, and_label, Phrase, word, model, uses_modules, definition, typed, procedure, function, forward_procedure, forward_function, assign, fill, call, guarded, alternative, forall_in, initializations, labels, token_of, text_words, label_words, target_words, operator_word, words_of, IsPhrase, answer}
use Rattle.mos_form.specs.Telling.{Tells, tells_form, tells_none, by_height, IsAlternative, IsOther, TellsPiece, Writes}
use Rattle.mos_form.proofs.Telling.{embed_ok}
use Rattle.mos_form.proofs.Parting.{plain_head, plain_tail}
use Rattle.mos_form.proofs.Opening.{begins, begun}
use Rattle.mos_form.proofs.Keyed.{no_piece}
use Rattle.mos_typing.specs.Typing.{Formals, no_brackets, empty_brackets, formals, of_base, a_range, a_set, a_list, an_array, formal_words, group_words, dims_words, base_word, base_words}
use Rattle.mos_tree.specs.declared.declaration.BaseType.{BaseType}
use Rattle.mos_tree.specs.declared.declaration.BaseType.TheVariants as base
use Rattle.mos_tree.specs.declared.statement.Direction.{Direction}
use Rattle.mos_tree.specs.declared.statement.Direction.TheVariants as direction
use Rattle.mos_expr.specs.Grammar.{spell_index}
use Rattle.mos_tree.specs.declared.source.ModelName.TheVariants as called
use Rattle.mos_tree.specs.declared.form.ConditionKeyword.TheVariants as condition
use Rattle.mos_tree.specs.declared.form.Keyword.{Keyword}
use Rattle.mos_tree.specs.declared.form.Keyword.TheVariants as keyword
use Rattle.mos_form.specs.Phrases.{direction_word, condition_word, IsFormOf, is_phrase, no_phrase}
use Rattle.mos_expr.specs.Said.{AreSomeGrouped}
use Rattle.mos_form.specs.Telling.{TellsSome}

-- ---- a colon at the end

abbrev is_colon : Word → Bool
is_colon (word_kind.Key token_kind.Colon) = true
is_colon _ = false

abbrev pub ends : List Word → Bool
ends [] = false
ends (x ∷ []) = is_colon x
ends (x ∷ y ∷ rest) = ends (y ∷ rest)

pub ends_last : (xs : List Word) (y : Word) (ys : List Word) → ends (xs ++ y ∷ ys) ≡ ends (y ∷ ys)
ends_last [] y ys = refl
ends_last (a ∷ []) y ys = refl
ends_last (a ∷ b ∷ xs) y ys = ends_last (b ∷ xs) y ys

ends_behind : (y : Word) (xs : List Word) → is_colon y ≡ false → ends xs ≡ false → ends (y ∷ xs) ≡ false
ends_behind y [] e k = e
ends_behind y (x ∷ xs) e k = k

plain_colon : (x : Word) → is_plain x ≡ true → is_colon x ≡ false
plain_colon (word_kind.Key token_kind.Colon) e = absurd cc
plain_colon _ e = refl

ends_plain : (xs : List Word) → ArePlain xs → ends xs ≡ false
ends_plain [] k = refl
ends_plain (x ∷ []) k = plain_colon x (plain_head x [] k)
ends_plain (x ∷ y ∷ xs) k = ends_plain (y ∷ xs) (plain_tail x (y ∷ xs) k)

base_ends : (b : BaseType) → is_colon (base_word b) ≡ false
base_ends base.Integer = refl
base_ends _ = refl

typing_ends : (x : Typing) → ends (word_kind.Key token_kind.Colon ∷ typing_words x) ≡ false
typing_ends (of_base b) = base_ends b
typing_ends a_range = refl
typing_ends (a_set b) = base_ends b
typing_ends (a_list b) = base_ends b
typing_ends (an_array true ds b) = ends_last (word_kind.Key token_kind.OpenRound ∷ (dims_words ds ++ key token_kind.CloseRound)) (word_kind.Key token_kind.Of) (base_words b) ∙ base_ends b
typing_ends (an_array false ds b) = ends_last (word_kind.Key token_kind.OpenRound ∷ (dims_words ds ++ key token_kind.CloseRound)) (word_kind.Key token_kind.Of) (base_words b) ∙ base_ends b

formals_end : (n : List ℕ) (xs : Formals) → ends (word_kind.Name n ∷ formal_words xs) ≡ false
formals_end n no_brackets = refl
formals_end n empty_brackets = refl
formals_end n (formals gs) = ends_last (word_kind.Name n ∷ word_kind.Key token_kind.OpenRound ∷ group_words gs) (word_kind.Key token_kind.CloseRound) []

texts_end : (ns : Names) → ends (text_words ns) ≡ false
texts_end (one_name n) = refl
texts_end (and_name n ns) = ends_behind (word_kind.Key token_kind.Comma) (text_words ns) refl (texts_end ns)

labels_end : (xs : Labels) → ends (label_words xs) ≡ false
labels_end (last_label n None) = refl
labels_end (last_label n (Some y)) = refl
labels_end (and_label n None xs) = ends_behind (word_kind.Key token_kind.Comma) (label_words xs) refl (labels_end xs)
labels_end (and_label n (Some y) xs) = ends_behind (word_kind.Key token_kind.Comma) (label_words xs) refl (labels_end xs)

keyword_end : (x : Keyword) → ends (word_kind.Key (token_of x) ∷ []) ≡ false
keyword_end keyword.EndModel = refl
keyword_end _ = refl

operator_colon : (op : Assignment) → is_colon (operator_word op) ≡ false
operator_colon assignment.Set = refl
operator_colon _ = refl

direction_colon : (d : Direction) → is_colon (direction_word d) ≡ false
direction_colon direction.From = refl
direction_colon direction.To = refl

pub others_end : SyntaxIsPlain → (p : Phrase) → (IsAlternative p → ⊥) → ends (words_of p) ≡ false
others_end plain (word x) a = keyword_end x
others_end plain (model (called.Quoted n)) a = refl
others_end plain (model (called.Named n)) a = refl
others_end plain (uses_modules ns) a = ends_behind (word_kind.Key token_kind.Uses) (text_words ns) refl (texts_end ns)
others_end plain (definition n s) a = ends_behind (word_kind.Key token_kind.Equal) (spell s) refl (ends_plain (spell s) (plain s))
others_end plain (typed ns x) a = ends_last (spell_names ns) (word_kind.Key token_kind.Colon) (typing_words x) ∙ typing_ends x
others_end plain (procedure n xs) a = formals_end n xs
others_end plain (function n xs b) a = ends_last (word_kind.Key token_kind.Function ∷ word_kind.Name n ∷ formal_words xs) (word_kind.Key token_kind.Colon) (base_words b) ∙ base_ends b
others_end plain (forward_procedure n xs) a = formals_end n xs
others_end plain (forward_function n xs b) a = ends_last (word_kind.Key token_kind.Forward ∷ word_kind.Key token_kind.Function ∷ word_kind.Name n ∷ formal_words xs) (word_kind.Key token_kind.Colon) (base_words b) ∙ base_ends b
others_end plain (assign x op s) a = ends_last (target_words x) (operator_word op) (spell s) ∙ ends_behind (operator_word op) (spell s) (operator_colon op) (ends_plain (spell s) (plain s))
others_end plain (fill n xs) a = ends_last (word_kind.Name n ∷ word_kind.Key token_kind.Fill ∷ word_kind.Key token_kind.OpenSquare ∷ spell_list xs) (word_kind.Key token_kind.CloseSquare) []
others_end plain (call n xs) a = ends_last (word_kind.Name n ∷ word_kind.Key token_kind.OpenRound ∷ spell_list xs) (word_kind.Key token_kind.CloseRound) []
others_end plain (guarded condition.Case s) a = ends_last (word_kind.Key token_kind.Case ∷ spell s) (word_kind.Key token_kind.Of) []
others_end plain (guarded condition.While s) a = ends_last (word_kind.Key token_kind.While ∷ word_kind.Key token_kind.OpenRound ∷ spell s) (word_kind.Key token_kind.CloseRound) []
others_end plain (guarded condition.Until s) a = ends_behind (word_kind.Key token_kind.Until) (spell s) refl (ends_plain (spell s) (plain s))
others_end plain (guarded g s) a = ends_last (word_kind.Key (condition_word g) ∷ spell s) (word_kind.Key token_kind.Then) []
others_end plain (alternative xs) a = absurd (a tt)
others_end plain (forall_in i) a = ends_last (word_kind.Key token_kind.Forall ∷ word_kind.Key token_kind.OpenRound ∷ spell_index i) (word_kind.Key token_kind.CloseRound) []
others_end plain (initializations d s) a = ends_behind (direction_word d) (spell s) (direction_colon d) (ends_plain (spell s) (plain s))
others_end plain (labels xs) a = labels_end xs
others_end plain _ a = refl

-- ---- an alternative

abbrev IsLabelled : List Word → Phrase → Type 0
IsLabelled inside p = (xs : SyntaxList) × Writes AreSomeGrouped spell_list inside xs × (p ≡ alternative xs)

either_way : (p : Phrase) → (A : Type 0) → (IsAlternative p → A) → ((IsAlternative p → ⊥) → A) → A
either_way (alternative xs) A yes_case no_case = yes_case tt
either_way _ A yes_case no_case = no_case (λ z. z)

labelled : (inside : List Word) (p : Phrase) → IsPhrase (inside ++ key token_kind.Colon) p → IsAlternative p → IsLabelled inside p
labelled inside (alternative xs) k a = (xs, record { grouped = k.well; exact = append_cancel_right inside (spell_list xs) (key token_kind.Colon) k.exact }, refl)
labelled inside _ k a = absurd a

alternative_back : SyntaxIsPlain → (inside : List Word) (p : Phrase) → IsPhrase (inside ++ key token_kind.Colon) p → IsLabelled inside p
alternative_back plain inside p k = either_way p (IsLabelled inside p) (labelled inside p k)
    (λ none. let q : true ≡ false = sym (ends_last inside (word_kind.Key token_kind.Colon) []) ∙ ap ends k.exact ∙ others_end plain p none in absurd cc)

pub alternative_piece : {E : Type 0} → SyntaxIsPlain → (words inside : List Word) → words ≡ inside ++ key token_kind.Colon → (r : Result Form E) → IfOk r (TellsSome (λ xs. form_kind.Alternative xs) inside) → IfOk r (Tells Phrase (IsPhrase words) answer)
alternative_piece plain words inside e r k =
    embed_ok (Writes AreSomeGrouped spell_list inside) (λ xs. by_height (heights xs) (form_kind.Alternative (trees xs))) (IsPhrase words) answer alternative
    (λ xs m. record { well = m.grouped; exact = e ∙ ap (λ z. z ++ key token_kind.Colon) m.exact })
    (λ p m. alternative_back plain inside p (subst (λ z. IsPhrase z p) e m))
    (λ xs. refl) r k

-- ---- any other piece

not_labelled : (words : List Word) → ((inside : List Word) → words ≡ inside ++ key token_kind.Colon → ⊥) → (p : Phrase) → IsPhrase words p → IsAlternative p → ⊥
not_labelled words none (alternative xs) k a = none (spell_list xs) k.exact
not_labelled words none _ k a = a

pub other_piece : {E : Type 0} (words : List Word) → ((inside : List Word) → words ≡ inside ++ key token_kind.Colon → ⊥) → (r : Result Form E) → IfOk r (TellsPiece words) → IfOk r (Tells Phrase (IsPhrase words) answer)
other_piece words none r k =
    embed_ok (IsOther words) answer (IsPhrase words) answer (λ p. p) (λ p m. m.0) (λ p m. (p, (m, not_labelled words none p m), refl)) (λ p. refl) r k

-- ---- what is said in the end

pub said_found : {E : Type 0} (words : List Word) (r : Result Form E) → IfOk r (Tells Phrase (IsPhrase words) answer) → IfOk r (IsFormOf words)
said_found words (Ok form) k = at form k
  where
    at : (form : Form) → Tells Phrase (IsPhrase words) answer form → IsFormOf words form
    at _ (tells_form p m only) = is_phrase p m
    at _ (tells_none none) = no_phrase none
said_found words (Err e) k = tt

pub said_only : {E : Type 0} (words : List Word) (r : Result Form E) → IfOk r (Tells Phrase (IsPhrase words) answer) → IfOk r (λ form. (p : Phrase) → IsPhrase words p → form ≡ answer p)
said_only words (Ok form) k = at form k
  where
    at : (form : Form) → Tells Phrase (IsPhrase words) answer form → (p : Phrase) → IsPhrase words p → form ≡ answer p
    at _ (tells_form q m only) p k = sym (only p k)
    at _ (tells_none none) p k = absurd (none p k)
said_only words (Err e) k = tt

-- ---- a piece begins with a token or a name

no_word : (words : List Word) → begins words ≡ true → ((kind : TokenKind) (rest : List Word) → words ≡ word_kind.Key kind ∷ rest → ⊥) → ((n : List ℕ) (rest : List Word) → words ≡ word_kind.Name n ∷ rest → ⊥) → ⊥
no_word (word_kind.Key kind ∷ rest) e no_key no_name = no_key kind rest refl
no_word (word_kind.Name n ∷ rest) e no_key no_name = no_name n rest refl
no_word _ e no_key no_name = cc

pub no_beginning : (words : List Word) → ((kind : TokenKind) (rest : List Word) → words ≡ word_kind.Key kind ∷ rest → ⊥) → ((n : List ℕ) (rest : List Word) → words ≡ word_kind.Name n ∷ rest → ⊥) → TellsPiece words form_kind.Unknown
no_beginning words no_key no_name = no_piece words (λ p m. no_word words (begun words p m.1 m.0.exact) no_key no_name)
