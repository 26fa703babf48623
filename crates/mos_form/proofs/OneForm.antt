-- Words have one form: each piece is read as the code reads it, from what it is.

use Rattle.std.proofs.Common.{◌≡◌, ℕ, max, Bool, true, false, List, [], ◌∷◌, ◌++◌, Option, Some, None, Result, Ok, refl, sym, ◌∙◌, ap, subst}
use Rattle.std.specs.List.{list_all}
use Rattle.mos_tree.specs.declared.declaration.BaseType.{BaseType}
use Rattle.mos_tree.specs.declared.statement.Assignment.{Assignment}
use Rattle.mos_tree.specs.declared.statement.Reference.{Reference}
use Rattle.mos_tree.specs.declared.statement.Reference.TheVariants as reference
use Rattle.mos_scan.specs.declared.token.TokenKind.TheVariants as token_kind
use Rattle.mos_scan.specs.declared.grammar_word.Word.{Word}
use Rattle.mos_scan.specs.declared.grammar_word.Word.TheVariants as word_kind
use Rattle.mos_expr.specs.Grammar.{Names, one_name, and_name, spell_names, list_of_names, Syntax, SyntaxList, no_syntax, IsGrouped, AreGrouped, spell, spell_list, spell_index, height, heights, height_index, tree, trees, index_of, syntax_then, IsGroupedIndex}
use Rattle.mos_expr.specs.Laws.{HaveOneTree, HaveOneList, HaveOneIndex, answer_at}
use Rattle.mos_typing.specs.Laws.{AreOneType, AreOneList}
use Rattle.mos_typing.specs.Typing.{Typing, Formals, TypeIsGrouped, FormalsAreGrouped, key, in_brackets, typing_words, formal_words, type_of, formals_of, tallest_type, tallest_formals}
use Rattle.mos_typing.specs.PhraseWords.{is_plain, SyntaxIsPlain, ListIsPlain}
use Rattle.mos_tree.specs.declared.form.Form.{Form}
use Rattle.mos_tree.specs.declared.form.Form.TheVariants as form_kind
use Rattle.mos_tree.specs.declared.form.PieceKind.{PieceKind}
use Rattle.mos_tree.specs.declared.form.PieceKind.TheVariants as piece_kind
use Rattle.mos_tree.specs.Forms.{piece_kind_of, condition_kind}
use Rattle.mos_form.specs.Laws.{HaveOneForm}
use Rattle.mos_form.specs.Lists as lists
use Rattle.mos_form.specs.Fixed as fixed
use Rattle.mos_form.specs.Fixed.{heading, heading_kind}
use Rattle.mos_form.specs.Cuts.{is_record}
use Rattle.mos_form.specs.Cells.{parts_height, parts_trees, with_parts, TellsCell}
use Rattle.mos_form.specs.Phrases.{to_name, to_cell, to_field, to_cell_field, to_result, Labels, last_label, and_label, Phrase, word, break_word, next_word, model, uses_modules, options_name, definition, typed, record_of, procedure, function, forward_procedure, forward_function, assign, fill, call, bare, guarded, alternative, forall_in, initializations, labels, token_of, model_word, around, text_words, label_words, operator_word, direction_word, words_of, IsWell, LabelsAre, IsPhrase, answer, IsFormOf, is_phrase, no_phrase}
use Rattle.mos_form.specs.Telling.{Tells, tells_form, by_height, TellsOne, TellsPiece, TellsList, IsAlternative, assign_form, call_form, fill_form, HasMore, Writes, TellsOf}
use Rattle.mos_form.proofs.Telling.{on_bool}
use Rattle.mos_form.proofs.Opening.{single_head}
use Rattle.mos_form.proofs.Parting.{operator_read, operator_parts, plain_join}
use Rattle.mos_form.proofs.Keyed.{condition_piece, forall_piece, data_piece, direction_read, result_piece}
use Rattle.mos_form.proofs.Exactly.{single_piece, model_piece, options_piece, uses_piece}
use Rattle.mos_form.proofs.Named.{bare_piece, record_words, record_piece, value_piece, fill_piece, variable_piece, field_piece}
use Rattle.mos_form.proofs.Bracketed.{around as within_target, close, call_only, call_piece, cell_only, cell_words, plain_cell, set_piece}
use Rattle.mos_form.proofs.Listing.{plain_names, typed_piece, names_with, list_only, has_colon, no_colon, a_colon, labels_piece}
use Rattle.mos_form.proofs.Routines.{routine_kind, routine_token, heading_words, routine_piece}
use Rattle.mos_form.proofs.Whole.{ends, ends_last, others_end, alternative_piece, other_piece, said_only}
use Rattle.mos_expr.specs.Said.{AreSomeGrouped}
use Rattle.mos_form.proofs.Same.{same_form, same_pair}

abbrev ok : Form → Result Form (Unit {0})
ok form = Ok form

-- the form of words
abbrev HasForm : List Word → Type 0
HasForm words = (form : Form) × Tells Phrase (IsPhrase words) answer form

-- what is written so is one thing, or is too high
record One {S T : Type 0} (Grouped : S → Type 0) (words_of : S → List Word) (tree_of : S → T) (height_of : S → ℕ) : Type 0 where
  one : (words : List Word) (x s : S) → Writes Grouped words_of words x → Writes Grouped words_of words s → answer_at (tree_of x) (height_of x) ≡ answer_at (tree_of s) (height_of s)

-- what the laws of expressions, types and words say
record Laws : Type 0 where
  plain : SyntaxIsPlain
  plain_list : ListIsPlain
  an_expression : One IsGrouped spell tree height
  expressions : One AreGrouped spell_list trees heights
  some_expressions : One AreSomeGrouped spell_list trees heights
  index : One IsGroupedIndex spell_index index_of height_index
  a_type : One TypeIsGrouped typing_words type_of tallest_type
  some_formals : One FormalsAreGrouped formal_words formals_of tallest_formals

-- what is told of what is spelled
tell : {S T : Type 0} {Grouped : S → Type 0} {words_of : S → List Word} {tree_of : S → T} {height_of : S → ℕ} → One Grouped words_of tree_of height_of → (make : T → Form) (kind : PieceKind)
    → ((x : T) → piece_kind_of (make x) ≡ kind) → (s : S) → Grouped s → TellsOf Grouped words_of tree_of height_of make (words_of s) (by_height (height_of s) (make (tree_of s)))
tell {words_of = words_of} {tree_of = tree_of} {height_of = height_of} law make kind alike s g =
    tells_form s (record { grouped = g; exact = refl }) (λ x h. same_form make kind alike (tree_of x) (tree_of s) (height_of x) (height_of s) (law.one (words_of s) x s h (record { grouped = g; exact = refl })))

tell_cell : Laws → (n : List ℕ) (field : Option (List ℕ)) (op : Assignment) (xs : SyntaxList) (s : Syntax) → AreSomeGrouped xs → IsGrouped s
    → TellsCell n field op (spell_list xs) (spell s) (by_height (max (heights xs) (height s)) (with_parts n field op (trees xs, tree s)))
tell_cell laws n field op xs s g h =
    tells_form (xs, s) (record { grouped = g; exact = refl }, record { grouped = h; exact = refl })
    (λ p a. same_form (with_parts n field op) piece_kind.Simple (λ q. refl) (parts_trees p) (trees xs, tree s) (parts_height p) (max (heights xs) (height s))
    (same_pair (trees p.0) (trees xs) (tree p.1) (tree s) (heights p.0) (heights xs) (height p.1) (height s)
    (laws.some_expressions.one (spell_list xs) p.0 xs a.0 (record { grouped = g; exact = refl })) (laws.an_expression.one (spell s) p.1 s a.1 (record { grouped = h; exact = refl }))))

-- ---- each piece

not_ended : SyntaxIsPlain → (p : Phrase) → (IsAlternative p → ⊥) → (inside : List Word) → words_of p ≡ inside ++ key token_kind.Colon → ⊥
not_ended plain p a inside e = let q : true ≡ false = sym (ends_last inside (word_kind.Key token_kind.Colon) []) ∙ ap ends (sym e) ∙ others_end plain p a in cc

as_other : {form : Form} → Laws → (p : Phrase) → (IsAlternative p → ⊥) → TellsPiece (words_of p) form → HasForm (words_of p)
as_other {form = form} laws p a k = (form, other_piece (words_of p) (not_ended laws.plain p a) (ok form) k)

no_record : SyntaxIsPlain → (s : Syntax) → is_record (spell s) ≡ false
no_record plain s = on_bool (is_record (spell s))
    (λ e. let q = record_words (spell s) e in let r : false ≡ true = ap (list_all is_plain) (sym q) ∙ plain s in absurd cc)
    (λ e. e)

assignment : Laws → (target : Reference) (op : Assignment) (s : Syntax) → IsGrouped s → TellsOne (assign_form target op) (spell s) (by_height (height s) (assign_form target op (tree s)))
assignment laws target op s g = tell laws.an_expression (assign_form target op) piece_kind.Simple (λ x. refl) s g

cell_set : Laws → (n : List ℕ) (xs : SyntaxList) (g : Option (List ℕ)) (op : Assignment) (s : Syntax) → AreSomeGrouped xs → IsGrouped s
    → TellsPiece (word_kind.Name n ∷ word_kind.Key token_kind.OpenRound ∷ (cell_words xs g ++ operator_word op ∷ spell s)) (by_height (max (heights xs) (height s)) (with_parts n g op (trees xs, tree s)))
cell_set laws n xs g op s a c =
    cell_only laws.plain_list n (cell_words xs g ++ operator_word op ∷ spell s) (cell_words xs g) (spell s) (operator_word op) op (plain_cell laws.plain_list xs g) (operator_parts op) refl (sym (operator_read op)) (ok _)
    (set_piece n n (cell_words xs g) (spell_list xs) (spell s) g op refl (around_is g) (ok _) (tell_cell laws n g op xs s a c))
  where
    around_is : (g : Option (List ℕ)) → cell_words xs g ≡ within_target (spell_list xs) g
    around_is None = refl
    around_is (Some h) = refl

types : Laws → (ns : Names) (x : Typing) → TypeIsGrouped x → HasForm (words_of (typed ns x))
types laws ns x k =
    as_other laws (typed ns x) (λ z. z) (by_names ns (in_list ns))
  where
    in_list : (ns : Names) → TellsList (words_of (typed ns x)) (by_height (tallest_type x) (form_kind.Typed (list_of_names ns) (type_of x)))
    in_list ns =
        let form = by_height (tallest_type x) (form_kind.Typed (list_of_names ns) (type_of x)) in
        typed_piece (words_of (typed ns x)) (spell_names ns) (typing_words x) (word_kind.Key token_kind.Colon) (plain_names ns) refl refl (ok form)
        (names_with (spell_names ns) (typing_words x) (list_of_names ns) (ns, refl, refl) (ok form) (tell laws.a_type (λ y. form_kind.Typed (list_of_names ns) y) piece_kind.Typed (λ y. refl) x k))

    by_names : (ns : Names) → TellsList (words_of (typed ns x)) (by_height (tallest_type x) (form_kind.Typed (list_of_names ns) (type_of x))) → TellsPiece (words_of (typed ns x)) (by_height (tallest_type x) (form_kind.Typed (list_of_names ns) (type_of x)))
    by_names (one_name n) h = list_only (words_of (typed (one_name n) x)) (typing_words x) n (word_kind.Key token_kind.Colon) refl refl (ok (by_height (tallest_type x) (form_kind.Typed (list_of_names (one_name n)) (type_of x)))) h
    by_names (and_name n ms) h = list_only (words_of (typed (and_name n ms) x)) (spell_names ms ++ word_kind.Key token_kind.Colon ∷ typing_words x) n (word_kind.Key token_kind.Comma) refl refl (ok (by_height (tallest_type x) (form_kind.Typed (list_of_names (and_name n ms)) (type_of x)))) h

labels_form : Laws → (xs : Labels) → LabelsAre xs → HasForm (words_of (labels xs))
labels_form laws xs k = as_other laws (labels xs) (λ z. z) (by_labels xs k)
  where
    in_list : (xs : Labels) → HasMore (label_words xs) → TellsList (label_words xs) (lists.labels (label_words xs))
    in_list xs more = labels_piece (label_words xs) more
        (λ ns x e. let q : true ≡ false = sym (a_colon (spell_names ns) (typing_words x)) ∙ ap has_colon (sym e) ∙ no_colon xs in cc)

    by_labels : (xs : Labels) → LabelsAre xs → TellsPiece (label_words xs) (lists.labels (label_words xs))
    by_labels (last_label n None) k = absurd k
    by_labels (last_label n (Some y)) k =
        let xs = last_label n (Some y) in list_only (label_words xs) (word_kind.Text y ∷ []) n (word_kind.Key token_kind.As) refl refl (ok (lists.labels (label_words xs))) (in_list xs tt)
    by_labels (and_label n None more) k =
        let xs = and_label n None more in list_only (label_words xs) (label_words more) n (word_kind.Key token_kind.Comma) refl refl (ok (lists.labels (label_words xs))) (in_list xs tt)
    by_labels (and_label n (Some y) more) k =
        let xs = and_label n (Some y) more in list_only (label_words xs) (word_kind.Text y ∷ word_kind.Key token_kind.Comma ∷ label_words more) n (word_kind.Key token_kind.As) refl refl (ok (lists.labels (label_words xs))) (in_list xs tt)

routines : Laws → (forward : Bool) (n : List ℕ) (xs : Formals) (result : Option BaseType) → FormalsAreGrouped xs
    → TellsPiece (fixed.lead forward (routine_token result) (word_kind.Name n ∷ heading_words xs result)) (by_height (tallest_formals xs) (heading forward n (formals_of xs) result))
routines laws forward n xs result k =
    routine_piece forward result n (word_kind.Name n ∷ heading_words xs result) (formal_words xs) refl (ok _) (tell laws.some_formals (λ ys. heading forward n ys result) (heading_kind forward result) (routine_kind forward n result) xs k)

piece : Laws → (p : Phrase) → IsWell p → HasForm (words_of p)
piece laws (word x) k = as_other laws (word x) (λ z. z) (single_piece (token_of x) [] (single_head x))
piece laws break_word k = as_other laws break_word (λ z. z) (single_piece token_kind.Break [] refl)
piece laws next_word k = as_other laws next_word (λ z. z) (single_piece token_kind.Next [] refl)
piece laws (model n) k = as_other laws (model n) (λ z. z) (model_piece (model_word n ∷ []))
piece laws (uses_modules ns) k = as_other laws (uses_modules ns) (λ z. z) (uses_piece (text_words ns))
piece laws (options_name n) k = as_other laws (options_name n) (λ z. z) (options_piece (word_kind.Name n ∷ []))
piece laws (definition n s) k =
    as_other laws (definition n s) (λ z. z) (value_piece n (spell s) (no_record laws.plain s) (ok _) (tell laws.an_expression (form_kind.Definition n) piece_kind.Definition (λ x. refl) s k))
piece laws (typed ns x) k = types laws ns x k
piece laws (record_of n) k = as_other laws (record_of n) (λ z. z) (record_piece laws.plain n n (word_kind.Key token_kind.Record ∷ []) refl refl)
piece laws (procedure n xs) k = as_other laws (procedure n xs) (λ z. z) (routines laws false n xs None k)
piece laws (function n xs b) k = as_other laws (function n xs b) (λ z. z) (routines laws false n xs (Some b) k)
piece laws (forward_procedure n xs) k = as_other laws (forward_procedure n xs) (λ z. z) (routines laws true n xs None k)
piece laws (forward_function n xs b) k = as_other laws (forward_function n xs b) (λ z. z) (routines laws true n xs (Some b) k)
piece laws (assign (to_name n) op s) k =
    as_other laws (assign (to_name n) op s) (λ z. z) (variable_piece n n op (spell s) refl (ok _) (assignment laws (reference.Name n) op s k.1))
piece laws (assign (to_cell n xs) op s) k = as_other laws (assign (to_cell n xs) op s) (λ z. z) (cell_set laws n xs None op s k.0 k.1)
piece laws (assign (to_field n g) op s) k =
    as_other laws (assign (to_field n g) op s) (λ z. z) (field_piece n n g g op (spell s) refl refl (ok _) (assignment laws (reference.Field n g) op s k.1))
piece laws (assign (to_cell_field n xs g) op s) k = as_other laws (assign (to_cell_field n xs g) op s) (λ z. z) (cell_set laws n xs (Some g) op s k.0 k.1)
piece laws (assign to_result op s) k =
    as_other laws (assign to_result op s) (λ z. z)
    (result_piece op (operator_word op) (operator_word op ∷ spell s) (spell s) (sym (operator_read op)) refl (ok _) (assignment laws reference.Returned op s k.1))
piece laws (fill n xs) k =
    as_other laws (fill n xs) (λ z. z)
    (fill_piece n (word_kind.Key token_kind.OpenSquare ∷ (spell_list xs ++ key token_kind.CloseSquare)) (spell_list xs) refl (ok _) (tell laws.expressions (fill_form n) piece_kind.Simple (λ x. refl) xs k))
piece laws (call n xs) k =
    let behind = spell_list xs ++ close in
    as_other laws (call n xs) (λ z. z)
    (call_only n behind (plain_join (spell_list xs) close (laws.plain_list xs) refl) (ok _) (call_piece n behind (spell_list xs) refl (ok _) (tell laws.expressions (call_form n) piece_kind.Simple (λ x. refl) xs k)))
piece laws (bare n) k = as_other laws (bare n) (λ z. z) (bare_piece (word_kind.Name n ∷ []) [] n n refl refl refl)
piece laws (guarded g s) k =
    as_other laws (guarded g s) (λ z. z) (condition_piece g (around g (spell s)) (spell s) refl (ok _) (tell laws.an_expression (form_kind.Guarded g) (condition_kind g) (λ x. refl) s k))
piece laws (alternative xs) k =
    (_, alternative_piece laws.plain (spell_list xs ++ key token_kind.Colon) (spell_list xs) refl (ok _) (tell laws.some_expressions form_kind.Alternative piece_kind.Alternative (λ x. refl) xs k))
piece laws (forall_in i) k =
    as_other laws (forall_in i) (λ z. z) (forall_piece (in_brackets (spell_index i)) (spell_index i) refl (ok _) (tell laws.index form_kind.Forall piece_kind.Forall (λ x. refl) i k))
piece laws (initializations d s) k =
    as_other laws (initializations d s) (λ z. z)
    (data_piece d (direction_word d) (direction_word d ∷ spell s) (spell s) (sym (direction_read d)) refl (ok _) (tell laws.an_expression (λ x. form_kind.Initializations d x) piece_kind.Initializations (λ x. refl) s k))
piece laws (labels xs) k = labels_form laws xs k

-- ---- one form

one_answer : Laws → (words : List Word) (p q : Phrase) → IsPhrase words p → IsPhrase words q → answer p ≡ answer q
one_answer laws words p q k l =
    let it = piece laws p k.well in
    let only : (x : Phrase) → IsPhrase (words_of p) x → it.0 ≡ answer x = said_only (words_of p) (ok it.0) it.1 in
    sym (only p (record { well = k.well; exact = refl })) ∙ only q (subst (λ z. IsPhrase z q) k.exact l)

one_form : Laws → (words : List Word) (one other : Form) → IsFormOf words one → IsFormOf words other → one ≡ other
one_form laws words one other (is_phrase p k) (is_phrase q l) = one_answer laws words p q k l
one_form laws words one other (is_phrase p k) (no_phrase none) = absurd (none p k)
one_form laws words one other (no_phrase none) (is_phrase q l) = absurd (none q l)
one_form laws words one other (no_phrase none) (no_phrase more) = refl

some_grouped : (ss : SyntaxList) → AreSomeGrouped ss → AreGrouped ss
some_grouped no_syntax g = absurd g
some_grouped (syntax_then s ss) g = g

pub have_one_form : SyntaxIsPlain → ListIsPlain → HaveOneTree → HaveOneList → HaveOneIndex → AreOneType → AreOneList → HaveOneForm
have_one_form plain plain_list tree_law list_law index_law type_law formals_law = one_form (record {
  plain = plain;
  plain_list = plain_list;
  an_expression = record { one = λ words x s h k. tree_law words x s (record { grouped = h.grouped; exact = h.exact }) (record { grouped = k.grouped; exact = k.exact }) };
  expressions = record { one = λ words x s h k. list_law words x s (record { grouped = h.grouped; exact = h.exact }) (record { grouped = k.grouped; exact = k.exact }) };
  some_expressions = record { one = λ words x s h k. list_law words x s (record { grouped = some_grouped x h.grouped; exact = h.exact }) (record { grouped = some_grouped s k.grouped; exact = k.exact }) };
  index = record { one = λ words x s h k. index_law words x s (record { grouped = h.grouped; exact = h.exact }) (record { grouped = k.grouped; exact = k.exact }) };
  a_type = record { one = λ words x s h k. type_law words x s (record { grouped = h.grouped; exact = h.exact }) (record { grouped = k.grouped; exact = k.exact }) };
  some_formals = record { one = λ words x s h k. formals_law words x s (record { grouped = h.grouped; exact = h.exact }) (record { grouped = k.grouped; exact = k.exact }) };
})
