-- A form is no larger than its words are many.

use Rattle.std.proofs.Common.{◌≡◌, ℕ, ◌+◌, ◌≤◌, nat_le, List, [], ◌∷◌, ◌++◌, length, Result, Ok, Err, IfOk, refl, ap, arith, length-append}
use Rattle.mos_tree.specs.declared.form.Form.{Form}
use Rattle.mos_tree.specs.declared.form.Form.TheVariants as form_kind
use Rattle.mos_tree.specs.declared.form.ConditionKeyword.TheVariants as condition
use Rattle.mos_tree.specs.declared.form.Keyword.{Keyword}
use Rattle.mos_tree.specs.declared.form.Keyword.TheVariants as keyword
use Rattle.mos_tree.specs.Forms.{piece_kind_of}
use Rattle.mos_tree.specs.Nodes.{nodes, nodes_in, nodes_in_index}
use Rattle.mos_tree.specs.Sizes.{size_of_form, size_of_keyword, size_of_type, size_of_formals, size_of_reference}
use Rattle.mos_scan.specs.declared.token.TokenKind.{TokenKind}
use Rattle.mos_scan.specs.declared.token.TokenKind.TheVariants as token_kind
use Rattle.mos_scan.specs.declared.grammar_word.Word.{Word}
use Rattle.mos_scan.specs.declared.grammar_word.Word.TheVariants as word_kind
use Rattle.mos_expr.specs.Grammar.{Syntax, SyntaxList, IndexSyntax, IsGrouped, AreGrouped, IsGroupedIndex, spell, spell_list, spell_index, spell_names, tree, trees, index_of, height, heights, height_index, limit, no_syntax, syntax_then}
use Rattle.mos_expr.specs.Sizes.{ExpressionIsSmall, ExpressionsAreSmall, IndexIsSmall}
use Rattle.mos_typing.specs.Typing.{Typing, Formals, in_brackets, base_words, typing_words, formal_words, type_of, formals_of, tallest_type, tallest_formals, TypeIsGrouped, FormalsAreGrouped}
use Rattle.mos_typing.specs.Laws.{TypeIsSmall, FormalsAreSmall}
use Rattle.mos_form.specs.Phrases.{Target, to_cell, to_cell_field, Phrase, word, definition, typed, procedure, function, forward_procedure, forward_function, assign, fill, call, guarded, alternative, forall_in, initializations, target_words, operator_word, words_of, form_of, reference_of, tallest, TargetIs, IsWell, answer, IsFormOf, is_phrase, no_phrase}
use Rattle.mos_expr.specs.Said.{AreSomeGrouped}
use Rattle.mos_form.proofs.Telling.{on_bool}

-- words behind one another
joined : (xs ys : List Word) (a b : ℕ) → a ≤ length xs → b ≤ length ys → a + b ≤ length (xs ++ ys)
joined xs ys a b h k = omega (arith, length-append xs ys, h, k)

-- words with one more behind them
closed : (xs : List Word) (k : TokenKind) (a : ℕ) → a ≤ length xs → a + 1 ≤ length (xs ++ word_kind.Key k ∷ [])
closed xs k a h = joined xs (word_kind.Key k ∷ []) a 1 h (omega arith)

-- words in brackets
enclosed : (xs : List Word) (a : ℕ) → a ≤ length xs → a + 2 ≤ length (in_brackets xs)
enclosed xs a h = let l : a + 1 ≤ length (xs ++ word_kind.Key token_kind.CloseRound ∷ []) = closed xs token_kind.CloseRound a h in omega (arith, l)

keyword_small : (x : Keyword) → size_of_keyword x ≤ 1
keyword_small keyword.EndModel = omega arith
keyword_small _ = omega arith

module _ (one : ExpressionIsSmall) (list : ExpressionsAreSmall) (index : IndexIsSmall) (a_type : TypeIsSmall) (some_formals : FormalsAreSmall) where
  one_small : (s : Syntax) → IsGrouped s → nodes (tree s) ≤ length (spell s)
  one_small s g = one (spell s) (tree s) (height s) (record { written = s; grouped = g; exact = refl; is = refl; high_is = refl })

  list_small : (ss : SyntaxList) → AreGrouped ss → nodes_in (trees ss) ≤ length (spell_list ss)
  list_small ss g = list (spell_list ss) (trees ss) (heights ss) (record { written = ss; grouped = g; exact = refl; is = refl; high_is = refl })

  index_small : (i : IndexSyntax) → IsGroupedIndex i → nodes_in_index (index_of i) ≤ length (spell_index i)
  index_small i g = index (spell_index i) (index_of i) (height_index i) (record { written = i; grouped = g; exact = refl; is = refl; high_is = refl })

  type_small : (x : Typing) → TypeIsGrouped x → size_of_type (type_of x) ≤ length (typing_words x)
  type_small x g = a_type (typing_words x) (type_of x) (tallest_type x) (record { written = x; grouped = g; exact = refl; is = refl; high_is = refl })

  formals_small : (xs : Formals) → FormalsAreGrouped xs → size_of_formals (formals_of xs) ≤ length (formal_words xs)
  formals_small xs g = some_formals (formal_words xs) (formals_of xs) (tallest_formals xs) (record { written = xs; grouped = g; exact = refl; is = refl; high_is = refl })

  some_grouped : (ss : SyntaxList) → AreSomeGrouped ss → AreGrouped ss
  some_grouped no_syntax g = absurd g
  some_grouped (syntax_then s ss) g = g

  target_small : (x : Target) → TargetIs x → size_of_reference (reference_of x) ≤ length (target_words x)
  target_small (to_cell n xs) g = let h : nodes_in (trees xs) + 2 ≤ length (in_brackets (spell_list xs)) = enclosed (spell_list xs) (nodes_in (trees xs)) (list_small xs (some_grouped xs g)) in omega (arith, h)
  target_small (to_cell_field n xs x) g =
      let h : nodes_in (trees xs) + 2 ≤ length (in_brackets (spell_list xs)) = enclosed (spell_list xs) (nodes_in (trees xs)) (list_small xs (some_grouped xs g)) in
      let l : (nodes_in (trees xs) + 2) + 2 ≤ length (in_brackets (spell_list xs) ++ word_kind.Key token_kind.Dot ∷ word_kind.Name x ∷ []) = joined (in_brackets (spell_list xs)) (word_kind.Key token_kind.Dot ∷ word_kind.Name x ∷ []) (nodes_in (trees xs) + 2) 2 h (omega arith) in
      omega (arith, l)
  target_small _ g = omega arith

  -- a heading with its result
  result_small : (xs : Formals) (ys : List Word) → FormalsAreGrouped xs → size_of_formals (formals_of xs) ≤ length (formal_words xs ++ ys)
  result_small xs ys g = let l : size_of_formals (formals_of xs) + 0 ≤ length (formal_words xs ++ ys) = joined (formal_words xs) ys (size_of_formals (formals_of xs)) 0 (formals_small xs g) (omega arith) in omega (arith, l)

  form_small : (p : Phrase) → IsWell p → size_of_form (form_of p) ≤ length (words_of p)
  form_small (word x) g = omega (arith, keyword_small x)
  form_small (definition n s) g = omega (arith, one_small s g)
  form_small (typed ns x) g =
      let l : 0 + (size_of_type (type_of x) + 1) ≤ length (spell_names ns ++ word_kind.Key token_kind.Colon ∷ typing_words x) = joined (spell_names ns) (word_kind.Key token_kind.Colon ∷ typing_words x) 0 (size_of_type (type_of x) + 1) (omega arith) (omega (arith, type_small x g)) in
      omega (arith, l)
  form_small (procedure n xs) g = omega (arith, formals_small xs g)
  form_small (function n xs b) g = omega (arith, result_small xs (word_kind.Key token_kind.Colon ∷ base_words b) g)
  form_small (forward_procedure n xs) g = omega (arith, formals_small xs g)
  form_small (forward_function n xs b) g = omega (arith, result_small xs (word_kind.Key token_kind.Colon ∷ base_words b) g)
  form_small (assign x operator s) g =
      let l : size_of_reference (reference_of x) + (nodes (tree s) + 1) ≤ length (target_words x ++ operator_word operator ∷ spell s) = joined (target_words x) (operator_word operator ∷ spell s) (size_of_reference (reference_of x)) (nodes (tree s) + 1) (target_small x g.0) (omega (arith, one_small s g.1)) in
      omega (arith, l)
  form_small (fill n xs) g = let l : nodes_in (trees xs) + 1 ≤ length (spell_list xs ++ word_kind.Key token_kind.CloseSquare ∷ []) = closed (spell_list xs) token_kind.CloseSquare (nodes_in (trees xs)) (list_small xs g) in omega (arith, l)
  form_small (call n xs) g = let l : nodes_in (trees xs) + 2 ≤ length (in_brackets (spell_list xs)) = enclosed (spell_list xs) (nodes_in (trees xs)) (list_small xs g) in omega (arith, l)
  form_small (guarded condition.Case s) g = let l : nodes (tree s) + 1 ≤ length (spell s ++ word_kind.Key token_kind.Of ∷ []) = closed (spell s) token_kind.Of (nodes (tree s)) (one_small s g) in omega (arith, l)
  form_small (guarded condition.While s) g = let l : nodes (tree s) + 2 ≤ length (in_brackets (spell s)) = enclosed (spell s) (nodes (tree s)) (one_small s g) in omega (arith, l)
  form_small (guarded condition.Until s) g = omega (arith, one_small s g)
  form_small (guarded _ s) g = let l : nodes (tree s) + 1 ≤ length (spell s ++ word_kind.Key token_kind.Then ∷ []) = closed (spell s) token_kind.Then (nodes (tree s)) (one_small s g) in omega (arith, l)
  form_small (alternative xs) g = let l : nodes_in (trees xs) + 1 ≤ length (spell_list xs ++ word_kind.Key token_kind.Colon ∷ []) = closed (spell_list xs) token_kind.Colon (nodes_in (trees xs)) (list_small xs (some_grouped xs g)) in omega (arith, l)
  form_small (forall_in i) g = let l : nodes_in_index (index_of i) + 2 ≤ length (in_brackets (spell_index i)) = enclosed (spell_index i) (nodes_in_index (index_of i)) (index_small i g) in omega (arith, l)
  form_small (initializations d s) g = omega (arith, one_small s g)
  form_small _ g = omega arith

  -- what is answered is the form, or none of its size
  answer_small : (p : Phrase) → IsWell p → size_of_form (answer p) ≤ length (words_of p)
  answer_small p g = on_bool (nat_le (tallest p) limit)
      (λ e. let q : answer p ≡ form_of p = rw e refl in let s : size_of_form (answer p) ≡ size_of_form (form_of p) = ap size_of_form q in omega (arith, s, form_small p g))
      (λ e. let q : answer p ≡ form_kind.TooHigh (piece_kind_of (form_of p)) = rw e refl in let s : size_of_form (answer p) ≡ 0 = ap size_of_form q in omega (arith, s))

  is_small : (words : List Word) (form : Form) → IsFormOf words form → size_of_form form ≤ length words
  is_small words _ (is_phrase p k) = let l : length words ≡ length (words_of p) = ap length k.exact in omega (arith, l, answer_small p k.well)
  is_small words _ (no_phrase none) = omega arith

  pub forms_are_small : {E : Type 0} (words : List Word) (r : Result Form E) → IfOk r (IsFormOf words) → IfOk r (λ form. size_of_form form ≤ length words)
  forms_are_small words (Ok form) k = is_small words form k
  forms_are_small words (Err e) k = tt
