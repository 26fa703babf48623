-- The expressions in a type, and in formals, have no more nodes than the words are many.

use Rattle.std.proofs.Common.{◌≡◌, ℕ, ◌+◌, ◌≤◌, List, [], ◌∷◌, ◌++◌, length, map, sum, refl, sym, ◌∙◌, ap, arith, length-append}
use Rattle.std.proofs.lemmas.List.Sums.{sum-map, sum_by-cons}
use Rattle.mos_tree.specs.declared.declaration.Dimension.{Dimension}
use Rattle.mos_tree.specs.Sizes.{size_of_dimension, size_of_type, size_of_formal, size_of_formals}
use Rattle.mos_scan.specs.declared.token.TokenKind.TheVariants as token_kind
use Rattle.mos_scan.specs.declared.grammar_word.Word.{Word}
use Rattle.mos_scan.specs.declared.grammar_word.Word.TheVariants as word_kind
use Rattle.mos_expr.specs.Grammar.{spell, tree, height, spell_names, list_of_names}
use Rattle.mos_expr.specs.Sizes.{ExpressionIsSmall}
use Rattle.mos_typing.specs.Typing.{Dim, any_range, any_set, within, Dims, last_dim, and_dim, Typing, of_base, a_range, a_set, a_list, an_array, Groups, last_group, and_group, Formals, no_brackets, empty_brackets, formals, base_words, dynamic_words, dim_words, dims_words, typing_words, group_words, formal_words, in_brackets, dimension_of, dimensions_of, type_of, groups_of, formals_of, DimIsGrouped, DimsAreGrouped, TypeIsGrouped, GroupsAreGrouped, FormalsAreGrouped}
use Rattle.mos_typing.specs.Laws.{TypeIsSmall, FormalsAreSmall}

-- words behind others, the first of them named
appended : (xs : List Word) (y : Word) (ys : List Word) → length (xs ++ y ∷ ys) ≡ length xs + (length ys + 1)
appended xs y ys = length-append xs (y ∷ ys) ∙ omega arith

-- the first of several sizes, and the others
sum_more : {A : Type 0} (f : A → ℕ) (x : A) (xs : List A) → sum (map f (x ∷ xs)) ≡ f x + sum (map f xs)
sum_more f x xs = sum-map f (x ∷ xs) ∙ sum_by-cons f x xs ∙ ap (λ z. f x + z) (sym (sum-map f xs))

abbrev size_of_dimensions : List Dimension → ℕ
size_of_dimensions ds = sum (map size_of_dimension ds)

module _ (small : ExpressionIsSmall) where
  dim_small : (x : Dim) → DimIsGrouped x → size_of_dimension (dimension_of x) ≤ length (dim_words x)
  dim_small any_range g = omega arith
  dim_small (any_set b) g = omega arith
  dim_small (within s) g = small (spell s) (tree s) (height s) (record { written = s; grouped = g; exact = refl; is = refl; high_is = refl })

  dims_small : (xs : Dims) → DimsAreGrouped xs → size_of_dimensions (dimensions_of xs) ≤ length (dims_words xs)
  dims_small (last_dim d) g =
      let h : size_of_dimension (dimension_of d) ≤ length (dim_words d) = dim_small d g in
      let e : size_of_dimensions (dimension_of d ∷ []) ≡ size_of_dimension (dimension_of d) + 0 = sum_more size_of_dimension (dimension_of d) [] in
      omega (arith, h, e)
  dims_small (and_dim d ds) g =
      let h : size_of_dimension (dimension_of d) ≤ length (dim_words d) = dim_small d g.0 in
      let k : size_of_dimensions (dimensions_of ds) ≤ length (dims_words ds) = dims_small ds g.1 in
      let e : size_of_dimensions (dimension_of d ∷ dimensions_of ds) ≡ size_of_dimension (dimension_of d) + size_of_dimensions (dimensions_of ds) = sum_more size_of_dimension (dimension_of d) (dimensions_of ds) in
      let l : length (dim_words d ++ word_kind.Key token_kind.Comma ∷ dims_words ds) ≡ length (dim_words d) + (length (dims_words ds) + 1) = appended (dim_words d) (word_kind.Key token_kind.Comma) (dims_words ds) in
      omega (arith, h, k, e, l)

  type_small : (x : Typing) → TypeIsGrouped x → size_of_type (type_of x) ≤ length (typing_words x)
  type_small (of_base b) g = omega arith
  type_small a_range g = omega arith
  type_small (a_set b) g = omega arith
  type_small (a_list b) g = omega arith
  type_small (an_array dynamic ds b) g =
      let h : size_of_dimensions (dimensions_of ds) ≤ length (dims_words ds) = dims_small ds g in
      let i : length (dims_words ds ++ word_kind.Key token_kind.CloseRound ∷ []) ≡ length (dims_words ds) + 1 = appended (dims_words ds) (word_kind.Key token_kind.CloseRound) ([]) in
      let j : length (in_brackets (dims_words ds) ++ word_kind.Key token_kind.Of ∷ base_words b) ≡ length (in_brackets (dims_words ds)) + (length (base_words b) + 1) = appended (in_brackets (dims_words ds)) (word_kind.Key token_kind.Of) (base_words b) in
      let m : length (in_brackets (dims_words ds)) ≡ length (dims_words ds ++ word_kind.Key token_kind.CloseRound ∷ []) + 1 = omega arith in
      let k : length (dynamic_words dynamic ++ word_kind.Key token_kind.Array ∷ (in_brackets (dims_words ds) ++ word_kind.Key token_kind.Of ∷ base_words b)) ≡ length (dynamic_words dynamic) + (length (in_brackets (dims_words ds) ++ word_kind.Key token_kind.Of ∷ base_words b) + 1) = appended (dynamic_words dynamic) (word_kind.Key token_kind.Array) ((in_brackets (dims_words ds) ++ word_kind.Key token_kind.Of ∷ base_words b)) in
      omega (arith, h, i, j, k, m)

  groups_small : (xs : Groups) → GroupsAreGrouped xs → size_of_formals (groups_of xs) ≤ length (group_words xs)
  groups_small (last_group ns x) g =
      let h : size_of_type (type_of x) ≤ length (typing_words x) = type_small x g in
      let e : size_of_formals (groups_of (last_group ns x)) ≡ size_of_type (type_of x) + 0 = sum_more size_of_formal (record { names = list_of_names ns; typ = type_of x }) [] in
      let l : length (spell_names ns ++ word_kind.Key token_kind.Colon ∷ typing_words x) ≡ length (spell_names ns) + (length (typing_words x) + 1) = appended (spell_names ns) (word_kind.Key token_kind.Colon) (typing_words x) in
      omega (arith, h, e, l)
  groups_small (and_group ns x rest) g =
      let h : size_of_type (type_of x) ≤ length (typing_words x) = type_small x g.0 in
      let k : size_of_formals (groups_of rest) ≤ length (group_words rest) = groups_small rest g.1 in
      let e : size_of_formals (groups_of (and_group ns x rest)) ≡ size_of_type (type_of x) + size_of_formals (groups_of rest) = sum_more size_of_formal (record { names = list_of_names ns; typ = type_of x }) (groups_of rest) in
      let i : length (typing_words x ++ word_kind.Key token_kind.Comma ∷ group_words rest) ≡ length (typing_words x) + (length (group_words rest) + 1) = appended (typing_words x) (word_kind.Key token_kind.Comma) (group_words rest) in
      let l : length (spell_names ns ++ word_kind.Key token_kind.Colon ∷ (typing_words x ++ word_kind.Key token_kind.Comma ∷ group_words rest)) ≡ length (spell_names ns) + (length (typing_words x ++ word_kind.Key token_kind.Comma ∷ group_words rest) + 1) = appended (spell_names ns) (word_kind.Key token_kind.Colon) ((typing_words x ++ word_kind.Key token_kind.Comma ∷ group_words rest)) in
      omega (arith, h, k, e, i, l)

  formals_small : (xs : Formals) → FormalsAreGrouped xs → size_of_formals (formals_of xs) ≤ length (formal_words xs)
  formals_small no_brackets g = omega arith
  formals_small empty_brackets g = omega arith
  formals_small (formals xs) g =
      let h : size_of_formals (groups_of xs) ≤ length (group_words xs) = groups_small xs g in
      let l : length (group_words xs ++ word_kind.Key token_kind.CloseRound ∷ []) ≡ length (group_words xs) + 1 = appended (group_words xs) (word_kind.Key token_kind.CloseRound) ([]) in
      omega (arith, h, l)

  pub type_is_small : TypeIsSmall
  type_is_small words made high k =
      let h : size_of_type (type_of k.written) ≤ length (typing_words k.written) = type_small k.written k.grouped in
      let e : size_of_type made ≡ size_of_type (type_of k.written) = ap size_of_type k.is in
      let l : length words ≡ length (typing_words k.written) = ap length k.exact in
      omega (arith, h, e, l)

  pub formals_are_small : FormalsAreSmall
  formals_are_small words made high k =
      let h : size_of_formals (formals_of k.written) ≤ length (formal_words k.written) = formals_small k.written k.grouped in
      let e : size_of_formals made ≡ size_of_formals (formals_of k.written) = ap size_of_formals k.is in
      let l : length words ≡ length (formal_words k.written) = ap length k.exact in
      omega (arith, h, e, l)
