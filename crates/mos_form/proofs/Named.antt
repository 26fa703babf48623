-- Pieces that begin with a name and a word, from what stands behind these.

use Rattle.std.proofs.Common.{◌≡◌, ℕ, true, false, List, [], ◌∷◌, ◌++◌, Some, None, Result, IfOk, refl, sym, ◌∙◌, ap, subst}
use Rattle.std.specs.List.{list_all}
use Rattle.std.proofs.lemmas.List.{append_cancel_right}
use Rattle.mos_tree.specs.declared.statement.Assignment.{Assignment}
use Rattle.mos_tree.specs.declared.statement.Assignment.TheVariants as assignment
use Rattle.mos_tree.specs.declared.statement.Reference.TheVariants as reference
use Rattle.mos_scan.specs.declared.token.TokenKind.TheVariants as token_kind
use Rattle.mos_scan.specs.declared.grammar_word.Word.{Word}
use Rattle.mos_scan.specs.declared.grammar_word.Word.TheVariants as word_kind
use Rattle.mos_expr.specs.Grammar.{one_name, and_name, Syntax, SyntaxList, IsGrouped, AreGrouped, spell, spell_list, height, heights, tree, trees}
use Rattle.mos_typing.specs.Typing.{key}
use Rattle.mos_typing.specs.PhraseWords.{is_plain, SyntaxIsPlain}
use Rattle.mos_tree.specs.declared.form.Form.{Form}
use Rattle.mos_tree.specs.declared.form.Form.TheVariants as form_kind
use Rattle.mos_form.specs.declared.head.Next.TheVariants as next
use Rattle.mos_form.specs.Heads.{next_of}
use Rattle.mos_form.specs.Cuts.{operator_of, is_record}
use Rattle.mos_form.specs.Phrases.{to_name, to_cell, to_field, last_label, and_label, Phrase, definition, typed, record_of, assign, fill, bare, alternative, labels, operator_word, words_of, IsWell, IsPhrase, answer}
use Rattle.mos_form.specs.Telling.{by_height, IsAlternative, IsOther, TellsPiece, TellsOne, TellsAll, assign_form, fill_form, Writes}
use Rattle.mos_form.proofs.Telling.{embed_ok, tell_as}
use Rattle.mos_form.proofs.Opening.{next_is, name_next, operator_next}
use Rattle.mos_form.proofs.Parting.{operator_none, zero_max}
use Rattle.mos_form.proofs.Keyed.{tail_same, no_piece}

-- what the word behind the name says of the piece
pub says : (n : List ℕ) (y : Word) (rest : List Word) (p : Phrase) → IsOther (word_kind.Name n ∷ y ∷ rest) p → next_is p ≡ Some (next_of y)
says n y rest p m = name_next n y rest p m.1 m.0.exact

pub behind_same : (a b c d : Word) (xs ys : List Word) → a ∷ b ∷ xs ≡ c ∷ d ∷ ys → xs ≡ ys
behind_same a b c d xs ys e = cc

pub first_same : (n m : List ℕ) (xs ys : List Word) → word_kind.Name n ∷ xs ≡ word_kind.Name m ∷ ys → m ≡ n
first_same n m xs ys e = cc

-- ---- a name alone

bare_answer : (n : List ℕ) (p : Phrase) → (IsAlternative p → ⊥) → IsWell p → word_kind.Name n ∷ [] ≡ words_of p → answer p ≡ form_kind.Bare n
bare_answer n (bare m) a k e = ap form_kind.Bare (first_same n m [] [] e)
bare_answer n (assign (to_name m) op s) a k e = absurd cc
bare_answer n (assign (to_cell m xs) op s) a k e = absurd cc
bare_answer n (typed (one_name m) x) a k e = absurd cc
bare_answer n (typed (and_name m ms) x) a k e = absurd cc
bare_answer n (labels (last_label m None)) a k e = absurd k
bare_answer n (labels (last_label m (Some x))) a k e = absurd cc
bare_answer n (labels (and_label m None xs)) a k e = absurd cc
bare_answer n (labels (and_label m (Some x) xs)) a k e = absurd cc
bare_answer n (alternative xs) a k e = absurd (a tt)
bare_answer n _ a k e = absurd cc

pub bare_piece : (words rest : List Word) (n m : List ℕ) → words ≡ word_kind.Name n ∷ rest → rest ≡ [] → m ≡ n → TellsPiece words (form_kind.Bare m)
bare_piece words rest n m e r q =
    let whole : words ≡ word_kind.Name n ∷ [] = e ∙ ap (λ z. word_kind.Name n ∷ z) r in
    subst (λ z. TellsPiece z (form_kind.Bare m)) (sym whole) (subst (λ z. TellsPiece (word_kind.Name n ∷ []) (form_kind.Bare z)) (sym q)
    (tell_as (IsOther (word_kind.Name n ∷ [])) answer (form_kind.Bare n) (bare n) (record { well = tt; exact = refl }, λ z. z) refl (λ p k. bare_answer n p k.1 k.0.well k.0.exact)))

-- ---- `=`

pub record_words : (behind : List Word) → is_record behind ≡ true → behind ≡ word_kind.Key token_kind.Record ∷ []
record_words (word_kind.Key token_kind.Record ∷ []) e = refl
record_words _ e = absurd cc

record_answer : SyntaxIsPlain → (n : List ℕ) (p : Phrase) → word_kind.Name n ∷ word_kind.Key token_kind.Equal ∷ word_kind.Key token_kind.Record ∷ [] ≡ words_of p → next_is p ≡ Some next.Equal → answer p ≡ form_kind.RecordOf n
record_answer plain n (record_of m) e k = ap form_kind.RecordOf (first_same n m (word_kind.Key token_kind.Equal ∷ word_kind.Key token_kind.Record ∷ []) (word_kind.Key token_kind.Equal ∷ word_kind.Key token_kind.Record ∷ []) e)
record_answer plain n (definition m s) e k =
    let q : word_kind.Key token_kind.Record ∷ [] ≡ spell s = behind_same (word_kind.Name n) (word_kind.Key token_kind.Equal) (word_kind.Name m) (word_kind.Key token_kind.Equal) (word_kind.Key token_kind.Record ∷ []) (spell s) e in
    let r : false ≡ true = ap (list_all is_plain) q ∙ plain s in absurd cc
record_answer plain n (assign (to_name m) op s) e k = absurd cc
record_answer plain n _ e k = absurd cc

pub record_piece : SyntaxIsPlain → (n m : List ℕ) (behind : List Word) → is_record behind ≡ true → m ≡ n → TellsPiece (word_kind.Name n ∷ word_kind.Key token_kind.Equal ∷ behind) (form_kind.RecordOf m)
record_piece plain n m behind is q =
    subst (λ z. TellsPiece (word_kind.Name n ∷ word_kind.Key token_kind.Equal ∷ z) (form_kind.RecordOf m)) (sym (record_words behind is)) (subst (λ z. TellsPiece (word_kind.Name n ∷ word_kind.Key token_kind.Equal ∷ word_kind.Key token_kind.Record ∷ []) (form_kind.RecordOf z)) (sym q)
    (tell_as (IsOther (word_kind.Name n ∷ word_kind.Key token_kind.Equal ∷ word_kind.Key token_kind.Record ∷ [])) answer (form_kind.RecordOf n) (record_of n) (record { well = tt; exact = refl }, λ z. z) refl
    (λ p k. record_answer plain n p k.0.exact (says n (word_kind.Key token_kind.Equal) (word_kind.Key token_kind.Record ∷ []) p k))))

value_back : (n : List ℕ) (behind : List Word) (p : Phrase) → is_record behind ≡ false → IsPhrase (word_kind.Name n ∷ word_kind.Key token_kind.Equal ∷ behind) p → next_is p ≡ Some next.Equal → (s : Syntax) × Writes IsGrouped spell behind s × (p ≡ definition n s)
value_back n behind (definition m s) is k e =
    let q = k.exact in (
      s,
      record { grouped = k.well; exact = behind_same (word_kind.Name n) (word_kind.Key token_kind.Equal) (word_kind.Name m) (word_kind.Key token_kind.Equal) behind (spell s) k.exact },
      ap (λ z. definition z s) (first_same n m (word_kind.Key token_kind.Equal ∷ behind) (word_kind.Key token_kind.Equal ∷ spell s) k.exact),
    )
value_back n behind (record_of m) is k e =
    let q = behind_same (word_kind.Name n) (word_kind.Key token_kind.Equal) (word_kind.Name m) (word_kind.Key token_kind.Equal) behind (word_kind.Key token_kind.Record ∷ []) k.exact in
    let r : false ≡ true = sym is ∙ ap is_record q in absurd cc
value_back n behind (assign (to_name m) op s) is k e = absurd cc
value_back n behind _ is k e = absurd cc

pub value_piece : {E : Type 0} (n : List ℕ) (behind : List Word) → is_record behind ≡ false → (r : Result Form E)
    → IfOk r (TellsOne (λ x. form_kind.Definition n x) behind) → IfOk r (TellsPiece (word_kind.Name n ∷ word_kind.Key token_kind.Equal ∷ behind))
value_piece n behind is r k =
    embed_ok (Writes IsGrouped spell behind) (λ s. by_height (height s) (form_kind.Definition n (tree s))) (IsOther (word_kind.Name n ∷ word_kind.Key token_kind.Equal ∷ behind)) answer (definition n)
    (λ s m. (record { well = m.grouped; exact = ap (λ z. word_kind.Name n ∷ word_kind.Key token_kind.Equal ∷ z) m.exact }, λ z. z))
    (λ p m. value_back n behind p is m.0 (says n (word_kind.Key token_kind.Equal) behind p m))
    (λ s. refl) r k

-- ---- `::`

abbrev in_squares : List Word → List Word
in_squares inside = word_kind.Key token_kind.OpenSquare ∷ (inside ++ key token_kind.CloseSquare)

squares_same : (a b : List Word) → in_squares a ≡ in_squares b → a ≡ b
squares_same a b e = append_cancel_right a b (key token_kind.CloseSquare) cc

fill_back : (n : List ℕ) (behind : List Word) (p : Phrase) → IsPhrase (word_kind.Name n ∷ word_kind.Key token_kind.Fill ∷ behind) p → next_is p ≡ Some next.Fill → (xs : SyntaxList) × AreGrouped xs × (behind ≡ in_squares (spell_list xs)) × (p ≡ fill n xs)
fill_back n behind (fill m xs) k e = (
  xs,
  k.well,
  behind_same (word_kind.Name n) (word_kind.Key token_kind.Fill) (word_kind.Name m) (word_kind.Key token_kind.Fill) behind (in_squares (spell_list xs)) k.exact,
  ap (λ z. fill z xs) (first_same n m (word_kind.Key token_kind.Fill ∷ behind) (word_kind.Key token_kind.Fill ∷ in_squares (spell_list xs)) k.exact),
)
fill_back n behind (assign (to_name m) op s) k e = absurd cc
fill_back n behind _ k e = absurd cc

pub fill_piece : {E : Type 0} (n : List ℕ) (behind inside : List Word) → behind ≡ in_squares inside → (r : Result Form E)
    → IfOk r (TellsAll (fill_form n) inside) → IfOk r (TellsPiece (word_kind.Name n ∷ word_kind.Key token_kind.Fill ∷ behind))
fill_piece n behind inside e r k =
    embed_ok (Writes AreGrouped spell_list inside) (λ xs. by_height (heights xs) (fill_form n (trees xs))) (IsOther (word_kind.Name n ∷ word_kind.Key token_kind.Fill ∷ behind)) answer (fill n)
    (λ xs m. (record { well = m.grouped; exact = ap (λ z. word_kind.Name n ∷ word_kind.Key token_kind.Fill ∷ z) (e ∙ ap in_squares m.exact) }, λ z. z))
    (λ p m. let q = fill_back n behind p m.0 (says n (word_kind.Key token_kind.Fill) behind p m) in
    (q.0, record { grouped = q.1; exact = squares_same inside (spell_list q.0) (sym e ∙ q.2) }, q.3))
    (λ xs. refl) r k

pub no_fill : (n : List ℕ) (behind : List Word) → ((inside : List Word) → behind ≡ in_squares inside → ⊥) → TellsPiece (word_kind.Name n ∷ word_kind.Key token_kind.Fill ∷ behind) form_kind.Unknown
no_fill n behind none = no_piece (word_kind.Name n ∷ word_kind.Key token_kind.Fill ∷ behind)
    (λ p m. let q = fill_back n behind p m.0 (says n (word_kind.Key token_kind.Fill) behind p m) in none (spell_list q.0) q.2)

-- ---- a variable that is assigned to

variable_back : (n : List ℕ) (op : Assignment) (behind : List Word) (p : Phrase) → IsPhrase (word_kind.Name n ∷ operator_word op ∷ behind) p → next_is p ≡ Some (next.Assigns op)
    → (s : Syntax) × Writes IsGrouped spell behind s × (p ≡ assign (to_name n) op s)
variable_back n op behind (assign (to_name m) q s) k e =
    let same : q ≡ op = cc in (
      s,
      record { grouped = k.well.1; exact = behind_same (word_kind.Name n) (operator_word op) (word_kind.Name m) (operator_word q) behind (spell s) k.exact },
      ap (λ z. assign (to_name m) z s) same ∙ ap (λ z. assign (to_name z) op s) (first_same n m (operator_word op ∷ behind) (operator_word q ∷ spell s) k.exact),
    )
variable_back n op behind _ k e = absurd cc

variable_answer : (n : List ℕ) (op : Assignment) (s : Syntax) → answer (assign (to_name n) op s) ≡ by_height (height s) (assign_form (reference.Name n) op (tree s))
variable_answer n op s = ap (λ h. by_height h (assign_form (reference.Name n) op (tree s))) (zero_max (height s))

pub variable_piece : {E : Type 0} (n m : List ℕ) (op : Assignment) (behind : List Word) → m ≡ n → (r : Result Form E)
    → IfOk r (TellsOne (assign_form (reference.Name m) op) behind) → IfOk r (TellsPiece (word_kind.Name n ∷ operator_word op ∷ behind))
variable_piece n m op behind q r k =
    embed_ok (Writes IsGrouped spell behind) (λ s. by_height (height s) (assign_form (reference.Name n) op (tree s))) (IsOther (word_kind.Name n ∷ operator_word op ∷ behind)) answer (assign (to_name n) op)
    (λ s m. (record { well = (tt, m.grouped); exact = ap (λ z. word_kind.Name n ∷ operator_word op ∷ z) m.exact }, λ z. z))
    (λ p m. variable_back n op behind p m.0 (says n (operator_word op) behind p m ∙ ap (λ z. Some z) (operator_next op)))
    (variable_answer n op) r (subst (λ z. IfOk r (TellsOne (assign_form (reference.Name z) op) behind)) q k)

-- ---- a field that is assigned to

abbrev field_words : List ℕ → Assignment → List Word → List Word
field_words g op value = word_kind.Name g ∷ operator_word op ∷ value

dot_back : (n : List ℕ) (behind : List Word) (p : Phrase) → IsPhrase (word_kind.Name n ∷ word_kind.Key token_kind.Dot ∷ behind) p → next_is p ≡ Some next.Dot
    → (g : List ℕ) × (op : Assignment) × (s : Syntax) × IsGrouped s × (behind ≡ field_words g op (spell s)) × (p ≡ assign (to_field n g) op s)
dot_back n behind (assign (to_field m g) op s) k e = (
  g,
  op,
  s,
  k.well.1,
  behind_same (word_kind.Name n) (word_kind.Key token_kind.Dot) (word_kind.Name m) (word_kind.Key token_kind.Dot) behind (field_words g op (spell s)) k.exact,
  ap (λ z. assign (to_field z g) op s) (first_same n m (word_kind.Key token_kind.Dot ∷ behind) (word_kind.Key token_kind.Dot ∷ field_words g op (spell s)) k.exact),
)
dot_back n behind _ k e = absurd cc

field_answer : (n g : List ℕ) (op : Assignment) (s : Syntax) → answer (assign (to_field n g) op s) ≡ by_height (height s) (assign_form (reference.Field n g) op (tree s))
field_answer n g op s = ap (λ h. by_height h (assign_form (reference.Field n g) op (tree s))) (zero_max (height s))

dot_of : (n : List ℕ) (behind : List Word) (p : Phrase) → IsOther (word_kind.Name n ∷ word_kind.Key token_kind.Dot ∷ behind) p
    → (g : List ℕ) × (op : Assignment) × (s : Syntax) × IsGrouped s × (behind ≡ field_words g op (spell s)) × (p ≡ assign (to_field n g) op s)
dot_of n behind p m = dot_back n behind p m.0 (says n (word_kind.Key token_kind.Dot) behind p m)

pub operator_one : (a b : Assignment) → operator_word a ≡ operator_word b → a ≡ b
operator_one assignment.Set assignment.Set e = refl
operator_one assignment.Add assignment.Add e = refl
operator_one assignment.Take assignment.Take e = refl
operator_one assignment.Set _ e = absurd cc
operator_one assignment.Add _ e = absurd cc
operator_one assignment.Take _ e = absurd cc

pub field_piece : {E : Type 0} (n m g h : List ℕ) (op : Assignment) (value : List Word) → m ≡ n → h ≡ g → (r : Result Form E)
    → IfOk r (TellsOne (assign_form (reference.Field m h) op) value) → IfOk r (TellsPiece (word_kind.Name n ∷ word_kind.Key token_kind.Dot ∷ field_words g op value))
field_piece n m g h op value q i r k =
    embed_ok (Writes IsGrouped spell value) (λ s. by_height (height s) (assign_form (reference.Field n g) op (tree s))) (IsOther (word_kind.Name n ∷ word_kind.Key token_kind.Dot ∷ field_words g op value)) answer (assign (to_field n g) op)
    (λ s m. (record { well = (tt, m.grouped); exact = ap (λ z. word_kind.Name n ∷ word_kind.Key token_kind.Dot ∷ field_words g op z) m.exact }, λ z. z))
    (λ p m. let d = dot_of n (field_words g op value) p m in
    let both : field_words g op value ≡ field_words d.0 d.1 (spell d.2) = d.4 in
    let first : d.0 ≡ g = cc in
    let second : operator_word d.1 ≡ operator_word op = cc in (
      d.2,
      record { grouped = d.3; exact = behind_same (word_kind.Name g) (operator_word op) (word_kind.Name d.0) (operator_word d.1) value (spell d.2) both },
      d.5 ∙ ap (λ z. assign (to_field n z) d.1 d.2) first ∙ ap (λ z. assign (to_field n g) z d.2) (operator_one d.1 op second),
    ))
    (field_answer n g op) r
    (subst (λ z. IfOk r (TellsOne (assign_form (reference.Field n z) op) value)) i (subst (λ z. IfOk r (TellsOne (assign_form (reference.Field z h) op) value)) q k))

pub no_field : (n : List ℕ) (behind : List Word) → ((g : List ℕ) (rest : List Word) → behind ≡ word_kind.Name g ∷ rest → ⊥) → TellsPiece (word_kind.Name n ∷ word_kind.Key token_kind.Dot ∷ behind) form_kind.Unknown
no_field n behind none = no_piece (word_kind.Name n ∷ word_kind.Key token_kind.Dot ∷ behind) (λ p m. let d = dot_of n behind p m in none d.0 (operator_word d.1 ∷ spell d.2) d.4)

pub field_alone : (n g : List ℕ) (rest : List Word) → rest ≡ [] → TellsPiece (word_kind.Name n ∷ word_kind.Key token_kind.Dot ∷ word_kind.Name g ∷ rest) form_kind.Unknown
field_alone n g rest e = no_piece (word_kind.Name n ∷ word_kind.Key token_kind.Dot ∷ word_kind.Name g ∷ rest)
    (λ p m. let d = dot_of n (word_kind.Name g ∷ rest) p m in
    let r : [] ≡ operator_word d.1 ∷ spell d.2 = sym e ∙ tail_same (word_kind.Name g) (word_kind.Name d.0) rest (operator_word d.1 ∷ spell d.2) d.4 in cc)

pub field_only : (n g : List ℕ) (rest value : List Word) (y : Word) → rest ≡ y ∷ value → None ≡ operator_of y → TellsPiece (word_kind.Name n ∷ word_kind.Key token_kind.Dot ∷ word_kind.Name g ∷ rest) form_kind.Unknown
field_only n g rest value y e none = no_piece (word_kind.Name n ∷ word_kind.Key token_kind.Dot ∷ word_kind.Name g ∷ rest)
    (λ p m. let d = dot_of n (word_kind.Name g ∷ rest) p m in
    let r : y ∷ value ≡ operator_word d.1 ∷ spell d.2 = sym e ∙ tail_same (word_kind.Name g) (word_kind.Name d.0) rest (operator_word d.1 ∷ spell d.2) d.4 in
    operator_none y none d.1 cc)
