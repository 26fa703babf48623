-- Pieces that begin with a token, from what stands behind it.

use Rattle.std.proofs.Common.{◌≡◌, List, [], ◌∷◌, Some, None, Result, IfOk, refl, sym, ◌∙◌, ap, subst}
use Rattle.std.proofs.lemmas.List.{append_cancel_right}
use Rattle.mos_tree.specs.declared.statement.Assignment.{Assignment}
use Rattle.mos_tree.specs.declared.statement.Direction.{Direction}
use Rattle.mos_tree.specs.declared.statement.Direction.TheVariants as direction
use Rattle.mos_tree.specs.declared.statement.Reference.TheVariants as reference
use Rattle.mos_scan.specs.declared.token.TokenKind.TheVariants as token_kind
use Rattle.mos_scan.specs.declared.grammar_word.Word.{Word}
use Rattle.mos_scan.specs.declared.grammar_word.Word.TheVariants as word_kind
use Rattle.mos_expr.specs.Grammar.{Syntax, IndexSyntax, IsGrouped, spell, spell_index, height, height_index, tree, index_of, IsGroupedIndex}
use Rattle.mos_typing.specs.Typing.{key, in_brackets}
use Rattle.mos_tree.specs.declared.form.Form.{Form}
use Rattle.mos_tree.specs.declared.form.Form.TheVariants as form_kind
use Rattle.mos_tree.specs.declared.form.ConditionKeyword.{ConditionKeyword}
use Rattle.mos_tree.specs.declared.form.ConditionKeyword.TheVariants as condition
use Rattle.mos_form.specs.declared.head.Head.TheVariants as head_kind
use Rattle.mos_form.specs.Heads.{head_of}
use Rattle.mos_form.specs.Cuts.{direction_of, operator_of}
use Rattle.mos_form.specs.Phrases.{to_result, Phrase, assign, guarded, forall_in, initializations, direction_word, operator_word, condition_word, around, IsPhrase, answer}
use Rattle.mos_form.specs.Telling.{tells_none, by_height, IsOther, TellsOne, TellsIndex, TellsPiece, assign_form, Writes}
use Rattle.mos_form.proofs.Telling.{embed_ok}
use Rattle.mos_form.proofs.Opening.{head_is, key_head}
use Rattle.mos_form.proofs.Parting.{operator_known, operator_same, operator_none, zero_max}

pub tail_same : (a b : Word) (xs ys : List Word) → a ∷ xs ≡ b ∷ ys → xs ≡ ys
tail_same a b xs ys e = cc

pub brackets_same : (a b : List Word) → in_brackets a ≡ in_brackets b → a ≡ b
brackets_same a b e = append_cancel_right a b (key token_kind.CloseRound) cc

-- words that are none
pub no_piece : (words : List Word) → ((p : Phrase) → IsOther words p → ⊥) → TellsPiece words form_kind.Unknown
no_piece words none = tells_none none

-- ---- a keyword and its condition

guard_head : (g : ConditionKeyword) → Some (head_of (condition_word g)) ≡ Some (head_kind.Guarded g)
guard_head condition.If = refl
guard_head _ = refl

around_same : (g : ConditionKeyword) (a b : List Word) → around g a ≡ around g b → a ≡ b
around_same condition.Case a b e = append_cancel_right a b (key token_kind.Of) e
around_same condition.While a b e = brackets_same a b e
around_same condition.Until a b e = e
around_same _ a b e = append_cancel_right a b (key token_kind.Then) e

guard_back : (g : ConditionKeyword) (p : Phrase) → head_is p ≡ Some (head_kind.Guarded g) → (s : Syntax) × (p ≡ guarded g s)
guard_back g (guarded k s) e = let q : k ≡ g = cc in (s, ap (λ z. guarded z s) q)
guard_back g (assign to_result op s) e = absurd cc
guard_back g _ e = absurd cc

-- a piece with this guard has a condition
guard_spelled : (g : ConditionKeyword) (rest : List Word) (p : Phrase) → IsOther (word_kind.Key (condition_word g) ∷ rest) p → (s : Syntax) × IsGrouped s × (rest ≡ around g (spell s)) × (p ≡ guarded g s)
guard_spelled g rest p k =
    let q = guard_back g p (key_head (condition_word g) rest p k.1 k.0.exact ∙ guard_head g) in
    let m = subst (IsPhrase (word_kind.Key (condition_word g) ∷ rest)) q.1 k.0 in
    (q.0, m.well, tail_same (word_kind.Key (condition_word g)) (word_kind.Key (condition_word g)) rest (around g (spell q.0)) m.exact, q.1)

pub condition_piece : {E : Type 0} (g : ConditionKeyword) (rest inside : List Word) → rest ≡ around g inside → (r : Result Form E) → IfOk r (TellsOne (λ x. form_kind.Guarded g x) inside) → IfOk r (TellsPiece (word_kind.Key (condition_word g) ∷ rest))
condition_piece g rest inside e r k =
    embed_ok (Writes IsGrouped spell inside) (λ s. by_height (height s) (form_kind.Guarded g (tree s))) (IsOther (word_kind.Key (condition_word g) ∷ rest)) answer (guarded g)
    (λ s m. (record { well = m.grouped; exact = ap (λ z. word_kind.Key (condition_word g) ∷ z) (e ∙ ap (around g) m.exact) }, λ z. z))
    (λ p m. let q = guard_spelled g rest p m in (q.0, record { grouped = q.1; exact = around_same g inside (spell q.0) (sym e ∙ q.2) }, q.3))
    (λ s. refl) r k

pub no_condition : (g : ConditionKeyword) (rest : List Word) → ((inside : List Word) → rest ≡ around g inside → ⊥) → TellsPiece (word_kind.Key (condition_word g) ∷ rest) form_kind.Unknown
no_condition g rest none = no_piece (word_kind.Key (condition_word g) ∷ rest) (λ p m. let q = guard_spelled g rest p m in none (spell q.0) q.2)

-- ---- `forall`

forall_back : (rest : List Word) (p : Phrase) → IsPhrase (word_kind.Key token_kind.Forall ∷ rest) p → head_is p ≡ Some head_kind.Forall → (i : IndexSyntax) × Writes IsGroupedIndex spell_index (spell_index i) i × (rest ≡ in_brackets (spell_index i)) × (p ≡ forall_in i)
forall_back rest (forall_in i) k e = (i, record { grouped = k.well; exact = refl }, tail_same (word_kind.Key token_kind.Forall) (word_kind.Key token_kind.Forall) rest (in_brackets (spell_index i)) k.exact, refl)
forall_back rest (assign to_result op s) k e = absurd cc
forall_back rest _ k e = absurd cc

pub forall_piece : {E : Type 0} (rest inside : List Word) → rest ≡ in_brackets inside → (r : Result Form E) → IfOk r (TellsIndex (λ x. form_kind.Forall x) inside) → IfOk r (TellsPiece (word_kind.Key token_kind.Forall ∷ rest))
forall_piece rest inside e r k =
    embed_ok (Writes IsGroupedIndex spell_index inside) (λ i. by_height (height_index i) (form_kind.Forall (index_of i))) (IsOther (word_kind.Key token_kind.Forall ∷ rest)) answer forall_in
    (λ i m. (record { well = m.grouped; exact = ap (λ z. word_kind.Key token_kind.Forall ∷ z) (e ∙ ap in_brackets m.exact) }, λ z. z))
    (λ p m. let q = forall_back rest p m.0 (key_head token_kind.Forall rest p m.1 m.0.exact) in
    (q.0, record { grouped = q.1.grouped; exact = brackets_same inside (spell_index q.0) (sym e ∙ q.2) }, q.3))
    (λ i. refl) r k

pub no_forall : (rest : List Word) → ((inside : List Word) → rest ≡ in_brackets inside → ⊥) → TellsPiece (word_kind.Key token_kind.Forall ∷ rest) form_kind.Unknown
no_forall rest none = no_piece (word_kind.Key token_kind.Forall ∷ rest)
    (λ p m. let q = forall_back rest p m.0 (key_head token_kind.Forall rest p m.1 m.0.exact) in none (spell_index q.0) q.2)

-- ---- `initializations`

data_back : (rest : List Word) (p : Phrase) → IsPhrase (word_kind.Key token_kind.Initializations ∷ rest) p → head_is p ≡ Some head_kind.Initializations
    → (d : Direction) × (s : Syntax) × IsGrouped s × (rest ≡ direction_word d ∷ spell s) × (p ≡ initializations d s)
data_back rest (initializations d s) k e = (d, s, k.well, tail_same (word_kind.Key token_kind.Initializations) (word_kind.Key token_kind.Initializations) rest (direction_word d ∷ spell s) k.exact, refl)
data_back rest (assign to_result op s) k e = absurd cc
data_back rest _ k e = absurd cc

direction_known : (x : Word) (d : Direction) → Some d ≡ direction_of x → x ≡ direction_word d
direction_known (word_kind.Key token_kind.From) d e = let q : d ≡ direction.From = cc in rw q refl
direction_known (word_kind.Key token_kind.To) d e = let q : d ≡ direction.To = cc in rw q refl
direction_known _ d e = absurd cc

pub direction_read : (d : Direction) → direction_of (direction_word d) ≡ Some d
direction_read direction.From = refl
direction_read direction.To = refl

direction_same : (x : Word) (a b : Direction) → Some a ≡ direction_of x → x ≡ direction_word b → b ≡ a
direction_same x a b e q = let r : Some a ≡ Some b = e ∙ ap direction_of q ∙ direction_read b in cc

pub data_piece : {E : Type 0} (d : Direction) (x : Word) (rest name : List Word) → Some d ≡ direction_of x → rest ≡ x ∷ name → (r : Result Form E)
    → IfOk r (TellsOne (λ x. form_kind.Initializations d x) name) → IfOk r (TellsPiece (word_kind.Key token_kind.Initializations ∷ rest))
data_piece d x rest name is e r k =
    embed_ok (Writes IsGrouped spell name) (λ s. by_height (height s) (form_kind.Initializations d (tree s))) (IsOther (word_kind.Key token_kind.Initializations ∷ rest)) answer (initializations d)
    (λ s m. (record { well = m.grouped; exact = ap (λ z. word_kind.Key token_kind.Initializations ∷ z) (e ∙ ap (λ z. z ∷ name) (direction_known x d is) ∙ ap (λ z. direction_word d ∷ z) m.exact) }, λ z. z))
    (λ p m. let q = data_back rest p m.0 (key_head token_kind.Initializations rest p m.1 m.0.exact) in
    let both : x ∷ name ≡ direction_word q.0 ∷ spell q.1 = sym e ∙ q.3 in
    (q.1, record { grouped = q.2; exact = tail_same x (direction_word q.0) name (spell q.1) both }, q.4 ∙ ap (λ z. initializations z q.1) (direction_same x d q.0 is cc)))
    (λ s. refl) r k

pub no_data : (x : Word) (rest name : List Word) → None ≡ direction_of x → rest ≡ x ∷ name → TellsPiece (word_kind.Key token_kind.Initializations ∷ rest) form_kind.Unknown
no_data x rest name is e = no_piece (word_kind.Key token_kind.Initializations ∷ rest)
    (λ p m. let q = data_back rest p m.0 (key_head token_kind.Initializations rest p m.1 m.0.exact) in
    let both : x ∷ name ≡ direction_word q.0 ∷ spell q.1 = sym e ∙ q.3 in
    let same : x ≡ direction_word q.0 = cc in
    let r : None ≡ Some q.0 = is ∙ ap direction_of same ∙ direction_read q.0 in cc)

pub empty_data : (rest : List Word) → rest ≡ [] → TellsPiece (word_kind.Key token_kind.Initializations ∷ rest) form_kind.Unknown
empty_data rest e = no_piece (word_kind.Key token_kind.Initializations ∷ rest)
    (λ p m. let q = data_back rest p m.0 (key_head token_kind.Initializations rest p m.1 m.0.exact) in
    let r : [] ≡ direction_word q.0 ∷ spell q.1 = sym e ∙ q.3 in cc)

-- ---- `returned`

result_back : (rest : List Word) (p : Phrase) → IsPhrase (word_kind.Key token_kind.Returned ∷ rest) p → head_is p ≡ Some head_kind.Returned
    → (op : Assignment) × (s : Syntax) × IsGrouped s × (rest ≡ operator_word op ∷ spell s) × (p ≡ assign to_result op s)
result_back rest (assign to_result op s) k e = (op, s, k.well.1, tail_same (word_kind.Key token_kind.Returned) (word_kind.Key token_kind.Returned) rest (operator_word op ∷ spell s) k.exact, refl)
result_back rest _ k e = absurd cc

result_answer : (op : Assignment) (s : Syntax) → answer (assign to_result op s) ≡ by_height (height s) (assign_form reference.Returned op (tree s))
result_answer op s = ap (λ n. by_height n (assign_form reference.Returned op (tree s))) (zero_max (height s))

pub result_piece : {E : Type 0} (op : Assignment) (x : Word) (rest value : List Word) → Some op ≡ operator_of x → rest ≡ x ∷ value → (r : Result Form E)
    → IfOk r (TellsOne (assign_form reference.Returned op) value) → IfOk r (TellsPiece (word_kind.Key token_kind.Returned ∷ rest))
result_piece op x rest value is e r k =
    embed_ok (Writes IsGrouped spell value) (λ s. by_height (height s) (assign_form reference.Returned op (tree s))) (IsOther (word_kind.Key token_kind.Returned ∷ rest)) answer (assign to_result op)
    (λ s m. (record { well = (tt, m.grouped); exact = ap (λ z. word_kind.Key token_kind.Returned ∷ z) (e ∙ ap (λ z. z ∷ value) (operator_known x op is) ∙ ap (λ z. operator_word op ∷ z) m.exact) }, λ z. z))
    (λ p m. let q = result_back rest p m.0 (key_head token_kind.Returned rest p m.1 m.0.exact) in
    let both : x ∷ value ≡ operator_word q.0 ∷ spell q.1 = sym e ∙ q.3 in
    (q.1, record { grouped = q.2; exact = tail_same x (operator_word q.0) value (spell q.1) both }, q.4 ∙ ap (λ z. assign to_result z q.1) (operator_same x op q.0 is cc)))
    (result_answer op) r k

pub no_result : (x : Word) (rest value : List Word) → None ≡ operator_of x → rest ≡ x ∷ value → TellsPiece (word_kind.Key token_kind.Returned ∷ rest) form_kind.Unknown
no_result x rest value is e = no_piece (word_kind.Key token_kind.Returned ∷ rest)
    (λ p m. let q = result_back rest p m.0 (key_head token_kind.Returned rest p m.1 m.0.exact) in
    let both : x ∷ value ≡ operator_word q.0 ∷ spell q.1 = sym e ∙ q.3 in
    operator_none x is q.0 cc)

pub empty_result : (rest : List Word) → rest ≡ [] → TellsPiece (word_kind.Key token_kind.Returned ∷ rest) form_kind.Unknown
empty_result rest e = no_piece (word_kind.Key token_kind.Returned ∷ rest)
    (λ p m. let q = result_back rest p m.0 (key_head token_kind.Returned rest p m.1 m.0.exact) in
    let both : [] ≡ operator_word q.0 ∷ spell q.1 = sym e ∙ q.3 in cc)
