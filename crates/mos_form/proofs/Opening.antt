-- What the first words of a piece say of it, for each way to write one.

use Rattle.std.proofs.Common.{◌≡◌, ℕ, Bool, true, false, List, ◌∷◌, Option, Some, None, refl, sym, ◌∙◌, ap}
use Rattle.mos_tree.specs.declared.statement.Assignment.{Assignment}
use Rattle.mos_tree.specs.declared.statement.Assignment.TheVariants as assignment
use Rattle.mos_scan.specs.declared.token.TokenKind.{TokenKind}
use Rattle.mos_scan.specs.declared.grammar_word.Word.{Word}
use Rattle.mos_scan.specs.declared.grammar_word.Word.TheVariants as word_kind
use Rattle.mos_expr.specs.Grammar.{one_name, and_name}
use Rattle.mos_tree.specs.declared.form.ConditionKeyword.{ConditionKeyword}
use Rattle.mos_tree.specs.declared.form.ConditionKeyword.TheVariants as condition
use Rattle.mos_tree.specs.declared.form.Keyword.{Keyword}
use Rattle.mos_tree.specs.declared.form.Keyword.TheVariants as keyword
use Rattle.mos_form.specs.declared.head.Head.{Head}
use Rattle.mos_form.specs.declared.head.Head.TheVariants as head_kind
use Rattle.mos_form.specs.declared.head.Next.{Next}
use Rattle.mos_form.specs.declared.head.Next.TheVariants as next
use Rattle.mos_form.specs.Heads.{head_of, next_of}
use Rattle.mos_form.specs.Phrases.{to_name, to_cell, to_field, to_cell_field, to_result, last_label, and_label, Phrase, word, break_word, next_word, model, uses_modules, options_name, definition, typed, record_of, procedure, function, forward_procedure, forward_function, assign, fill, call, guarded, alternative, forall_in, initializations, labels, token_of, condition_word, operator_word, words_of}
use Rattle.mos_form.specs.Telling.{IsAlternative}

-- what the first word of a piece says, where it is a token
abbrev pub head_is : Phrase → Option Head
head_is (word x) = Some head_kind.Single
head_is break_word = Some head_kind.Single
head_is next_word = Some head_kind.Single
head_is (model n) = Some head_kind.Model
head_is (uses_modules ns) = Some head_kind.Uses
head_is (options_name n) = Some head_kind.Options
head_is (procedure n xs) = Some head_kind.Procedure
head_is (function n xs b) = Some head_kind.Function
head_is (forward_procedure n xs) = Some head_kind.Forward
head_is (forward_function n xs b) = Some head_kind.Forward
head_is (assign to_result op s) = Some head_kind.Returned
head_is (guarded g s) = Some (head_kind.Guarded g)
head_is (forall_in i) = Some head_kind.Forall
head_is (initializations d s) = Some head_kind.Initializations
head_is _ = None

-- the word behind the name that a piece begins with
abbrev pub next_is : Phrase → Option Next
next_is (definition n s) = Some next.Equal
next_is (record_of n) = Some next.Equal
next_is (typed ns x) = Some next.List
next_is (labels xs) = Some next.List
next_is (assign (to_name n) op s) = Some (next.Assigns op)
next_is (assign (to_cell n xs) op s) = Some next.OpenRound
next_is (assign (to_cell_field n xs x) op s) = Some next.OpenRound
next_is (assign (to_field n x) op s) = Some next.Dot
next_is (fill n xs) = Some next.Fill
next_is (call n xs) = Some next.OpenRound
next_is _ = None

pub single_head : (x : Keyword) → head_of (token_of x) ≡ head_kind.Single
single_head keyword.EndModel = refl
single_head _ = refl

guard_head : (g : ConditionKeyword) → head_of (condition_word g) ≡ head_kind.Guarded g
guard_head condition.If = refl
guard_head _ = refl

pub operator_next : (op : Assignment) → next_of (operator_word op) ≡ next.Assigns op
operator_next assignment.Set = refl
operator_next _ = refl

-- what words say by the first of them, by the one behind a name, and whether they begin with a token or a name
abbrev first_head : List Word → Option Head
first_head (word_kind.Key kind ∷ rest) = Some (head_of kind)
first_head _ = None

abbrev second_next : List Word → Option Next
second_next (word_kind.Name n ∷ x ∷ rest) = Some (next_of x)
second_next _ = None

abbrev pub begins : List Word → Bool
begins (word_kind.Key kind ∷ rest) = true
begins (word_kind.Name n ∷ rest) = true
begins _ = false

record Opens (p : Phrase) : Type 0 where
  first_says : first_head (words_of p) ≡ head_is p
  second_says : (x : Next) → second_next (words_of p) ≡ Some x → next_is p ≡ Some x
  well_begun : begins (words_of p) ≡ true

opens : (p : Phrase) → (IsAlternative p → ⊥) → Opens p
opens (word x) a = record { first_says = ap (λ z. Some z) (single_head x); second_says = λ x e. e; well_begun = refl }
opens (guarded g s) a = record { first_says = ap (λ z. Some z) (guard_head g); second_says = λ x e. e; well_begun = refl }
opens (assign (to_name n) op s) a = record { first_says = refl; second_says = λ x e. ap (λ z. Some z) (sym (operator_next op)) ∙ e; well_begun = refl }
opens (assign to_result op s) a = record { first_says = refl; second_says = λ x e. e; well_begun = refl }
opens (typed (one_name n) x) a = record { first_says = refl; second_says = λ x e. e; well_begun = refl }
opens (typed (and_name n ns) x) a = record { first_says = refl; second_says = λ x e. e; well_begun = refl }
opens (labels (last_label n None)) a = record { first_says = refl; second_says = λ x e. absurd cc; well_begun = refl }
opens (labels (and_label n None xs)) a = record { first_says = refl; second_says = λ x e. e; well_begun = refl }
opens (alternative xs) a = absurd (a tt)
opens _ a = record { first_says = refl; second_says = λ x e. e; well_begun = refl }

pub key_head : (kind : TokenKind) (rest : List Word) (p : Phrase) → (IsAlternative p → ⊥) → word_kind.Key kind ∷ rest ≡ words_of p → head_is p ≡ Some (head_of kind)
key_head kind rest p a e = sym (ap first_head e ∙ (opens p a).first_says)

pub name_next : (m : List ℕ) (x : Word) (rest : List Word) (p : Phrase) → (IsAlternative p → ⊥) → word_kind.Name m ∷ x ∷ rest ≡ words_of p → next_is p ≡ Some (next_of x)
name_next m x rest p a e = (opens p a).second_says (next_of x) (sym (ap second_next e))

-- the first word of a piece is a token or a name
pub begun : (words : List Word) (p : Phrase) → (IsAlternative p → ⊥) → words ≡ words_of p → begins words ≡ true
begun words p a e = ap begins e ∙ (opens p a).well_begun
