-- Names with their type, and labels.

use Rattle.std.proofs.Common.{◌≡◌, ℕ, Bool, true, false, ◌&&◌, List, [], ◌∷◌, ◌++◌, Option, Some, None, Result, IfOk, refl, sym, ◌∙◌, ap, subst}
use Rattle.std.specs.List.{list_all}
use Rattle.std.proofs.lemmas.List.Folds.{list_all-append}
use Rattle.mos_scan.specs.declared.token.TokenKind.TheVariants as token_kind
use Rattle.mos_scan.specs.declared.grammar_word.Word.{Word}
use Rattle.mos_scan.specs.declared.grammar_word.Word.TheVariants as word_kind
use Rattle.mos_expr.specs.Grammar.{Names, one_name, and_name, list_of_names, spell_names}
use Rattle.mos_typing.specs.Typing.{Typing, typing_words, type_of, tallest_type, TypeIsGrouped}
use Rattle.mos_typing.specs.PhraseWords.{is_plain, ArePlain}
use Rattle.mos_tree.specs.declared.form.Form.{Form}
use Rattle.mos_tree.specs.declared.form.Form.TheVariants as form_kind
use Rattle.mos_form.specs.declared.head.Next.TheVariants as next
use Rattle.mos_form.specs.Heads.{next_of}
use Rattle.mos_form.specs.Phrases.{to_name, Labels, last_label, and_label, Phrase, typed, assign, alternative, labels, label_words, IsPhrase, answer}
use Rattle.mos_form.specs.Telling.{tells_none, by_height, IsAlternative, IsOther, TellsPiece, IsListed, TellsList, AreTyped, TellsTyped, Writes}
use Rattle.mos_form.specs.Lists as lists
use Rattle.mos_form.proofs.Telling.{embed_ok}
use Rattle.mos_form.proofs.Opening.{next_is, name_next}
use Rattle.mos_form.proofs.Parting.{one_cut}
use Rattle.mos_form.proofs.Keyed.{no_piece}
use Rattle.mos_form.proofs.Exactly.{Exists, exists, lacks, fixed_form}
use Rattle.mos_form.proofs.Exactly.{labels_read, labels_known}
use Rattle.mos_form.specs.Telling.{TellsType, HasMore}
use Rattle.mos_form.specs.Lists.{read_labels}
use Rattle.mos_form.specs.Phrases.{LabelsAre}
use Rattle.mos_tree.specs.declared.statement.Label.{Label}

pub plain_names : (ns : Names) → ArePlain (spell_names ns)
plain_names (one_name n) = refl
plain_names (and_name n ns) = plain_names ns

pub names_same : (a b : Names) → spell_names a ≡ spell_names b → a ≡ b
names_same (one_name n) (one_name m) e = cc
names_same (one_name n) (and_name m (one_name k)) e = absurd cc
names_same (one_name n) (and_name m (and_name k ks)) e = absurd cc
names_same (and_name n (one_name k)) (one_name m) e = absurd cc
names_same (and_name n (and_name k ks)) (one_name m) e = absurd cc
names_same (and_name n ns) (and_name m ms) e = let q = names_same ns ms cc in let p : n ≡ m = cc in cc

-- ---- no colon stands in labels

abbrev is_colon : Word → Bool
is_colon (word_kind.Key token_kind.Colon) = true
is_colon _ = false

abbrev either : Bool → Bool → Bool
either true b = true
either false b = b

abbrev pub has_colon : List Word → Bool
has_colon [] = false
has_colon (x ∷ xs) = either (is_colon x) (has_colon xs)

pub no_colon : (xs : Labels) → has_colon (label_words xs) ≡ false
no_colon (last_label n None) = refl
no_colon (last_label n (Some y)) = refl
no_colon (and_label n None xs) = no_colon xs
no_colon (and_label n (Some y) xs) = no_colon xs

either_true : (b : Bool) → either b true ≡ true
either_true true = refl
either_true false = refl

pub a_colon : (xs ys : List Word) → has_colon (xs ++ word_kind.Key token_kind.Colon ∷ ys) ≡ true
a_colon [] ys = refl
a_colon (x ∷ xs) ys = ap (either (is_colon x)) (a_colon xs ys) ∙ either_true (is_colon x)

-- ---- cut at the colon

abbrev IsList : List Word → Phrase → Type 0
IsList words p = IsPhrase words p × IsListed p

typed_back : (words front behind : List Word) → ArePlain front → words ≡ front ++ word_kind.Key token_kind.Colon ∷ behind → (p : Phrase) → IsList words p → (q : Names × Typing) × AreTyped front behind q × (p ≡ typed q.0 q.1)
typed_back words front behind plain e (typed ns x) m =
    let q = one_cut front (spell_names ns) (word_kind.Key token_kind.Colon) (word_kind.Key token_kind.Colon) behind (typing_words x) plain (plain_names ns) refl refl (sym e ∙ m.0.exact) in
    ((ns, x), (q.0, record { grouped = m.0.well; exact = q.2 }), refl)
typed_back words front behind plain e (labels xs) m =
    let q : true ≡ false = sym (a_colon front behind) ∙ ap has_colon (sym e ∙ m.0.exact) ∙ no_colon xs in absurd cc
typed_back words front behind plain e _ m = absurd m.1

pub typed_piece : {E : Type 0} (words front behind : List Word) (y : Word) → ArePlain front → y ≡ word_kind.Key token_kind.Colon → words ≡ front ++ y ∷ behind → (r : Result Form E) → IfOk r (TellsTyped front behind) → IfOk r (TellsList words)
typed_piece words front behind y plain colon e r k =
    let whole : words ≡ front ++ word_kind.Key token_kind.Colon ∷ behind = e ∙ ap (λ z. front ++ z ∷ behind) colon in
    embed_ok (AreTyped front behind) (λ p. by_height (tallest_type p.1) (form_kind.Typed (list_of_names p.0) (type_of p.1))) (IsList words) answer (λ q. typed q.0 q.1)
    (λ q a. (record { well = a.1.grouped; exact = whole ∙ ap (λ z. z ++ word_kind.Key token_kind.Colon ∷ behind) a.0 ∙ ap (λ z. spell_names q.0 ++ word_kind.Key token_kind.Colon ∷ z) a.1.exact }, tt))
    (typed_back words front behind plain whole) (λ q. refl) r k

-- ---- labels

labels_answer : (words : List Word) (p : Phrase) → ((ns : Names) (x : Typing) → words ≡ spell_names ns ++ word_kind.Key token_kind.Colon ∷ typing_words x → ⊥) → IsList words p → answer p ≡ lists.labels words
labels_answer words (labels xs) none m = sym (ap lists.labels m.0.exact ∙ ap lists.labels_of (labels_read xs []))
labels_answer words (typed ns x) none m = absurd (none ns x m.0.exact)
labels_answer words _ none m = absurd m.1

labels_well : (words : List Word) (xs : Labels) → HasMore words → words ≡ label_words xs → LabelsAre xs
labels_well words (last_label n None) more e = absurd (subst HasMore e more)
labels_well words (last_label n (Some y)) more e = tt
labels_well words (and_label n shown xs) more e = tt

labels_found : (words : List Word) → HasMore words → (read : Option (List Label)) → read_labels [] words ≡ read → Exists (IsList words) (lists.labels_of read)
labels_found words more None e = lacks refl
labels_found words more (Some all) e =
    let q = labels_known words [] all e in
    exists (labels q.0) (record { well = labels_well words q.0 more q.1; exact = q.1 }, tt) (ap form_kind.Labels (sym q.2))

pub labels_piece : (words : List Word) → HasMore words → ((ns : Names) (x : Typing) → words ≡ spell_names ns ++ word_kind.Key token_kind.Colon ∷ typing_words x → ⊥) → TellsList words (lists.labels words)
labels_piece words more none = fixed_form (IsList words) (lists.labels words) (λ p m. labels_answer words p none m) (labels_found words more (read_labels [] words) refl)

not_all : (xs ys : List Word) (y : Word) → is_plain y ≡ false → ArePlain (xs ++ y ∷ ys) → ⊥
not_all xs ys y e k = let q : true ≡ false = sym k ∙ list_all-append is_plain xs (y ∷ ys) ∙ rw e (both_false (list_all is_plain xs)) in cc
  where
    both_false : (b : Bool) → (b && false) ≡ false
    both_false true = refl
    both_false false = refl

pub labels_plain : (words : List Word) → HasMore words → ArePlain words → TellsList words (lists.labels words)
labels_plain words more plain = labels_piece words more (λ ns x e. not_all (spell_names ns) (typing_words x) (word_kind.Key token_kind.Colon) refl (subst ArePlain e plain))

pub labels_cut : (words front behind : List Word) (y : Word) → HasMore words → ArePlain front → is_plain y ≡ false → words ≡ front ++ y ∷ behind → (y ≡ word_kind.Key token_kind.Colon → ⊥) → TellsList words (lists.labels words)
labels_cut words front behind y more plain not_plain e none = labels_piece words more
    (λ ns x i. none (one_cut front (spell_names ns) y (word_kind.Key token_kind.Colon) behind (typing_words x) plain (plain_names ns) not_plain refl (sym e ∙ i)).1)

-- ---- with the names

pub names_with : {E : Type 0} (front behind : List Word) (all : List (List ℕ)) → (ns : Names) × (front ≡ spell_names ns) × (all ≡ list_of_names ns) → (r : Result Form E)
    → IfOk r (TellsType (λ x. form_kind.Typed all x) behind) → IfOk r (TellsTyped front behind)
names_with front behind all found r k =
    embed_ok (Writes TypeIsGrouped typing_words behind) (λ x. by_height (tallest_type x) (form_kind.Typed (list_of_names found.0) (type_of x))) (AreTyped front behind) (λ p. by_height (tallest_type p.1) (form_kind.Typed (list_of_names p.0) (type_of p.1))) (λ x. (found.0, x))
    (λ x m. (found.1, m))
    (λ q a. (q.1, a.1, pair_same q.0 found.0 q.1 (names_same q.0 found.0 (sym a.0 ∙ found.1))))
    (λ x. refl) r (subst (λ z. IfOk r (TellsType (λ x. form_kind.Typed z x) behind)) found.2 k)
  where
    pair : Names → Typing → Names × Typing
    pair a b = (a, b)

    pair_same : (a b : Names) (x : Typing) → a ≡ b → pair a x ≡ pair b x
    pair_same a b x e = ap (λ z. pair z x) e

pub no_names : (front behind : List Word) → ((ns : Names) → front ≡ spell_names ns → ⊥) → TellsTyped front behind form_kind.Unknown
no_names front behind none = tells_none (λ q a. none q.0 a.0)

-- ---- by the word behind the first name

pub list_only : {E : Type 0} (words behind : List Word) (n : List ℕ) (y : Word) → words ≡ word_kind.Name n ∷ y ∷ behind → next.List ≡ next_of y → (r : Result Form E) → IfOk r (TellsList words) → IfOk r (TellsPiece words)
list_only words behind n y e is r k =
    embed_ok (IsList words) answer (IsOther words) answer (λ p. p)
    (λ p m. (m.0, never p m.1))
    (λ p m. (p, (m.0, at p (name_next n y behind p m.1 (sym e ∙ m.0.exact) ∙ ap (λ z. Some z) (sym is))), refl))
    (λ p. refl) r k
  where
    never : (p : Phrase) → IsListed p → IsAlternative p → ⊥
    never (alternative xs) a b = a
    never _ a b = b

    at : (p : Phrase) → next_is p ≡ Some next.List → IsListed p
    at (typed ns x) h = tt
    at (labels xs) h = tt
    at (assign (to_name m) op s) h = absurd cc
    at _ h = absurd cc

pub other_next : (words behind : List Word) (n : List ℕ) (y : Word) → words ≡ word_kind.Name n ∷ y ∷ behind → next.Other ≡ next_of y → TellsPiece words form_kind.Unknown
other_next words behind n y e is = no_piece words (λ p m. at p (name_next n y behind p m.1 (sym e ∙ m.0.exact) ∙ ap (λ z. Some z) (sym is)))
  where
    at : (p : Phrase) → next_is p ≡ Some next.Other → ⊥
    at (assign (to_name m) op s) h = cc
    at _ h = cc

pub has_more : (words behind : List Word) (x y : Word) → words ≡ x ∷ y ∷ behind → HasMore words
has_more words behind x y e = subst HasMore (sym e) tt
