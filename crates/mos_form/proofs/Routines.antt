-- Headings of routines, alone or behind `forward`.

use Rattle.std.proofs.Common.{◌≡◌, ℕ, Bool, true, false, List, [], ◌∷◌, ◌++◌, Option, Some, None, Result, IfOk, refl, sym, ◌∙◌, ap}
use Rattle.mos_tree.specs.declared.declaration.BaseType.{BaseType}
use Rattle.mos_tree.specs.declared.declaration.BaseType.TheVariants as base
use Rattle.mos_tree.specs.declared.declaration.FormalGroup.{FormalGroup}
use Rattle.mos_scan.specs.declared.token.TokenKind.{TokenKind}
use Rattle.mos_scan.specs.declared.token.TokenKind.TheVariants as token_kind
use Rattle.mos_scan.specs.declared.grammar_word.Word.{Word}
use Rattle.mos_scan.specs.declared.grammar_word.Word.TheVariants as word_kind
use Rattle.mos_typing.specs.Typing.{Formals, FormalsAreGrouped, formal_words, formals_of, tallest_formals, base_word, base_words}
use Rattle.mos_typing.specs.Reader.{base_of}
use Rattle.mos_tree.specs.declared.form.Form.{Form}
use Rattle.mos_tree.specs.declared.form.Form.TheVariants as form_kind
use Rattle.mos_form.specs.declared.head.Head.TheVariants as head_kind
use Rattle.mos_form.specs.Heads.{head_of}
use Rattle.mos_form.specs.Fixed.{heading, heading_kind, lead}
use Rattle.mos_tree.specs.Forms.{piece_kind_of}
use Rattle.mos_form.specs.Phrases.{to_result, Phrase, procedure, function, forward_procedure, forward_function, assign, IsPhrase, answer}
use Rattle.mos_form.specs.Telling.{by_height, IsOther, TellsFormals, TellsPiece, Writes}
use Rattle.mos_form.proofs.Telling.{embed_ok}
use Rattle.mos_form.proofs.Opening.{head_is, key_head}
use Rattle.mos_form.proofs.Parting.{snoc_same, regroup}
use Rattle.mos_form.proofs.Keyed.{tail_same, no_piece}

pub routine_kind : (forward : Bool) (n : List ℕ) (result : Option BaseType) (xs : List FormalGroup) → piece_kind_of (heading forward n xs result) ≡ heading_kind forward result
routine_kind true n result xs = refl
routine_kind false n None xs = refl
routine_kind false n (Some b) xs = refl

-- the word of a routine, and the words behind its name
abbrev pub routine_token : Option BaseType → TokenKind
routine_token None = token_kind.Procedure
routine_token (Some b) = token_kind.Function

abbrev pub before_result : List Word → Option BaseType → List Word
before_result inside None = inside
before_result inside (Some b) = inside ++ word_kind.Key token_kind.Colon ∷ base_words b

abbrev pub heading_words : Formals → Option BaseType → List Word
heading_words xs result = before_result (formal_words xs) result

abbrev routine : Bool → List ℕ → Formals → Option BaseType → Phrase
routine true n xs None = forward_procedure n xs
routine true n xs (Some b) = forward_function n xs b
routine false n xs None = procedure n xs
routine false n xs (Some b) = function n xs b

record IsRoutine (forward : Bool) (kind : TokenKind) (words : List Word) (p : Phrase) : Type 0 where
  name : List ℕ
  formals : Formals
  result : Option BaseType
  grouped : FormalsAreGrouped formals
  kind_is : kind ≡ routine_token result
  words_are : words ≡ word_kind.Name name ∷ heading_words formals result
  is : p ≡ routine forward name formals result

ahead : (kind : TokenKind) (words : List Word) (p : Phrase) → IsPhrase (lead true kind words) p → head_is p ≡ Some head_kind.Forward → IsRoutine true kind words p
ahead kind words (forward_procedure n xs) k e = record { name = n; formals = xs; result = None; grouped = k.well; kind_is = let q = k.exact in cc; words_are = let q = k.exact in cc; is = refl }
ahead kind words (forward_function n xs b) k e = record { name = n; formals = xs; result = Some b; grouped = k.well; kind_is = let q = k.exact in cc; words_are = let q = k.exact in cc; is = refl }
ahead kind words (assign to_result op s) k e = absurd cc
ahead kind words _ k e = absurd cc

alone : (result : Option BaseType) (words : List Word) (p : Phrase) → IsPhrase (lead false (routine_token result) words) p → head_is p ≡ Some (head_of (routine_token result)) → IsRoutine false (routine_token result) words p
alone None words (procedure n xs) k e = record { name = n; formals = xs; result = None; grouped = k.well; kind_is = refl; words_are = let q = k.exact in cc; is = refl }
alone (Some b) words (function n xs c) k e = record { name = n; formals = xs; result = Some c; grouped = k.well; kind_is = refl; words_are = let q = k.exact in cc; is = refl }
alone None words (assign to_result op s) k e = absurd cc
alone (Some b) words (assign to_result op s) k e = absurd cc
alone _ words _ k e = absurd cc

routine_back : (forward : Bool) (result : Option BaseType) (words : List Word) (p : Phrase) → IsOther (lead forward (routine_token result) words) p → IsRoutine forward (routine_token result) words p
routine_back true result words p m = ahead (routine_token result) words p m.0 (key_head token_kind.Forward (word_kind.Key (routine_token result) ∷ words) p m.1 m.0.exact)
routine_back false result words p m = alone result words p m.0 (key_head (routine_token result) words p m.1 m.0.exact)

routine_there : (forward : Bool) (result : Option BaseType) (words : List Word) (n : List ℕ) (xs : Formals) → FormalsAreGrouped xs → words ≡ word_kind.Name n ∷ heading_words xs result → IsOther (lead forward (routine_token result) words) (routine forward n xs result)
routine_there true None words n xs k e = (record { well = k; exact = ap (lead true token_kind.Procedure) e }, λ z. z)
routine_there true (Some b) words n xs k e = (record { well = k; exact = ap (lead true token_kind.Function) e }, λ z. z)
routine_there false None words n xs k e = (record { well = k; exact = ap (lead false token_kind.Procedure) e }, λ z. z)
routine_there false (Some b) words n xs k e = (record { well = k; exact = ap (lead false token_kind.Function) e }, λ z. z)

routine_answer : (forward : Bool) (n : List ℕ) (result : Option BaseType) (xs : Formals) → answer (routine forward n xs result) ≡ by_height (tallest_formals xs) (heading forward n (formals_of xs) result)
routine_answer true n None xs = refl
routine_answer true n (Some b) xs = refl
routine_answer false n None xs = refl
routine_answer false n (Some b) xs = refl

-- a type is known by its word
word_read : (b : BaseType) → base_of (base_word b) ≡ Some b
word_read base.Integer = refl
word_read _ = refl

word_one : (a b : BaseType) → base_word a ≡ base_word b → a ≡ b
word_one a b e = let q : Some a ≡ Some b = sym (word_read a) ∙ ap base_of e ∙ word_read b in cc

cut_result : (inside formals : List Word) (x y : Word) → inside ++ word_kind.Key token_kind.Colon ∷ x ∷ [] ≡ formals ++ word_kind.Key token_kind.Colon ∷ y ∷ [] → (inside ≡ formals) × (x ≡ y)
cut_result inside formals x y e =
    let q = snoc_same (inside ++ word_kind.Key token_kind.Colon ∷ []) (formals ++ word_kind.Key token_kind.Colon ∷ []) x y (sym (regroup inside (word_kind.Key token_kind.Colon) x) ∙ e ∙ regroup formals (word_kind.Key token_kind.Colon) y) in
    ((snoc_same inside formals (word_kind.Key token_kind.Colon) (word_kind.Key token_kind.Colon) q.0).0, q.1)

result_one : (r s : Option BaseType) (inside formals : List Word) → routine_token r ≡ routine_token s → before_result inside r ≡ before_result formals s → (inside ≡ formals) × (r ≡ s)
result_one None None inside formals k e = (e, refl)
result_one (Some a) (Some b) inside formals k e = let q = cut_result inside formals (base_word a) (base_word b) e in (q.0, ap (λ z. Some z) (word_one a b q.1))
result_one None (Some b) inside formals k e = absurd cc
result_one (Some a) None inside formals k e = absurd cc

pub routine_piece : {E : Type 0} (forward : Bool) (result : Option BaseType) (n : List ℕ) (words inside : List Word) → words ≡ word_kind.Name n ∷ before_result inside result → (r : Result Form E)
    → IfOk r (TellsFormals (λ xs. heading forward n xs result) inside) → IfOk r (TellsPiece (lead forward (routine_token result) words))
routine_piece forward result n words inside e r k =
    embed_ok (Writes FormalsAreGrouped formal_words inside) (λ xs. by_height (tallest_formals xs) (heading forward n (formals_of xs) result)) (IsOther (lead forward (routine_token result) words)) answer (λ xs. routine forward n xs result)
    (λ xs m. routine_there forward result words n xs m.grouped (e ∙ ap (λ z. word_kind.Name n ∷ before_result z result) m.exact))
    (λ p m. let q = routine_back forward result words p m in
    let whole : word_kind.Name n ∷ before_result inside result ≡ word_kind.Name q.name ∷ heading_words q.formals q.result = sym e ∙ q.words_are in
    let both = result_one result q.result inside (formal_words q.formals) q.kind_is (tail_same (word_kind.Name n) (word_kind.Name q.name) (before_result inside result) (heading_words q.formals q.result) whole) in
    let name_same : q.name ≡ n = cc in
    (q.formals, record { grouped = q.grouped; exact = both.0 }, q.is ∙ ap (λ z. routine forward z q.formals q.result) name_same ∙ ap (routine forward n q.formals) (sym both.1)))
    (routine_answer forward n result) r k

pub no_name : (forward : Bool) (result : Option BaseType) (words : List Word) → ((n : List ℕ) (rest : List Word) → words ≡ word_kind.Name n ∷ rest → ⊥) → TellsPiece (lead forward (routine_token result) words) form_kind.Unknown
no_name forward result words none = no_piece (lead forward (routine_token result) words) (λ p m. let q = routine_back forward result words p m in none q.name (heading_words q.formals q.result) q.words_are)

-- a function has a result
pub no_function : (forward : Bool) (n : List ℕ) (words : List Word) → ((inside : List Word) (b : BaseType) → words ≡ inside ++ word_kind.Key token_kind.Colon ∷ base_words b → ⊥) → TellsPiece (lead forward token_kind.Function (word_kind.Name n ∷ words)) form_kind.Unknown
no_function forward n words none = no_piece (lead forward token_kind.Function (word_kind.Name n ∷ words))
    (λ p m. let q = routine_back forward (Some base.Text) (word_kind.Name n ∷ words) p m in
    at q.result q.formals q.kind_is (tail_same (word_kind.Name n) (word_kind.Name q.name) words (heading_words q.formals q.result) q.words_are))
  where
    at : (result : Option BaseType) (xs : Formals) → token_kind.Function ≡ routine_token result → words ≡ heading_words xs result → ⊥
    at None xs k e = cc
    at (Some b) xs k e = none (formal_words xs) b e

pub no_base : (forward : Bool) (n : List ℕ) (words inside : List Word) (typ : Word) → words ≡ inside ++ word_kind.Key token_kind.Colon ∷ typ ∷ [] → ((b : BaseType) → base_words b ≡ typ ∷ [] → ⊥)
    → TellsPiece (lead forward token_kind.Function (word_kind.Name n ∷ words)) form_kind.Unknown
no_base forward n words inside typ e none = no_function forward n words (λ front b is. none b (ap (λ z. z ∷ []) (sym (cut_result inside front typ (base_word b) (sym e ∙ is)).1)))

-- ---- `forward`

forward_back : (words : List Word) (p : Phrase) → IsPhrase (word_kind.Key token_kind.Forward ∷ words) p → head_is p ≡ Some head_kind.Forward
    → ((rest : List Word) → words ≡ word_kind.Key token_kind.Procedure ∷ rest → ⊥) → ((rest : List Word) → words ≡ word_kind.Key token_kind.Function ∷ rest → ⊥) → ⊥
forward_back words (forward_procedure n xs) k e no_p no_f = no_p (word_kind.Name n ∷ formal_words xs) (tail_same (word_kind.Key token_kind.Forward) (word_kind.Key token_kind.Forward) words (word_kind.Key token_kind.Procedure ∷ word_kind.Name n ∷ formal_words xs) k.exact)
forward_back words (forward_function n xs b) k e no_p no_f = no_f (word_kind.Name n ∷ heading_words xs (Some b)) (tail_same (word_kind.Key token_kind.Forward) (word_kind.Key token_kind.Forward) words (word_kind.Key token_kind.Function ∷ word_kind.Name n ∷ heading_words xs (Some b)) k.exact)
forward_back words (assign to_result op s) k e no_p no_f = cc
forward_back words _ k e no_p no_f = cc

pub no_forward : (words : List Word) → ((rest : List Word) → words ≡ word_kind.Key token_kind.Procedure ∷ rest → ⊥) → ((rest : List Word) → words ≡ word_kind.Key token_kind.Function ∷ rest → ⊥) → TellsPiece (word_kind.Key token_kind.Forward ∷ words) form_kind.Unknown
no_forward words no_p no_f = no_piece (word_kind.Key token_kind.Forward ∷ words) (λ p m. forward_back words p m.0 (key_head token_kind.Forward words p m.1 m.0.exact) no_p no_f)
