-- Pieces that begin with a name and a bracket.

use Rattle.std.proofs.Common.{◌≡◌, ℕ, max, true, false, List, [], ◌∷◌, ◌++◌, Option, Some, None, Result, IfOk, refl, sym, ◌∙◌, ap, subst}
use Rattle.std.proofs.lemmas.List.{append_assoc, append_cancel_right, append_cancel_left}
use Rattle.mos_tree.specs.declared.statement.Assignment.{Assignment}
use Rattle.mos_scan.specs.declared.token.TokenKind.TheVariants as token_kind
use Rattle.mos_scan.specs.declared.grammar_word.Word.{Word}
use Rattle.mos_scan.specs.declared.grammar_word.Word.TheVariants as word_kind
use Rattle.mos_expr.specs.Grammar.{Syntax, SyntaxList, IsGrouped, AreGrouped, spell, spell_list, height, heights, tree, trees}
use Rattle.mos_typing.specs.Typing.{in_brackets}
use Rattle.mos_typing.specs.PhraseWords.{is_plain, ArePlain, ListIsPlain}
use Rattle.mos_tree.specs.declared.form.Form.{Form}
use Rattle.mos_tree.specs.declared.form.Form.TheVariants as form_kind
use Rattle.mos_form.specs.declared.head.Next.TheVariants as next
use Rattle.mos_form.specs.Cuts.{operator_of}
use Rattle.mos_form.specs.Cells.{cell, cell_target, AreParts, parts_height, parts_trees, with_parts, TellsCell}
use Rattle.mos_form.specs.Phrases.{to_name, to_cell, to_field, to_cell_field, to_result, Phrase, assign, call, alternative, target_words, operator_word, TargetIs, IsPhrase, answer}
use Rattle.mos_form.specs.Telling.{tells_none, by_height, IsAlternative, IsOther, TellsPiece, TellsAll, IsCall, TellsCall, TellsCellSet, assign_form, call_form, Writes}
use Rattle.mos_form.specs.Telling as telling
use Rattle.mos_form.proofs.Telling.{embed_ok}
use Rattle.mos_form.proofs.Opening.{next_is}
use Rattle.mos_form.proofs.Parting.{snoc_same, regroup, plain_join, plain_head, one_cut, operator_known, operator_none, operator_parts}
use Rattle.mos_form.proofs.Keyed.{tail_same, no_piece}
use Rattle.mos_expr.specs.Said.{AreSomeGrouped}
use Rattle.mos_form.proofs.Named.{says, behind_same, first_same, operator_one}

abbrev pub close : List Word
close = word_kind.Key token_kind.CloseRound ∷ []

-- ---- a call

call_back : (n : List ℕ) (behind : List Word) (p : Phrase) → IsPhrase (word_kind.Name n ∷ word_kind.Key token_kind.OpenRound ∷ behind) p → IsCall p → (xs : SyntaxList) × AreGrouped xs × (behind ≡ spell_list xs ++ close) × (p ≡ call n xs)
call_back n behind (call m xs) k e = (
  xs,
  k.well,
  behind_same (word_kind.Name n) (word_kind.Key token_kind.OpenRound) (word_kind.Name m) (word_kind.Key token_kind.OpenRound) behind (spell_list xs ++ close) k.exact,
  ap (λ z. call z xs) (first_same n m (word_kind.Key token_kind.OpenRound ∷ behind) (in_brackets (spell_list xs)) k.exact),
)
call_back n behind _ k e = absurd e

pub call_piece : {E : Type 0} (n : List ℕ) (behind inside : List Word) → behind ≡ inside ++ close → (r : Result Form E) → IfOk r (TellsAll (call_form n) inside) → IfOk r (TellsCall n behind)
call_piece n behind inside e r k =
    embed_ok (Writes AreGrouped spell_list inside) (λ xs. by_height (heights xs) (call_form n (trees xs))) (λ p. IsPhrase (word_kind.Name n ∷ word_kind.Key token_kind.OpenRound ∷ behind) p × IsCall p) answer (call n)
    (λ xs m. (record { well = m.grouped; exact = ap (λ z. word_kind.Name n ∷ word_kind.Key token_kind.OpenRound ∷ z) (e ∙ ap (λ z. z ++ close) m.exact) }, tt))
    (λ p m. let q = call_back n behind p m.0 m.1 in
    (q.0, record { grouped = q.1; exact = append_cancel_right inside (spell_list q.0) close (sym e ∙ q.2) }, q.3))
    (λ xs. refl) r k

pub no_call : (n : List ℕ) (behind : List Word) → ((inside : List Word) → behind ≡ inside ++ close → ⊥) → TellsCall n behind form_kind.Unknown
no_call n behind none = tells_none (λ p m. let q = call_back n behind p m.0 m.1 in none (spell_list q.0) q.2)

-- ---- a cell that is assigned to

-- what stands behind the bracket of a target
abbrev pub cell_words : SyntaxList → Option (List ℕ) → List Word
cell_words xs None = spell_list xs ++ close
cell_words xs (Some g) = (spell_list xs ++ close) ++ word_kind.Key token_kind.Dot ∷ word_kind.Name g ∷ []

cell_spelled : (n : List ℕ) (xs : SyntaxList) (g : Option (List ℕ)) → target_words (cell_target n xs g) ≡ word_kind.Name n ∷ word_kind.Key token_kind.OpenRound ∷ cell_words xs g
cell_spelled n xs None = refl
cell_spelled n xs (Some g) = refl

cell_well : (n : List ℕ) (xs : SyntaxList) (g : Option (List ℕ)) → AreSomeGrouped xs → TargetIs (cell_target n xs g)
cell_well n xs None k = k
cell_well n xs (Some g) k = k

-- an assignment to a cell
abbrev IsCellSet : List ℕ → List Word → Phrase → Type 0
IsCellSet n behind p = (xs : SyntaxList) × (g : Option (List ℕ)) × (op : Assignment) × (s : Syntax) × AreSomeGrouped xs × IsGrouped s
    × (behind ≡ cell_words xs g ++ operator_word op ∷ spell s) × (p ≡ assign (cell_target n xs g) op s)

-- a call, or an assignment to a cell
data IsOpen (n : List ℕ) (behind : List Word) (p : Phrase) : Type 0 where
  calls : IsCall p → IsOpen n behind p
  sets : IsCellSet n behind p → IsOpen n behind p

open_back : (n : List ℕ) (behind : List Word) (p : Phrase) → IsPhrase (word_kind.Name n ∷ word_kind.Key token_kind.OpenRound ∷ behind) p → next_is p ≡ Some next.OpenRound → IsOpen n behind p
open_back n behind (call m xs) k e = calls tt
open_back n behind (assign (to_cell m xs) op s) k e =
    sets (
      xs,
      None,
      op,
      s,
      k.well.0,
      k.well.1,
      behind_same (word_kind.Name n) (word_kind.Key token_kind.OpenRound) (word_kind.Name m) (word_kind.Key token_kind.OpenRound) behind (cell_words xs None ++ operator_word op ∷ spell s) k.exact,
      ap (λ z. assign (to_cell z xs) op s) (first_same n m (word_kind.Key token_kind.OpenRound ∷ behind) (word_kind.Key token_kind.OpenRound ∷ (cell_words xs None ++ operator_word op ∷ spell s)) k.exact),
    )
open_back n behind (assign (to_cell_field m xs g) op s) k e =
    sets (
      xs,
      Some g,
      op,
      s,
      k.well.0,
      k.well.1,
      behind_same (word_kind.Name n) (word_kind.Key token_kind.OpenRound) (word_kind.Name m) (word_kind.Key token_kind.OpenRound) behind (cell_words xs (Some g) ++ operator_word op ∷ spell s) k.exact,
      ap (λ z. assign (to_cell_field z xs g) op s) (first_same n m (word_kind.Key token_kind.OpenRound ∷ behind) (word_kind.Key token_kind.OpenRound ∷ (cell_words xs (Some g) ++ operator_word op ∷ spell s)) k.exact),
    )
open_back n behind _ k e = absurd cc

opened : (n : List ℕ) (behind : List Word) (p : Phrase) → IsOther (word_kind.Name n ∷ word_kind.Key token_kind.OpenRound ∷ behind) p → IsOpen n behind p
opened n behind p m = open_back n behind p m.0 (says n (word_kind.Key token_kind.OpenRound) behind p m)

pub plain_cell : ListIsPlain → (xs : SyntaxList) (g : Option (List ℕ)) → ArePlain (cell_words xs g)
plain_cell plain xs None = plain_join (spell_list xs) close (plain xs) refl
plain_cell plain xs (Some g) = plain_join (spell_list xs ++ close) (word_kind.Key token_kind.Dot ∷ word_kind.Name g ∷ []) (plain_join (spell_list xs) close (plain xs) refl) refl

-- words with a word that is not plain are not plain
not_all : (xs ys : List Word) (y : Word) → is_plain y ≡ false → ArePlain (xs ++ y ∷ ys) → ⊥
not_all [] ys y e k = let q : true ≡ false = sym (plain_head y ys k) ∙ e in cc
not_all (x ∷ xs) ys y e k = not_all xs ys y e (plain_rest x (xs ++ y ∷ ys) k)
  where
    plain_rest : (x : Word) (xs : List Word) → ArePlain (x ∷ xs) → ArePlain xs
    plain_rest x xs h = let e = plain_head x xs h in sym (rw e refl) ∙ h

pub call_only : {E : Type 0} (n : List ℕ) (behind : List Word) → ArePlain behind → (r : Result Form E) → IfOk r (TellsCall n behind) → IfOk r (TellsPiece (word_kind.Name n ∷ word_kind.Key token_kind.OpenRound ∷ behind))
call_only n behind plain r k =
    embed_ok (λ p. IsPhrase (word_kind.Name n ∷ word_kind.Key token_kind.OpenRound ∷ behind) p × IsCall p) answer (IsOther (word_kind.Name n ∷ word_kind.Key token_kind.OpenRound ∷ behind)) answer (λ p. p)
    (λ p m. (m.0, never p m.1))
    (λ p m. (p, (m.0, at p (opened n behind p m)), refl))
    (λ p. refl) r k
  where
    never : (p : Phrase) → IsCall p → IsAlternative p → ⊥
    never (alternative xs) a b = a
    never _ a b = b

    at : (p : Phrase) → IsOpen n behind p → IsCall p
    at p (calls y) = y
    at p (sets y) = absurd (not_all (cell_words y.0 y.1) (spell y.3) (operator_word y.2) (operator_parts y.2) (subst ArePlain y.6 plain))

-- the words behind the bracket are cut
cut_call : ListIsPlain → (n : List ℕ) (behind before value : List Word) (y : Word) → is_plain y ≡ false → behind ≡ before ++ y ∷ value → (p : Phrase) → IsPhrase (word_kind.Name n ∷ word_kind.Key token_kind.OpenRound ∷ behind) p → IsCall p → ⊥
cut_call plain n behind before value y not_plain e p k c =
    let q = call_back n behind p k c in
    not_all before value y not_plain (subst ArePlain (sym q.2 ∙ e) (plain_join (spell_list q.0) close (plain q.0) refl))

cut_cell : ListIsPlain → (n : List ℕ) (behind before value : List Word) (y : Word) → ArePlain before → is_plain y ≡ false → behind ≡ before ++ y ∷ value → (p : Phrase) → (z : IsCellSet n behind p)
    → (before ≡ cell_words z.0 z.1) × (y ≡ operator_word z.2) × (value ≡ spell z.3)
cut_cell plain n behind before value y front not_plain e p z =
    one_cut before (cell_words z.0 z.1) y (operator_word z.2) value (spell z.3) front (plain_cell plain z.0 z.1) not_plain (operator_parts z.2) (sym e ∙ z.6)

pub cell_only : {E : Type 0} → ListIsPlain → (n : List ℕ) (behind target value : List Word) (y : Word) (op : Assignment) → ArePlain target → is_plain y ≡ false → behind ≡ target ++ y ∷ value → Some op ≡ operator_of y
    → (r : Result Form E) → IfOk r (TellsCellSet n target op value) → IfOk r (TellsPiece (word_kind.Name n ∷ word_kind.Key token_kind.OpenRound ∷ behind))
cell_only plain n behind target value y op front not_plain e is r k =
    embed_ok (λ p. IsPhrase (word_kind.Name n ∷ word_kind.Key token_kind.OpenRound ∷ (target ++ operator_word op ∷ value)) p × telling.TargetIs (word_kind.Name n ∷ word_kind.Key token_kind.OpenRound ∷ target) p) answer (IsOther (word_kind.Name n ∷ word_kind.Key token_kind.OpenRound ∷ behind)) answer (λ p. p)
    (λ p m. (subst (λ z. IsPhrase z p) (sym whole) m.0, never p m.1))
    (λ p m. (p, (subst (λ z. IsPhrase z p) whole m.0, at p m (opened n behind p m)), refl))
    (λ p. refl) r k
  where
    whole : word_kind.Name n ∷ word_kind.Key token_kind.OpenRound ∷ behind ≡ word_kind.Name n ∷ word_kind.Key token_kind.OpenRound ∷ (target ++ operator_word op ∷ value)
    whole = ap (λ z. word_kind.Name n ∷ word_kind.Key token_kind.OpenRound ∷ z) (e ∙ ap (λ z. target ++ z ∷ value) (operator_known y op is))

    never : (p : Phrase) → telling.TargetIs (word_kind.Name n ∷ word_kind.Key token_kind.OpenRound ∷ target) p → IsAlternative p → ⊥
    never (alternative xs) a b = a
    never _ a b = b

    at : (p : Phrase) → IsOther (word_kind.Name n ∷ word_kind.Key token_kind.OpenRound ∷ behind) p → IsOpen n behind p → telling.TargetIs (word_kind.Name n ∷ word_kind.Key token_kind.OpenRound ∷ target) p
    at p m (calls c) = absurd (cut_call plain n behind target value y not_plain e p m.0 c)
    at p m (sets z) =
        let q = cut_cell plain n behind target value y front not_plain e p z in
        subst (λ q. telling.TargetIs (word_kind.Name n ∷ word_kind.Key token_kind.OpenRound ∷ target) q) (sym z.7)
        (cell_spelled n z.0 z.1 ∙ ap (λ z. word_kind.Name n ∷ word_kind.Key token_kind.OpenRound ∷ z) (sym q.0))

pub nothing_open : ListIsPlain → (n : List ℕ) (behind target value : List Word) (y : Word) → ArePlain target → is_plain y ≡ false → behind ≡ target ++ y ∷ value → None ≡ operator_of y → TellsPiece (word_kind.Name n ∷ word_kind.Key token_kind.OpenRound ∷ behind) form_kind.Unknown
nothing_open plain n behind target value y front not_plain e is = no_piece (word_kind.Name n ∷ word_kind.Key token_kind.OpenRound ∷ behind) (λ p m. at p m (opened n behind p m))
  where
    at : (p : Phrase) → IsOther (word_kind.Name n ∷ word_kind.Key token_kind.OpenRound ∷ behind) p → IsOpen n behind p → ⊥
    at p m (calls c) = cut_call plain n behind target value y not_plain e p m.0 c
    at p m (sets z) = operator_none y is z.2 (cut_cell plain n behind target value y front not_plain e p z).1

-- ---- which cell is assigned to

abbrev IsSet : List ℕ → List Word → Assignment → List Word → Phrase → Type 0
IsSet n target op value p = IsPhrase (word_kind.Name n ∷ word_kind.Key token_kind.OpenRound ∷ (target ++ operator_word op ∷ value)) p × telling.TargetIs (word_kind.Name n ∷ word_kind.Key token_kind.OpenRound ∷ target) p

abbrev IsCell : List ℕ → List Word → Assignment → List Word → Phrase → Type 0
IsCell n target op value p = (xs : SyntaxList) × (g : Option (List ℕ)) × (s : Syntax) × AreSomeGrouped xs × IsGrouped s
    × (target ≡ cell_words xs g) × (value ≡ spell s) × (p ≡ assign (cell_target n xs g) op s)

value_words : (target value : List Word) (a b : List Word) (n : List ℕ) (op q : Assignment) (s : Syntax) → a ≡ word_kind.Name n ∷ word_kind.Key token_kind.OpenRound ∷ target
    → word_kind.Name n ∷ word_kind.Key token_kind.OpenRound ∷ (target ++ operator_word op ∷ value) ≡ a ++ operator_word q ∷ spell s → operator_word op ∷ value ≡ operator_word q ∷ spell s
value_words target value a b n op q s e k =
    append_cancel_left (word_kind.Name n ∷ word_kind.Key token_kind.OpenRound ∷ target) (operator_word op ∷ value) (operator_word q ∷ spell s) (k ∙ ap (λ z. z ++ operator_word q ∷ spell s) e)

cell_of : (n : List ℕ) (target value : List Word) (op : Assignment) (p : Phrase) → IsSet n target op value p → IsCell n target op value p
cell_of n target value op (assign (to_cell m xs) q s) k =
    let v = value_words target value (target_words (to_cell m xs)) [] n op q s k.1 k.0.exact in
    let same : operator_word q ≡ operator_word op = cc in (
      xs,
      None,
      s,
      k.0.well.0,
      k.0.well.1,
      sym (behind_same (word_kind.Name m) (word_kind.Key token_kind.OpenRound) (word_kind.Name n) (word_kind.Key token_kind.OpenRound) (cell_words xs None) target k.1),
      tail_same (operator_word op) (operator_word q) value (spell s) v,
      ap (λ z. assign (to_cell z xs) q s) (first_same n m (word_kind.Key token_kind.OpenRound ∷ target) (word_kind.Key token_kind.OpenRound ∷ cell_words xs None) (sym k.1)) ∙ ap (λ z. assign (to_cell n xs) z s) (operator_one q op same),
    )
cell_of n target value op (assign (to_cell_field m xs g) q s) k =
    let v = value_words target value (target_words (to_cell_field m xs g)) [] n op q s k.1 k.0.exact in
    let same : operator_word q ≡ operator_word op = cc in (
      xs,
      Some g,
      s,
      k.0.well.0,
      k.0.well.1,
      sym (behind_same (word_kind.Name m) (word_kind.Key token_kind.OpenRound) (word_kind.Name n) (word_kind.Key token_kind.OpenRound) (cell_words xs (Some g)) target k.1),
      tail_same (operator_word op) (operator_word q) value (spell s) v,
      ap (λ z. assign (to_cell_field z xs g) q s) (first_same n m (word_kind.Key token_kind.OpenRound ∷ target) (word_kind.Key token_kind.OpenRound ∷ cell_words xs (Some g)) (sym k.1)) ∙ ap (λ z. assign (to_cell_field n xs g) z s) (operator_one q op same),
    )
cell_of n target value op (assign (to_name m) q s) k = let e = k.1 in absurd cc
cell_of n target value op (assign (to_field m g) q s) k = let e = k.1 in absurd cc
cell_of n target value op (assign to_result q s) k = let e = k.1 in absurd cc
cell_of n target value op _ k = absurd k.1

cell_height : (n : List ℕ) (xs : SyntaxList) (g : Option (List ℕ)) (op : Assignment) (s : Syntax)
    → answer (assign (cell_target n xs g) op s) ≡ by_height (max (heights xs) (height s)) (assign_form (cell n (trees xs) g) op (tree s))
cell_height n xs None op s = refl
cell_height n xs (Some g) op s = refl

cell_there : (n : List ℕ) (target value : List Word) (xs : SyntaxList) (g : Option (List ℕ)) (op : Assignment) (s : Syntax) → AreSomeGrouped xs → IsGrouped s
    → target ≡ cell_words xs g → value ≡ spell s → IsSet n target op value (assign (cell_target n xs g) op s)
cell_there n target value xs g op s a d e v = (
  record {
    well = (cell_well n xs g a, d);
    exact = ap (λ z. word_kind.Name n ∷ word_kind.Key token_kind.OpenRound ∷ (z ++ operator_word op ∷ value)) e ∙ ap (λ z. word_kind.Name n ∷ word_kind.Key token_kind.OpenRound ∷ (cell_words xs g ++ operator_word op ∷ z)) v
        ∙ ap (λ z. z ++ operator_word op ∷ spell s) (sym (cell_spelled n xs g));
  },
  cell_spelled n xs g ∙ ap (λ z. word_kind.Name n ∷ word_kind.Key token_kind.OpenRound ∷ z) (sym e),
)

-- the words between the brackets of a target
abbrev pub around : List Word → Option (List ℕ) → List Word
around inside None = inside ++ close
around inside (Some g) = (inside ++ close) ++ word_kind.Key token_kind.Dot ∷ word_kind.Name g ∷ []

around_cell : (inside : List Word) (g : Option (List ℕ)) (xs : SyntaxList) → inside ≡ spell_list xs → around inside g ≡ cell_words xs g
around_cell inside None xs e = ap (λ z. z ++ close) e
around_cell inside (Some g) xs e = ap (λ z. (z ++ close) ++ word_kind.Key token_kind.Dot ∷ word_kind.Name g ∷ []) e

around_same : (inside : List Word) (g h : Option (List ℕ)) (xs : SyntaxList) → around inside g ≡ cell_words xs h → (inside ≡ spell_list xs) × (h ≡ g)
around_same inside None None xs e = (append_cancel_right inside (spell_list xs) close e, refl)
around_same inside None (Some h) xs e =
    let q = snoc_same inside ((spell_list xs ++ close) ++ word_kind.Key token_kind.Dot ∷ []) (word_kind.Key token_kind.CloseRound) (word_kind.Name h) (e ∙ regroup (spell_list xs ++ close) (word_kind.Key token_kind.Dot) (word_kind.Name h)) in
    let r = q.1 in absurd cc
around_same inside (Some g) None xs e =
    let q = snoc_same ((inside ++ close) ++ word_kind.Key token_kind.Dot ∷ []) (spell_list xs) (word_kind.Name g) (word_kind.Key token_kind.CloseRound) (sym (regroup (inside ++ close) (word_kind.Key token_kind.Dot) (word_kind.Name g)) ∙ e) in
    let r = q.1 in absurd cc
around_same inside (Some g) (Some h) xs e =
    let q = snoc_same ((inside ++ close) ++ word_kind.Key token_kind.Dot ∷ []) ((spell_list xs ++ close) ++ word_kind.Key token_kind.Dot ∷ []) (word_kind.Name g) (word_kind.Name h)
    (sym (regroup (inside ++ close) (word_kind.Key token_kind.Dot) (word_kind.Name g)) ∙ e ∙ regroup (spell_list xs ++ close) (word_kind.Key token_kind.Dot) (word_kind.Name h)) in
    let r = q.1 in
    let d = snoc_same (inside ++ close) (spell_list xs ++ close) (word_kind.Key token_kind.Dot) (word_kind.Key token_kind.Dot) q.0 in
    (append_cancel_right inside (spell_list xs) close d.0, cc)

pub set_piece : {E : Type 0} (n m : List ℕ) (target inside value : List Word) (g : Option (List ℕ)) (op : Assignment) → m ≡ n → target ≡ around inside g → (r : Result Form E)
    → IfOk r (TellsCell m g op inside value) → IfOk r (TellsCellSet n target op value)
set_piece n m target inside value g op same e r k =
    embed_ok (AreParts inside value) (λ p. by_height (parts_height p) (with_parts n g op (parts_trees p))) (IsSet n target op value) answer (λ p. assign (cell_target n p.0 g) op p.1)
    (λ p a. cell_there n target value p.0 g op p.1 a.0.grouped a.1.grouped (e ∙ around_cell inside g p.0 a.0.exact) a.1.exact)
    (λ p a. let c = cell_of n target value op p a in
    let q = around_same inside g c.1 c.0 (sym e ∙ c.5) in
    ((c.0, c.2), (record { grouped = c.3; exact = q.0 }, record { grouped = c.4; exact = c.6 }), c.7 ∙ ap (λ z. assign (cell_target n c.0 z) op c.2) q.1))
    (λ p. cell_height n p.0 g op p.1) r (subst (λ z. IfOk r (TellsCell z g op inside value)) same k)

pub no_set : (n : List ℕ) (target value : List Word) (op : Assignment) → ((inside : List Word) → target ≡ inside ++ close → ⊥)
    → ((inside : List Word) (g : List ℕ) → target ≡ inside ++ word_kind.Key token_kind.CloseRound ∷ word_kind.Key token_kind.Dot ∷ word_kind.Name g ∷ [] → ⊥) → TellsCellSet n target op value form_kind.Unknown
no_set n target value op no_cell no_field = tells_none (λ p a. at p (cell_of n target value op p a))
  where
    at : (p : Phrase) → IsCell n target op value p → ⊥
    at p (xs, None, s, a, d, e, v, z) = no_cell (spell_list xs) e
    at p (xs, Some g, s, a, d, e, v, z) = no_field (spell_list xs) g (e ∙ append_assoc (spell_list xs) close (word_kind.Key token_kind.Dot ∷ word_kind.Name g ∷ []))
