-- No expression is cut: brackets in it are closed, and commas in it stand inside brackets; and no word that parts a piece
-- stands in it.

use Rattle.std.proofs.Common.{◌≡◌, ℕ, ◌+◌, ◌-◌, Bool, true, false, ◌&&◌, nat_eq, List, [], ◌∷◌, ◌++◌, Some, None, refl, sym, ◌∙◌, ap, subst, arith, append_assoc}
use Rattle.std.proofs.lemmas.Bool.{ne_eqb}
use Rattle.std.specs.List.{list_all}
use Rattle.std.proofs.lemmas.List.{append-nil}
use Rattle.std.proofs.lemmas.List.Folds.{list_all-append}
use Rattle.mos_tree.specs.declared.expr.UnaryOperator.{UnaryOperator}
use Rattle.mos_tree.specs.declared.expr.UnaryOperator.TheVariants as unary_operator
use Rattle.mos_tree.specs.declared.expr.BinaryOperator.{BinaryOperator}
use Rattle.mos_tree.specs.declared.expr.BinaryOperator.TheVariants as binary_operator
use Rattle.mos_tree.specs.declared.expr.AggregateOperator.{AggregateOperator}
use Rattle.mos_tree.specs.declared.expr.AggregateOperator.TheVariants as aggregate_operator
use Rattle.mos_tree.specs.declared.expr.Conversion.{Conversion}
use Rattle.mos_tree.specs.declared.expr.Conversion.TheVariants as conversion
use Rattle.mos_scan.specs.declared.token.TokenKind.TheVariants as token_kind
use Rattle.mos_scan.specs.declared.grammar_word.Word.{Word}
use Rattle.mos_scan.specs.declared.grammar_word.Word.TheVariants as word_kind
use Rattle.mos_expr.specs.Grammar.{Leaf, truth, field, Names, one_name, and_name, Syntax, leaf, call, call_field, set, list, bracket, if_expr, convert, before, between, aggregate, counted, SyntaxList, no_syntax, syntax_then, IndexSyntax, last_set, such_that, another, spell_leaf, spell_before, spell_between, spell_aggregate, spell_conversion, spell_names, spell, spell_list, spell_rest, spell_index}
use Rattle.mos_typing.proofs.Cases.{on_bool}
use Rattle.mos_typing.specs.PhraseWords.{is_plain}
use Rattle.mos_typing.specs.declared.cut.Mark.{Mark}
use Rattle.mos_typing.specs.declared.cut.Mark.TheVariants as marks
use Rattle.mos_typing.specs.Cutting.{Halves, ahead, halves_at, depth_behind, token_at, is_mark}

-- the words are not cut, and are all of this kind; so many brackets are open before them, and so many behind them
pub record Goes (kind : Word → Bool) (from : ℕ) (words : List Word) (to : ℕ) : Type 0 where
  pub on : (rest : List Word) → halves_at marks.Comma from (words ++ rest) ≡ ahead words (halves_at marks.Comma to rest)
  pub all : list_all kind words ≡ true

-- any word
abbrev pub any : Word → Bool
any x = true

all_any : (words : List Word) → list_all any words ≡ true
all_any [] = refl
all_any (x ∷ xs) = all_any xs

pub loose : (d e : ℕ) (words : List Word) → Goes is_plain d words e → Goes any d words e
loose d e words g = record { on = g.on; all = all_any words }

ahead_ahead : (xs ys : List Word) (q : Halves) → ahead xs (ahead ys q) ≡ ahead (xs ++ ys) q
ahead_ahead xs ys None = refl
ahead_ahead xs ys (Some q) = ap (λ z. Some (z, q.1)) (sym (append_assoc xs ys q.0))

ahead_none : (q : Halves) → ahead [] q ≡ q
ahead_none None = refl
ahead_none (Some q) = refl

pub nothing : {p : Word → Bool} (d : ℕ) → Goes p d [] d
nothing d = record { on = λ rest. sym (ahead_none (halves_at marks.Comma d rest)); all = refl }

pub joined : {p : Word → Bool} (d e f : ℕ) (xs ys : List Word) → Goes p d xs e → Goes p e ys f → Goes p d (xs ++ ys) f
joined {p = p} d e f xs ys h k = record {
  on = λ rest. ap (halves_at marks.Comma d) (append_assoc xs ys rest) ∙ h.on (ys ++ rest) ∙ ap (ahead xs) (k.on rest) ∙ ahead_ahead xs ys (halves_at marks.Comma f rest);
  all = list_all-append p xs ys ∙ rw (h.all, k.all) refl;
}

pub led : {p : Word → Bool} (d e f : ℕ) (x : Word) (xs : List Word) → Goes p d (x ∷ []) e → Goes p e xs f → Goes p d (x ∷ xs) f
led d e f x xs h k = joined d e f (x ∷ []) xs h k

-- words inside a bracket that is closed then
pub closed : {p : Word → Bool} (d : ℕ) (x : Word) (xs ys : List Word) → Goes p d (x ∷ []) (d + 1) → Goes p (d + 1) xs (d + 1) → Goes p (d + 1) ys d → Goes p d (x ∷ (xs ++ ys)) d
closed d x xs ys o h k = led d (d + 1) d x (xs ++ ys) o (joined (d + 1) (d + 1) d xs ys h k)

pub comma : {p : Word → Bool} (d : ℕ) → p (word_kind.Key token_kind.Comma) ≡ true → Goes p (d + 1) (word_kind.Key token_kind.Comma ∷ []) (d + 1)
comma d k = let e : nat_eq (d + 1) 0 ≡ false = ne_eqb (d + 1) 0 (omega arith) in record { on = λ rest. rw e refl; all = rw k refl }

-- a word that is no comma
pub other : {p : Word → Bool} (d : ℕ) (x : Word) → is_mark marks.Comma x ≡ false → p x ≡ true → Goes p d (x ∷ []) (depth_behind x d)
other d x h k = record { on = λ rest. on_bool (nat_eq d 0) (λ e. rw (e, h) refl) (λ e. rw e refl); all = rw k refl }

pub open_round : {p : Word → Bool} (d : ℕ) → p (word_kind.Key token_kind.OpenRound) ≡ true → Goes p d (word_kind.Key token_kind.OpenRound ∷ []) (d + 1)
open_round d k = other d (word_kind.Key token_kind.OpenRound) refl k

pub close : {p : Word → Bool} (d : ℕ) (x : Word) → is_mark marks.Comma x ≡ false → depth_behind x (d + 1) ≡ d + 1 - 1 → p x ≡ true → Goes p (d + 1) (x ∷ []) d
close {p = p} d x h k l = let e : depth_behind x (d + 1) ≡ d = k ∙ omega arith in subst (λ to. Goes p (d + 1) (x ∷ []) to) e (other (d + 1) x h l)

-- a word that is neither a comma nor a bracket
pub same : {p : Word → Bool} (d : ℕ) (x : Word) → is_mark marks.Comma x ≡ false → depth_behind x d ≡ d → p x ≡ true → Goes p d (x ∷ []) d
same {p = p} d x h k l = subst (λ to. Goes p d (x ∷ []) to) k (other d x h l)

-- ---- the parts of an expression

name_goes : (d : ℕ) (n : List ℕ) → Goes is_plain d (word_kind.Name n ∷ []) d
name_goes d n = same d (word_kind.Name n) refl refl refl

leaf_goes : (d : ℕ) (x : Leaf) → Goes is_plain d (spell_leaf x) d
leaf_goes d (truth false) = same d (word_kind.Key token_kind.False) refl refl refl
leaf_goes d (field n f) = led d d d (word_kind.Name n) _ (name_goes d n) (led d d d (word_kind.Key token_kind.Dot) (word_kind.Name f ∷ []) (same d (word_kind.Key token_kind.Dot) refl refl refl) (name_goes d f))
leaf_goes d _ = same d _ refl refl refl

before_goes : (d : ℕ) (p : UnaryOperator) → Goes is_plain d (spell_before p ∷ []) d
before_goes d unary_operator.Minus = same d _ refl refl refl
before_goes d _ = same d _ refl refl refl

between_goes : (d : ℕ) (p : BinaryOperator) → Goes is_plain d (spell_between p) d
between_goes d binary_operator.NotIn = led d d d (word_kind.Key token_kind.Not) (word_kind.Key token_kind.In ∷ []) (same d (word_kind.Key token_kind.Not) refl refl refl) (same d (word_kind.Key token_kind.In) refl refl refl)
between_goes d _ = same d _ refl refl refl

aggregate_goes : (d : ℕ) (p : AggregateOperator) → Goes is_plain d (spell_aggregate p ∷ []) d
aggregate_goes d aggregate_operator.Sum = same d _ refl refl refl
aggregate_goes d _ = same d _ refl refl refl

conversion_goes : (d : ℕ) (p : Conversion) → Goes is_plain d (spell_conversion p ∷ []) d
conversion_goes d conversion.Integer = same d (word_kind.Key token_kind.Integer) refl refl refl
conversion_goes d conversion.Text = same d (word_kind.Key token_kind.StringWord) refl refl refl

pub names_go : (d : ℕ) (ns : Names) → Goes is_plain (d + 1) (spell_names ns) (d + 1)
names_go d (one_name n) = name_goes (d + 1) n
names_go d (and_name n ns) = led (d + 1) (d + 1) (d + 1) (word_kind.Name n) _ (name_goes (d + 1) n) (led (d + 1) (d + 1) (d + 1) (word_kind.Key token_kind.Comma) (spell_names ns) (comma d refl) (names_go d ns))

-- words in round brackets, and what stands behind them
round : (d : ℕ) (xs ys : List Word) → Goes is_plain (d + 1) xs (d + 1) → Goes is_plain d ys d → Goes is_plain d (word_kind.Key token_kind.OpenRound ∷ (xs ++ word_kind.Key token_kind.CloseRound ∷ ys)) d
round d xs ys h k = closed d (word_kind.Key token_kind.OpenRound) xs (word_kind.Key token_kind.CloseRound ∷ ys) (open_round d refl) h (led (d + 1) d d (word_kind.Key token_kind.CloseRound) ys (close d (word_kind.Key token_kind.CloseRound) refl refl refl) k)

-- words, a comma, and more words, inside brackets
with_comma : (d : ℕ) (xs ys : List Word) → Goes is_plain (d + 1) xs (d + 1) → Goes is_plain (d + 1) ys (d + 1) → Goes is_plain (d + 1) (xs ++ word_kind.Key token_kind.Comma ∷ ys) (d + 1)
with_comma d xs ys h k = joined (d + 1) (d + 1) (d + 1) xs (word_kind.Key token_kind.Comma ∷ ys) h (led (d + 1) (d + 1) (d + 1) (word_kind.Key token_kind.Comma) ys (comma d refl) k)

choice_goes : (d : ℕ) (xs ys zs : List Word) → Goes is_plain (d + 1) xs (d + 1) → Goes is_plain (d + 1) ys (d + 1) → Goes is_plain (d + 1) zs (d + 1) → Goes is_plain (d + 1) (xs ++ word_kind.Key token_kind.Comma ∷ (ys ++ word_kind.Key token_kind.Comma ∷ (zs ++ word_kind.Key token_kind.CloseRound ∷ []))) d
choice_goes d xs ys zs h k l =
    let last : Goes is_plain (d + 1) (zs ++ word_kind.Key token_kind.CloseRound ∷ []) d = joined (d + 1) (d + 1) d zs (word_kind.Key token_kind.CloseRound ∷ []) l (close d (word_kind.Key token_kind.CloseRound) refl refl refl) in
    let more : Goes is_plain (d + 1) (ys ++ word_kind.Key token_kind.Comma ∷ (zs ++ word_kind.Key token_kind.CloseRound ∷ [])) d = joined (d + 1) (d + 1) d ys _ k (led (d + 1) (d + 1) d (word_kind.Key token_kind.Comma) _ (comma d refl) last) in
    joined (d + 1) (d + 1) d xs _ h (led (d + 1) (d + 1) d (word_kind.Key token_kind.Comma) _ (comma d refl) more)

mutual
  pub syntax_goes : (d : ℕ) (s : Syntax) → Goes is_plain d (spell s) d
  syntax_goes d (leaf x) = leaf_goes d x
  syntax_goes d (call n xs) = led d d d (word_kind.Name n) _ (name_goes d n) (round d (spell_list xs) [] (list_goes d xs) (nothing d))
  syntax_goes d (call_field n xs f) =
      led d d d (word_kind.Name n) _ (name_goes d n)
      (round d (spell_list xs) (word_kind.Key token_kind.Dot ∷ word_kind.Name f ∷ []) (list_goes d xs) (led d d d (word_kind.Key token_kind.Dot) (word_kind.Name f ∷ []) (same d (word_kind.Key token_kind.Dot) refl refl refl) (name_goes d f)))
  syntax_goes d (set xs) = closed d (word_kind.Key token_kind.OpenCurly) (spell_list xs) (word_kind.Key token_kind.CloseCurly ∷ []) (other d (word_kind.Key token_kind.OpenCurly) refl refl) (list_goes d xs) (close d (word_kind.Key token_kind.CloseCurly) refl refl refl)
  syntax_goes d (list xs) = closed d (word_kind.Key token_kind.OpenSquare) (spell_list xs) (word_kind.Key token_kind.CloseSquare ∷ []) (other d (word_kind.Key token_kind.OpenSquare) refl refl) (list_goes d xs) (close d (word_kind.Key token_kind.CloseSquare) refl refl refl)
  syntax_goes d (bracket s) = round d (spell s) [] (syntax_goes (d + 1) s) (nothing d)
  syntax_goes d (if_expr x y z) =
      led d d d (word_kind.Key token_kind.If) _ (same d (word_kind.Key token_kind.If) refl refl refl)
      (led d (d + 1) d (word_kind.Key token_kind.OpenRound) _ (open_round d refl) (choice_goes d (spell x) (spell y) (spell z) (syntax_goes (d + 1) x) (syntax_goes (d + 1) y) (syntax_goes (d + 1) z)))
  syntax_goes d (convert p s) = led d d d (spell_conversion p) _ (conversion_goes d p) (round d (spell s) [] (syntax_goes (d + 1) s) (nothing d))
  syntax_goes d (before p s) = led d d d (spell_before p) (spell s) (before_goes d p) (syntax_goes d s)
  syntax_goes d (between p x y) = joined d d d (spell x) (spell_between p ++ spell y) (syntax_goes d x) (joined d d d (spell_between p) (spell y) (between_goes d p) (syntax_goes d y))
  syntax_goes d (aggregate p i s) = led d d d (spell_aggregate p) _ (aggregate_goes d p) (round d (spell_index i) (spell s) (over_goes d i) (syntax_goes d s))
  syntax_goes d (counted i) = led d d d (word_kind.Key token_kind.Count) _ (same d (word_kind.Key token_kind.Count) refl refl refl) (round d (spell_index i) [] (over_goes d i) (nothing d))

  pub list_goes : (d : ℕ) (ss : SyntaxList) → Goes is_plain (d + 1) (spell_list ss) (d + 1)
  list_goes d no_syntax = nothing (d + 1)
  list_goes d (syntax_then s ss) = joined (d + 1) (d + 1) (d + 1) (spell s) (spell_rest ss) (syntax_goes (d + 1) s) (rest_goes d ss)

  rest_goes : (d : ℕ) (ss : SyntaxList) → Goes is_plain (d + 1) (spell_rest ss) (d + 1)
  rest_goes d no_syntax = nothing (d + 1)
  rest_goes d (syntax_then s ss) = led (d + 1) (d + 1) (d + 1) (word_kind.Key token_kind.Comma) _ (comma d refl) (joined (d + 1) (d + 1) (d + 1) (spell s) (spell_rest ss) (syntax_goes (d + 1) s) (rest_goes d ss))

  pub over_goes : (d : ℕ) (i : IndexSyntax) → Goes is_plain (d + 1) (spell_index i) (d + 1)
  over_goes d (last_set ns s) = joined (d + 1) (d + 1) (d + 1) (spell_names ns) _ (names_go d ns) (led (d + 1) (d + 1) (d + 1) (word_kind.Key token_kind.In) (spell s) (same (d + 1) (word_kind.Key token_kind.In) refl refl refl) (syntax_goes (d + 1) s))
  over_goes d (such_that ns s k) =
      joined (d + 1) (d + 1) (d + 1) (spell_names ns) _ (names_go d ns)
      (led (d + 1) (d + 1) (d + 1) (word_kind.Key token_kind.In) _ (same (d + 1) (word_kind.Key token_kind.In) refl refl refl)
      (joined (d + 1) (d + 1) (d + 1) (spell s) _ (syntax_goes (d + 1) s) (led (d + 1) (d + 1) (d + 1) (word_kind.Key token_kind.Bar) (spell k) (same (d + 1) (word_kind.Key token_kind.Bar) refl refl refl) (syntax_goes (d + 1) k))))
  over_goes d (another ns s i) =
      joined (d + 1) (d + 1) (d + 1) (spell_names ns) _ (names_go d ns)
      (led (d + 1) (d + 1) (d + 1) (word_kind.Key token_kind.In) _ (same (d + 1) (word_kind.Key token_kind.In) refl refl refl) (with_comma d (spell s) (spell_index i) (syntax_goes (d + 1) s) (over_goes d i)))

-- ---- what is cut

and_true : (a b : Bool) → (a && b) ≡ true → b ≡ true
and_true true b e = e
and_true false b e = cc

mark_is : (mark : Mark) (x : Word) → is_mark mark x ≡ true → x ≡ word_kind.Key (token_at mark)
mark_is marks.Comma (word_kind.Key token_kind.Comma) e = refl
mark_is marks.Colon (word_kind.Key token_kind.Colon) e = refl
mark_is _ _ e = cc

cut_more : (y x : Word) (xs : List Word) (q : Halves) (first rest : List Word) → ((a b : List Word) → q ≡ Some (a, b) → xs ≡ a ++ y ∷ b) → ahead (x ∷ []) q ≡ Some (first, rest) → x ∷ xs ≡ first ++ y ∷ rest
cut_more y x xs None first rest known e = cc
cut_more y x xs (Some (a, b)) first rest known e =
    let p : List Word × List Word = (x ∷ a, b) in
    let o : p ≡ (first, rest) = cc in
    ap (λ z. x ∷ z) (known a b refl) ∙ ap (λ (z : List Word × List Word). z.0 ++ y ∷ z.1) o

-- the parts of what is cut
pub cut_sound : (mark : Mark) (d : ℕ) (words first rest : List Word) → halves_at mark d words ≡ Some (first, rest) → words ≡ first ++ word_kind.Key (token_at mark) ∷ rest
cut_sound mark d [] first rest e = cc
cut_sound mark d (x ∷ xs) first rest e = on_bool (nat_eq d 0 && is_mark mark x)
    (λ h.
    let p : Some ([], xs) ≡ Some (first, rest) = rw h at e in
    let l : List Word × List Word = ([], xs) in
    let o : l ≡ (first, rest) = cc in
    rw (mark_is mark x (and_true (nat_eq d 0) (is_mark mark x) h)) (ap (λ (z : List Word × List Word). z.0 ++ word_kind.Key (token_at mark) ∷ z.1) o))
    (λ h. cut_more (word_kind.Key (token_at mark)) x xs (halves_at mark (depth_behind x d) xs) first rest (cut_sound mark (depth_behind x d) xs) (rw h at e))

-- words that are not cut, alone and before a comma
pub cut_none : (words : List Word) → Goes any 0 words 0 → halves_at marks.Comma 0 words ≡ None
cut_none words g = ap (halves_at marks.Comma 0) (sym (append-nil words)) ∙ g.on []

pub cut_at : (words rest : List Word) → Goes any 0 words 0 → halves_at marks.Comma 0 (words ++ word_kind.Key token_kind.Comma ∷ rest) ≡ Some (words, rest)
cut_at words rest g = g.on (word_kind.Key token_kind.Comma ∷ rest) ∙ ap (λ z. Some (z, rest)) (append-nil words)

-- the names before a colon
pub colon_at : (ns : Names) (rest : List Word) → halves_at marks.Colon 0 (spell_names ns ++ word_kind.Key token_kind.Colon ∷ rest) ≡ Some (spell_names ns, rest)
colon_at (one_name n) rest = refl
colon_at (and_name n ns) rest = ap (λ z. ahead (word_kind.Name n ∷ []) (ahead (word_kind.Key token_kind.Comma ∷ []) z)) (colon_at ns rest)
