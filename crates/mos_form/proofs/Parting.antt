-- Words that are cut in one way only.

use Rattle.std.proofs.Common.{◌≡◌, ℕ, suc, ◌+◌, Bool, true, false, List, [], ◌∷◌, ◌++◌, length, take, drop, min, max, Some, None, refl, sym, ◌∙◌, ap, subst, arith}
use Rattle.std.specs.List.{prefix_len}
use Rattle.std.proofs.lemmas.List.{append_assoc, take-append-drop}
use Rattle.std.proofs.lemmas.List.Folds.{list_all-append}
use Rattle.std.proofs.lemmas.List.Sums.{prefix_len-le-length}
use Rattle.mos_tree.specs.declared.statement.Assignment.{Assignment}
use Rattle.mos_tree.specs.declared.statement.Assignment.TheVariants as assignment
use Rattle.mos_scan.specs.declared.token.TokenKind.TheVariants as token_kind
use Rattle.mos_scan.specs.declared.grammar_word.Word.{Word}
use Rattle.mos_scan.specs.declared.grammar_word.Word.TheVariants as word_kind
use Rattle.mos_expr.specs.Grammar.{before}
use Rattle.mos_typing.specs.PhraseWords.{is_plain, ArePlain}
use Rattle.mos_form.specs.Cuts.{operator_of}
use Rattle.mos_form.specs.Phrases.{operator_word}
use Rattle.mos_form.proofs.Telling.{on_bool}

-- ---- at the end

pub snoc_same : (xs ys : List Word) (x y : Word) → xs ++ x ∷ [] ≡ ys ++ y ∷ [] → (xs ≡ ys) × (x ≡ y)
snoc_same [] [] x y e = (refl, cc)
snoc_same [] (b ∷ []) x y e = absurd cc
snoc_same [] (b ∷ c ∷ ys) x y e = absurd cc
snoc_same (a ∷ []) [] x y e = absurd cc
snoc_same (a ∷ c ∷ xs) [] x y e = absurd cc
snoc_same (a ∷ xs) (b ∷ ys) x y e =
    let q = snoc_same xs ys x y cc in
    let p : a ≡ b = cc in
    let r = q.0 in
    (cc, q.1)

pub regroup : (xs : List Word) (a b : Word) → xs ++ a ∷ b ∷ [] ≡ (xs ++ a ∷ []) ++ b ∷ []
regroup xs a b = sym (append_assoc xs (a ∷ []) (b ∷ []))

pub regroup_three : (xs : List Word) (a b d : Word) → xs ++ a ∷ b ∷ d ∷ [] ≡ ((xs ++ a ∷ []) ++ b ∷ []) ++ d ∷ []
regroup_three xs a b d = sym (append_assoc xs (a ∷ []) (b ∷ d ∷ [])) ∙ regroup (xs ++ a ∷ []) b d

-- ---- the words before the first that is not plain

more_than : (n : ℕ) → 1 + n ≡ suc n
more_than n = omega arith

length_true : (x : Word) (xs : List Word) → is_plain x ≡ true → prefix_len is_plain (x ∷ xs) ≡ suc (prefix_len is_plain xs)
length_true x xs e = rw e (more_than (prefix_len is_plain xs))

pub plain_front : (xs : List Word) → ArePlain (take (prefix_len is_plain xs) xs)
plain_front [] = refl
plain_front (x ∷ xs) = on_bool (is_plain x)
    (λ e. rw (length_true x xs e) (rw e (plain_front xs)))
    (λ e. let zero_long : prefix_len is_plain (x ∷ xs) ≡ 0 = rw e refl in rw zero_long refl)

from_here : (x : Word) (xs ys : List Word) → is_plain x ≡ false → drop (prefix_len is_plain (x ∷ xs)) (x ∷ xs) ≡ ys → x ∷ xs ≡ ys
from_here x xs ys e h =
    let zero_long : prefix_len is_plain (x ∷ xs) ≡ 0 = rw e refl in
    ap (λ n. drop n (x ∷ xs)) (sym zero_long) ∙ h

from_next : (x : Word) (xs ys : List Word) → is_plain x ≡ true → drop (prefix_len is_plain (x ∷ xs)) (x ∷ xs) ≡ ys → drop (prefix_len is_plain xs) xs ≡ ys
from_next x xs ys e h = ap (λ n. drop n (x ∷ xs)) (sym (length_true x xs e)) ∙ h

pub not_plain : (xs : List Word) (y : Word) (ys : List Word) → drop (prefix_len is_plain xs) xs ≡ y ∷ ys → is_plain y ≡ false
not_plain [] y ys h = absurd cc
not_plain (x ∷ xs) y ys h = on_bool (is_plain x)
    (λ e. not_plain xs y ys (from_next x xs (y ∷ ys) e h))
    (λ e. let q = from_here x xs (y ∷ ys) e h in let p : x ≡ y = cc in subst (λ z. is_plain z ≡ false) p e)

pub all_plain : (xs : List Word) → drop (prefix_len is_plain xs) xs ≡ [] → ArePlain xs
all_plain [] h = refl
all_plain (x ∷ xs) h = on_bool (is_plain x)
    (λ e. rw e (all_plain xs (from_next x xs [] e h)))
    (λ e. let q = from_here x xs [] e h in absurd cc)

-- plain words one behind the other
pub plain_join : (xs ys : List Word) → ArePlain xs → ArePlain ys → ArePlain (xs ++ ys)
plain_join xs ys h k = list_all-append is_plain xs ys ∙ rw (h, k) refl

pub plain_head : (x : Word) (xs : List Word) → ArePlain (x ∷ xs) → is_plain x ≡ true
plain_head x xs h = at (is_plain x) refl
  where
    at : (b : Bool) → is_plain x ≡ b → is_plain x ≡ true
    at true e = e
    at false e = let q : false ≡ true = sym (rw e refl) ∙ h in absurd cc

pub plain_tail : (x : Word) (xs : List Word) → ArePlain (x ∷ xs) → ArePlain xs
plain_tail x xs h = let e = plain_head x xs h in sym (rw e refl) ∙ h

-- plain words before one that is not are the first ones
pub one_cut : (xs us : List Word) (x u : Word) (ys vs : List Word) → ArePlain xs → ArePlain us → is_plain x ≡ false → is_plain u ≡ false
    → xs ++ x ∷ ys ≡ us ++ u ∷ vs → (xs ≡ us) × (x ≡ u) × (ys ≡ vs)
one_cut [] [] x u ys vs h k m n e = (refl, cc, cc)
one_cut [] (a ∷ us) x u ys vs h k m n e =
    let q : x ≡ a = cc in
    let p = plain_head a us k in
    absurd cc
one_cut (a ∷ xs) [] x u ys vs h k m n e =
    let q : a ≡ u = cc in
    let p = plain_head a xs h in
    absurd cc
one_cut (a ∷ xs) (b ∷ us) x u ys vs h k m n e =
    let r = one_cut xs us x u ys vs (plain_tail a xs h) (plain_tail b us k) m n cc in
    let p = r.0 in
    let q : a ≡ b = cc in
    (cc, r.1, r.2)

-- ---- what assigns

pub operator_known : (x : Word) (op : Assignment) → Some op ≡ operator_of x → x ≡ operator_word op
operator_known (word_kind.Key token_kind.Assign) op e = let q : op ≡ assignment.Set = cc in rw q refl
operator_known (word_kind.Key token_kind.AddAssign) op e = let q : op ≡ assignment.Add = cc in rw q refl
operator_known (word_kind.Key token_kind.TakeAssign) op e = let q : op ≡ assignment.Take = cc in rw q refl
operator_known _ op e = absurd cc

pub operator_read : (op : Assignment) → operator_of (operator_word op) ≡ Some op
operator_read assignment.Set = refl
operator_read _ = refl

pub operator_none : (x : Word) → None ≡ operator_of x → (op : Assignment) → x ≡ operator_word op → ⊥
operator_none x e op q = let r : None ≡ Some op = e ∙ ap operator_of q ∙ operator_read op in cc

pub operator_parts : (op : Assignment) → is_plain (operator_word op) ≡ false
operator_parts assignment.Set = refl
operator_parts _ = refl

-- ---- what the cut gives

same_length : (xs : List Word) (n m : ℕ) → n ≡ prefix_len is_plain xs → m ≡ min n (length xs) → m ≡ prefix_len is_plain xs
same_length xs n m e f = omega (arith, prefix_len-le-length is_plain xs, e, f)

pub parted_some : (xs front rest behind : List Word) (x : Word) (n m : ℕ) → n ≡ prefix_len is_plain xs → m ≡ min n (length xs)
    → front ≡ take m xs → rest ≡ drop m xs → rest ≡ x ∷ behind → ArePlain front × (is_plain x ≡ false) × (xs ≡ front ++ x ∷ behind)
parted_some xs front rest behind x n m e f b r s =
    let q = same_length xs n m e f in (
      subst ArePlain (sym (b ∙ ap (λ z. take z xs) q)) (plain_front xs),
      not_plain xs x behind (ap (λ z. drop z xs) (sym q) ∙ sym r ∙ s),
      sym (take-append-drop m xs) ∙ ap (λ z. z ++ drop m xs) (sym b) ∙ ap (λ z. front ++ z) (sym r ∙ s),
    )

pub parted_none : (xs rest : List Word) (n m : ℕ) → n ≡ prefix_len is_plain xs → m ≡ min n (length xs) → rest ≡ drop m xs → rest ≡ [] → ArePlain xs
parted_none xs rest n m e f r s = all_plain xs (ap (λ z. drop z xs) (sym (same_length xs n m e f)) ∙ sym r ∙ s)

pub operator_same : (x : Word) (a b : Assignment) → Some a ≡ operator_of x → x ≡ operator_word b → b ≡ a
operator_same x a b e q = let r : Some a ≡ Some b = e ∙ ap operator_of q ∙ operator_read b in cc

pub zero_max : (h : ℕ) → max 0 h ≡ h
zero_max h = omega arith
