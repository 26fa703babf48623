use Rattle.std.proofs.Common.{◌≡◌, ◌≢◌, ℕ, ◌+◌, ◌<◌, ◌≤◌, Bool, true, false, not, ◌&&◌, List, [], ◌∷◌, ◌++◌, length, map, take, drop, Option, Some, None, nat_eq, codes, refl, sym, ap, subst, arith, length-append, length-drop, length-take}
use Rattle.std.proofs.lemmas.Bool.{and_parts, and_from, and_left, and_right, not-true, leb-true, le-leb, eqb-true, eq-eqb}
use Rattle.std.proofs.lemmas.List.{length-map, map-append, take-append-drop}
use Rattle.std.proofs.Math.Seq.{take-append_seam}
use Rattle.std.specs.Cmp.Lexicographic.{same_text}
use Rattle.std.specs.List.{list_all}
use Rattle.std.specs.Str.{str_to_ascii_lowercase}
use Rattle.std.specs.Char.{to_ascii_lowercase}
use Rattle.mos_scan.specs.declared.token.TokenKind.{TokenKind}
use Rattle.mos_scan.specs.Characters.{is_word}
use Rattle.mos_scan.specs.Vocabulary.{Table, ends}
use Rattle.mos_scan.specs.ReservedWords.{same_word, in_one_case, look_up, end_word}
use Rattle.mos_scan.specs.Lexemes.{front_end, is_front, end_at}
use Rattle.mos_scan.proofs.Lists.{on_bool, not_both, all_head, all_tail}

pub same_low : (a b : List ℕ) → same_word a b ≡ true → str_to_ascii_lowercase a ≡ str_to_ascii_lowercase b
unfolding same_word
same_low a b e = same_text _ _ (sym e)

pub same_length : (a b : List ℕ) → same_word a b ≡ true → length a ≡ length b
same_length a b e =
    let h : length (map to_ascii_lowercase a) ≡ length (map to_ascii_lowercase b) = ap length (same_low a b e) in
    simp length-map at h

-- what the first entry that a text begins with says of it
pub record EndFound (table : Table) (bytes : List ℕ) (kind : TokenKind) (n : ℕ) : Type 0 where
  pub tail : ℕ
  pub long : n ≡ tail + 4
  pub fits : n ≤ length bytes
  pub found : look_up table (drop 4 (take n bytes)) ≡ Some kind
  pub cased : in_one_case (take n bytes) ≡ true

abbrev number_of_pair : Option (TokenKind × ℕ) → ℕ
number_of_pair None = 0
number_of_pair (Some x) = x.1

abbrev kind_of_pair : Option (TokenKind × ℕ) → Option TokenKind
kind_of_pair None = None
kind_of_pair (Some x) = Some x.0

tail_length : (n m : ℕ) (bytes : List ℕ) → n ≡ m + 4 → n ≤ length bytes → length (drop 4 (take n bytes)) ≡ m
tail_length n m bytes e h = simp (length-drop, length-take) (omega arith)

pub front_found : (ks : Table) (bytes : List ℕ) (kind : TokenKind) (n : ℕ) → front_end ks bytes ≡ Some (kind, n) → EndFound ks bytes kind n
front_found [] bytes kind n e = cc
front_found (k ∷ ks) bytes kind n e =
    on_bool (is_front k.0 bytes)
    (λ t.
    let h : Some (k.1, length k.0 + 4) ≡ Some (kind, n) = rw t at e in
    let long : length k.0 + 4 ≡ n = ap number_of_pair h in
    let named : Some k.1 ≡ Some kind = ap kind_of_pair h in
    let w = and_parts _ _ t in
    let v = and_parts _ _ w.0 in
    let same : same_word k.0 (drop 4 (take n bytes)) ≡ true = subst (λ x. same_word k.0 (drop 4 (take x bytes)) ≡ true) long v.1 in
    record {
      tail = length k.0;
      long = sym long;
      fits = omega (arith, leb-true _ _ v.0);
      found = rw same named;
      cased = subst (λ x. in_one_case (take x bytes) ≡ true) long w.1;
    })
    (λ f.
    let r : EndFound ks bytes kind n = front_found ks bytes kind n (rw f at e) in
    record {
      tail = r.tail;
      long = r.long;
      fits = r.fits;
      found =
          on_bool (same_word k.0 (drop 4 (take n bytes)))
          (λ s.
          let long : length k.0 + 4 ≡ n = omega (arith, same_length _ _ s, tail_length n r.tail bytes r.long r.fits, r.long) in
          let fits : length k.0 + 4 ≤ length bytes = omega (arith, r.fits) in
          let same : same_word k.0 (drop 4 (take (length k.0 + 4) bytes)) ≡ true = subst (λ x. same_word k.0 (drop 4 (take x bytes)) ≡ true) (sym long) s in
          let cased : in_one_case (take (length k.0 + 4) bytes) ≡ true = subst (λ x. in_one_case (take x bytes) ≡ true) (sym long) r.cased in
          absurd (not_both _ (and_from _ _ (and_from _ _ (le-leb _ _ fits) same) cased) f))
          (λ s. rw s r.found);
      cased = r.cased;
    })

-- where no entry stands at the front, no longer text is one either
pub front_none : (ks : Table) (bytes text rest : List ℕ) → bytes ≡ text ++ rest → 4 ≤ length text → in_one_case text ≡ true → front_end ks bytes ≡ None → look_up ks (drop 4 text) ≡ None
front_none [] bytes text rest e h c n = refl
front_none (k ∷ ks) bytes text rest e h c n =
    on_bool (is_front k.0 bytes)
    (λ t. let x : Some (k.1, length k.0 + 4) ≡ None = rw t at n in cc)
    (λ f.
    on_bool (same_word k.0 (drop 4 text))
    (λ s.
    let long : length k.0 + 4 ≡ length text = omega (arith, same_length _ _ s, length-drop 4 text) in
    let fits : length k.0 + 4 ≤ length bytes = omega (arith, simp length-append at (ap length e)) in
    let it : take (length k.0 + 4) bytes ≡ text = rw (e, long) (take-append_seam text rest) in
    let same : same_word k.0 (drop 4 (take (length k.0 + 4) bytes)) ≡ true = subst (λ x. same_word k.0 (drop 4 x) ≡ true) (sym it) s in
    let cased : in_one_case (take (length k.0 + 4) bytes) ≡ true = subst (λ x. in_one_case x ≡ true) (sym it) c in
    absurd (not_both _ (and_from _ _ (and_from _ _ (le-leb _ _ fits) same) cased) f))
    (λ s. rw s (front_none ks bytes text rest e h c (rw f at n))))

-- where no `end-` word stands at the front, no front is one
pub no_end : (bytes text rest : List ℕ) → bytes ≡ text ++ rest → end_at bytes ≡ None → end_word text ≡ None
unfolding end_at end_word
no_end bytes [] rest e n = refl
no_end bytes (a ∷ []) rest e n = refl
no_end bytes (a ∷ b ∷ []) rest e n = refl
no_end bytes (a ∷ b ∷ c ∷ []) rest e n = refl
no_end bytes (a ∷ b ∷ c ∷ d ∷ tail) rest e n =
    let n' : end_at (a ∷ b ∷ c ∷ d ∷ (tail ++ rest)) ≡ None = subst (λ x. end_at x ≡ None) e n in
    on_bool (nat_eq d 45 && same_word (a ∷ b ∷ c ∷ []) (codes "end"))
    (λ t.
    on_bool (in_one_case (a ∷ b ∷ c ∷ d ∷ tail))
    (λ cased.
    let none : front_end ends (a ∷ b ∷ c ∷ d ∷ (tail ++ rest)) ≡ None = rw t at n' in
    let four : 4 ≤ length (a ∷ b ∷ c ∷ d ∷ tail) = omega arith in
    let gone : look_up ends tail ≡ None = front_none ends (a ∷ b ∷ c ∷ d ∷ (tail ++ rest)) (a ∷ b ∷ c ∷ d ∷ tail) rest refl four cased none in
    rw (t, cased) gone)
    (λ cased. rw (t, cased) refl))
    (λ f. rw f refl)

-- a word without `-` is no `end-` word
pub word_is_no_end : (text : List ℕ) → list_all is_word text ≡ true → end_word text ≡ None
unfolding end_word
word_is_no_end [] h = refl
word_is_no_end (a ∷ []) h = refl
word_is_no_end (a ∷ b ∷ []) h = refl
word_is_no_end (a ∷ b ∷ c ∷ []) h = refl
word_is_no_end (a ∷ b ∷ c ∷ d ∷ tail) h =
    on_bool (nat_eq d 45)
    (λ t.
    let dash : d ≡ 45 = eqb-true _ _ t in
    let last : is_word d ≡ true = all_head is_word d tail (all_tail is_word c (d ∷ tail) (all_tail is_word b (c ∷ d ∷ tail) (all_tail is_word a (b ∷ c ∷ d ∷ tail) h))) in
    let none : is_word 45 ≡ true = subst (λ x. is_word x ≡ true) dash last in
    cc)
    (λ f. rw f refl)

-- ---- no `end-` word goes on behind another

abbrev is_proper : List ℕ → List ℕ → Bool
is_proper [] [] = false
is_proper [] (y ∷ ys) = true
is_proper (x ∷ xs) [] = false
is_proper (x ∷ xs) (y ∷ ys) = nat_eq x y && is_proper xs ys

proper_front : (xs : List ℕ) (y : ℕ) (ys : List ℕ) → is_proper xs (xs ++ y ∷ ys) ≡ true
proper_front [] y ys = refl
proper_front (x ∷ xs) y ys = and_from _ _ (eq-eqb x x refl) (proper_front xs y ys)

abbrev apart : Table → List ℕ → Bool
apart table x = list_all (λ k. not (is_proper x (str_to_ascii_lowercase k.0))) table

abbrev all_apart : Table → Table → Bool
all_apart table ks = list_all (λ k. apart table (str_to_ascii_lowercase k.0)) ks

ends_apart : all_apart ends ends ≡ true
ends_apart = refl

found_among : (table ks : Table) (text : List ℕ) (kind : TokenKind) → look_up ks text ≡ Some kind → all_apart table ks ≡ true → apart table (str_to_ascii_lowercase text) ≡ true
found_among table [] text kind e h = cc
found_among table (k ∷ ks) text kind e h =
    let parts = and_parts (apart table (str_to_ascii_lowercase k.0)) (all_apart table ks) h in
    on_bool (same_word k.0 text)
    (λ s. subst (λ x. apart table x ≡ true) (same_low k.0 text s) parts.0)
    (λ s. found_among table ks text kind (rw s at e) parts.1)

none_beyond : (ks : Table) (x text : List ℕ) → apart ks x ≡ true → is_proper x (str_to_ascii_lowercase text) ≡ true → look_up ks text ≡ None
none_beyond [] x text h p = refl
none_beyond (k ∷ ks) x text h p =
    let parts = and_parts (not (is_proper x (str_to_ascii_lowercase k.0))) (apart ks x) h in
    on_bool (same_word k.0 text)
    (λ s.
    let q : is_proper x (str_to_ascii_lowercase k.0) ≡ true = subst (λ w. is_proper x w ≡ true) (sym (same_low k.0 text s)) p in
    absurd (not_both _ q (not-true _ parts.0)))
    (λ s. rw s (none_beyond ks x text parts.1 p))

end_over : (text more : List ℕ) (kind : TokenKind) → look_up ends text ≡ Some kind → more ≢ [] → look_up ends (text ++ more) ≡ None
end_over text [] kind e n = absurd (n refl)
end_over text (m ∷ ms) kind e n =
    let low : str_to_ascii_lowercase (text ++ m ∷ ms) ≡ str_to_ascii_lowercase text ++ str_to_ascii_lowercase (m ∷ ms) = map-append to_ascii_lowercase text (m ∷ ms) in
    none_beyond ends (str_to_ascii_lowercase text) (text ++ m ∷ ms) (found_among ends ends text kind e ends_apart)
    (rw low (proper_front (str_to_ascii_lowercase text) (to_ascii_lowercase m) (str_to_ascii_lowercase ms)))

-- ---- an `end-` word

pub record EndToken (text : List ℕ) (kind : TokenKind) : Type 0 where
  pub form : end_word text ≡ Some kind
  pub over : (more : List ℕ) → more ≢ [] → end_word (text ++ more) ≡ None
  pub mixed : (more : List ℕ) → list_all is_word (text ++ more) ≡ false

end_here : (text rest : List ℕ) (kind : TokenKind) (n : ℕ) → end_at (text ++ rest) ≡ Some (kind, n) → 4 ≤ length text → look_up ends (drop 4 text) ≡ Some kind → in_one_case text ≡ true → EndToken text kind
unfolding end_at end_word
end_here [] rest kind n e h found cased = absurd (omega arith)
end_here (a ∷ []) rest kind n e h found cased = absurd (omega arith)
end_here (a ∷ b ∷ []) rest kind n e h found cased = absurd (omega arith)
end_here (a ∷ b ∷ c ∷ []) rest kind n e h found cased = absurd (omega arith)
end_here (a ∷ b ∷ c ∷ d ∷ tail) rest kind n e h found cased =
    on_bool (nat_eq d 45 && same_word (a ∷ b ∷ c ∷ []) (codes "end"))
    (λ t.
    let dash : d ≡ 45 = eqb-true _ _ (and_parts _ _ t).0 in
    let no : is_word d ≡ false = rw dash refl in
    record {
      form = rw (t, cased) found;
      over = λ more some.
          on_bool (in_one_case (a ∷ b ∷ c ∷ d ∷ (tail ++ more)))
          (λ w. rw (t, w) (end_over tail more kind found some))
          (λ w. rw (t, w) refl);
      mixed = λ more. and_right (is_word a) _ (and_right (is_word b) _ (and_right (is_word c) _ (and_left (is_word d) (list_all is_word (tail ++ more)) no)));
    })
    (λ f. let x : None ≡ Some (kind, n) = rw f at e in cc)

end_front : (bytes : List ℕ) (kind : TokenKind) (n : ℕ) → end_at bytes ≡ Some (kind, n) → front_end ends bytes ≡ Some (kind, n)
unfolding end_at
end_front [] kind n e = cc
end_front (a ∷ []) kind n e = cc
end_front (a ∷ b ∷ []) kind n e = cc
end_front (a ∷ b ∷ c ∷ []) kind n e = cc
end_front (a ∷ b ∷ c ∷ d ∷ tail) kind n e =
    on_bool (nat_eq d 45 && same_word (a ∷ b ∷ c ∷ []) (codes "end"))
    (λ t. rw t at e)
    (λ f. let x : None ≡ Some (kind, n) = rw f at e in cc)

-- what stands at the front, as an `end-` word of its length
pub record EndAt (bytes : List ℕ) (kind : TokenKind) (n : ℕ) : Type 0 where
  pub fits : n ≤ length bytes
  pub some : 0 < n
  pub is : EndToken (take n bytes) kind

pub end_token : (bytes : List ℕ) (kind : TokenKind) (n : ℕ) → end_at bytes ≡ Some (kind, n) → EndAt bytes kind n
end_token bytes kind n e =
    let r : EndFound ends bytes kind n = front_found ends bytes kind n (end_front bytes kind n e) in
    let whole : bytes ≡ take n bytes ++ drop n bytes = sym (take-append-drop n bytes) in
    let long : 4 ≤ length (take n bytes) = simp length-take (omega (arith, r.fits, r.long)) in
    record {
      fits = r.fits;
      some = omega (arith, r.long);
      is = end_here (take n bytes) (drop n bytes) kind n (subst (λ x. end_at x ≡ Some (kind, n)) whole e) long r.found r.cased;
    }
