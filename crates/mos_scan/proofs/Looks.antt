use Rattle.std.proofs.Common.{◌≡◌, ◌≢◌, ℕ, zero, suc, ◌+◌, ◌<◌, nat_eq, Bool, true, false, not, ◌&&◌, List, [], ◌∷◌, ◌++◌, length, take, drop, Option, Some, None, unwrap_or, refl, sym, ◌∙◌, ap, subst, arith, append_assoc, length-append}
use Rattle.std.proofs.lemmas.Bool.{ne_eqb, eq-eqb}
use Rattle.std.proofs.lemmas.List.{take-append-drop, append-nil, length-take-le}
use Rattle.std.proofs.Math.Seq.{take-append_seam, drop-append_seam}
use Rattle.std.specs.List.{list_all, prefix_len}
use Rattle.std.specs.Char.{is_ascii_digit}
use Rattle.mos_scan.specs.declared.token.TokenKind.{TokenKind}
use Rattle.mos_scan.specs.declared.token.TokenKind.TheVariants as token_kind
use Rattle.mos_text.specs.declared.kind.Kind.TheVariants as error_kind
use Rattle.mos_scan.specs.Characters.{begins_name, is_word, is_quote}
use Rattle.mos_scan.specs.ReservedWords.{end_word, plain_word, is_refused}
use Rattle.mos_scan.specs.Tokens.{begins_with, closing_quote, one_byte, two_bytes, symbol, kind_of, fault_at, word_fault, text_fault, symbol_fault}
use Rattle.mos_scan.specs.Lexemes.{end_at, Longest, token_at, word_at, end_or_word, two_or_one, symbol_at, quoted_at}
use Rattle.mos_scan.proofs.Lists.{on_bool, Run, run_of, run_over}
use Rattle.mos_scan.proofs.Ends.{EndAt, end_token, no_end, word_is_no_end}

-- ---- texts in quotes

-- the bytes up to a closing_quote quote are closed by it, whatever follows
record Closed (quote : ℕ) (escaped : Bool) (at : ℕ) (bytes : List ℕ) (n : ℕ) : Type 0 where
  pub inside : List ℕ
  pub rest : List ℕ
  pub parts : bytes ≡ inside ++ rest
  pub long : at + length inside ≡ n
  pub same : (more : List ℕ) → closing_quote quote escaped at (inside ++ more) ≡ Some n

closing_here : (quote : ℕ) (escaped : Bool) (at b : ℕ) (bs : List ℕ) (n : ℕ) → nat_eq b 10 ≡ false → (not escaped && nat_eq b quote) ≡ true → at + 1 ≡ n → closing_quote quote escaped at (b ∷ bs) ≡ Some n
closing_here quote escaped at b bs n line here long = rw (line, here, long) refl

closing_on : (quote : ℕ) (escaped : Bool) (at b : ℕ) (bs : List ℕ) → nat_eq b 10 ≡ false → (not escaped && nat_eq b quote) ≡ false → closing_quote quote escaped at (b ∷ bs) ≡ closing_quote quote (not escaped && nat_eq quote 34 && nat_eq b 92) (at + 1) bs
closing_on quote escaped at b bs line here = rw (line, here) refl

closed : (quote : ℕ) (escaped : Bool) (at : ℕ) (bytes : List ℕ) (n : ℕ) → closing_quote quote escaped at bytes ≡ Some n → Closed quote escaped at bytes n
closed quote escaped at [] n e = cc
closed quote escaped at (b ∷ bs) n e =
    on_bool (nat_eq b 10)
    (λ line. let x : None ≡ Some n = rw line at e in cc)
    (λ line.
    on_bool (not escaped && nat_eq b quote)
    (λ here.
    let it : Some (at + 1) ≡ Some n = rw (line, here) at e in
    let long : at + 1 ≡ n = ap (λ x. unwrap_or x 0) it in
    record {
      inside = b ∷ [];
      rest = bs;
      parts = refl;
      long = omega arith;
      same = λ more. closing_here quote escaped at b more n line here long;
    })
    (λ here.
    let r : Closed quote (not escaped && nat_eq quote 34 && nat_eq b 92) (at + 1) bs n = closed quote (not escaped && nat_eq quote 34 && nat_eq b 92) (at + 1) bs n (rw (line, here) at e) in
    record {
      inside = b ∷ r.inside;
      rest = r.rest;
      parts = ap (λ xs. b ∷ xs) r.parts;
      long = omega (arith, r.long);
      same = λ more. closing_on quote escaped at b (r.inside ++ more) line here ∙ r.same more;
    }))

not_same : (n m : ℕ) → n ≢ m → nat_eq n m ≡ false
not_same n m h = ne_eqb n m h

text_longest : (a : ℕ) (bs : List ℕ) → begins_name a ≡ false → is_ascii_digit a ≡ false → is_quote a ≡ true → (n : ℕ) → closing_quote a false 0 bs ≡ Some n → Longest (a ∷ bs) token_kind.Text (n + 1)
unfolding kind_of
text_longest a bs w d q n e =
    let r : Closed a false 0 bs n = closed a false 0 bs n e in
    let whole : closing_quote a false 0 (r.inside ++ []) ≡ Some n = r.same [] in
    let whole' : closing_quote a false 0 r.inside ≡ Some n = rw append-nil at whole in
    let long : nat_eq n (length r.inside) ≡ true = eq-eqb _ _ (omega (arith, r.long)) in
    record {
      text = a ∷ r.inside;
      rest = r.rest;
      parts = ap (λ xs. a ∷ xs) r.parts;
      long = omega (arith, r.long);
      some = omega arith;
      form = rw (w, d, q, whole', long) refl;
      longest = λ more after e' some.
          let same : closing_quote a false 0 (r.inside ++ more) ≡ Some n = r.same more in
          let short : nat_eq n (length (r.inside ++ more)) ≡ false = not_same _ _ (longer r.inside more n r.long some) in
          rw (w, d, q, same, short) refl;
    }
  where
    longer : (xs ys : List ℕ) (n : ℕ) → 0 + length xs ≡ n → ys ≢ [] → n ≢ length (xs ++ ys)
    longer xs [] n e some h = some refl
    longer xs (y ∷ ys) n e some h = omega (arith, h, length-append xs (y ∷ ys))

-- ---- digits

number_longest : (a : ℕ) (bs : List ℕ) → begins_name a ≡ false → is_ascii_digit a ≡ true → Longest (a ∷ bs) token_kind.Number (1 + prefix_len is_ascii_digit bs)
unfolding kind_of
number_longest a bs w d =
    let r : Run is_ascii_digit bs = run_of is_ascii_digit bs in
    record {
      text = a ∷ r.front;
      rest = r.back;
      parts = ap (λ xs. a ∷ xs) r.parts;
      long = omega (arith, r.long);
      some = omega arith;
      form = rw (w, d, r.passes) refl;
      longest = λ more after e some.
          let over : list_all is_ascii_digit (r.front ++ more) ≡ false = run_over is_ascii_digit r.front r.back more after r.stops e some in
          rw (w, d, over) refl;
    }

-- ---- words

abbrev Begins : List ℕ → Type 0
Begins [] = ⊥
Begins (x ∷ xs) = begins_name x ≡ true

begins : (a : ℕ) (bs : List ℕ) → begins_name a ≡ true → (n : ℕ) → 0 < n → (more : List ℕ) → Begins (take n (a ∷ bs) ++ more)
begins a bs w zero h more = absurd (omega arith)
begins a bs w (suc n) h more = w

from_end : (text : List ℕ) (kind : TokenKind) → Begins text → end_word text ≡ Some kind → kind_of text ≡ Some kind
unfolding kind_of
from_end [] kind w e = absurd w
from_end (x ∷ xs) kind w e = rw (w, e) refl

mixed_none : (text : List ℕ) → Begins text → end_word text ≡ None → list_all is_word text ≡ false → kind_of text ≡ None
unfolding kind_of
mixed_none [] w e m = absurd w
mixed_none (x ∷ xs) w e m = rw (w, e, m) refl

word_kind : (text : List ℕ) → Begins text → end_word text ≡ None → list_all is_word text ≡ true → is_refused text ≡ false → kind_of text ≡ Some (plain_word text)
unfolding kind_of
word_kind [] w e m r = absurd w
word_kind (x ∷ xs) w e m r = rw (w, e, m, r) refl

end_longest : (a : ℕ) (bs : List ℕ) → begins_name a ≡ true → (kind : TokenKind) (n : ℕ) → end_at (a ∷ bs) ≡ Some (kind, n) → Longest (a ∷ bs) kind n
end_longest a bs w kind n e =
    let r : EndAt (a ∷ bs) kind n = end_token (a ∷ bs) kind n e in
    let b : Begins (take n (a ∷ bs)) = subst Begins (append-nil (take n (a ∷ bs))) (begins a bs w n r.some []) in
    record {
      text = take n (a ∷ bs);
      rest = drop n (a ∷ bs);
      parts = sym (take-append-drop n (a ∷ bs));
      long = length-take-le n (a ∷ bs) r.fits;
      some = r.some;
      form = from_end (take n (a ∷ bs)) kind b r.is.form;
      longest = λ more after e' some. mixed_none (take n (a ∷ bs) ++ more) (begins a bs w n r.some more) (r.is.over more some) (r.is.mixed more);
    }

all_words : (a : ℕ) (bs : List ℕ) → begins_name a ≡ true → list_all is_word bs ≡ true → list_all is_word (a ∷ bs) ≡ true
all_words a bs w h = rw (w, h) refl

not_all_words : (a : ℕ) (bs : List ℕ) → begins_name a ≡ true → list_all is_word bs ≡ false → list_all is_word (a ∷ bs) ≡ false
not_all_words a bs w h = rw (w, h) refl

word_long : (a : ℕ) (bs : List ℕ) (n : ℕ) → begins_name a ≡ true → n ≡ prefix_len is_word bs → prefix_len is_word (a ∷ bs) ≡ n + 1
word_long a bs n w h = rw w (omega (arith, h))

pub take_front : (bytes text rest : List ℕ) (n : ℕ) → bytes ≡ text ++ rest → n ≡ length text → take n bytes ≡ text
take_front bytes text rest n e h = rw (e, h) (take-append_seam text rest)

pub drop_front : (bytes text rest : List ℕ) (n : ℕ) → bytes ≡ text ++ rest → n ≡ length text → drop n bytes ≡ rest
drop_front bytes text rest n e h = rw (e, h) (drop-append_seam text rest)

word_longest : (a : ℕ) (bs : List ℕ) → begins_name a ≡ true → end_at (a ∷ bs) ≡ None → is_refused (take (prefix_len is_word (a ∷ bs)) (a ∷ bs)) ≡ false → Longest (a ∷ bs) (plain_word (take (prefix_len is_word (a ∷ bs)) (a ∷ bs))) (prefix_len is_word (a ∷ bs))
word_longest a bs w n f =
    let r : Run is_word bs = run_of is_word bs in
    let parts : a ∷ bs ≡ (a ∷ r.front) ++ r.back = ap (λ xs. a ∷ xs) r.parts in
    let long : prefix_len is_word (a ∷ bs) ≡ length (a ∷ r.front) = word_long a bs (length r.front) w r.long ∙ (omega arith) in
    let it : take (prefix_len is_word (a ∷ bs)) (a ∷ bs) ≡ a ∷ r.front = take_front (a ∷ bs) (a ∷ r.front) r.back (prefix_len is_word (a ∷ bs)) parts long in
    let f' : is_refused (a ∷ r.front) ≡ false = subst (λ x. is_refused x ≡ false) it f in
    let words : list_all is_word (a ∷ r.front) ≡ true = all_words a r.front w r.passes in
    let b : Begins (a ∷ r.front) = w in
    let form : kind_of (a ∷ r.front) ≡ Some (plain_word (a ∷ r.front)) = word_kind (a ∷ r.front) b (word_is_no_end (a ∷ r.front) words) words f' in
    record {
      text = a ∷ r.front;
      rest = r.back;
      parts = parts;
      long = sym long;
      some = omega (arith, long);
      form = subst (λ x. kind_of (a ∷ r.front) ≡ Some (plain_word x)) (sym it) form;
      longest = λ more after e some.
          let whole : a ∷ bs ≡ (a ∷ (r.front ++ more)) ++ after = parts ∙ ap (λ x. (a ∷ r.front) ++ x) e ∙ sym (append_assoc (a ∷ r.front) more after) in
          let b' : Begins (a ∷ (r.front ++ more)) = w in
          mixed_none (a ∷ (r.front ++ more)) b' (no_end (a ∷ bs) (a ∷ (r.front ++ more)) after whole n)
          (not_all_words a (r.front ++ more) w (run_over is_word r.front r.back more after r.stops e some));
    }

-- ---- symbols

pub on_option : {A : Type 0} {P : Type 0} (o : Option A) → (o ≡ None → P) → ((x : A) → o ≡ Some x → P) → P
on_option None none some = none refl
on_option (Some x) none some = some x refl

record NoWord (a : ℕ) : Type 0 where
  no_name : begins_name a ≡ false
  no_digit : is_ascii_digit a ≡ false
  no_quote : is_quote a ≡ false

symbol_kind : (a : ℕ) (bs : List ℕ) → NoWord a → kind_of (a ∷ bs) ≡ symbol a bs
unfolding kind_of
symbol_kind a bs plain = rw (plain.no_name, plain.no_digit, plain.no_quote) refl

one_longest : (a : ℕ) (bs : List ℕ) → NoWord a → (kind : TokenKind) → one_byte a ≡ Some kind → ((b : ℕ) (rest : List ℕ) → bs ≡ b ∷ rest → two_bytes a b ≡ None) → Longest (a ∷ bs) kind 1
one_longest a bs plain kind e two = record {
  text = a ∷ [];
  rest = bs;
  parts = refl;
  long = refl;
  some = omega arith;
  form = symbol_kind a [] plain ∙ e;
  longest = longest;
}
  where
    longest : (more after : List ℕ) → bs ≡ more ++ after → more ≢ [] → kind_of (a ∷ [] ++ more) ≡ None
    longest [] after e' some = absurd (some refl)
    longest (m ∷ []) after e' some = symbol_kind a (m ∷ []) plain ∙ two m after e'
    longest (m ∷ x ∷ ms) after e' some = symbol_kind a (m ∷ x ∷ ms) plain

two_longest : (a b : ℕ) (bs : List ℕ) → NoWord a → (kind : TokenKind) → two_bytes a b ≡ Some kind → Longest (a ∷ b ∷ bs) kind 2
two_longest a b bs plain kind e = record {
  text = a ∷ b ∷ [];
  rest = bs;
  parts = refl;
  long = refl;
  some = omega arith;
  form = symbol_kind a (b ∷ []) plain ∙ e;
  longest = longest;
}
  where
    longest : (more after : List ℕ) → bs ≡ more ++ after → more ≢ [] → kind_of (a ∷ b ∷ [] ++ more) ≡ None
    longest [] after e' some = absurd (some refl)
    longest (m ∷ ms) after e' some = symbol_kind a (b ∷ m ∷ ms) plain

abbrev IsLongest : List ℕ → TokenKind × ℕ → Type 0
IsLongest bytes found = Longest bytes found.0 found.1

none_is_one : (a : ℕ) (bs : List ℕ) (kind : TokenKind) → one_byte a ≡ Some kind → Longest (a ∷ bs) kind 1 → IsLongest (a ∷ bs) (two_or_one None a)
none_is_one a bs kind e l = subst (λ o. Longest (a ∷ bs) (unwrap_or o token_kind.Newline) 1) (sym e) l

symbol_longest : (a : ℕ) (bs : List ℕ) → NoWord a → (kind : TokenKind) → one_byte a ≡ Some kind → IsLongest (a ∷ bs) (symbol_at a bs)
symbol_longest a [] plain kind e = none_is_one a [] kind e (one_longest a [] plain kind e (λ b rest h. cc))
symbol_longest a (b ∷ bs) plain kind e =
    on_option (two_bytes a b)
    (λ none.
    let two : (b' : ℕ) (rest : List ℕ) → b ∷ bs ≡ b' ∷ rest → two_bytes a b' ≡ None =
    λ b' rest h. let same : b ≡ b' = cc in subst (λ x. two_bytes a x ≡ None) same none in
    subst (λ o. IsLongest (a ∷ b ∷ bs) (two_or_one o a)) (sym none) (none_is_one a (b ∷ bs) kind e (one_longest a (b ∷ bs) plain kind e two)))
    (λ kind' some. subst (λ o. IsLongest (a ∷ b ∷ bs) (two_or_one o a)) (sym some) (two_longest a b bs plain kind' some))

-- ---- all tokens

not_refused : (bs : List ℕ) → word_fault bs ≡ None → is_refused (take (prefix_len is_word bs) bs) ≡ false
unfolding word_fault
not_refused bs e = on_bool (is_refused (take (prefix_len is_word bs) bs)) (λ r. let x : Some (error_kind.Out (take (prefix_len is_word bs) bs), 0) ≡ None = rw r at e in cc) (λ r. r)

word_case : (a : ℕ) (bs : List ℕ) → begins_name a ≡ true → word_fault (a ∷ bs) ≡ None → IsLongest (a ∷ bs) (word_at (a ∷ bs))
unfolding word_at
word_case a bs w f =
    on_option (end_at (a ∷ bs))
    (λ none. subst (λ o. IsLongest (a ∷ bs) (end_or_word o (a ∷ bs))) (sym none) (word_longest a bs w none (not_refused (a ∷ bs) f)))
    (λ x some. subst (λ o. IsLongest (a ∷ bs) (end_or_word o (a ∷ bs))) (sym some) (end_longest a bs w x.0 x.1 some))

text_case : (a : ℕ) (bs : List ℕ) → begins_name a ≡ false → is_ascii_digit a ≡ false → is_quote a ≡ true → text_fault a bs ≡ None → IsLongest (a ∷ bs) (quoted_at a bs)
unfolding text_fault
text_case a bs n d q f =
    on_option (closing_quote a false 0 bs)
    (λ none. let x : Some (error_kind.Str, 0) ≡ None = rw none at f in cc)
    (λ x some. subst (λ o. Longest (a ∷ bs) token_kind.Text (unwrap_or o 0 + 1)) (sym some) (text_longest a bs n d q x some))

symbol_case : (a : ℕ) (bs : List ℕ) → NoWord a → symbol_fault a bs ≡ None → IsLongest (a ∷ bs) (symbol_at a bs)
symbol_case a bs plain f =
    on_bool (nat_eq a 40 && begins_with 33 bs)
    (λ c. let x : Some (error_kind.Comment, 0) ≡ None = rw c at f in cc)
    (λ c.
    on_option (one_byte a)
    (λ none. let x : Some (error_kind.Char, 0) ≡ None = rw (c, none) at f in cc)
    (λ kind some. symbol_longest a bs plain kind some))

pub longest_at : (bytes : List ℕ) → bytes ≢ [] → fault_at bytes ≡ None → IsLongest bytes (token_at bytes)
unfolding fault_at token_at
longest_at [] some f = absurd (some refl)
longest_at (a ∷ bs) some f =
    on_bool (begins_name a)
    (λ n. let f' : word_fault (a ∷ bs) ≡ None = rw n at f in rw n (word_case a bs n f'))
    (λ n.
    on_bool (is_ascii_digit a)
    (λ d. rw (n, d) (number_longest a bs n d))
    (λ d.
    on_bool (is_quote a)
    (λ q. let f' : text_fault a bs ≡ None = rw (n, d, q) at f in rw (n, d, q) (text_case a bs n d q f'))
    (λ q.
    let f' : symbol_fault a bs ≡ None = rw (n, d, q) at f in
    rw (n, d, q) (symbol_case a bs (record { no_name = n; no_digit = d; no_quote = q }) f'))))
