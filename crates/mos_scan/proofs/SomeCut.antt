-- Each source has a token list or a lexical fault.

use Rattle.std.proofs.Common.{◌≡◌, ◌≢◌, ℕ, zero, suc, ◌+◌, ◌-◌, ◌<◌, ◌≤◌, ◌⊎◌, inl, inr, nat_le, Bool, true, false, ◌&&◌, List, [], ◌∷◌, ◌++◌, length, take, drop, Option, Some, None, refl, sym, ◌∙◌, ap, subst, arith, length-append}
use Rattle.std.specs.Prelude.{◌==◌}
use Rattle.std.specs.List.{prefix_len}
use Rattle.std.specs.Str.Lossy.{utf8_valid_len}
use Rattle.std.proofs.lemmas.Bool.{and_parts, leb-true, leb-false}
use Rattle.std.proofs.lemmas.List.{length-drop, length-take-le, take-append-drop}
use Rattle.std.proofs.lemmas.List.Sums.{prefix_len-le-length}
use Rattle.mos_text.specs.declared.kind.Kind.{Kind}
use Rattle.mos_text.specs.declared.kind.Kind.TheVariants as error_kind
use Rattle.mos_scan.specs.declared.token.Token.{Token}
use Rattle.mos_scan.specs.declared.token.TokenKind.{TokenKind}
use Rattle.mos_scan.specs.declared.token.TokenKind.TheVariants.{EndModel}
use Rattle.mos_scan.specs.Characters.{is_blank, is_inside}
use Rattle.mos_scan.specs.Tokens.{begins_with, comment_end, gap_at, fault_at}
use Rattle.mos_scan.specs.Lexemes.{Longest, token_at}
use Rattle.mos_scan.specs.Cuts.{Part, gap, token, text_of, is_end, is_end_model, IsToken, IsPart, Whole, up_to_the_end, up_to_end_model, tokens_from, IsTokenList, Stops, read_whole, read_to_fault, IsLexicalFault, no_utf8, no_token}
use Rattle.mos_scan.specs.Laws.{SomeListOrFault}
use Rattle.mos_scan.proofs.Lists.{on_bool}
use Rattle.mos_scan.proofs.Looks.{longest_at}
use Rattle.mos_scan.proofs.Scans.{end_model}

-- ---- a gap has bytes, and no more than there are

abbrev place_at : ℕ → Option ℕ
place_at n = Some n

begun : (c : ℕ) (xs : List ℕ) → begins_with c xs ≡ true → 0 < length xs
begun c [] e = absurd cc
begun c (x ∷ xs) e = omega arith

comment_long : (at : ℕ) (xs : List ℕ) (m : ℕ) → comment_end at xs ≡ place_at m → (at < m) × (m ≤ at + length xs)
comment_long at [] m e = absurd cc
comment_long at (x ∷ xs) m e = on_bool (x == 33 && begins_with 41 xs)
    (λ c. let q : place_at (at + 2) ≡ place_at m = sym (rw c refl) ∙ e in
    let r : at + 2 ≡ m = cc in
    let s = begun 41 xs (and_parts (x == 33) (begins_with 41 xs) c).1 in
    (omega (arith, r), omega (arith, r, s)))
    (λ c. let q : comment_end (at + 1) xs ≡ place_at m = sym (rw c refl) ∙ e in
    let r = comment_long (at + 1) xs m q in
    (omega (arith, r.0), omega (arith, r.1)))

gap_long : (bytes : List ℕ) (m : ℕ) → gap_at bytes ≡ place_at m → (0 < m) × (m ≤ length bytes)
unfolding gap_at
gap_long [] m e = absurd cc
gap_long (a ∷ bs) m e = on_bool (is_blank a)
    (λ b. let q : place_at 1 ≡ place_at m = sym (rw b refl) ∙ e in
    let r : 1 ≡ m = cc in
    (omega (arith, r), omega (arith, r)))
    (λ b. on_bool (a == 33)
    (λ l. let q : place_at (prefix_len is_inside bs + 1) ≡ place_at m = sym (rw (b, l) refl) ∙ e in
    let r : prefix_len is_inside bs + 1 ≡ m = cc in
    (omega (arith, r), omega (arith, r, prefix_len-le-length is_inside bs)))
    (λ l. on_bool (a == 40 && begins_with 33 bs)
    (λ h. let q : comment_end 2 (drop 1 bs) ≡ place_at m = sym (rw (b, l, h) refl) ∙ e in
    let r = comment_long 2 (drop 1 bs) m q in
    let s = begun 33 bs (and_parts (a == 40) (begins_with 33 bs) h).1 in
    (omega (arith, r.0), omega (arith, r.1, s, length-drop 1 bs)))
    (λ h. let q : None ≡ place_at m = sym (rw (b, l, h) refl) ∙ e in absurd cc)))

-- ---- a cut of all bytes, or up to a fault

abbrev Ends : List ℕ → Type 0
Ends bytes = ((parts : List Part) × (left : List ℕ) × Whole bytes left parts) ⊎ ((place : ℕ) × (kind : Kind) × Stops bytes place kind)

whole_ahead : (x : Part) (bytes rest left : List ℕ) (parts : List Part) → bytes ≡ text_of x ++ rest → IsPart x rest → is_end x ≡ false → Whole rest left parts → Whole bytes left (x ∷ parts)
whole_ahead x bytes rest left parts e part not_end (up_to_the_end xs cuts nothing) = up_to_the_end (x ∷ xs) (rest, e, part, not_end, cuts) nothing
whole_ahead x bytes rest left parts e part not_end (up_to_end_model xs text after cuts q token_is) = up_to_end_model (x ∷ xs) text after (rest, e, part, not_end, cuts) q token_is

stops_ahead : (x : Part) (bytes rest : List ℕ) (place : ℕ) (kind : Kind) → bytes ≡ text_of x ++ rest → IsPart x rest → is_end x ≡ false → Stops rest place kind → Stops bytes (length (text_of x) + place) kind
stops_ahead x bytes rest place kind e part not_end s = record {
  parts = x ∷ s.parts;
  left = s.left;
  cuts = (rest, e, part, not_end, s.cuts);
  no_gap = s.no_gap;
  offset = s.offset;
  fault = s.fault;
  there = omega (arith, s.there, ap length e, length-append (text_of x) rest);
}

ahead : (x : Part) (bytes rest : List ℕ) → bytes ≡ text_of x ++ rest → IsPart x rest → is_end x ≡ false → Ends rest → Ends bytes
ahead x bytes rest e part not_end (inl w) = inl (x ∷ w.0, w.1, whole_ahead x bytes rest w.1 w.0 e part not_end w.2)
ahead x bytes rest e part not_end (inr s) = inr (length (text_of x) + s.0, s.1, stops_ahead x bytes rest s.0 s.1 e part not_end s.2)

-- what holds of shorter bytes
abbrev Shorter : ℕ → Type 0
Shorter n = (rest : List ℕ) → length rest ≤ n → Ends rest

by_token : (n : ℕ) (bytes : List ℕ) → length bytes ≤ suc n → Shorter n → gap_at bytes ≡ None → fault_at bytes ≡ None
    → (kind : TokenKind) (m : ℕ) → Longest bytes kind m → Ends bytes
by_token n bytes small again no_gap no_fault kind m l =
    let is : IsToken kind l.text l.rest = record {
      no_gap = subst (λ z. gap_at z ≡ None) l.parts no_gap;
      no_fault = subst (λ z. fault_at z ≡ None) l.parts no_fault;
      form = l.form;
      longest = l.longest;
    } in
    on_bool (is_end_model kind)
    (λ q. inl (token EndModel l.text ∷ [], l.rest, up_to_end_model [] l.text bytes refl l.parts (subst (λ z. IsToken z l.text l.rest) (end_model kind q) is)))
    (λ q. ahead (token kind l.text) bytes l.rest l.parts is q
    (again l.rest (omega (arith, small, l.some, l.long, ap length l.parts, length-append l.text l.rest))))

by_fault : (n : ℕ) (bytes : List ℕ) → bytes ≢ [] → length bytes ≤ suc n → Shorter n → gap_at bytes ≡ None → (o : Option (Kind × ℕ)) → fault_at bytes ≡ o → Ends bytes
by_fault n bytes some small again no_gap None e = by_token n bytes small again no_gap e (token_at bytes).0 (token_at bytes).1 (longest_at bytes some e)
by_fault n bytes some small again no_gap (Some (kind, offset)) e =
    inr (offset, kind, record { parts = []; left = bytes; cuts = refl; no_gap = no_gap; offset = offset; fault = e; there = omega arith })

by_gap : (n : ℕ) (bytes : List ℕ) → bytes ≢ [] → length bytes ≤ suc n → Shorter n → (o : Option ℕ) → gap_at bytes ≡ o → Ends bytes
by_gap n bytes some small again None e = by_fault n bytes some small again e (fault_at bytes) refl
by_gap n bytes some small again (Some m) e =
    let long = gap_long bytes m e in
    let parts : bytes ≡ take m bytes ++ drop m bytes = sym (take-append-drop m bytes) in
    let so_long : length (take m bytes) ≡ m = length-take-le m bytes long.1 in
    let is : gap_at (take m bytes ++ drop m bytes) ≡ Some (length (take m bytes)) = ap gap_at (sym parts) ∙ e ∙ ap (λ z. Some z) (sym so_long) in
    ahead (gap (take m bytes)) bytes (drop m bytes) parts is refl
    (again (drop m bytes) (omega (arith, small, long.0, ap length parts, so_long, length-append (take m bytes) (drop m bytes))))

end_of : (n : ℕ) (bytes : List ℕ) → length bytes ≤ n → Ends bytes
end_of n [] small = inl ([], [], up_to_the_end [] refl refl)
end_of zero (b ∷ bs) small = absurd (omega (arith, small))
end_of (suc n) (b ∷ bs) small = by_gap n (b ∷ bs) (λ q. cc) small (end_of n) (gap_at (b ∷ bs)) refl

-- ---- and its bytes, that are UTF-8 or not

abbrev HasOne : List ℕ → Type 0
HasOne bytes = ((tokens : List Token) × IsTokenList bytes tokens) ⊎ ((place : ℕ) × (kind : Kind) × IsLexicalFault bytes place kind)

of_whole : (bytes left : List ℕ) (parts : List Part) → Whole bytes left parts → HasOne bytes
of_whole bytes left parts w = on_bool (nat_le (length bytes) (utf8_valid_len bytes + length left))
    (λ e. inl (tokens_from 0 1 parts, record { parts = parts; left = left; whole = w; utf8 = omega (arith, leb-true (length bytes) (utf8_valid_len bytes + length left) e); are = refl }))
    (λ e. let more : utf8_valid_len bytes + length left < length bytes = omega (arith, leb-false (length bytes) (utf8_valid_len bytes + length left) e) in
    inr (utf8_valid_len bytes, error_kind.Utf8, no_utf8 (length bytes - length left) (read_whole (length bytes - length left) parts left w (omega (arith, more))) (omega (arith, more))))

of_stop : (bytes : List ℕ) (place : ℕ) (kind : Kind) → Stops bytes place kind → HasOne bytes
of_stop bytes place kind s = on_bool (nat_le (utf8_valid_len bytes) place)
    (λ e. inr (utf8_valid_len bytes, error_kind.Utf8, no_utf8 (place + 1) (read_to_fault place kind s) (omega (arith, leb-true (utf8_valid_len bytes) place e))))
    (λ e. inr (place, kind, no_token place kind s (omega (arith, leb-false (utf8_valid_len bytes) place e))))

of_ends : (bytes : List ℕ) → Ends bytes → HasOne bytes
of_ends bytes (inl w) = of_whole bytes w.1 w.0 w.2
of_ends bytes (inr s) = of_stop bytes s.0 s.1 s.2

pub some_list_or_fault : SomeListOrFault
some_list_or_fault bytes = of_ends bytes (end_of (length bytes) bytes (omega arith))
