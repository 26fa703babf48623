-- How far the loop over the bytes has come.

use Rattle.std.proofs.Common.{◌≡◌, ℕ, ◌+◌, ◌≤◌, true, false, List, [], ◌∷◌, ◌++◌, length, take, drop, Some, None, refl, sym, ◌∙◌, ap, subst, arith, length-append}
use Rattle.mos_scan.specs.declared.token.TokenKind.{TokenKind}
use Rattle.mos_scan.specs.declared.token.Token.{Token}
use Rattle.mos_scan.specs.declared.token.TokenKind.TheVariants.{EndModel}
use Rattle.mos_text.specs.declared.kind.Kind.{Kind}
use Rattle.mos_scan.specs.declared.lexeme.LexicalError.{LexicalError}
use Rattle.mos_scan.specs.declared.lexeme.Lexeme.TheVariants as lexeme_kind
use Rattle.mos_scan.specs.Lexemes.{kind_of_error, Longest, Stands}
use Rattle.mos_scan.specs.Scanning.{IsWholeCut}
use Rattle.mos_scan.proofs.Looks.{take_front, drop_front}
use Rattle.std.proofs.lemmas.List.{take-append-drop, length-take-le}
use Rattle.std.proofs.lemmas.List.Sums.{count_by-le-length}
use Rattle.mos_scan.specs.Tokens.{gap_at, fault_at}
use Rattle.mos_scan.specs.Cuts.{Stops, Part, gap, token, text_of, is_end, is_end_model, IsPart, IsToken, Cuts, Whole, up_to_the_end, up_to_end_model, is_newline, newlines, token_of, tokens_from}

abbrev pub size : List Part → ℕ
size [] = 0
size (x ∷ xs) = length (text_of x) + size xs

abbrev pub lines : List Part → ℕ
lines [] = 0
lines (x ∷ xs) = newlines (text_of x) + lines xs

-- how far the loop has come
pub record Scanned (bytes rest : List ℕ) (at line : ℕ) (tokens : List Token) : Type 0 where
  pub parts : List Part
  pub cuts : Cuts bytes parts rest
  pub are : tokens ≡ tokens_from 0 1 parts
  pub at_is : at ≡ size parts
  pub line_is : line ≡ 1 + lines parts
  pub room : at + length rest ≡ length bytes
  pub few : line ≤ at + 1

-- one part more
cuts_more : (bytes : List ℕ) (xs : List Part) (rest : List ℕ) (x : Part) (after : List ℕ) → Cuts bytes xs rest → rest ≡ text_of x ++ after → IsPart x after → is_end x ≡ false → Cuts bytes (xs ++ x ∷ []) after
cuts_more bytes [] rest x after c e p n = (after, c ∙ e, p, n, refl)
cuts_more bytes (y ∷ ys) rest x after c e p n = (c.0, c.1, c.2, c.3, cuts_more c.0 ys rest x after c.4 e p n)

size_more : (xs : List Part) (x : Part) → size (xs ++ x ∷ []) ≡ size xs + length (text_of x)
size_more [] x = omega arith
size_more (y ∷ ys) x = omega (arith, size_more ys x)

lines_more : (xs : List Part) (x : Part) → lines (xs ++ x ∷ []) ≡ lines xs + newlines (text_of x)
lines_more [] x = omega arith
lines_more (y ∷ ys) x = omega (arith, lines_more ys x)

gap_more : (at line : ℕ) (xs : List Part) (text : List ℕ) → tokens_from at line (xs ++ gap text ∷ []) ≡ tokens_from at line xs
gap_more at line [] text = refl
gap_more at line (gap t ∷ ys) text = gap_more (at + length t) (line + newlines t) ys text
gap_more at line (token k t ∷ ys) text = ap (λ ts. token_of at line k t ∷ ts) (gap_more (at + length t) (line + newlines t) ys text)

same_token : (at line at' line' : ℕ) (kind : TokenKind) (text : List ℕ) → at ≡ at' → line ≡ line' → token_of at line kind text ∷ [] ≡ token_of at' line' kind text ∷ []
same_token at line at' line' kind text e h = rw (e, h) refl

token_more : (at line : ℕ) (xs : List Part) (kind : TokenKind) (text : List ℕ) → tokens_from at line (xs ++ token kind text ∷ []) ≡ tokens_from at line xs ++ token_of (at + size xs) (line + lines xs) kind text ∷ []
token_more at line [] kind text = same_token at line (at + 0) (line + 0) kind text (omega arith) (omega arith)
token_more at line (gap t ∷ ys) kind text =
    token_more (at + length t) (line + newlines t) ys kind text
    ∙ ap (λ ts. tokens_from (at + length t) (line + newlines t) ys ++ ts) (same_token (at + length t + size ys) (line + newlines t + lines ys) (at + (length t + size ys)) (line + (newlines t + lines ys)) kind text (omega arith) (omega arith))
token_more at line (token k t ∷ ys) kind text =
    ap (λ ts. token_of at line k t ∷ ts)
    (token_more (at + length t) (line + newlines t) ys kind text
    ∙ ap (λ ts. tokens_from (at + length t) (line + newlines t) ys ++ ts) (same_token (at + length t + size ys) (line + newlines t + lines ys) (at + (length t + size ys)) (line + (newlines t + lines ys)) kind text (omega arith) (omega arith)))

pub end_model : (kind : TokenKind) → is_end_model kind ≡ true → kind ≡ EndModel
end_model EndModel e = refl
end_model _ e = cc

few_lines : (text : List ℕ) → newlines text ≤ length text
few_lines text = count_by-le-length is_newline text

-- a gap more
pub scanned_gap : (bytes rest : List ℕ) (at line : ℕ) (tokens : List Token) → Scanned bytes rest at line tokens → (n : ℕ) → Stands rest (lexeme_kind.Gap n) → (text after : List ℕ) → text ≡ take n rest → after ≡ drop n rest → (k : ℕ) → k ≡ newlines text → Scanned bytes after (at + n) (line + k) tokens
scanned_gap bytes rest at line tokens s n stands text after te ae k ke =
    let parts : rest ≡ text ++ after = rw (te, ae) (sym (take-append-drop n rest)) in
    let long : length text ≡ n = rw te (length-take-le n rest stands.2) in
    let is : gap_at (text ++ after) ≡ Some (length text) = rw long (subst (λ x. gap_at x ≡ Some n) parts stands.0) in
    let left : length rest ≡ length text + length after = ap length parts ∙ length-append text after in
    record {
      parts = s.parts ++ gap text ∷ [];
      cuts = cuts_more bytes s.parts rest (gap text) after s.cuts parts is refl;
      are = s.are ∙ sym (gap_more 0 1 s.parts text);
      at_is = omega (arith, s.at_is, size_more s.parts (gap text), long);
      line_is = omega (arith, s.line_is, lines_more s.parts (gap text), ke);
      room = omega (arith, s.room, left, long);
      few = omega (arith, s.few, few_lines text, ke, long);
    }

-- a fault
pub scanned_fault : (bytes rest : List ℕ) (at line : ℕ) (tokens : List Token) → Scanned bytes rest at line tokens → (error : LexicalError) (offset : ℕ) → Stands rest (lexeme_kind.Fault error offset) → (kind : Kind) → kind ≡ kind_of_error rest error → Stops bytes (at + offset) kind
scanned_fault bytes rest at line tokens s error offset stands kind e = record {
  parts = s.parts;
  left = rest;
  cuts = s.cuts;
  no_gap = stands.0;
  offset = offset;
  fault = subst (λ k. fault_at rest ≡ Some (k, offset)) (sym e) stands.1;
  there = omega (arith, s.room);
}

-- the text of a token at the front
record Fronted (rest : List ℕ) (kind : TokenKind) (n : ℕ) (text after : List ℕ) : Type 0 where
  parts : rest ≡ text ++ after
  long : length text ≡ n
  is : IsToken kind text after

fronted : (rest : List ℕ) (kind : TokenKind) (n : ℕ) (text after : List ℕ) → Stands rest (lexeme_kind.Token kind n) → text ≡ take n rest → after ≡ drop n rest → Fronted rest kind n text after
fronted rest kind n text after stands te ae =
    let l : Longest rest kind n = stands.2 in
    let it : text ≡ l.text = te ∙ take_front rest l.text l.rest n l.parts (sym l.long) in
    let behind : after ≡ l.rest = ae ∙ drop_front rest l.text l.rest n l.parts (sym l.long) in
    let parts : rest ≡ text ++ after = rw (it, behind) l.parts in
    record {
      parts = parts;
      long = rw it l.long;
      is = record {
        no_gap = subst (λ x. gap_at x ≡ None) parts stands.0;
        no_fault = subst (λ x. fault_at x ≡ None) parts stands.1;
        form = rw it l.form;
        longest = λ more later e some. rw it (l.longest more later (sym behind ∙ e) some);
      };
    }

pushed : (at line n : ℕ) (tokens : List Token) (xs : List Part) (kind : TokenKind) (text : List ℕ) → tokens ≡ tokens_from 0 1 xs → at ≡ size xs → line ≡ 1 + lines xs → length text ≡ n → tokens ++ record { kind = kind; line = line; from = at; to = at + n } ∷ [] ≡ tokens_from 0 1 (xs ++ token kind text ∷ [])
pushed at line n tokens xs kind text te ae le long =
    let same : token_of at line kind text ∷ [] ≡ token_of (0 + size xs) (1 + lines xs) kind text ∷ [] = same_token at line (0 + size xs) (1 + lines xs) kind text (omega (arith, ae)) le in
    let more : tokens ++ token_of at line kind text ∷ [] ≡ tokens_from 0 1 (xs ++ token kind text ∷ []) = rw te (ap (λ ts. tokens_from 0 1 xs ++ ts) same) ∙ sym (token_more 0 1 xs kind text) in
    subst (λ m. tokens ++ record { kind = kind; line = line; from = at; to = at + m } ∷ [] ≡ tokens_from 0 1 (xs ++ token kind text ∷ [])) long more

-- a token more
pub scanned_token : (bytes rest : List ℕ) (at line : ℕ) (tokens : List Token) → Scanned bytes rest at line tokens → (kind : TokenKind) (n : ℕ) → Stands rest (lexeme_kind.Token kind n) → is_end_model kind ≡ false → (text after : List ℕ) → text ≡ take n rest → after ≡ drop n rest → (k : ℕ) → k ≡ newlines text → Scanned bytes after (at + n) (line + k) (tokens ++ record { kind = kind; line = line; from = at; to = at + n } ∷ [])
scanned_token bytes rest at line tokens s kind n stands more text after te ae k ke =
    let t : Fronted rest kind n text after = fronted rest kind n text after stands te ae in
    let left : length rest ≡ length text + length after = ap length t.parts ∙ length-append text after in
    record {
      parts = s.parts ++ token kind text ∷ [];
      cuts = cuts_more bytes s.parts rest (token kind text) after s.cuts t.parts t.is more;
      are = pushed at line n tokens s.parts kind text s.are s.at_is s.line_is t.long;
      at_is = omega (arith, s.at_is, size_more s.parts (token kind text), t.long);
      line_is = omega (arith, s.line_is, lines_more s.parts (token kind text), ke);
      room = omega (arith, s.room, left, t.long);
      few = omega (arith, s.few, few_lines text, ke, t.long);
    }

-- `end-model` ends all
pub scanned_end : (bytes rest : List ℕ) (at line : ℕ) (tokens : List Token) → Scanned bytes rest at line tokens → (kind : TokenKind) (n : ℕ) → Stands rest (lexeme_kind.Token kind n) → is_end_model kind ≡ true → IsWholeCut bytes (tokens ++ record { kind = kind; line = line; from = at; to = at + n } ∷ []) (at + n)
scanned_end bytes rest at line tokens s kind n stands end =
    let text : List ℕ = take n rest in
    let after : List ℕ = drop n rest in
    let t : Fronted rest kind n text after = fronted rest kind n text after stands refl refl in
    let left : length rest ≡ length text + length after = ap length t.parts ∙ length-append text after in
    let is : IsToken EndModel text after = subst (λ x. IsToken x text after) (end_model kind end) t.is in
    let whole : Whole bytes after (s.parts ++ token EndModel text ∷ []) = up_to_end_model s.parts text rest s.cuts t.parts is in
    record {
      parts = s.parts ++ token kind text ∷ [];
      left = after;
      whole = subst (λ x. Whole bytes after (s.parts ++ token x text ∷ [])) (sym (end_model kind end)) whole;
      are = pushed at line n tokens s.parts kind text s.are s.at_is s.line_is t.long;
      reach = omega (arith, s.room, left, t.long);
    }

nothing : (xs : List ℕ) → length xs ≡ 0 → xs ≡ []
nothing [] e = refl
nothing (x ∷ xs) e = absurd (omega arith)

pub scanned_whole : (bytes rest : List ℕ) (at line : ℕ) (tokens : List Token) → Scanned bytes rest at line tokens → length rest ≡ 0 → IsWholeCut bytes tokens at
scanned_whole bytes rest at line tokens s e = record {
  parts = s.parts;
  left = [];
  whole = up_to_the_end s.parts (subst (λ x. Cuts bytes s.parts x) (nothing rest e) s.cuts) refl;
  are = s.are;
  reach = omega (arith, s.room, e);
}
