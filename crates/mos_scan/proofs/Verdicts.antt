-- What is said of a source that is cut as far as it goes.

use Rattle.std.proofs.Common.{◌≡◌, ℕ, zero, suc, ◌<◌, inl, inr, nat_eq, nat_le, true, ◌&&◌, List, [], ◌∷◌, take, sym, subst, arith}
use Rattle.std.proofs.lemmas.Bool.{or_cases, and_parts, leb-true, eqb-true}
use Rattle.std.proofs.lemmas.Str.{IsUtf8-from_ascii}
use Rattle.std.specs.Str.{IsAscii, IsUtf8}
use Rattle.std.specs.Str.Lossy.{utf8_valid_len}
use Rattle.std.specs.List.{list_all, prefix_len}
use Rattle.std.specs.Char.{is_ascii_alphabetic, is_ascii_digit}
use Rattle.mos_text.specs.declared.kind.Kind.{Kind}
use Rattle.mos_text.specs.declared.kind.Kind.TheVariants as error_kind
use Rattle.mos_scan.specs.declared.fault.LexFault.{LexFault}
use Rattle.mos_scan.specs.declared.fault.LexFault.TheVariants as lex_fault
use Rattle.mos_scan.specs.Characters.{is_word, begins_name}
use Rattle.mos_scan.specs.Cuts.{IsRead, IsLexicalFault, no_utf8}
use Rattle.mos_scan.specs.Scans.{IsFaultOf, Names}
use Rattle.mos_scan.proofs.Lists.{Run, run_of, all_head, all_tail}
use Rattle.mos_scan.proofs.Looks.{take_front}

-- ---- words are texts

small : (x : ℕ) → is_word x ≡ true → x < 128
small x h =
    elim (or_cases (begins_name x) (is_ascii_digit x) h) [
      | inl w ↦
          elim (or_cases (is_ascii_alphabetic x) (nat_eq x 95) w) [
            | inl a ↦
                elim (or_cases (nat_le 65 x && nat_le x 90) (nat_le 97 x && nat_le x 122) a) [
                  | inl b ↦ omega (arith, leb-true x 90 (and_parts (nat_le 65 x) (nat_le x 90) b).1)
                  | inr b ↦ omega (arith, leb-true x 122 (and_parts (nat_le 97 x) (nat_le x 122) b).1)
                ]
            | inr u ↦ omega (arith, eqb-true x 95 u)
          ]
      | inr d ↦ omega (arith, leb-true x 57 (and_parts (nat_le 48 x) (nat_le x 57) d).1)
    ]

all_small : (xs : List ℕ) → list_all is_word xs ≡ true → IsAscii xs
all_small [] h i = omega arith
all_small (x ∷ xs) h zero = small x (all_head is_word x xs h)
all_small (x ∷ xs) h (suc i) = all_small xs (all_tail is_word x xs h) i

pub word_is_text : (xs : List ℕ) → IsUtf8 (take (prefix_len is_word xs) xs)
word_is_text xs =
    let r : Run is_word xs = run_of is_word xs in
    subst (λ x. IsUtf8 x) (sym (take_front xs r.front r.back (prefix_len is_word xs) r.parts (sym r.long))) (IsUtf8-from_ascii r.front (all_small r.front r.passes))

-- ---- what is said of a source

-- what is read is no UTF-8
pub not_text : (bytes : List ℕ) (reach valid : ℕ) → IsRead bytes reach → valid ≡ utf8_valid_len bytes → valid < reach → IsLexicalFault bytes valid error_kind.Utf8
not_text bytes reach valid r e h = subst (λ x. IsLexicalFault bytes x error_kind.Utf8) (sym e) (no_utf8 reach r (omega (arith, e, h)))

pub fault_is : (fault : LexFault) (bytes : List ℕ) (place : ℕ) (kind : Kind) → Names fault bytes place kind → IsLexicalFault bytes place kind → IsFaultOf bytes fault
fault_is (lex_fault.At line column kind') bytes place kind is f = record {
  place = place;
  fault = subst (λ x. IsLexicalFault bytes place x) (sym is.2) f;
  line_is = is.0;
  column_is = is.1;
}
fault_is lex_fault.NoMemory bytes place kind is f = tt
