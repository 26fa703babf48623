-- Bytes that are UTF-8 are the names and texts that the grammar sees.

use Rattle.std.proofs.Common.{◌≡◌, ℕ, true, List, refl}
use Rattle.std.proofs.lemmas.Bool.{eq-eqb}
use Rattle.std.proofs.lemmas.Str.{utf8_valid_len-IsUtf8}
use Rattle.std.specs.Str.{IsUtf8}
use Rattle.mos_scan.specs.declared.grammar_word.Word.TheVariants as word_kind
use Rattle.mos_scan.specs.Reading.{is_text, name_word, text_word}

is_utf8 : (bytes : List ℕ) → IsUtf8 bytes → is_text bytes ≡ true
is_utf8 bytes h = eq-eqb _ _ (utf8_valid_len-IsUtf8 bytes h)

pub named_is : (bytes text : List ℕ) → text ≡ bytes → IsUtf8 bytes → word_kind.Name text ≡ name_word bytes
unfolding name_word
named_is bytes text e h = rw (e, is_utf8 bytes h) refl

pub text_is : (bytes text : List ℕ) → text ≡ bytes → IsUtf8 bytes → word_kind.Text text ≡ text_word bytes
unfolding text_word
text_is bytes text e h = rw (e, is_utf8 bytes h) refl
