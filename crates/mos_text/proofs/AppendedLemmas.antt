-- What two writes in a row append.

use Rattle.std.proofs.Common.{◌≡◌, ℕ, ◌+◌, List, ◌++◌, Option, Some, None, take, drop, refl, ap, sym, ◌∙◌, append_assoc}
use Rattle.std.proofs.Math.Seq.{take-add}
use Rattle.mos_text.specs.SinkBytes.{bytes_after}

-- the first bytes of a text, then the next ones
pub appended-take : (before : Option (List ℕ)) (text : List ℕ) (done n : ℕ) → bytes_after (bytes_after before (take done text)) (take n (drop done text)) ≡ bytes_after before (take (done + n) text)
appended-take None text done n = refl
appended-take (Some bytes) text done n =
    ap Some (append_assoc bytes (take done text) (take n (drop done text)) ∙ ap (λ more. bytes ++ more) (sym (take-add done n text)))
