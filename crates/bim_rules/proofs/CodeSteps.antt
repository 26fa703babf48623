-- One instruction more.

use Rattle.std.proofs.Common.{◌≡◌, ◌<◌, ℕ, ◌+◌, suc, List, Option, sym, ap, ◌∙◌, length, drop, get_or, drop-cons, arith}
use Rattle.bim_code.specs.declared.image.Image.{Image}
use Rattle.bim_code.specs.declared.instruction.Instruction.{Instruction}
use Rattle.bim_code.specs.Code.{code_size}
use Rattle.bim_code.specs.Rows.{width}
use Rattle.bim_rules.specs.declared.breach.Breach.{Breach}
use Rattle.bim_rules.specs.Breaches.{first_of}
use Rattle.bim_rules.specs.Code.{instruction_breaches, code_breaches}
use Rattle.bim_rules.proofs.Breaches.{first_append}

pub size_step : (code : List Instruction) (k : ℕ) (d : Instruction) (at size whole : ℕ) → k < length code → size ≡ width (get_or code k d)
    → at + code_size (drop k code) ≡ whole → (at + size) + code_size (drop (k + 1) code) ≡ whole
size_step code k d at size whole within wide e =
    let next : k + 1 ≡ suc k = omega arith in
    let cut : code_size (drop k code) ≡ width (get_or code k d) + code_size (drop (suc k) code) = ap code_size (drop-cons code k d within) in
    rw next (omega (arith, wide, cut, e))

pub breach_step : (image : Image) (code : List Instruction) (k : ℕ) (d : Instruction) (at size : ℕ) (found next whole : Option Breach) → k < length code
    → size ≡ width (get_or code k d) → next ≡ first_of found (instruction_breaches image at (get_or code k d))
    → first_of found (code_breaches image at (drop k code)) ≡ whole → first_of next (code_breaches image (at + size) (drop (k + 1) code)) ≡ whole
breach_step image code k d at size found next whole within wide is e =
    let one : k + 1 ≡ suc k = omega arith in
    rw (one, wide, is)
    (sym (first_append found (instruction_breaches image at (get_or code k d)) (code_breaches image (at + width (get_or code k d)) (drop (suc k) code)))
    ∙ sym (ap (λ (rest : List Instruction). first_of found (code_breaches image at rest)) (drop-cons code k d within)) ∙ e)
