-- One instruction more.

use Rattle.std.proofs.Common.{◌≡◌, ◌<◌, ℕ, ◌+◌, suc, List, Option, sym, ap, ◌∙◌, length, drop, get_or, drop-cons, arith}
use Rattle.bim_code.specs.declared.image.Image.{Image}
use Rattle.bim_code.specs.declared.instruction.Instruction.{Instruction}
use Rattle.bim_code.specs.Code.{code_size}
use Rattle.bim_code.specs.Rows.{width}
use Rattle.bim_rules.specs.declared.breach.Breach.{Breach}
use Rattle.bim_rules.specs.Breaches.{first_of}
use Rattle.bim_verify.specs.Stacks.{Known, before, leaves, line_breaches, stack_breaches}
use Rattle.bim_verify.proofs.First.{first_append}

pub size_step : (code : List Instruction) (k : ℕ) (d : Instruction) (at size whole : ℕ) → k < length code → size ≡ width (get_or code k d)
    → at + code_size (drop k code) ≡ whole → (at + size) + code_size (drop (k + 1) code) ≡ whole
size_step code k d at size whole within wide e =
    let next : k + 1 ≡ suc k = omega arith in
    let cut : code_size (drop k code) ≡ width (get_or code k d) + code_size (drop (suc k) code) = ap code_size (drop-cons code k d within) in
    rw next (omega (arith, wide, cut, e))

pub stack_step : (image : Image) (code : List Instruction) (k : ℕ) (d : Instruction) (at size : ℕ) (left later : Known) (found next whole : Option Breach)
    → k < length code → size ≡ width (get_or code k d) → next ≡ first_of found (line_breaches image at (get_or code k d) left)
    → later ≡ leaves image (get_or code k d) (before image at left) → first_of found (stack_breaches image at left (drop k code)) ≡ whole
    → first_of next (stack_breaches image (at + size) later (drop (k + 1) code)) ≡ whole
stack_step image code k d at size left later found next whole within wide is known e =
    let i = get_or code k d in
    let one : k + 1 ≡ suc k = omega arith in
    rw (one, wide, is, known)
    (sym (first_append found (line_breaches image at i left) (stack_breaches image (at + width i) (leaves image i (before image at left)) (drop (suc k) code)))
    ∙ sym (ap (λ (rest : List Instruction). first_of found (stack_breaches image at left rest)) (drop-cons code k d within)) ∙ e)
