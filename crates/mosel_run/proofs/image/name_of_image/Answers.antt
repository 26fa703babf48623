-- the name ends in four letters, before which it can be cut
use Rattle.std.specs.Prelude.{codes}
use Rattle.std.proofs.lemmas.Slice.Eq.{bytes_eq-Decides}
use Rattle.std.proofs.Common.{drop, true, ◌≡◌, ◌≤◌, ◌-◌, ◌+◌, ℕ, List, length, get_or, ap, sym, ◌∙◌, length-drop, arith, subst}
use Rattle.std.specs.Str.{IsCharBoundary}
use Rattle.std.proofs.lemmas.Str.{IsCharBoundary-before_ascii}
use Rattle.std.proofs.lemmas.List.{get_or-drop}
use Rattle.mos_text.specs.FileName.{is_source_name}
use Rattle.mosel_run.proofs.image.name_of_image.Goals as goal

ends : (name : List ℕ) → is_source_name name ≡ true → drop (length name - 4) name ≡ codes ".mos"
ends name h = (bytes_eq-Decides (drop (length name - 4) name) (codes ".mos")).0 h

four : (name : List ℕ) → drop (length name - 4) name ≡ codes ".mos" → 4 ≤ length name
four name e = let l = length-drop (length name - 4) name in let k = ap (λ bytes. length bytes) e in omega arith

cut : (name : List ℕ) → drop (length name - 4) name ≡ codes ".mos" → IsCharBoundary name (length name - 4)
cut name e =
    let f = four name e in
    let k : (length name - 4) + 0 ≡ length name - 4 = omega arith in
    let point : get_or name (length name - 4) 0 ≡ 46 =
    sym (get_or-drop (length name - 4) name 0 0 ∙ ap (λ i. get_or name i 0) k) ∙ ap (λ bytes. get_or bytes 0 0) e in
    IsCharBoundary-before_ascii name (length name - 4) (omega arith) (omega arith)

pub overflow_sub-source : goal.overflow_sub-source
overflow_sub-source c =
    subst (λ bytes. 4 ≤ length bytes) (sym c.as_str-source.ensures.value) (four c.args.source.now (ends c.args.source.now c.requires))

pub range-requires-clause-end_boundary : goal.range-requires-clause-end_boundary
range-requires-clause-end_boundary c =
    subst (λ bytes. IsCharBoundary bytes (length bytes - 4)) (sym c.as_str-source.ensures.value) (cut c.args.source.now (ends c.args.source.now c.requires))
