-- what is too long already stays so with more behind it

use Rattle.std.proofs.Common.{◌≡◌, ◌≤◌, ◌<◌, ℕ, ◌+◌, List, ◌∷◌, ◌++◌, drop, get_or, length, ap, sym, ◌∙◌, arith}
use Rattle.std.specs.List.{flat_map}
use Rattle.std.proofs.lemmas.List.{length-append, at_drop_more}
use Rattle.mos_text.specs.declared.scalar.Scalar.{Scalar}
use Rattle.mos_value.specs.declared.fault.ValueFault.{ValueFault}
use Rattle.mos_value.specs.declared.fault.ValueFault.TheVariants.{Fault, NoMemory}
use Rattle.vm_lib.specs.Growing.{IsOver}
use Rattle.vm_lib.specs.Printed.{print_next, print_next_field, print_more_fields}

-- of two texts and pieces, the longer ones are too long too
pub over_more : (fault : ValueFault) (before piece longer more : List ℕ) → length before + length piece ≤ length longer + length more
    → IsOver fault before piece → IsOver fault longer more
over_more (Fault kind) before piece longer more h over = (over.0, omega (arith, h, over.1))
over_more NoMemory before piece longer more h over = tt

-- so is the whole, where a text, a piece and the rest make it up
pub over_whole : (fault : ValueFault) (text piece rest initial all : List ℕ) → text ++ (piece ++ rest) ≡ initial ++ all
    → IsOver fault text piece → IsOver fault initial all
over_whole fault text piece rest initial all whole over =
    let e : length text + (length piece + length rest) ≡ length initial + length all =
    ap (λ n. length text + n) (sym (length-append piece rest)) ∙ sym (length-append text (piece ++ rest)) ∙ ap length whole ∙ length-append initial all in
    over_more fault text piece initial all (omega (arith, e)) over

-- an item that is too many
pub over_item : (fault : ValueFault) (text initial : List ℕ) (items : List Scalar) (n : ℕ) (item : Scalar) → n < length items → item ≡ get_or items n item
    → text ++ flat_map print_next (drop n items) ≡ initial ++ flat_map print_next items
    → IsOver fault text (print_next item) → IsOver fault initial (flat_map print_next items)
over_item fault text initial items n item within is whole over =
    over_whole fault text (print_next item) (flat_map print_next (drop (n + 1) items)) initial (flat_map print_next items)
    (ap (λ rest. text ++ rest) (ap (λ x. print_next x ++ flat_map print_next (drop (n + 1) items)) is ∙ sym (at_drop_more (flat_map print_next) items n item within)) ∙ whole) over

-- a field that is too many
pub over_field : (fault : ValueFault) (text initial : List ℕ) (names : List (List ℕ)) (values : List Scalar) (n : ℕ) (name : List ℕ) (value : Scalar) (more rest : List Scalar)
    → n < length names → name ≡ get_or names n name → rest ≡ value ∷ more
    → text ++ print_more_fields (drop n names) rest ≡ initial ++ print_more_fields names values
    → IsOver fault text (print_next_field name value) → IsOver fault initial (print_more_fields names values)
over_field fault text initial names values n name value more rest within is left whole over =
    over_whole fault text (print_next_field name value) (print_more_fields (drop (n + 1) names) more) initial (print_more_fields names values)
    (ap (λ all. text ++ all) (ap (λ x. print_next_field x value ++ print_more_fields (drop (n + 1) names) more) is
    ∙ sym (at_drop_more (λ tail. print_more_fields tail (value ∷ more)) names n name within)
    ∙ ap (print_more_fields (drop n names)) (sym left)) ∙ whole) over
