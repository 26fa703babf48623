-- An image that breaks none of the rules keeps them all.

use Rattle.std.proofs.Common.{◌≡◌, ◌≤◌, ℕ, ◌+◌, zero, suc, true, List, [], ◌∷◌, ◌++◌, Some, None, length, map, take, slice_get, nat_eq, All, subst, arith}
use Rattle.std.proofs.lemmas.List.Elements.{All-head}
use Rattle.bim_code.specs.declared.image.Image.{Image}
use Rattle.bim_code.specs.declared.image.ImageType.{ImageType}
use Rattle.bim_code.specs.declared.image.Routine.{Routine}
use Rattle.bim_code.specs.declared.image.Point.{Point}
use Rattle.bim_code.specs.declared.instruction.Instruction.{Instruction}
use Rattle.bim_code.specs.Code.{instruction_at}
use Rattle.bim_code.specs.Rules.{part_of, HasParts, KeepsRules}
use Rattle.bim_rules.specs.declared.breach.Rule.TheVariants.{Ends}
use Rattle.bim_rules.specs.declared.breach.Table.TheVariants as table
use Rattle.bim_rules.specs.Breaches.{mark}
use Rattle.bim_rules.specs.Parts.{is_begun}
use Rattle.bim_rules.specs.Types.{is_flat, type_breaches}
use Rattle.bim_rules.specs.Tables.{parameter_breaches, global_breaches, routine_breaches, point_breaches}
use Rattle.bim_rules.specs.Code.{code_breaches, has_main}
use Rattle.bim_rules.specs.Images.{plain_breaches, variable_breaches, part_breaches}
use Rattle.bim_verify.specs.Laws.{HasWords}
use Rattle.bim_verify.proofs.Tests.{first_half, second_half, first_none, second_none, unmarked, same_number}
use Rattle.bim_verify.proofs.KeptTypes.{types_unbroken, flat_holds}
use Rattle.bim_verify.proofs.KeptTables.{parameters_hold, defaults_hold, names_differ, slots_differ}
use Rattle.bim_verify.proofs.KeptCode.{begun_holds, right_at, numbers_hold, routines_hold, points_hold, all_begun, ascends, globals_hold}

-- the parts of the breaches, each empty
record Empty (image : Image) : Type 0 where
  types : type_breaches image 0 image.types ≡ []
  parameters : parameter_breaches image 0 [] [] image.params ≡ []
  globals : global_breaches image 0 image.globals ≡ []
  routines : routine_breaches image 0 None image.routines ≡ []
  points : point_breaches image 0 None image.points ≡ []
  main : has_main image ≡ true
  code : code_breaches image 0 image.code ≡ []

empty_by : (image : Image) → plain_breaches image ≡ [] → Empty image
empty_by image e =
    let t = type_breaches image 0 image.types in
    let p = parameter_breaches image 0 [] [] image.params in
    let g = global_breaches image 0 image.globals in
    let r = routine_breaches image 0 None image.routines in
    let q = point_breaches image 0 None image.points in
    let m = mark Ends table.Code 0 (has_main image) in
    let c = code_breaches image 0 image.code in
    let variables : t ++ (p ++ g) ≡ [] = first_none (variable_breaches image) (part_breaches image) e in
    let parts : r ++ (q ++ (m ++ c)) ≡ [] = second_none (variable_breaches image) (part_breaches image) e in
    let pg = second_none t (p ++ g) variables in
    let qmc = second_none r (q ++ (m ++ c)) parts in
    let mc = second_none q (m ++ c) qmc in
    record {
      types = first_none t (p ++ g) variables;
      parameters = first_none p g pg;
      globals = second_none p g pg;
      routines = first_none r (q ++ (m ++ c)) parts;
      points = first_none q (m ++ c) qmc;
      main = unmarked Ends table.Code 0 (has_main image) (first_none m c mc);
      code = second_none m c mc;
    }

some_code : (code : List Instruction) (i : Instruction) → instruction_at code 0 ≡ Some i → 1 ≤ length code
some_code [] i e = cc
some_code (j ∷ is) i e = omega arith

all_get : (image : Image) → All (HasParts image) image.types → (k : ℕ) (typ : ImageType) → slice_get image.types k ≡ Some typ → HasParts image typ
all_get image all k typ f = by image.types all k f
  where
    by : (types : List ImageType) → All (HasParts image) types → (j : ℕ) → slice_get types j ≡ Some typ → HasParts image typ
    by [] h j e = cc
    by (t ∷ types) h zero e = let same : t ≡ typ = cc in subst (HasParts image) same (All-head (HasParts image) t types h)
    by (t ∷ types) h (suc j) e = by types (λ n d within. h (suc n) d (omega (arith, within))) j e

pub unbroken_is_kept : (image : Image) → HasWords image → plain_breaches image ≡ [] → KeepsRules image
unbroken_is_kept image words e =
    let parts = empty_by image e in
    let types = types_unbroken image 0 image.types parts.types in
    let routines = routines_hold image 0 None image.routines parts.routines in
    let points = points_hold image 0 None image.points parts.points in
    let first = begun_holds image 0 (first_half (is_begun image 0) (nat_eq (part_of image.routines 0) 0) parts.main) in
    record {
      numbers = record {
        types = types.0;
        parameters = parameters_hold image 0 [] [] image.params words.defaults parts.parameters;
        globals = globals_hold image 0 image.globals parts.globals;
        routines = routines.0;
        points = points.0;
        code = numbers_hold image 0 image.code words.code parts.code;
      };
      types = record {
        flat = λ k typ f. flat_holds image (take k image.types) typ (all_get image types.0 k typ f)
            (let at : 0 + k ≡ k = omega arith in subst (λ n. is_flat (take n image.types) typ ≡ true) at (types.1 k typ f));
        defaults = defaults_hold image 0 [] [] image.params parts.parameters;
        names = names_differ image 0 [] [] image.params parts.parameters;
        slots = slots_differ image 0 [] [] image.params parts.parameters;
      };
      addresses = record {
        routines_ascend = ascends image None (map (λ (r : Routine). r.address) image.routines) routines.1;
        points_ascend = ascends image None (map (λ (p : Point). p.address) image.points) points.1;
        routines = all_begun image (λ (r : Routine). r.address) None image.routines routines.1;
        points = all_begun image (λ (p : Point). p.address) None image.points points.1;
        operands = λ at i f. let right = right_at image 0 image.code parts.code at i f in right.named;
      };
      ends = record {
        main = first;
        main_is_first = same_number (part_of image.routines 0) 0 (second_half (is_begun image 0) (nat_eq (part_of image.routines 0) 0) parts.main);
        behind = λ at i f. let right = right_at image 0 image.code parts.code at i f in right.on;
      };
      ticks = record {
        some = some_code image.code first.0 first.1;
        back = λ at i address f named back. let right = right_at image 0 image.code parts.code at i f in right.ticks address named back;
      };
    }
