-- An image is told by its bytes: its parts stand one behind the other.
use Rattle.std.proofs.Common.{◌≡◌, ℕ, List, [], ◌++◌, refl, ap}
use Rattle.bim_code.specs.declared.image.Image.{Image}
use Rattle.bim_code.specs.Tables.{heading_bytes, image_bytes}
use Rattle.bim_format.specs.Fields.{FitsFields}
use Rattle.bim_format.proofs.PrefixCodes.{IsPrefixCode, u16_apart, both_apart, whole_apart, behind_apart, short_table_apart, long_table_apart}
use Rattle.bim_format.proofs.Entries.{constant_apart, type_apart, parameter_apart, routine_apart, point_apart}
use Rattle.bim_format.proofs.Instructions.{code_apart}

image_apart : IsPrefixCode Image FitsFields image_bytes
unfolding image_bytes
image_apart =
    let two = both_apart (behind_apart heading_bytes (long_table_apart constant_apart)) (short_table_apart type_apart) in
    let four = both_apart (both_apart two (short_table_apart parameter_apart)) (long_table_apart u16_apart) in
    let six = both_apart (both_apart four (short_table_apart routine_apart)) (long_table_apart point_apart) in
    whole_apart (both_apart six code_apart) FitsFields
    (λ image. ((((((image.constants, image.types), image.params), image.globals), image.routines), image.points), image.code))
    (λ p. record {
      constants = p.0.0.0.0.0.0;
      types = p.0.0.0.0.0.1;
      params = p.0.0.0.0.1;
      globals = p.0.0.0.1;
      routines = p.0.0.1;
      points = p.0.1;
      code = p.1;
    })
    (λ image fits. (
      (
        (
          (
            (
              (
                (fits.counts.constants, fits.counts.texts),
                (fits.counts.types, λ k d within. (fits.counts.parts k d within, fits.types k d within)),
              ),
              (fits.counts.params, fits.parameters),
            ),
            (fits.counts.globals, fits.globals),
          ),
          (fits.counts.routines, λ k d within. (fits.counts.slots k d within, fits.routines k d within)),
        ),
        (fits.counts.points, λ k d within. (fits.counts.stacks k d within, fits.points k d within)),
      ),
      (fits.counts.code, fits.code),
    ))
    (λ image. refl)

pub same_image : (a b : Image) → FitsFields a → FitsFields b → image_bytes a ≡ image_bytes b → a ≡ b
same_image a b fits also e = (image_apart.apart a b [] [] fits also (ap (λ (bytes : List ℕ). bytes ++ []) e)).0
