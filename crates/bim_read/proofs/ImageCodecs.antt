-- Whole images: what is written is read, and only that.
use Rattle.std.proofs.Common.{◌≡◌, ◌<◌, ◌^◌, ℕ, Bool, true, false, List, [], ◌∷◌, ◌++◌, Ok, length, nat_eq, if◌then◌else◌, refl, sym, ap, ◌∙◌, subst, append_assoc, append-nil, arith}
use Rattle.std.proofs.lemmas.Bool.Decides.{nat_tests}
use Rattle.bim_code.specs.declared.image.Image.{Image}
use Rattle.bim_code.specs.declared.image.ImageType.{ImageType}
use Rattle.bim_code.specs.declared.image.Parameter.{Parameter}
use Rattle.bim_code.specs.declared.image.Routine.{Routine}
use Rattle.bim_code.specs.declared.image.Point.{Point}
use Rattle.bim_code.specs.declared.instruction.Instruction.{Instruction}
use Rattle.bim_code.specs.Bytes.{u16_bytes, u32_bytes, short_table, long_table}
use Rattle.bim_code.specs.Code.{code_bytes}
use Rattle.bim_code.specs.Tables.{constant_bytes, heading_bytes, image_bytes, parameter_bytes, point_bytes, routine_bytes, type_bytes}
use Rattle.bim_read.specs.declared.fault.FaultKind.TheVariants as kind
use Rattle.bim_read.specs.Reading.{◌>>=◌, wrong}
use Rattle.bim_read.specs.Images.{heading_at, image_at, image_from, image_of, letters_at, routines_at, tables_at, variables_at, version_at, with_end, IsStorable}
use Rattle.bim_read.proofs.Codecs.{AreBytes, IsCodec, bytes_behind, came_from, both_codec, made_codec, checked_codec, table_codec}
use Rattle.bim_read.proofs.FieldCodecs.{half_codec, word_codec, count_codec, text_codec}
use Rattle.bim_read.proofs.EntryCodecs.{type_codec, parameter_codec, routine_codec, point_codec}
use Rattle.bim_read.proofs.CodeCodecs.{code_codec}
use Rattle.bim_read.proofs.Storing.{VariablesFit, RoutinesFit, variables_of, routines_of, Stored, stored, storable}

-- the heading

letters_codec : IsCodec ℕ (λ n. (n < 2 ^ 32) × (nat_eq n 0x4d42494d ≡ true)) u32_bytes letters_at
letters_codec = checked_codec (λ n. nat_eq n 0x4d42494d) kind.Letters word_codec

version_codec : IsCodec ℕ (λ n. (n < 2 ^ 16) × (nat_eq n 1 ≡ true)) u16_bytes version_at
version_codec = checked_codec (λ n. nat_eq n 1) kind.Version half_codec

heading_is : (rest : List ℕ) → heading_bytes ++ rest ≡ u32_bytes 0x4d42494d ++ (u16_bytes 1 ++ rest)
unfolding heading_bytes u32_bytes
heading_is rest = refl

heading_back : (rest : List ℕ) → heading_at (heading_bytes ++ rest) ≡ Ok (1, rest)
unfolding heading_at
heading_back rest =
    let one = letters_codec.back 0x4d42494d (u16_bytes 1 ++ rest) (omega arith, refl) in
    let two = version_codec.back 1 rest (omega arith, refl) in
    ap (λ (bytes : List ℕ). letters_at bytes >>= λ letters. version_at letters.1) (heading_is rest) ∙ rw one two

heading_forth : (bytes rest : List ℕ) (v : ℕ) → AreBytes bytes → heading_at bytes ≡ Ok (v, rest) → bytes ≡ heading_bytes ++ rest
unfolding heading_at
heading_forth bytes rest v are e =
    let one = came_from (letters_at bytes) (λ letters. version_at letters.1) (v, rest) e in
    let here = letters_codec.forth bytes one.0.1 one.0.0 are one.1 in
    let there = version_codec.forth one.0.1 rest v (bytes_behind (u32_bytes one.0.0) one.0.1 bytes are here.1) one.2 in
    let letter = here.0.1 in
    let number = there.0.1 in
    let letters : one.0.0 ≡ 0x4d42494d = grind (arith, nat_tests, letter) in
    let version : v ≡ 1 = grind (arith, nat_tests, number) in
    here.1
    ∙ ap (λ (n : ℕ). u32_bytes n ++ one.0.1) letters
    ∙ ap (λ (tail : List ℕ). u32_bytes 0x4d42494d ++ tail) (there.1 ∙ ap (λ (n : ℕ). u16_bytes n ++ rest) version)
    ∙ sym (heading_is rest)

-- the tables

abbrev variables_bytes : List (List ℕ) × (List ImageType × (List Parameter × List ℕ)) → List ℕ
variables_bytes p = long_table constant_bytes p.0 ++ (short_table type_bytes p.1.0 ++ (short_table parameter_bytes p.1.1.0 ++ long_table u16_bytes p.1.1.1))

variables_codec : IsCodec (List (List ℕ) × (List ImageType × (List Parameter × List ℕ))) VariablesFit variables_bytes variables_at
unfolding variables_at
variables_codec =
    both_codec (table_codec (count_codec 65536) text_codec)
    (both_codec (table_codec half_codec type_codec) (both_codec (table_codec half_codec parameter_codec) (table_codec (count_codec 65536) half_codec)))

abbrev routines_bytes : List Routine × (List Point × List Instruction) → List ℕ
routines_bytes p = short_table routine_bytes p.0 ++ (long_table point_bytes p.1.0 ++ code_bytes p.1.1)

routines_codec : IsCodec (List Routine × (List Point × List Instruction)) RoutinesFit routines_bytes routines_at
unfolding routines_at
routines_codec = both_codec (table_codec half_codec routine_codec) (both_codec (table_codec word_codec point_codec) code_codec)

abbrev tables_bytes : Image → List ℕ
tables_bytes image = variables_bytes (variables_of image) ++ routines_bytes (routines_of image)

tables_codec : IsCodec Image Stored tables_bytes tables_at
tables_codec =
    made_codec Stored image_of (λ image. (variables_of image, routines_of image)) (both_codec variables_codec routines_codec)
    (λ image fits. fits) (λ image fits. refl) (λ p fits. (fits, refl))

-- eight lists behind one another
eight : (h c t p g r q k : List ℕ) → h ++ c ++ t ++ p ++ g ++ r ++ q ++ k ≡ h ++ ((c ++ (t ++ (p ++ g))) ++ (r ++ (q ++ k)))
eight h c t p g r q k =
    append_assoc (h ++ c ++ t ++ p ++ g ++ r) q k
    ∙ append_assoc (h ++ c ++ t ++ p ++ g) r (q ++ k)
    ∙ ap (λ (front : List ℕ). front ++ (r ++ (q ++ k)))
    (append_assoc (h ++ c ++ t) p g ∙ append_assoc (h ++ c) t (p ++ g) ∙ append_assoc h c (t ++ (p ++ g)))
    ∙ append_assoc h (c ++ (t ++ (p ++ g))) (r ++ (q ++ k))

image_is : (image : Image) → image_bytes image ≡ heading_bytes ++ tables_bytes image
unfolding image_bytes
image_is image =
    eight heading_bytes (long_table constant_bytes image.constants) (short_table type_bytes image.types) (short_table parameter_bytes image.params)
    (long_table u16_bytes image.globals) (short_table routine_bytes image.routines) (long_table point_bytes image.points) (code_bytes image.code)

-- whole images

pub read_back : (image : Image) → IsStorable image → image_from (image_bytes image) ≡ Ok image
unfolding image_from image_at
read_back image fits =
    let one = heading_back (tables_bytes image) in
    let nothing : tables_bytes image ++ [] ≡ tables_bytes image = append-nil (tables_bytes image) in
    let two : tables_at (tables_bytes image) ≡ Ok (image, []) = ap tables_at (sym nothing) ∙ tables_codec.back image [] (stored image fits) in
    ap (λ (bytes : List ℕ). (heading_at bytes >>= λ h. tables_at h.1) >>= λ x. with_end x.0 x.1) (image_is image) ∙ rw one (rw two refl)

nothing_left : (image other : Image) (rest : List ℕ) → with_end image rest ≡ Ok other → (image ≡ other) × (rest ≡ [])
nothing_left image other [] e = (cc, refl)
nothing_left image other (b ∷ rest) e = by (nat_eq (length (b ∷ rest)) 0) (grind (arith, nat_tests)) e
  where
    by : (t : Bool) → t ≡ false → (if t then Ok image else wrong kind.Behind (b ∷ rest)) ≡ Ok other → (image ≡ other) × (b ∷ rest ≡ [])
    by true f g = absurd cc
    by false f g = absurd cc

pub only_written : (bytes : List ℕ) (image : Image) → AreBytes bytes → image_from bytes ≡ Ok image → IsStorable image × (bytes ≡ image_bytes image)
unfolding image_from image_at
only_written bytes image are e =
    let one = came_from (heading_at bytes >>= λ h. tables_at h.1) (λ x. with_end x.0 x.1) image e in
    let two = came_from (heading_at bytes) (λ h. tables_at h.1) one.0 one.1 in
    let heading = heading_forth bytes two.0.1 two.0.0 are two.1 in
    let tables = tables_codec.forth two.0.1 one.0.1 one.0.0 (bytes_behind heading_bytes two.0.1 bytes are heading) two.2 in
    let ended = nothing_left one.0.0 image one.0.1 one.2 in
    let whole : bytes ≡ heading_bytes ++ tables_bytes one.0.0 =
    heading ∙ ap (λ (tail : List ℕ). heading_bytes ++ tail) (tables.1 ∙ ap (λ (tail : List ℕ). tables_bytes one.0.0 ++ tail) ended.1 ∙ append-nil (tables_bytes one.0.0)) in
    subst (λ (y : Image). IsStorable y × (bytes ≡ image_bytes y)) ended.0 (storable one.0.0 tables.0, whole ∙ sym (image_is one.0.0))
