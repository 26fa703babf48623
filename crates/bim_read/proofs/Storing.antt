-- What a file can hold, part by part, is what can be written and read.
use Rattle.std.proofs.Common.{◌≡◌, ◌≢◌, ◌<◌, ◌≤◌, ◌^◌, ℕ, List, [], ◌∷◌, Option, Some, None, length, slice_index_or, All, IsUtf8, refl, subst, arith}
use Rattle.std.specs.Int.{w32, cast_unsigned}
use Rattle.std.proofs.lemmas.Bool.Decides.{nat_tests}
use Rattle.std.proofs.lemmas.List.Elements.{All-head, All-cons, All-nil}
use Rattle.std.proofs.lemmas.Str.{IsUtf8-from_is_utf8, is_utf8-from_IsUtf8}
use Rattle.bim_code.specs.declared.image.Image.{Image}
use Rattle.bim_code.specs.declared.image.ImageType.{ImageType}
use Rattle.bim_code.specs.declared.image.ImageType.TheVariants as typ
use Rattle.bim_code.specs.declared.image.Default.{Default}
use Rattle.bim_code.specs.declared.image.Default.TheVariants as default
use Rattle.bim_code.specs.declared.image.Parameter.{Parameter}
use Rattle.bim_code.specs.declared.image.Routine.{Routine}
use Rattle.bim_code.specs.declared.image.Point.{Point}
use Rattle.bim_code.specs.declared.instruction.Instruction.{Instruction}
use Rattle.bim_code.specs.declared.instruction.Instruction.TheVariants.{Tick, PushInt, PushBool, PushText, LoadGlobal, StoreGlobal, Swap, Add, Subtract, Compare, Jump, JumpIf, JumpNot, Show, Write, Line, End, Fault}
use Rattle.bim_code.specs.Code.{code_size}
use Rattle.bim_code.specs.Limits.{TypeInRange, TypeWithin}
use Rattle.bim_code.specs.Rows.{row_of}
use Rattle.bim_format.specs.Fields.{PartsInRange, DefaultInRange, InstructionInRange}
use Rattle.bim_read.specs.Images.{IsStorable}
use Rattle.bim_read.proofs.FieldCodecs.{Counted, TextFits, unsigned_below}
use Rattle.bim_read.proofs.EntryCodecs.{DefaultFits, ParameterFits, PointFits, ResultFits, RoutineFits, Short, TypeFits}
use Rattle.bim_read.proofs.CodeCodecs.{Codable}

-- constants, types, parameters, globals; routines, points, code
abbrev pub VariablesFit : List (List ℕ) × (List ImageType × (List Parameter × List ℕ)) → Type 0
VariablesFit p =
    (Counted 65536 (length p.0) × All TextFits p.0)
    × (Short TypeFits p.1.0 × (Short ParameterFits p.1.1.0 × (Counted 65536 (length p.1.1.1) × All (λ n. n < 2 ^ 16) p.1.1.1)))

abbrev pub RoutinesFit : List Routine × (List Point × List Instruction) → Type 0
RoutinesFit p =
    Short RoutineFits p.0 × (((length p.1.0 < 2 ^ 32) × All PointFits p.1.0) × ((code_size p.1.1 < 2 ^ 32) × ((length p.1.1 ≤ 262144) × All Codable p.1.1)))

-- the parts of an image
abbrev pub variables_of : Image → List (List ℕ) × (List ImageType × (List Parameter × List ℕ))
variables_of image = (image.constants, (image.types, (image.params, image.globals)))

abbrev pub routines_of : Image → List Routine × (List Point × List Instruction)
routines_of image = (image.routines, (image.points, image.code))

abbrev pub Stored : Image → Type 0
Stored image = VariablesFit (variables_of image) × RoutinesFit (routines_of image)

-- counts

counted : (most n : ℕ) → n ≤ most → most < 2 ^ 32 → Counted most n
counted most n few low = (omega (arith, few, low), grind (arith, nat_tests, few))

uncounted : (most n : ℕ) → Counted most n → n ≤ most
uncounted most n has = let test = has.1 in grind (arith, nat_tests, test)

-- each kind of entry

text_fits : (text : List ℕ) → length text ≤ 1048576 → IsUtf8 text → TextFits text
text_fits text few utf8 = (counted 1048576 (length text) few (omega arith), is_utf8-from_IsUtf8 text utf8)

type_fits : (x : ImageType) → TypeWithin x → PartsInRange x → TypeFits x
type_fits typ.Integer within fits = tt
type_fits typ.Boolean within fits = tt
type_fits typ.Str within fits = tt
type_fits typ.Model within fits = tt
type_fits typ.Event within fits = tt
type_fits typ.Range within fits = tt
type_fits (typ.Set member) within fits = fits
type_fits (typ.List member) within fits = fits
type_fits (typ.Array dynamic indexes cell) within fits = (within, fits.0, fits.1)
type_fits (typ.Record fields) within fits = (within, fits)

type_within : (x : ImageType) → TypeFits x → TypeWithin x
type_within typ.Integer fits = tt
type_within typ.Boolean fits = tt
type_within typ.Str fits = tt
type_within typ.Model fits = tt
type_within typ.Event fits = tt
type_within typ.Range fits = tt
type_within (typ.Set member) fits = tt
type_within (typ.List member) fits = tt
type_within (typ.Array dynamic indexes cell) fits = fits.0
type_within (typ.Record fields) fits = fits.0

type_in_range : (x : ImageType) → TypeFits x → TypeInRange x
type_in_range typ.Integer fits = tt
type_in_range typ.Boolean fits = tt
type_in_range typ.Str fits = tt
type_in_range typ.Model fits = tt
type_in_range typ.Event fits = tt
type_in_range typ.Range fits = tt
type_in_range (typ.Set member) fits = tt
type_in_range (typ.List member) fits = tt
type_in_range (typ.Array dynamic indexes cell) fits = let few = fits.0.1 in omega (arith, few)
type_in_range (typ.Record fields) fits = fits.0

parts_in_range : (x : ImageType) → TypeFits x → PartsInRange x
parts_in_range typ.Integer fits = tt
parts_in_range typ.Boolean fits = tt
parts_in_range typ.Str fits = tt
parts_in_range typ.Model fits = tt
parts_in_range typ.Event fits = tt
parts_in_range typ.Range fits = tt
parts_in_range (typ.Set member) fits = fits
parts_in_range (typ.List member) fits = fits
parts_in_range (typ.Array dynamic indexes cell) fits = (fits.1, fits.2)
parts_in_range (typ.Record fields) fits = fits.1

default_fits : (x : Default) → DefaultInRange x → DefaultFits x
default_fits (default.Number n) fits = fits
default_fits (default.Truth b) fits = tt
default_fits (default.Constant constant) fits = fits

default_in_range : (x : Default) → DefaultFits x → DefaultInRange x
default_in_range (default.Number n) fits = fits
default_in_range (default.Truth b) fits = tt
default_in_range (default.Constant constant) fits = fits

other_result : (result : Option ℕ) → ResultFits result → result ≢ Some 65535
other_result None fits e = absurd cc
other_result (Some n) fits e = let same : n ≡ 65535 = cc in absurd (omega (arith, fits, same))

operand_below : (n : ℕ) → All (λ operand. operand < 2 ^ 32) (n ∷ []) → n < 2 ^ 32
operand_below n fits = All-head (λ operand. operand < 2 ^ 32) n [] fits

codable : (i : Instruction) → InstructionInRange i → Codable i
codable (PushInt n) fits = fits.1 n refl
codable (PushBool n) fits = operand_below n fits.0
codable (PushText n) fits = operand_below n fits.0
codable (LoadGlobal n) fits = operand_below n fits.0
codable (StoreGlobal n) fits = operand_below n fits.0
codable (Jump n) fits = operand_below n fits.0
codable (JumpIf n) fits = operand_below n fits.0
codable (JumpNot n) fits = operand_below n fits.0
codable (Fault n) fits = operand_below n fits.0
codable Tick fits = tt
codable Swap fits = tt
codable Add fits = tt
codable Subtract fits = tt
codable (Compare comparison) fits = tt
codable Show fits = tt
codable Write fits = tt
codable Line fits = tt
codable End fits = tt

below_operand : (n : ℕ) → n < 2 ^ 32 → All (λ operand. operand < 2 ^ 32) (n ∷ [])
below_operand n below = All-cons (λ operand. operand < 2 ^ 32) n [] below (All-nil (λ operand. operand < 2 ^ 32))

operands_in_range : (i : Instruction) → Codable i → All (λ operand. operand < 2 ^ 32) (row_of i).operands
operands_in_range (PushInt n) fits = below_operand (cast_unsigned w32 n) (unsigned_below n fits)
operands_in_range (PushBool n) fits = below_operand n fits
operands_in_range (PushText n) fits = below_operand n fits
operands_in_range (LoadGlobal n) fits = below_operand n fits
operands_in_range (StoreGlobal n) fits = below_operand n fits
operands_in_range (Jump n) fits = below_operand n fits
operands_in_range (JumpIf n) fits = below_operand n fits
operands_in_range (JumpNot n) fits = below_operand n fits
operands_in_range (Fault n) fits = below_operand n fits
operands_in_range Tick fits = All-nil (λ operand. operand < 2 ^ 32)
operands_in_range Swap fits = All-nil (λ operand. operand < 2 ^ 32)
operands_in_range Add fits = All-nil (λ operand. operand < 2 ^ 32)
operands_in_range Subtract fits = All-nil (λ operand. operand < 2 ^ 32)
operands_in_range (Compare comparison) fits = All-nil (λ operand. operand < 2 ^ 32)
operands_in_range Show fits = All-nil (λ operand. operand < 2 ^ 32)
operands_in_range Write fits = All-nil (λ operand. operand < 2 ^ 32)
operands_in_range Line fits = All-nil (λ operand. operand < 2 ^ 32)
operands_in_range End fits = All-nil (λ operand. operand < 2 ^ 32)

instruction_in_range : (i : Instruction) → Codable i → InstructionInRange i
instruction_in_range i fits = (operands_in_range i fits, λ n e. subst Codable e fits)

-- whole images

pub stored : (image : Image) → IsStorable image → Stored image
stored image storable =
    let within = storable.within in
    let fits = storable.fits in (
      (
        (
          counted 65536 (length image.constants) within.constants (omega arith),
          λ k d inside. text_fits (slice_index_or image.constants k d) (within.texts k d inside) (storable.texts k d inside),
        ),
        (
          (within.types, λ k d inside. type_fits (slice_index_or image.types k d) (within.parts k d inside) (fits.types k d inside)),
          (
            (within.params, λ k d inside. let has = fits.parameters k d inside in (has.0, (has.1, default_fits (slice_index_or image.params k d).default has.2))),
            (counted 65536 (length image.globals) within.globals (omega arith), fits.globals),
          ),
        ),
      ),
      (
        (
          within.routines,
          λ k d inside.
              let has = fits.routines k d inside in
              let kept = within.slots k d inside in
              (has.address, (has.arguments, ((kept.slots, λ n other there. (has.slots n other there, tt)), has.result))),
        ),
        (
          (
            within.points,
            λ k d inside.
                let has = fits.points k d inside in
                (has.0, (within.stacks k d inside, λ n other there. (has.1 n other there, tt))),
          ),
          (fits.counts.code, (within.code, λ k d inside. codable (slice_index_or image.code k d) (fits.code k d inside))),
        ),
      ),
    )

pub storable : (image : Image) → Stored image → IsStorable image
storable image has =
    let few = uncounted 65536 (length image.constants) has.0.0.0 in
    let globals = uncounted 65536 (length image.globals) has.0.1.1.1.0 in
    let types = has.0.1.0 in
    let params = has.0.1.1.0 in
    let routines = has.1.0 in
    let points = has.1.1.0 in
    let code = has.1.1.1 in
    record {
      within = record {
        constants = few;
        texts = λ k d inside. let one = has.0.0.1 k d inside in uncounted 1048576 (length (slice_index_or image.constants k d)) one.0;
        types = types.0;
        parts = λ k d inside. type_within (slice_index_or image.types k d) (types.1 k d inside);
        params = params.0;
        globals = globals;
        routines = routines.0;
        slots = λ k d inside. let one = routines.1 k d inside in record { slots = one.1.1.0.0; result = other_result (slice_index_or image.routines k d).result one.1.1.1 };
        points = points.0;
        stacks = λ k d inside. let one = points.1 k d inside in one.1.0;
        code = code.1.0;
      };
      fits = record {
        counts = record {
          constants = has.0.0.0.0;
          texts = λ k d inside. let one = has.0.0.1 k d inside in one.0.0;
          types = types.0;
          parts = λ k d inside. type_in_range (slice_index_or image.types k d) (types.1 k d inside);
          params = params.0;
          globals = has.0.1.1.1.0.0;
          routines = routines.0;
          slots = λ k d inside. let one = routines.1 k d inside in one.1.1.0.0;
          points = points.0;
          stacks = λ k d inside. let one = points.1 k d inside in one.1.0;
          code = code.0;
        };
        types = λ k d inside. parts_in_range (slice_index_or image.types k d) (types.1 k d inside);
        parameters = λ k d inside. let one = params.1 k d inside in (one.0, one.1.0, default_in_range (slice_index_or image.params k d).default one.1.1);
        globals = has.0.1.1.1.1;
        routines = λ k d inside.
            let one = routines.1 k d inside in
            record { address = one.0; arguments = one.1.0; slots = λ n other there. (let slot = one.1.1.0.1 n other there in slot.0); result = one.1.1.1 };
        points = λ k d inside. let one = points.1 k d inside in (one.0, λ n other there. (let operand = one.1.1 n other there in operand.0));
        code = λ k d inside. instruction_in_range (slice_index_or image.code k d) (code.1.1 k d inside);
      };
      texts = λ k d inside. let one = has.0.0.1 k d inside in IsUtf8-from_is_utf8 (slice_index_or image.constants k d) one.1;
    }
