-- Each kind of entry of a table is told by its bytes.
use Rattle.std.proofs.Common.{◌≡◌, ◌<◌, ◌^◌, ℕ, ℤ, pos, negsuc, Bool, true, false, List, [], ◌∷◌, ◌++◌, Option, Some, None, length, get_or, drop, flat_map, FitsSigned, IfSome, refl, sym, ap, ◌∙◌, append_assoc, arith}
use Rattle.std.specs.Int.{w32, cast_signed, cast_unsigned, from_bool}
use Rattle.std.proofs.lemmas.Int.{to_z-of_z}
use Rattle.bim_code.specs.declared.image.ImageType.{ImageType}
use Rattle.bim_code.specs.declared.image.ImageType.TheVariants.{Integer, Boolean, Str, Model, Event, Range, Set, List as ListOf, Array, Record}
use Rattle.bim_code.specs.declared.image.Field.{Field}
use Rattle.bim_code.specs.declared.image.Parameter.{Parameter}
use Rattle.bim_code.specs.declared.image.Default.{Default}
use Rattle.bim_code.specs.declared.image.Default.TheVariants.{Number, Truth, Constant}
use Rattle.bim_code.specs.declared.image.Routine.{Routine}
use Rattle.bim_code.specs.declared.image.Slot.{Slot}
use Rattle.bim_code.specs.declared.image.Point.{Point}
use Rattle.bim_code.specs.declared.image.Operand.{Operand}
use Rattle.bim_code.specs.declared.image.Form.{Form}
use Rattle.bim_code.specs.declared.image.Form.TheVariants.{Value, Place, Walk}
use Rattle.bim_code.specs.Bytes.{u16_bytes, u32_bytes, i32_bytes}
use Rattle.bim_code.specs.Limits.{TypeInRange}
use Rattle.bim_code.specs.Tables.{array_bytes, constant_bytes, default_bytes, field_bytes, form_number, operand_bytes, parameter_bytes, point_bytes, result_number, routine_bytes, slot_bytes, type_bytes}
use Rattle.bim_format.specs.Fields.{FieldInRange, PartsInRange, DefaultInRange, ParameterInRange, SlotInRange, RoutineInRange, OperandInRange, PointInRange}
use Rattle.bim_format.proofs.PrefixCodes.{IsPrefixCode, u16_apart, u32_apart, same_length_apart, both_apart, whole_apart, all_apart, short_table_apart}

-- integers

pub unsigned_in_range : (n : ℤ) → FitsSigned w32 n → cast_unsigned w32 n < 2 ^ 32
unsigned_in_range (pos n) fits = omega arith
unsigned_in_range (negsuc n) fits = omega arith

i32_apart : IsPrefixCode ℤ (FitsSigned w32) i32_bytes
i32_apart = record {
  apart = λ n m r s fits also e.
      let same = u32_apart.apart (cast_unsigned w32 n) (cast_unsigned w32 m) r s (unsigned_in_range n fits) (unsigned_in_range m also) e in
      (sym (to_z-of_z w32 n fits) ∙ ap (cast_signed w32) same.0 ∙ to_z-of_z w32 m also, same.1);
}

-- texts

pub constant_apart : IsPrefixCode (List ℕ) (λ text. length text < 2 ^ 32) constant_bytes
unfolding constant_bytes
constant_apart = record {
  apart = λ x y r s fits also e.
      let count = u32_apart.apart (length x) (length y) (x ++ r) (y ++ s) fits also
      (sym (append_assoc (u32_bytes (length x)) x r) ∙ e ∙ append_assoc (u32_bytes (length y)) y s) in
      same_length_apart x y r s count.0 count.1;
}

-- a byte of its own for each of a few values

truth_apart : IsPrefixCode Bool (λ b. Unit {0}) (λ b. from_bool b ∷ [])
truth_apart = record {
  apart = λ a b r s fits also e. (known a b (ap (λ (all : List ℕ). get_or all 0 0) e), ap (λ (all : List ℕ). drop 1 all) e);
}
  where
    known : (a b : Bool) → from_bool a ≡ from_bool b → a ≡ b
    known true true e = refl
    known true false e = absurd (omega arith)
    known false true e = absurd (omega arith)
    known false false e = refl

form_apart : IsPrefixCode Form (λ form. Unit {0}) (λ form. form_number form ∷ [])
form_apart = record {
  apart = λ a b r s fits also e. (known a b (ap (λ (all : List ℕ). get_or all 0 0) e), ap (λ (all : List ℕ). drop 1 all) e);
}
  where
    known : (a b : Form) → form_number a ≡ form_number b → a ≡ b
    known Value Value e = refl
    known Place Place e = refl
    known Walk Walk e = refl
    known _ _ e = absurd (omega arith)

result_apart : IsPrefixCode (Option ℕ) (λ result. IfSome result (λ typ. typ < 65535)) (λ result. u16_bytes (result_number result))
result_apart = record {
  apart = λ x y r s fits also e.
      let number = u16_apart.apart (result_number x) (result_number y) r s (below x fits) (below y also) e in
      (known x y fits also number.0, number.1);
}
  where
    below : (x : Option ℕ) → IfSome x (λ typ. typ < 65535) → result_number x < 2 ^ 16
    below None fits = omega arith
    below (Some typ) fits = omega arith

    known : (x y : Option ℕ) → IfSome x (λ typ. typ < 65535) → IfSome y (λ typ. typ < 65535) → result_number x ≡ result_number y → x ≡ y
    known None None fits also e = refl
    known None (Some typ) fits also e = absurd (omega arith)
    known (Some typ) None fits also e = absurd (omega arith)
    known (Some typ) (Some other) fits also e = ap (λ (n : ℕ). Some n) e

-- types

pub field_apart : IsPrefixCode Field FieldInRange field_bytes
unfolding field_bytes
field_apart =
    whole_apart (both_apart u32_apart u16_apart) FieldInRange (λ field. (field.name, field.typ)) (λ p. record { name = p.0; typ = p.1 })
    (λ field fits. fits) (λ field. refl)

array_apart : (d f : Bool) (is js : List ℕ) (c k : ℕ) (r s : List ℕ) → PartsInRange (Array d is c) → PartsInRange (Array f js k)
    → array_bytes d is c ++ r ≡ array_bytes f js k ++ s → (Array d is c ≡ Array f js k) × (r ≡ s)
unfolding array_bytes
array_apart d f is js c k r s fits also e =
    let flag = truth_apart.apart d f (length is ∷ (flat_map u16_bytes is ++ u16_bytes c) ++ r) (length js ∷ (flat_map u16_bytes js ++ u16_bytes k) ++ s) tt tt e in
    let count : length is ≡ length js = ap (λ (all : List ℕ). get_or all 1 0) e in
    let behind : (flat_map u16_bytes is ++ u16_bytes c) ++ r ≡ (flat_map u16_bytes js ++ u16_bytes k) ++ s = ap (λ (all : List ℕ). drop 2 all) e in
    let parts = all_apart u16_apart is js (u16_bytes c ++ r) (u16_bytes k ++ s) fits.0 also.0 count
    (sym (append_assoc (flat_map u16_bytes is) (u16_bytes c) r) ∙ behind ∙ append_assoc (flat_map u16_bytes js) (u16_bytes k) s) in
    let cell = u16_apart.apart c k r s fits.1 also.1 parts.1 in
    (λ i. Array (flag.0 i) (parts.0 i) (cell.0 i), cell.1)

known_type : (x y : ImageType) (r s : List ℕ) → TypeInRange x × PartsInRange x → TypeInRange y × PartsInRange y
    → type_bytes x ++ r ≡ type_bytes y ++ s → (x ≡ y) × (r ≡ s)
unfolding type_bytes
known_type Integer Integer r s fits also e = (refl, ap (λ (all : List ℕ). drop 1 all) e)
known_type Boolean Boolean r s fits also e = (refl, ap (λ (all : List ℕ). drop 1 all) e)
known_type Str Str r s fits also e = (refl, ap (λ (all : List ℕ). drop 1 all) e)
known_type Model Model r s fits also e = (refl, ap (λ (all : List ℕ). drop 1 all) e)
known_type Event Event r s fits also e = (refl, ap (λ (all : List ℕ). drop 1 all) e)
known_type Range Range r s fits also e = (refl, ap (λ (all : List ℕ). drop 1 all) e)
known_type (Set a) (Set b) r s fits also e =
    let part = u16_apart.apart a b r s fits.1 also.1 (ap (λ (all : List ℕ). drop 1 all) e) in
    (ap (λ (n : ℕ). Set n) part.0, part.1)
known_type (ListOf a) (ListOf b) r s fits also e =
    let part = u16_apart.apart a b r s fits.1 also.1 (ap (λ (all : List ℕ). drop 1 all) e) in
    (ap (λ (n : ℕ). ListOf n) part.0, part.1)
known_type (Array d is c) (Array f js k) r s fits also e = array_apart d f is js c k r s fits.1 also.1 (ap (λ (all : List ℕ). drop 1 all) e)
known_type (Record a) (Record b) r s fits also e =
    let part = (short_table_apart field_apart).apart a b r s fits also (ap (λ (all : List ℕ). drop 1 all) e) in
    (ap (λ (fields : List Field). Record fields) part.0, part.1)
known_type _ _ r s fits also e = let tags = ap (λ (all : List ℕ). get_or all 0 0) e in absurd (omega (arith, tags))

pub type_apart : IsPrefixCode ImageType (λ typ. TypeInRange typ × PartsInRange typ) type_bytes
type_apart = record { apart = known_type }

-- parameters

known_default : (x y : Default) (r s : List ℕ) → DefaultInRange x → DefaultInRange y
    → default_bytes x ++ r ≡ default_bytes y ++ s → (x ≡ y) × (r ≡ s)
unfolding default_bytes
known_default (Number a) (Number b) r s fits also e =
    let part = i32_apart.apart a b r s fits also (ap (λ (all : List ℕ). drop 1 all) e) in
    (ap (λ (n : ℤ). Number n) part.0, part.1)
known_default (Truth a) (Truth b) r s fits also e =
    let part = truth_apart.apart a b r s tt tt (ap (λ (all : List ℕ). drop 1 all) e) in
    (ap (λ (flag : Bool). Truth flag) part.0, part.1)
known_default (Constant a) (Constant b) r s fits also e =
    let part = u32_apart.apart a b r s fits also (ap (λ (all : List ℕ). drop 1 all) e) in
    (ap (λ (n : ℕ). Constant n) part.0, part.1)
known_default _ _ r s fits also e = let tags = ap (λ (all : List ℕ). get_or all 0 0) e in absurd (omega (arith, tags))

default_apart : IsPrefixCode Default DefaultInRange default_bytes
default_apart = record { apart = known_default }

pub parameter_apart : IsPrefixCode Parameter ParameterInRange parameter_bytes
unfolding parameter_bytes
parameter_apart =
    whole_apart (both_apart (both_apart u32_apart u32_apart) default_apart) ParameterInRange
    (λ parameter. ((parameter.name, parameter.slot), parameter.default))
    (λ p. record { name = p.0.0; slot = p.0.1; default = p.1 }) (λ parameter fits. ((fits.0, fits.1), fits.2)) (λ parameter. refl)

-- routines

slot_apart : IsPrefixCode Slot SlotInRange slot_bytes
unfolding slot_bytes
slot_apart =
    whole_apart (both_apart u16_apart truth_apart) SlotInRange (λ slot. (slot.typ, slot.by_reference))
    (λ p. record { typ = p.0; by_reference = p.1 }) (λ slot fits. (fits, tt)) (λ slot. refl)

pub routine_apart : IsPrefixCode Routine (λ routine. (length routine.slots < 2 ^ 16) × RoutineInRange routine) routine_bytes
unfolding routine_bytes
routine_apart =
    whole_apart (both_apart (both_apart (both_apart u32_apart u16_apart) (short_table_apart slot_apart)) result_apart)
    (λ routine. (length routine.slots < 2 ^ 16) × RoutineInRange routine)
    (λ routine. (((routine.address, routine.arguments), routine.slots), routine.result))
    (λ p. record { address = p.0.0.0; arguments = p.0.0.1; slots = p.0.1; result = p.1 })
    (λ routine fits. (((fits.1.address, fits.1.arguments), (fits.0, fits.1.slots)), fits.1.result)) (λ routine. refl)

-- points

operand_apart : IsPrefixCode Operand OperandInRange operand_bytes
unfolding operand_bytes
operand_apart =
    whole_apart (both_apart u16_apart form_apart) OperandInRange (λ operand. (operand.typ, operand.form))
    (λ p. record { typ = p.0; form = p.1 }) (λ operand fits. (fits, tt)) (λ operand. refl)

pub point_apart : IsPrefixCode Point (λ point. (length point.stack < 2 ^ 16) × PointInRange point) point_bytes
unfolding point_bytes
point_apart =
    whole_apart (both_apart u32_apart (short_table_apart operand_apart)) (λ point. (length point.stack < 2 ^ 16) × PointInRange point)
    (λ point. (point.address, point.stack)) (λ p. record { address = p.0; stack = p.1 })
    (λ point fits. (fits.1.0, (fits.0, fits.1.1))) (λ point. refl)
