-- The entries of an image's tables: what is written is read, and only that.
use Rattle.std.proofs.Common.{◌≡◌, ◌<◌, ◌≤◌, ◌^◌, ℕ, zero, suc, Bool, true, false, List, [], ◌∷◌, ◌++◌, Option, Some, None, Ok, length, flat_map, nat_le, nat_eq, ◌&&◌, if◌then◌else◌, All, FitsSigned, IfSome, refl, sym, ap, ◌∙◌, subst, arith}
use Rattle.std.specs.Int.{w32, from_bool}
use Rattle.std.proofs.lemmas.Bool.Decides.{nat_tests}
use Rattle.bim_code.specs.declared.image.ImageType.{ImageType}
use Rattle.bim_code.specs.declared.image.ImageType.TheVariants as typ
use Rattle.bim_code.specs.declared.image.Field.{Field}
use Rattle.bim_code.specs.declared.image.Parameter.{Parameter}
use Rattle.bim_code.specs.declared.image.Default.{Default}
use Rattle.bim_code.specs.declared.image.Default.TheVariants as default
use Rattle.bim_code.specs.declared.image.Routine.{Routine}
use Rattle.bim_code.specs.declared.image.Slot.{Slot}
use Rattle.bim_code.specs.declared.image.Point.{Point}
use Rattle.bim_code.specs.declared.image.Operand.{Operand}
use Rattle.bim_code.specs.declared.image.Form.{Form}
use Rattle.bim_code.specs.declared.image.Form.TheVariants.{Value, Place, Walk}
use Rattle.bim_code.specs.Bytes.{u16_bytes, u32_bytes}
use Rattle.bim_code.specs.Tables.{array_bytes, default_bytes, field_bytes, form_number, operand_bytes, parameter_bytes, point_bytes, result_number, routine_bytes, slot_bytes, type_bytes}
use Rattle.bim_read.specs.declared.fault.FaultKind.TheVariants.{Tag}
use Rattle.bim_read.specs.declared.entries.TypeTag.{TypeTag}
use Rattle.bim_read.specs.declared.entries.TypeTag.TheVariants as tag
use Rattle.bim_read.specs.declared.entries.DefaultTag.{DefaultTag}
use Rattle.bim_read.specs.declared.entries.DefaultTag.TheVariants as tagged
use Rattle.bim_read.specs.Reading.{both, chosen, table}
use Rattle.bim_read.specs.Fields.{byte_at, half_at, word_at, integer_at, truth_at}
use Rattle.bim_read.specs.Entries.{array_at, default_at, default_of, default_tag_of, default_tags, field_at, form_of, operand_at, parameter_at, parts_at, point_at, rank_at, result_of, routine_at, slot_at, type_at, type_tag_of, type_tags}
use Rattle.bim_read.proofs.Codecs.{AreBytes, IsCodec, Numbered, numbered_at, bytes_behind, same_found, came_from, both_codec, made_codec, chosen_codec, checked_codec, table_codec}
use Rattle.bim_read.proofs.FieldCodecs.{byte_codec, half_codec, word_codec, integer_codec, truth_codec}

-- what one thing has, and two things behind one another
abbrev pub Fields : Field → Type 0
Fields field = (field.name < 2 ^ 32) × (field.typ < 2 ^ 16)

pub field_codec : IsCodec Field Fields field_bytes field_at
unfolding field_at field_bytes
field_codec =
    made_codec Fields (λ p. record { name = p.0; typ = p.1 }) (λ field. (field.name, field.typ)) (both_codec word_codec half_codec)
    (λ field fits. fits) (λ field fits. refl) (λ p fits. (fits, refl))

-- a short table
abbrev pub Short : {A : Type 0} → (A → Type 0) → List A → Type 0
Short Fits xs = (length xs < 2 ^ 16) × All Fits xs

-- arrays

abbrev Ranked : ℕ → Type 0
Ranked n = (n < 256) × ((nat_le 1 n && nat_le n 8) ≡ true)

rank_codec : IsCodec ℕ Ranked (λ n. n ∷ []) rank_at
rank_codec = checked_codec (λ n. nat_le 1 n && nat_le n 8) Tag byte_codec

abbrev ArrayParts : Bool × (List ℕ × ℕ) → Type 0
ArrayParts p = Unit {0} × ((Ranked (length p.1.0) × All (λ n. n < 2 ^ 16) p.1.0) × (p.1.1 < 2 ^ 16))

array_parts : IsCodec (Bool × (List ℕ × ℕ)) ArrayParts (λ p. (from_bool p.0 ∷ []) ++ ((length p.1.0 ∷ []) ++ flat_map u16_bytes p.1.0) ++ u16_bytes p.1.1)
    (both truth_at (both (table rank_at half_at) half_at))
array_parts = both_codec truth_codec (both_codec (table_codec rank_codec half_codec) half_codec)

-- types

abbrev tag_number : TypeTag → ℕ
tag_number tag.Integer = 1
tag_number tag.Boolean = 2
tag_number tag.Str = 3
tag_number tag.Model = 4
tag_number tag.Event = 5
tag_number tag.Range = 6
tag_number tag.Set = 7
tag_number tag.List = 8
tag_number tag.Array = 9
tag_number tag.Record = 10

tag_codec : IsCodec TypeTag (λ t. Unit {0}) (λ t. tag_number t ∷ []) (chosen type_tag_of Tag byte_at)
tag_codec = chosen_codec (λ (t : TypeTag). Unit {0}) type_tag_of Tag tag_number byte_codec fit other
  where
    fit : (t : TypeTag) → Unit {0} → (tag_number t < 256) × (type_tag_of (tag_number t) ≡ Some t)
    fit tag.Integer u = (omega arith, refl)
    fit tag.Boolean u = (omega arith, refl)
    fit tag.Str u = (omega arith, refl)
    fit tag.Model u = (omega arith, refl)
    fit tag.Event u = (omega arith, refl)
    fit tag.Range u = (omega arith, refl)
    fit tag.Set u = (omega arith, refl)
    fit tag.List u = (omega arith, refl)
    fit tag.Array u = (omega arith, refl)
    fit tag.Record u = (omega arith, refl)

    numbers : Numbered tag_number 1 type_tags
    numbers = (refl, (refl, (refl, (refl, (refl, (refl, (refl, (refl, (refl, (refl, tt))))))))))

    other : (n : ℕ) (t : TypeTag) → n < 256 → type_tag_of n ≡ Some t → Unit {0} × (tag_number t ≡ n)
    other zero t below e = absurd cc
    other (suc n) t below e = (tt, let at = numbered_at tag_number 1 type_tags n t numbers e in omega (arith, at))

-- what a type is made of
abbrev pub TypeFits : ImageType → Type 0
TypeFits typ.Integer = Unit {0}
TypeFits typ.Boolean = Unit {0}
TypeFits typ.Str = Unit {0}
TypeFits typ.Model = Unit {0}
TypeFits typ.Event = Unit {0}
TypeFits typ.Range = Unit {0}
TypeFits (typ.Set member) = member < 2 ^ 16
TypeFits (typ.List member) = member < 2 ^ 16
TypeFits (typ.Array dynamic indexes cell) = ((1 ≤ length indexes) × (length indexes ≤ 8)) × All (λ n. n < 2 ^ 16) indexes × (cell < 2 ^ 16)
TypeFits (typ.Record fields) = Short Fields fields

ranked : (n : ℕ) → 1 ≤ n → n ≤ 8 → Ranked n
ranked n low high = (omega arith, both_hold (nat_le 1 n) (nat_le n 8) (grind (arith, nat_tests)) (grind (arith, nat_tests)))
  where
    both_hold : (a b : Bool) → a ≡ true → b ≡ true → (a && b) ≡ true
    both_hold true b e f = f
    both_hold false b e f = absurd cc

unranked : (n : ℕ) → Ranked n → (1 ≤ n) × (n ≤ 8)
unranked n has =
    let low = first_holds (nat_le 1 n) (nat_le n 8) has.1 in
    let high = second_holds (nat_le 1 n) (nat_le n 8) has.1 in
    (grind (arith, nat_tests, low), grind (arith, nat_tests, high))
  where
    first_holds : (a b : Bool) → (a && b) ≡ true → a ≡ true
    first_holds true b e = refl
    first_holds false b e = absurd cc

    second_holds : (a b : Bool) → (a && b) ≡ true → b ≡ true
    second_holds true b e = e
    second_holds false b e = absurd cc

type_back : (x : ImageType) (rest : List ℕ) → TypeFits x → type_at (type_bytes x ++ rest) ≡ Ok (x, rest)
unfolding type_at type_bytes array_at array_bytes
type_back typ.Integer rest fits = refl
type_back typ.Boolean rest fits = refl
type_back typ.Str rest fits = refl
type_back typ.Model rest fits = refl
type_back typ.Event rest fits = refl
type_back typ.Range rest fits = refl
type_back (typ.Set member) rest fits = let one = half_codec.back member rest fits in rw one refl
type_back (typ.List member) rest fits = let one = half_codec.back member rest fits in rw one refl
type_back (typ.Array dynamic indexes cell) rest fits =
    let one = array_parts.back (dynamic, (indexes, cell)) rest (tt, ((ranked (length indexes) fits.0.0 fits.0.1, fits.1), fits.2)) in
    rw one refl
type_back (typ.Record fields) rest fits = let one = (table_codec half_codec field_codec).back fields rest fits in rw one refl

parts_forth : (t : TypeTag) (bytes rest : List ℕ) (x : ImageType) → AreBytes bytes → parts_at t bytes ≡ Ok (x, rest)
    → TypeFits x × (tag_number t ∷ bytes ≡ type_bytes x ++ rest)
unfolding type_bytes array_at array_bytes
parts_forth tag.Integer bytes rest x are e =
    subst (λ (y : ImageType × List ℕ). TypeFits y.0 × (1 ∷ bytes ≡ type_bytes y.0 ++ y.1)) (same_found (typ.Integer, bytes) (x, rest) e) (tt, refl)
parts_forth tag.Boolean bytes rest x are e =
    subst (λ (y : ImageType × List ℕ). TypeFits y.0 × (2 ∷ bytes ≡ type_bytes y.0 ++ y.1)) (same_found (typ.Boolean, bytes) (x, rest) e) (tt, refl)
parts_forth tag.Str bytes rest x are e =
    subst (λ (y : ImageType × List ℕ). TypeFits y.0 × (3 ∷ bytes ≡ type_bytes y.0 ++ y.1)) (same_found (typ.Str, bytes) (x, rest) e) (tt, refl)
parts_forth tag.Model bytes rest x are e =
    subst (λ (y : ImageType × List ℕ). TypeFits y.0 × (4 ∷ bytes ≡ type_bytes y.0 ++ y.1)) (same_found (typ.Model, bytes) (x, rest) e) (tt, refl)
parts_forth tag.Event bytes rest x are e =
    subst (λ (y : ImageType × List ℕ). TypeFits y.0 × (5 ∷ bytes ≡ type_bytes y.0 ++ y.1)) (same_found (typ.Event, bytes) (x, rest) e) (tt, refl)
parts_forth tag.Range bytes rest x are e =
    subst (λ (y : ImageType × List ℕ). TypeFits y.0 × (6 ∷ bytes ≡ type_bytes y.0 ++ y.1)) (same_found (typ.Range, bytes) (x, rest) e) (tt, refl)
parts_forth tag.Set bytes rest x are e =
    let one = came_from (half_at bytes) (λ a. Ok (typ.Set a.0, a.1)) (x, rest) e in
    let here = half_codec.forth bytes one.0.1 one.0.0 are one.1 in
    subst (λ (y : ImageType × List ℕ). TypeFits y.0 × (7 ∷ bytes ≡ type_bytes y.0 ++ y.1)) (same_found (typ.Set one.0.0, one.0.1) (x, rest) one.2)
    (here.0, ap (λ (tail : List ℕ). 7 ∷ tail) here.1)
parts_forth tag.List bytes rest x are e =
    let one = came_from (half_at bytes) (λ a. Ok (typ.List a.0, a.1)) (x, rest) e in
    let here = half_codec.forth bytes one.0.1 one.0.0 are one.1 in
    subst (λ (y : ImageType × List ℕ). TypeFits y.0 × (8 ∷ bytes ≡ type_bytes y.0 ++ y.1)) (same_found (typ.List one.0.0, one.0.1) (x, rest) one.2)
    (here.0, ap (λ (tail : List ℕ). 8 ∷ tail) here.1)
parts_forth tag.Array bytes rest x are e =
    let one = came_from (both truth_at (both (table rank_at half_at) half_at) bytes) (λ a. Ok (typ.Array a.0.0 a.0.1.0 a.0.1.1, a.1)) (x, rest) e in
    let here = array_parts.forth bytes one.0.1 one.0.0 are one.1 in
    subst (λ (y : ImageType × List ℕ). TypeFits y.0 × (9 ∷ bytes ≡ type_bytes y.0 ++ y.1))
    (same_found (typ.Array one.0.0.0 one.0.0.1.0 one.0.0.1.1, one.0.1) (x, rest) one.2)
    ((unranked (length one.0.0.1.0) here.0.1.0.0, here.0.1.0.1, here.0.1.1), ap (λ (tail : List ℕ). 9 ∷ tail) here.1)
parts_forth tag.Record bytes rest x are e =
    let one = came_from (table half_at field_at bytes) (λ a. Ok (typ.Record a.0, a.1)) (x, rest) e in
    let here = (table_codec half_codec field_codec).forth bytes one.0.1 one.0.0 are one.1 in
    subst (λ (y : ImageType × List ℕ). TypeFits y.0 × (10 ∷ bytes ≡ type_bytes y.0 ++ y.1)) (same_found (typ.Record one.0.0, one.0.1) (x, rest) one.2)
    (here.0, ap (λ (tail : List ℕ). 10 ∷ tail) here.1)

pub type_codec : IsCodec ImageType TypeFits type_bytes type_at
unfolding type_at
type_codec = record {
  back = type_back;
  forth = λ bytes rest x are e.
      let one = came_from (chosen type_tag_of Tag byte_at bytes) (λ t. parts_at t.0 t.1) (x, rest) e in
      let here = tag_codec.forth bytes one.0.1 one.0.0 are one.1 in
      let parts = parts_forth one.0.0 one.0.1 rest x (bytes_behind (tag_number one.0.0 ∷ []) one.0.1 bytes are here.1) one.2 in
      (parts.0, here.1 ∙ parts.1);
}

-- parameters

abbrev default_number : DefaultTag → ℕ
default_number tagged.Number = 1
default_number tagged.Truth = 2
default_number tagged.Constant = 3

default_tag_codec : IsCodec DefaultTag (λ t. Unit {0}) (λ t. default_number t ∷ []) (chosen default_tag_of Tag byte_at)
default_tag_codec = chosen_codec (λ (t : DefaultTag). Unit {0}) default_tag_of Tag default_number byte_codec fit other
  where
    fit : (t : DefaultTag) → Unit {0} → (default_number t < 256) × (default_tag_of (default_number t) ≡ Some t)
    fit tagged.Number u = (omega arith, refl)
    fit tagged.Truth u = (omega arith, refl)
    fit tagged.Constant u = (omega arith, refl)

    numbers : Numbered default_number 1 default_tags
    numbers = (refl, (refl, (refl, tt)))

    other : (n : ℕ) (t : DefaultTag) → n < 256 → default_tag_of n ≡ Some t → Unit {0} × (default_number t ≡ n)
    other zero t below e = absurd cc
    other (suc n) t below e = (tt, let at = numbered_at default_number 1 default_tags n t numbers e in omega (arith, at))

abbrev pub DefaultFits : Default → Type 0
DefaultFits (default.Number n) = FitsSigned w32 n
DefaultFits (default.Truth b) = Unit {0}
DefaultFits (default.Constant constant) = constant < 2 ^ 32

default_back : (x : Default) (rest : List ℕ) → DefaultFits x → default_at (default_bytes x ++ rest) ≡ Ok (x, rest)
unfolding default_at default_bytes
default_back (default.Number n) rest fits = let one = integer_codec.back n rest fits in rw one refl
default_back (default.Truth true) rest fits = refl
default_back (default.Truth false) rest fits = refl
default_back (default.Constant constant) rest fits = let one = word_codec.back constant rest fits in rw one refl

default_forth : (t : DefaultTag) (bytes rest : List ℕ) (x : Default) → AreBytes bytes → default_of t bytes ≡ Ok (x, rest)
    → DefaultFits x × (default_number t ∷ bytes ≡ default_bytes x ++ rest)
unfolding default_bytes
default_forth tagged.Number bytes rest x are e =
    let one = came_from (integer_at bytes) (λ a. Ok (default.Number a.0, a.1)) (x, rest) e in
    let here = integer_codec.forth bytes one.0.1 one.0.0 are one.1 in
    subst (λ (y : Default × List ℕ). DefaultFits y.0 × (1 ∷ bytes ≡ default_bytes y.0 ++ y.1)) (same_found (default.Number one.0.0, one.0.1) (x, rest) one.2)
    (here.0, ap (λ (tail : List ℕ). 1 ∷ tail) here.1)
default_forth tagged.Truth bytes rest x are e =
    let one = came_from (truth_at bytes) (λ a. Ok (default.Truth a.0, a.1)) (x, rest) e in
    let here = truth_codec.forth bytes one.0.1 one.0.0 are one.1 in
    subst (λ (y : Default × List ℕ). DefaultFits y.0 × (2 ∷ bytes ≡ default_bytes y.0 ++ y.1)) (same_found (default.Truth one.0.0, one.0.1) (x, rest) one.2)
    (tt, ap (λ (tail : List ℕ). 2 ∷ tail) here.1)
default_forth tagged.Constant bytes rest x are e =
    let one = came_from (word_at bytes) (λ a. Ok (default.Constant a.0, a.1)) (x, rest) e in
    let here = word_codec.forth bytes one.0.1 one.0.0 are one.1 in
    subst (λ (y : Default × List ℕ). DefaultFits y.0 × (3 ∷ bytes ≡ default_bytes y.0 ++ y.1)) (same_found (default.Constant one.0.0, one.0.1) (x, rest) one.2)
    (here.0, ap (λ (tail : List ℕ). 3 ∷ tail) here.1)

default_codec : IsCodec Default DefaultFits default_bytes default_at
unfolding default_at
default_codec = record {
  back = default_back;
  forth = λ bytes rest x are e.
      let one = came_from (chosen default_tag_of Tag byte_at bytes) (λ t. default_of t.0 t.1) (x, rest) e in
      let here = default_tag_codec.forth bytes one.0.1 one.0.0 are one.1 in
      let parts = default_forth one.0.0 one.0.1 rest x (bytes_behind (default_number one.0.0 ∷ []) one.0.1 bytes are here.1) one.2 in
      (parts.0, here.1 ∙ parts.1);
}

abbrev pub ParameterFits : Parameter → Type 0
ParameterFits parameter = (parameter.name < 2 ^ 32) × ((parameter.slot < 2 ^ 32) × DefaultFits parameter.default)

pub parameter_codec : IsCodec Parameter ParameterFits parameter_bytes parameter_at
unfolding parameter_at parameter_bytes u32_bytes default_bytes
parameter_codec =
    made_codec ParameterFits (λ p. record { name = p.0; slot = p.1.0; default = p.1.1 }) (λ parameter. (parameter.name, (parameter.slot, parameter.default)))
    (both_codec word_codec (both_codec word_codec default_codec)) (λ parameter fits. fits) (λ parameter fits. refl) (λ p fits. (fits, refl))

-- routines

abbrev pub SlotFits : Slot → Type 0
SlotFits slot = (slot.typ < 2 ^ 16) × Unit {0}

slot_codec : IsCodec Slot SlotFits slot_bytes slot_at
unfolding slot_at slot_bytes
slot_codec =
    made_codec SlotFits (λ p. record { typ = p.0; by_reference = p.1 }) (λ slot. (slot.typ, slot.by_reference)) (both_codec half_codec truth_codec)
    (λ slot fits. fits) (λ slot fits. refl) (λ p fits. (fits, refl))

abbrev pub ResultFits : Option ℕ → Type 0
ResultFits result = IfSome result (λ n. n < 65535)

result_in_field : (result : Option ℕ) → ResultFits result → result_number result < 2 ^ 16
result_in_field None fits = omega arith
result_in_field (Some n) fits = omega arith

result_again : (result : Option ℕ) → ResultFits result → result_of (result_number result) ≡ result
result_again None fits = refl
result_again (Some n) fits = by (nat_eq n 65535) (grind (arith, nat_tests, fits))
  where
    by : (t : Bool) → t ≡ false → (if t then None else Some n) ≡ Some n
    by true e = absurd cc
    by false e = refl

result_known : (n : ℕ) → n < 2 ^ 16 → ResultFits (result_of n) × (result_number (result_of n) ≡ n)
result_known n below = by (nat_eq n 65535) refl
  where
    by : (t : Bool) → nat_eq n 65535 ≡ t → ResultFits (if t then None else Some n) × (result_number (if t then None else Some n) ≡ n)
    by true e = (tt, let same : n ≡ 65535 = grind (arith, nat_tests, e) in sym same)
    by false e = (grind (arith, nat_tests, e, below), refl)

abbrev pub RoutineFits : Routine → Type 0
RoutineFits routine =
    (routine.address < 2 ^ 32) × ((routine.arguments < 2 ^ 16) × (Short SlotFits routine.slots × ResultFits routine.result))

pub routine_codec : IsCodec Routine RoutineFits routine_bytes routine_at
unfolding routine_at routine_bytes u32_bytes u16_bytes
routine_codec =
    made_codec RoutineFits (λ p. record { address = p.0; arguments = p.1.0; slots = p.1.1.0; result = result_of p.1.1.1 })
    (λ routine. (routine.address, (routine.arguments, (routine.slots, result_number routine.result))))
    (both_codec word_codec (both_codec half_codec (both_codec (table_codec half_codec slot_codec) half_codec)))
    (λ routine fits. (fits.0, (fits.1.0, (fits.1.1.0, result_in_field routine.result fits.1.1.1))))
    (λ routine fits. let same = result_again routine.result fits.1.1.1 in
    ap (λ (r : Option ℕ). record { address = routine.address; arguments = routine.arguments; slots = routine.slots; result = r }) same)
    (λ p fits. let known = result_known p.1.1.1 fits.1.1.1 in
    ((fits.0, (fits.1.0, (fits.1.1.0, known.0))), ap (λ (n : ℕ). (p.0, (p.1.0, (p.1.1.0, n)))) known.1))

-- points

form_codec : IsCodec Form (λ form. Unit {0}) (λ form. form_number form ∷ []) (chosen form_of Tag byte_at)
form_codec = chosen_codec (λ (form : Form). Unit {0}) form_of Tag form_number byte_codec fit other
  where
    fit : (form : Form) → Unit {0} → (form_number form < 256) × (form_of (form_number form) ≡ Some form)
    fit Value u = (omega arith, refl)
    fit Place u = (omega arith, refl)
    fit Walk u = (omega arith, refl)

    numbers : Numbered form_number 0 (Value ∷ Place ∷ Walk ∷ [])
    numbers = (refl, (refl, (refl, tt)))

    other : (n : ℕ) (form : Form) → n < 256 → form_of n ≡ Some form → Unit {0} × (form_number form ≡ n)
    other n form below e = (tt, let at = numbered_at form_number 0 (Value ∷ Place ∷ Walk ∷ []) n form numbers e in omega (arith, at))

abbrev pub OperandFits : Operand → Type 0
OperandFits operand = (operand.typ < 2 ^ 16) × Unit {0}

operand_codec : IsCodec Operand OperandFits operand_bytes operand_at
unfolding operand_at operand_bytes
operand_codec =
    made_codec OperandFits (λ p. record { typ = p.0; form = p.1 }) (λ operand. (operand.typ, operand.form)) (both_codec half_codec form_codec)
    (λ operand fits. fits) (λ operand fits. refl) (λ p fits. (fits, refl))

abbrev pub PointFits : Point → Type 0
PointFits point = (point.address < 2 ^ 32) × Short OperandFits point.stack

pub point_codec : IsCodec Point PointFits point_bytes point_at
unfolding point_at point_bytes
point_codec =
    made_codec PointFits (λ p. record { address = p.0; stack = p.1 }) (λ point. (point.address, point.stack)) (both_codec word_codec (table_codec half_codec operand_codec))
    (λ point fits. fits) (λ point fits. refl) (λ p fits. (fits, refl))
