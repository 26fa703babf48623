-- The code's part of the file: what is written is read, and only that.
use Rattle.std.proofs.Common.{◌≡◌, ◌<◌, ◌≤◌, ◌^◌, ◌-◌, ◌*◌, ℕ, zero, suc, ℤ, Bool, true, false, List, [], ◌∷◌, ◌++◌, Option, Some, None, Result, Ok, Err, length, flat_map, nat_lt, nat_eq, if◌then◌else◌, All, FitsSigned, refl, sym, ap, ◌∙◌, subst, append_assoc, length-append, arith}
use Rattle.std.specs.Int.{w32, cast_signed, cast_unsigned}
use Rattle.std.proofs.lemmas.Bool.Decides.{nat_tests}
use Rattle.std.proofs.lemmas.Int.{to_z-of_z, of_z-to_z}
use Rattle.std.proofs.lemmas.List.Elements.{All-head, All-tail, All-cons, All-nil}
use Rattle.bim_code.specs.declared.instruction.Comparison.TheVariants.{Equal, NotEqual, Less, AtMost, Greater, AtLeast}
use Rattle.bim_code.specs.declared.instruction.Instruction.{Instruction}
use Rattle.bim_code.specs.declared.instruction.Instruction.TheVariants.{Tick, PushInt, PushBool, PushText, LoadGlobal, StoreGlobal, Swap, Add, Subtract, Compare, Jump, JumpIf, JumpNot, Show, Write, Line, End, Fault}
use Rattle.bim_code.specs.Bytes.{u32_bytes}
use Rattle.bim_code.specs.Code.{code_bytes, code_size, instruction_bytes}
use Rattle.bim_code.specs.Rows.{row_of, width}
use Rattle.bim_read.specs.declared.fault.FaultKind.TheVariants.{Limit, Unknown}
use Rattle.bim_read.specs.declared.fault.Bad.{Bad}
use Rattle.bim_read.specs.declared.code.TheConstants.{INSTRUCTIONS}
use Rattle.bim_read.specs.Reading.{◌>>=◌, wrong, ends_early, made, meant}
use Rattle.bim_read.specs.Fields.{word_at}
use Rattle.bim_read.specs.Code.{begun_at, code_at, code_ends, code_of, first_with, instruction_in, instruction_of, instructions_at, operands_at}
use Rattle.bim_read.proofs.Codecs.{AreBytes, IsCodec, bytes_behind, found, same_found, came_from, keyed_codec}
use Rattle.bim_read.proofs.FieldCodecs.{word_codec, signed_fits, unsigned_below}

-- each operand of an instruction fits its field
abbrev pub Codable : Instruction → Type 0
Codable (PushInt n) = FitsSigned w32 n
Codable (PushBool n) = n < 2 ^ 32
Codable (PushText n) = n < 2 ^ 32
Codable (LoadGlobal n) = n < 2 ^ 32
Codable (StoreGlobal n) = n < 2 ^ 32
Codable (Jump n) = n < 2 ^ 32
Codable (JumpIf n) = n < 2 ^ 32
Codable (JumpNot n) = n < 2 ^ 32
Codable (Fault n) = n < 2 ^ 32
Codable Tick = Unit {0}
Codable Swap = Unit {0}
Codable Add = Unit {0}
Codable Subtract = Unit {0}
Codable (Compare comparison) = Unit {0}
Codable Show = Unit {0}
Codable Write = Unit {0}
Codable Line = Unit {0}
Codable End = Unit {0}

-- an instruction that crosses the end of the code
abbrev refused : {A : Type 0} → ℕ → Result A Bad
refused left = Err (record { left = left; kind = Limit })

-- there is room for one that has no operand, and for one that has one

room_one : (size left : ℕ) (i : Instruction) (bytes : List ℕ) → 1 ≤ size
    → (if nat_lt size 1 then refused {A = Instruction × List ℕ} left else found {A = Instruction × List ℕ} (i, bytes)) ≡ Ok (i, bytes)
room_one size left i bytes room = by (nat_lt size 1) (grind (arith, nat_tests, room))
  where
    by : (t : Bool) → t ≡ false → (if t then refused {A = Instruction × List ℕ} left else found {A = Instruction × List ℕ} (i, bytes)) ≡ Ok (i, bytes)
    by true e = absurd cc
    by false e = refl

room_five : (size left n : ℕ) (make : ℕ → Instruction) (rest : List ℕ) → 5 ≤ size → n < 2 ^ 32
    → (if nat_lt size 5 then refused {A = Instruction × List ℕ} left else made make word_at (u32_bytes n ++ rest)) ≡ Ok (make n, rest)
room_five size left n make rest room below = by (nat_lt size 5) (grind (arith, nat_tests, room))
  where
    by : (t : Bool) → t ≡ false → (if t then refused {A = Instruction × List ℕ} left else made make word_at (u32_bytes n ++ rest)) ≡ Ok (make n, rest)
    by true e = absurd cc
    by false e = let one = word_codec.back n rest below in rw one refl

abbrev Reads : ℕ → Instruction → List ℕ → Type 0
Reads size i rest = instruction_in size (instruction_bytes i ++ rest) ≡ Ok (i, rest)

one_back : (i : Instruction) (size : ℕ) (rest : List ℕ) → Codable i → width i ≤ size → Reads size i rest
unfolding instruction_in instruction_of u32_bytes
one_back (PushInt n) size rest fits room =
    room_five size (length (instruction_bytes (PushInt n) ++ rest)) (cast_unsigned w32 n) (λ m. PushInt (cast_signed w32 m)) rest room (unsigned_below n fits)
    ∙ ap (λ (m : ℤ). Ok (PushInt m, rest)) (to_z-of_z w32 n fits)
one_back (PushBool n) size rest fits room = room_five size (length (instruction_bytes (PushBool n) ++ rest)) n (λ m. PushBool m) rest room fits
one_back (PushText n) size rest fits room = room_five size (length (instruction_bytes (PushText n) ++ rest)) n (λ m. PushText m) rest room fits
one_back (LoadGlobal n) size rest fits room = room_five size (length (instruction_bytes (LoadGlobal n) ++ rest)) n (λ m. LoadGlobal m) rest room fits
one_back (StoreGlobal n) size rest fits room = room_five size (length (instruction_bytes (StoreGlobal n) ++ rest)) n (λ m. StoreGlobal m) rest room fits
one_back (Jump n) size rest fits room = room_five size (length (instruction_bytes (Jump n) ++ rest)) n (λ m. Jump m) rest room fits
one_back (JumpIf n) size rest fits room = room_five size (length (instruction_bytes (JumpIf n) ++ rest)) n (λ m. JumpIf m) rest room fits
one_back (JumpNot n) size rest fits room = room_five size (length (instruction_bytes (JumpNot n) ++ rest)) n (λ m. JumpNot m) rest room fits
one_back (Fault n) size rest fits room = room_five size (length (instruction_bytes (Fault n) ++ rest)) n (λ m. Fault m) rest room fits
one_back (Compare Equal) size rest fits room = room_one size (length (instruction_bytes (Compare Equal) ++ rest)) (Compare Equal) rest room
one_back (Compare NotEqual) size rest fits room = room_one size (length (instruction_bytes (Compare NotEqual) ++ rest)) (Compare NotEqual) rest room
one_back (Compare Less) size rest fits room = room_one size (length (instruction_bytes (Compare Less) ++ rest)) (Compare Less) rest room
one_back (Compare AtMost) size rest fits room = room_one size (length (instruction_bytes (Compare AtMost) ++ rest)) (Compare AtMost) rest room
one_back (Compare Greater) size rest fits room = room_one size (length (instruction_bytes (Compare Greater) ++ rest)) (Compare Greater) rest room
one_back (Compare AtLeast) size rest fits room = room_one size (length (instruction_bytes (Compare AtLeast) ++ rest)) (Compare AtLeast) rest room
one_back Tick size rest fits room = room_one size (length (instruction_bytes Tick ++ rest)) Tick rest room
one_back Swap size rest fits room = room_one size (length (instruction_bytes Swap ++ rest)) Swap rest room
one_back Add size rest fits room = room_one size (length (instruction_bytes Add ++ rest)) Add rest room
one_back Subtract size rest fits room = room_one size (length (instruction_bytes Subtract ++ rest)) Subtract rest room
one_back Show size rest fits room = room_one size (length (instruction_bytes Show ++ rest)) Show rest room
one_back Write size rest fits room = room_one size (length (instruction_bytes Write ++ rest)) Write rest room
one_back Line size rest fits room = room_one size (length (instruction_bytes Line ++ rest)) Line rest room
one_back End size rest fits room = room_one size (length (instruction_bytes End ++ rest)) End rest room

-- what is read by the row of an instruction is one with this code and as wide
record IsRead (j i : Instruction) (tail rest : List ℕ) : Type 0 where
  fits : Codable i
  wide : width i ≡ width j
  bytes : (row_of j).code ∷ tail ≡ instruction_bytes i ++ rest

none_forth : (j i : Instruction) (tail rest : List ℕ) → Codable j → instruction_bytes j ≡ (row_of j).code ∷ [] → found {A = Instruction × List ℕ} (j, tail) ≡ Ok (i, rest) → IsRead j i tail rest
none_forth j i tail rest fits alone e =
    subst (λ (y : Instruction × List ℕ). IsRead j y.0 tail y.1) (same_found (j, tail) (i, rest) e)
    (record { fits = fits; wide = refl; bytes = ap (λ (front : List ℕ). front ++ tail) (sym alone) })

some_forth : (j i : Instruction) (make : ℕ → Instruction) (tail rest : List ℕ) → AreBytes tail
    → ((n : ℕ) → n < 2 ^ 32 → (Codable (make n) × (width (make n) ≡ width j)) × (instruction_bytes (make n) ≡ (row_of j).code ∷ u32_bytes n))
    → made make word_at tail ≡ Ok (i, rest) → IsRead j i tail rest
some_forth j i make tail rest are known e =
    let one = came_from (word_at tail) (λ a. Ok (make a.0, a.1)) (i, rest) e in
    let here = word_codec.forth tail one.0.1 one.0.0 are one.1 in
    let says = known one.0.0 here.0 in
    subst (λ (y : Instruction × List ℕ). IsRead j y.0 tail y.1) (same_found (make one.0.0, one.0.1) (i, rest) one.2)
    (record {
      fits = says.0.0;
      wide = says.0.1;
      bytes = ap (λ (front : List ℕ). (row_of j).code ∷ front) here.1 ∙ ap (λ (front : List ℕ). front ++ one.0.1) (sym says.1);
    })

appended : (code n : ℕ) → code ∷ (u32_bytes n ++ []) ≡ code ∷ u32_bytes n
unfolding u32_bytes
appended code n = refl

operands_forth : (j i : Instruction) (tail rest : List ℕ) → AreBytes tail → operands_at j (row_of j).operands tail ≡ Ok (i, rest) → IsRead j i tail rest
operands_forth (PushInt m) i tail rest are e =
    some_forth (PushInt m) i (λ n. PushInt (cast_signed w32 n)) tail rest are
    (λ n below. ((signed_fits n below, refl), appended 0x03 (cast_unsigned w32 (cast_signed w32 n)) ∙ ap (λ (k : ℕ). 0x03 ∷ u32_bytes k) (of_z-to_z w32 n below))) e
operands_forth (PushBool m) i tail rest are e = some_forth (PushBool m) i (λ n. PushBool n) tail rest are (λ n below. ((below, refl), appended 0x04 n)) e
operands_forth (PushText m) i tail rest are e = some_forth (PushText m) i (λ n. PushText n) tail rest are (λ n below. ((below, refl), appended 0x05 n)) e
operands_forth (LoadGlobal m) i tail rest are e = some_forth (LoadGlobal m) i (λ n. LoadGlobal n) tail rest are (λ n below. ((below, refl), appended 0x08 n)) e
operands_forth (StoreGlobal m) i tail rest are e = some_forth (StoreGlobal m) i (λ n. StoreGlobal n) tail rest are (λ n below. ((below, refl), appended 0x09 n)) e
operands_forth (Jump m) i tail rest are e = some_forth (Jump m) i (λ n. Jump n) tail rest are (λ n below. ((below, refl), appended 0x22 n)) e
operands_forth (JumpIf m) i tail rest are e = some_forth (JumpIf m) i (λ n. JumpIf n) tail rest are (λ n below. ((below, refl), appended 0x23 n)) e
operands_forth (JumpNot m) i tail rest are e = some_forth (JumpNot m) i (λ n. JumpNot n) tail rest are (λ n below. ((below, refl), appended 0x24 n)) e
operands_forth (Fault m) i tail rest are e = some_forth (Fault m) i (λ n. Fault n) tail rest are (λ n below. ((below, refl), appended 0x46 n)) e
operands_forth (Compare c) i tail rest are e = none_forth (Compare c) i tail rest tt refl e
operands_forth Tick i tail rest are e = none_forth Tick i tail rest tt refl e
operands_forth Swap i tail rest are e = none_forth Swap i tail rest tt refl e
operands_forth Add i tail rest are e = none_forth Add i tail rest tt refl e
operands_forth Subtract i tail rest are e = none_forth Subtract i tail rest tt refl e
operands_forth Show i tail rest are e = none_forth Show i tail rest tt refl e
operands_forth Write i tail rest are e = none_forth Write i tail rest tt refl e
operands_forth Line i tail rest are e = none_forth Line i tail rest tt refl e
operands_forth End i tail rest are e = none_forth End i tail rest tt refl e

code_found : (code : ℕ) (all : List Instruction) (j : Instruction) → first_with code all ≡ Some j → (row_of j).code ≡ code
code_found code [] j e = absurd cc
code_found code (i ∷ is) j e = by (nat_eq (row_of i).code code) refl e (code_found code is j)
  where
    by : (t : Bool) → nat_eq (row_of i).code code ≡ t → (if t then Some i else first_with code is) ≡ Some j → (first_with code is ≡ Some j → (row_of j).code ≡ code)
        → (row_of j).code ≡ code
    by true known f later =
        let same : i ≡ j = cc in
        let number : (row_of i).code ≡ code = grind (arith, nat_tests, known) in
        subst (λ k. (row_of k).code ≡ code) same number
    by false known f later = later f

one_forth : (size : ℕ) (bytes rest : List ℕ) (i : Instruction) → AreBytes bytes → instruction_in size bytes ≡ Ok (i, rest)
    → (Codable i × (width i ≤ size)) × (bytes ≡ instruction_bytes i ++ rest)
unfolding instruction_in instruction_of
one_forth size [] rest i are e = absurd cc
one_forth size (b ∷ tail) rest i are e = known (first_with b INSTRUCTIONS) refl e
  where
    known : (m : Option Instruction) → first_with b INSTRUCTIONS ≡ m
        → (meant m Unknown (b ∷ tail) tail >>= λ j. begun_at j.0 (length (b ∷ tail)) size j.1) ≡ Ok (i, rest)
        → (Codable i × (width i ≤ size)) × (b ∷ tail ≡ instruction_bytes i ++ rest)
    known None told f = absurd cc
    known (Some j) told f = by (nat_lt size (width j)) refl f
      where
        by : (t : Bool) → nat_lt size (width j) ≡ t
            → (if t then refused {A = Instruction × List ℕ} (length (b ∷ tail)) else operands_at j (row_of j).operands tail) ≡ Ok (i, rest)
            → (Codable i × (width i ≤ size)) × (b ∷ tail ≡ instruction_bytes i ++ rest)
        by true g h = absurd cc
        by false g h =
            let read = operands_forth j i tail rest (λ k. are (suc k)) h in
            let same = code_found b INSTRUCTIONS j told in
            let room : width j ≤ size = grind (arith, nat_tests, g) in
            ((read.fits, subst (λ (k : ℕ). k ≤ size) (sym read.wide) room), subst (λ (c : ℕ). c ∷ tail ≡ instruction_bytes i ++ rest) same read.bytes)

-- as many instructions as there are bytes for

width_of : (i : Instruction) → 1 ≤ width i
width_of i = omega arith

ends_back : (size : ℕ) (rest : List ℕ) → 0 ≡ size → code_ends size rest ≡ Ok ([], rest)
ends_back size rest e = subst (λ (n : ℕ). code_ends n rest ≡ Ok ([], rest)) e refl

code_back : (most size : ℕ) (is : List Instruction) (rest : List ℕ) → length is ≤ most → All Codable is → code_size is ≡ size
    → instructions_at most size (flat_map instruction_bytes is ++ rest) ≡ Ok (is, rest)
unfolding instructions_at
code_back zero size [] rest few fits e = ends_back size rest e
code_back zero size (i ∷ is) rest few fits e = absurd (omega (arith, few))
code_back (suc most) size [] rest few fits e =
    subst (λ (n : ℕ). instructions_at (suc most) n rest ≡ Ok ([], rest)) e refl
code_back (suc most) size (i ∷ is) rest few fits e =
    let low = width_of i in
    let room : width i ≤ size = omega (arith, e) in
    let left : code_size is ≡ size - width i = omega (arith, e) in
    let one = one_back i size (flat_map instruction_bytes is ++ rest) (All-head Codable i is fits) room in
    let others = code_back most (size - width i) is rest (omega (arith, few)) (All-tail Codable i is fits) left in
    ap (instructions_at (suc most) size) (append_assoc (instruction_bytes i) (flat_map instruction_bytes is) rest)
    ∙ by (instruction_bytes i ++ (flat_map instruction_bytes is ++ rest)) (nat_eq size 0) (grind (arith, nat_tests, low, room)) one others
  where
    by : (whole : List ℕ) (t : Bool) → t ≡ false → instruction_in size whole ≡ Ok (i, flat_map instruction_bytes is ++ rest)
        → instructions_at most (size - width i) (flat_map instruction_bytes is ++ rest) ≡ Ok (is, rest)
        → (if t then found {A = List Instruction × List ℕ} ([], whole) else (instruction_in size whole >>= λ j. instructions_at most (size - width j.0) j.1 >>= λ others. Ok (j.0 ∷ others.0, others.1))) ≡ Ok (i ∷ is, rest)
    by whole true f one others = absurd cc
    by whole false f one others = rw one (rw others refl)

abbrev CodeFits : ℕ → List Instruction → Type 0
CodeFits most is = (length is ≤ most) × All Codable is

code_forth : (most size : ℕ) (bytes rest : List ℕ) (is : List Instruction) → AreBytes bytes → instructions_at most size bytes ≡ Ok (is, rest)
    → (CodeFits most is × (code_size is ≡ size)) × (bytes ≡ flat_map instruction_bytes is ++ rest)
unfolding instructions_at
code_forth zero size bytes rest is are e = by (nat_eq size 0) refl e
  where
    by : (t : Bool) → nat_eq size 0 ≡ t → (if t then found {A = List Instruction × List ℕ} ([], bytes) else wrong Limit bytes) ≡ Ok (is, rest)
        → (CodeFits 0 is × (code_size is ≡ size)) × (bytes ≡ flat_map instruction_bytes is ++ rest)
    by true f g =
        let none : 0 ≡ size = grind (arith, nat_tests, f) in
        subst (λ (y : List Instruction × List ℕ). (CodeFits 0 y.0 × (code_size y.0 ≡ size)) × (bytes ≡ flat_map instruction_bytes y.0 ++ y.1))
        (same_found ([], bytes) (is, rest) g) (((omega arith, All-nil Codable), none), refl)
    by false f g = absurd cc
code_forth (suc most) size bytes rest is are e = by (nat_eq size 0) refl e (code_forth most)
  where
    by : (t : Bool) → nat_eq size 0 ≡ t
        → (if t then found {A = List Instruction × List ℕ} ([], bytes) else (instruction_in size bytes >>= λ j. instructions_at most (size - width j.0) j.1 >>= λ others. Ok (j.0 ∷ others.0, others.1))) ≡ Ok (is, rest)
        → ((less : ℕ) (front back : List ℕ) (js : List Instruction) → AreBytes front → instructions_at most less front ≡ Ok (js, back)
        → (CodeFits most js × (code_size js ≡ less)) × (front ≡ flat_map instruction_bytes js ++ back))
        → (CodeFits (suc most) is × (code_size is ≡ size)) × (bytes ≡ flat_map instruction_bytes is ++ rest)
    by true f g more =
        let none : 0 ≡ size = grind (arith, nat_tests, f) in
        subst (λ (y : List Instruction × List ℕ). (CodeFits (suc most) y.0 × (code_size y.0 ≡ size)) × (bytes ≡ flat_map instruction_bytes y.0 ++ y.1))
        (same_found ([], bytes) (is, rest) g) (((omega arith, All-nil Codable), none), refl)
    by false f g more =
        let one = came_from (instruction_in size bytes) (λ j. instructions_at most (size - width j.0) j.1 >>= λ others. Ok (j.0 ∷ others.0, others.1)) (is, rest) g in
        let here = one_forth size bytes one.0.1 one.0.0 are one.1 in
        let two = came_from (instructions_at most (size - width one.0.0) one.0.1) (λ others. Ok (one.0.0 ∷ others.0, others.1)) (is, rest) one.2 in
        let there = more (size - width one.0.0) one.0.1 two.0.1 two.0.0 (bytes_behind (instruction_bytes one.0.0) one.0.1 bytes are here.1) two.1 in
        let few : length (one.0.0 ∷ two.0.0) ≤ suc most = let less = there.0.0.0 in omega (arith, less) in
        let sized : code_size (one.0.0 ∷ two.0.0) ≡ size = let wide = here.0.1 in let left = there.0.1 in omega (arith, wide, left) in
        subst (λ (y : List Instruction × List ℕ). (CodeFits (suc most) y.0 × (code_size y.0 ≡ size)) × (bytes ≡ flat_map instruction_bytes y.0 ++ y.1))
        (same_found (one.0.0 ∷ two.0.0, two.0.1) (is, rest) two.2) (
          ((few, All-cons Codable one.0.0 two.0.0 here.0.0 there.0.0.1), sized),
          here.1 ∙ ap (λ tail. instruction_bytes one.0.0 ++ tail) there.1 ∙ sym (append_assoc (instruction_bytes one.0.0) (flat_map instruction_bytes two.0.0) two.0.1),
        )

-- the bytes of code are as many as its size says

length_of_operands : (operands : List ℕ) → length (flat_map u32_bytes operands) ≡ 4 * length operands
unfolding u32_bytes
length_of_operands [] = refl
length_of_operands (n ∷ more) = let rest = length_of_operands more in omega (arith, rest)

length_of_code : (code : List Instruction) → length (flat_map instruction_bytes code) ≡ code_size code
length_of_code [] = refl
length_of_code (i ∷ more) =
    let operands = length_of_operands (row_of i).operands in
    let rest = length_of_code more in
    let all = length-append (flat_map u32_bytes (row_of i).operands) (flat_map instruction_bytes more) in
    omega (arith, operands, rest, all)

sized_codec : (size : ℕ) → IsCodec (List Instruction) (λ is. CodeFits 262144 is × (code_size is ≡ size)) (flat_map instruction_bytes) (code_of size)
sized_codec size = record { back = known_back; forth = known_forth }
  where
    known_back : (is : List Instruction) (rest : List ℕ) → CodeFits 262144 is × (code_size is ≡ size) → code_of size (flat_map instruction_bytes is ++ rest) ≡ Ok (is, rest)
    known_back is rest fits = by (nat_lt (length (flat_map instruction_bytes is ++ rest)) size) enough
      where
        enough : nat_lt (length (flat_map instruction_bytes is ++ rest)) size ≡ false
        enough =
            let long = length_of_code is in
            let all = length-append (flat_map instruction_bytes is) rest in
            let sized = fits.1 in
            grind (arith, nat_tests, long, all, sized)

        by : (t : Bool) → t ≡ false → (if t then ends_early else instructions_at 262144 size (flat_map instruction_bytes is ++ rest)) ≡ Ok (is, rest)
        by true e = absurd cc
        by false e = code_back 262144 size is rest fits.0.0 fits.0.1 fits.1

    known_forth : (bytes rest : List ℕ) (is : List Instruction) → AreBytes bytes → code_of size bytes ≡ Ok (is, rest)
        → (CodeFits 262144 is × (code_size is ≡ size)) × (bytes ≡ flat_map instruction_bytes is ++ rest)
    known_forth bytes rest is are e = by (nat_lt (length bytes) size) refl e
      where
        by : (t : Bool) → nat_lt (length bytes) size ≡ t → (if t then ends_early else instructions_at 262144 size bytes) ≡ Ok (is, rest)
            → (CodeFits 262144 is × (code_size is ≡ size)) × (bytes ≡ flat_map instruction_bytes is ++ rest)
        by true f g = absurd cc
        by false f g = code_forth 262144 size bytes rest is are g

pub code_codec : IsCodec (List Instruction) (λ is. (code_size is < 2 ^ 32) × ((length is ≤ 262144) × All Codable is)) code_bytes code_at
unfolding code_at code_bytes
code_codec = keyed_codec code_size word_codec sized_codec
