-- An instruction is told by its bytes: the code says which it is but for its operand, and how many operands there are.
use Rattle.std.proofs.Common.{◌≡◌, ◌<◌, ◌^◌, ◌*◌, ℕ, List, [], ◌∷◌, ◌++◌, length, get_or, drop, flat_map, nat_eq, if◌then◌else◌, All, refl, sym, ap, ap₂, ◌∙◌, append_assoc, length-append, arith}
use Rattle.std.specs.Int.{w32, cast_signed}
use Rattle.std.proofs.lemmas.Int.{to_z-of_z}
use Rattle.std.proofs.lemmas.List.Elements.{All-head, All-tail}
use Rattle.bim_code.specs.declared.instruction.Comparison.TheVariants.{Equal, NotEqual, Less, AtMost, Greater, AtLeast}
use Rattle.bim_code.specs.declared.instruction.Instruction.{Instruction}
use Rattle.bim_code.specs.declared.instruction.Instruction.TheVariants.{Tick, PushInt, PushBool, PushText, LoadGlobal, StoreGlobal, Swap, Add, Subtract, Compare, Jump, JumpIf, JumpNot, Show, Write, Line, End, Fault}
use Rattle.bim_code.specs.Bytes.{u32_bytes}
use Rattle.bim_code.specs.Code.{code_bytes, code_size, instruction_bytes}
use Rattle.bim_code.specs.Rows.{row_of}
use Rattle.bim_format.specs.Fields.{InstructionInRange}
use Rattle.bim_format.proofs.PrefixCodes.{IsPrefixCode, u32_apart, same_length_apart, all_apart}

-- the instruction of a code byte, with this operand if it has one
abbrev instruction_of : ℕ → ℕ → Instruction
instruction_of code operand =
    if nat_eq code 0x01 then Tick
    else if nat_eq code 0x03 then PushInt (cast_signed w32 operand)
    else if nat_eq code 0x04 then PushBool operand
    else if nat_eq code 0x05 then PushText operand
    else if nat_eq code 0x08 then LoadGlobal operand
    else if nat_eq code 0x09 then StoreGlobal operand
    else if nat_eq code 0x12 then Swap
    else if nat_eq code 0x13 then Add
    else if nat_eq code 0x14 then Subtract
    else if nat_eq code 0x1A then Show
    else if nat_eq code 0x1B then Compare Equal
    else if nat_eq code 0x1C then Compare NotEqual
    else if nat_eq code 0x1D then Compare Less
    else if nat_eq code 0x1E then Compare AtMost
    else if nat_eq code 0x1F then Compare Greater
    else if nat_eq code 0x20 then Compare AtLeast
    else if nat_eq code 0x22 then Jump operand
    else if nat_eq code 0x23 then JumpIf operand
    else if nat_eq code 0x24 then JumpNot operand
    else if nat_eq code 0x43 then Write
    else if nat_eq code 0x44 then Line
    else if nat_eq code 0x45 then End
    else Fault operand

instruction_back : (i : Instruction) → InstructionInRange i → instruction_of (row_of i).code (get_or (row_of i).operands 0 0) ≡ i
instruction_back (PushInt n) fits = ap (λ m. PushInt m) (to_z-of_z w32 n (fits.1 n refl))
instruction_back (Compare Equal) fits = refl
instruction_back _ fits = refl

same_number_of_operands : (i : Instruction) → length (row_of (instruction_of (row_of i).code 0)).operands ≡ length (row_of i).operands
same_number_of_operands (Compare Equal) = refl
same_number_of_operands _ = refl

instruction_apart : IsPrefixCode Instruction InstructionInRange instruction_bytes
instruction_apart = record {
  apart = λ i j r s fits also e.
      let code : (row_of i).code ≡ (row_of j).code = ap (λ (all : List ℕ). get_or all 0 0) e in
      let count : length (row_of i).operands ≡ length (row_of j).operands =
      sym (same_number_of_operands i) ∙ ap (λ (c : ℕ). length (row_of (instruction_of c 0)).operands) code ∙ same_number_of_operands j in
      let operands = all_apart u32_apart (row_of i).operands (row_of j).operands r s fits.0 also.0 count (ap (λ (all : List ℕ). drop 1 all) e) in
      (sym (instruction_back i fits) ∙ ap₂ instruction_of code (ap (λ (all : List ℕ). get_or all 0 0) operands.0) ∙ instruction_back j also, operands.1);
}

-- instructions with nothing behind them
instructions_apart : (xs ys : List Instruction) → All InstructionInRange xs → All InstructionInRange ys
    → flat_map instruction_bytes xs ≡ flat_map instruction_bytes ys → xs ≡ ys
instructions_apart [] [] fits also e = refl
instructions_apart [] (y ∷ ys) fits also e = cc
instructions_apart (x ∷ xs) [] fits also e = cc
instructions_apart (x ∷ xs) (y ∷ ys) fits also e =
    let one = instruction_apart.apart x y (flat_map instruction_bytes xs) (flat_map instruction_bytes ys)
    (All-head InstructionInRange x xs fits) (All-head InstructionInRange y ys also) e in
    let rest = instructions_apart xs ys (All-tail InstructionInRange x xs fits) (All-tail InstructionInRange y ys also) one.1 in
    λ i. one.0 i ∷ rest i

length_of_operands : (operands : List ℕ) → length (flat_map u32_bytes operands) ≡ 4 * length operands
unfolding u32_bytes
length_of_operands [] = refl
length_of_operands (n ∷ more) = let rest = length_of_operands more in omega arith

length_of_code : (code : List Instruction) → length (flat_map instruction_bytes code) ≡ code_size code
length_of_code [] = refl
length_of_code (i ∷ more) =
    let operands = length_of_operands (row_of i).operands in
    let rest = length_of_code more in
    omega (arith, length-append (flat_map u32_bytes (row_of i).operands) (flat_map instruction_bytes more))

pub code_apart : IsPrefixCode (List Instruction) (λ code. (code_size code < 2 ^ 32) × All InstructionInRange code) code_bytes
unfolding code_bytes
code_apart = record {
  apart = λ xs ys r s fits also e.
      let size = u32_apart.apart (code_size xs) (code_size ys) (flat_map instruction_bytes xs ++ r) (flat_map instruction_bytes ys ++ s) fits.0 also.0
      (sym (append_assoc (u32_bytes (code_size xs)) (flat_map instruction_bytes xs) r) ∙ e ∙ append_assoc (u32_bytes (code_size ys)) (flat_map instruction_bytes ys) s) in
      let bytes = same_length_apart (flat_map instruction_bytes xs) (flat_map instruction_bytes ys) r s
      (length_of_code xs ∙ size.0 ∙ sym (length_of_code ys)) size.1 in
      (instructions_apart xs ys fits.1 also.1 bytes.0, bytes.1);
}
