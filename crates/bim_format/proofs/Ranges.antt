-- In an image that keeps the rules, and whose counts fit their fields, each number fits its field.
use Rattle.std.proofs.Common.{◌≡◌, ◌+◌, ◌<◌, ◌^◌, ℕ, Bool, true, false, List, [], ◌∷◌, Option, Some, None, length, nat_eq, if◌then◌else◌, All, slice_index_or, IfSome, refl, subst, arith}
use Rattle.std.specs.Int.{w32, cast_unsigned}
use Rattle.std.proofs.lemmas.Bool.Decides.{nat_tests}
use Rattle.std.proofs.lemmas.List.Elements.{All-cons, All-nil}
use Rattle.bim_code.specs.declared.image.Image.{Image}
use Rattle.bim_code.specs.declared.image.ImageType.{ImageType}
use Rattle.bim_code.specs.declared.image.ImageType.TheVariants.{Integer, Boolean, Str, Model, Event, Range, Set, List as ListOf, Array, Record}
use Rattle.bim_code.specs.declared.image.Default.{Default}
use Rattle.bim_code.specs.declared.image.Default.TheVariants.{Number, Truth, Constant}
use Rattle.bim_code.specs.declared.instruction.Instruction.{Instruction}
use Rattle.bim_code.specs.declared.instruction.Instruction.TheVariants.{PushInt, PushBool, PushText, LoadGlobal, StoreGlobal, Jump, JumpIf, JumpNot, Fault}
use Rattle.bim_code.specs.Code.{code_size, instruction_from}
use Rattle.bim_code.specs.Limits.{CountsInRange}
use Rattle.bim_code.specs.Rows.{row_of, width}
use Rattle.bim_code.specs.Rules.{HasDefault, HasNumber, HasParts, IsBegun, KeepsRules}
use Rattle.bim_format.specs.Fields.{DefaultInRange, FitsFields, InstructionInRange, PartsInRange}
use Rattle.bim_format.proofs.Entries.{unsigned_in_range}

-- addresses

begins_within : (at : ℕ) (code : List Instruction) (address : ℕ) (i : Instruction) → instruction_from at code address ≡ Some i → address < at + code_size code
begins_within at [] address i e = absurd cc
begins_within at (j ∷ is) address i e = tested (nat_eq at address) refl e (begins_within (at + width j) is address i)
  where
    tested : (b : Bool) → nat_eq at address ≡ b → (if b then Some j else instruction_from (at + width j) is address) ≡ Some i
        → (instruction_from (at + width j) is address ≡ Some i → address < (at + width j) + code_size is)
        → address < at + code_size (j ∷ is)
    tested true t e later = let here : at ≡ address = grind (arith, nat_tests, t) in omega arith
    tested false t e later = let more = later e in omega arith

begun_within : (code : List Instruction) (address : ℕ) → IsBegun code address → address < code_size code
begun_within code address begun = omega (arith, begins_within 0 code address begun.0 begun.1)

-- tables

module _ (image : Image) (counts : CountsInRange image) where
  parts_fit : (typ : ImageType) → HasParts image typ → PartsInRange typ
  parts_fit (Set member) has = omega arith
  parts_fit (ListOf member) has = omega arith
  parts_fit (Array dynamic indexes cell) has = (λ k d within. let one = has.0 k d within in omega arith, omega arith)
  parts_fit (Record fields) has = λ k d within. let one = has k d within in omega arith
  parts_fit Integer has = tt
  parts_fit Boolean has = tt
  parts_fit Str has = tt
  parts_fit Model has = tt
  parts_fit Event has = tt
  parts_fit Range has = tt

  default_fits : (default : Default) → HasDefault image default → DefaultInRange default
  default_fits (Number n) has = has
  default_fits (Truth b) has = tt
  default_fits (Constant constant) has = omega arith

  result_fits : (result : Option ℕ) → IfSome result (λ typ. typ < length image.types) → IfSome result (λ typ. typ < 65535)
  result_fits None has = has
  result_fits (Some typ) has = omega arith

  one_fits : (n : ℕ) → n < 2 ^ 32 → All (λ operand. operand < 2 ^ 32) (n ∷ [])
  one_fits n below = All-cons (λ operand. operand < 2 ^ 32) n [] below (All-nil (λ operand. operand < 2 ^ 32))

  operands_fit : (i : Instruction) → HasNumber image i → All (λ operand. operand < 2 ^ 32) (row_of i).operands
  operands_fit (PushInt n) has = one_fits (cast_unsigned w32 n) (unsigned_in_range n has)
  operands_fit (PushBool n) has = one_fits n (omega arith)
  operands_fit (PushText constant) has = one_fits constant (omega arith)
  operands_fit (LoadGlobal slot) has = one_fits slot (omega arith)
  operands_fit (StoreGlobal slot) has = one_fits slot (omega arith)
  operands_fit (Jump address) has = one_fits address has
  operands_fit (JumpIf address) has = one_fits address has
  operands_fit (JumpNot address) has = one_fits address has
  operands_fit (Fault kind) has = one_fits kind (omega arith)
  operands_fit _ has = All-nil (λ operand. operand < 2 ^ 32)

  instruction_fits : (i : Instruction) → HasNumber image i → InstructionInRange i
  instruction_fits i has = (operands_fit i has, λ n e. subst (HasNumber image) e has)

pub rules_fit : (image : Image) → CountsInRange image → KeepsRules image → FitsFields image
rules_fit image counts rules = record {
  counts = counts;
  types = λ k d within. parts_fit image counts (slice_index_or image.types k d) (rules.numbers.types k d within);
  parameters = λ k d within.
      let has = rules.numbers.parameters k d within in
      (omega arith, omega arith, default_fits image counts (slice_index_or image.params k d).default has.2);
  globals = λ k d within. let has = rules.numbers.globals k d within in omega arith;
  routines = λ k d within.
      let has = rules.numbers.routines k d within in
      let count = counts.slots k d within in
      record {
        address = let below = begun_within image.code (slice_index_or image.routines k d).address (rules.addresses.routines k d within) in omega arith;
        arguments = let few = has.arguments in omega arith;
        slots = λ n other inside. let typ = has.slots n other inside in omega arith;
        result = result_fits image counts (slice_index_or image.routines k d).result has.result;
      };
  points = λ k d within.
      let has = rules.numbers.points k d within in
      let below = begun_within image.code (slice_index_or image.points k d).address (rules.addresses.points k d within) in
      (omega arith, λ n other inside. let typ = has n other inside in omega arith);
  code = λ k d within. instruction_fits image counts (slice_index_or image.code k d) (rules.numbers.code k d within);
}
