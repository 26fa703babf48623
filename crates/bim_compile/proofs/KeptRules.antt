-- The image of a model whose statements work, and which is in size, keeps the rules of images.

use Rattle.std.proofs.Common.{◌≡◌, ◌≤◌, ◌<◌, ◌+◌, ℕ, zero, suc, pos, List, [], ◌∷◌, ◌++◌, length, Option, Some, None, refl, sym, subst, slice_get, take, arith, rules}
use Rattle.std.specs.Prelude.{All, FitsSigned, replicate}
use Rattle.std.specs.Int.{w32}
use Rattle.std.specs.Option.{IfSome}
use Rattle.std.proofs.lemmas.List.{length-replicate, map-append}
use Rattle.std.proofs.lemmas.List.Elements.{All-nil, All-cons, All-replicate}
use Rattle.bim_code.specs.declared.image.Image.{Image}
use Rattle.bim_code.specs.declared.image.ImageType.{ImageType}
use Rattle.bim_code.specs.declared.image.ImageType.TheVariants.{Integer}
use Rattle.bim_code.specs.declared.instruction.Instruction.{Instruction}
use Rattle.bim_code.specs.declared.instruction.Instruction.TheVariants.{PushInt, End}
use Rattle.bim_code.specs.Rows.{width, named_address}
use Rattle.bim_code.specs.Code.{instruction_at}
use Rattle.bim_code.specs.Rules.{HasNumber, HasParts, IsFlat, IsBegun, KeepsRules}
use Rattle.mos_names.specs.NameLists.{Name}
use Rattle.mos_meaning.specs.Syntax.{Block}
use Rattle.mos_meaning.specs.Sources.{variables_of}
use Rattle.mos_meaning.specs.Working.{AllWork}
use Rattle.bim_compile.specs.declared.draft.Labelled.{Labelled}
use Rattle.bim_compile.specs.InSize.{IsInSize}
use Rattle.bim_compile.specs.Contexts.{context_of}
use Rattle.bim_compile.specs.Compiled.{at_line, instructions, texts_in_block, block_code, block_end, types_of, labelled_of, image_of}
use Rattle.bim_compile.proofs.Standing.{whole, cut}
use Rattle.bim_compile.proofs.EndLemmas.{block_after}
use Rattle.bim_compile.proofs.RightCode.{NamesWell, IsRight, AreRight, right_append, block_right, right_found}
use Rattle.bim_compile.proofs.Followed.{LeavesLast, leaves_append, followed}
use Rattle.bim_compile.proofs.SizeLemmas.{texts_few_block, block_within}

-- each instruction is right
all_right : (model : Block) → AllWork (variables_of model) model → IsInSize model → AreRight (image_of model) 0 (labelled_of model)
all_right model works in_size =
    let image = image_of model in
    let context = context_of model in
    let end : ℕ = block_end 0 model in
    let last : List Labelled = at_line 0 (PushInt (pos 0)) ∷ at_line 0 End ∷ [] in
    let body = block_code context 0 0 end end model in
    let cuts = cut image.code 0 end body last (block_after context 0 0 end end model) (whole (labelled_of model)) in
    let within = block_within 0 model in
    let size = in_size.size in
    let few = texts_few_block model in
    let wide : length image.globals ≡ length context.names.model = length-replicate (length context.names.model) 0 in
    let small : FitsSigned w32 (pos 0) = search rules in
    let begun : IsBegun image.code end = (PushInt (pos 0), cuts.1.0) in
    right_append image 0 end body last (block_after context 0 0 end end model)
    (block_right image context 0 0 end end model (record { slots = omega (arith, wide); texts = omega (arith, few, size) }) works in_size.small (omega arith) cuts.0 (record {
      end_begun = begun;
      out_begun = begun;
      next_begun = begun;
      out_ahead = omega arith;
      next_ahead = omega arith;
      out_fits = omega (arith, within, size);
      next_fits = omega (arith, within, size);
    }))
    ((small, tt), ((tt, tt), tt))

found_right : (model : Block) → AllWork (variables_of model) model → IsInSize model → (at : ℕ) (i : Instruction) → instruction_at (image_of model).code at ≡ Some i → IsRight (image_of model) at i
found_right model works in_size at i found = right_found (image_of model) 0 (labelled_of model) (all_right model works in_size) at i found

-- the operands of right code
numbers_of : (image : Image) (at : ℕ) (is : List Labelled) → AreRight image at is → All (HasNumber image) (instructions is)
numbers_of image at [] h = All-nil (HasNumber image)
numbers_of image at (i ∷ is) h = All-cons (HasNumber image) i.instruction (instructions is) h.0.0 (numbers_of image (at + width i.instruction) is h.1)

-- the type of a variable is there
typed : (names : List Name) → All (λ typ. typ < length (types_of names)) (replicate (length names) 0)
typed [] = All-nil _
typed (n ∷ names) = All-replicate (λ typ. typ < 1) (length (n ∷ names)) 0 (omega arith)

-- no type has parts
whole_types : (image : Image) (names : List Name) → All (HasParts image) (types_of names)
whole_types image [] = All-nil _
whole_types image (n ∷ names) = All-cons (HasParts image) Integer [] tt (All-nil _)

flat : (constants : List (List ℕ)) (names : List Name) (k : ℕ) (typ : ImageType) → slice_get (types_of names) k ≡ Some typ → IsFlat constants (take k (types_of names)) typ
flat constants [] k typ e = cc
flat constants (n ∷ names) zero typ e =
    let same : Integer ≡ typ = cc in subst (λ (t : ImageType). IsFlat constants (take 0 (Integer ∷ [])) t) same tt
flat constants (n ∷ names) (suc k) typ e = cc

-- what an instruction names is in the one part that there is
in_part : (image : Image) (at : ℕ) (named : Option ℕ) → IfSome named (NamesWell image.code at) → IfSome named (λ address. IsBegun image.code address × (◌≡◌ {A = ℕ} 0 0))
in_part image at None h = tt
in_part image at (Some address) h = (h.0, refl)

named_well : (image : Image) (at address : ℕ) (named : Option ℕ) → named ≡ Some address → IfSome named (NamesWell image.code at) → NamesWell image.code at address
named_well image at address None e h = cc
named_well image at address (Some other) e h = let same : other ≡ address = cc in subst (λ x. NamesWell image.code at x) same h

code_of : (model : Block) → (image_of model).code ≡ instructions (block_code (context_of model) 0 0 (block_end 0 model) (block_end 0 model) model) ++ (PushInt (pos 0) ∷ End ∷ [])
code_of model =
    map-append (λ (l : Labelled). l.instruction) (block_code (context_of model) 0 0 (block_end 0 model) (block_end 0 model) model) (at_line 0 (PushInt (pos 0)) ∷ at_line 0 End ∷ [])

leaves_last : (model : Block) → LeavesLast (image_of model).code
leaves_last model =
    subst LeavesLast (sym (code_of model))
    (leaves_append (instructions (block_code (context_of model) 0 0 (block_end 0 model) (block_end 0 model) model)) (PushInt (pos 0)) (End ∷ []) refl)

-- code that is not empty begins at 0
begins : (is : List Instruction) → LeavesLast is → IsBegun is 0
begins [] h = absurd h
begins (i ∷ is) h = (i, refl)

pub keeps_rules : (model : Block) → AllWork (variables_of model) model → IsInSize model → KeepsRules (image_of model)
keeps_rules model works in_size = record {
  numbers = record {
    types = whole_types (image_of model) (variables_of model);
    parameters = All-nil _;
    globals = typed (variables_of model);
    routines = All-nil _;
    points = All-nil _;
    code = numbers_of (image_of model) 0 (labelled_of model) (all_right model works in_size);
  };
  types = record {
    flat = flat (texts_in_block model) (variables_of model);
    defaults = All-nil _;
    names = λ i j less within. absurd (omega (arith, within));
    slots = λ i j less within. absurd (omega (arith, within));
  };
  addresses = record {
    routines_ascend = λ i j n m less one other. cc;
    points_ascend = λ i j n m less one other. cc;
    routines = All-nil _;
    points = All-nil _;
    operands = λ at i found. in_part (image_of model) at (named_address i) (found_right model works in_size at i found).1;
  };
  ends = record {
    main = begins (image_of model).code (leaves_last model);
    main_is_first = refl;
    behind = λ at i found stays. (followed 0 (image_of model).code (leaves_last model) at i found stays, refl);
  };
  ticks = record {
    some = some (image_of model).code (leaves_last model);
    back = λ at i address found names less. (named_well (image_of model) at address (named_address i) names (found_right model works in_size at i found).1).1 less;
  };
}
  where
    some : (is : List Instruction) → LeavesLast is → 1 ≤ length is
    some [] h = absurd h
    some (i ∷ is) h = omega arith
