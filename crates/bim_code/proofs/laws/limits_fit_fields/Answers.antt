use Rattle.std.proofs.Common.{arith, slice_index_or}
use Rattle.bim_code.proofs.Sizes.{code_size_at_most, type_fits}
use Rattle.bim_code.proofs.laws.limits_fit_fields.Goals as goal

pub returns : goal.returns
returns c = let h = c.requires in record {
  constants = let most = h.constants in omega arith;
  texts = λ k d within. let most = h.texts k d within in omega arith;
  types = h.types;
  parts = λ k d within. type_fits (slice_index_or c.args.image.now.types k d) (h.parts k d within);
  params = h.params;
  globals = let most = h.globals in omega arith;
  routines = h.routines;
  slots = λ k d within. (h.slots k d within).slots;
  points = h.points;
  stacks = h.stacks;
  code = let most = h.code in let size = code_size_at_most c.args.image.now.code in omega arith;
}
