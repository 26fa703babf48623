-- none of the parameters so far has the name
use Rattle.std.proofs.Common.{◌≡◌, ◌+◌, drop}
use Rattle.mos_names.specs.NameLists.{place_of}
use Rattle.mos_vm.specs.Givens.{names_of}
use Rattle.mos_vm.proofs.parameters.place_of.Given as goal

abbrev pub invariant-loop-formal : goal.invariant-loop-formal
invariant-loop-formal l = record {
  place : l.place ≡ l.formal-index;
  rest : l.place + place_of l.name (names_of (drop l.formal-index l.formals)) ≡ place_of l.name (names_of l.formals);
}
