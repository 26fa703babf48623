-- what is found of the rest, behind what was found before, is found of all
use Rattle.std.proofs.Common.{◌≡◌, ◌++◌, drop}
use Rattle.mos_declarations.specs.Headings.{formals_found}
use Rattle.mos_declarations.proofs.formals.formals.Given as goal

abbrev pub invariant-loop-one : goal.invariant-loop-one
invariant-loop-one l = record {
  sorts : l.all ++ (formals_found (drop l.one-index l.groups) l.scope l.worst).sorts ≡ (formals_found l.groups l.fn.scope l.fn.worst).sorts;
  worst : (formals_found (drop l.one-index l.groups) l.scope l.worst).worst ≡ (formals_found l.groups l.fn.scope l.fn.worst).worst;
  scope : (formals_found (drop l.one-index l.groups) l.scope l.worst).scope ≡ (formals_found l.groups l.fn.scope l.fn.worst).scope;
}
