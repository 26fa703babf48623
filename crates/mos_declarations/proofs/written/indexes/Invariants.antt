-- what is found of the rest, behind what was found before, is found of all
use Rattle.std.proofs.Common.{◌≡◌, ◌++◌, drop}
use Rattle.mos_declarations.specs.WrittenTypes.{indexes_found}
use Rattle.mos_declarations.proofs.written.indexes.Given as goal

abbrev pub invariant-loop-dimension : goal.invariant-loop-dimension
invariant-loop-dimension l = record {
  sorts : l.all.sorts ++ (indexes_found (drop l.dimension-index l.dimensions) l.scope l.worst).sorts ≡ (indexes_found l.dimensions l.scope l.fn.worst).sorts;
  sets : l.all.sets ++ (indexes_found (drop l.dimension-index l.dimensions) l.scope l.worst).sets ≡ (indexes_found l.dimensions l.scope l.fn.worst).sets;
  worst : (indexes_found (drop l.dimension-index l.dimensions) l.scope l.worst).worst ≡ (indexes_found l.dimensions l.scope l.fn.worst).worst;
}
