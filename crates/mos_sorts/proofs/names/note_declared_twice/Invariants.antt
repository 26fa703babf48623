-- what counts of the names behind those before
use Rattle.std.proofs.Common.{◌≡◌, [], drop}
use Rattle.mos_sorts.specs.Scopes.{declared_twice}
use Rattle.mos_sorts.proofs.names.note_declared_twice.Given as goal

abbrev pub invariant-loop-name : goal.invariant-loop-name
invariant-loop-name l = declared_twice l.scope l.bound l.before (drop l.name-index l.names) l.worst ≡ declared_twice l.scope l.bound [] l.names l.fn.worst
