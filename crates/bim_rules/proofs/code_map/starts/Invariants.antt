-- the addresses so far, with those still to come, are all
use Rattle.std.proofs.Common.{◌≡◌, ◌++◌, drop}
use Rattle.bim_rules.specs.ByAddress.{addresses_of}
use Rattle.bim_rules.proofs.code_map.starts.Given as goal

abbrev pub invariant-loop-routine : goal.invariant-loop-routine
invariant-loop-routine l = l.starts.items ++ addresses_of (drop l.routine-index l.routines) ≡ addresses_of l.routines
