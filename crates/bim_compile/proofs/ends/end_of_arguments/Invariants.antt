-- the end of what is still to come is the end of all, and all is small if that is
use Rattle.std.proofs.Common.{◌≡◌, ◌≤◌, ◌+◌, ◌*◌, drop, map}
use Rattle.mos_meaning.specs.Sources.{shown_of, expression}
use Rattle.bim_compile.specs.Built.{AreBuilt}
use Rattle.bim_compile.specs.Compiled.{arguments_end}
use Rattle.bim_compile.specs.InSize.{AreSmall}
use Rattle.bim_compile.specs.Sizes.{size_of_all}
use Rattle.bim_compile.proofs.ends.end_of_arguments.Given as goal

abbrev pub invariant-loop-written : goal.invariant-loop-written
invariant-loop-written l = record {
  built : AreBuilt (shown_of (map expression (drop l.written-index l.all)));
  end : arguments_end l.end (shown_of (map expression (drop l.written-index l.all))) ≡ arguments_end l.at (shown_of (map expression l.all));
  within : l.end + 7 * size_of_all (shown_of (map expression (drop l.written-index l.all))) ≤ l.at + 7 * size_of_all (shown_of (map expression l.all));
  small : AreSmall (shown_of (map expression (drop l.written-index l.all))) → AreSmall (shown_of (map expression l.all));
}
