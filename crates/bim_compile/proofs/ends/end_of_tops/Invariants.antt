-- the end of what is still to come is the end of all, and all is small if that is
use Rattle.std.proofs.Common.{◌≡◌, ◌≤◌, ◌+◌, ◌*◌, drop, map}
use Rattle.mos_meaning.specs.Sources.{block, core_of_top}
use Rattle.bim_compile.specs.Built.{IsBuiltBlock}
use Rattle.bim_compile.specs.Compiled.{block_end}
use Rattle.bim_compile.specs.InSize.{IsSmallBlock}
use Rattle.bim_compile.specs.Sizes.{size_of_block}
use Rattle.bim_compile.proofs.ends.end_of_tops.Given as goal

abbrev pub invariant-loop-top : goal.invariant-loop-top
invariant-loop-top l = record {
  built : IsBuiltBlock (block (map core_of_top (drop l.top-index l.tops)));
  end : block_end l.end (block (map core_of_top (drop l.top-index l.tops))) ≡ block_end l.at (block (map core_of_top l.tops));
  within : l.end + 13 * size_of_block (block (map core_of_top (drop l.top-index l.tops))) ≤ l.at + 13 * size_of_block (block (map core_of_top l.tops));
  small : IsSmallBlock (block (map core_of_top (drop l.top-index l.tops))) → IsSmallBlock (block (map core_of_top l.tops));
}
