use Rattle.std.proofs.Common.{◌≡◌, ◌+◌, ◌-◌, ◌*◌, ◌^◌, ◌<◌, drop}
use Rattle.std.specs.Prelude.{fold}
use Rattle.mos_words.proofs.command_line.options.number_of.Given as goal

abbrev pub invariant-loop-digit : goal.invariant-loop-digit
invariant-loop-digit l = record {
  written : fold (λ number digit. number * 10 + (digit - 48)) l.number (drop l.digit-index l.digits) ≡ fold (λ number digit. number * 10 + (digit - 48)) 0 l.digits;
  small : l.number < 10 ^ l.digit-index;
}
