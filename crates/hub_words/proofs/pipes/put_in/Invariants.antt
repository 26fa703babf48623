-- what the entries before this one put
use Rattle.std.proofs.Common.{◌≡◌, take}
use Rattle.job_calls.specs.Pipes.{put_in}
use Rattle.hub_words.proofs.pipes.put_in.Given as goal

abbrev pub invariant-loop-e : goal.invariant-loop-e
invariant-loop-e l = l.bytes.items ≡ put_in l.name (take l.e-index l.entries)
