-- A worked journal, and its runs: hello, on one lane.

use Rattle.std.specs.Prelude.{ℕ, List, [], ◌∷◌, Some, None, pos, codes}
use Rattle.job_calls.specs.declared.call.Call.{Call}
use Rattle.job_calls.specs.declared.call.Call.TheVariants.{Open, Claim, Finish}
use Rattle.job_calls.specs.declared.end.End.TheVariants as end
use Rattle.job_calls.specs.declared.entry.Entry.{Entry}
use Rattle.job_calls.specs.declared.entry.Listed.{Listed}
use Rattle.job_calls.specs.declared.reply.Reply.{Reply}
use Rattle.job_calls.specs.declared.reply.Reply.TheVariants.{Opened, Claimed, Done, Unit as UnitReply}
use Rattle.job_calls.specs.declared.run_line.RunEnd.TheVariants.{Ended}
use Rattle.job_calls.specs.declared.run_line.RunLine.{RunLine}

-- a model that writes hello, on one lane
abbrev pub hello_file : Listed
hello_file = record {
  name = codes "hello.mos";
  bytes = codes "model \"hello\"\nwriteln(\"hello\")\nend-model\n";
  code = 0;
}

-- what lane 0 calls for itself, or for a run
abbrev pub entry : List ℕ → Call → Reply → Entry
entry [] call reply = record { lane = 0; run = None; call = call; reply = reply }
entry (run ∷ _) call reply = record { lane = 0; run = Some run; call = call; reply = reply }

-- its journal
abbrev pub hello_entries : List Entry
hello_entries =
    entry [] (Open 1 10000000 [] (hello_file ∷ [])) Opened
    ∷ entry [] Claim (Claimed 0 0 [])
    ∷ entry (0 ∷ []) (Finish (end.Code (pos 0))) UnitReply
    ∷ entry [] Claim Done
    ∷ []

-- and the run in it
abbrev pub hello_runs : List RunLine
hello_runs = record {
  source = codes "hello.mos";
  end = Ended (end.Code (pos 0));
  ticks = 1;
  steps = 8;
  output = codes "hello\n";
} ∷ []
