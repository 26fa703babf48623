-- what was copied so far, with the files still to come, is the whole list
use Rattle.std.proofs.Common.{◌≡◌, ◌++◌, drop}
use Rattle.job_calls.proofs.call.files_copy.Given as goal

abbrev pub invariant-loop-file : goal.invariant-loop-file
invariant-loop-file l = l.list ++ drop l.file-index l.files ≡ l.files
