-- As the code goes about it: rows of the hub's table with what they look up. No public clause cites it.
use Rattle.std.specs.Prelude.{ℕ, List}
use Rattle.job_calls.specs.declared.entry.Entry.{Entry}
use Rattle.job_calls.specs.declared.reply.Answer.{Answer}
use Rattle.job_calls.specs.Answers.{give_run, read_answer}
use Rattle.job_calls.specs.Blocks.{last_written}
use Rattle.job_calls.specs.Files.{data_of}
use Rattle.job_calls.specs.Runs.{source_of, params_of}

-- the answer by which a lane is given run k
abbrev pub answer_with_run : ℕ → List Entry → Answer
answer_with_run k journal = give_run k (source_of k journal) (params_of k journal)

-- the answer to a read of this name
abbrev pub answer_to_read : List ℕ → List Entry → Answer
answer_to_read name journal = read_answer (last_written name journal) (data_of name journal)
