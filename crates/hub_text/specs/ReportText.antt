-- The text of a report: its runs, then its journal. Each line ends with a newline.
use Rattle.std.specs.Prelude.{ℕ, ◌+◌, List, [], ◌∷◌, ◌++◌, Option, Some, None, length, codes, decimal}
use Rattle.job_calls.specs.declared.entry.Entry.{Entry}
use Rattle.job_calls.specs.declared.run_line.RunEnd.{RunEnd}
use Rattle.job_calls.specs.declared.run_line.RunEnd.TheVariants.{Ended, Waiting}
use Rattle.job_calls.specs.declared.run_line.RunLine.{RunLine}
use Rattle.hub_text.specs.CallText.{end_text, call_text}
use Rattle.hub_text.specs.ReplyText.{reply_text}

-- how a run stands
unfoldable pub run_end_text : RunEnd → List ℕ
run_end_text (Ended end) = end_text end
run_end_text (Waiting call) = codes "waiting " ++ call_text call

-- the counts of a run
unfoldable pub counts_text : ℕ → ℕ → ℕ → List ℕ
counts_text ticks steps out = codes " ticks " ++ decimal ticks ++ codes " steps " ++ decimal steps ++ codes " out " ++ decimal out

-- a run's number and the name of its source
unfoldable pub run_head : ℕ → List ℕ → List ℕ
run_head number source = codes "run " ++ decimal number ++ codes " " ++ source ++ codes " "

-- the output, between the newline that ends the run's line and one of its own
unfoldable pub output_text : List ℕ → List ℕ
output_text output = codes "\n" ++ output ++ codes "\n"

-- a run: its line, then its output
unfoldable pub run_line : ℕ → RunLine → List ℕ
run_line number line =
    run_head number line.source ++ run_end_text line.end
    ++ counts_text line.ticks line.steps (length line.output) ++ output_text line.output

-- runs, the first of which has this number
abbrev pub run_lines : ℕ → List RunLine → List ℕ
run_lines number [] = []
run_lines number (line ∷ lines) = run_line number line ++ run_lines (number + 1) lines

-- the run that called, or - for none
unfoldable pub caller_text : Option ℕ → List ℕ
caller_text None = codes "-"
caller_text (Some run) = decimal run

-- an entry at its place
unfoldable pub entry_line : ℕ → Entry → List ℕ
entry_line place entry =
    decimal place ++ codes " " ++ decimal entry.lane ++ codes " " ++ caller_text entry.run ++ codes " "
    ++ call_text entry.call ++ codes " -> " ++ reply_text entry.reply ++ codes "\n"

-- entries, the first of which stands at this place
abbrev pub entry_lines : ℕ → List Entry → List ℕ
entry_lines place [] = []
entry_lines place (entry ∷ entries) = entry_line place entry ++ entry_lines (place + 1) entries

-- a journal with the runs that it is of
unfoldable pub report_text : List Entry → List RunLine → List ℕ
report_text entries runs =
    codes "mosel report 1\n" ++ run_lines 0 runs ++ codes "journal " ++ decimal (length entries) ++ codes "\n"
    ++ entry_lines 0 entries ++ codes "end\n"
