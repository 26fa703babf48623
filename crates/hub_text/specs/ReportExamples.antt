-- Worked examples of the text of a report and of error lines.

use Rattle.std.specs.Prelude.{◌≡◌, [], ◌∷◌, ◌++◌, Some, None, pos, negsuc, true, map, codes}
use Rattle.mos_text.specs.declared.fault_kind.FaultKind.TheVariants.{Overflow}
use Rattle.mos_text.specs.declared.kind.Kind.TheVariants.{Syntax, Module}
use Rattle.job_calls.specs.declared.call.Call.TheVariants.{Finish, Run, Send, Write, PipeOpen}
use Rattle.job_calls.specs.declared.call.Way.TheVariants.{Writes}
use Rattle.job_calls.specs.declared.end.End.TheVariants as end
use Rattle.job_calls.specs.declared.reply.Reply.TheVariants.{Took, Flag, Number, Bytes, Fault}
use Rattle.job_calls.specs.HelloJournal.{hello_entries, hello_runs}
use Rattle.hub_text.specs.CallText.{call_text}
use Rattle.hub_text.specs.ErrorLines.{usage_line, verdict_line, missing_line, too_large_line, read_fault_line, bad_input_line}
use Rattle.hub_text.specs.ReplyText.{reply_text}
use Rattle.hub_text.specs.ReportText.{report_text}

-- its report
abbrev pub HelloReport : Type 0
HelloReport =
    report_text hello_entries hello_runs
    ≡ codes "mosel report 1\n"
    ++ codes "run 0 hello.mos ok 0 ticks 1 steps 8 out 6\nhello\n\n"
    ++ codes "journal 4\n"
    ++ codes "0 0 - Open 1 10000000 \"\" hello.mos:41 -> opened\n"
    ++ codes "1 0 - Claim -> claimed 0\n"
    ++ codes "2 0 0 Finish ok 0 -> unit\n"
    ++ codes "3 0 - Claim -> done\n"
    ++ codes "end\n"

-- some calls, and what is written of them
abbrev pub CallTexts : Type 0
CallTexts = map call_text (
    Finish (end.Fault Overflow)
    ∷ Finish (end.Code (negsuc 6))
    ∷ Run 1 (codes "PARAM1=3,PARAM2='x'")
    ∷ Run 2 (codes "a\n\t\\\"")
    ∷ Send (Some 3) (pos 2) (negsuc 0)
    ∷ Send None (pos 2) (pos 9)
    ∷ Write (codes "shmem:x") (codes "v: 1\n")
    ∷ PipeOpen (codes "p") Writes
    ∷ [])
    ≡ codes "Finish fault OVERFLOW"
    ∷ codes "Finish ok -7"
    ∷ codes "Run 1 \"PARAM1=3,PARAM2='x'\""
    ∷ codes "Run 2 \"a\\n\\t\\\\\\\"\""
    ∷ codes "Send 3 2 -1"
    ∷ codes "Send parent 2 9"
    ∷ codes "Write \"shmem:x\" x763a20310a"
    ∷ codes "PipeOpen \"p\" write"
    ∷ []

-- some replies, and what is written of them
abbrev pub ReplyTexts : Type 0
ReplyTexts = map reply_text (
    Took (record { 0 = 6 }) (pos 1) (pos 0)
    ∷ Flag true
    ∷ Number (negsuc 0)
    ∷ Bytes (codes "5\n")
    ∷ Fault Overflow
    ∷ [])
    ≡ codes "took 6"
    ∷ codes "true"
    ∷ codes "number -1"
    ∷ codes "bytes x350a"
    ∷ codes "fault OVERFLOW"
    ∷ []

-- error lines
abbrev pub ErrorLineTexts : Type 0
ErrorLineTexts =
    usage_line
    ∷ verdict_line (codes "empty.mos") 1 Syntax
    ∷ verdict_line (codes "a.mos") 2 (Module (codes "mmxprs"))
    ∷ missing_line (codes "no.mos")
    ∷ too_large_line (codes "a.mos")
    ∷ read_fault_line (codes "a.mos")
    ∷ bad_input_line (codes "tiny.bim") 33 3
    ∷ []
    ≡ codes "mosel: usage\n"
    ∷ codes "mosel: empty.mos line 1: SYNTAX\n"
    ∷ codes "mosel: a.mos line 2: MODULE mmxprs\n"
    ∷ codes "mosel: no.mos: missing\n"
    ∷ codes "mosel: a.mos: too large\n"
    ∷ codes "mosel: a.mos: read fault\n"
    ∷ codes "mosel: tiny.bim: bad input at 33, rule 3\n"
    ∷ []
