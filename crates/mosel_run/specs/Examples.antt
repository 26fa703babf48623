-- Worked examples: what a whole job is, and what is none.

use Rattle.std.specs.Prelude.{◌≡◌, List, [], ◌∷◌, Some, pos, codes}
use Rattle.job_calls.specs.declared.call.Call.TheVariants.{Compile, Write}
use Rattle.job_calls.specs.declared.end.End.TheVariants as end
use Rattle.job_calls.specs.declared.entry.Entry.{Entry}
use Rattle.job_calls.specs.declared.reply.Reply.TheVariants.{Code, Unit as UnitReply}
use Rattle.job_calls.specs.Runs.{Opening}
use Rattle.job_calls.specs.HelloJournal.{hello_entries, hello_file, entry}
use Rattle.bim_code.specs.Tables.{image_bytes}
use Rattle.mos_meaning.specs.Examples.{hello, hello_image}
use Rattle.mos_meaning.specs.Sources.{statements_of}
use Rattle.mos_tree.specs.declared.expr.Expr.TheVariants as expr
use Rattle.mos_tree.specs.declared.statement.Statement.TheVariants as statement
use Rattle.mos_tree.specs.declared.source.ModelName.TheVariants.{Quoted}
use Rattle.mos_tree.specs.declared.source.Top.TheVariants as top
use Rattle.mos_tree.specs.declared.source.Tree.{Tree}
use Rattle.lane_step.specs.Alone.{opening_with}
use Rattle.lane_step.specs.Schedule.{schedule_of}
use Rattle.lane_step.specs.Whole.{IsWhole}
use Rattle.mosel_run.specs.Puts.{puts_of}

-- the job of hello on one lane
abbrev pub hello_opening : Opening
hello_opening = opening_with 1 10000000 [] (hello_file ∷ [])

-- its journal is that of the one-thread schedule
abbrev pub HelloSchedule : Type 0
HelloSchedule = schedule_of hello_opening (end.Code (pos 0)) ≡ hello_entries

-- its image is put under the source's name with another ending
abbrev pub HelloPuts : Type 0
HelloPuts = puts_of hello_opening hello_entries (Some hello_image ∷ [])
    ≡ record { name = codes "hello.bim"; bytes = image_bytes hello_image } ∷ []

-- the bytes of that image, by lines: heading; constants; types, parameters, globals, routines, points; code
abbrev pub HelloBytes : Type 0
HelloBytes = image_bytes hello_image ≡
    0x4d ∷ 0x42 ∷ 0x49 ∷ 0x4d ∷ 0 ∷ 1
    ∷ 0 ∷ 0 ∷ 0 ∷ 1 ∷ 0 ∷ 0 ∷ 0 ∷ 5 ∷ 0x68 ∷ 0x65 ∷ 0x6c ∷ 0x6c ∷ 0x6f
    ∷ 0 ∷ 0 ∷ 0 ∷ 0 ∷ 0 ∷ 0 ∷ 0 ∷ 0 ∷ 0 ∷ 0 ∷ 0 ∷ 0 ∷ 0 ∷ 0
    ∷ 0 ∷ 0 ∷ 0 ∷ 20 ∷ 1 ∷ 5 ∷ 0 ∷ 0 ∷ 0 ∷ 0 ∷ 0x1a ∷ 0x43 ∷ 4 ∷ 0 ∷ 0 ∷ 0 ∷ 1 ∷ 0x44
    ∷ 3 ∷ 0 ∷ 0 ∷ 0 ∷ 0 ∷ 0x45 ∷ []

-- its tree
abbrev pub hello_tree : Tree
hello_tree = record {
  line = 1;
  name = Quoted (codes "hello");
  heads = [];
  tops = top.Statement (statement.Call 2 (codes "writeln") (expr.Text (codes "hello") ∷ [])) ∷ [];
}

-- the statements of its tree
abbrev pub HelloStatements : Type 0
HelloStatements = statements_of hello_tree ≡ hello

-- its journal is that of a job that came to its end
abbrev pub HelloIsWhole : Type 0
HelloIsWhole = IsWhole hello_opening hello_entries

-- a job that compiles a child twice, and writes a block of memory and a file
abbrev pub puts_entries : List Entry
puts_entries =
    entry (0 ∷ []) (Compile (codes "child.mos") (codes "c.bim")) (Code 0)
    ∷ entry (0 ∷ []) (Write (codes "shmem:x") (codes "v: 1\n")) UnitReply
    ∷ entry (0 ∷ []) (Write (codes "o.dat") (codes "v: 2\n")) UnitReply
    ∷ entry (0 ∷ []) (Compile (codes "hello.mos") (codes "c.bim")) (Code 0)
    ∷ entry (0 ∷ []) (Compile (codes "wrong.mos") (codes "w.bim")) (Code 1)
    ∷ []

-- of two images under one name the last is put, in the place of the first; the block of memory is no file
abbrev pub PutsInOrder : Type 0
PutsInOrder = puts_of hello_opening puts_entries (Some hello_image ∷ [])
    ≡ record { name = codes "hello.bim"; bytes = image_bytes hello_image }
    ∷ record { name = codes "c.bim"; bytes = image_bytes hello_image }
    ∷ record { name = codes "o.dat"; bytes = codes "v: 2\n" }
    ∷ []
