-- Each status comes in its own way alone, so that the words and the files tell it.

use Rattle.std.proofs.Common.{◌≡◌, ℕ, List, [], ◌∷◌, Option, Some, None, refl, sym, ap, ◌∙◌, subst, inl, inr}
use Rattle.std.specs.Prelude.{slice_get, ◌⊎◌}
use Rattle.mos_text.specs.declared.folder.Got.TheVariants.{Bytes, Missing as NotThere, TooLarge as TooLong, Failed, NoMemory as WantsMemory}
use Rattle.mos_text.specs.declared.kind.Kind.{Kind}
use Rattle.mos_tree.specs.declared.source.Tree.{Tree}
use Rattle.job_calls.specs.declared.entry.Listed.{Listed}
use Rattle.mos_words.specs.CommandLine.{command_of}
use Rattle.mos_words.specs.declared.command_line.commands.Command.{Command}
use Rattle.mos_words.specs.declared.command_line.commands.Command.TheVariants.{Run}
use Rattle.mosel_run.specs.declared.answer.Answer.{Answer}
use Rattle.mosel_run.specs.declared.status.Status.{Status}
use Rattle.mosel_run.specs.declared.status.Status.TheVariants.{Usage, Refused, Missing, TooLarge, FolderFault, NoMemory}
use Rattle.mosel_run.specs.declared.wanted.Wanted.{Wanted}
use Rattle.mosel_run.specs.Accepted.{IsAccepted, IsRefusedAt}
use Rattle.mosel_run.specs.Answered.{IsCommandAnswer, Answered, delivered, no_memory, request_of}
use Rattle.mosel_run.specs.Delivered.{Delivered, whole, broken, Broke, unwritten, unput, no_memory_to_write, no_memory_to_put}
use Rattle.mosel_run.specs.Exact.{Hides, Only, Refuses, Accepts, ExactUsage, ExactUnread, ExactRefused, ExactReport}
use Rattle.mosel_run.specs.Jobs.{Model, IsModelOf, AreJudged, IsJudged, accepted as accepted_file, refused as refused_file, data_file, Journals}
use Rattle.mosel_run.proofs.Finding.{Finding, AllThere, FirstAbsent, FirstTooLong, finding_of}
use Rattle.mosel_run.specs.Run.{Request, wanted_of, listed_of, IsRunAnswer, unread, all_read, IsAnswerTo, refusal, report, IsReported}
use Rattle.mosel_run.specs.States.{FolderState, Devices, Held}
use Rattle.mosel_run.specs.declared.answer.Deed.{Deed}
use Rattle.mosel_run.specs.Wanted.{AreKnown}
use Rattle.mosel_run.proofs.Findings.{Agrees, all_agree, absent_agrees, too_long_agrees, finding_is}

-- an answer by what was found of the files
data Cases (journals : Journals) (asked : Request) (found : Finding) (answer : Answer) : Type 0 where
  absent : (name : List ℕ) → answer.status ≡ Missing name → Agrees (FirstAbsent name) found → Cases journals asked found answer
  too_long : (name : List ℕ) → answer.status ≡ TooLarge name → Agrees (FirstTooLong name) found → Cases journals asked found answer
  failed : (name : List ℕ) → answer.status ≡ FolderFault name → Cases journals asked found answer
  read : (sources : List (List ℕ)) → Agrees (AllThere sources) found → IsAnswerTo journals asked sources answer → Cases journals asked found answer

cases_of : (journals : Journals) (asked : Request) (before after : FolderState) (answer : Answer) → IsRunAnswer journals asked before after answer
    → Cases journals asked (finding_of before.content (wanted_of asked)) answer
cases_of journals asked before after answer (unread name NotThere u a) =
    absent name (ap (λ (x : Answer). x.status) a) (absent_agrees before.content (wanted_of asked) name u)
cases_of journals asked before after answer (unread name TooLong u a) =
    too_long name (ap (λ (x : Answer). x.status) a) (too_long_agrees before.content (wanted_of asked) name u)
cases_of journals asked before after answer (unread name Failed u a) = failed name (ap (λ (x : Answer). x.status) a.0)
cases_of journals asked before after answer (unread name (Bytes bytes) u a) = absurd a
cases_of journals asked before after answer (unread name WantsMemory u a) = absurd a
cases_of journals asked before after answer (all_read sources r a) = read sources (all_agree before.content (wanted_of asked) sources r) a

-- of the words' own command
by_command : (journals : Journals) (command : Command) (before after : FolderState) (answer : Answer)
    → IsCommandAnswer journals (Some command) before after answer
    → Cases journals (request_of command) (finding_of before.content (wanted_of (request_of command))) answer
by_command journals (Run name lanes budget) before after answer h = cases_of journals _ before after answer h

-- where a deed was not done, the status hides that of the answer
hides_all : (before after : Devices) (held : Held) (deed : Deed) (status : Status) → Broke before after held deed status → Hides status
hides_all before after held _ _ (unwritten text wrote rose) = inl refl
hides_all before after held _ _ (unput put lost same rose) = inr (inl (put.name, refl))
hides_all before after held _ _ (no_memory_to_write text wrote) = inr (inr refl)
hides_all before after held _ _ (no_memory_to_put put others same) = inr (inr refl)

-- what holds of the answer's status and of those that hide it holds of the status that comes
lifted : (Good : Status → Type 0) (answer : Answer) (before after : Devices) (status : Status)
    → ((s : Status) → Hides s → Good s) → Good answer.status → Delivered answer before after status → Good status
lifted Good answer before after status hides good (whole s is held) = subst Good (sym is) good
lifted Good answer before after status hides good (broken s first rest deed is b) = hides s (hides_all before after _ deed s b)

-- what was found of the files of the words' command tells the status
by_finding : (Good : Status → Type 0) (journals : Journals) (words : List (List ℕ)) (before after : Devices) (status : Status)
    (command : Command) (found : Finding) → command_of words ≡ Some command
    → AreKnown before.folder.content (wanted_of (request_of command))
    → Agrees found (finding_of before.folder.content (wanted_of (request_of command)))
    → ((s : Status) → Hides s → Good s)
    → ((answer : Answer) → Cases journals (request_of command) found answer → Good answer.status)
    → Answered journals words before after status → Good status
by_finding Good journals words before after status command found is_command known agrees hides good (delivered s answer is d) =
    let h : IsCommandAnswer journals (Some command) before.folder after.folder answer =
    subst (λ (c : Option Command). IsCommandAnswer journals c before.folder after.folder answer) is_command is in
    let same : finding_of before.folder.content (wanted_of (request_of command)) ≡ found =
    finding_is before.folder.content (wanted_of (request_of command)) found known agrees in
    lifted Good answer before after s hides
    (good answer (subst (λ (f : Finding). Cases journals (request_of command) f answer) same (by_command journals command before.folder after.folder answer h)))
    d
by_finding Good journals words before after _ command found is_command known agrees hides good (no_memory held same) = hides NoMemory (inr (inr refl))

hidden : (expected s : Status) → Hides s → Only expected s
hidden expected s h = inr h

pub exact_usage : (journals : Journals) (words : List (List ℕ)) (before after : Devices) (status : Status)
    → Answered journals words before after status → ExactUsage words status
exact_usage journals words before after status (delivered s answer is d) none =
    lifted (Only Usage) answer before after s (hidden Usage)
    (inl (ap (λ (x : Answer). x.status) (subst (λ (c : Option Command). IsCommandAnswer journals c before.folder after.folder answer) none is)))
    d
exact_usage journals words before after _ (no_memory held same) none = inr (inr (inr refl))

missing_by : (journals : Journals) (name : List ℕ) (asked : Request) (answer : Answer) → Cases journals asked (FirstAbsent name) answer → Only (Missing name) answer.status
missing_by journals name asked answer (absent other is a) = let same : other ≡ name = cc in inl (is ∙ ap Missing same)
missing_by journals name asked answer (too_long other is a) = absurd cc
missing_by journals name asked answer (failed other is) = inr (inr (inl (other, is)))
missing_by journals name asked answer (read sources a h) = absurd cc

pub exact_missing : (journals : Journals) (words : List (List ℕ)) (before after : Devices) (status : Status)
    → Answered journals words before after status → ExactUnread NotThere Missing words before.folder.content status
exact_missing journals words before after status h name finds =
    by_finding (Only (Missing name)) journals words before after status finds.0 (FirstAbsent name) finds.1 finds.2
    (absent_agrees before.folder.content (wanted_of (request_of finds.0)) name finds.3) (hidden (Missing name)) (missing_by journals name (request_of finds.0)) h

too_large_by : (journals : Journals) (name : List ℕ) (asked : Request) (answer : Answer) → Cases journals asked (FirstTooLong name) answer → Only (TooLarge name) answer.status
too_large_by journals name asked answer (absent other is a) = absurd cc
too_large_by journals name asked answer (too_long other is a) = let same : other ≡ name = cc in inl (is ∙ ap TooLarge same)
too_large_by journals name asked answer (failed other is) = inr (inr (inl (other, is)))
too_large_by journals name asked answer (read sources a h) = absurd cc

pub exact_too_large : (journals : Journals) (words : List (List ℕ)) (before after : Devices) (status : Status)
    → Answered journals words before after status → ExactUnread TooLong TooLarge words before.folder.content status
exact_too_large journals words before after status h name finds =
    by_finding (Only (TooLarge name)) journals words before after status finds.0 (FirstTooLong name) finds.1 finds.2
    (too_long_agrees before.folder.content (wanted_of (request_of finds.0)) name finds.3) (hidden (TooLarge name)) (too_large_by journals name (request_of finds.0)) h

inside : {A : Type 0} (x y : A) → Some x ≡ Some y → x ≡ y
inside x y e = cc

-- the first of the files of a job is a model
master_by : (file : Listed) (found : Option Model) (master : Model) (source : List ℕ) → file.bytes ≡ source → found ≡ Some master → IsJudged file found → IsModelOf source master
master_by file found master source bytes is (accepted_file model named code h) =
    subst (λ (m : Model). IsModelOf source m) (inside model master is) (subst (λ (b : List ℕ). IsModelOf b model) bytes h)
master_by file found master source bytes is (refused_file line kind named code at only) = absurd cc
master_by file found master source bytes is (data_file no_source no_image code) = absurd cc

master_of : (wanted : List Wanted) (sources : List (List ℕ)) (source : List ℕ) (files : List Listed) (models : List (Option Model)) (master : Model)
    → slice_get sources 0 ≡ Some source → slice_get models 0 ≡ Some (Some master) → AreJudged wanted sources files models → IsModelOf source master
master_of (want ∷ wanted) (bytes ∷ others) source (file ∷ files) (model ∷ models) master first is h =
    master_by file model master source (h.1 ∙ inside bytes source first) (inside model (Some master) is) h.2
master_of (want ∷ wanted) (bytes ∷ others) source (file ∷ files) [] master first is h = absurd h
master_of (want ∷ wanted) (bytes ∷ others) source [] models master first is h = absurd h
master_of (want ∷ wanted) [] source files models master first is h = absurd h
master_of [] [] source files models master first is h = let none : None ≡ Some source = first in absurd cc
master_of [] (bytes ∷ others) source files models master first is h = absurd h

same_sources : (sources others : List (List ℕ)) → AllThere sources ≡ AllThere others → sources ≡ others
same_sources sources others e = cc

-- the first of the listed files
abbrev First : Request → List (List ℕ) → List ℕ → Type 0
First asked sources source = slice_get (listed_of asked sources) 0 ≡ Some source

refused_by : (journals : Journals) (asked : Request) (sources : List (List ℕ)) (source : List ℕ) (line : ℕ) (kind : Kind) (answer : Answer)
    → First asked sources source → IsRefusedAt source line kind → IsAnswerTo journals asked sources answer → Only (Refused line kind) answer.status
refused_by journals asked sources source line kind answer is refused (refusal at what r) =
    let first : source ≡ r.source = inside source r.source (sym is ∙ r.source_is) in
    let both = r.only.one line kind (subst (λ (s : List ℕ). IsRefusedAt s line kind) first refused) in
    inl (ap (λ (x : Answer). x.status) r.answer_is ∙ ap (λ (l : ℕ). Refused l what) both.0 ∙ ap (Refused line) both.1)
refused_by journals asked sources source line kind answer is refused (report r) =
    let model : IsModelOf source r.master =
    master_of asked.listed (listed_of asked sources) source r.files r.models r.master is r.master_is r.judged in
    absurd (model.only.never line kind refused)

refused_case : (journals : Journals) (asked : Request) (sources : List (List ℕ)) (source : List ℕ) (line : ℕ) (kind : Kind)
    → First asked sources source → IsRefusedAt source line kind
    → (answer : Answer) → Cases journals asked (AllThere sources) answer → Only (Refused line kind) answer.status
refused_case journals asked sources source line kind is refused answer (absent other e a) = absurd cc
refused_case journals asked sources source line kind is refused answer (too_long other e a) = absurd cc
refused_case journals asked sources source line kind is refused answer (failed other e) = inr (inr (inl (other, e)))
refused_case journals asked sources source line kind is refused answer (read others a h) =
    refused_by journals asked sources source line kind answer is refused
    (subst (λ (all : List (List ℕ)). IsAnswerTo journals asked all answer) (same_sources others sources a) h)

-- by what the command refuses
refused_for : (journals : Journals) (command : Command) (sources : List (List ℕ)) (line : ℕ) (kind : Kind) → Refuses command sources line kind
    → (answer : Answer) → Cases journals (request_of command) (AllThere sources) answer → Only (Refused line kind) answer.status
refused_for journals (Run name lanes budget) sources line kind h answer c =
    refused_case journals (request_of (Run name lanes budget)) sources h.0 line kind h.1 h.2 answer c

pub exact_refused : (journals : Journals) (words : List (List ℕ)) (before after : Devices) (status : Status)
    → Answered journals words before after status → ExactRefused words before.folder.content status
exact_refused journals words before after status h sources line kind finds =
    by_finding (Only (Refused line kind)) journals words before after status finds.0 (AllThere sources) finds.1 finds.2
    (all_agree before.folder.content (wanted_of (request_of finds.0)) sources finds.3.0) (hidden (Refused line kind))
    (refused_for journals finds.0 sources line kind finds.3.1) h

abbrev Reports : Status → Type 0
Reports status = IsReported status ⊎ Hides status

report_by : (journals : Journals) (asked : Request) (sources : List (List ℕ)) (source : List ℕ) (tree : Tree) (answer : Answer)
    → First asked sources source → IsAccepted source tree → IsAnswerTo journals asked sources answer → Reports answer.status
report_by journals asked sources source tree answer is accepted (refusal at what r) =
    let first : source ≡ r.source = inside source r.source (sym is ∙ r.source_is) in
    absurd (r.only.never tree (subst (λ (s : List ℕ). IsAccepted s tree) first accepted))
report_by journals asked sources source tree answer is accepted (report r) = inl r.so_far

report_case : (journals : Journals) (asked : Request) (sources : List (List ℕ)) (source : List ℕ) (tree : Tree)
    → First asked sources source → IsAccepted source tree
    → (answer : Answer) → Cases journals asked (AllThere sources) answer → Reports answer.status
report_case journals asked sources source tree is accepted answer (absent other e a) = absurd cc
report_case journals asked sources source tree is accepted answer (too_long other e a) = absurd cc
report_case journals asked sources source tree is accepted answer (failed other e) = inr (inr (inl (other, e)))
report_case journals asked sources source tree is accepted answer (read others a h) =
    report_by journals asked sources source tree answer is accepted
    (subst (λ (all : List (List ℕ)). IsAnswerTo journals asked all answer) (same_sources others sources a) h)

-- by what the command accepts
report_for : (journals : Journals) (command : Command) (sources : List (List ℕ)) → Accepts command sources
    → (answer : Answer) → Cases journals (request_of command) (AllThere sources) answer → Reports answer.status
report_for journals (Run name lanes budget) sources h answer c =
    report_case journals (request_of (Run name lanes budget)) sources h.0 h.1 h.2 h.3 answer c

pub exact_report : (journals : Journals) (words : List (List ℕ)) (before after : Devices) (status : Status)
    → Answered journals words before after status → ExactReport words before.folder.content status
exact_report journals words before after status h sources finds =
    by_finding Reports journals words before after status finds.0 (AllThere sources) finds.1 finds.2
    (all_agree before.folder.content (wanted_of (request_of finds.0)) sources finds.3.0) (λ s hides. inr hides)
    (report_for journals finds.0 sources finds.3.1) h
