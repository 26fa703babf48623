-- How wanted files are read, one after the other.

use Rattle.std.proofs.Common.{◌≤◌, ℕ, List, [], ◌∷◌, ◌++◌, length, Option, refl, sym, subst, append_assoc, append-nil, inl, inr}
use Rattle.mos_text.specs.Content.{Files, Known, Unknown, Absent, Holds, known_of}
use Rattle.mos_text.specs.Gets.{Answers}
use Rattle.mos_text.specs.declared.folder.Got.{Got}
use Rattle.mos_text.specs.declared.folder.Got.TheVariants.{Bytes}
use Rattle.mosel_run.specs.declared.wanted.Wanted.{Wanted}
use Rattle.mosel_run.specs.declared.answer.Answer.{Answer}
use Rattle.mosel_run.specs.declared.wanted.Lack.{Lack}
use Rattle.mosel_run.specs.declared.wanted.Lack.TheVariants.{Missing, TooLarge, Failed}
use Rattle.mosel_run.specs.Answers.{IsUnreadAnswer}
use Rattle.mosel_run.specs.Making.{IsOneSource}
use Rattle.mosel_run.specs.Reading.{got_of, CountRose, AnswersLack}
use Rattle.mosel_run.specs.States.{FolderState}
use Rattle.mosel_run.specs.Wanted.{AreRead, IsUnread}

-- the files from here on, with what was read of those before them
abbrev pub ReadsOn : Option Files → List Wanted → List Wanted → List (List ℕ) → Type 0
ReadsOn content wanted left sources = (rest : List (List ℕ)) → AreRead content left rest → AreRead content wanted (sources ++ rest)

abbrev pub StopsOn : Option Files → List Wanted → List Wanted → Type 0
StopsOn content wanted left = (name : List ℕ) (got : Got) → IsUnread content left name got → IsUnread content wanted name got

-- one file more is read
pub read_one : (content : Option Files) (wanted left : List Wanted) (file : Wanted) (sources : List (List ℕ)) (bytes : List ℕ)
    → ReadsOn content wanted (file ∷ left) sources → Answers (known_of content file.name) file.limit (Bytes bytes)
    → ReadsOn content wanted left (sources ++ bytes ∷ [])
read_one content wanted left file sources bytes so given rest h =
    subst (AreRead content wanted) (sym (append_assoc sources (bytes ∷ []) rest)) (so (bytes ∷ rest) (given, h))

pub passed_one : (content : Option Files) (wanted left : List Wanted) (file : Wanted) (bytes : List ℕ)
    → StopsOn content wanted (file ∷ left) → Answers (known_of content file.name) file.limit (Bytes bytes)
    → StopsOn content wanted left
passed_one content wanted left file bytes so given name got h = so name got (inr ((bytes, given), h))

-- this one is the first that is not given
pub stops_here : (content : Option Files) (wanted left : List Wanted) (file : Wanted) (got : Got)
    → StopsOn content wanted (file ∷ left) → Answers (known_of content file.name) file.limit got
    → IsUnread content wanted file.name got
stops_here content wanted left file got so given = so file.name got (inl (refl, given))

-- all were read
pub read_whole : (content : Option Files) (wanted : List Wanted) (sources : List (List ℕ)) → ReadsOn content wanted [] sources
    → AreRead content wanted sources
read_whole content wanted sources so = subst (AreRead content wanted) (append-nil sources) (so [] tt)

-- what the folder gives is in size
in_size : (known : Known) (limit : ℕ) (bytes : List ℕ) → Answers known limit (Bytes bytes) → length bytes ≤ limit
in_size Unknown limit bytes h = h
in_size Absent limit bytes h = absurd h
in_size (Holds held) limit bytes h = subst (λ (all : List ℕ). length all ≤ limit) (sym h.0) h.1

-- one file is wanted, and so one is read
pub one_source : (content : Option Files) (name : List ℕ) (sources : List (List ℕ))
    → AreRead content (record { name = name; limit = 1048576 } ∷ []) sources → IsOneSource sources
one_source content name [] h = absurd h
one_source content name (bytes ∷ []) h = (in_size (known_of content name) 1048576 bytes h.0, refl)
one_source content name (bytes ∷ more ∷ rest) h = absurd h.1

-- the line of a file that was not given is the answer to it
pub lack_answer : (before after : FolderState) (name : List ℕ) (lack : Lack) (answer : Answer) → CountRose before after lack
    → AnswersLack name lack answer → IsUnreadAnswer before after name (got_of lack) answer
lack_answer before after name Missing answer rose h = h
lack_answer before after name TooLarge answer rose h = h
lack_answer before after name Failed answer rose h = (h, rose)
