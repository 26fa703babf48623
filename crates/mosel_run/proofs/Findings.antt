-- What is known of the wanted files beforehand agrees with how they are read.

use Rattle.std.proofs.Common.{◌≡◌, ◌≢◌, ◌≤◌, ◌<◌, ℕ, Bool, true, false, List, [], ◌∷◌, length, Option, refl, sym, ap, subst, inl, inr, arith}
use Rattle.std.specs.Prelude.{nat_le, if◌then◌else◌}
use Rattle.std.proofs.lemmas.Bool.Decides.{nat_tests}
use Rattle.mos_text.specs.Content.{Files, Known, Unknown, Absent, Holds, known_of}
use Rattle.mos_text.specs.Gets.{Answers}
use Rattle.mos_text.specs.declared.folder.Got.TheVariants.{Bytes, Missing as NotThere, TooLarge as TooLong}
use Rattle.mosel_run.specs.declared.wanted.Wanted.{Wanted}
use Rattle.mosel_run.proofs.Finding.{Finding, AllThere, FirstAbsent, FirstTooLong, NotKnown, behind, found_with, finding_of}
use Rattle.mosel_run.specs.Wanted.{AreKnown, AreRead, IsUnread}

-- the finding is this one, or nothing is known
abbrev pub Agrees : Finding → Finding → Type 0
Agrees expected NotKnown = Unit {0}
Agrees expected (AllThere sources) = expected ≡ AllThere sources
Agrees expected (FirstAbsent name) = expected ≡ FirstAbsent name
Agrees expected (FirstTooLong name) = expected ≡ FirstTooLong name

-- some file cannot be had
abbrev IsLack : Finding → Type 0
IsLack (FirstAbsent name) = Unit {0}
IsLack (FirstTooLong name) = Unit {0}
IsLack (AllThere sources) = ⊥
IsLack NotKnown = ⊥

fits : (bytes : List ℕ) (limit : ℕ) → length bytes ≤ limit → nat_le (length bytes) limit ≡ true
fits bytes limit h = grind (arith, nat_tests, h)

exceeds : (bytes : List ℕ) (limit : ℕ) → limit < length bytes → nat_le (length bytes) limit ≡ false
exceeds bytes limit h = grind (arith, nat_tests, h)

behind_all : (bytes held : List ℕ) (sources : List (List ℕ)) (others : Finding) → bytes ≡ held → Agrees (AllThere sources) others
    → Agrees (AllThere (bytes ∷ sources)) (behind held others)
behind_all bytes held sources (AllThere rest) same h = cc
behind_all bytes held sources (FirstAbsent name) same h = absurd cc
behind_all bytes held sources (FirstTooLong name) same h = absurd cc
behind_all bytes held sources NotKnown same h = tt

behind_lack : (held : List ℕ) (expected others : Finding) → IsLack expected → Agrees expected others → Agrees expected (behind held others)
behind_lack held expected (AllThere rest) lack h = absurd (subst IsLack h lack)
behind_lack held expected (FirstAbsent name) lack h = h
behind_lack held expected (FirstTooLong name) lack h = h
behind_lack held expected NotKnown lack h = tt

found_all : (file : Wanted) (known : Known) (bytes : List ℕ) (sources : List (List ℕ)) (others : Finding)
    → Answers known file.limit (Bytes bytes) → Agrees (AllThere sources) others → Agrees (AllThere (bytes ∷ sources)) (found_with file known others)
found_all file Unknown bytes sources others given h = tt
found_all file Absent bytes sources others given h = absurd given
found_all file (Holds held) bytes sources others given h =
    subst (λ (b : Bool). Agrees (AllThere (bytes ∷ sources)) (if b then behind held others else FirstTooLong file.name)) (sym (fits held file.limit given.1))
    (behind_all bytes held sources others given.0 h)

found_lack : (file : Wanted) (known : Known) (bytes : List ℕ) (expected others : Finding) → IsLack expected
    → Answers known file.limit (Bytes bytes) → Agrees expected others → Agrees expected (found_with file known others)
found_lack file Unknown bytes expected others lack given h = tt
found_lack file Absent bytes expected others lack given h = absurd given
found_lack file (Holds held) bytes expected others lack given h =
    subst (λ (b : Bool). Agrees expected (if b then behind held others else FirstTooLong file.name)) (sym (fits held file.limit given.1))
    (behind_lack held expected others lack h)

found_absent : (file : Wanted) (known : Known) (name : List ℕ) (others : Finding) → file.name ≡ name → Answers known file.limit NotThere
    → Agrees (FirstAbsent name) (found_with file known others)
found_absent file Unknown name others same given = tt
found_absent file Absent name others same given = ap FirstAbsent (sym same)
found_absent file (Holds held) name others same given = absurd given

found_too_long : (file : Wanted) (known : Known) (name : List ℕ) (others : Finding) → file.name ≡ name → Answers known file.limit TooLong
    → Agrees (FirstTooLong name) (found_with file known others)
found_too_long file Unknown name others same given = tt
found_too_long file Absent name others same given = absurd given
found_too_long file (Holds held) name others same given =
    subst (λ (b : Bool). Agrees (FirstTooLong name) (if b then behind held others else FirstTooLong file.name)) (sym (exceeds held file.limit given))
    (ap FirstTooLong (sym same))

pub all_agree : (content : Option Files) (wanted : List Wanted) (sources : List (List ℕ)) → AreRead content wanted sources
    → Agrees (AllThere sources) (finding_of content wanted)
all_agree content [] [] h = refl
all_agree content [] (bytes ∷ sources) h = absurd h
all_agree content (file ∷ files) [] h = absurd h
all_agree content (file ∷ files) (bytes ∷ sources) h =
    found_all file (known_of content file.name) bytes sources (finding_of content files) h.0 (all_agree content files sources h.1)

pub absent_agrees : (content : Option Files) (wanted : List Wanted) (name : List ℕ) → IsUnread content wanted name NotThere
    → Agrees (FirstAbsent name) (finding_of content wanted)
absent_agrees content [] name h = absurd h
absent_agrees content (file ∷ files) name (inl h) = found_absent file (known_of content file.name) name (finding_of content files) h.0 h.1
absent_agrees content (file ∷ files) name (inr h) =
    found_lack file (known_of content file.name) h.0.0 (FirstAbsent name) (finding_of content files) tt h.0.1 (absent_agrees content files name h.1)

pub too_long_agrees : (content : Option Files) (wanted : List Wanted) (name : List ℕ) → IsUnread content wanted name TooLong
    → Agrees (FirstTooLong name) (finding_of content wanted)
too_long_agrees content [] name h = absurd h
too_long_agrees content (file ∷ files) name (inl h) = found_too_long file (known_of content file.name) name (finding_of content files) h.0 h.1
too_long_agrees content (file ∷ files) name (inr h) =
    found_lack file (known_of content file.name) h.0.0 (FirstTooLong name) (finding_of content files) tt h.0.1 (too_long_agrees content files name h.1)

-- where all is known up to the first that cannot be had, the finding is the one that agrees
known_behind : (held : List ℕ) (others : Finding) → others ≢ NotKnown → behind held others ≢ NotKnown
known_behind held (AllThere rest) h = λ e. cc
known_behind held (FirstAbsent name) h = λ e. cc
known_behind held (FirstTooLong name) h = λ e. cc
known_behind held NotKnown h = h

known_with : (file : Wanted) (known : Known) (others : Finding) → known ≢ Unknown
    → (((bytes : List ℕ) × Answers known file.limit (Bytes bytes)) → others ≢ NotKnown) → found_with file known others ≢ NotKnown
known_with file Unknown others k h = absurd (k refl)
known_with file Absent others k h = λ e. cc
known_with file (Holds held) others k h = tested (nat_le (length held) file.limit) refl
  where
    tested : (fit : Bool) → nat_le (length held) file.limit ≡ fit → (if fit then behind held others else FirstTooLong file.name) ≢ NotKnown
    tested true e = let within : length held ≤ file.limit = grind (arith, nat_tests, e) in known_behind held others (h (held, (refl, within)))
    tested false e = λ q. cc

known_finding : (content : Option Files) (wanted : List Wanted) → AreKnown content wanted → finding_of content wanted ≢ NotKnown
known_finding content [] h = λ e. cc
known_finding content (file ∷ files) h =
    known_with file (known_of content file.name) (finding_of content files) h.0 (λ given. known_finding content files (h.1 given))

agreed : (expected found : Finding) → found ≢ NotKnown → Agrees expected found → found ≡ expected
agreed expected (AllThere sources) known h = sym h
agreed expected (FirstAbsent name) known h = sym h
agreed expected (FirstTooLong name) known h = sym h
agreed expected NotKnown known h = absurd (known refl)

pub finding_is : (content : Option Files) (wanted : List Wanted) (expected : Finding) → AreKnown content wanted
    → Agrees expected (finding_of content wanted) → finding_of content wanted ≡ expected
finding_is content wanted expected known h = agreed expected (finding_of content wanted) (known_finding content wanted known) h
