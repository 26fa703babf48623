-- How deeds are done, one after the other.

use Rattle.std.proofs.Common.{◌≡◌, ◌≤◌, ℕ, zero, suc, ◌+◌, List, [], ◌∷◌, ◌++◌, take, drop, Option, Some, refl, sym, ap, ◌∙◌, subst, arith}
use Rattle.std.specs.Prelude.{slice_get}
use Rattle.mos_text.specs.Content.{Files, put_file, lose_file, SameElsewhere}
use Rattle.mos_text.specs.Faults.{Rose}
use Rattle.mos_text.specs.SinkBytes.{bytes_after, AppendedPart}
use Rattle.mos_text.specs.declared.folder.Stored.{Stored}
use Rattle.mos_text.specs.declared.folder.Stored.TheVariants as stored
use Rattle.mos_text.specs.declared.sink.Written.{Written}
use Rattle.mos_text.specs.declared.sink.Written.TheVariants as written
use Rattle.mosel_run.specs.declared.answer.Put.{Put}
use Rattle.mosel_run.specs.declared.answer.Answer.{Answer}
use Rattle.mosel_run.specs.declared.answer.Deed.{Deed}
use Rattle.mosel_run.specs.declared.answer.Deed.TheVariants.{Write, Store}
use Rattle.mosel_run.specs.declared.deliver.Cause.{Cause}
use Rattle.mosel_run.specs.declared.deliver.Cause.TheVariants.{SinkFault, FolderFault, NoMemory}
use Rattle.mosel_run.specs.declared.status.Status.{Status}
use Rattle.mosel_run.specs.Delivered.{Delivered, broken, Broke, unwritten, unput, no_memory_to_write, no_memory_to_put}
use Rattle.mosel_run.specs.Doing.{CanBreak, IsStatusBy, LeftBy, StopsAt, IsDone, IsWritten, IsStored}
use Rattle.mosel_run.specs.States.{Devices, Held, held_of, held_by, held_after, states}

-- the deeds before a place, and the one there
split_at : (deeds : List Deed) (place : ℕ) (deed : Deed) → slice_get deeds place ≡ Some deed → deeds ≡ take place deeds ++ deed ∷ drop (suc place) deeds
split_at [] zero deed e = cc
split_at [] (suc place) deed e = cc
split_at (first ∷ rest) zero deed e = let same : first ≡ deed = cc in ap (λ d. d ∷ rest) same
split_at (first ∷ rest) (suc place) deed e = ap (λ ds. first ∷ ds) (split_at rest place deed e)

-- one deed more is done
next_deed : (held : Held) (deeds : List Deed) (place : ℕ) (deed : Deed) → slice_get deeds place ≡ Some deed
    → held_after held (take (suc place) deeds) ≡ held_by (held_after held (take place deeds)) deed
next_deed held [] zero deed e = cc
next_deed held [] (suc place) deed e = cc
next_deed held (first ∷ rest) zero deed e = let same : first ≡ deed = cc in ap (held_by held) same
next_deed held (first ∷ rest) (suc place) deed e = next_deed (held_by held first) rest place deed e

pub one_more : (held : Held) (deeds : List Deed) (place : ℕ) (deed : Deed) → slice_get deeds place ≡ Some deed
    → held_after held (take (place + 1) deeds) ≡ held_by (held_after held (take place deeds)) deed
one_more held deeds place deed e =
    let next : place + 1 ≡ suc place = omega arith in
    ap (λ n. held_after held (take n deeds)) next ∙ next_deed held deeds place deed e

-- what the devices hold, by what each holds
pub same_held : (content other : Option Files) (bytes more : Option (List ℕ)) → content ≡ other → bytes ≡ more
    → (let held : Held = record { content = content; bytes = bytes } in held) ≡ record { content = other; bytes = more }
same_held content other bytes more e f =
    ap (λ c. let held : Held = record { content = c; bytes = bytes } in held) e ∙ ap (λ b. let held : Held = record { content = other; bytes = b } in held) f

-- what is left does not depend on how often the devices failed before
pub left_earlier : (content other : Option Files) (bytes more : Option (List ℕ)) (f g s t : ℕ) (after : Devices) (held : Held) (deed : Deed) (cause : Cause) → f ≤ g → s ≤ t
    → LeftBy (states content g bytes t) after held deed cause → LeftBy (states other f more s) after held deed cause
left_earlier content other bytes more f g s t after held (Write text) SinkFault h k l = (l.0, (let rose = l.1 in omega (arith, rose)))
left_earlier content other bytes more f g s t after held (Write text) FolderFault h k l = absurd l
left_earlier content other bytes more f g s t after held (Write text) NoMemory h k l = l
left_earlier content other bytes more f g s t after held (Store put) SinkFault h k l = absurd l
left_earlier content other bytes more f g s t after held (Store put) FolderFault h k l = (l.0, l.1, (let rose = l.2 in omega (arith, rose)))
left_earlier content other bytes more f g s t after held (Store put) NoMemory h k l = l

-- it is for a cause that the deed can have
pub can_break : (before after : Devices) (held : Held) (deed : Deed) (cause : Cause) → LeftBy before after held deed cause → CanBreak deed cause
can_break before after held (Write text) SinkFault l = tt
can_break before after held (Write text) FolderFault l = absurd l
can_break before after held (Write text) NoMemory l = tt
can_break before after held (Store put) SinkFault l = absurd l
can_break before after held (Store put) FolderFault l = tt
can_break before after held (Store put) NoMemory l = tt

-- and the status says it
broke : (before after : Devices) (held : Held) (deed : Deed) (cause : Cause) (status : Status) → IsStatusBy deed cause status
    → LeftBy before after held deed cause → Broke before after held deed status
broke before after held (Write text) SinkFault status is l = subst (Broke before after held (Write text)) (sym is) (unwritten text l.0 l.1)
broke before after held (Write text) FolderFault status is l = absurd l
broke before after held (Write text) NoMemory status is l = subst (Broke before after held (Write text)) (sym is) (no_memory_to_write text l)
broke before after held (Store put) SinkFault status is l = absurd l
broke before after held (Store put) FolderFault status is l = subst (Broke before after held (Store put)) (sym is) (unput put l.0 l.1 l.2)
broke before after held (Store put) NoMemory status is l = subst (Broke before after held (Store put)) (sym is) (no_memory_to_put put l.0 l.1)

-- the deed at the place is the one where the deeds stopped
same_deed : (deeds : List Deed) (before after : Devices) (place : ℕ) (cause : Cause) (deed : Deed) (stops : StopsAt deeds before after place cause)
    → slice_get deeds place ≡ Some deed → stops.deed ≡ deed
same_deed deeds before after place cause deed stops is = let e : Some stops.deed ≡ Some deed = sym stops.deed_is ∙ is in cc

pub left_there : (deeds : List Deed) (before after : Devices) (place : ℕ) (cause : Cause) (deed : Deed) → StopsAt deeds before after place cause
    → slice_get deeds place ≡ Some deed → LeftBy before after (held_after (held_of before) (take place deeds)) deed cause
left_there deeds before after place cause deed stops is =
    subst (λ (d : Deed). LeftBy before after (held_after (held_of before) (take place deeds)) d cause) (same_deed deeds before after place cause deed stops is) stops.left

pub stopped : (answer : Answer) (before after : Devices) (place : ℕ) (cause : Cause) (deed : Deed) (status : Status)
    → StopsAt answer.deeds before after place cause → slice_get answer.deeds place ≡ Some deed → IsStatusBy deed cause status
    → Delivered answer before after status
stopped answer before after place cause deed status stops is by =
    broken status (take place answer.deeds) (drop (suc place) answer.deeds) deed (split_at answer.deeds place deed is)
    (broke before after _ deed cause status by (left_there answer.deeds before after place cause deed stops is))

-- how a text was written says how its deed was done
pub written_so : (before after : Devices) (text : List ℕ) (how : Written) (cause : Option Cause) → IsWritten how cause
    → (how ≡ written.Whole → after.sink.bytes ≡ bytes_after before.sink.bytes text)
    → AppendedPart before.sink.bytes after.sink.bytes text
    → (how ≡ written.Failed → Rose before.sink.faults after.sink.faults)
    → after.folder.content ≡ before.folder.content → IsDone (Write text) before after cause
written_so before after text written.Whole cause is whole part failed same =
    subst (IsDone (Write text) before after) (sym is) (same_held after.folder.content before.folder.content after.sink.bytes (bytes_after before.sink.bytes text) same (whole refl))
written_so before after text written.Failed cause is whole part failed same =
    subst (IsDone (Write text) before after) (sym is) (record { part = part; same_files = same }, failed refl)
written_so before after text written.NoMemory cause is whole part failed same =
    subst (IsDone (Write text) before after) (sym is) (record { part = part; same_files = same })

-- how a file was put says how its deed was done
pub stored_so : (before after : Devices) (put : Put) (how : Stored) (cause : Option Cause) → IsStored how cause
    → (how ≡ stored.Done → after.folder.content ≡ put_file before.folder.content put.name put.bytes)
    → (how ≡ stored.Failed → after.folder.content ≡ lose_file before.folder.content put.name)
    → SameElsewhere put.name before.folder.content after.folder.content
    → (how ≡ stored.Failed → Rose before.folder.faults after.folder.faults)
    → after.sink.bytes ≡ before.sink.bytes → IsDone (Store put) before after cause
stored_so before after put stored.Done cause is done lost others failed same =
    subst (IsDone (Store put) before after) (sym is) (same_held after.folder.content (put_file before.folder.content put.name put.bytes) after.sink.bytes before.sink.bytes (done refl) same)
stored_so before after put stored.Failed cause is done lost others failed same =
    subst (IsDone (Store put) before after) (sym is) (lost refl, same, failed refl)
stored_so before after put stored.NoMemory cause is done lost others failed same =
    subst (IsDone (Store put) before after) (sym is) (others, same)
