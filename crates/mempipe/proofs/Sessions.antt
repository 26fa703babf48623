-- The sessions of a pipe, with one entry more.

use Rattle.std.proofs.Common.{◌≡◌, ◌<◌, ◌≤◌, ℕ, Bool, true, false, not, ◌&&◌, ◌||◌, List, [], ◌∷◌, ◌++◌, Option, Some, None, refl, sym, ap, ◌∙◌, length, arith}
use Rattle.std.specs.Prelude.{is_some, if◌then◌else◌}
use Rattle.std.specs.List.{list_any}
use Rattle.job_calls.specs.declared.call.Call.{Call}
use Rattle.job_calls.specs.declared.call.Call.TheVariants.{PipeOpen}
use Rattle.job_calls.specs.declared.call.Way.TheVariants.{Reads, Writes}
use Rattle.job_calls.specs.declared.reply.Reply.{Reply}
use Rattle.job_calls.specs.declared.reply.Reply.TheVariants.{Session}
use Rattle.job_calls.specs.declared.entry.Entry.{Entry}
use Rattle.job_calls.specs.Runs.{last_of}
use Rattle.job_calls.specs.Pipes.{opened_session, opens, session, writers_session, had_writer, is_session}
use Rattle.growing_lists.specs.Growing.{last_given-snoc, last_place-snoc, any-snoc}
use Rattle.mempipe.specs.States.{joins}
use Rattle.mempipe.proofs.Places.{place_below, longer, apart}
use Rattle.mempipe.proofs.Answered.{IsFree, false_true}

pub session-snoc : (name : List ℕ) (journal : List Entry) (e : Entry)
    → session name (journal ++ e ∷ []) ≡ (if opens Reads name e then Some (length journal) else session name journal)
session-snoc name journal e = last_place-snoc (opens Reads name) journal e

pub joined-snoc : (name : List ℕ) (journal : List Entry) (e : Entry)
    → writers_session name (journal ++ e ∷ []) ≡ last_of (writers_session name journal) (opened_session Writes name e.call e.reply)
joined-snoc name journal e = last_given-snoc (λ (x : Entry). opened_session Writes name x.call x.reply) journal e

-- some writer joined the session
abbrev pub was_joined : List ℕ → Option ℕ → List Entry → Bool
was_joined name place journal = list_any (λ e. is_session place (opened_session Writes name e.call e.reply)) journal

joined_any : (name : List ℕ) (place : Option ℕ) (journal : List Entry) (e : Entry)
    → was_joined name place (journal ++ e ∷ []) ≡ (was_joined name place journal || joins place name e)
joined_any name place journal e = any-snoc (λ (x : Entry). is_session place (opened_session Writes name x.call x.reply)) journal e

-- who opens a pipe to read does not open it to write
reader_only : (name : List ℕ) (call : Call) (reply : Reply) → is_some (opened_session Reads name call reply) ≡ true → opened_session Writes name call reply ≡ None
reader_only name (PipeOpen other Reads) (Session place) e = refl
reader_only name (PipeOpen other Writes) (Session place) e = absurd (false_true e)
reader_only name (PipeOpen other end) reply e = refl
reader_only name call reply e = refl

had_by : (name : List ℕ) (journal : List Entry) (e : Entry) (b : Bool) → opens Reads name e ≡ b
    → was_joined name (Some (length journal)) journal ≡ false
    → was_joined name (if b then Some (length journal) else session name journal) (journal ++ e ∷ [])
    ≡ (not b && (had_writer name journal || joins (session name journal) name e))
had_by name journal e true is later =
    joined_any name (Some (length journal)) journal e
    ∙ ap (λ b. b || joins (Some (length journal)) name e) later
    ∙ ap (is_session (Some (length journal))) (reader_only name e.call e.reply is)
had_by name journal e false is later = joined_any name (session name journal) journal e

-- whether the last session had its writer
pub had_noted : (name : List ℕ) (journal : List Entry) (e : Entry) (had : Bool) (place : Option ℕ) → was_joined name (Some (length journal)) journal ≡ false
    → had ≡ had_writer name journal → place ≡ session name journal
    → (not (opens Reads name e) && (had || joins place name e)) ≡ had_writer name (journal ++ e ∷ [])
had_noted name journal e had place later is at =
    ap (λ b. not (opens Reads name e) && (b || joins place name e)) is
    ∙ ap (λ o. not (opens Reads name e) && (had_writer name journal || joins o name e)) at
    ∙ sym (ap (λ o. was_joined name o (journal ++ e ∷ [])) (session-snoc name journal e) ∙ had_by name journal e (opens Reads name e) refl later)

not_joined : (name : List ℕ) (journal : List Entry) (place : ℕ) (o : Option ℕ) → length journal < place → ((p : ℕ) → o ≡ Some p → IsFree Writes name journal p)
    → is_session (Some place) o ≡ false
not_joined name journal place None less free = refl
not_joined name journal place (Some p) less free =
    let below = place_below (opens Reads name) journal p (free p refl).1 in apart place p (omega (arith, below, less))

-- nobody joined a session that has not begun
pub later_noted : (name : List ℕ) (journal : List Entry) (e : Entry) (place : ℕ) → length (journal ++ e ∷ []) ≤ place
    → ((p : ℕ) → opened_session Writes name e.call e.reply ≡ Some p → IsFree Writes name journal p)
    → ((q : ℕ) → length journal ≤ q → was_joined name (Some q) journal ≡ false) → was_joined name (Some place) (journal ++ e ∷ []) ≡ false
later_noted name journal e place less free later =
    let more = longer journal e in
    joined_any name (Some place) journal e
    ∙ ap (λ b. b || joins (Some place) name e) (later place (omega (arith, more, less)))
    ∙ not_joined name journal place (opened_session Writes name e.call e.reply) (omega (arith, more, less)) free
