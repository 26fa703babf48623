-- The last write under a name, and what was put into a pipe and taken out of it.

use Rattle.std.proofs.Common.{◌≡◌, ◌<◌, ℕ, ◌+◌, Bool, true, false, ◌||◌, List, [], ◌∷◌, ◌++◌, Option, Some, None, refl, sym, ap, ◌∙◌, subst, length, length-append, drop, arith, append_assoc, append-nil}
use Rattle.std.specs.Prelude.{slice_get, option_map, option_and_then, if◌then◌else◌}
use Rattle.std.specs.Option.{option_map_or}
use Rattle.std.specs.List.{list_any, enumerate_from}
use Rattle.std.specs.Str.{bytes_eq}
use Rattle.std.proofs.Math.Seq.{drop-append_seam, drop-append-add}
use Rattle.std.proofs.lemmas.List.{drop-append-le}
use Rattle.std.proofs.lemmas.Grind.{flat_map-append}
use Rattle.std.proofs.lemmas.Slice.Eq.{bytes_eq-Decides}
use Rattle.job_calls.specs.declared.call.Call.{Call}
use Rattle.job_calls.specs.declared.call.Call.TheVariants.{Write, PipeTake}
use Rattle.job_calls.specs.declared.call.Way.TheVariants.{Reads}
use Rattle.job_calls.specs.declared.reply.Reply.{Reply}
use Rattle.job_calls.specs.declared.reply.Reply.TheVariants.{Opened, Bytes, Unit as UnitReply}
use Rattle.job_calls.specs.declared.entry.Entry.{Entry}
use Rattle.job_calls.specs.Runs.{last_of, last_given, opening_of}
use Rattle.job_calls.specs.Blocks.{WrittenBytes, writes, last_write, bytes_written, written_at, last_written}
use Rattle.job_calls.specs.Pipes.{opens, session, in_session, put_by, taken_by, put_in, taken_in, untaken_bytes}
use Rattle.job_calls.specs.Legal.{IsLegal, OpensSo}
use Rattle.job_laws.specs.Truth.{IsLastWrite}
use Rattle.job_laws.proofs.Growing.{legal_induct}
use Rattle.job_laws.proofs.Lists.{none_some, some_is, last_given-snoc, enumerate-snoc, get_behind}
use Rattle.job_laws.proofs.Outcomes as outcome
use Rattle.job_laws.proofs.Outcomes.{Outcome, run_outcome, is_idle, false_true}
use Rattle.job_laws.proofs.Entering as enter
use Rattle.job_laws.proofs.Entering.{Entering, entering}

-- the place of the last that passes, counted from n
abbrev last_from : (Entry → Bool) → ℕ → List Entry → Option ℕ
last_from test n xs = last_given (λ p. if test p.1 then Some p.0 else None) (enumerate_from n xs)

-- a list cut at the last that passes
pub record LastCut (test : Entry → Bool) (n place : ℕ) (xs : List Entry) : Type 0 where
  pub before : List Entry
  pub at : Entry
  pub after : List Entry
  pub cut : xs ≡ before ++ at ∷ after
  pub place_is : n + length before ≡ place
  pub passes : test at ≡ true
  pub last : list_any test after ≡ false

later_is_none : {A : Type 0} (a b : Option A) → last_of a b ≡ None → (a ≡ None) × (b ≡ None)
later_is_none a None e = (e, refl)
later_is_none a (Some x) e = none_some x (sym e)

if_none : (b : Bool) (n : ℕ) → (if b then Some n else None) ≡ None → b ≡ false
if_none true n e = none_some n (sym e)
if_none false n e = refl

none_passes : (test : Entry → Bool) (n : ℕ) (xs : List Entry) → last_from test n xs ≡ None → list_any test xs ≡ false
none_passes test n [] e = refl
none_passes test n (x ∷ xs) e =
    let both = later_is_none (if test x then Some n else None) (last_from test (n + 1) xs) e in
    ap (λ b. b || list_any test xs) (if_none (test x) n both.0) ∙ none_passes test (n + 1) xs both.1

if_some : (b : Bool) (n place : ℕ) → (if b then Some n else None) ≡ Some place → (b ≡ true) × (n ≡ place)
if_some true n place e = (refl, some_is n place e)
if_some false n place e = none_some place e

cut_by : (test : Entry → Bool) (n place : ℕ) (x : Entry) (xs : List Entry) (rest : Option ℕ) → last_from test (n + 1) xs ≡ rest
    → ((p : ℕ) → last_from test (n + 1) xs ≡ Some p → LastCut test (n + 1) p xs)
    → last_of (if test x then Some n else None) rest ≡ Some place → LastCut test n place (x ∷ xs)
cut_by test n place x xs None r go e =
    let here = if_some (test x) n place e in
    record {
      before = [];
      at = x;
      after = xs;
      cut = refl;
      place_is = (let q = here.1 in omega (arith, q));
      passes = here.0;
      last = none_passes test (n + 1) xs r;
    }
cut_by test n place x xs (Some p) r go e =
    let c = go p r in
    let same = some_is p place e in
    let at = c.place_is in
    record {
      before = x ∷ c.before;
      at = c.at;
      after = c.after;
      cut = ap (λ ys. x ∷ ys) c.cut;
      place_is = omega (arith, same, at);
      passes = c.passes;
      last = c.last;
    }

last_cut : (test : Entry → Bool) (n place : ℕ) (xs : List Entry) → last_from test n xs ≡ Some place → LastCut test n place xs
last_cut test n place [] e = none_some place e
last_cut test n place (x ∷ xs) e = cut_by test n place x xs (last_from test (n + 1) xs) refl (λ p q. last_cut test (n + 1) p xs q) e

wrote_by : (name : List ℕ) (call : Call) (reply : Reply) → writes name call reply ≡ true → (bytes : List ℕ) × (call ≡ Write name bytes) × (reply ≡ UnitReply)
wrote_by name (Write other bytes) UnitReply e = (bytes, ap (λ n. Write n bytes) ((bytes_eq-Decides other name).0 e), refl)
wrote_by name (Write other bytes) reply e = absurd (false_true e)
wrote_by name call reply e = absurd (false_true e)

-- the first entry of a legal journal writes nothing
not_first : (before : List Entry) (e : Entry) (after : List Entry) (name bytes : List ℕ) → IsLegal (before ++ e ∷ after)
    → e.call ≡ Write name bytes → 0 < length before
not_first [] e after name bytes h q = let o = h.0 in absurd (subst (λ call. OpensSo (opening_of call)) q o.opened)
not_first (x ∷ xs) e after name bytes h q = omega arith

-- the last write
write_at : (log : List Entry) (name : List ℕ) (place : ℕ) → IsLegal log → last_write name log ≡ Some place
    → (bytes : List ℕ) × (written_at place log ≡ Some record { place = place; bytes = bytes }) × IsLastWrite log name place bytes
write_at log name place h q =
    let c = last_cut (λ e. writes name e.call e.reply) 0 place log q in
    let w = wrote_by name c.at.call c.at.reply c.passes in
    let at : length c.before ≡ place = let p = c.place_is in omega (arith, p) in
    let first = not_first c.before c.at c.after name w.0 (subst IsLegal c.cut h) w.1 in
    let stands : slice_get log place ≡ Some c.at =
    ap (λ xs. slice_get xs place) c.cut ∙ ap (slice_get (c.before ++ c.at ∷ c.after)) (sym at) ∙ get_behind c.before c.at c.after in (
      w.0,
      ap (λ o. option_map (λ bytes. record { place = place; bytes = bytes }) (option_and_then (λ (e : Entry). bytes_written e.call) o)) stands
          ∙ ap (λ call. option_map (λ bytes. record { place = place; bytes = bytes }) (bytes_written call)) w.1,
      record {
        before = c.before;
        write = c.at;
        after = c.after;
        cut = c.cut;
        place_is = at;
        some = omega (arith, first, at);
        wrote = w.1;
        accepted = w.2;
        last = c.last;
      },
    )

write_by : (log : List Entry) (name : List ℕ) (o : Option ℕ) (write : WrittenBytes) → IsLegal log → last_write name log ≡ o
    → option_and_then (λ place. written_at place log) o ≡ Some write → IsLastWrite log name write.place write.bytes
write_by log name None write h q r = none_some write r
write_by log name (Some place) write h q r =
    let w = write_at log name place h q in
    subst (λ (x : WrittenBytes). IsLastWrite log name x.place x.bytes) (some_is _ write (sym w.1 ∙ r)) w.2

pub write_is : (log : List Entry) (name : List ℕ) (write : WrittenBytes) → IsLegal log → last_written name log ≡ Some write
    → IsLastWrite log name write.place write.bytes
write_is log name write h q = write_by log name (last_write name log) write h refl q

unwritten_by : (log : List Entry) (name : List ℕ) (o : Option ℕ) → IsLegal log → last_write name log ≡ o
    → option_and_then (λ place. written_at place log) o ≡ None → list_any (λ e. writes name e.call e.reply) log ≡ false
unwritten_by log name None h q r = none_passes (λ e. writes name e.call e.reply) 0 log q
unwritten_by log name (Some place) h q r =
    let w = write_at log name place h q in none_some (record { place = place; bytes = w.0 }) (sym r ∙ w.1)

-- nothing was written
pub unwritten : (log : List Entry) (name : List ℕ) → IsLegal log → last_written name log ≡ None → list_any (λ e. writes name e.call e.reply) log ≡ false
unwritten log name h q = unwritten_by log name (last_write name log) h refl q

pub session-snoc : (name : List ℕ) (log : List Entry) (e : Entry) (b : Bool) → opens Reads name e ≡ b
    → session name (log ++ e ∷ []) ≡ last_of (session name log) (if b then Some (length log) else None)
session-snoc name log e b is =
    let zero_more : 0 + length log ≡ length log = omega arith in
    ap (last_given (λ (p : ℕ × Entry). if opens Reads name p.1 then Some p.0 else None)) (enumerate-snoc 0 log e)
    ∙ last_given-snoc (λ (p : ℕ × Entry). if opens Reads name p.1 then Some p.0 else None) (enumerate_from 0 log) (0 + length log, e)
    ∙ ap (λ o. last_of (session name log) (if o then Some (0 + length log) else None)) is
    ∙ ap (λ n. last_of (session name log) (if b then Some n else None)) zero_more

abbrev pub part_of : Option ℕ → List Entry → List Entry
part_of o journal = option_map_or (λ place. drop (place + 1) journal) o []

-- a session that begins has no entries yet
begins : (name : List ℕ) (log : List Entry) (e : Entry) → opens Reads name e ≡ true → in_session name (log ++ e ∷ []) ≡ []
begins name log e is =
    ap (λ o. part_of o (log ++ e ∷ [])) (session-snoc name log e true is) ∙ drop-append-add log (e ∷ []) 1

-- one that goes on has one entry more, where there is one
data Longer (name : List ℕ) (log : List Entry) (e : Entry) : Type 0 where
  no_session : in_session name (log ++ e ∷ []) ≡ [] → Longer name log e
  goes_on : in_session name (log ++ e ∷ []) ≡ in_session name log ++ e ∷ [] → Longer name log e

longer_by : (name : List ℕ) (log : List Entry) (e : Entry) (o : Option ℕ) → session name log ≡ o → session name (log ++ e ∷ []) ≡ o → Longer name log e
longer_by name log e None q r = no_session (ap (λ s. part_of s (log ++ e ∷ [])) r)
longer_by name log e (Some place) q r =
    let c = last_cut (opens Reads name) 0 place log q in
    let l = ap (λ xs. length xs) c.cut ∙ length-append c.before (c.at ∷ c.after) in
    let p = c.place_is in
    goes_on (
    ap (λ s. part_of s (log ++ e ∷ [])) r
    ∙ drop-append-le (place + 1) log (e ∷ []) (omega (arith, l, p))
    ∙ ap (λ s. part_of s log ++ e ∷ []) (sym q)
    )

longer : (name : List ℕ) (log : List Entry) (e : Entry) → opens Reads name e ≡ false → Longer name log e
longer name log e is = longer_by name log e (session name log) refl (session-snoc name log e false is)

-- what was taken so far is a beginning of what was put
abbrev pub Piped : List ℕ → List Entry → Type 0
Piped name part = (rest : List ℕ) × (put_in name part ≡ taken_in name part ++ rest)

put-snoc : (name : List ℕ) (part : List Entry) (e : Entry) → put_in name (part ++ e ∷ []) ≡ put_in name part ++ put_by name e.call e.reply
put-snoc name part e =
    flat_map-append (λ (x : Entry). put_by name x.call x.reply) part (e ∷ []) ∙ ap (λ xs. put_in name part ++ xs) (append-nil (put_by name e.call e.reply))

taken-snoc : (name : List ℕ) (part : List Entry) (e : Entry) → taken_in name (part ++ e ∷ []) ≡ taken_in name part ++ taken_by name e.call e.reply
taken-snoc name part e =
    flat_map-append (λ (x : Entry). taken_by name x.call x.reply) part (e ∷ []) ∙ ap (λ xs. taken_in name part ++ xs) (append-nil (taken_by name e.call e.reply))

-- an entry takes nothing out of the pipe, or all that nobody has taken
data Flow (name : List ℕ) (log : List Entry) (call : Call) (reply : Reply) : Type 0 where
  quiet : taken_by name call reply ≡ [] → Flow name log call reply
  empties : put_by name call reply ≡ [] → taken_by name call reply ≡ untaken_bytes name log → Flow name log call reply

idle_quiet : (name : List ℕ) (call : Call) (reply : Reply) → is_idle reply ≡ true → taken_by name call reply ≡ []
idle_quiet name (PipeTake other) (Bytes bytes) e = absurd (false_true e)
idle_quiet name (PipeTake other) reply e = refl
idle_quiet name call reply e = refl

unit_quiet : (name : List ℕ) (call : Call) → taken_by name call UnitReply ≡ []
unit_quiet name (PipeTake other) = refl
unit_quiet name call = refl

take_flow : (name other : List ℕ) (log : List Entry) (b : Bool) → bytes_eq other name ≡ b → Flow name log (PipeTake other) (Bytes (untaken_bytes other log))
take_flow name other log true is =
    empties refl (ap (λ b. if b then untaken_bytes other log else []) is ∙ ap (λ n. untaken_bytes n log) ((bytes_eq-Decides other name).0 is))
take_flow name other log false is = quiet (ap (λ b. if b then untaken_bytes other log else []) is)

flow_outcome : (name : List ℕ) (log : List Entry) (run : ℕ) (call : Call) (reply : Reply) → Outcome log run call reply → Flow name log call reply
flow_outcome name log run _ _ (outcome.idle call reply is can) = quiet (idle_quiet name call reply is)
flow_outcome name log run _ _ (outcome.granted call is) = quiet (unit_quiet name call)
flow_outcome name log run _ _ (outcome.compiled src dst) = quiet refl
flow_outcome name log run _ _ (outcome.loaded file source q) = quiet refl
flow_outcome name log run _ _ (outcome.started model params is less) = quiet refl
flow_outcome name log run _ _ (outcome.next_took event q) = quiet refl
flow_outcome name log run _ _ (outcome.drop_took event q) = quiet refl
flow_outcome name log run _ _ (outcome.queued to class value receiver) = quiet refl
flow_outcome name log run _ _ (outcome.found_write other write q) = quiet refl
flow_outcome name log run _ _ (outcome.found_file other bytes q d) = quiet refl
flow_outcome name log run _ _ (outcome.reads other q) = quiet refl
flow_outcome name log run _ _ (outcome.joins other place a b d s) = quiet refl
flow_outcome name log run _ _ (outcome.put other bytes j) = quiet refl
flow_outcome name log run _ _ (outcome.took_all other) = take_flow name other log (bytes_eq other name) refl
flow_outcome name log run _ _ (outcome.ended other a b) = quiet refl

flow_entering : (name : List ℕ) (log : List Entry) (lane : ℕ) (run : Option ℕ) (call : Call) (reply : Reply) → Entering log lane run call reply → Flow name log call reply
flow_entering name log lane _ _ _ (enter.claims k source params none q s p) = quiet refl
flow_entering name log lane _ _ _ (enter.done_entry not_done none q is) = quiet refl
flow_entering name log lane _ _ _ enter.quits = quiet refl
flow_entering name log lane _ _ _ (enter.finishes run end held) = quiet refl
flow_entering name log lane _ _ _ (enter.acts run call reply held fresh ends_fit_ for_run no_finish answered) =
    flow_outcome name log run call reply (run_outcome log run call reply answered)

-- what nobody has taken is the rest
pub untaken_is : (name : List ℕ) (log : List Entry) (rest : List ℕ) → put_in name (in_session name log) ≡ taken_in name (in_session name log) ++ rest → untaken_bytes name log ≡ rest
untaken_is name log rest q =
    ap (drop (length (taken_in name (in_session name log)))) q ∙ drop-append_seam (taken_in name (in_session name log)) rest

piped_more : (name : List ℕ) (log : List Entry) (e : Entry) → Piped name (in_session name log) → Flow name log e.call e.reply
    → Piped name (in_session name log ++ e ∷ [])
piped_more name log e p (quiet none) =
    let part = in_session name log in (
      p.0 ++ put_by name e.call e.reply,
      put-snoc name part e
          ∙ ap (λ xs. xs ++ put_by name e.call e.reply) p.1
          ∙ append_assoc (taken_in name part) p.0 (put_by name e.call e.reply)
          ∙ ap (λ xs. xs ++ (p.0 ++ put_by name e.call e.reply)) (sym (taken-snoc name part e ∙ ap (λ xs. taken_in name part ++ xs) none ∙ append-nil (taken_in name part))),
    )
piped_more name log e p (empties none all) =
    let part = in_session name log in (
      [],
      put-snoc name part e
          ∙ ap (λ xs. put_in name part ++ xs) none
          ∙ append-nil (put_in name part)
          ∙ p.1
          ∙ sym (append-nil (taken_in name (part ++ e ∷ [])) ∙ taken-snoc name part e ∙ ap (λ xs. taken_in name part ++ xs) (all ∙ untaken_is name log p.0 p.1)),
    )

piped_by : (name : List ℕ) (log : List Entry) (e : Entry) → Piped name (in_session name log) → Flow name log e.call e.reply → Longer name log e
    → Piped name (in_session name (log ++ e ∷ []))
piped_by name log e p f (no_session q) = subst (Piped name) (sym q) ([], refl)
piped_by name log e p f (goes_on q) = subst (Piped name) (sym q) (piped_more name log e p f)

piped_step : (name : List ℕ) (log : List Entry) (e : Entry) (b : Bool) → opens Reads name e ≡ b → Piped name (in_session name log) → Flow name log e.call e.reply
    → Piped name (in_session name (log ++ e ∷ []))
piped_step name log e true is p f = subst (Piped name) (sym (begins name log e is)) ([], refl)
piped_step name log e false is p f = piped_by name log e p f (longer name log e is)

opened_quiet : (name : List ℕ) (call : Call) → taken_by name call Opened ≡ []
opened_quiet name (PipeTake other) = refl
opened_quiet name call = refl

pub piped : (name : List ℕ) (journal : List Entry) → IsLegal journal → Piped name (in_session name journal)
piped name = legal_induct (λ log. Piped name (in_session name log))
    (λ e o. piped_step name [] e (opens Reads name e) refl ([], refl) (quiet (ap (taken_by name e.call) o.reply ∙ opened_quiet name e.call)))
    (λ log e p f. piped_step name log e (opens Reads name e) refl p (flow_entering name log e.lane e.run e.call e.reply (entering log e f)))
