-- What an entry says of a pipe that it does not speak of: nothing.

use Rattle.std.proofs.Common.{◌≡◌, ℕ, Bool, true, false, not, ◌&&◌, ◌||◌, List, [], ◌++◌, Option, Some, None, refl, sym, ap, ◌∙◌, drop, length, append-nil, is_some}
use Rattle.std.specs.Prelude.{if◌then◌else◌}
use Rattle.std.specs.Str.{bytes_eq}
use Rattle.std.proofs.Math.Bool.{or-false}
use Rattle.std.proofs.lemmas.Option.{none-some, same_Some}
use Rattle.job_calls.specs.declared.call.Call.{Call}
use Rattle.job_calls.specs.declared.call.Call.TheVariants.{PipeOpen, PipePut, PipeTake, PipeClose}
use Rattle.job_calls.specs.declared.call.Way.{Way}
use Rattle.job_calls.specs.declared.call.Way.TheVariants.{Reads, Writes}
use Rattle.job_calls.specs.declared.reply.Reply.{Reply}
use Rattle.job_calls.specs.declared.reply.Reply.TheVariants.{Session, Bytes, Unit as UnitReply}
use Rattle.job_calls.specs.declared.entry.Entry.{Entry}
use Rattle.job_calls.specs.Entries.{is_run}
use Rattle.job_calls.specs.Runs.{last_of}
use Rattle.job_calls.specs.Pipes.{is_way, opened_session, opens, is_close, is_session, put_by, taken_by}
use Rattle.mempipe.specs.declared.hold.Hold.{Hold}
use Rattle.mempipe.specs.declared.ends.Ends.{Ends}
use Rattle.mempipe.specs.States.{named_pipe, is_closed_by, holds_from, hold_after, joins, ends_after, bytes_after}

-- the call and its reply say nothing of the pipe
pub record IsUntouched (name : List ℕ) (call : Call) (reply : Reply) : Type 0 where
  pub opens : (way : Way) → opened_session way name call reply ≡ None
  pub close : is_close name call reply ≡ false
  pub put : put_by name call reply ≡ []
  pub taken : taken_by name call reply ≡ []

pub and_no : (b : Bool) → (b && false) ≡ false
and_no true = refl
and_no false = refl

open_other : (w : Way) (name other : List ℕ) (way : Way) (reply : Reply) → bytes_eq other name ≡ false → opened_session w name (PipeOpen other way) reply ≡ None
open_other w name other way (Session place) apart =
    ap (λ b. if is_way w way && b then Some place.0 else None) apart ∙ ap (λ b. if b then Some place.0 else None) (and_no (is_way w way))
open_other w name other way reply apart = refl

close_other : (name other : List ℕ) (reply : Reply) → bytes_eq other name ≡ false → is_close name (PipeClose other) reply ≡ false
close_other name other UnitReply apart = apart
close_other name other reply apart = refl

put_other : (name other bytes : List ℕ) (reply : Reply) → bytes_eq other name ≡ false → put_by name (PipePut other bytes) reply ≡ []
put_other name other bytes UnitReply apart = ap (λ b. if b then bytes else []) apart
put_other name other bytes reply apart = refl

take_other : (name other : List ℕ) (reply : Reply) → bytes_eq other name ≡ false → taken_by name (PipeTake other) reply ≡ []
take_other name other (Bytes bytes) apart = ap (λ b. if b then bytes else []) apart
take_other name other reply apart = refl

-- a call that speaks of another pipe
pub other_call : (name : List ℕ) (call : Call) (reply : Reply) (other : List ℕ) → named_pipe call ≡ Some other → bytes_eq other name ≡ false
    → IsUntouched name call reply
other_call name (PipeOpen said way) reply other q apart =
    let differs = ap (λ n. bytes_eq n name) (same_Some said other q) ∙ apart in
    record { opens = λ w. open_other w name said way reply differs; close = refl; put = refl; taken = refl }
other_call name (PipePut said bytes) reply other q apart =
    let differs = ap (λ n. bytes_eq n name) (same_Some said other q) ∙ apart in
    record { opens = λ w. refl; close = refl; put = put_other name said bytes reply differs; taken = refl }
other_call name (PipeTake said) reply other q apart =
    let differs = ap (λ n. bytes_eq n name) (same_Some said other q) ∙ apart in
    record { opens = λ w. refl; close = refl; put = refl; taken = take_other name said reply differs }
other_call name (PipeClose said) reply other q apart =
    let differs = ap (λ n. bytes_eq n name) (same_Some said other q) ∙ apart in
    record { opens = λ w. refl; close = close_other name said reply differs; put = refl; taken = refl }
other_call name call reply other q apart = record { opens = λ w. refl; close = refl; put = refl; taken = refl }

-- a call that speaks of no pipe
pub no_call : (name : List ℕ) (call : Call) (reply : Reply) → named_pipe call ≡ None → IsUntouched name call reply
no_call name (PipeOpen said way) reply q = absurd (none-some said (sym q))
no_call name (PipePut said bytes) reply q = absurd (none-some said (sym q))
no_call name (PipeTake said) reply q = absurd (none-some said (sym q))
no_call name (PipeClose said) reply q = absurd (none-some said (sym q))
no_call name call reply q = record { opens = λ w. refl; close = refl; put = refl; taken = refl }

not_closed : (name : List ℕ) (hold : Option Hold) (e : Entry) → is_close name e.call e.reply ≡ false → is_closed_by name hold e ≡ false
not_closed name None e q = refl
not_closed name (Some hold) e q = ap (λ b. is_run hold.run e.run && b) q ∙ and_no (is_run hold.run e.run)

hold_stays : (way : Way) (name : List ℕ) (place : ℕ) (hold : Option Hold) (e : Entry) → IsUntouched name e.call e.reply → hold_after way name place hold e ≡ hold
hold_stays way name place hold e none =
    ap (λ o. if is_some o then holds_from e.run place else (if is_closed_by name hold e then None else hold)) (none.opens way)
    ∙ ap (λ b. if b then None else hold) (not_closed name hold e none.close)

is_session_none : (session : Option ℕ) → is_session session None ≡ false
is_session_none None = refl
is_session_none (Some place) = refl

had_stays : (name : List ℕ) (had : Bool) (session : Option ℕ) (e : Entry) → IsUntouched name e.call e.reply
    → (not (opens Reads name e) && (had || joins session name e)) ≡ had
had_stays name had session e none =
    ap (λ o. not (is_some o) && (had || joins session name e)) (none.opens Reads)
    ∙ ap (λ o. had || is_session session o) (none.opens Writes)
    ∙ ap (λ b. had || b) (is_session_none session)
    ∙ or-false had

-- the ends of the pipe stay
pub ends_stay : (name : List ℕ) (place : ℕ) (ends : Ends) (e : Entry) → IsUntouched name e.call e.reply → ends_after name place ends e ≡ ends
ends_stay name place ends e none =
    let reader = hold_stays Reads name place ends.reader e none in
    let writer = hold_stays Writes name place ends.writer e none in
    let session = ap (λ o. if is_some o then Some place else ends.session) (none.opens Reads) in
    let joined = ap (last_of ends.joined) (none.opens Writes) in
    let had = had_stays name ends.had_writer ends.session e none in
    λ j. record { reader = reader j; writer = writer j; session = session j; joined = joined j; had_writer = had j }

-- and its bytes
pub bytes_stay : (name bytes : List ℕ) (e : Entry) → IsUntouched name e.call e.reply → bytes_after name bytes e ≡ bytes
bytes_stay name bytes e none =
    ap (λ o. if is_some o then [] else drop (length (taken_by name e.call e.reply)) (bytes ++ put_by name e.call e.reply)) (none.opens Reads)
    ∙ ap (λ t. drop (length t) (bytes ++ put_by name e.call e.reply)) none.taken
    ∙ ap (λ p. bytes ++ p) none.put
    ∙ append-nil bytes
