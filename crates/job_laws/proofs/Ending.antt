-- The sessions of pipes: what was put and taken in each, and that nothing is put behind its end.

use Rattle.std.proofs.Common.{◌≡◌, ℕ, Bool, true, false, ◌||◌, List, [], ◌∷◌, ◌++◌, Option, Some, None, refl, sym, ap, ◌∙◌, subst, length, length-append, arith, append_assoc, append-nil}
use Rattle.std.specs.Prelude.{is_none, if◌then◌else◌}
use Rattle.std.specs.List.{list_any}
use Rattle.std.specs.Str.{bytes_eq}
use Rattle.std.proofs.Math.Seq.{drop-append-add}
use Rattle.std.proofs.lemmas.Grind.{flat_map-append}
use Rattle.std.proofs.lemmas.List.Concat.{flat_map-cons}
use Rattle.std.proofs.lemmas.List.Folds.{list_any-append}
use Rattle.std.proofs.lemmas.Slice.Eq.{bytes_eq-Decides}
use Rattle.job_calls.specs.declared.call.Call.{Call}
use Rattle.job_calls.specs.declared.call.Call.TheVariants.{PipePut, PipeTake}
use Rattle.job_calls.specs.declared.call.Way.TheVariants.{Reads, Writes}
use Rattle.job_calls.specs.declared.reply.Reply.{Reply}
use Rattle.job_calls.specs.declared.reply.Reply.TheVariants.{PipeEnd, Unit as UnitReply}
use Rattle.job_calls.specs.declared.entry.Entry.{Entry}
use Rattle.job_calls.specs.Entries.{own_entries}
use Rattle.job_calls.specs.Pipes.{opened_session, opens, closes, holder, session, is_session, had_writer, is_ended, in_session, put_by, taken_by, put_in, taken_in}
use Rattle.job_calls.specs.Fitting.{held_run, exchange_of, holds, ends_fit}
use Rattle.job_calls.specs.Legal.{IsLegal, Follows, FollowOn}
use Rattle.job_laws.specs.Truth.{SaysTrue}
use Rattle.job_laws.specs.Order.{IsSession, is_pipe_end}
use Rattle.job_laws.proofs.Growing.{legal_more, legal_split}
use Rattle.job_laws.proofs.Lists.{none_some, any_cut}
use Rattle.job_laws.proofs.Counts.{any-snoc}
use Rattle.job_laws.proofs.Outcomes as outcome
use Rattle.job_laws.proofs.Outcomes.{Outcome, run_outcome, is_idle, is_granted, false_true}
use Rattle.job_laws.proofs.Entering as enter
use Rattle.job_laws.proofs.Entering.{Entering, entering, and_true, or_false, is_run-some}
use Rattle.job_laws.proofs.Piping.{Piped, piped, part_of, session-snoc}
use Rattle.job_laws.proofs.Truth.{says_true}
use Rattle.job_laws.proofs.Lanes.{not_so, was_held, one_lane_a_run}
use Rattle.job_laws.proofs.Holding.{holder-snoc, was_free, holds_by_calls}

-- a session goes on until the pipe is opened to read again
session_stays : (name : List ℕ) (log : List Entry) (place : ℕ) (es : List Entry) → session name log ≡ Some place
    → list_any (opens Reads name) es ≡ false → session name (log ++ es) ≡ Some place
session_stays name log place [] h q = ap (session name) (append-nil log) ∙ h
session_stays name log place (e ∷ es) h q =
    let both = or_false (opens Reads name e) (list_any (opens Reads name) es) q in
    ap (session name) (sym (append_assoc log (e ∷ []) es))
    ∙ session_stays name (log ++ e ∷ []) place es (session-snoc name log e false both.0 ∙ h) both.1

-- the entries of the last session
session_is : (name : List ℕ) (before : List Entry) (o : Entry) (part : List Entry) → opens Reads name o ≡ true
    → list_any (opens Reads name) part ≡ false → in_session name (before ++ o ∷ part) ≡ part
session_is name before o part begins goes_on =
    let at : session name (before ++ o ∷ part) ≡ Some (length before) =
    ap (session name) (sym (append_assoc before (o ∷ []) part))
    ∙ session_stays name (before ++ o ∷ []) (length before) part (session-snoc name before o true begins) goes_on in
    ap (λ s. part_of s (before ++ o ∷ part)) at ∙ drop-append-add before (o ∷ part) 1

pub piped_part : (journal : List Entry) → IsLegal journal → (name : List ℕ) (part : List Entry) → IsSession journal name part → Piped name part
piped_part journal h name part s =
    let legal = (legal_split s.before s.opening part s.after (subst IsLegal s.cut h)).0 in
    subst (Piped name) (session_is name s.before s.opening part s.begins s.goes_on) (piped name (s.before ++ s.opening ∷ part) legal)

-- the writer of the session came, and closed
abbrev IsOver : List ℕ → List Entry → Type 0
IsOver name log = (had_writer name log ≡ true) × (holder Writes name log ≡ None)

none_by : (o : Option ℕ) → is_none o ≡ true → o ≡ None
none_by None e = refl
none_by (Some x) e = absurd (false_true e)

idle_ends : (name : List ℕ) (call : Call) (reply : Reply) → is_idle reply ≡ true → is_pipe_end name call reply ≡ false
idle_ends name (PipeTake taken) PipeEnd e = absurd (false_true e)
idle_ends name (PipeTake taken) reply e = refl
idle_ends name call reply e = refl

granted_ends : (name : List ℕ) (call : Call) → is_pipe_end name call UnitReply ≡ false
granted_ends name (PipeTake taken) = refl
granted_ends name call = refl

end_outcome : (name : List ℕ) (log : List Entry) (run : ℕ) (call : Call) (reply : Reply) → Outcome log run call reply
    → is_pipe_end name call reply ≡ true → is_ended name log ≡ true
end_outcome name log run _ _ (outcome.idle call reply is can) h = absurd (false_true (sym (idle_ends name call reply is) ∙ h))
end_outcome name log run _ _ (outcome.granted call is) h = absurd (false_true (sym (granted_ends name call) ∙ h))
end_outcome name log run _ _ (outcome.compiled src dst) h = absurd (false_true h)
end_outcome name log run _ _ (outcome.loaded file source q) h = absurd (false_true h)
end_outcome name log run _ _ (outcome.started model params is less) h = absurd (false_true h)
end_outcome name log run _ _ (outcome.next_took event q) h = absurd (false_true h)
end_outcome name log run _ _ (outcome.drop_took event q) h = absurd (false_true h)
end_outcome name log run _ _ (outcome.queued to class value receiver) h = absurd (false_true h)
end_outcome name log run _ _ (outcome.found_write other write q) h = absurd (false_true h)
end_outcome name log run _ _ (outcome.found_file other bytes q d) h = absurd (false_true h)
end_outcome name log run _ _ (outcome.reads other q) h = absurd (false_true h)
end_outcome name log run _ _ (outcome.joins other place a b d s) h = absurd (false_true h)
end_outcome name log run _ _ (outcome.put other bytes j) h = absurd (false_true h)
end_outcome name log run _ _ (outcome.took_all other) h = absurd (false_true h)
end_outcome name log run _ _ (outcome.ended other a b) h = subst (λ n. is_ended n log ≡ true) ((bytes_eq-Decides other name).0 h) b

end_entering : (name : List ℕ) (log : List Entry) (lane : ℕ) (run : Option ℕ) (call : Call) (reply : Reply) → Entering log lane run call reply
    → is_pipe_end name call reply ≡ true → is_ended name log ≡ true
end_entering name log lane _ _ _ (enter.claims k source params none q s p) h = absurd (false_true h)
end_entering name log lane _ _ _ (enter.done_entry not_done none q is) h = absurd (false_true h)
end_entering name log lane _ _ _ enter.quits h = absurd (false_true h)
end_entering name log lane _ _ _ (enter.finishes run end held) h = absurd (false_true h)
end_entering name log lane _ _ _ (enter.acts run call reply held fresh fit for_run no_finish answered) h =
    end_outcome name log run call reply (run_outcome log run call reply answered) h

-- the end is told where the session's writer came and closed
is_over : (name : List ℕ) (log : List Entry) (e : Entry) → Follows log e → is_pipe_end name e.call e.reply ≡ true → IsOver name log
is_over name log e f h =
    let both = and_true (had_writer name log) (is_none (holder Writes name log)) (end_entering name log e.lane e.run e.call e.reply (entering log e f) h) in
    (both.0, none_by (holder Writes name log) both.1)

-- a session whose writer closed gets no other
over_stays : (name : List ℕ) (log : List Entry) (e : Entry) → IsOver name log → Follows log e → opens Reads name e ≡ false → IsOver name (log ++ e ∷ [])
over_stays name log e over f same =
    let here : session name (log ++ e ∷ []) ≡ session name log = session-snoc name log e false same in
    let closed : opens Writes name e ≡ false =
    not_so (opens Writes name e) (λ o. false_true (sym (was_free Writes name log e.lane e.run e.call e.reply (entering log e f) o).1 ∙ over.0)) in (
      ap (λ s. list_any (λ (x : Entry). is_session s (opened_session Writes name x.call x.reply)) (log ++ e ∷ [])) here
          ∙ any-snoc (λ (x : Entry). is_session (session name log) (opened_session Writes name x.call x.reply)) log e
          ∙ ap (λ b. b || is_session (session name log) (opened_session Writes name e.call e.reply)) over.0,
      holder-snoc Writes name log e
          ∙ ap (λ b. if b then e.run else (if closes name (holder Writes name log) e then None else holder Writes name log)) closed
          ∙ ap (λ held. if closes name held e then None else held) over.1,
    )

idle_puts : (name : List ℕ) (call : Call) (reply : Reply) → is_idle reply ≡ true → put_by name call reply ≡ []
idle_puts name (PipePut put bytes) UnitReply e = absurd (false_true e)
idle_puts name (PipePut put bytes) reply e = refl
idle_puts name call reply e = refl

granted_puts : (name : List ℕ) (call : Call) → is_granted call ≡ true → put_by name call UnitReply ≡ []
granted_puts name (PipePut put bytes) e = absurd (false_true e)
granted_puts name call e = refl

-- what a run puts that does not hold the end to write
unheld : (name other bytes : List ℕ) (log : List Entry) (run : ℕ) (b : Bool) → bytes_eq other name ≡ b → holder Writes other log ≡ Some run
    → holder Writes name log ≡ None → (if b then bytes else []) ≡ []
unheld name other bytes log run true is held none =
    none_some run (sym none ∙ ap (λ n. holder Writes n log) (sym ((bytes_eq-Decides other name).0 is)) ∙ held)
unheld name other bytes log run false is held none = refl

-- a run that holds the end to write by what it was told is the one that holds it
abbrev AreHeld : List Entry → ℕ → List (Call × Reply) → Type 0
AreHeld log run told = (other : List ℕ) → holds Writes other told ≡ true → holder Writes other log ≡ Some run

puts_outcome : (name : List ℕ) (log : List Entry) (told : List (Call × Reply)) (run : ℕ) (call : Call) (reply : Reply) → Outcome log run call reply
    → AreHeld log run told → ends_fit told call ≡ true → holder Writes name log ≡ None → put_by name call reply ≡ []
puts_outcome name log told run _ _ (outcome.idle call reply is can) held fit none = idle_puts name call reply is
puts_outcome name log told run _ _ (outcome.granted call is) held fit none = granted_puts name call is
puts_outcome name log told run _ _ (outcome.compiled src dst) held fit none = refl
puts_outcome name log told run _ _ (outcome.loaded file source q) held fit none = refl
puts_outcome name log told run _ _ (outcome.started model params is less) held fit none = refl
puts_outcome name log told run _ _ (outcome.next_took event q) held fit none = refl
puts_outcome name log told run _ _ (outcome.drop_took event q) held fit none = refl
puts_outcome name log told run _ _ (outcome.queued to class value receiver) held fit none = refl
puts_outcome name log told run _ _ (outcome.found_write other write q) held fit none = refl
puts_outcome name log told run _ _ (outcome.found_file other bytes q d) held fit none = refl
puts_outcome name log told run _ _ (outcome.reads other q) held fit none = refl
puts_outcome name log told run _ _ (outcome.joins other place a b d s) held fit none = refl
puts_outcome name log told run _ _ (outcome.put other bytes j) held fit none =
    unheld name other bytes log run (bytes_eq other name) refl (held other fit) none
puts_outcome name log told run _ _ (outcome.took_all other) held fit none = refl
puts_outcome name log told run _ _ (outcome.ended other a b) held fit none = refl

-- what the lane that holds the run knows of it is all
are_held : (log : List Entry) (lane run : ℕ) → IsLegal log → held_run (own_entries lane log) ≡ Some run
    → AreHeld log run (exchange_of run (own_entries lane log))
are_held log lane run h held other q =
    let same = (one_lane_a_run log h run lane (was_held lane log h run held)).exchange in
    holds_by_calls Writes other run log h (ap (holds Writes other) (sym same) ∙ q)

puts_entering : (name : List ℕ) (log : List Entry) (lane : ℕ) (run : Option ℕ) (call : Call) (reply : Reply) → IsLegal log → Entering log lane run call reply
    → holder Writes name log ≡ None → put_by name call reply ≡ []
puts_entering name log lane _ _ _ h (enter.claims k source params free q s p) none = refl
puts_entering name log lane _ _ _ h (enter.done_entry not_done free q is) none = refl
puts_entering name log lane _ _ _ h enter.quits none = refl
puts_entering name log lane _ _ _ h (enter.finishes run end held) none = refl
puts_entering name log lane _ _ _ h (enter.acts run call reply held fresh fit for_run no_finish answered) none =
    puts_outcome name log (exchange_of run (own_entries lane log)) run call reply (run_outcome log run call reply answered)
    (are_held log lane run h held) fit none

-- nothing is put behind the end
puts_nothing : (name : List ℕ) (log : List Entry) (e : Entry) → IsLegal log → IsOver name log → Follows log e → put_by name e.call e.reply ≡ []
puts_nothing name log e legal over f = puts_entering name log e.lane e.run e.call e.reply legal (entering log e f) over.1

puts_none : (name : List ℕ) (log es : List Entry) → IsLegal log → IsOver name log → FollowOn log es → list_any (opens Reads name) es ≡ false
    → put_in name es ≡ []
puts_none name log [] legal over h q = refl
puts_none name log (e ∷ es) legal over h q =
    let both = or_false (opens Reads name e) (list_any (opens Reads name) es) q in
    flat_map-cons (λ (x : Entry). put_by name x.call x.reply) e es
    ∙ ap (λ xs. xs ++ put_in name es) (puts_nothing name log e legal over h.0)
    ∙ puts_none name (log ++ e ∷ []) es (legal_more log e legal h.0) (over_stays name log e over h.0 both.0) h.1 both.1

end_by : (name : List ℕ) (call : Call) (reply : Reply) → is_pipe_end name call reply ≡ true → (call ≡ PipeTake name) × (reply ≡ PipeEnd)
end_by name (PipeTake taken) PipeEnd e = (ap PipeTake ((bytes_eq-Decides taken name).0 e), refl)
end_by name (PipeTake taken) reply e = absurd (false_true e)
end_by name call reply e = absurd (false_true e)

-- at the end all was taken that was put until then
end_says : (name : List ℕ) (log : List Entry) (e : Entry) → IsLegal log → Follows log e → is_pipe_end name e.call e.reply ≡ true
    → put_in name (in_session name log) ≡ taken_in name (in_session name log)
end_says name log e legal f is =
    let at = end_by name e.call e.reply is in
    subst (SaysTrue log e.run (PipeTake name)) at.1 (subst (λ call. SaysTrue log e.run call e.reply) at.0 (says_true log e legal f))

no_more : (xs ys zs us : List ℕ) → xs ++ ys ≡ xs ++ (zs ++ us) → ys ≡ [] → us ≡ []
no_more xs ys zs us e none =
    let l = ap (λ ws. length ws) e in
    let a = length-append xs ys in
    let b = length-append xs (zs ++ us) in
    let d = length-append zs us in
    let n = ap (λ ws. length ws) none in
    empty us (omega (arith, l, a, b, d, n))
  where
    empty : (ws : List ℕ) → length ws ≡ 0 → ws ≡ []
    empty [] q = refl
    empty (w ∷ ws) q = absurd (omega (arith, q))

-- a session that is cut where the end was told: nothing more is put
data IsTakenWhole (name : List ℕ) (part : List Entry) : Type 0 where
  taken_whole : (first last : List Entry) → part ≡ first ++ last → put_in name first ≡ taken_in name first → put_in name last ≡ [] → IsTakenWhole name part

taken_whole_at : (name : List ℕ) (before : List Entry) (o : Entry) (first : List Entry) (t : Entry) (last : List Entry) → opens Reads name o ≡ true
    → IsLegal ((before ++ o ∷ first) ++ t ∷ last) → list_any (opens Reads name) (first ++ t ∷ last) ≡ false
    → is_pipe_end name t.call t.reply ≡ true → IsTakenWhole name (first ++ t ∷ last)
taken_whole_at name before o first t last begins h goes_on is =
    let log = before ++ o ∷ first in
    let parts = legal_split before o first (t ∷ last) h in
    let f = parts.1.0 in
    let over = is_over name log t f is in
    let both = or_false (list_any (opens Reads name) first) (opens Reads name t || list_any (opens Reads name) last)
    (sym (list_any-append (opens Reads name) first (t ∷ last)) ∙ goes_on) in
    taken_whole first (t ∷ last) refl
    (subst (λ p. put_in name p ≡ taken_in name p) (session_is name before o first begins both.0) (end_says name log t parts.0 f is))
    (puts_none name log (t ∷ last) parts.0 over parts.1 both.1)

taken_whole_in : (name : List ℕ) (before : List Entry) (o : Entry) (part : List Entry) → opens Reads name o ≡ true → IsLegal (before ++ o ∷ part)
    → list_any (opens Reads name) part ≡ false → list_any (λ (e : Entry). is_pipe_end name e.call e.reply) part ≡ true → IsTakenWhole name part
taken_whole_in name before o part begins h goes_on any =
    let c = any_cut (λ (e : Entry). is_pipe_end name e.call e.reply) part any in
    subst (IsTakenWhole name) (sym c.cut)
    (taken_whole_at name before o c.before c.at c.after begins
    (subst IsLegal (ap (λ xs. before ++ o ∷ xs) c.cut ∙ sym (append_assoc before (o ∷ c.before) (c.at ∷ c.after))) h)
    (sym (ap (list_any (opens Reads name)) c.cut) ∙ goes_on)
    c.passes)

whole_by : (name : List ℕ) (part : List Entry) → Piped name part → IsTakenWhole name part → put_in name part ≡ taken_in name part
whole_by name part p (taken_whole first last cut says none) =
    let puts = ap (put_in name) cut ∙ flat_map-append (λ (x : Entry). put_by name x.call x.reply) first last in
    let takes = ap (taken_in name) cut ∙ flat_map-append (λ (x : Entry). taken_by name x.call x.reply) first last in
    let e : taken_in name first ++ put_in name last ≡ taken_in name first ++ (taken_in name last ++ p.0) =
    ap (λ xs. xs ++ put_in name last) (sym says)
    ∙ sym puts
    ∙ p.1
    ∙ ap (λ xs. xs ++ p.0) takes
    ∙ append_assoc (taken_in name first) (taken_in name last) p.0 in
    p.1
    ∙ ap (λ xs. taken_in name part ++ xs) (no_more (taken_in name first) (put_in name last) (taken_in name last) p.0 e none)
    ∙ append-nil (taken_in name part)

pub piped_whole : (journal : List Entry) → IsLegal journal → (name : List ℕ) (part : List Entry) → IsSession journal name part
    → list_any (λ (e : Entry). is_pipe_end name e.call e.reply) part ≡ true → put_in name part ≡ taken_in name part
piped_whole journal h name part s any =
    let legal = (legal_split s.before s.opening part s.after (subst IsLegal s.cut h)).0 in
    whole_by name part (piped_part journal h name part s) (taken_whole_in name s.before s.opening part s.begins legal s.goes_on any)
