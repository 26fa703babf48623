-- More replies and a greater budget change nothing before they are reached.

use Rattle.std.proofs.Common.{◌≡◌, ℕ, ◌+◌, zero, suc, Bool, true, false, List, [], ◌∷◌, ◌++◌, length, Option, Some, None, refl, ap, ◌∙◌, subst, slice_get, nat_lt, nat_le, drop, ◌⊎◌, inl, inr, arith}
use Rattle.std.proofs.lemmas.Bool.Decides.{nat_tests}
use Rattle.job_calls.specs.declared.call.Call.{Call}
use Rattle.job_calls.specs.declared.reply.Reply.{Reply}
use Rattle.bim_code.specs.declared.image.Image.{Image}
use Rattle.bim_code.specs.declared.instruction.Instruction.{Instruction}
use Rattle.bim_code.specs.Code.{instruction_at}
use Rattle.run_state.specs.Stops.{Stop}
use Rattle.run_state.specs.State.{World, State, Counts, on_drawn, tick, tick_if}
use Rattle.run_state.specs.Calls.{Query, Once, UntilEnd, Answer, stop_by, with_call, reply_or_stop, drawn_reply, as_answer, Piece, Part, Last, NoPiece, piece_in, drawn_bytes, drawn_piece, drain, inquire}
use Rattle.bim_machine.specs.Machine.{Machine, At, Halted, Work, Here, Site, Act, On, Jumps, Stops, Puts, Prints, Ticks, Asks, Enters, Leaves, on_evaluation, settle}
use Rattle.bim_machine.specs.Instructions.{act}
use Rattle.bim_machine.specs.Courses.{site_of, step_by, step, run}
use Rattle.bim_machine.specs.Laws.{more, HasMore}

-- what is found stays found where more is behind it
get_more : (all rest : List Reply) (n : ℕ) (r : Reply) → slice_get all n ≡ Some r → slice_get (all ++ rest) n ≡ Some r
get_more [] rest n r e = cc
get_more (x ∷ xs) rest zero r e = e
get_more (x ∷ xs) rest (suc n) r e = get_more xs rest n r e

tick_more : (w : World) (replies : List Reply) (extra at : ℕ) (s : State) (go other : Unit {0} → State → Machine)
    → ((s1 : State) → HasMore (go tt s1) → other tt s1 ≡ go tt s1)
    → HasMore (on_evaluation at (on_drawn (tick w s.counts) s) go)
    → on_evaluation at (on_drawn (tick (more w replies extra) s.counts) s) other ≡ on_evaluation at (on_drawn (tick w s.counts) s) go
tick_more w replies extra at s go other h = tested (nat_lt s.counts.ticks w.budget) refl
  where
    tested : (b : Bool) → nat_lt s.counts.ticks w.budget ≡ b → HasMore (on_evaluation at (on_drawn (tick_if b s.counts) s) go)
        → on_evaluation at (on_drawn (tick_if (nat_lt s.counts.ticks (w.budget + extra)) s.counts) s) other ≡ on_evaluation at (on_drawn (tick_if b s.counts) s) go
    tested true e g = let left : nat_lt s.counts.ticks (w.budget + extra) ≡ true = grind (arith, nat_tests, e) in rw left (h _ g)
    tested false e g = absurd g

drain_more : (call : Call) (rs rest : List Reply) (sofar : List ℕ) (counts : Counts) (at : ℕ) (s : State) (go other : Answer → State → Machine)
    → ((answer : Answer) (s1 : State) → HasMore (go answer s1) → other answer s1 ≡ go answer s1)
    → HasMore (on_evaluation at (on_drawn (drain call rs sofar counts) s) go)
    → on_evaluation at (on_drawn (drain call (rs ++ rest) sofar counts) s) other ≡ on_evaluation at (on_drawn (drain call rs sofar counts) s) go
drain_more call [] rest sofar counts at s go other h g = absurd g
drain_more call (r ∷ rs) rest sofar counts at s go other h g =
    by_reply (stop_by r) (piece_in r) g (λ bytes. drain_more call rs rest bytes (with_call call counts) at s go other h)
  where
    fitting : (b : Bool) (bytes : List ℕ) → HasMore (on_evaluation at (on_drawn (drawn_bytes b bytes (with_call call counts) (drain call rs)) s) go)
        → (HasMore (on_evaluation at (on_drawn (drain call rs bytes (with_call call counts)) s) go)
        → on_evaluation at (on_drawn (drain call (rs ++ rest) bytes (with_call call counts)) s) other ≡ on_evaluation at (on_drawn (drain call rs bytes (with_call call counts)) s) go)
        → on_evaluation at (on_drawn (drawn_bytes b bytes (with_call call counts) (drain call (rs ++ rest))) s) other ≡ on_evaluation at (on_drawn (drawn_bytes b bytes (with_call call counts) (drain call rs)) s) go
    fitting true bytes g later = later g
    fitting false bytes g later = refl

    by_reply : (o : Option Stop) (piece : Piece) → HasMore (on_evaluation at (on_drawn (drawn_piece o piece sofar (with_call call counts) (drain call rs)) s) go)
        → ((bytes : List ℕ) → HasMore (on_evaluation at (on_drawn (drain call rs bytes (with_call call counts)) s) go)
        → on_evaluation at (on_drawn (drain call (rs ++ rest) bytes (with_call call counts)) s) other ≡ on_evaluation at (on_drawn (drain call rs bytes (with_call call counts)) s) go)
        → on_evaluation at (on_drawn (drawn_piece o piece sofar (with_call call counts) (drain call (rs ++ rest))) s) other ≡ on_evaluation at (on_drawn (drawn_piece o piece sofar (with_call call counts) (drain call rs)) s) go
    by_reply (Some stop) piece g later = refl
    by_reply None (Part bytes) g later = fitting (nat_le (length (sofar ++ bytes)) 1048576) (sofar ++ bytes) g (later (sofar ++ bytes))
    by_reply None Last g later = h _ _ g
    by_reply None NoPiece g later = refl

-- what is left of more is what was left, and more; or nothing was left
left_more : (all rest : List Reply) (n : ℕ) → (drop n all ≡ []) ⊎ (drop n (all ++ rest) ≡ drop n all ++ rest)
left_more all rest zero = inr refl
left_more [] rest (suc n) = inl refl
left_more (r ∷ rs) rest (suc n) = left_more rs rest n

ask_more : (w : World) (replies : List Reply) (extra at : ℕ) (query : Query) (s : State) (go other : Answer → State → Machine)
    → ((answer : Answer) (s1 : State) → HasMore (go answer s1) → other answer s1 ≡ go answer s1)
    → HasMore (on_evaluation at (on_drawn (inquire w query s.counts) s) go)
    → on_evaluation at (on_drawn (inquire (more w replies extra) query s.counts) s) other ≡ on_evaluation at (on_drawn (inquire w query s.counts) s) go
ask_more w replies extra at (Once call) s go other h = found (slice_get w.replies (length s.counts.calls)) refl
  where
    answered : (r : Reply) (o : Option Stop) → HasMore (on_evaluation at (on_drawn (as_answer (reply_or_stop o r (with_call call s.counts))) s) go)
        → on_evaluation at (on_drawn (as_answer (reply_or_stop o r (with_call call s.counts))) s) other
        ≡ on_evaluation at (on_drawn (as_answer (reply_or_stop o r (with_call call s.counts))) s) go
    answered r None g = h _ _ g
    answered r (Some stop) g = refl

    found : (o : Option Reply) → slice_get w.replies (length s.counts.calls) ≡ o → HasMore (on_evaluation at (on_drawn (as_answer (drawn_reply o call s.counts)) s) go)
        → on_evaluation at (on_drawn (as_answer (drawn_reply (slice_get (w.replies ++ replies) (length s.counts.calls)) call s.counts)) s) other
        ≡ on_evaluation at (on_drawn (as_answer (drawn_reply o call s.counts)) s) go
    found None e g = absurd g
    found (Some r) e g = rw (get_more w.replies replies (length s.counts.calls) r e) (answered r (stop_by r) g)
ask_more w replies extra at (UntilEnd call) s go other h = left (left_more w.replies replies (length s.counts.calls))
  where
    left : (drop (length s.counts.calls) w.replies ≡ []) ⊎ (drop (length s.counts.calls) (w.replies ++ replies) ≡ drop (length s.counts.calls) w.replies ++ replies)
        → HasMore (on_evaluation at (on_drawn (drain call (drop (length s.counts.calls) w.replies) [] s.counts) s) go)
        → on_evaluation at (on_drawn (drain call (drop (length s.counts.calls) (w.replies ++ replies)) [] s.counts) s) other
        ≡ on_evaluation at (on_drawn (drain call (drop (length s.counts.calls) w.replies) [] s.counts) s) go
    left (inl e) g = absurd (subst (λ (rs : List Reply). HasMore (on_evaluation at (on_drawn (drain call rs [] s.counts) s) go)) e g)
    left (inr e) g = rw e (drain_more call (drop (length s.counts.calls) w.replies) replies [] s.counts at s go other h g)

settle_more : (image : Image) (w : World) (replies : List Reply) (extra : ℕ) (a : Act) (site : Site) (here : Here) (s : State)
    → HasMore (settle image w a site here s) → settle image (more w replies extra) a site here s ≡ settle image w a site here s
settle_more image w replies extra (On work) site here s g = refl
settle_more image w replies extra (Jumps work) site here s g = refl
settle_more image w replies extra (Stops halt) site here s g = refl
settle_more image w replies extra (Puts values work) site here s g = refl
settle_more image w replies extra (Prints text work) site here s g = refl
settle_more image w replies extra (Ticks a) site here s g =
    tick_more w replies extra site.at s _ _ (λ s1 g1. settle_more image w replies extra a site here s1 g1) g
settle_more image w replies extra (Asks query go) site here s g =
    ask_more w replies extra site.at query s _ _ (λ answer s1 g1. settle_more image w replies extra (go answer) site here s1 g1) g
settle_more image w replies extra (Enters number work) site here s g = tick_more w replies extra site.at s _ _ (λ s1 g1. refl) g
settle_more image w replies extra (Leaves result) site here s g = refl

decoded_more : (image : Image) (w : World) (replies : List Reply) (extra : ℕ) (found : Option Instruction) (address : ℕ) (work : Work) (here : Here) (s : State)
    → HasMore (step_by image w found address work here s)
    → step_by image (more w replies extra) found address work here s ≡ step_by image w found address work here s
decoded_more image w replies extra None address work here s g = refl
decoded_more image w replies extra (Some i) address work here s g =
    settle_more image w replies extra (act image i here.slots work s.memory.store) (site_of i address) here s g

-- what goes on later went on before
goes_before : (image : Image) (w : World) (n steps : ℕ) (m : Machine) → HasMore (run image w n steps m).machine → HasMore m
goes_before image w n steps (At address work here s) g = tt
goes_before image w zero steps (Halted stop address s) g = g
goes_before image w (suc n) steps (Halted stop address s) g = g

pub run_more : (image : Image) (w : World) (replies : List Reply) (extra n steps : ℕ) (m : Machine)
    → HasMore (run image w n steps m).machine → run image (more w replies extra) n steps m ≡ run image w n steps m
run_more image w replies extra zero steps m g = refl
run_more image w replies extra (suc n) steps (Halted stop address s) g = refl
run_more image w replies extra (suc n) steps (At address work here s) g =
    let before : HasMore (step image w address work here s) = goes_before image w n (steps + 1) (step image w address work here s) g in
    let same = decoded_more image w replies extra (instruction_at image.code address) address work here s before in
    ap (run image (more w replies extra) n (steps + 1)) same ∙ run_more image w replies extra n (steps + 1) (step image w address work here s) g
