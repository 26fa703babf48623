-- The machine takes few steps for each tick: what is left to it falls at each step.

use Rattle.std.proofs.Common.{◌≡◌, ◌≤◌, ◌<◌, ℕ, ◌+◌, ◌-◌, ◌*◌, zero, suc, Bool, true, false, List, [], ◌∷◌, ◌++◌, length, Option, Some, None, refl, sym, ap, ◌∙◌, subst, slice_get, nat_le, nat_lt, drop, mul-add, arith}
use Rattle.std.specs.Prelude.{is_some, if◌then◌else◌, unwrap_or}
use Rattle.std.proofs.lemmas.Bool.Decides.{nat_tests}
use Rattle.job_calls.specs.declared.call.Call.{Call}
use Rattle.job_calls.specs.declared.reply.Reply.{Reply}
use Rattle.bim_code.specs.declared.image.Image.{Image}
use Rattle.bim_code.specs.declared.image.Routine.{Routine}
use Rattle.bim_code.specs.declared.instruction.Instruction.{Instruction}
use Rattle.bim_code.specs.declared.instruction.Instruction.TheVariants.{Tick}
use Rattle.bim_code.specs.Rows.{width, named_address}
use Rattle.bim_code.specs.Code.{instruction_at}
use Rattle.bim_code.specs.Rules.{KeepsTicks}
use Rattle.mos_value.specs.Values.{Value, Operand}
use Rattle.mos_text.specs.declared.fault_kind.FaultKind.TheVariants.{OutFull}
use Rattle.run_state.specs.Stops.{Stop, Failed}
use Rattle.run_state.specs.State.{World, State, Counts, with_counts, on_drawn, tick, tick_if, Yields, StopsWith, write}
use Rattle.run_state.specs.Calls.{Query, Once, UntilEnd, Answer, stop_by, with_call, reply_or_stop, drawn_reply, as_answer, Piece, Part, Last, NoPiece, piece_in, drawn_bytes, drawn_piece, drain, inquire}
use Rattle.run_state.specs.Places.{Argument}
use Rattle.bim_machine.specs.Machine.{Machine, At, Halted, Work, Caller, Here, Site, Act, On, Jumps, Stops, Puts, Prints, Ticks, Asks, Enters, Leaves, on_evaluation, store_step, begins, begins_routine, enters, work_behind, resumes, leaves, settle}
use Rattle.bim_machine.specs.Instructions.{act}
use Rattle.bim_machine.specs.Courses.{Progress, site_of, step_by, step, run, start, most_steps}
use Rattle.bim_machine.specs.Laws.{IsOver, state_in}
use Rattle.bim_machine.proofs.Runs.{run_over}
use Rattle.bim_machine.proofs.AddressPlaces.{place_from, place_next, place_behind}

-- what the ticks that are left are worth, two rounds of the code for each
abbrev worth : ℕ → ℕ → ℕ
worth many zero = 0
worth many (suc ticks) = worth many ticks + many + many

-- what goes back to callers is worth one round for each
abbrev weight : ℕ → List Caller → ℕ
weight many [] = 0
weight many (caller ∷ callers) = weight many callers + many

abbrev is_tick : Instruction → Bool
is_tick Tick = true
is_tick _ = false

-- before anything but a tick there may be one jump back
abbrev spare : ℕ → Option Instruction → ℕ
spare many None = many
spare many (Some i) = if is_tick i then 0 else many

spare_within : (many : ℕ) (found : Option Instruction) → spare many found ≤ many
spare_within many None = omega arith
spare_within many (Some i) = tested (is_tick i)
  where
    tested : (b : Bool) → (if b then 0 else many) ≤ many
    tested true = omega arith
    tested false = omega arith

-- the steps that may be left at an address, with so many ticks left
abbrev left_at : Image → ℕ → List Caller → ℕ → ℕ
left_at image address callers ticks =
    (length image.code - place_from 0 image.code address) + worth (length image.code) ticks + spare (length image.code) (instruction_at image.code address) + weight (length image.code) callers

abbrev ticks_left : World → State → ℕ
ticks_left w s = w.budget - s.counts.ticks

-- a step leaves fewer
data Fewer (image : Image) (w : World) (most : ℕ) : Machine → Type 0 where
  stands : (address : ℕ) (work : Work) (here : Here) (s : State) → left_at image address here.callers (ticks_left w s) < most → Fewer image w most (At address work here s)
  stops : (stop : Stop) (address : ℕ) (s : State) → worth (length image.code) (ticks_left w s) < most → Fewer image w most (Halted stop address s)

-- a tick, and what is done with one less
tick_fewer : (image : Image) (w : World) (most at : ℕ) (s : State) (go : Unit {0} → State → Machine)
    → worth (length image.code) (ticks_left w s) < most
    → ((s1 : State) → ticks_left w s ≡ suc (ticks_left w s1) → Fewer image w most (go tt s1))
    → Fewer image w most (on_evaluation at (on_drawn (tick w s.counts) s) go)
tick_fewer image w most at s go less h = tested (nat_lt s.counts.ticks w.budget) refl
  where
    tested : (b : Bool) → nat_lt s.counts.ticks w.budget ≡ b → Fewer image w most (on_evaluation at (on_drawn (tick_if b s.counts) s) go)
    tested true e =
        let one : w.budget - s.counts.ticks ≡ suc (w.budget - (s.counts.ticks + 1)) = grind (arith, nat_tests, e) in
        h (with_counts (record s.counts { ticks = s.counts.ticks + 1 }) s) one
    tested false e = stops _ at s less

-- a pipe that is taken until its end
drain_fewer : (image : Image) (w : World) (most at : ℕ) (call : Call) (rs : List Reply) (sofar : List ℕ) (counts : Counts) (s : State) (go : Answer → State → Machine)
    → worth (length image.code) (w.budget - counts.ticks) < most
    → ((answer : Answer) (s1 : State) → ticks_left w s1 ≡ w.budget - counts.ticks → Fewer image w most (go answer s1))
    → Fewer image w most (on_evaluation at (on_drawn (drain call rs sofar counts) s) go)
drain_fewer image w most at call [] sofar counts s go less h = stops _ at (with_counts counts s) less
drain_fewer image w most at call (r ∷ rs) sofar counts s go less h =
    by_reply (stop_by r) (piece_in r) (λ bytes. drain_fewer image w most at call rs bytes (with_call call counts) s go less h)
  where
    fitting : (b : Bool) (bytes : List ℕ) → Fewer image w most (on_evaluation at (on_drawn (drain call rs bytes (with_call call counts)) s) go)
        → Fewer image w most (on_evaluation at (on_drawn (drawn_bytes b bytes (with_call call counts) (drain call rs)) s) go)
    fitting true bytes later = later
    fitting false bytes later = stops _ at (with_counts (with_call call counts) s) less

    by_reply : (o : Option Stop) (piece : Piece) → ((bytes : List ℕ) → Fewer image w most (on_evaluation at (on_drawn (drain call rs bytes (with_call call counts)) s) go))
        → Fewer image w most (on_evaluation at (on_drawn (drawn_piece o piece sofar (with_call call counts) (drain call rs)) s) go)
    by_reply (Some stop) piece later = stops stop at (with_counts (with_call call counts) s) less
    by_reply None (Part bytes) later = fitting (nat_le (length (sofar ++ bytes)) 1048576) (sofar ++ bytes) (later (sofar ++ bytes))
    by_reply None Last later = h _ (with_counts (with_call call counts) s) refl
    by_reply None NoPiece later = stops _ at (with_counts (with_call call counts) s) less

-- a call
ask_fewer : (image : Image) (w : World) (most at : ℕ) (query : Query) (s : State) (go : Answer → State → Machine)
    → worth (length image.code) (ticks_left w s) < most
    → ((answer : Answer) (s1 : State) → ticks_left w s1 ≡ ticks_left w s → Fewer image w most (go answer s1))
    → Fewer image w most (on_evaluation at (on_drawn (inquire w query s.counts) s) go)
ask_fewer image w most at (Once call) s go less h = found (slice_get w.replies (length s.counts.calls))
  where
    answered : (r : Reply) (o : Option Stop) → Fewer image w most (on_evaluation at (on_drawn (as_answer (reply_or_stop o r (with_call call s.counts))) s) go)
    answered r None = h _ (with_counts (with_call call s.counts) s) refl
    answered r (Some stop) = stops stop at (with_counts (with_call call s.counts) s) less

    found : (o : Option Reply) → Fewer image w most (on_evaluation at (on_drawn (as_answer (drawn_reply o call s.counts)) s) go)
    found None = stops _ at s less
    found (Some r) = answered r (stop_by r)
ask_fewer image w most at (UntilEnd call) s go less h = drain_fewer image w most at call (drop (length s.counts.calls) w.replies) [] s.counts s go less h

-- what is written
write_fewer : (image : Image) (w : World) (most at : ℕ) (text : List ℕ) (s : State) (go : Unit {0} → State → Machine)
    → worth (length image.code) (ticks_left w s) < most
    → ((s1 : State) → ticks_left w s1 ≡ ticks_left w s → Fewer image w most (go tt s1))
    → Fewer image w most (on_evaluation at (write text s) go)
write_fewer image w most at text s go less h = tested (nat_le (length s.memory.output + length text) 1048576)
  where
    tested : (b : Bool) → Fewer image w most (on_evaluation at (if b then Yields tt (record s { memory = record s.memory { output = s.memory.output ++ text } }) else StopsWith (Failed OutFull) None s) go)
    tested true = h (record s { memory = record s.memory { output = s.memory.output ++ text } }) refl
    tested false = stops _ at s less

-- anywhere in the code, with these callers
left_within : (image : Image) (address : ℕ) (callers : List Caller) (ticks : ℕ)
    → left_at image address callers ticks ≤ length image.code + worth (length image.code) ticks + length image.code + weight (length image.code) callers
left_within image address callers ticks = let h = spare_within (length image.code) (instruction_at image.code address) in omega (arith, h)

-- a routine begins anywhere, with one caller more
enters_fewer : (image : Image) (w : World) (most : ℕ) (deep : Bool) (number : ℕ) (work : Work) (site : Site) (here : Here) (s : State)
    → length image.code + worth (length image.code) (ticks_left w s) + length image.code + weight (length image.code) here.callers + length image.code < most
    → Fewer image w most (enters deep image number work site here s)
enters_fewer image w most false number work site here s less = stops _ site.at s (omega (arith, less))
enters_fewer image w most true number work site here s less = entered (slice_get image.routines number)
  where
    begun : (routine : Routine) (given : Option (List Argument × List Operand)) (others : Option (List Value)) → Fewer image w most (begins given others routine work site here s)
    begun routine None others = stops _ site.at s (omega (arith, less))
    begun routine (Some one) None = stops _ site.at s (omega (arith, less))
    begun routine (Some (given, stack)) (Some others) =
        let within = left_within image routine.address (record { work = record work { stack = stack }; slots = here.slots; back = here.back; awaits_value = is_some routine.result } ∷ here.callers) (ticks_left w s) in
        stands routine.address _ _ _ (omega (arith, less, within))

    entered : (o : Option Routine) → Fewer image w most (begins_routine image o work site here s)
    entered None = stops _ site.at s (omega (arith, less))
    entered (Some routine) = begun routine _ _

leaves_fewer : (image : Image) (w : World) (most : ℕ) (callers : List Caller) (result : Option Value) (site : Site) (here : Here) (s : State)
    → worth (length image.code) (ticks_left w s) + weight (length image.code) callers + length image.code < most
    → Fewer image w most (leaves callers result site here s)
leaves_fewer image w most [] result site here s less = stops _ site.at s (omega (arith, less))
leaves_fewer image w most (caller ∷ callers) result site here s less = resumed (work_behind caller.awaits_value result caller.work)
  where
    resumed : (o : Option Work) → Fewer image w most (resumes o caller callers site here s)
    resumed None = stops _ site.at s (omega (arith, less))
    resumed (Some work) =
        let within = left_within image here.back callers (ticks_left w s) in stands here.back _ _ _ (omega (arith, less, within))

stored_fewer : (image : Image) (w : World) (most : ℕ) (store : Option (List (List Value))) (work : Work) (site : Site) (here : Here) (s : State)
    → worth (length image.code) (ticks_left w s) < most → left_at image site.next here.callers (ticks_left w s) < most
    → Fewer image w most (store_step store work site here s)
stored_fewer image w most None work site here s less on = stops _ site.at s less
stored_fewer image w most (Some store) work site here s less on = stands site.next work here _ on

-- an act leads on, or where the instruction names, or stops; with fewer ticks it leaves fewer steps still
settled_fewer : (image : Image) (w : World) (most : ℕ) (a : Act) (site : Site) (here : Here) (s : State) (ticks : ℕ) → ticks_left w s ≡ ticks
    → left_at image site.next here.callers ticks < most → left_at image site.named here.callers ticks < most
    → worth (length image.code) ticks + weight (length image.code) here.callers + length image.code < most
    → Fewer image w most (settle image w a site here s)
settled_fewer image w most (On work) site here s ticks e on jump room =
    stands site.next work here s (subst (λ t. left_at image site.next here.callers t < most) (sym e) on)
settled_fewer image w most (Jumps work) site here s ticks e on jump room =
    stands site.named work here s (subst (λ t. left_at image site.named here.callers t < most) (sym e) jump)
settled_fewer image w most (Stops halt) site here s ticks e on jump room = stops _ site.at s (rw e (omega (arith, room)))
settled_fewer image w most (Puts values work) site here s ticks e on jump room =
    stored_fewer image w most _ work site here s (rw e (omega (arith, room))) (subst (λ t. left_at image site.next here.callers t < most) (sym e) on)
settled_fewer image w most (Prints text work) site here s ticks e on jump room =
    write_fewer image w most site.at text s _ (rw e (omega (arith, room)))
    (λ s1 same. stands site.next work here s1 (subst (λ t. left_at image site.next here.callers t < most) (sym (same ∙ e)) on))
settled_fewer image w most (Ticks a) site here s ticks e on jump room =
    tick_fewer image w most site.at s _ (rw e (omega (arith, room))) (λ s1 less.
    let now : ticks ≡ suc (ticks_left w s1) = sym e ∙ less in
    let worth_now : worth (length image.code) ticks ≡ worth (length image.code) (ticks_left w s1) + length image.code + length image.code = ap (worth (length image.code)) now in
    settled_fewer image w most a site here s1 (ticks_left w s1) refl (omega (arith, on, worth_now)) (omega (arith, jump, worth_now)) (omega (arith, room, worth_now)))
settled_fewer image w most (Asks query go) site here s ticks e on jump room =
    ask_fewer image w most site.at query s _ (rw e (omega (arith, room)))
    (λ answer s1 same. settled_fewer image w most (go answer) site here s1 ticks (same ∙ e) on jump room)
settled_fewer image w most (Enters number work) site here s ticks e on jump room =
    tick_fewer image w most site.at s _ (rw e (omega (arith, room))) (λ s1 less.
    let now : ticks ≡ suc (ticks_left w s1) = sym e ∙ less in
    let worth_now : worth (length image.code) ticks ≡ worth (length image.code) (ticks_left w s1) + length image.code + length image.code = ap (worth (length image.code)) now in
    enters_fewer image w most _ number work site here s1 (omega (arith, room, worth_now)))
settled_fewer image w most (Leaves result) site here s ticks e on jump room =
    leaves_fewer image w most here.callers result site here s (rw e room)

step_fewer : (image : Image) (w : World) → KeepsTicks image → (address : ℕ) (work : Work) (here : Here) (s : State)
    → Fewer image w (left_at image address here.callers (ticks_left w s)) (step image w address work here s)
step_fewer image w keeps address work here s = seen (instruction_at image.code address) refl
  where
    ticks_on : instruction_at image.code address ≡ Some Tick
        → Fewer image w (left_at image address here.callers (ticks_left w s)) (step_by image w (Some Tick) address work here s)
    ticks_on found =
        let next = place_next 0 image.code address Tick found in
        let one = next.0 in
        let two = next.1 in
        tick_fewer image w _ address s _ (omega (arith, two)) (λ s1 less.
        let within = spare_within (length image.code) (instruction_at image.code (address + 1)) in
        let worth_now : worth (length image.code) (ticks_left w s) ≡ worth (length image.code) (ticks_left w s1) + length image.code + length image.code = ap (worth (length image.code)) less in
        stands (address + 1) work here s1 (omega (arith, within, one, two, worth_now)))

    jumps : (i : Instruction) (named : Option ℕ) → named_address i ≡ named → instruction_at image.code address ≡ Some i
        → spare (length image.code) (instruction_at image.code address) ≡ length image.code
        → left_at image (address + width i) here.callers (ticks_left w s) < left_at image address here.callers (ticks_left w s)
        → left_at image (unwrap_or named (address + width i)) here.callers (ticks_left w s) < left_at image address here.callers (ticks_left w s)
    jumps i None e found spared on = on
    jumps i (Some to) e found spared on = tested (nat_le to address) refl
      where
        tested : (b : Bool) → nat_le to address ≡ b → left_at image to here.callers (ticks_left w s) < left_at image address here.callers (ticks_left w s)
        tested true t =
            let less : to ≤ address = grind (arith, nat_tests, t) in
            let two = (place_next 0 image.code address i found).1 in
            let none : spare (length image.code) (instruction_at image.code to) ≡ 0 = ap (spare (length image.code)) (keeps.back address i to found e less) in
            omega (arith, none, spared, two)
        tested false t =
            let less : address < to = grind (arith, nat_tests, t) in
            let behind = place_behind 0 image.code address to i found less in
            let two = (place_next 0 image.code address i found).1 in
            let within = spare_within (length image.code) (instruction_at image.code to) in
            omega (arith, behind, within, spared, two)

    others_on : (i : Instruction) → instruction_at image.code address ≡ Some i → is_tick i ≡ false
        → Fewer image w (left_at image address here.callers (ticks_left w s)) (step_by image w (Some i) address work here s)
    others_on i found e =
        let many : ℕ = length image.code in
        let spared : spare many (instruction_at image.code address) ≡ many = ap (spare many) found ∙ ap (λ b. if b then 0 else many) e in
        let next = place_next 0 image.code address i found in
        let one = next.0 in
        let two = next.1 in
        let within = spare_within many (instruction_at image.code (address + width i)) in
        let on : left_at image (address + width i) here.callers (ticks_left w s) < left_at image address here.callers (ticks_left w s) = omega (arith, one, two, within, spared) in
        settled_fewer image w _ (act image i here.slots work s.memory.store) (site_of i address) here s (ticks_left w s) refl
        on (jumps i (named_address i) refl found spared on) (omega (arith, two, spared))

    by_instruction : (i : Instruction) → instruction_at image.code address ≡ Some i
        → Fewer image w (left_at image address here.callers (ticks_left w s)) (step_by image w (Some i) address work here s)
    by_instruction Tick found = ticks_on found
    by_instruction i found = others_on i found refl

    seen : (found : Option Instruction) → instruction_at image.code address ≡ found
        → Fewer image w (left_at image address here.callers (ticks_left w s)) (step_by image w found address work here s)
    seen None e =
        let spared : spare (length image.code) (instruction_at image.code address) ≡ length image.code = ap (spare (length image.code)) e in
        let some = keeps.some in
        stops _ address s (omega (arith, spared, some))
    seen (Some i) e = by_instruction i e

over_by : (image : Image) (w : World) → KeepsTicks image → (n steps address : ℕ) (work : Work) (here : Here) (s : State)
    → left_at image address here.callers (ticks_left w s) ≤ n → IsOver (run image w n steps (At address work here s)).machine
over_by image w keeps zero steps address work here s within = none (step image w address work here s) (step_fewer image w keeps address work here s)
  where
    none : (m : Machine) → Fewer image w (left_at image address here.callers (ticks_left w s)) m → IsOver (At address work here s)
    none _ (stands a v h t less) = absurd (omega (arith, less, within))
    none _ (stops stop a t less) = absurd (omega (arith, less, within))
over_by image w keeps (suc n) steps address work here s within =
    once (step image w address work here s) (step_fewer image w keeps address work here s) (over_by image w keeps n (steps + 1))
  where
    once : (m : Machine) → Fewer image w (left_at image address here.callers (ticks_left w s)) m
        → ((a : ℕ) (v : Work) (h : Here) (t : State) → left_at image a h.callers (ticks_left w t) ≤ n → IsOver (run image w n (steps + 1) (At a v h t)).machine)
        → IsOver (run image w n (steps + 1) m).machine
    once _ (stands a v h t less) later = later a v h t (omega (arith, less, within))
    once _ (stops stop a t less) later =
        record { stop = stop; address = a; state = t; by = ap (λ (p : Progress). p.machine) (run_over image w n (steps + 1) stop a t) }

-- the steps that were taken, and what is left behind them
abbrev worth_behind : Image → World → Progress → ℕ
worth_behind image w p = p.steps + worth (length image.code) (ticks_left w (state_in p.machine))

few_by : (image : Image) (w : World) → KeepsTicks image → (n steps address : ℕ) (work : Work) (here : Here) (s : State)
    → worth_behind image w (run image w n steps (At address work here s)) ≤ steps + left_at image address here.callers (ticks_left w s)
few_by image w keeps zero steps address work here s = omega arith
few_by image w keeps (suc n) steps address work here s =
    once (step image w address work here s) (step_fewer image w keeps address work here s) (few_by image w keeps n (steps + 1))
  where
    once : (m : Machine) → Fewer image w (left_at image address here.callers (ticks_left w s)) m
        → ((a : ℕ) (v : Work) (h : Here) (t : State) → worth_behind image w (run image w n (steps + 1) (At a v h t)) ≤ steps + 1 + left_at image a h.callers (ticks_left w t))
        → worth_behind image w (run image w n (steps + 1) m) ≤ steps + left_at image address here.callers (ticks_left w s)
    once _ (stands a v h t less) later = let rest = later a v h t in omega (arith, rest, less)
    once _ (stops stop a t less) later =
        let stays : worth_behind image w (run image w n (steps + 1) (Halted stop a t)) ≡ steps + 1 + worth (length image.code) (ticks_left w t) = ap (worth_behind image w) (run_over image w n (steps + 1) stop a t) in
        omega (arith, stays, less)

worth_is : (many t : ℕ) → many * (2 * t + 2) ≡ worth many t + many + many
worth_is many zero = omega arith
worth_is many (suc t) =
    let e : 2 * suc t + 2 ≡ 2 * t + 2 + 2 = omega arith in
    let rest = worth_is many t in
    let sum : many * (2 * t + 2 + 2) ≡ many * (2 * t + 2) + many * 2 = mul-add many (2 * t + 2) 2 in
    ap (λ x. many * x) e ∙ sum ∙ (omega (arith, rest))

worth_split : (many d e : ℕ) → worth many (d + e) ≡ worth many d + worth many e
worth_split many zero e = let z : 0 + e ≡ e = omega arith in rw z (omega arith)
worth_split many (suc d) e =
    let s : suc d + e ≡ suc (d + e) = omega arith in
    let rest = worth_split many d e in rw s (omega (arith, rest))

pub over_in_time : (image : Image) (w : World) (values : List Value) → KeepsTicks image
    → IsOver (run image w (most_steps image w.budget) 0 (start values)).machine
over_in_time image w values keeps =
    let is = worth_is (length image.code) w.budget in
    let all : w.budget - 0 ≡ w.budget = omega arith in
    let same : worth (length image.code) (w.budget - 0) ≡ worth (length image.code) w.budget = ap (worth (length image.code)) all in
    let within = left_within image 0 [] (w.budget - 0) in
    over_by image w keeps (most_steps image w.budget) 0 0 _ _ _ (omega (arith, is, within, same))

-- few steps for the ticks that were taken, where these are within the budget
pub few_steps : (image : Image) (w : World) (values : List Value) (n : ℕ) → KeepsTicks image
    → (state_in (run image w n 0 (start values)).machine).counts.ticks ≤ w.budget
    → (run image w n 0 (start values)).steps ≤ most_steps image (state_in (run image w n 0 (start values)).machine).counts.ticks
few_steps image w values n keeps fits =
    let many : ℕ = length image.code in
    let p : Progress = run image w n 0 (start values) in
    let taken : ℕ = (state_in p.machine).counts.ticks in
    let few : p.steps + worth many (w.budget - taken) ≤ 0 + left_at image 0 [] (w.budget - 0) = few_by image w keeps n 0 0 _ _ _ in
    let within = left_within image 0 [] (w.budget - 0) in
    let all : w.budget - 0 ≡ w.budget = omega arith in
    let same : worth many (w.budget - 0) ≡ worth many w.budget = ap (worth many) all in
    let is = worth_is many taken in
    let split : worth many (taken + (w.budget - taken)) ≡ worth many taken + worth many (w.budget - taken) = worth_split many taken (w.budget - taken) in
    let whole : taken + (w.budget - taken) ≡ w.budget = omega (arith, fits) in
    let parts : worth many w.budget ≡ worth many taken + worth many (w.budget - taken) = ap (worth many) (sym whole) ∙ split in
    omega (arith, few, within, is, parts, same)
