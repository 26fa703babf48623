-- Where the machine lands: behind code that does what a form does it stands with the form's result, or is
-- over as the form stops. Nothing is owed of a form that is lost.

use Rattle.std.proofs.Common.{◌≡◌, ℕ, ◌+◌, List, [], ◌∷◌, ◌++◌, length, Option, Some, None, Bool, true, false, refl, sym, ap, subst, nat_lt, nat_le}
use Rattle.std.specs.Prelude.{if◌then◌else◌}
use Rattle.mos_text.specs.declared.fault_kind.FaultKind.TheVariants.{OutFull}
use Rattle.mos_text.specs.declared.scalar.Scalar.TheVariants.{Bool as Truth}
use Rattle.bim_code.specs.declared.image.Image.{Image}
use Rattle.bim_code.specs.declared.instruction.Instruction.{Instruction}
use Rattle.bim_code.specs.declared.instruction.Instruction.TheVariants.{Tick, JumpIf, JumpNot}
use Rattle.bim_code.specs.Code.{instruction_at}
use Rattle.mos_value.specs.Values.{Value, One, Place}
use Rattle.mos_value.specs.Answers.{Result, Gives, Faults, Sticks}
use Rattle.run_state.specs.Stops.{Stop, Exited, Failed, Spent, Stopped, Asking, Stuck, Lost}
use Rattle.run_state.specs.State.{World, State, with_store, Evaluation, Yields, StopsWith, bind, on_line, evaluation_of, with_counts, on_drawn, tick_if, write}
use Rattle.run_state.specs.Places.{put}
use Rattle.run_state.specs.Parameters.{and_then}
use Rattle.bim_machine.specs.Machine.{Machine, At, Halted, Work, Here, Site, push, on_evaluation, put_all, store_step, settle, Puts, Prints}
use Rattle.bim_machine.specs.Instructions.{act, act_by_result}
use Rattle.bim_machine.specs.Courses.{site_of}
use Rattle.mos_meaning.specs.Values.{on_truth, ticking}
use Rattle.mos_meaning.specs.Effects.{Normal, store_result as meant}
use Rattle.bim_compile.proofs.Leads.{Leads, same, chain, then_one}
use Rattle.bim_compile.proofs.Stores.{Known, Stores, Extends, extends, put_stores}

-- nothing is owed of what is lost
abbrev pub owed : Stop → Type 0 → Type 0
owed Lost A = Unit {0}
owed (Exited code) A = A
owed (Failed kind) A = A
owed Spent A = A
owed Stopped A = A
owed (Asking call) A = A
owed Stuck A = A

owed_map : {A B : Type 0} (stop : Stop) → (A → B) → owed stop A → owed stop B
owed_map Lost f x = tt
owed_map (Exited code) f x = f x
owed_map (Failed kind) f x = f x
owed_map Spent f x = f x
owed_map Stopped f x = f x
owed_map (Asking call) f x = f x
owed_map Stuck f x = f x

owe : {A : Type 0} (stop : Stop) → A → owed stop A
owe Lost x = tt
owe (Exited code) x = x
owe (Failed kind) x = x
owe Spent x = x
owe Stopped x = x
owe (Asking call) x = x
owe Stuck x = x

-- the machine comes to this stop, at some instruction
abbrev pub Ends : Image → World → Machine → Stop → State → Type 0
Ends image w from stop s =
    (store : List (List Value)) × Extends store s.memory.store × ((address : ℕ) × Leads image w from (Halted stop address (with_store store s)))

abbrev pub Landing : Image → World → {A : Type 0} → Known → (A → State → Machine) → Machine → Evaluation A → Type 0
Landing image w k to from (Yields x s) = (store : List (List Value)) × Stores k s.memory.store store × Leads image w from (to x (with_store store s))
Landing image w k to from (StopsWith stop line s) = owed stop (Ends image w from stop s)

pub record Lands (image : Image) (w : World) {A : Type 0} (k : Known) (to : A → State → Machine) (from : Machine) (o : Evaluation A) : Type 0 where
  pub by : Landing image w k to from o

-- a result
pub gave : {image : Image} {w : World} {A : Type 0} {k : Known} {to : A → State → Machine} (x : A) (s : State) (store : List (List Value))
    → Stores k s.memory.store store → Lands image w k to (to x (with_store store s)) (Yields x s)
gave x s store st = record { by = (store, st, same _) }

-- a stop
pub halts : {image : Image} {w : World} {A : Type 0} {k inner : Known} {to : A → State → Machine} (stop : Stop) (line : Option ℕ) (s : State) (store : List (List Value)) (address : ℕ)
    → Stores inner s.memory.store store → Lands image w k to (Halted stop address (with_store store s)) (StopsWith stop line s)
halts stop line s store address st = record { by = owe stop (store, extends st, (address, same _)) }

pub lost : {image : Image} {w : World} {A : Type 0} {k : Known} {to : A → State → Machine} {from : Machine} {line : Option ℕ} {s : State}
    → Lands image w k to from (StopsWith Lost line s)
lost = record { by = tt }

-- some steps before
pub onward : {image : Image} {w : World} {A : Type 0} {k : Known} {to : A → State → Machine} (from middle : Machine) (o : Evaluation A)
    → Leads image w from middle → Lands image w k to middle o → Lands image w k to from o
onward from middle (Yields x s) p l = record { by = (l.by.0, l.by.1, chain from middle _ p l.by.2) }
onward from middle (StopsWith stop line s) p l =
    record { by = owed_map stop (λ e. (e.0, e.1, (e.2.0, chain from middle _ p e.2.1))) l.by }

-- one thing, then what is done with its result
pub then_ : {image : Image} {w : World} {A B : Type 0} {k inner : Known} {middle : A → State → Machine} {to : B → State → Machine} {from : Machine} (o : Evaluation A) (go : A → State → Evaluation B)
    → Lands image w inner middle from o
    → ((x : A) (s : State) (store : List (List Value)) → Stores inner s.memory.store store → Lands image w k to (middle x (with_store store s)) (go x s))
    → Lands image w k to from (bind o go)
then_ {middle = middle} {from = from} (Yields x s) go l h = onward from (middle x (with_store l.by.0 s)) (go x s) l.by.2 (h x s l.by.0 l.by.1)
then_ (StopsWith stop line s) go l h = record { by = l.by }

-- a line for a stop changes nothing
pub marked : {image : Image} {w : World} {A : Type 0} {k : Known} {to : A → State → Machine} {from : Machine} (line : ℕ) (o : Evaluation A)
    → Lands image w k to from o → Lands image w k to from (on_line line o)
marked line (Yields x s) l = l
marked line (StopsWith stop inner s) l = record { by = l.by }

-- one instruction, then the rest
pub instruct : {image : Image} {w : World} {A : Type 0} {k : Known} {to : A → State → Machine} {o : Evaluation A} (i : Instruction) {address : ℕ} {work : Work} {here : Here} {s : State}
    → instruction_at image.code address ≡ Some i
    → Lands image w k to (settle image w (act image i here.slots work s.memory.store) (site_of i address) here s) o
    → Lands image w k to (At address work here s) o
instruct {o = o} i {address = address} {work = work} {here = here} {s = s} h l =
    onward (At address work here s) _ o (then_one i address work here s _ h (same _)) l

-- a tick
pub then_tick : {image : Image} {w : World} {A : Type 0} {k inner : Known} {to : A → State → Machine} {address : ℕ} {work : Work} {here : Here} (s : State) (store : List (List Value)) (go : State → Evaluation A)
    → Stores inner s.memory.store store → instruction_at image.code address ≡ Some Tick
    → ((s1 : State) → Stores inner s1.memory.store store → Lands image w k to (At (address + 1) work here (with_store store s1)) (go s1))
    → Lands image w k to (At address work here (with_store store s)) (ticking w s go)
then_tick {image = image} {w = w} {k = k} {to = to} {address = address} {work = work} {here = here} s store go st h p =
    instruct Tick h (tested (nat_lt s.counts.ticks w.budget))
  where
    tested : (b : Bool)
        → Lands image w k to (on_evaluation address (on_drawn (tick_if b s.counts) (with_store store s)) (λ done s1. At (address + 1) work here s1)) (bind (on_drawn (tick_if b s.counts) s) (λ done s1. go s1))
    tested true = p (with_counts (record s.counts { ticks = s.counts.ticks + 1 }) s) st
    tested false = halts Spent None s store address st

-- the answer of an operator
pub answer_lands : {image : Image} {w : World} {k : Known} {work : Work} {here : Here} (r : Result) (site : Site) (s : State) (store : List (List Value))
    → Stores k s.memory.store store
    → Lands image w k (λ v s1. At site.next (push v work) here s1) (settle image w (act_by_result r work) site here (with_store store s)) (evaluation_of r s)
answer_lands (Gives v) site s store st = gave v s store st
answer_lands (Faults kind) site s store st = halts (Failed kind) None s store site.at st
answer_lands Sticks site s store st = halts Stuck None s store site.at st

-- a jump where a condition is true
pub then_if : {image : Image} {w : World} {A : Type 0} {k inner : Known} {to : A → State → Machine} {address named : ℕ} {work : Work} {here : Here} (c : Value) (s : State) (store : List (List Value)) (when_true when_false : Evaluation A)
    → Stores inner s.memory.store store → instruction_at image.code address ≡ Some (JumpIf named)
    → Lands image w k to (At named work here (with_store store s)) when_true
    → Lands image w k to (At (address + 5) work here (with_store store s)) when_false
    → Lands image w k to (At address (push c work) here (with_store store s)) (on_truth c s when_true when_false)
then_if (One (Truth true)) s store when_true when_false st h p q = instruct (JumpIf _) h p
then_if (One (Truth false)) s store when_true when_false st h p q = instruct (JumpIf _) h q
then_if {address = address} c s store when_true when_false st h p q = instruct (JumpIf _) h (halts Stuck None s store address st)

-- a jump where it is false
pub then_not : {image : Image} {w : World} {A : Type 0} {k inner : Known} {to : A → State → Machine} {address named : ℕ} {work : Work} {here : Here} (c : Value) (s : State) (store : List (List Value)) (when_true when_false : Evaluation A)
    → Stores inner s.memory.store store → instruction_at image.code address ≡ Some (JumpNot named)
    → Lands image w k to (At (address + 5) work here (with_store store s)) when_true
    → Lands image w k to (At named work here (with_store store s)) when_false
    → Lands image w k to (At address (push c work) here (with_store store s)) (on_truth c s when_true when_false)
then_not (One (Truth true)) s store when_true when_false st h p q = instruct (JumpNot _) h p
then_not (One (Truth false)) s store when_true when_false st h p q = instruct (JumpNot _) h q
then_not {address = address} c s store when_true when_false st h p q = instruct (JumpNot _) h (halts Stuck None s store address st)

-- a value that is put
pub put_lands : {image : Image} {w : World} {k : Known} {work : Work} {here : Here} (place : Place) (v : Value) (site : Site) (s : State) (store : List (List Value))
    → Stores k s.memory.store store
    → Lands image w k (λ flow s1. At site.next work here s1) (settle image w (Puts ((place, v) ∷ []) work) site here (with_store store s)) (meant (put place v s.memory.store) s)
put_lands {image = image} {w = w} {k = k} {work = work} {here = here} place v site s store st = done (put place v s.memory.store) refl
  where
    done : (o : Option (List (List Value))) → put place v s.memory.store ≡ o
        → Lands image w k (λ flow s1. At site.next work here s1) (settle image w (Puts ((place, v) ∷ []) work) site here (with_store store s)) (meant o s)
    done None e = lost
    done (Some after) e =
        let both = put_stores place v after st e in
        let there : put_all ((place, v) ∷ []) store ≡ Some both.0 = ap (λ (o : Option (List (List Value))). and_then o (put_all [])) both.1 in
        subst (λ (o : Option (List (List Value))). Lands image w k (λ flow s1. At site.next work here s1) (store_step o work site here (with_store store s)) (Yields Normal (with_store after s))) (sym there)
        (gave Normal (with_store after s) both.0 both.2)

-- a text that is written, where it has room
abbrev written_if : Bool → List ℕ → State → Evaluation (Unit {0})
written_if b text s = if b then Yields tt (record s { memory = record s.memory { output = s.memory.output ++ text } }) else StopsWith (Failed OutFull) None s

pub write_lands : {image : Image} {w : World} {k : Known} {work : Work} {here : Here} (text : List ℕ) (site : Site) (s : State) (store : List (List Value))
    → Stores k s.memory.store store
    → Lands image w k (λ done s1. At site.next work here s1) (settle image w (Prints text work) site here (with_store store s)) (write text s)
write_lands {image = image} {w = w} {k = k} {work = work} {here = here} text site s store st = tested (nat_le (length s.memory.output + length text) 1048576)
  where
    tested : (b : Bool)
        → Lands image w k (λ done s1. At site.next work here s1) (on_evaluation site.at (written_if b text (with_store store s)) (λ done s1. At site.next work here s1)) (written_if b text s)
    tested true = gave tt (record s { memory = record s.memory { output = s.memory.output ++ text } }) store st
    tested false = halts (Failed OutFull) None s store site.at st
