-- The machine leads from one of its states to another.

use Rattle.std.proofs.Common.{◌≡◌, ℕ, ◌+◌, suc, zero, Some, refl, sym, ap, subst}
use Rattle.bim_code.specs.declared.image.Image.{Image}
use Rattle.bim_code.specs.declared.instruction.Instruction.{Instruction}
use Rattle.bim_code.specs.Code.{instruction_at}
use Rattle.run_state.specs.State.{World, State}
use Rattle.bim_machine.specs.Machine.{Machine, At, Work, Here, settle}
use Rattle.bim_machine.specs.Instructions.{act}
use Rattle.bim_machine.specs.Courses.{site_of, step_by, step, run}

-- some number of steps leads from one state to the other
pub data Leads (image : Image) (w : World) : Machine → Machine → Type 0 where
  same : (m : Machine) → Leads image w m m
  then_step : (address : ℕ) (work : Work) (here : Here) (s : State) (to : Machine) → Leads image w (step image w address work here s) to → Leads image w (At address work here s) to

pub chain : {image : Image} {w : World} (a b c : Machine) → Leads image w a b → Leads image w b c → Leads image w a c
chain _ _ c (same m) q = q
chain {image = image} {w = w} _ _ c (then_step address work here s to p) q = then_step address work here s c (chain (step image w address work here s) to c p q)

-- one instruction, then the rest
pub then_one : {image : Image} {w : World} (i : Instruction) (address : ℕ) (work : Work) (here : Here) (s : State) (to : Machine)
    → instruction_at image.code address ≡ Some i
    → Leads image w (settle image w (act image i here.slots work s.memory.store) (site_of i address) here s) to
    → Leads image w (At address work here s) to
then_one {image = image} {w = w} i address work here s to h p =
    then_step address work here s to (subst (λ (m : Machine). Leads image w m to) (sym (ap (λ found. step_by image w found address work here s) h)) p)

-- the number of the steps
pub reached : {image : Image} {w : World} (a b : Machine) → Leads image w a b → (steps : ℕ) → (n : ℕ) × ((run image w n steps a).machine ≡ b)
reached _ _ (same m) steps = (zero, refl)
reached {image = image} {w = w} _ _ (then_step address work here s to p) steps =
    let rest = reached (step image w address work here s) to p (steps + 1) in (suc rest.0, rest.1)
