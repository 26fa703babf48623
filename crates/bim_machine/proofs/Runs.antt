-- Steps one after the other.

use Rattle.std.proofs.Common.{◌≡◌, ◌≤◌, ℕ, ◌+◌, ◌-◌, zero, suc, refl, sym, ap, ◌∙◌, arith}
use Rattle.bim_code.specs.declared.image.Image.{Image}
use Rattle.run_state.specs.Stops.{Stop}
use Rattle.run_state.specs.State.{World, State}
use Rattle.bim_machine.specs.Machine.{Machine, At, Halted, Work, Here}
use Rattle.bim_machine.specs.Courses.{Progress, run, step}
use Rattle.bim_machine.specs.Laws.{IsOver, StoodBefore}

-- one that is over stays
pub run_over : (image : Image) (w : World) (n steps : ℕ) (stop : Stop) (address : ℕ) (s : State)
    → run image w n steps (Halted stop address s) ≡ record { steps = steps; machine = Halted stop address s }
run_over image w zero steps stop address s = refl
run_over image w (suc n) steps stop address s = refl

pub run_add : (image : Image) (w : World) (n m steps : ℕ) (a : Machine)
    → run image w (n + m) steps a ≡ run image w m (run image w n steps a).steps (run image w n steps a).machine
run_add image w zero m steps a = let e : 0 + m ≡ m = omega arith in rw e refl
run_add image w (suc n) m steps (Halted stop address s) =
    run_over image w (suc n + m) steps stop address s ∙ sym (run_over image w m steps stop address s)
run_add image w (suc n) m steps (At address work here s) =
    let e : suc n + m ≡ suc (n + m) = omega arith in
    rw e (run_add image w n m (steps + 1) (step image w address work here s))

-- a machine that still runs has taken each step
steps_all : (image : Image) (w : World) (n steps : ℕ) (m : Machine) (address : ℕ) (work : Work) (here : Here) (s : State)
    → (run image w n steps m).machine ≡ At address work here s → (run image w n steps m).steps ≡ steps + n
steps_all image w zero steps m address work here s e = omega arith
steps_all image w (suc n) steps (Halted stop a t) address work here s e = cc
steps_all image w (suc n) steps (At a other place t) address work here s e =
    let rest = steps_all image w n (steps + 1) (step image w a other place t) address work here s e in omega (arith, rest)

pub step_by_step : (image : Image) (w : World) (n steps address : ℕ) (work : Work) (here : Here) (s : State) (m : Machine)
    → (run image w n steps m).machine ≡ At address work here s
    → run image w (n + 1) steps m ≡ record { steps = steps + n + 1; machine = step image w address work here s }
step_by_step image w n steps address work here s m e =
    let all : (run image w n steps m).steps ≡ steps + n = steps_all image w n steps m address work here s e in
    run_add image w n 1 steps m ∙ ap (λ k. run image w 1 k (run image w n steps m).machine) all ∙ ap (run image w 1 (steps + n)) e

pub stays_over : (image : Image) (w : World) (n many steps : ℕ) (m : Machine)
    → IsOver (run image w n steps m).machine → n ≤ many → run image w many steps m ≡ run image w n steps m
stays_over image w n many steps m over less =
    let e : many ≡ n + (many - n) = omega (arith, less) in
    ap (λ k. run image w k steps m) e ∙ run_add image w n (many - n) steps m
    ∙ ap (run image w (many - n) (run image w n steps m).steps) over.by
    ∙ run_over image w (many - n) (run image w n steps m).steps over.stop over.address over.state
    ∙ ap (λ (a : Machine). record { steps = (run image w n steps m).steps; machine = a }) (sym over.by)

pub last_step : (image : Image) (w : World) (n steps address : ℕ) (work : Work) (here : Here) (s : State) (stop : Stop) (at : ℕ) (t : State)
    → (run image w n steps (At address work here s)).machine ≡ Halted stop at t → StoodBefore image w n steps (At address work here s) stop at t
last_step image w zero steps address work here s stop at t e = cc
last_step image w (suc n) steps address work here s stop at t e = once (step image w address work here s) refl e (last_step image w n (steps + 1))
  where
    once : (m : Machine) → step image w address work here s ≡ m → (run image w n (steps + 1) m).machine ≡ Halted stop at t
        → ((a : ℕ) (v : Work) (h : Here) (u : State) (other : Stop) (b : ℕ) (x : State) → (run image w n (steps + 1) (At a v h u)).machine ≡ Halted other b x
        → StoodBefore image w n (steps + 1) (At a v h u) other b x)
        → StoodBefore image w (suc n) steps (At address work here s) stop at t
    once (Halted other b x) is over later =
        let ended : Halted other b x ≡ Halted stop at t = sym (ap (λ (p : Progress). p.machine) (run_over image w n (steps + 1) other b x)) ∙ over in record {
          taken = 0;
          address = address;
          work = work;
          here = here;
          state = s;
          few = omega arith;
          before = ap (λ k. record { steps = k; machine = At address work here s }) (omega arith);
          last = is ∙ ended;
        }
    once (At a v h u) is over later =
        let rest = later a v h u stop at t over in
        let few = rest.few in
        let count : (steps + 1) + rest.taken ≡ steps + suc rest.taken = omega arith in record {
          taken = suc rest.taken;
          address = rest.address;
          work = rest.work;
          here = rest.here;
          state = rest.state;
          few = omega (arith, few);
          before =
              ap (run image w rest.taken (steps + 1)) is ∙ rest.before
              ∙ ap (λ k. record { steps = k; machine = At rest.address rest.work rest.here rest.state }) count;
          last = rest.last;
        }
