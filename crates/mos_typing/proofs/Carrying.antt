-- A list that is read item by item: what is said of the rest, behind what is front, is said of the whole.

use Rattle.std.proofs.Common.{◌≡◌, ℕ, List, Option, Some, None, Result, Err, refl, sym, subst}
use Rattle.std.specs.Prelude.{IsErrOf}
use Rattle.mos_expr.specs.Said.{Gives, Says}
use Rattle.mos_expr.specs.declared.fault.ExprFault.{ExprFault}
use Rattle.mos_expr.specs.declared.fault.ExprFault.TheVariants as expr_fault
use Rattle.mos_typing.specs.Joining.{on_ok, both, behind, alone, first_of}
use Rattle.mos_typing.proofs.Saying.{says_gives, says_want}

pub record Carries {A : Type 0} (Rest Whole : List A → ℕ → Type 0) (front : Option (List A)) : Type 0 where
  pub over : (r : Result (List A) ExprFault) → Says Rest r → Says Whole (behind front r)

pub carries_more : {A : Type 0} (Rest Whole After : List A → ℕ → Type 0) (front next : Option (List A)) (read : Result A ExprFault) → Carries Rest Whole front → ((r : Result (List A) ExprFault) → Says After r → Says Rest (both first_of read r)) → ((q : Result (List A) ExprFault) → behind next q ≡ behind front (both first_of read q)) → Carries After Whole next
carries_more Rest Whole After front next read k more e = record { over = λ r s. subst (Says Whole) (sym (e r)) (k.over (both first_of read r) (more r s)) }

behind_nothing : {A : Type 0} (front : Option (List A)) → behind front (Err expr_fault.NoExpr) ≡ Err expr_fault.NoExpr
behind_nothing None = refl
behind_nothing (Some front) = refl

-- no item here: no list
pub carries_nothing : {A : Type 0} (Rest Whole After : List A → ℕ → Type 0) (front : Option (List A)) (read : Result A ExprFault) → Carries Rest Whole front → ((r : Result (List A) ExprFault) → Says After r → Says Rest (both first_of read r)) → read ≡ Err expr_fault.NoExpr → Says Whole (Err expr_fault.NoExpr)
carries_nothing Rest Whole After front read k more e =
    let s : Says Rest (both first_of read (Err expr_fault.NoMemory)) = more (Err expr_fault.NoMemory) (says_want After) in
    let t : Says Rest (Err expr_fault.NoExpr) = subst (λ z. Says Rest (both first_of z (Err expr_fault.NoMemory))) e s in
    subst (Says Whole) (behind_nothing front) (k.over (Err expr_fault.NoExpr) t)

pub carries_fault : {A : Type 0} (Rest Whole After : List A → ℕ → Type 0) (front : Option (List A)) (read : Result A ExprFault) (stopped : Result (Option (List A)) ExprFault) (fault : ExprFault) → Carries Rest Whole front → ((r : Result (List A) ExprFault) → Says After r → Says Rest (both first_of read r)) → stopped ≡ Err fault → (IsErrOf stopped expr_fault.NoExpr → read ≡ Err expr_fault.NoExpr) → (IsErrOf stopped expr_fault.Deep → ⊥) → Says Whole (Err fault)
carries_fault Rest Whole After front read stopped expr_fault.NoExpr k more e none never = carries_nothing Rest Whole After front read k more (none e)
carries_fault Rest Whole After front read stopped expr_fault.Deep k more e none never = absurd (never e)
carries_fault Rest Whole After front read stopped expr_fault.NoMemory k more e none never = says_want Whole

pub carries_end : {A : Type 0} (Rest Whole : List A → ℕ → Type 0) (front : Option (List A)) (read : Result A ExprFault) (result : Result (List A) ExprFault) → Carries Rest Whole front → Says Rest (on_ok alone read) → Gives result (behind front (on_ok alone read)) → Says Whole result
carries_end Rest Whole front read result k s g = says_gives Whole result (behind front (on_ok alone read)) g (k.over (on_ok alone read) s)
