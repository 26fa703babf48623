-- What is said of a list whose last item has come.

use Rattle.std.proofs.Common.{◌≡◌, List, [], Option, Some, None, Result, Ok, Err, refl, sym, ◌∙◌, ap}
use Rattle.std.proofs.lemmas.List.{append-nil}
use Rattle.std.specs.Option.{ok_or}
use Rattle.mos_expr.specs.Said.{Gives}
use Rattle.mos_expr.specs.declared.fault.ExprFault.{ExprFault}
use Rattle.mos_expr.specs.declared.fault.ExprFault.TheVariants as expr_fault
use Rattle.mos_typing.specs.Joining.{on_ok, both, behind, first_of, alone}

pub gives_same : {A : Type 0} (r y : Result A ExprFault) → r ≡ y → Gives r y
gives_same (Err expr_fault.NoMemory) y e = tt
gives_same (Err expr_fault.NoExpr) y e = e
gives_same (Err expr_fault.Deep) y e = e
gives_same (Ok made) y e = e

none_left : {A : Type 0} (next : Option (List A)) → ok_or next expr_fault.Deep ≡ behind next (Ok [])
none_left None = refl
none_left (Some done) = ap (λ z. Ok z) (sym (append-nil done))

before_none : {A : Type 0} (read : Result A ExprFault) → both first_of read (Ok []) ≡ on_ok alone read
before_none (Ok item) = refl
before_none (Err expr_fault.Deep) = refl
before_none (Err expr_fault.NoExpr) = refl
before_none (Err expr_fault.NoMemory) = refl

pub finished : {A : Type 0} (done : Option (List A)) (read : Result A ExprFault) (next : Option (List A)) (r : Result (List A) ExprFault) → ((q : Result (List A) ExprFault) → behind next q ≡ behind done (both first_of read q)) → r ≡ ok_or next expr_fault.Deep → Gives r (behind done (on_ok alone read))
finished done read next r more e = gives_same r (behind done (on_ok alone read)) (e ∙ none_left next ∙ more (Ok []) ∙ ap (behind done) (before_none read))
