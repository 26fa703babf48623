-- What is said of two lists of words is said of both.

use Rattle.std.proofs.Common.{◌≡◌, ℕ, max, List, Result, refl, sym, subst}
use Rattle.mos_tree.specs.declared.expr.Expr.{Expr}
use Rattle.mos_scan.specs.declared.grammar_word.Word.{Word}
use Rattle.mos_expr.specs.Said.{IsExpression, AreSomeExpressions, Says}
use Rattle.mos_expr.specs.declared.fault.ExprFault.{ExprFault}
use Rattle.mos_typing.specs.Joining.{pair, both}
use Rattle.mos_typing.specs.Spellings.{AreBoth, AreIndexesAndValue}
use Rattle.mos_typing.proofs.Saying.{Parts, says_both}

module _ {A B : Type 0} (P : A → ℕ → Type 0) (R : B → ℕ → Type 0) where
  into_both : (a : A) (h : ℕ) (b : B) (k : ℕ) → P a h → R b k → AreBoth P R (pair a b) (max h k)
  into_both a h b k p r = record { first_high = h; rest_high = k; first_is = p; rest_is = r; high_is = refl }

  from_both : (c : A × B) (m : ℕ) → AreBoth P R c m → Parts P R pair c m
  from_both (a, b) m q = record { first = a; first_high = q.first_high; rest = b; rest_high = q.rest_high; first_is = q.first_is; rest_is = q.rest_is; is = refl; high_is = q.high_is }

pub says_sides : (indexes value : List Word) (a : Result (List Expr) ExprFault) (b : Result Expr ExprFault) (r : Result (List Expr × Expr) ExprFault) → Says (AreSomeExpressions indexes) a → Says (IsExpression value) b → r ≡ both pair a b → Says (AreIndexesAndValue indexes value) r
says_sides indexes value a b r k l e =
    subst (Says (AreIndexesAndValue indexes value)) (sym e)
    (says_both (AreSomeExpressions indexes) (IsExpression value) (AreIndexesAndValue indexes value) pair (into_both (AreSomeExpressions indexes) (IsExpression value)) (from_both (AreSomeExpressions indexes) (IsExpression value)) a b k l)
