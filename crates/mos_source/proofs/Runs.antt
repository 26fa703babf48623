-- A run of the reader, piece by piece.

use Rattle.std.proofs.Common.{◌≡◌, ℕ, ◌+◌, ◌<◌, List, [], ◌∷◌, ◌++◌, length, drop, get_or, Ok, Err, sym, ◌∙◌, ap, arith}
use Rattle.std.proofs.lemmas.List.{at_drop_more, at_drop_all, length_push}
use Rattle.mos_tree.specs.declared.form.PieceForm.{PieceForm}
use Rattle.mos_source.specs.declared.fault.PieceFault.{PieceFault}
use Rattle.mos_source.specs.declared.fault.PieceFault.TheVariants as fault
use Rattle.mos_source.specs.Sources.{limit}
use Rattle.mos_source.specs.Machine.{Stack, step, Outcome, finished_tree, at_end, run}
use Rattle.mos_source.specs.Runs.{TakesOne, TakesAll}
use Rattle.mos_source.proofs.Steps.{run-step}
use Rattle.mos_source.proofs.Whole.{run-wrong}

-- what is left of pieces begins with the next one
next-run : (pieces : List PieceForm) (i : ℕ) (x : PieceForm) (k : Stack) (o : Outcome) → i < length pieces → x ≡ get_or pieces i x → run limit k (drop i pieces) ≡ o → run limit k (x ∷ drop (i + 1) pieces) ≡ o
next-run pieces i x k o h at r = ap (λ z. run limit k (z ∷ drop (i + 1) pieces)) at ∙ sym (at_drop_more (run limit k) pieces i x h) ∙ r

-- with the next piece taken, the run goes on behind it
pub run-next : (pieces yielded : List PieceForm) (x : PieceForm) (k next : Stack) (o : Outcome) → length yielded < length pieces → x ≡ get_or pieces (length yielded) x → step limit k x ≡ Ok next → run limit k (drop (length yielded) pieces) ≡ o
    → run limit next (drop (length (yielded ++ x ∷ [])) pieces) ≡ o
run-next pieces yielded x k next o h at s r =
    ap (λ n. run limit next (drop n pieces)) (length_push yielded x) ∙ sym (run-step limit k next x (drop (length yielded + 1) pieces) s) ∙ next-run pieces (length yielded) x k o h at r

-- where the next piece is wrong, the run stops there
pub run-wrong-next : (pieces yielded : List PieceForm) (x : PieceForm) (k first next : Stack) (wrong : PieceFault) → length yielded < length pieces → x ≡ get_or pieces (length yielded) x → TakesOne k x next (Err wrong)
    → run limit k (drop (length yielded) pieces) ≡ run limit first pieces → TakesAll first pieces next (Err wrong)
run-wrong-next pieces yielded x k first next fault.NoMemory h at t r = tt
run-wrong-next pieces yielded x k first next (fault.At line kind) h at t r =
    record {
      left = x ∷ drop (length yielded + 1) pieces;
      run_is = sym (next-run pieces (length yielded) x k (run limit first pieces) h at r) ∙ run-wrong limit k x (drop (length yielded + 1) pieces) kind t.0;
      line_is = t.1;
    }

-- behind the last piece the tree is whole, or the pieces end too early
pub run-ends : (pieces yielded : List PieceForm) (k : Stack) (o : Outcome) → length yielded ≡ length pieces → run limit k (drop (length yielded) pieces) ≡ o → o ≡ at_end (finished_tree k)
run-ends pieces yielded k o h r = sym r ∙ at_drop_all (run limit k) pieces (length yielded) (omega (arith, h))
