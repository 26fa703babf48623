-- What is found wrong with a tree, as a fault of the reader.

use Rattle.std.proofs.Common.{◌≡◌, None, Result, Ok, Err, sym, subst}
use Rattle.std.specs.Prelude.{IfErr}
use Rattle.std.specs.Result.{IsErrAnd}
use Rattle.mos_tree.specs.declared.source.Tree.{Tree}
use Rattle.mos_check.specs.NotBuilt.{unbuilt_of}
use Rattle.mos_check.specs.Names.{check_of, Says}
use Rattle.mos_check.specs.declared.names.CheckFault.{CheckFault}
use Rattle.mos_check.specs.declared.names.CheckFault.TheVariants as checked
use Rattle.mosel_run.specs.declared.reader.fault.ReadFault.{ReadFault}
use Rattle.mosel_run.specs.Accepted.{found}
use Rattle.mosel_run.specs.ReadAnswers.{IsJudged, of_check}

said : (tree : Tree) (fault : CheckFault) → unbuilt_of tree ≡ None → Says (check_of tree) fault → IsJudged tree (of_check fault)
said tree (checked.Refused refusal) built h = found tree refusal.line refusal.kind built h
said tree checked.NoMemory built h = tt

pub judged : {A : Type 0} (tree : Tree) (fault : CheckFault) (result : Result A ReadFault) → Says (check_of tree) fault
    → IsErrAnd result (λ x. x ≡ of_check fault) → IfErr result (λ x. unbuilt_of tree ≡ None → IsJudged tree x)
judged tree fault (Ok x) h e = tt
judged tree fault (Err x) h e = λ built. subst (IsJudged tree) (sym e) (said tree fault built h)
