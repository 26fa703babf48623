-- the source has the tree that was parsed, and no other; what is wrong with it is the refusal
use Rattle.std.specs.Prelude.{ℕ, Result, IfErr}
use Rattle.mos_text.specs.declared.kind.Kind.{Kind}
use Rattle.mos_tree.specs.declared.source.Tree.{Tree}
use Rattle.mosel_run.specs.declared.reader.fault.ReadFault.{ReadFault}
use Rattle.mosel_run.specs.Accepted.{IsAccepted, IsRefusedAt}
use Rattle.mosel_run.specs.ReadAnswers.{IsRefusal, GivesTree, GivesRefusal}
use Rattle.mosel_run.proofs.Refusals.{HasOnly, syntax-refusal, syntax-only_tree, syntax-only_refusal, judged-refusal, judged-only_tree, judged-only_refusal, sound-only_refusal, handed-on}
use Rattle.mosel_run.proofs.reader.read_source.Goals as goal

pub returns-in_err-tree-clause-refusal : goal.returns-in_err-tree-clause-refusal
returns-in_err-tree-clause-refusal c =
    syntax-refusal c.args.source.now c.in_err-tree.field-0.0 c.from_residual.result c.in_err-tree.ensures.faulty c.from_residual.ensures.1

pub returns-in_err-judge-clause-refusal : goal.returns-in_err-judge-clause-refusal
returns-in_err-judge-clause-refusal c =
    let has : HasOnly c.args.source.now c.in_ok-tree.tree = record {
      parsed = c.in_ok-tree.ensures.found;
      only = c.in_ok-tree.ensures.only;
      only_fault = c.in_ok-tree.ensures.only_fault;
    } in
    handed-on (λ (r : Result Tree ReadFault). IfErr r (IsRefusal c.args.source.now)) c.in_err-judge.field-0.0 c.from_residual-in_err-judge.result
    (judged-refusal c.args.source.now c.in_ok-tree.tree c.in_err-judge.field-0.0 has c.in_err-judge.ensures.wrong)
    c.from_residual-in_err-judge.ensures.1

pub returns-in_err-judge-clause-only_tree : goal.returns-in_err-judge-clause-only_tree
returns-in_err-judge-clause-only_tree c =
    let has : HasOnly c.args.source.now c.in_ok-tree.tree = record {
      parsed = c.in_ok-tree.ensures.found;
      only = c.in_ok-tree.ensures.only;
      only_fault = c.in_ok-tree.ensures.only_fault;
    } in
    handed-on (λ (r : Result Tree ReadFault). (tree : Tree) → IsAccepted c.args.source.now tree → GivesTree r tree) c.in_err-judge.field-0.0 c.from_residual-in_err-judge.result
    (judged-only_tree c.args.source.now c.in_ok-tree.tree c.in_err-judge.field-0.0 has c.in_err-judge.ensures.wrong)
    c.from_residual-in_err-judge.ensures.1

pub returns-in_err-judge-clause-only_refusal : goal.returns-in_err-judge-clause-only_refusal
returns-in_err-judge-clause-only_refusal c =
    let has : HasOnly c.args.source.now c.in_ok-tree.tree = record {
      parsed = c.in_ok-tree.ensures.found;
      only = c.in_ok-tree.ensures.only;
      only_fault = c.in_ok-tree.ensures.only_fault;
    } in
    handed-on (λ (r : Result Tree ReadFault). (line : ℕ) (kind : Kind) → IsRefusedAt c.args.source.now line kind → GivesRefusal r line kind) c.in_err-judge.field-0.0 c.from_residual-in_err-judge.result
    (judged-only_refusal c.args.source.now c.in_ok-tree.tree c.in_err-judge.field-0.0 has c.in_err-judge.ensures.wrong)
    c.from_residual-in_err-judge.ensures.1

pub returns-clause-only_refusal : goal.returns-clause-only_refusal
returns-clause-only_refusal c =
    let has : HasOnly c.args.source.now c.in_ok-tree.tree = record {
      parsed = c.in_ok-tree.ensures.found;
      only = c.in_ok-tree.ensures.only;
      only_fault = c.in_ok-tree.ensures.only_fault;
    } in
    sound-only_refusal c.args.source.now c.in_ok-tree.tree has c.in_ok-judge.ensures.sound

pub returns-in_err-tree-clause-only_tree : goal.returns-in_err-tree-clause-only_tree
returns-in_err-tree-clause-only_tree c =
    syntax-only_tree c.args.source.now c.in_err-tree.field-0.0 c.from_residual.result c.in_err-tree.ensures.only c.from_residual.ensures.1

pub returns-in_err-tree-clause-only_refusal : goal.returns-in_err-tree-clause-only_refusal
returns-in_err-tree-clause-only_refusal c =
    syntax-only_refusal c.args.source.now c.in_err-tree.field-0.0 c.from_residual.result c.in_err-tree.ensures.only c.in_err-tree.ensures.only_fault c.from_residual.ensures.1

pub returns-clause-only_tree : goal.returns-clause-only_tree
returns-clause-only_tree c tree accepted = c.in_ok-tree.ensures.only tree accepted.parsed
