-- What is written of each kind of thing, and what is said of the words that spell it, are one.

use Rattle.std.proofs.Common.{◌≡◌, ℕ, max, List, Some, Result, Ok, Err, IfOk, refl, ◌∙◌, ap}
use Rattle.mos_tree.specs.declared.expr.Expr.{Expr}
use Rattle.mos_tree.specs.declared.form.Form.{Form}
use Rattle.mos_tree.specs.declared.form.PieceKind.{PieceKind}
use Rattle.mos_tree.specs.Forms.{piece_kind_of}
use Rattle.mos_scan.specs.declared.grammar_word.Word.{Word}
use Rattle.mos_expr.specs.Grammar.{height, heights, tree, trees}
use Rattle.mos_expr.specs.Said.{Spelled, Says}
use Rattle.mos_expr.specs.declared.fault.ExprFault.{ExprFault}
use Rattle.mos_typing.specs.Spellings.{AreIndexesAndValue}
use Rattle.mos_form.specs.Cells.{AreParts, parts_height, parts_trees}
use Rattle.mos_form.specs.Telling.{Writes, TellsOf, refusal}
use Rattle.mos_form.proofs.Telling.{Reads, tell_ok, tell_err}

module _ {S T : Type 0} (Grouped : S → Type 0) (words_of : S → List Word) (tree_of : S → T) (height_of : S → ℕ) (words : List Word) where
  reads : Reads (Writes Grouped words_of words) tree_of height_of (Spelled Grouped words_of tree_of height_of words)
  reads = record {
    into = λ s k. record { written = s; grouped = k.grouped; exact = k.exact; is = refl; high_is = refl };
    back = λ t h k. (k.written, record { grouped = k.grouped; exact = k.exact }, k.is, k.high_is);
  }

  pub spelled_ok : (make : T → Form) (t : T) → Says (Spelled Grouped words_of tree_of height_of words) (Ok t) → TellsOf Grouped words_of tree_of height_of make words (make t)
  spelled_ok make = tell_ok (Writes Grouped words_of words) tree_of height_of (Spelled Grouped words_of tree_of height_of words) reads make

  pub spelled_err : {E : Type 0} (make : T → Form) (kind : PieceKind) → ((t : T) → piece_kind_of (make t) ≡ kind) → (fault : ExprFault) → Says (Spelled Grouped words_of tree_of height_of words) (Err fault)
      → (r : Result Form E) → IfOk r (λ form. Some form ≡ refusal kind fault) → IfOk r (TellsOf Grouped words_of tree_of height_of make words)
  spelled_err make = tell_err (Writes Grouped words_of words) tree_of height_of (Spelled Grouped words_of tree_of height_of words) reads make

-- two trees side by side
both_same : (made : List Expr × Expr) (xs : List Expr) (y : Expr) → made.0 ≡ xs → made.1 ≡ y → made ≡ (xs, y)
both_same (some, one) xs y e f = cc

pub sides_read : (indexes value : List Word) → Reads (AreParts indexes value) parts_trees parts_height (AreIndexesAndValue indexes value)
sides_read indexes value = record {
  into = λ p k. record {
    first_high = heights p.0;
    rest_high = height p.1;
    first_is = record { written = p.0; grouped = k.0.grouped; exact = k.0.exact; is = refl; high_is = refl };
    rest_is = record { written = p.1; grouped = k.1.grouped; exact = k.1.exact; is = refl; high_is = refl };
    high_is = refl;
  };
  back = λ made h k.
      let a = k.first_is in
      let b = k.rest_is in (
        (a.written, b.written),
        (record { grouped = a.grouped; exact = a.exact }, record { grouped = b.grouped; exact = b.exact }),
        both_same made (trees a.written) (tree b.written) a.is b.is,
        k.high_is ∙ ap (λ z. max z k.rest_high) a.high_is ∙ ap (λ z. max (heights a.written) z) b.high_is,
      );
}
