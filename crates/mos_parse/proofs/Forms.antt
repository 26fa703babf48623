-- The forms of pieces, one after the other.

use Rattle.std.proofs.Common.{◌≡◌, ℕ, suc, ◌≤◌, List, [], ◌∷◌, ◌++◌, refl, sym, ◌∙◌, ap, subst, arith, append_assoc, append-nil, ◌+◌, ◌<◌, drop, get_or, length}
use Rattle.std.proofs.Math.Seq.{drop-cons}
use Rattle.std.proofs.lemmas.List.Sums.{sum-map, sum_by_push}
use Rattle.mos_tree.specs.declared.form.Form.{Form}
use Rattle.mos_tree.specs.declared.form.PieceForm.{PieceForm}
use Rattle.mos_tree.specs.Forms.{piece}
use Rattle.mos_tree.specs.Sizes.{size_of_form, size_of_pieces}
use Rattle.mos_scan.specs.declared.token.Token.{Token}
use Rattle.mos_scan.specs.declared.piece.Piece.{Piece}
use Rattle.mos_scan.specs.declared.grammar_word.Word.{Word}
use Rattle.mos_scan.specs.Reading.{piece_words, count_of_words}
use Rattle.mos_form.specs.Phrases.{IsFormOf}
use Rattle.mos_parse.specs.Parsed.{AreForms, no_piece, one_piece}
use Rattle.mos_parse.specs.Steps.{IsFormAt, HaveForms}

-- the form that is read of the words of a piece is that of the piece
pub form_at : (source : List ℕ) (tokens : List Token) (p : Piece) (words : List Word) (f : Form) → words ≡ piece_words source tokens p → IsFormOf words f → size_of_form f ≤ length words
    → IsFormAt source tokens p (piece p.line f)
form_at source tokens p words f e found small = record { at_line = refl; form = subst (λ z. IsFormOf z f) e found; small = subst (λ z. size_of_form f ≤ length z) e small }

-- the first forms of pieces, when these pieces are left
pub record Done (source : List ℕ) (tokens : List Token) (ps left : List Piece) (done : List PieceForm) : Type 0 where
  pub are : (rest : List PieceForm) → AreForms source tokens left rest → AreForms source tokens ps (done ++ rest)
  pub small : size_of_pieces done + count_of_words source tokens left ≤ count_of_words source tokens ps

-- one form more
sizes_push : (done : List PieceForm) (x : PieceForm) → size_of_pieces (done ++ x ∷ []) ≡ size_of_pieces done + size_of_form x.form
sizes_push done x =
    let f : PieceForm → ℕ = λ y. size_of_form y.form in
    sum-map f (done ++ x ∷ []) ∙ sum_by_push f done x ∙ ap (λ n. n + size_of_form x.form) (sym (sum-map f done))

-- one piece more has its form
pub done_one : (source : List ℕ) (tokens : List Token) (ps qs : List Piece) (p : Piece) (done : List PieceForm) (x : PieceForm) → Done source tokens ps (p ∷ qs) done → IsFormAt source tokens p x
    → Done source tokens ps qs (done ++ x ∷ [])
done_one source tokens ps qs p done x d h = record {
  are = λ rest r.
      let next : AreForms source tokens (p ∷ qs) (x ∷ rest) = subst (λ z. AreForms source tokens (p ∷ qs) (z ∷ rest)) (sym h.at_line) (one_piece p qs x.form rest h.form r) in
      subst (λ z. AreForms source tokens ps z) (sym (append_assoc done (x ∷ []) rest)) (d.are (x ∷ rest) next);
  small = omega (arith, d.small, h.small, sizes_push done x);
}

-- behind all pieces all forms are there
pub done_all : (source : List ℕ) (tokens : List Token) (ps : List Piece) (done : List PieceForm) → Done source tokens ps [] done → HaveForms source tokens ps done
done_all source tokens ps done d = record {
  are = subst (λ z. AreForms source tokens ps z) (append-nil done) (d.are [] no_piece);
  small = omega (arith, d.small);
}

-- the pieces that are left begin with the next one
pub next_piece : (ps : List Piece) (i : ℕ) (d : Piece) → i < length ps → drop i ps ≡ get_or ps i d ∷ drop (i + 1) ps
next_piece ps i d h =
    let next : suc i ≡ i + 1 = omega arith in
    drop-cons ps i d h ∙ ap (λ z. get_or ps i d ∷ drop z ps) next
