-- A source has one tree or one fault, never both, never neither.

use Rattle.std.proofs.Common.{◌≡◌, ℕ, List, [], ◌∷◌, refl, sym, ◌∙◌, ap, subst, inl, inr}
use Rattle.std.specs.Prelude.{◌⊎◌}
use Rattle.mos_text.specs.declared.kind.Kind.{Kind}
use Rattle.mos_text.specs.declared.kind.Kind.TheVariants as error_kind
use Rattle.mos_tree.specs.declared.source.Tree.{Tree}
use Rattle.mos_tree.specs.declared.form.PieceForm.{PieceForm}
use Rattle.mos_tree.specs.Forms.{piece}
use Rattle.mos_scan.specs.declared.token.Token.{Token}
use Rattle.mos_scan.specs.declared.piece.Piece.{Piece}
use Rattle.mos_scan.specs.Cuts.{line_of}
use Rattle.mos_scan.specs.Laws.{OneTokenList, OneLexicalFault, ListOrFault, SomeListOrFault, OneListOfPieces, SomeListOfPieces}
use Rattle.mos_scan.specs.Pieces.{ArePieces}
use Rattle.mos_scan.specs.Reading.{piece_words}
use Rattle.mos_form.specs.Laws.{NoWordsLackAForm, HaveOneForm}
use Rattle.mos_source.specs.Sources.{Source, IsSource, tree_of}
use Rattle.mos_source.specs.Limits.{broken_kind}
use Rattle.mos_source.specs.Faults.{IsKind, too_early, beyond, misplaced as out_of_place, line_of_first}
use Rattle.mos_source.specs.Laws.{HaveOneTree, HaveOneFault, HaveNotBoth, HaveOneOfBoth, HasFault}
use Rattle.mos_parse.specs.Parsed.{AreForms, no_piece, one_piece, HasForms, IsParsed, IsFaultyLine, IsSyntaxFault, lexical, misplaced}
use Rattle.mos_parse.specs.Laws.{NoSourceHasNeither, NoSourceHasBoth, SourcesHaveOneTree, SourcesHaveOneFault, SourcesHaveOneListOfForms}
use Rattle.mos_parse.proofs.Whole.{never_both, one_line}

-- ---- the forms of a source are determined

same_forms : HaveOneForm → (source : List ℕ) (tokens : List Token) (ps : List Piece) (xs ys : List PieceForm) → AreForms source tokens ps xs → AreForms source tokens ps ys → xs ≡ ys
same_forms law source tokens ps xs ys no_piece no_piece = refl
same_forms law source tokens ps xs ys (one_piece p qs form forms h more) (one_piece _ _ other others k rest) =
    ap (λ z. piece p.line z ∷ forms) (law (piece_words source tokens p) form other h k) ∙ ap (λ z. piece p.line other ∷ z) (same_forms law source tokens qs forms others more rest)

pub one_list_of_forms : HaveOneForm → OneTokenList → OneListOfPieces → SourcesHaveOneListOfForms
one_list_of_forms law tokens pieces source xs ys h k =
    let t : h.tokens ≡ k.tokens = tokens source h.tokens k.tokens h.cut k.cut in
    let p : h.pieces ≡ k.pieces = pieces k.tokens h.pieces k.pieces (subst (λ z. ArePieces z h.pieces) t h.parted) k.parted in
    same_forms law source k.tokens k.pieces xs ys (subst (λ z. AreForms source k.tokens z xs) p (subst (λ z. AreForms source z h.pieces xs) t h.forms_are)) k.forms_are

pub one_tree : SourcesHaveOneListOfForms → HaveOneTree → SourcesHaveOneTree
one_tree forms law source one other h k =
    let same : h.forms ≡ k.forms = forms source h.forms k.forms h.read k.read in
    let x = h.tree_is in
    let y = k.tree_is in
    x.2 ∙ law k.forms x.0 y.0 (subst (λ z. IsSource z x.0) same x.1) y.1 ∙ sym y.2

pub not_both : SourcesHaveOneListOfForms → ListOrFault → HaveNotBoth → NoSourceHasBoth
not_both forms apart law source tree line kind h (lexical column f) = apart source h.read.tokens f.place kind h.read.cut f.fault
not_both forms apart law source tree line kind h (misplaced xs k f) =
    let same : xs ≡ h.forms = forms source xs h.forms k h.read in
    never_both law source h.forms tree line kind h.tree_is (subst (λ z. IsFaultyLine source z line kind) same f)

pub one_fault : SourcesHaveOneListOfForms → OneLexicalFault → ListOrFault → HaveOneFault → SourcesHaveOneFault
one_fault forms first apart law source line at kind what (lexical c f) (lexical d g) =
    let q = first source f.place g.place kind what f.fault g.fault in
    (f.line_is ∙ ap (λ z. line_of source z) q.0 ∙ sym g.line_is, q.1)
one_fault forms first apart law source line at kind what (lexical c f) (misplaced ys k g) = absurd (apart source k.tokens f.place kind k.cut f.fault)
one_fault forms first apart law source line at kind what (misplaced xs h f) (lexical d g) = absurd (apart source h.tokens g.place what h.cut g.fault)
one_fault forms first apart law source line at kind what (misplaced xs h f) (misplaced ys k g) =
    let same : xs ≡ ys = forms source xs ys h k in
    let q = one_line law source ys line at kind what (subst (λ z. IsFaultyLine source z line kind) same f) g in
    (sym q.0, sym q.1)

-- ---- a source has a tree or a fault

some_forms : NoWordsLackAForm → (source : List ℕ) (tokens : List Token) (ps : List Piece) → ((xs : List PieceForm) → AreForms source tokens ps xs → ⊥) → ⊥
some_forms law source tokens [] none = none [] no_piece
some_forms law source tokens (p ∷ ps) none = some_forms law source tokens ps (λ xs more. law (piece_words source tokens p) (λ form h. none (piece p.line form ∷ xs) (one_piece p ps form xs h more)))

some_kind : (before after : List PieceForm) → ((kind : Kind) → IsKind before after kind → ⊥) → ⊥
some_kind before [] none = none error_kind.Syntax too_early
some_kind before (x ∷ after) none = none error_kind.Syntax (out_of_place x after (λ could. none (broken_kind x.form) (beyond x after could)))

neither : SomeListOrFault → SomeListOfPieces → NoWordsLackAForm → HaveOneOfBoth → (source : List ℕ) → ((tree : Tree) → IsParsed source tree → ⊥) → ((line : ℕ) (kind : Kind) → IsSyntaxFault source line kind → ⊥) → ⊥
neither scanned cut law both source no_tree no_fault =
    elim (scanned source) [
      | inl found ↦ (let ps = cut found.0 in
          some_forms law source found.0 ps.0
          (λ forms are. of_forms forms (record { tokens = found.0; cut = found.1; pieces = ps.0; parted = ps.1; forms_are = are }) (both forms)))
      | inr fault ↦ no_fault _ fault.1 (lexical _ (record { place = fault.0; fault = fault.2; line_is = refl; column_is = refl }))
    ]
  where
    of_forms : (forms : List PieceForm) → HasForms source forms → ((x : Source) × IsSource forms x) ⊎ HasFault forms → ⊥
    of_forms forms read (inl x) = no_tree (tree_of x.0) (record { forms = forms; read = read; tree_is = (x.0, x.1, refl) })
    of_forms forms read (inr f) = some_kind f.0 f.1
        (λ kind named. no_fault _ kind (misplaced forms read (record {
          at = line_of_first f.1;
          faulty = record { before = f.0; after = f.1; cut = f.2; line_is = refl; faulty = f.3; named = named };
          line_is = refl;
        })))

pub not_neither : SomeListOrFault → SomeListOfPieces → NoWordsLackAForm → HaveOneOfBoth → NoSourceHasNeither
not_neither scanned cut law both = neither scanned cut law both
