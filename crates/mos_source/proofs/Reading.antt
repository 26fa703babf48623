-- Pieces have one tree or one faulty piece.

use Rattle.std.proofs.Common.{◌≡◌, ◌⊎◌, inl, inr, List, [], ◌∷◌, ◌++◌, refl, sym, ◌∙◌, ap, subst}
use Rattle.std.proofs.lemmas.List.{append_assoc, append-nil}
use Rattle.mos_tree.specs.declared.form.PieceForm.{PieceForm}
use Rattle.mos_source.specs.Sources.{Source, tree_of, limit, IsSource}
use Rattle.mos_source.specs.Faults.{Begins, IsStuck, IsFaulty, line_of_first, FaultyOn}
use Rattle.mos_source.specs.Laws.{HaveOneTree, HaveOneFault, HaveNotBoth, HasFault, HaveOneOfBoth}
use Rattle.mos_source.specs.Machine.{Outcome, done, stopped, run}
use Rattle.mos_source.proofs.Steps.{one-end}
use Rattle.mos_source.proofs.CompleteSource.{source-read}
use Rattle.mos_source.proofs.Whole.{Found, run-found, faulty}

-- ---- one tree

pub whole : (pieces : List PieceForm) (x : Source) → IsSource pieces x → run limit [] pieces ≡ done (tree_of x)
whole pieces x is = subst (λ z. run limit [] z ≡ done (tree_of x)) (sym is.exact) (source-read limit x is.within.allowed is.within.fits)

pub one-tree : HaveOneTree
one-tree pieces x y a b =
    let first : run limit [] pieces ≡ done (tree_of x) = whole pieces x a in
    let second : run limit [] pieces ≡ done (tree_of y) = whole pieces y b in
    cc

-- ---- one faulty piece

-- two cuts of a list: at one place, or the second later, or the first
data Cuts : List PieceForm → List PieceForm → List PieceForm → List PieceForm → Type 0 where
  same : (a b c d : List PieceForm) → a ≡ c → Cuts a b c d
  later : (a b c d : List PieceForm) (y : PieceForm) (ys rest : List PieceForm) → c ≡ a ++ y ∷ ys → b ≡ y ∷ rest → Cuts a b c d
  sooner : (a b c d : List PieceForm) (y : PieceForm) (ys rest : List PieceForm) → a ≡ c ++ y ∷ ys → d ≡ y ∷ rest → Cuts a b c d

both-more : (x z : PieceForm) (a b c d : List PieceForm) → x ≡ z → Cuts a b c d → Cuts (x ∷ a) b (z ∷ c) d
both-more x z _ _ _ _ e (same a b c d h) = same (x ∷ a) b (z ∷ c) d (rw (e, h) refl)
both-more x z _ _ _ _ e (later a b c d y ys rest h k) = later (x ∷ a) b (z ∷ c) d y ys rest (rw (e, h) refl) k
both-more x z _ _ _ _ e (sooner a b c d y ys rest h k) = sooner (x ∷ a) b (z ∷ c) d y ys rest (rw (e, h) refl) k

cuts : (a b c d : List PieceForm) → a ++ b ≡ c ++ d → Cuts a b c d
cuts [] b [] d e = same [] b [] d refl
cuts [] b (y ∷ ys) d e = later [] b (y ∷ ys) d y ys (ys ++ d) refl e
cuts (x ∷ xs) b [] d e = sooner (x ∷ xs) b [] d x xs (xs ++ b) refl (sym e)
cuts (x ∷ xs) b (y ∷ ys) d e =
    let head : x ≡ y = cc in
    let tail : xs ++ b ≡ ys ++ d = cc in
    both-more x y xs b ys d head (cuts xs b ys d tail)

-- what begins with more pieces begins with fewer
fewer : (before : List PieceForm) (y : PieceForm) (ys all : List PieceForm) → all ≡ before ++ y ∷ ys → Begins all → Begins (before ++ y ∷ [])
fewer before y ys all e it = record {
  source = it.source;
  within = it.within;
  rest = ys ++ it.rest;
  exact = it.exact ∙ ap (λ z. z ++ it.rest) (e ∙ sym (one-end before y ys)) ∙ append_assoc (before ++ y ∷ []) ys it.rest;
}

stuck-there : (before after : List PieceForm) (y : PieceForm) (rest : List PieceForm) → after ≡ y ∷ rest → IsStuck before after → Begins (before ++ y ∷ []) → ⊥
stuck-there before after y rest e stuck = subst (λ z. IsStuck before z) e stuck

one-of : (before after sooner_ later_ : List PieceForm) → Cuts before after sooner_ later_ → IsFaulty before after → IsFaulty sooner_ later_ → before ≡ sooner_
one-of _ _ _ _ (same a b c d h) f g = h
one-of _ _ _ _ (later a b c d y ys rest h k) f g = absurd (stuck-there a b y rest k f.stuck (fewer a y ys c h g.begun))
one-of _ _ _ _ (sooner a b c d y ys rest h k) f g = absurd (stuck-there c d y rest k g.stuck (fewer c y ys a h f.begun))

pub one-fault : HaveOneFault
one-fault before after sooner_ later_ e f g = one-of before after sooner_ later_ (cuts before after sooner_ later_ e) f g

-- ---- never both, and always one

pub not-both : HaveNotBoth
not-both before [] x is f = f.stuck x is.within (sym is.exact ∙ append-nil before)
not-both before (y ∷ ys) x is f = f.stuck (record { source = x; within = is.within; rest = ys; exact = sym is.exact ∙ sym (one-end before y ys) })

one-or-other : (pieces : List PieceForm) (o : Outcome) → run limit [] pieces ≡ o → ((x : Source) × IsSource pieces x) ⊎ HasFault pieces
one-or-other pieces (done tree) e =
    let it : Found limit pieces tree = run-found limit pieces [] [] tree refl e in
    inl (it.source, record { exact = it.exact; within = it.within })
one-or-other pieces (stopped wrong left) e =
    let it : FaultyOn pieces (line_of_first left) wrong = faulty pieces wrong left e in
    inr (it.before, it.after, it.cut, it.faulty)

pub one-of-both : HaveOneOfBoth
one-of-both pieces = one-or-other pieces (run limit [] pieces) refl
