-- A production reads pieces in one way.

use Rattle.std.proofs.Common.{◌≡◌, ℕ, suc, Bool, true, false, List, ◌∷◌, refl, sym, subst}
use Rattle.mos_tree.specs.declared.form.PieceKind.{PieceKind}
use Rattle.mos_tree.specs.declared.form.PieceKind.TheVariants as piece_kind
use Rattle.mos_tree.specs.declared.form.PieceForm.{PieceForm}
use Rattle.mos_source.specs.Laws.{AlternativesDiffer}
use Rattle.mos_source.specs.Productions.{Rule, one, block, ◌~◌, ◌or◌, optional, many, statement, statement_is, same, form_at, front, begins, Reading, took, broke, Reads, takes, breaks, opens, opens_not, breaks_first, goes_on, as_first, as_second, as_none, entered, missing, again, no_more, by_name}

pub alternatives-differ : AlternativesDiffer
alternatives-differ piece_kind.Unknown = (refl, refl)
alternatives-differ _ = (refl, refl)

pub never : (b : Bool) → b ≡ true → b ≡ false → ⊥
never b t f = cc

pub took-broke : (xs ys : List PieceForm) → took xs ≡ broke ys → ⊥
took-broke xs ys e = cc

pub took-same : (xs ys : List PieceForm) → took xs ≡ took ys → xs ≡ ys
took-same xs ys e = cc

-- the other reading, form by form, from what is known of the parts
Same : Rule → ℕ → List PieceForm → Reading → Type 0
Same rule depth pieces end = (other : Reading) → Reads rule depth pieces other → end ≡ other

of-takes : (form : PieceKind) (depth : ℕ) (x : PieceForm) (xs : List PieceForm) (other : Reading) → same form (form_at depth x) ≡ true → Reads (one form) depth (x ∷ xs) other → took xs ≡ other
of-takes form depth x xs _ h (takes _ _ _ _ g) = refl
of-takes form depth x xs _ h (breaks _ _ _ g) = absurd (never (same form (form_at depth x)) h g)

of-breaks : (form : PieceKind) (depth : ℕ) (pieces : List PieceForm) (other : Reading) → same form (front depth pieces) ≡ false → Reads (one form) depth pieces other → broke pieces ≡ other
of-breaks form depth _ _ h (takes _ _ x xs g) = absurd (never (same form (form_at depth x)) g h)
of-breaks form depth pieces _ h (breaks _ _ _ g) = refl

of-opens : (form : PieceKind) (rest : Rule) (depth : ℕ) (x : PieceForm) (xs : List PieceForm) (end other : Reading) → same form (form_at depth x) ≡ true → Same rest (suc depth) xs end → Reads (block form rest) depth (x ∷ xs) other → end ≡ other
unfolding Same
of-opens form rest depth x xs end other h go (opens _ _ _ _ _ _ g r) = go other r
of-opens form rest depth x xs end _ h go (opens_not _ _ _ _ g) = absurd (never (same form (form_at depth x)) h g)

of-opens-not : (form : PieceKind) (rest : Rule) (depth : ℕ) (pieces : List PieceForm) (other : Reading) → same form (front depth pieces) ≡ false → Reads (block form rest) depth pieces other → broke pieces ≡ other
of-opens-not form rest depth _ other h (opens _ _ _ x xs _ g r) = absurd (never (same form (form_at depth x)) g h)
of-opens-not form rest depth pieces _ h (opens_not _ _ _ _ g) = refl

of-breaks-first : (a b : Rule) (depth : ℕ) (pieces left : List PieceForm) (other : Reading) → Same a depth pieces (broke left) → Reads (a ~ b) depth pieces other → broke left ≡ other
unfolding Same
of-breaks-first a b depth pieces left _ go (breaks_first _ _ _ _ other r) = go (broke other) r
of-breaks-first a b depth pieces left other go (goes_on _ _ _ _ between _ r s) = absurd (took-broke between left (sym (go (took between) r)))

of-goes-on : (a b : Rule) (depth : ℕ) (pieces between : List PieceForm) (end other : Reading) → Same a depth pieces (took between) → Same b depth between end → Reads (a ~ b) depth pieces other → end ≡ other
unfolding Same
of-goes-on a b depth pieces between end _ go more (breaks_first _ _ _ _ left r) = absurd (took-broke between left (go (broke left) r))
of-goes-on a b depth pieces between end other go more (goes_on _ _ _ _ mine _ r s) = more other (subst (λ z. Reads b depth z other) (sym (took-same between mine (go (took mine) r))) s)

of-first : (a b : Rule) (depth : ℕ) (pieces : List PieceForm) (end other : Reading) → begins a (front depth pieces) ≡ true → Same a depth pieces end → Reads (a or b) depth pieces other → end ≡ other
unfolding Same
of-first a b depth pieces end other h go (as_first _ _ _ _ _ g r) = go other r
of-first a b depth pieces end other h go (as_second _ _ _ _ _ g k r) = absurd (never (begins a (front depth pieces)) h g)
of-first a b depth pieces end _ h go (as_none _ _ _ _ g k) = absurd (never (begins a (front depth pieces)) h g)

of-second : (a b : Rule) (depth : ℕ) (pieces : List PieceForm) (end other : Reading) → begins a (front depth pieces) ≡ false → begins b (front depth pieces) ≡ true → Same b depth pieces end → Reads (a or b) depth pieces other → end ≡ other
unfolding Same
of-second a b depth pieces end other h t go (as_first _ _ _ _ _ g r) = absurd (never (begins a (front depth pieces)) g h)
of-second a b depth pieces end other h t go (as_second _ _ _ _ _ g k r) = go other r
of-second a b depth pieces end _ h t go (as_none _ _ _ _ g k) = absurd (never (begins b (front depth pieces)) t k)

of-none : (a b : Rule) (depth : ℕ) (pieces : List PieceForm) (other : Reading) → begins a (front depth pieces) ≡ false → begins b (front depth pieces) ≡ false → Reads (a or b) depth pieces other → broke pieces ≡ other
of-none a b depth pieces other h t (as_first _ _ _ _ _ g r) = absurd (never (begins a (front depth pieces)) g h)
of-none a b depth pieces other h t (as_second _ _ _ _ _ g k r) = absurd (never (begins b (front depth pieces)) k t)
of-none a b depth pieces _ h t (as_none _ _ _ _ g k) = refl

of-entered : (a : Rule) (depth : ℕ) (pieces : List PieceForm) (end other : Reading) → begins a (front depth pieces) ≡ true → Same a depth pieces end → Reads (optional a) depth pieces other → end ≡ other
unfolding Same
of-entered a depth pieces end other h go (entered _ _ _ _ g r) = go other r
of-entered a depth pieces end _ h go (missing _ _ _ g) = absurd (never (begins a (front depth pieces)) h g)

of-missing : (a : Rule) (depth : ℕ) (pieces : List PieceForm) (other : Reading) → begins a (front depth pieces) ≡ false → Reads (optional a) depth pieces other → took pieces ≡ other
of-missing a depth pieces other h (entered _ _ _ _ g r) = absurd (never (begins a (front depth pieces)) g h)
of-missing a depth pieces _ h (missing _ _ _ g) = refl

of-again : (a : Rule) (depth : ℕ) (pieces : List PieceForm) (end other : Reading) → begins a (front depth pieces) ≡ true → Same (a ~ many a) depth pieces end → Reads (many a) depth pieces other → end ≡ other
unfolding Same
of-again a depth pieces end other h go (again _ _ _ _ g r) = go other r
of-again a depth pieces end _ h go (no_more _ _ _ g) = absurd (never (begins a (front depth pieces)) h g)

of-no-more : (a : Rule) (depth : ℕ) (pieces : List PieceForm) (other : Reading) → begins a (front depth pieces) ≡ false → Reads (many a) depth pieces other → took pieces ≡ other
of-no-more a depth pieces other h (again _ _ _ _ g r) = absurd (never (begins a (front depth pieces)) g h)
of-no-more a depth pieces _ h (no_more _ _ _ g) = refl

of-name : (depth : ℕ) (pieces : List PieceForm) (end other : Reading) → Same statement_is depth pieces end → Reads statement depth pieces other → end ≡ other
unfolding Same
of-name depth pieces end other go (by_name _ _ _ r) = go other r

pub one-way : (rule : Rule) (depth : ℕ) (pieces : List PieceForm) (end other : Reading) → Reads rule depth pieces end → Reads rule depth pieces other → end ≡ other
unfolding Same
one-way _ _ _ _ other (takes form depth x xs h) s = of-takes form depth x xs other h s
one-way _ _ _ _ other (breaks form depth pieces h) s = of-breaks form depth pieces other h s
one-way _ _ _ _ other (opens form rest depth x xs end h r) s = of-opens form rest depth x xs end other h (λ o t. one-way rest (suc depth) xs end o r t) s
one-way _ _ _ _ other (opens_not form rest depth pieces h) s = of-opens-not form rest depth pieces other h s
one-way _ _ _ _ other (breaks_first a b depth pieces left r) s = of-breaks-first a b depth pieces left other (λ o t. one-way a depth pieces (broke left) o r t) s
one-way _ _ _ _ other (goes_on a b depth pieces between end r q) s = of-goes-on a b depth pieces between end other (λ o t. one-way a depth pieces (took between) o r t) (λ o t. one-way b depth between end o q t) s
one-way _ _ _ _ other (as_first a b depth pieces end h r) s = of-first a b depth pieces end other h (λ o t. one-way a depth pieces end o r t) s
one-way _ _ _ _ other (as_second a b depth pieces end h k r) s = of-second a b depth pieces end other h k (λ o t. one-way b depth pieces end o r t) s
one-way _ _ _ _ other (as_none a b depth pieces h k) s = of-none a b depth pieces other h k s
one-way _ _ _ _ other (entered a depth pieces end h r) s = of-entered a depth pieces end other h (λ o t. one-way a depth pieces end o r t) s
one-way _ _ _ _ other (missing a depth pieces h) s = of-missing a depth pieces other h s
one-way _ _ _ _ other (again a depth pieces end h r) s = of-again a depth pieces end other h (λ o t. one-way (a ~ many a) depth pieces end o r t) s
one-way _ _ _ _ other (no_more a depth pieces h) s = of-no-more a depth pieces other h s
one-way _ _ _ _ other (by_name depth pieces end r) s = of-name depth pieces end other (λ o t. one-way statement_is depth pieces end o r t) s
