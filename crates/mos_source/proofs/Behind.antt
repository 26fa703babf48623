-- What is left of a production behind its first piece.

use Rattle.std.proofs.Common.{◌≡◌, ℕ, suc, Bool, true, false, ◌||◌, ◌&&◌, List, ◌∷◌, refl, sym, ◌∙◌, subst}
use Rattle.mos_tree.specs.declared.form.PieceKind.{PieceKind}
use Rattle.mos_tree.specs.declared.form.PieceKind.TheVariants as piece_kind
use Rattle.mos_tree.specs.declared.form.PieceForm.{PieceForm}
use Rattle.mos_source.specs.Productions.{Rule, one, block, ◌~◌, ◌or◌, optional, many, statement, statement_is, same, form_at, front, begins, Reading, took, broke, Reads, takes, breaks, opens, opens_not, breaks_first, goes_on, as_first, as_second, as_none, entered, missing, again, no_more, by_name}

pub data Left : Type 0 where
  refused : Left  -- the piece may not stand there
  whole : Left  -- nothing is left
  rest : Rule → Left
  within : Rule → Left  -- the rest of a block
  within_then : Rule → Rule → Left  -- the rest of a block, and what stands behind it

unfoldable pub joined : Rule → Rule → Rule
joined (a ~ b) c = a ~ joined b c
joined a c = a ~ c

unfoldable pub chain : Left → Rule → Left
chain refused b = refused
chain whole b = rest b
chain (rest a) b = rest (joined a b)
chain (within inner) b = within_then inner b
chain (within_then inner a) b = within_then inner (joined a b)

abbrev pub pick : Bool → Left → Left → Left
pick true a b = a
pick false a b = b

abbrev pub skips : Rule → Bool
skips (optional a) = true
skips (many a) = true
skips _ = false

-- what is left, if it is known of statements
abbrev pub behind_if : Left → Rule → PieceKind → Left
behind_if named (one form) x = pick (same form x) whole refused
behind_if named (block form inner) x = pick (same form x) (within inner) refused
behind_if named (a ~ b) x = pick (begins a x) (chain (behind_if named a x) b) (pick (skips a) (behind_if named b x) refused)
behind_if named (a or b) x = pick (begins a x) (behind_if named a x) (pick (begins b x) (behind_if named b x) refused)
behind_if named (optional a) x = pick (begins a x) (behind_if named a x) refused
behind_if named (many a) x = pick (begins a x) (chain (behind_if named a x) (many a)) refused
behind_if named statement x = named

abbrev pub behind : Rule → PieceKind → Left
behind rule x = behind_if (behind_if refused statement_is x) rule x

-- ---- reading on

pub data Then (inner outer : Rule) (depth : ℕ) (xs : List PieceForm) : Reading → Type 0 where
  inside : (left : List PieceForm) → Reads inner (suc depth) xs (broke left) → Then inner outer depth xs (broke left)
  outside : (left : List PieceForm) (end : Reading) → Reads inner (suc depth) xs (took left) → Reads outer depth left end → Then inner outer depth xs end

abbrev pub ReadsLeft : Left → ℕ → List PieceForm → Reading → Type 0
ReadsLeft refused depth xs end = ⊥
ReadsLeft whole depth xs end = end ≡ took xs
ReadsLeft (rest a) depth xs end = Reads a depth xs end
ReadsLeft (within inner) depth xs end = Reads inner (suc depth) xs end
ReadsLeft (within_then inner outer) depth xs end = Then inner outer depth xs end

data Split (t : Left) (b : Rule) (depth : ℕ) (xs : List PieceForm) : Reading → Type 0 where
  stops : (left : List PieceForm) → ReadsLeft t depth xs (broke left) → Split t b depth xs (broke left)
  passes : (left : List PieceForm) (end : Reading) → ReadsLeft t depth xs (took left) → Reads b depth left end → Split t b depth xs end

-- ---- sequences in sequences

regroup-behind : (a b c : Rule) (depth : ℕ) (xs between : List PieceForm) (end : Reading) → Reads a depth xs (took between) → Reads (b ~ c) depth between end → Reads ((a ~ b) ~ c) depth xs end
regroup-behind a b c depth xs between _ r (breaks_first _ _ _ _ left s) = breaks_first (a ~ b) c depth xs left (goes_on a b depth xs between (broke left) r s)
regroup-behind a b c depth xs between end r (goes_on _ _ _ _ next _ s t) = goes_on (a ~ b) c depth xs next end (goes_on a b depth xs between (took next) r s) t

regroup : (a b c d : Rule) (depth : ℕ) (xs : List PieceForm) (end : Reading) → ((ys : List PieceForm) (e : Reading) → Reads d depth ys e → Reads (b ~ c) depth ys e) → Reads (a ~ d) depth xs end → Reads ((a ~ b) ~ c) depth xs end
regroup a b c d depth xs _ go (breaks_first _ _ _ _ left r) = breaks_first (a ~ b) c depth xs left (breaks_first a b depth xs left r)
regroup a b c d depth xs end go (goes_on _ _ _ _ between _ r s) = regroup-behind a b c depth xs between end r (go between end s)

part-joined : (a b : Rule) (depth : ℕ) (xs : List PieceForm) (end : Reading) → Reads (joined a b) depth xs end → Reads (a ~ b) depth xs end
unfolding joined
part-joined (a ~ b) c depth xs end r = regroup a b c (joined b c) depth xs end (λ ys e s. part-joined b c depth ys e s) r
part-joined _ c depth xs end r = r

split-rest : (a b : Rule) (depth : ℕ) (xs : List PieceForm) (end : Reading) → Reads (a ~ b) depth xs end → Split (rest a) b depth xs end
split-rest a b depth xs _ (breaks_first _ _ _ _ left r) = stops left r
split-rest a b depth xs end (goes_on _ _ _ _ between _ r s) = passes between end r s

split-within : (inner b : Rule) (depth : ℕ) (xs : List PieceForm) (end : Reading) → Then inner b depth xs end → Split (within inner) b depth xs end
split-within inner b depth xs _ (inside left r) = stops left r
split-within inner b depth xs end (outside left _ r s) = passes left end r s

split-outer : (inner a b : Rule) (depth : ℕ) (xs between : List PieceForm) (end : Reading) → Reads inner (suc depth) xs (took between) → Reads (a ~ b) depth between end → Split (within_then inner a) b depth xs end
split-outer inner a b depth xs between _ r (breaks_first _ _ _ _ left s) = stops left (outside between (broke left) r s)
split-outer inner a b depth xs between end r (goes_on _ _ _ _ next _ s t) = passes next end (outside between (took next) r s) t

split-within-then : (inner a b : Rule) (depth : ℕ) (xs : List PieceForm) (end : Reading) → Then inner (joined a b) depth xs end → Split (within_then inner a) b depth xs end
split-within-then inner a b depth xs _ (inside left r) = stops left (inside left r)
split-within-then inner a b depth xs end (outside left _ r s) = split-outer inner a b depth xs left end r (part-joined a b depth left end s)

split : (t : Left) (b : Rule) (depth : ℕ) (xs : List PieceForm) (end : Reading) → ReadsLeft (chain t b) depth xs end → Split t b depth xs end
unfolding chain
split refused b depth xs end r = absurd r
split whole b depth xs end r = passes xs end refl r
split (rest a) b depth xs end r = split-rest a b depth xs end (part-joined a b depth xs end r)
split (within inner) b depth xs end r = split-within inner b depth xs end r
split (within_then inner a) b depth xs end r = split-within-then inner a b depth xs end r

-- ---- the piece and what is left

AsStatement : Left → ℕ → PieceForm → List PieceForm → Type 0
AsStatement named depth x xs = (end : Reading) → ReadsLeft named depth xs end → Reads statement depth (x ∷ xs) end

AsPart : Left → Rule → ℕ → PieceForm → List PieceForm → Type 0
AsPart t a depth x xs = (end : Reading) → ReadsLeft t depth xs end → Reads a depth (x ∷ xs) end

skipped : (a : Rule) (depth : ℕ) (pieces : List PieceForm) → skips a ≡ true → begins a (front depth pieces) ≡ false → Reads a depth pieces (took pieces)
skipped (optional a) depth pieces s h = missing a depth pieces h
skipped (many a) depth pieces s h = no_more a depth pieces h
skipped _ depth pieces s h = let no : ⊥ = cc in absurd no

by-one : (test : Bool) (form : PieceKind) (depth : ℕ) (x : PieceForm) (xs : List PieceForm) (end : Reading) → same form (form_at depth x) ≡ test → ReadsLeft (pick test whole refused) depth xs end → Reads (one form) depth (x ∷ xs) end
by-one true form depth x xs end h r = subst (λ z. Reads (one form) depth (x ∷ xs) z) (sym r) (takes form depth x xs h)
by-one false form depth x xs end h r = absurd r

by-block : (test : Bool) (form : PieceKind) (inner : Rule) (depth : ℕ) (x : PieceForm) (xs : List PieceForm) (end : Reading) → same form (form_at depth x) ≡ test → ReadsLeft (pick test (within inner) refused) depth xs end → Reads (block form inner) depth (x ∷ xs) end
by-block true form inner depth x xs end h r = opens form inner depth x xs end h r
by-block false form inner depth x xs end h r = absurd r

by-split : (t : Left) (a b : Rule) (depth : ℕ) (x : PieceForm) (xs : List PieceForm) (end : Reading) → AsPart t a depth x xs → Split t b depth xs end → Reads (a ~ b) depth (x ∷ xs) end
unfolding AsPart
by-split t a b depth x xs _ go (stops left r) = breaks_first a b depth (x ∷ xs) left (go (broke left) r)
by-split t a b depth x xs end go (passes left _ r s) = goes_on a b depth (x ∷ xs) left end (go (took left) r) s

by-second : (skip : Bool) (t : Left) (a b : Rule) (depth : ℕ) (x : PieceForm) (xs : List PieceForm) (end : Reading) → skips a ≡ skip → begins a (form_at depth x) ≡ false → AsPart t b depth x xs → ReadsLeft (pick skip t refused) depth xs end → Reads (a ~ b) depth (x ∷ xs) end
unfolding AsPart
by-second true t a b depth x xs end s h go r = goes_on a b depth (x ∷ xs) (x ∷ xs) end (skipped a depth (x ∷ xs) s h) (go end r)
by-second false t a b depth x xs end s h go r = absurd r

by-sequence : (test : Bool) (t u : Left) (a b : Rule) (depth : ℕ) (x : PieceForm) (xs : List PieceForm) (end : Reading) → begins a (form_at depth x) ≡ test → AsPart t a depth x xs → AsPart u b depth x xs → ReadsLeft (pick test (chain t b) (pick (skips a) u refused)) depth xs end → Reads (a ~ b) depth (x ∷ xs) end
by-sequence true t u a b depth x xs end h go more r = by-split t a b depth x xs end go (split t b depth xs end r)
by-sequence false t u a b depth x xs end h go more r = by-second (skips a) u a b depth x xs end refl h more r

by-second-case : (test : Bool) (t : Left) (a b : Rule) (depth : ℕ) (x : PieceForm) (xs : List PieceForm) (end : Reading) → begins a (form_at depth x) ≡ false → begins b (form_at depth x) ≡ test → AsPart t b depth x xs → ReadsLeft (pick test t refused) depth xs end → Reads (a or b) depth (x ∷ xs) end
unfolding AsPart
by-second-case true t a b depth x xs end h k go r = as_second a b depth (x ∷ xs) end h k (go end r)
by-second-case false t a b depth x xs end h k go r = absurd r

by-case : (test : Bool) (t u : Left) (a b : Rule) (depth : ℕ) (x : PieceForm) (xs : List PieceForm) (end : Reading) → begins a (form_at depth x) ≡ test → AsPart t a depth x xs → AsPart u b depth x xs → ReadsLeft (pick test t (pick (begins b (form_at depth x)) u refused)) depth xs end → Reads (a or b) depth (x ∷ xs) end
unfolding AsPart
by-case true t u a b depth x xs end h go more r = as_first a b depth (x ∷ xs) end h (go end r)
by-case false t u a b depth x xs end h go more r = by-second-case (begins b (form_at depth x)) u a b depth x xs end h refl more r

by-optional : (test : Bool) (t : Left) (a : Rule) (depth : ℕ) (x : PieceForm) (xs : List PieceForm) (end : Reading) → begins a (form_at depth x) ≡ test → AsPart t a depth x xs → ReadsLeft (pick test t refused) depth xs end → Reads (optional a) depth (x ∷ xs) end
unfolding AsPart
by-optional true t a depth x xs end h go r = entered a depth (x ∷ xs) end h (go end r)
by-optional false t a depth x xs end h go r = absurd r

by-many : (test : Bool) (t : Left) (a : Rule) (depth : ℕ) (x : PieceForm) (xs : List PieceForm) (end : Reading) → begins a (form_at depth x) ≡ test → AsPart t a depth x xs → ReadsLeft (pick test (chain t (many a)) refused) depth xs end → Reads (many a) depth (x ∷ xs) end
by-many true t a depth x xs end h go r = again a depth (x ∷ xs) end h (by-split t a (many a) depth x xs end go (split t (many a) depth xs end r))
by-many false t a depth x xs end h go r = absurd r

by-part : (named : Left) (a : Rule) (depth : ℕ) (x : PieceForm) (xs : List PieceForm) → AsStatement named depth x xs → AsPart (behind_if named a (form_at depth x)) a depth x xs
unfolding AsPart AsStatement
by-part named (one form) depth x xs go end r = by-one (same form (form_at depth x)) form depth x xs end refl r
by-part named (block form inner) depth x xs go end r = by-block (same form (form_at depth x)) form inner depth x xs end refl r
by-part named (a ~ b) depth x xs go end r = by-sequence (begins a (form_at depth x)) (behind_if named a (form_at depth x)) (behind_if named b (form_at depth x)) a b depth x xs end refl (by-part named a depth x xs go) (by-part named b depth x xs go) r
by-part named (a or b) depth x xs go end r = by-case (begins a (form_at depth x)) (behind_if named a (form_at depth x)) (behind_if named b (form_at depth x)) a b depth x xs end refl (by-part named a depth x xs go) (by-part named b depth x xs go) r
by-part named (optional a) depth x xs go end r = by-optional (begins a (form_at depth x)) (behind_if named a (form_at depth x)) a depth x xs end refl (by-part named a depth x xs go) r
by-part named (many a) depth x xs go end r = by-many (begins a (form_at depth x)) (behind_if named a (form_at depth x)) a depth x xs end refl (by-part named a depth x xs go) r
by-part named statement depth x xs go end r = go end r

-- a piece that may stand first, and what is left read on
pub read-on : (a : Rule) (depth : ℕ) (x : PieceForm) (xs : List PieceForm) (end : Reading) → ReadsLeft (behind a (form_at depth x)) depth xs end → Reads a depth (x ∷ xs) end
unfolding AsPart AsStatement
read-on a depth x xs end r = by-part (behind_if refused statement_is (form_at depth x)) a depth x xs (λ e s. by_name depth (x ∷ xs) e (by-part refused statement_is depth x xs (λ e2 none. absurd none) e s)) end r

-- ---- a piece that may not stand there

abbrev pub may_begin : Rule → PieceKind → Bool
may_begin (a ~ b) x = may_begin a x || (skips a && may_begin b x)
may_begin a x = begins a x

neither : (a b : Bool) → a || b ≡ false → (a ≡ false) × (b ≡ false)
neither false false h = (refl, refl)
neither false true h = let no : ⊥ = cc in absurd no
neither true b h = let no : ⊥ = cc in absurd no

statement-begins : (x : PieceKind) → begins statement x ≡ begins statement_is x
statement-begins piece_kind.Unknown = refl
statement-begins _ = refl

breaks-case : (a b : Rule) (depth : ℕ) (pieces : List PieceForm) → begins (a or b) (front depth pieces) ≡ false → Reads (a or b) depth pieces (broke pieces)
breaks-case a b depth pieces h =
    let both : (begins a (front depth pieces) ≡ false) × (begins b (front depth pieces) ≡ false) = neither (begins a (front depth pieces)) (begins b (front depth pieces)) h in
    as_none a b depth pieces both.0 both.1

begins-too : (a : Rule) (x : PieceKind) → may_begin a x ≡ false → begins a x ≡ false
begins-too (a ~ b) x h =
    let both : (may_begin a x ≡ false) × (skips a && may_begin b x ≡ false) = neither (may_begin a x) (skips a && may_begin b x) h in
    begins-too a x both.0
begins-too (one form) x h = h
begins-too (block form inner) x h = h
begins-too (a or b) x h = h
begins-too (optional a) x h = h
begins-too (many a) x h = h
begins-too statement x h = h

abbrev pub choose : Bool → Bool → Bool → Bool
choose true a b = a
choose false a b = b

-- some part of the production must take a piece
abbrev pub is_firm : Rule → Bool
is_firm (a ~ b) = choose (skips a) (is_firm b) (is_firm a)
is_firm (optional a) = false
is_firm (many a) = false
is_firm _ = true

Breaking : Rule → ℕ → List PieceForm → Type 0
Breaking a depth pieces = is_firm a ≡ true → may_begin a (front depth pieces) ≡ false → Reads a depth pieces (broke pieces)

breaks-sequence : (skip : Bool) (a b : Rule) (depth : ℕ) (pieces : List PieceForm) → skips a ≡ skip → may_begin a (front depth pieces) ≡ false → skip && may_begin b (front depth pieces) ≡ false → choose skip (is_firm b) (is_firm a) ≡ true → Breaking a depth pieces → Breaking b depth pieces → Reads (a ~ b) depth pieces (broke pieces)
unfolding Breaking
breaks-sequence true a b depth pieces s h k f first second = goes_on a b depth pieces pieces (broke pieces) (skipped a depth pieces s (begins-too a (front depth pieces) h)) (second f k)
breaks-sequence false a b depth pieces s h k f first second = breaks_first a b depth pieces pieces (first f h)

pub read-none : (a : Rule) (depth : ℕ) (pieces : List PieceForm) → is_firm a ≡ true → may_begin a (front depth pieces) ≡ false → Reads a depth pieces (broke pieces)
unfolding Breaking
read-none (one form) depth pieces f h = breaks form depth pieces h
read-none (block form inner) depth pieces f h = opens_not form inner depth pieces h
read-none (a ~ b) depth pieces f h =
    let both : (may_begin a (front depth pieces) ≡ false) × (skips a && may_begin b (front depth pieces) ≡ false) = neither (may_begin a (front depth pieces)) (skips a && may_begin b (front depth pieces)) h in
    breaks-sequence (skips a) a b depth pieces refl both.0 both.1 f (λ g k. read-none a depth pieces g k) (λ g k. read-none b depth pieces g k)
read-none (a or b) depth pieces f h = breaks-case a b depth pieces h
read-none (optional a) depth pieces f h = let no : ⊥ = cc in absurd no
read-none (many a) depth pieces f h = let no : ⊥ = cc in absurd no
read-none statement depth pieces f h = by_name depth pieces (broke pieces) (breaks-case _ _ depth pieces (sym (statement-begins (front depth pieces)) ∙ h))
